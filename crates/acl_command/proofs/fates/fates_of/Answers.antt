use Rattle.acl_command.proofs.Each as fates
use Rattle.acl_command.proofs.fates.fates_of.Goals as goal

pub loop-rule-preserved : goal.loop-rule-preserved
loop-rule-preserved c =
    let rules = c.args.acl.now in
    let many = c.loop-rule.invariant.as_many in
    record {
      as_many = fates.as_many rules c.push.new.self.items c.loop-rule.fates.items c.in_ok-fate.field-0 c.loop-rule.rule c.in_ok-push.ensures.items many;
      each = fates.each rules c.push.new.self.items c.loop-rule.fates.items c.in_ok-fate.field-0 c.loop-rule.rule c.in_ok-push.ensures.items many
          c.loop-rule.invariant.each c.in_ok-fate.ensures;
    }
