use Rattle.std.proofs.Common.{sym, ◌∙◌}
use Rattle.net_check.proofs.Naming.{entered, kept}
use Rattle.net_check.proofs.names.enter_name.Goals as goal

pub returns-then-contains_key : goal.returns-then-contains_key
returns-then-contains_key c = kept c.args.ids.now.entries c.args.name.now c.args.id (sym c.contains_key.ensures ∙ c.if-contains_key.true)

pub returns : goal.returns
returns c =
    entered c.args.ids.now.entries c.insert.new.self.entries c.args.name.now c.args.id c.in_ok-own.own c.in_ok-own.ensures.cases
    (sym c.contains_key.ensures ∙ c.if-contains_key.false) c.in_ok-insert.ensures.updates.0
