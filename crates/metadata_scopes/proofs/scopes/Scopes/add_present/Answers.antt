use Rattle.std.proofs.Common.{ap, ◌∙◌}
use Rattle.metadata_scopes.proofs.SnapshotLemmas.{kept_next, left_next}
use Rattle.metadata_scopes.proofs.scopes.Scopes.add_present.Goals as goal
use Rattle.metadata_scopes.proofs.scopes.Scopes.add_present.Goals.{then-has+in_ok-push, else-has}

pub loop-name-preserved : goal.loop-name-preserved
loop-name-preserved g c =
    elim c.if-has.branch [
      | then-has+in_ok-push w ↦
          kept_next c.args.owner c.args.self.now c.args.names.now c.loop-name.name-index (record { 0 = 0 }) c.loop-name-test.true c.self.inside.cells c.has.result c.self.view_is c.has.ensures c.loop-name.keys.items c.if-has.keys.items _ c.loop-name.invariant
          w.if-has.true (ap (λ keys. keys.items) w.keys-is ∙ w.in_ok-push.ensures.items)
      | else-has w ↦
          left_next c.args.owner c.args.self.now c.args.names.now c.loop-name.name-index (record { 0 = 0 }) c.loop-name-test.true c.self.inside.cells c.has.result c.self.view_is c.has.ensures c.loop-name.keys.items c.if-has.keys.items _ c.loop-name.invariant
          w.if-has.false (ap (λ keys. keys.items) w.keys-is)
    ]
