use Rattle.std.proofs.Common.{◌<◌, length, sym, subst}
use Rattle.interval_solver.specs.Numbered.{values_of}
use Rattle.interval_solver.proofs.Places.{is_numbered_with}
use Rattle.interval_solver.proofs.sets.Sets.with.Goals as goal

pub invariant_of-result : goal.invariant_of-result
invariant_of-result c =
    let old = c.self.inside in
    let within : c.args.place < length (values_of old.members) = subst (λ sets. c.args.place < length sets) (sym c.self.view_is) c.requires in
    is_numbered_with old.members c.in-Ok.members old.len c.args.place c.args.set c.self.invariant within c.in-Ok.ensures.put
