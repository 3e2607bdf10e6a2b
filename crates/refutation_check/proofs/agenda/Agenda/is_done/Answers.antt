use Rattle.std.proofs.Common.{◌≡◌, [], reverse, ap, length, arith, rules}
use Rattle.std.proofs.lemmas.Bool.Decides.{nat_tests}
use Rattle.std.proofs.lemmas.List.{nil_from_length}
use Rattle.refutation_check.specs.Agenda.{starts}
use Rattle.refutation_check.proofs.Stepping.{done}
use Rattle.refutation_check.proofs.agenda.Agenda.is_done.Goals as goal

pub returns : goal.returns
returns c =
    let agenda = c.args.self.now in (
      λ yes.
          let zero : length agenda.alternatives.items ≡ 0 = grind (arith, nat_tests) in
          let none : agenda.alternatives.items ≡ [] = nil_from_length agenda.alternatives.items zero in
          ap (λ xs. starts agenda.gathered.items (reverse xs)) none,
      λ h.
          let none : agenda.alternatives.items ≡ [] = done agenda.gathered.items agenda.alternatives.items h in
          search rules,
    )
