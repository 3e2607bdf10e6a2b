use Rattle.std.proofs.Common.{◌≡◌, None, refl, sym, ap, ◌∙◌, rules}
use Rattle.std.specs.Prelude.{reverse}
use Rattle.std.proofs.lemmas.List.{reverse-reverse}
use Rattle.path_cond.specs.Conditions.{first_broken, simple_picks}
use Rattle.interval_solver.specs.declared.decide.SimpleVerdict.TheVariants.{False, Empty}
use Rattle.interval_solver.proofs.Deciding.{first_without}
use Rattle.interval_solver.proofs.Firsts.{first_found}
use Rattle.interval_solver.proofs.decide.decide_simple.Goals as goal

pub returns-in-Some-clause-refuted : goal.returns-in-Some-clause-refuted
returns-in-Some-clause-refuted c = λ _ values fits.
    c.a_verdict_refutes.ensures c.args.cond.now (False c.in-Some.pick) values (sym c.in-Some.ensures) refl fits

pub returns-in_ok-picks-in-Some-first_empty-clause-verdict :
    goal.returns-in_ok-picks-in-Some-first_empty-clause-verdict
returns-in_ok-picks-in-Some-first_empty-clause-verdict c =
    let path = c.args.cond.now in
    let sets = c.args.domains.now in
    let s = c.in-Some-first_empty.symbol in
    let none : first_broken path ≡ None = search rules in (
      none,
      first_without path sets c.requires s (first_found sets s.0 (sym c.in-Some-first_empty.ensures)),
      c.in_ok-picks-in-Some-first_empty.ensures ∙ ap reverse c.simple_picks.ensures ∙ reverse-reverse (simple_picks s path),
    )

pub returns-in_ok-picks-in-Some-first_empty-clause-refuted :
    goal.returns-in_ok-picks-in-Some-first_empty-clause-refuted
returns-in_ok-picks-in-Some-first_empty-clause-refuted c = λ _ values fits.
    let verdict = Empty c.in-Some-first_empty.symbol c.in_ok-picks-in-Some-first_empty.picks in
    c.a_verdict_refutes.ensures c.args.cond.now verdict values (returns-in_ok-picks-in-Some-first_empty-clause-verdict c) refl fits
