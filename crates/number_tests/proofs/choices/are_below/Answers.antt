use Rattle.std.proofs.Common.{◌≡◌, ℕ, ◌+◌, inl, inr, arith, sym, subst}
use Rattle.std.proofs.lemmas.Bool.{cases_lt}
use Rattle.difference_solver.specs.Choices.{lists_of, OneHasBelow}
use Rattle.number_tests.proofs.choices.are_below.Goals as goal

pub loop-unknown-preserved : goal.loop-unknown-preserved
loop-unknown-preserved c = λ u above within.
    elim (cases_lt u (c.loop-unknown.unknown + 1)) [
      | inl before ↦ c.loop-unknown.invariant u above (omega arith)
      | inr here ↦
          let same : u ≡ c.loop-unknown.unknown + 1 = omega arith in
          subst (λ (n : ℕ). OneHasBelow n (lists_of c.args.choices.now)) (sym same) (c.one_has_below.ensures c.if-not-one_has_below.false)
    ]

pub returns : goal.returns
returns c = λ _ u above within. c.loop-unknown.invariant u above (omega arith)
