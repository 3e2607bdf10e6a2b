use Rattle.std.proofs.Common.{true≢false, sym, refl}
use Rattle.lin_term.specs.Terms.{IsReduced}
use Rattle.lin_term.proofs.ReducedTests.{is_reduced_term, is_no_reduced_term}
use Rattle.lin_term.proofs.term.Term.of_parts.Goals as goal

pub returns-then-not-is_reduced-clause-reduced : goal.returns-then-not-is_reduced-clause-reduced
returns-then-not-is_reduced-clause-reduced c =
    (λ e. absurd (true≢false (sym e)), λ h. absurd (is_no_reduced_term c.args.width c.args.constant c.args.parts.items c.deref.result.now c.is_reduced.result c.deref.ensures.value c.is_reduced.ensures c.if-not-is_reduced.true h))

reduced : (c : goal.After-from_vec) → IsReduced (record { width = c.args.width; constant = c.args.constant; parts = c.args.parts.items })
reduced c =
    is_reduced_term c.args.width c.args.constant c.args.parts.items c.deref.result.now c.is_reduced.result c.deref.ensures.value c.is_reduced.ensures c.if-not-is_reduced.false

pub invariant_of-result : goal.invariant_of-result
invariant_of-result c = rw c.from_vec.ensures (reduced c)

pub returns-clause-reduced : goal.returns-clause-reduced
returns-clause-reduced c = (λ _. reduced c, λ _. refl)
