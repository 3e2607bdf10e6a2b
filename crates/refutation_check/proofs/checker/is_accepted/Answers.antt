use Rattle.std.proofs.Common.{◌≡◌, ◌+◌, ◌-◌, ◌≤◌, ◌∷◌, List, true, drop, length, arith, sym, ap, ◌∙◌, rules}
use Rattle.std.proofs.lemmas.List.{drop_more, length-drop}
use Rattle.path_formula.specs.Bounds.{Case}
use Rattle.refutation_check.specs.Accepted.{Advances, IsAccepted}
use Rattle.refutation_check.specs.Agenda.{pending}
use Rattle.refutation_check.proofs.Stepping.{refutes_next, refutes_not}
use Rattle.refutation_check.proofs.Walking.{answer_no}
use Rattle.refutation_check.proofs.checker.is_accepted.Goals as goal

pub returns-then-not-branch : goal.returns-then-not-branch
returns-then-not-branch c =
    let l = c.loop-step in
    let steps = c.as_slice-step-items.result.now in
    let step = c.step-item.result in
    let rest = drop (l.step-index + 1) steps in
    let here : drop l.step-index steps ≡ step ∷ rest = drop_more steps l.step-index step c.loop-step-test.true ∙ ap (λ s. s ∷ rest) (sym c.step-item.is) in
    let not : (after : List Case) → Advances c.args.cond.now (pending l.agenda) step after → length after ≤ l.left - 1 → ⊥ = search rules in
    let count : length rest ≡ l.left - 1 = omega (arith, length-drop (l.step-index + 1) steps, l.invariant.left) in
    answer_no (IsAccepted c.args.cond.now c.args.refutation.now) (λ h. refutes_not c.args.cond.now (pending l.agenda) step (drop l.step-index steps) rest (l.left - 1) here count not (l.invariant.rest.0 h))

pub loop-step-preserved : goal.loop-step-preserved
loop-step-preserved c =
    let l = c.loop-step in
    let steps = c.as_slice-step-items.result.now in
    let step = c.step-item.result in
    let rest = drop (l.step-index + 1) steps in
    let here : drop l.step-index steps ≡ step ∷ rest = drop_more steps l.step-index step c.loop-step-test.true ∙ ap (λ s. s ∷ rest) (sym c.step-item.is) in
    let yes : c.in_ok-advance.field-0 ≡ true = search rules in
    let advances : Advances c.args.cond.now (pending l.agenda) step (pending c.advance.new.self) = search rules in
    let next = refutes_next c.args.cond.now (pending l.agenda) (pending c.advance.new.self) step (drop l.step-index steps) rest here advances in
    record {
      rest = (λ h. next.0 (l.invariant.rest.0 h), λ h. l.invariant.rest.1 (next.1 h));
      nested = c.in_ok-advance.ensures.nested yes;
      left = omega (arith, l.invariant.left, c.loop-step-test.true);
    }
