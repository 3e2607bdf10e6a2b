use Rattle.std.proofs.Common.{◌≡◌, ◌+◌, ◌++◌, ◌↔◌, [], ◌∷◌, IfOk, IsTrue, List, refl, rules, sym, subst, option_map}
use Rattle.sefl_meaning.specs.declared.walk.Decision.{Decision}
use Rattle.sefl_meaning.specs.declared.walk.Decision.TheVariants.{Copy}
use Rattle.record_checks.specs.Stops.{LeadsOn, LeadsTo}
use Rattle.whole_checks.specs.Chains.{IsLast}
use Rattle.whole_checks.proofs.Joined.{not_so}
use Rattle.whole_checks.proofs.Settled.{copy_last, copy_later}
use Rattle.whole_checks.proofs.settling.is_last_copy.Goals.{in-None, in-Some-2}
use Rattle.whole_checks.proofs.settling.is_last_copy.Goals as goal

pub returns : goal.returns
returns g c =
    let s = g.G.Guide.start in
    let seen = g.G.Guide.seen in
    let number = c.args.number in
    let next = c.in-Some.next in
    let is : next ≡ number + 1 = search rules in
    elim c.match-branch-2.branch [
      | in-None w ↦
          subst (λ r. IfOk r (λ so. (p : List Decision) → LeadsTo s p (seen c.args.stop.now) → (IsTrue so ↔ IsLast s p (Copy number)))) (sym w.result-is)
          (λ p leads. (λ _. copy_last s p number next is (subst (λ o. LeadsOn s (p ++ Copy next ∷ []) (option_map seen o)) w.in-None.is (c.in_ok-behind.ensures p leads)), λ last. refl))
      | in-Some-2 w ↦
          subst (λ r. IfOk r (λ so. (p : List Decision) → LeadsTo s p (seen c.args.stop.now) → (IsTrue so ↔ IsLast s p (Copy number)))) (sym w.result-is)
          (λ p leads.
          let there = subst (λ o. LeadsOn s (p ++ Copy next ∷ []) (option_map seen o)) w.in-Some-2.is (c.in_ok-behind.ensures p leads) in
          (not_so, λ last. absurd (copy_later s p number next is (there.way, there.leads) last)))
    ]
