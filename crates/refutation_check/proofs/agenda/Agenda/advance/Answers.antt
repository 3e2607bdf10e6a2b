use Rattle.std.proofs.Common.{◌≡◌, ◌++◌, ◌∷◌, [], map, reverse, length, take, sym, subst, rules, List, ◌≤◌, ◌<◌, ◌+◌, ◌-◌}
use Rattle.path_formula.specs.Bounds.{Case, lists_of}
use Rattle.refutation_check.specs.Accepted.{Leaves}
use Rattle.refutation_check.specs.Agenda.{starts, alternative_with}
use Rattle.refutation_check.proofs.Stepping.{Kept, divided, no_room, not_divided}
use Rattle.refutation_check.proofs.agenda.Agenda.advance.Goals as goal

pub returns-clause-advances : goal.returns-clause-advances
returns-clause-advances c =
    let old = c.args.self.now in
    let new = c.push_cases.new.self in
    let mid = c.begin.new.self in
    let a = c.in-Some.alternative in
    let rest = c.pop.new.self.items in
    let cases = c.in-Some-2.cases.items in
    let is : old.alternatives.items ≡ rest ++ a ∷ [] = search rules in
    let begun : mid.gathered.items ≡ take a.kept old.gathered.items ++ a.case.items = search rules in
    let kept : new.gathered.items ≡ mid.gathered.items = search rules in
    let leaves : Leaves c.args.cond.now mid.gathered.items c.args.step.now (lists_of cases) = search rules in
    let pushed : reverse new.alternatives.items ≡ map (alternative_with (length mid.gathered.items)) cases ++ reverse rest = search rules in
    let all = divided c.args.cond.now c.args.step.now old.gathered.items old.alternatives.items rest a mid.gathered.items cases new.alternatives.items is c.requires begun leaves pushed in
    (subst (λ (g : Case). Kept c.args.cond.now (starts old.gathered.items (reverse old.alternatives.items)) c.args.step.now g new.alternatives.items) (sym kept) all).advances

pub returns-clause-nested : goal.returns-clause-nested
returns-clause-nested c =
    let old = c.args.self.now in
    let new = c.push_cases.new.self in
    let mid = c.begin.new.self in
    let a = c.in-Some.alternative in
    let rest = c.pop.new.self.items in
    let cases = c.in-Some-2.cases.items in
    let is : old.alternatives.items ≡ rest ++ a ∷ [] = search rules in
    let begun : mid.gathered.items ≡ take a.kept old.gathered.items ++ a.case.items = search rules in
    let kept : new.gathered.items ≡ mid.gathered.items = search rules in
    let leaves : Leaves c.args.cond.now mid.gathered.items c.args.step.now (lists_of cases) = search rules in
    let pushed : reverse new.alternatives.items ≡ map (alternative_with (length mid.gathered.items)) cases ++ reverse rest = search rules in
    let all = divided c.args.cond.now c.args.step.now old.gathered.items old.alternatives.items rest a mid.gathered.items cases new.alternatives.items is c.requires begun leaves pushed in
    λ yes. (subst (λ (g : Case). Kept c.args.cond.now (starts old.gathered.items (reverse old.alternatives.items)) c.args.step.now g new.alternatives.items) (sym kept) all).nested

pub returns-then-len-left-clause-advances : goal.returns-then-len-left-clause-advances
returns-then-len-left-clause-advances c =
    let old = c.args.self.now in
    let a = c.in-Some.alternative in
    let rest = c.pop.new.self.items in
    let is : old.alternatives.items ≡ rest ++ a ∷ [] = search rules in
    let more : c.args.left < length rest = search rules in
    no_room c.args.cond.now c.args.step.now old.gathered.items old.alternatives.items rest a c.args.left is more

pub returns-in-None-clause-advances : goal.returns-in-None-clause-advances
returns-in-None-clause-advances c =
    let old = c.args.self.now in
    let mid = c.begin.new.self in
    let a = c.in-Some.alternative in
    let rest = c.pop.new.self.items in
    let is : old.alternatives.items ≡ rest ++ a ∷ [] = search rules in
    let begun : mid.gathered.items ≡ take a.kept old.gathered.items ++ a.case.items = search rules in
    let fits : length rest + (c.args.left - length rest) ≡ c.args.left = search rules in
    let not : (cases : List Case) → Leaves c.args.cond.now mid.gathered.items c.args.step.now cases → length cases ≤ c.args.left - length rest → ⊥ = search rules in
    not_divided c.args.cond.now c.args.step.now old.gathered.items old.alternatives.items rest a mid.gathered.items c.args.left (c.args.left - length rest) is begun fits not
