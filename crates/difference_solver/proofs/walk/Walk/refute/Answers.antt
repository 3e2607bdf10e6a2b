use Rattle.std.proofs.Common.{◌≡◌, ◌<◌, ◌++◌, ℕ, List, true, length, length-append, reverse, ap, subst, sym, arith, ◌∙◌}
use Rattle.std.specs.Prelude.{Contains}
use Rattle.std.proofs.lemmas.List.{length-map}
use Rattle.difference_solver.specs.Choices.{Case, lists_of, cases_of}
use Rattle.difference_solver.specs.Floors.{bound_of, bounds_of, all_before}
use Rattle.difference_solver.proofs.Leading.{past_cycle}
use Rattle.difference_solver.proofs.Lowering.{cycle_front, cycle_within}
use Rattle.difference_solver.proofs.walk.Walk.refute.Goals as goal

pub choice_of-requires : goal.choice_of-requires
choice_of-requires c =
    let g : Case = c.args.self.now.gathered.items in
    let start : c.len-start.result ≡ length c.args.self.now.gathered.items = omega (arith, c.args.self.now.gathered.ok.0) in
    let within : c.in-Some.index < length (c.args.self.now.gathered.items ++ bounds_of c.args.floors.now) =
    cycle_within (g ++ bounds_of c.args.floors.now) c.args.bounds.items c.in-Some.index c.requires.cycle
    (subst (λ (is : List ℕ). Contains is c.in-Some.index) c.as_slice.ensures.value c.in-Some.ensures.1) in
    omega (arith, within, length-append c.args.self.now.gathered.items (bounds_of c.args.floors.now), length-map c.args.floors.now bound_of, start, c.in-Some.ensures.0)

pub returns-in-Some : goal.returns-in-Some
returns-in-Some c =
    let within = c.choice_of.ensures c.args.count (lists_of c.args.choices.now) c.requires.floors in
    (omega (arith, within, length-map c.args.choices.now cases_of), c.requires.at)

pub returns-in_ok-steps-in-None : goal.returns-in_ok-steps-in-None
returns-in_ok-steps-in-None c =
    let g : Case = c.args.self.now.gathered.items in
    let start : c.len-start.result ≡ length c.args.self.now.gathered.items = omega (arith, c.args.self.now.gathered.ok.0) in
    let before : all_before (length g) c.args.bounds.items ≡ true =
    sym (ap (λ (n : ℕ). all_before n c.args.bounds.items) start)
    ∙ (subst (λ (is : List ℕ). all_before c.len-start.result is ≡ true) c.as_slice.ensures.value c.in-None.ensures) in
    past_cycle c.cycle_refutes.ensures c.args.count (lists_of c.args.choices.now) g (reverse c.args.self.now.branches.items) c.args.self.now.best c.args.bounds c.in_ok-steps-in-None.steps.items
    (cycle_front g (bounds_of c.args.floors.now) c.args.bounds.items before c.requires.cycle) c.in_ok-steps-in-None.ensures c.requires.at
