use Rattle.std.proofs.Common.{◌≡◌, ◌<◌, ℕ, arith, sym, subst, refl, List, [], Option}
use Rattle.std.specs.Prelude.{IsSome}
use Rattle.difference_solver.specs.Gather.{steps_left}
use Rattle.difference_solver.specs.declared.table.Kept.{Kept}
use Rattle.difference_solver.specs.declared.gather.Pair.{Pair}
use Rattle.difference_solver.proofs.Gathered.{Gathers, no_pairs, Unfolds, unfolds_start, steps_given, given_next, sum_next, last_kept, gathers_end}
use Rattle.difference_solver.proofs.gather.gather_cycle.Goals as goal

pub loop-pair-init : goal.loop-pair-init
loop-pair-init c =
    let (below, within, pair) = c.requires.negative in
    let (x, y, upper, lower, negative) = pair in
    let t = c.args.table.now in
    let l : Pair = record { plus = c.args.around.through; minus = c.args.around.unknown } in
    let u : Pair = record { plus = c.args.around.unknown; minus = c.args.around.through } in
    subst (λ (is : List ℕ). Unfolds t c.args.around.unknown is c.in_ok-pairs.pairs.items) (sym c.new-indices.ensures.items)
    (subst (λ (ps : List Pair). Unfolds t c.args.around.unknown [] ps) (sym c.in_ok-pairs.ensures.items)
    (unfolds_start t l u x y refl refl within (omega arith) upper lower negative))

pub source-requires-clause-plus : goal.source-requires-clause-plus
source-requires-clause-plus c =
    (last_kept c.args.table.now c.args.around.unknown c.loop-pair.indices.items c.loop-pair.pairs.items c.pop.new.self.items c.in-Some.pair c.in-Some.ensures.items c.loop-pair.invariant).plus

pub source-requires-clause-minus : goal.source-requires-clause-minus
source-requires-clause-minus c =
    (last_kept c.args.table.now c.args.around.unknown c.loop-pair.indices.items c.loop-pair.pairs.items c.pop.new.self.items c.in-Some.pair c.in-Some.ensures.items c.loop-pair.invariant).minus

pub source-requires-clause-kept : goal.source-requires-clause-kept
source-requires-clause-kept c =
    let kept = last_kept c.args.table.now c.args.around.unknown c.loop-pair.indices.items c.loop-pair.pairs.items c.pop.new.self.items c.in-Some.pair c.in-Some.ensures.items c.loop-pair.invariant in
    subst (λ (o : Option Kept). IsSome o) (sym kept.at) refl

pub loop-pair-smaller-in-Continue-branch-2 : goal.loop-pair-smaller-in-Continue-branch-2
loop-pair-smaller-in-Continue-branch-2 c =
    let t = c.args.table.now in
    let rest = c.pop.new.self.items in
    subst (λ (ps : List Pair). steps_left t.count rest < steps_left t.count ps) (sym c.in-Some.ensures.items) (steps_given t.count rest c.in-Some.pair)

pub loop-pair-preserved-in-Continue-branch-2 : goal.loop-pair-preserved-in-Continue-branch-2
loop-pair-preserved-in-Continue-branch-2 c =
    subst (λ (is : List ℕ). Unfolds c.args.table.now c.args.around.unknown is c.pop.new.self.items) (sym c.in_ok-push-in-Given.ensures.items)
    (given_next c.args.table.now c.args.around.unknown c.loop-pair.indices.items c.loop-pair.pairs.items c.pop.new.self.items c.in-Some.pair c.source.result c.in-Given.index c.in-Some.ensures.items c.loop-pair.invariant c.source.ensures c.in-Given.is)

pub loop-pair-smaller : goal.loop-pair-smaller
loop-pair-smaller c =
    (sum_next c.args.table.now c.args.around.unknown c.loop-pair.indices.items c.loop-pair.pairs.items c.pop.new.self.items c.push-in-Sum.new.self.items c.push-in-Sum-2.new.self.items c.in-Some.pair c.source.result c.in-Sum.through c.in-Some.ensures.items c.in_ok-push-in-Sum.ensures.items c.in_ok-push-in-Sum-2.ensures.items c.loop-pair.invariant c.requires.sums c.source.ensures c.in-Sum.is).1

pub loop-pair-preserved : goal.loop-pair-preserved
loop-pair-preserved c =
    (sum_next c.args.table.now c.args.around.unknown c.loop-pair.indices.items c.loop-pair.pairs.items c.pop.new.self.items c.push-in-Sum.new.self.items c.push-in-Sum-2.new.self.items c.in-Some.pair c.source.result c.in-Sum.through c.in-Some.ensures.items c.in_ok-push-in-Sum.ensures.items c.in_ok-push-in-Sum-2.ensures.items c.loop-pair.invariant c.requires.sums c.source.ensures c.in-Sum.is).0

pub returns : goal.returns
returns c = λ bounds h.
    let none : c.loop-pair.pairs.items ≡ [] = no_pairs c.loop-pair.pairs.items (omega (arith, c.loop-pair.pairs.ok.0, c.in_default.ensures.cases.0)) in
    gathers_end bounds c.args.table.now c.args.around.unknown c.loop-pair.indices.items
    (subst (λ (ps : List Pair). Gathers bounds c.args.table.now c.args.around.unknown c.loop-pair.indices.items ps) none (c.loop-pair.invariant.gathers bounds h))
