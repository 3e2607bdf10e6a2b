use Rattle.std.proofs.Common.{◌∙◌, ◌+◌, ap, sym, subst, List, [], ◌∷◌, ℕ}
use Rattle.difference_solver.specs.Cycle.{IsNegativeCycle}
use Rattle.difference_solver.proofs.Gathered.{sums_from}
use Rattle.difference_solver.proofs.Solutions.{below_itself, cycle_unsolvable, solution_found, least_found}
use Rattle.difference_solver.proofs.solver.solve.Goals as goal

pub returns-in-Some-clause-cycle : goal.returns-in-Some-clause-cycle
returns-in-Some-clause-cycle c =
    subst (λ (is : List ℕ). IsNegativeCycle c.args.bounds.now is) (sym c.in_ok-vec.ensures.items)
    (below_itself c.args.bounds.now c.in-Some.index c.in-Some.ensures.negative)

pub returns-in-Some-clause-unsolvable : goal.returns-in-Some-clause-unsolvable
returns-in-Some-clause-unsolvable c =
    (λ _. cycle_unsolvable c.args.count c.args.bounds.now (c.in-Some.index ∷ []) (below_itself c.args.bounds.now c.in-Some.index c.in-Some.ensures.negative), λ _. tt)

pub gather_cycle-requires-clause-sums : goal.gather_cycle-requires-clause-sums
gather_cycle-requires-clause-sums c =
    let bounds = c.args.bounds.now in
    sums_from bounds c.eliminate_all.new.table (c.eliminate_all.ensures.sources bounds c.in_default.ensures.kept.sources)

pub returns-in-Some-eliminate_all-clause-cycle : goal.returns-in-Some-eliminate_all-clause-cycle
returns-in-Some-eliminate_all-clause-cycle c =
    let bounds = c.args.bounds.now in
    c.in_ok-gather_cycle-in-Some-eliminate_all.ensures bounds (c.eliminate_all.ensures.sources bounds c.in_default.ensures.kept.sources)

pub returns-in-Some-eliminate_all-clause-unsolvable : goal.returns-in-Some-eliminate_all-clause-unsolvable
returns-in-Some-eliminate_all-clause-unsolvable c =
    let bounds = c.args.bounds.now in
    let cycle = c.in_ok-gather_cycle-in-Some-eliminate_all.ensures bounds (c.eliminate_all.ensures.sources bounds c.in_default.ensures.kept.sources) in
    (λ _. cycle_unsolvable c.args.count bounds c.in_ok-gather_cycle-in-Some-eliminate_all.field-0.items cycle, λ _. tt)

pub returns-clause-solution : goal.returns-clause-solution
returns-clause-solution c =
    let found = c.in_ok-find_values-in-None.ensures in
    solution_found c.args.count c.args.bounds.now c.keep_bounds.new.table c.eliminate_all.new.table c.in_ok-find_values-in-None.field-0.items
    (found.len ∙ ap (λ (n : ℕ). n + 1) (c.eliminate_all.ensures.count ∙ c.keep_bounds.ensures.count ∙ c.in_ok-table.ensures.count)) c.requires.in_range c.in_default.ensures.kept c.eliminate_all.ensures.kept found.values

pub returns-clause-least : goal.returns-clause-least
returns-clause-least c =
    let found = c.in_ok-find_values-in-None.ensures in
    least_found c.args.count c.args.bounds.now c.keep_bounds.new.table c.eliminate_all.new.table c.in_ok-find_values-in-None.field-0.items
    (found.len ∙ ap (λ (n : ℕ). n + 1) (c.eliminate_all.ensures.count ∙ c.keep_bounds.ensures.count ∙ c.in_ok-table.ensures.count)) c.in_default.ensures.kept c.eliminate_all.ensures.kept (c.eliminate_all.ensures.sources c.args.bounds.now c.in_default.ensures.kept.sources) found.values

pub returns-clause-unsolvable : goal.returns-clause-unsolvable
returns-clause-unsolvable c =
    let s = returns-clause-solution c in
    (λ h. absurd h, λ h. h c.in_ok-find_values-in-None.field-0.items s.one_each s.met)
