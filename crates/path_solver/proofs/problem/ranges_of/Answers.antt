use Rattle.std.proofs.Common.{◌≡◌, List, Some, None, map, sym, subst, arith}
use Rattle.std.specs.Prelude.{slice_get, slice_index, IfOk}
use Rattle.sn_ranges.specs.Ranges.{Range}
use Rattle.path_cond.specs.Conditions.{in_domain}
use Rattle.path_formula.specs.Bounds.{lists_of}
use Rattle.path_formula.specs.Cases.{range_case}
use Rattle.path_solver.proofs.Entries.{listed_narrow, known_at, index_at, missing}
use Rattle.path_solver.proofs.problem.ranges_of.Goals as goal

pub unreachable-requires : goal.unreachable-requires
unreachable-requires c =
    let narrow = listed_narrow c.facts.ensures c.args.cond.now c.args.symbol c.formulas_are_typed.ensures c.requires.coupled in
    let none : None ≡ slice_get c.args.domains.now c.args.symbol.0 = c.in-None.ensures in
    missing c.args.domains.now c.args.symbol.0 none
    (omega (
      arith,
      c.requires.domains.count,
      known_at c.args.cond.now.widths c.args.symbol.0 narrow.width narrow.at,
    ))

pub range_cases-requires : goal.range_cases-requires
range_cases-requires c =
    let narrow = listed_narrow c.facts.ensures c.args.cond.now c.args.symbol c.formulas_are_typed.ensures c.requires.coupled in
    let some : Some c.in-Some.set.now ≡ slice_get c.args.domains.now c.args.symbol.0 = c.in-Some.ensures in
    let domain = c.requires.domains.domains c.args.symbol c.in-Some.set.now (sym some) in
    omega (arith, domain.same_width, index_at c.args.cond.now.widths c.args.symbol.0 narrow.width narrow.at, narrow.narrow)

pub returns : goal.returns
returns c =
    let some : Some c.in-Some.set.now ≡ slice_get c.args.domains.now c.args.symbol.0 = c.in-Some.ensures in
    let domain = c.requires.domains.domains c.args.symbol c.in-Some.set.now (sym some) in
    subst (λ (rs : List Range). IfOk c.range_cases.result (λ found. lists_of found.items ≡ map (range_case c.args.symbol) rs))
    (c.facts.ensures.set_ranges (slice_index c.args.cond.now.widths c.args.symbol.0)
    (in_domain c.args.symbol c.args.cond.now) c.in-Some.set.now domain)
    c.range_cases.ensures
