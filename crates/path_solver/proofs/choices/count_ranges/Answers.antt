use Rattle.std.proofs.Common.{◌≡◌, List, Some, None, length, sym, ap, ◌∙◌, arith}
use Rattle.std.specs.Prelude.{slice_get, slice_index}
use Rattle.sn_ranges.specs.Ranges.{Range}
use Rattle.path_cond.specs.Conditions.{in_domain}
use Rattle.path_solver.proofs.Entries.{listed_narrow, known_at, missing}
use Rattle.path_solver.proofs.choices.count_ranges.Goals as goal

pub unreachable-requires : goal.unreachable-requires
unreachable-requires c =
    let narrow = listed_narrow c.facts.ensures c.args.cond.now c.args.symbol c.formulas_are_typed.ensures c.requires.coupled in
    let none : None ≡ slice_get c.args.domains.now c.args.symbol.0 = c.in-None.ensures in
    missing c.args.domains.now c.args.symbol.0 none
    (omega (
      arith,
      c.requires.domains.count,
      known_at c.args.cond.now.widths c.args.symbol.0 narrow.width narrow.at,
    ))

pub returns : goal.returns
returns c =
    let some : Some c.in-Some.set.now ≡ slice_get c.args.domains.now c.args.symbol.0 = c.in-Some.ensures in
    let domain = c.requires.domains.domains c.args.symbol c.in-Some.set.now (sym some) in
    c.len.ensures ∙ ap (λ (rs : List Range). length rs)
    (c.facts.ensures.set_ranges (slice_index c.args.cond.now.widths c.args.symbol.0)
    (in_domain c.args.symbol c.args.cond.now) c.in-Some.set.now domain)
