use Rattle.std.proofs.Common.{sym}
use Rattle.std.specs.Prelude.{slice_get}
use Rattle.path_formula.specs.View.{view}
use Rattle.path_cond.proofs.Narrowing.{simple_at}
use Rattle.path_cond.proofs.picks.narrowed.Goals as goal

pub solutions-requires : goal.solutions-requires
solutions-requires c =
    let cond = c.args.cond.now in
    let s = c.args.symbol in
    let f = c.in-Some.formula.now in
    c.a_simple_formula_is_over_its_symbol.ensures (view f) s cond.widths c.args.width
    (simple_at s (slice_get cond.entries c.args.pick) (f, c.in-Some.holds) c.in-Some.ensures c.requires.simple)
    (c.each_formula_is_typed.ensures cond c.args.pick (f, c.in-Some.holds) c.formulas_are_typed.ensures (sym c.in-Some.ensures))
    c.requires.known
