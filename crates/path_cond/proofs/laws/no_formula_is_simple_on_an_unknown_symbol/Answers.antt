use Rattle.path_cond.proofs.Known.{none_past}
use Rattle.path_cond.proofs.laws.no_formula_is_simple_on_an_unknown_symbol.Goals as goal

pub returns : goal.returns
returns c = λ path s typed past. none_past c.a_simple_formula_has_a_known_symbol.ensures path.widths s 0 path.entries typed past
