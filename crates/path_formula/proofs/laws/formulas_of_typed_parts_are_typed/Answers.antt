use Rattle.path_formula.proofs.Typings.{formulas-typed}
use Rattle.path_formula.proofs.laws.formulas_of_typed_parts_are_typed.Goals as goal

pub returns : goal.returns
returns c = record {
  comparison = λ widths rel left right same l r. (same, l, r);
  membership = λ widths term set same h. (same, h);
  all = formulas-typed;
  any = formulas-typed;
  opposite = λ widths f h. h;
}
