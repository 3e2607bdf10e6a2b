use Rattle.path_cond.proofs.Known.{typed_at}
use Rattle.path_cond.proofs.laws.each_formula_is_typed.Goals as goal

pub returns : goal.returns
returns c = λ path pick entry typed is. typed_at path.widths path.entries pick entry typed is
