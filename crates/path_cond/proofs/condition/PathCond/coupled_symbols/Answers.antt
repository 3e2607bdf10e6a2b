use Rattle.std.proofs.Common.{◌≡◌, map, ◌∙◌}
use Rattle.std.specs.Global.{Vec}
use Rattle.std.proofs.lemmas.Result.{IfOk-weaker}
use Rattle.sn_width.specs.declared.ids.SymId.{SymId}
use Rattle.path_cond.specs.Marks.{marked_symbol}
use Rattle.path_cond.specs.Summaries.{coupled_symbols}
use Rattle.path_cond.proofs.Coupling.{marked_coupled}
use Rattle.path_cond.proofs.condition.PathCond.coupled_symbols.Goals as goal

pub returns : goal.returns
returns c =
    let cond = c.args.self.now in
    let marks = c.marks.result.now in
    IfOk-weaker c.symbols.result (λ (symbols : Vec SymId). symbols.items ≡ map marked_symbol marks) (λ (symbols : Vec SymId). symbols.items ≡ coupled_symbols cond)
    (λ symbols h. h ∙ marked_coupled cond marks c.formulas_are_typed.ensures c.symbols.ensures.ascending c.marks.ensures) c.symbols.ensures.all
