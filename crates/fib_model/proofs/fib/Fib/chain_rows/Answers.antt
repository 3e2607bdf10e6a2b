use Rattle.std.proofs.Common.{All, sym, subst}
use Rattle.std.proofs.lemmas.Result.{IfOk-weaker}
use Rattle.fib_model.specs.Prefixes.{IsRow}
use Rattle.fib_model.proofs.Spans.{ordered_lengths}
use Rattle.fib_model.proofs.fib.Fib.chain_rows.Goals as goal

pub returns-clause-lengths : goal.returns-clause-lengths
returns-clause-lengths c =
    let prefixes : All IsRow c.deref.result.now = subst (All IsRow) (sym c.deref.ensures.value) c.self.invariant.prefixes in
    IfOk-weaker c.longest_first.result _ _ (λ ordered same. ordered_lengths c.deref.result.now ordered.items same prefixes) c.longest_first.ensures.same
