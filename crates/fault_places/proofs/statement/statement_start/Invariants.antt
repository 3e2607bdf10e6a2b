use Rattle.std.proofs.Common.{◌≡◌, drop}
use Rattle.fault_places.specs.Statements.{statement_from, statement_start}
use Rattle.fault_places.proofs.statement.statement_start.Given as goal

abbrev pub invariant-loop-index : goal.invariant-loop-index
invariant-loop-index l =
    statement_from l.text l.sought l.stage l.left (drop l.index l.tokens) ≡ statement_start l.text l.sought l.number l.tokens
