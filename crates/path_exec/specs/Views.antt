-- What the values of an exploration are seen as.
use Rattle.std.specs.Prelude.{◌≡◌}
use Rattle.lin_term.specs.Terms.{LinearTerm}
use Rattle.sefl_meaning.specs.Carried.{Carried}
use Rattle.refutation_check.specs.declared.outcome.Verdict.{Verdict}
use Rattle.exact_records.specs.Records.{RecordTree, SymStart}
use Rattle.path_exec.specs.Location.{Location}

-- what is explored; places, ends and nodes as where they stand, and what is carried at a place; findings as verdicts; what is
-- handed over as the record that it means, and whether its names are those of the net
pub record Views (P O N D T : Type 0) : Type 1 where
  pub start : SymStart
  pub place_at : P → Location
  pub carried_at : P → Carried LinearTerm
  pub over_at : O → Location
  pub node_at : N → Location
  pub verdict_of : D → Verdict
  pub record_of : T → RecordTree
  pub IsOwn : T → Type 0

-- it is this record, of the net
pub record IsMade {P O N D T : Type 0} (x : Views P O N D T) (entry : RecordTree) (made : T) : Type 0 where
  pub is : x.record_of made ≡ entry
  pub own : x.IsOwn made
