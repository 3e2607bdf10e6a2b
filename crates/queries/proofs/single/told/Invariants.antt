use Rattle.std.proofs.Common.{◌≡◌, take}
use Rattle.exact_records.specs.View.{record_trees}
use Rattle.path_questions.specs.Asked.{question_seen}
use Rattle.path_questions.specs.Deciding.{entry_of, net_of}
use Rattle.queries.specs.Holding.{IsKeptOf}
use Rattle.queries.proofs.single.told.Given as goal

-- what the records so far tell
abbrev pub invariant-loop-record : goal.invariant-loop-record
invariant-loop-record l =
    record {
      counted : l.number ≡ l.record-index;
      told : IsKeptOf (net_of l.subject) (entry_of l.subject) l.subject.hops (record_trees (take l.record-index l.records)) (question_seen l.question) l.kept;
    }
