use Rattle.std.proofs.Common.{◌≡◌, List, [], ◌∷◌, ◌++◌, length}
use Rattle.exact_records.specs.Records.{RecordTree}
use Rattle.path_questions.specs.Asked.{question_seen}
use Rattle.path_questions.specs.Deciding.{entry_of, net_of}
use Rattle.queries.specs.Holding.{AreKept, IsKeptOf, Partly}
use Rattle.queries.specs.Judged.{IsSeenOf}
use Rattle.queries.proofs.keeping.keep_all.Given as goal

-- the first ones with the record, and the rest without
abbrev pub invariant-loop-i : goal.invariant-loop-i
invariant-loop-i l =
    record {
      one_each : length l.kept ≡ length l.fn.kept;
      keeps : (items : List RecordTree) (x : RecordTree) → l.number ≡ length items → IsSeenOf (net_of l.subject) (entry_of l.subject) l.subject.hops x l.seen
          → AreKept (net_of l.subject) (entry_of l.subject) l.subject.hops items l.questions l.fn.kept
          → Partly (λ q k. IsKeptOf (net_of l.subject) (entry_of l.subject) l.subject.hops (items ++ x ∷ []) (question_seen q) k)
          (λ q k. IsKeptOf (net_of l.subject) (entry_of l.subject) l.subject.hops items (question_seen q) k) l.i l.questions l.kept;
    }
