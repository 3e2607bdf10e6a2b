use Rattle.std.proofs.Common.{◌≡◌, ◌+◌, ◌++◌, drop, length, map}
use Rattle.std.specs.Vec.Iter.{into_iter_items}
use Rattle.queries.specs.Answers.{answer_seen, replies_of}
use Rattle.queries.proofs.answer.answers_of.Given as goal

-- the answers so far, and those to the questions that are left
abbrev pub invariant-loop-known : goal.invariant-loop-known
invariant-loop-known l =
    record {
      counted : l.at + length (into_iter_items l.known-iterator) ≡ length l.questions;
      answered : map answer_seen l.answers.items ++ replies_of (drop l.at l.questions) (into_iter_items l.known-iterator) ≡ replies_of l.questions l.fn.kept.items;
    }
