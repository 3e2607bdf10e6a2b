-- The text of answers: compact JSON, its keys ascending, and a line feed.
use Rattle.std.specs.Prelude.{ℕ, List, ◌++◌, map, codes, Option, None, Some}
use Rattle.serde_json.specs.Data.{Data, string, object, no_members, member}
use Rattle.serde_json.specs.Written.{compact_text}
use Rattle.run_text.specs.Forms.{list, count, values_data}
use Rattle.queries.specs.Answers.{Reply, yes, no, unknown}

-- yes or no, with the number of a record and values where a path shows it
abbrev pub decided_data : List ℕ → Option (ℕ × List ℕ) → Data
decided_data word None = object (member (codes "answer") (string word) no_members)
decided_data word (Some hit) =
    object (member (codes "answer") (string word)
    (member (codes "number") (count hit.0)
    (member (codes "values") (values_data hit.1) no_members)))

-- numbers in order
unfoldable pub counts_data : List ℕ → Data
counts_data numbers = list (map count numbers)

abbrev pub unknown_data : List ℕ → Data
unknown_data numbers = object (member (codes "answer") (string (codes "unknown")) (member (codes "numbers") (counts_data numbers) no_members))

abbrev pub reply_data : Reply → Data
reply_data (yes hit) = decided_data (codes "yes") hit
reply_data (no hit) = decided_data (codes "no") hit
reply_data (unknown numbers) = unknown_data numbers

-- the answers in order
unfoldable pub replies_data : List Reply → Data
replies_data replies = list (map reply_data replies)

-- with the version
unfoldable pub answers_data : List Reply → Data
answers_data replies = object (member (codes "answers") (replies_data replies) (member (codes "symnet") (count 1) no_members))

-- the line of these answers
unfoldable pub answers_text : List Reply → List ℕ
answers_text replies = compact_text (answers_data replies) ++ codes "\n"
