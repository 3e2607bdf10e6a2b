-- The text of a summary: compact JSON, its keys ascending, and a line feed.
use Rattle.std.specs.Prelude.{ℕ, List, ◌++◌, codes}
use Rattle.json.specs.Token.{Token}
use Rattle.serde_json.specs.Data.{Data, Members, object, no_members, member}
use Rattle.serde_json.specs.Written.{compact_text}
use Rattle.run_text.specs.Tokens.{EndsObject}
use Rattle.run_text.specs.Forms.{count}
use Rattle.grow_command.specs.declared.counts.Counts.{Counts}

-- the seed and the number of boxes, with the counts of records and the version
unfoldable pub summary_data : ℕ → ℕ → Counts → Data
summary_data seed boxes counts =
    object (member (codes "cut") (count counts.cut)
    (member (codes "delivered") (count counts.delivered)
    (member (codes "failed") (count counts.failed)
    (member (codes "nodes") (count boxes)
    (member (codes "pruned") (count counts.pruned)
    (member (codes "sat") (count counts.sat)
    (member (codes "seed") (count seed)
    (member (codes "stopped") (count counts.stopped)
    (member (codes "symnet") (count 1)
    (member (codes "undecided") (count counts.undecided)
    (member (codes "unexplored") (count counts.unexplored) no_members)))))))))))

-- the line of this summary
unfoldable pub summary_text : ℕ → ℕ → Counts → List ℕ
summary_text seed boxes counts = compact_text (summary_data seed boxes counts) ++ codes "\n"

-- a member more: with the last members behind it these begin with it
pub record AddsMember (name : List ℕ) (number : ℕ) (old new : List Token) : Type 0 where
  pub ends : (ms : Members) (end' : List Token) → EndsObject ms new end' → EndsObject (member name (count number) ms) old end'
