-- The text of the counts of confirmed records: compact JSON, its keys ascending, and a line feed.
use Rattle.std.specs.Prelude.{List, ◌++◌, ℕ, codes}
use Rattle.serde_json.specs.Data.{Data, object, no_members, member}
use Rattle.serde_json.specs.Written.{compact_text}
use Rattle.run_text.specs.Forms.{count}
use Rattle.record_checks.specs.declared.counts.Confirmed.{Confirmed}

-- how many records there are of each kind, with the version
unfoldable pub confirmed_data : Confirmed → Data
confirmed_data counts =
    object (member (codes "pruned") (count counts.pruned)
    (member (codes "sat") (count counts.sat)
    (member (codes "symnet") (count 1)
    (member (codes "undecided") (count counts.undecided)
    (member (codes "unexplored") (count counts.unexplored) no_members)))))

-- the line of these counts
unfoldable pub confirmed_text : Confirmed → List ℕ
confirmed_text counts = compact_text (confirmed_data counts) ++ codes "\n"
