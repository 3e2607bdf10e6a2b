-- The text of a comparison: compact JSON, its keys ascending, and a line feed.
use Rattle.std.specs.Prelude.{ℕ, Bool, true, false, List, [], ◌∷◌, ◌++◌, Option, None, Some, codes}
use Rattle.serde_json.specs.Data.{Data, Members, string, object, no_members, member}
use Rattle.serde_json.specs.Written.{compact_text}
use Rattle.run_text.specs.Forms.{count, values_data}
use Rattle.ask_command.specs.Texts.{counts_data}
use Rattle.compare_meaning.specs.Comparing.{Comparison, same, other, unknown}

-- how many paths of each job are cut at the bound of hops, where that is told
abbrev pub Cuts : Type 0
Cuts = Option (ℕ × ℕ)

abbrev pub with_cuts : Cuts → Members → Members
with_cuts None members = members
with_cuts (Some cuts) members = member (codes "cut") (counts_data (cuts.0 ∷ cuts.1 ∷ [])) members

-- an answer that is one word, with the version
abbrev pub word_data : Cuts → List ℕ → Data
word_data cuts word =
    object (member (codes "answer") (string word) (with_cuts cuts (member (codes "symnet") (count 1) no_members)))

-- the side of the first job is the left one
abbrev pub side_of : Bool → List ℕ
side_of true = codes "left"
side_of false = codes "right"

-- the number of the path that delivers what the other net does not, the side where it is, and the values
abbrev pub other_data : Cuts → Bool → ℕ → List ℕ → Data
other_data cuts left number values =
    object (member (codes "answer") (string (codes "other"))
    (with_cuts cuts
    (member (codes "number") (count number)
    (member (codes "side") (string (side_of left))
    (member (codes "symnet") (count 1)
    (member (codes "values") (values_data values) no_members))))))

-- the numbers of the paths for which it is not known
abbrev pub unknown_data : Cuts → List ℕ → List ℕ → Data
unknown_data cuts lefts rights =
    object (member (codes "answer") (string (codes "unknown"))
    (with_cuts cuts
    (member (codes "left") (counts_data lefts)
    (member (codes "right") (counts_data rights)
    (member (codes "symnet") (count 1) no_members)))))

abbrev pub compared_data : Cuts → Comparison → Data
compared_data cuts same = word_data cuts (codes "same")
compared_data cuts (other left number values) = other_data cuts left number values
compared_data cuts (unknown lefts rights) = unknown_data cuts lefts rights

-- the line of an answer
unfoldable pub compared_text : Cuts → Comparison → List ℕ
compared_text cuts answer = compact_text (compared_data cuts answer) ++ codes "\n"

-- the answer where some decision was not tried
unfoldable pub partial_data : Data
partial_data = word_data None (codes "partial")

-- and its line
unfoldable pub partial_text : List ℕ
partial_text = compact_text partial_data ++ codes "\n"
