-- The text of what is found: compact JSON, its keys ascending, and a line feed.
use Rattle.std.specs.Prelude.{ℕ, List, [], ◌∷◌, ◌++◌, map, codes}
use Rattle.serde_json.specs.Data.{Data, string, object, no_members, member}
use Rattle.serde_json.specs.Written.{compact_text}
use Rattle.refutation_check.specs.declared.outcome.Cause.{Cause}
use Rattle.refutation_check.specs.declared.outcome.Cause.TheVariants.{Outside, Cases, Coupled}
use Rattle.run_text.specs.Forms.{list, count, values_data}
use Rattle.loop_meaning.specs.declared.answer.Differ.{Differ}
use Rattle.loop_meaning.specs.declared.answer.LoopAnswer.{LoopAnswer}
use Rattle.loop_meaning.specs.declared.answer.LoopAnswer.TheVariants.{Loop, Open}
use Rattle.loop_meaning.specs.declared.answer.Why.{Why}
use Rattle.loop_meaning.specs.declared.answer.Why.TheVariants.{Choice, Layout, Cell, Unknown}
use Rattle.loops_command.specs.declared.text.OpenPaths.{OpenPaths}
use Rattle.loops_command.specs.declared.text.OpenPaths.TheVariants.{Numbers, Visits}

-- the place of the visit that shows a loop, and the number of the record
abbrev pub with_loop : ℕ → LoopAnswer → List (ℕ × ℕ) → List (ℕ × ℕ)
with_loop number (Loop first) loops = (first, number) ∷ loops
with_loop number (Open differs) loops = loops

abbrev pub loops_in : List (ℕ × LoopAnswer) → List (ℕ × ℕ)
loops_in [] = []
loops_in (f ∷ found) = with_loop f.0 f.1 (loops_in found)

-- the number of the record of a path without a loop, and its earlier visits
abbrev pub with_open : ℕ → LoopAnswer → List (ℕ × List Differ) → List (ℕ × List Differ)
with_open number (Loop first) others = others
with_open number (Open differs) others = (number, differs.items) ∷ others

abbrev pub open_in : List (ℕ × LoopAnswer) → List (ℕ × List Differ)
open_in [] = []
open_in (f ∷ found) = with_open f.0 f.1 (open_in found)

abbrev pub loop_data : ℕ × ℕ → Data
loop_data l = object (member (codes "first") (count l.0) (member (codes "number") (count l.1) no_members))

-- the loops in order
unfoldable pub loop_list_data : List (ℕ × ℕ) → Data
loop_list_data loops = list (map loop_data loops)

-- ---- why an earlier visit shows no loop

-- what left it undecided
abbrev pub cause_word : Cause → List ℕ
cause_word (Outside pick values) = codes "outside"
cause_word (Cases count) = codes "cases"
cause_word (Coupled count) = codes "coupled"

-- the visit's place, and a word
abbrev pub plain_data : ℕ → List ℕ → Data
plain_data place word = object (member (codes "place") (count place) (member (codes "why") (string word) no_members))

-- values with which a cell differs
abbrev pub cell_data : ℕ → List ℕ → Data
cell_data place values =
    object (member (codes "place") (count place)
    (member (codes "values") (values_data values)
    (member (codes "why") (string (codes "cell")) no_members)))

abbrev pub unknown_data : ℕ → List ℕ → Data
unknown_data place cause =
    object (member (codes "cause") (string cause)
    (member (codes "place") (count place)
    (member (codes "why") (string (codes "unknown")) no_members)))

abbrev pub why_data : ℕ → Why → Data
why_data place Choice = plain_data place (codes "choice")
why_data place Layout = plain_data place (codes "layout")
why_data place (Cell values) = cell_data place values
why_data place (Unknown cause) = unknown_data place (cause_word cause)

abbrev pub visit_data : Differ → Data
visit_data d = why_data d.place d.why

-- the visits in order
unfoldable pub visit_list_data : List Differ → Data
visit_list_data visits = list (map visit_data visits)

-- ---- the paths without a loop

-- the number of the record alone, or with the earlier visits
abbrev pub open_data : OpenPaths → ℕ × List Differ → Data
open_data Numbers other = count other.0
open_data Visits other = object (member (codes "number") (count other.0) (member (codes "visits") (visit_list_data other.1) no_members))

unfoldable pub open_list_data : OpenPaths → List (ℕ × List Differ) → Data
open_list_data detail others = list (map (open_data detail) others)

-- with the version
unfoldable pub found_data : OpenPaths → List (ℕ × ℕ) → List (ℕ × List Differ) → Data
found_data detail loops others =
    object (member (codes "loops") (loop_list_data loops)
    (member (codes "open") (open_list_data detail others)
    (member (codes "symnet") (count 1) no_members)))

-- the line of what is found of paths that are cut, each with the number of its record
unfoldable pub loops_text : OpenPaths → List (ℕ × LoopAnswer) → List ℕ
loops_text detail found = compact_text (found_data detail (loops_in found) (open_in found)) ++ codes "\n"
