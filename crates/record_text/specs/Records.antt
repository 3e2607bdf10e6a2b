-- Records as JSON.
use Rattle.std.specs.Prelude.{ℕ, List, [], ◌∷◌, map, codes, Option, None, Some}
use Rattle.serde_json.specs.Data.{Data, null, string, object, member, no_members}
use Rattle.sefl_meaning.specs.declared.walk.Decision.{Decision}
use Rattle.sefl_meaning.specs.declared.walk.Place.{Place}
use Rattle.sefl_meaning.specs.declared.walk.End.{End}
use Rattle.sefl_meaning.specs.Fields.{Fields}
use Rattle.lin_term.specs.Terms.{LinearTerm}
use Rattle.net_check.specs.Network.{Network}
use Rattle.refutation_check.specs.declared.steps.Refute.{Refute}
use Rattle.refutation_check.specs.declared.steps.Refute.TheVariants.{Empty, Domain, Split, Cycle}
use Rattle.refutation_check.specs.declared.outcome.Cause.{Cause}
use Rattle.refutation_check.specs.declared.outcome.Cause.TheVariants.{Outside, Cases, Coupled}
use Rattle.refutation_check.specs.declared.outcome.Verdict.{Verdict}
use Rattle.refutation_check.specs.declared.outcome.Verdict.TheVariants.{Sat, Undecided}
use Rattle.path_records.specs.declared.records.Record.{Record}
use Rattle.path_records.specs.declared.records.Record.TheVariants.{Path, Pruned, Unexplored}
use Rattle.path_records.specs.Shown.{fields_seen}
use Rattle.run_text.specs.Forms.{list, count, values_data, decisions_data, places_data, end_data, term_data, fields_data}

-- numbers in order
unfoldable pub ids_data : List ℕ → Data
ids_data ids = list (map count ids)

-- the symbol that no value is left for, and the picks of the formulas that leave none
abbrev pub empty_data : ℕ → List ℕ → Data
empty_data symbol picks = list (string (codes "empty") ∷ count symbol ∷ ids_data picks ∷ [])

abbrev pub numbered_data : List ℕ → ℕ → Data
numbered_data word number = list (string word ∷ count number ∷ [])

-- the pick of a formula, and the way to a member of it
abbrev pub member_split_data : ℕ → List ℕ → Data
member_split_data pick way = list (string (codes "split") ∷ count pick ∷ ids_data way ∷ [])

-- the empty way, to the formula itself, is left out
abbrev pub split_data : ℕ → List ℕ → Data
split_data pick [] = numbered_data (codes "split") pick
split_data pick (number ∷ way) = member_split_data pick (number ∷ way)

abbrev pub cycle_data : List ℕ → Data
cycle_data bounds = list (string (codes "cycle") ∷ ids_data bounds ∷ [])

-- a step of a refutation
abbrev pub step_data : Refute → Data
step_data (Empty symbol picks) = empty_data symbol.0 picks
step_data (Domain symbol) = numbered_data (codes "domain") symbol.0
step_data (Split pick way) = split_data pick way
step_data (Cycle bounds) = cycle_data bounds

-- the steps in order
unfoldable pub refutation_data : List Refute → Data
refutation_data steps = list (map step_data steps)

abbrev pub counted_data : List ℕ → ℕ → Data
counted_data word n = object (member (codes "cause") (string word) (member (codes "count") (count n) no_members))

abbrev pub outside_data : ℕ → List ℕ → Data
outside_data pick values =
    object (member (codes "cause") (string (codes "outside")) (member (codes "pick") (count pick) (member (codes "values") (values_data values) no_members)))

-- why a condition is undecided
abbrev pub cause_data : Cause → Data
cause_data (Outside pick values) = outside_data pick values
cause_data (Cases n) = counted_data (codes "cases") n
cause_data (Coupled n) = counted_data (codes "coupled") n

abbrev pub sat_data : List ℕ → Data
sat_data values = object (member (codes "sat") (values_data values) no_members)

abbrev pub undecided_data : Cause → Data
undecided_data cause = object (member (codes "undecided") (cause_data cause) no_members)

-- values, or the cause
unfoldable pub verdict_data : Verdict → Data
verdict_data (Sat values) = sat_data values
verdict_data (Undecided cause) = undecided_data cause

-- null where there is none
unfoldable pub before_data : Option Verdict → Data
before_data None = null
before_data (Some verdict) = verdict_data verdict

unfoldable pub path_data : Network → List Decision → List Place → End → Fields LinearTerm → Verdict → Data
path_data net decisions places ended fields verdict =
    object (member (codes "decisions") (decisions_data decisions)
    (member (codes "end") (end_data ended)
    (member (codes "fields") (fields_data term_data net fields)
    (member (codes "kind") (string (codes "path"))
    (member (codes "places") (places_data net places)
    (member (codes "verdict") (verdict_data verdict) no_members))))))

unfoldable pub pruned_data : Option Verdict → List Decision → List Refute → Data
pruned_data before decisions refutation =
    object (member (codes "before") (before_data before)
    (member (codes "decisions") (decisions_data decisions)
    (member (codes "kind") (string (codes "pruned"))
    (member (codes "refutation") (refutation_data refutation) no_members))))

unfoldable pub unexplored_data : List Decision → Data
unexplored_data decisions =
    object (member (codes "decisions") (decisions_data decisions)
    (member (codes "kind") (string (codes "unexplored")) no_members))

-- a record
abbrev pub record_data : Network → Record → Data
record_data net (Path decisions places ended fields verdict) = path_data net decisions.items places.items ended (fields_seen fields) verdict
record_data net (Pruned decisions before refutation) = pruned_data before decisions.items refutation
record_data net (Unexplored decisions) = unexplored_data decisions.items

-- records in order
unfoldable pub records_data : Network → List Record → Data
records_data net records = list (map (record_data net) records)
