-- What the checks of single parts tell.
use Rattle.std.specs.Prelude.{◌≡◌, Bool, true, false, List, reverse, Option, Some, None}
use Rattle.lin_term.specs.Terms.{LinearTerm}
use Rattle.path_cond.specs.Seen.{itself}
use Rattle.path_records.specs.Shown.{fields_seen}
use Rattle.refutation_check.specs.Seen.{IsLicensed}
use Rattle.refutation_check.specs.declared.outcome.Verdict.{Verdict}
use Rattle.refutation_check.specs.declared.outcome.Verdict.TheVariants.{Sat, Undecided}
use Rattle.sefl_meaning.specs.declared.walk.End.{End}
use Rattle.sefl_meaning.specs.declared.walk.Place.{Place}
use Rattle.sefl_meaning.specs.Fields.{Fields, fields_of}
use Rattle.sym_state.specs.Symbolic.{Symbolic}
use Rattle.exact_records.specs.Records.{RecordTree, SymCondition, path}
use Rattle.record_checks.specs.Stops.{Stop}
use Rattle.record_checks.specs.declared.part.Part.{Part}
use Rattle.record_checks.specs.declared.checks.PathParts.{PathParts}

-- a path by its parts
abbrev pub path_of : PathParts → RecordTree
path_of p = path p.decisions.now p.places.now p.how.now (fields_seen p.fields.now) p.verdict.now

-- the run is over there
abbrev pub IsOver : Stop → Type 0
IsOver stop = (end' : End) × (stop.how ≡ Some end')

-- a run that is over so, in this state, has these places, this end and these fields
pub record IsShownBy (state : Symbolic) (how : End) (places : List Place) (end' : End) (fields : Fields LinearTerm) : Type 0 where
  pub ended : how ≡ end'
  pub places_are : reverse state.places ≡ places
  pub fields_are : fields_of state.carried ≡ fields

-- a cause may be given for leaving the condition undecided
abbrev pub MayStayOpen : SymCondition → Verdict → Type 0
MayStayOpen c (Sat values) = Unit {0}
MayStayOpen c (Undecided cause) = IsLicensed itself c cause

-- the part, where it does not hold
abbrev pub broken_unless : Bool → Part → Option Part
broken_unless true part = None
broken_unless false part = Some part
