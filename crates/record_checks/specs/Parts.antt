-- What a record means by itself, by its parts in their order, and the first of them that is broken.
use Rattle.std.specs.Prelude.{◌≡◌, ◌↔◌, List, Option, Some, None}
use Rattle.lin_term.specs.Terms.{LinearTerm}
use Rattle.refutation_check.specs.Seen.{IsLicensed}
use Rattle.path_cond.specs.Seen.{itself}
use Rattle.refutation_check.specs.declared.outcome.Cause.{Cause}
use Rattle.refutation_check.specs.declared.outcome.Verdict.{Verdict}
use Rattle.refutation_check.specs.declared.outcome.Verdict.TheVariants.{Sat, Undecided}
use Rattle.sefl_meaning.specs.declared.walk.Decision.{Decision}
use Rattle.sefl_meaning.specs.declared.walk.Place.{Place}
use Rattle.sefl_meaning.specs.declared.walk.End.{End}
use Rattle.sefl_meaning.specs.Courses.{Progress}
use Rattle.sefl_meaning.specs.Trees.{over}
use Rattle.sefl_meaning.specs.Routes.{IsOpen, places_on}
use Rattle.sefl_meaning.specs.Fields.{Fields, fields_of}
use Rattle.exact_records.specs.Records.{HasMeaning, IsPruned, Leads, RecordTree, SymRoute, SymStart, Takes, condition_on, path, pruned, unexplored}
use Rattle.record_checks.specs.declared.part.Part.{Part}
use Rattle.record_checks.specs.declared.part.Part.TheVariants.{NotTaken, NotRefuted, OtherEnd, NotUndecided}

-- with what is explored
module _ (s : SymStart) where
  -- the decisions lead to an end
  pub record ArePossible (ds : List Decision) : Type 0 where
    pub way : SymRoute
    pub progress : Progress LinearTerm
    pub end' : End
    pub leads : Leads s ds way
    pub ended : way.left ≡ over progress end'

  -- the values, where the verdict has some, are those of a packet that takes the decisions
  abbrev pub AreTakenBy : List Decision → Verdict → Type 0
  AreTakenBy ds (Sat values) = Takes s values ds
  AreTakenBy ds (Undecided cause) = Unit {0}

  -- the decisions lead to this end, by these places and with these fields
  pub record EndSo (ds : List Decision) (places : List Place) (end' : End) (fields : Fields LinearTerm) : Type 0 where
    pub way : SymRoute
    pub progress : Progress LinearTerm
    pub leads : Leads s ds way
    pub ended : way.left ≡ over progress end'
    pub places_are : places_on way ≡ places
    pub fields_are : fields_of progress.state ≡ fields

  -- the cause may be given where the decisions lead
  pub record MayBeLeft (ds : List Decision) (cause : Cause) : Type 0 where
    pub way : SymRoute
    pub leads : Leads s ds way
    pub licensed : IsLicensed itself (condition_on s way) cause

  abbrev pub MayBeLeftBy : List Decision → Verdict → Type 0
  MayBeLeftBy ds (Sat values) = Unit {0}
  MayBeLeftBy ds (Undecided cause) = MayBeLeft ds cause

  -- the first part: a path is taken, and decisions that were not tried are open
  abbrev pub IsTaken : RecordTree → Type 0
  IsTaken (path ds places end' fields verdict) = ArePossible ds × AreTakenBy ds verdict
  IsTaken (pruned ds before refutation) = Unit {0}
  IsTaken (unexplored ds) = IsOpen s.tree ds

  -- the part of a refuted side
  abbrev pub IsRefutedSide : RecordTree → Type 0
  IsRefutedSide (path ds places end' fields verdict) = Unit {0}
  IsRefutedSide (pruned ds before refutation) = IsPruned s ds before refutation
  IsRefutedSide (unexplored ds) = Unit {0}

  -- the second part of a path: it ends so
  abbrev pub HasEnd : RecordTree → Type 0
  HasEnd (path ds places end' fields verdict) = EndSo ds places end' fields
  HasEnd (pruned ds before refutation) = Unit {0}
  HasEnd (unexplored ds) = Unit {0}

  -- and the third: its cause may be given
  abbrev pub HasCause : RecordTree → Type 0
  HasCause (path ds places end' fields verdict) = MayBeLeftBy ds verdict
  HasCause (pruned ds before refutation) = Unit {0}
  HasCause (unexplored ds) = Unit {0}

  -- this part of the record is broken, and none before it
  abbrev pub IsBroken : Part → RecordTree → Type 0
  IsBroken NotTaken x = IsTaken x → ⊥
  IsBroken NotRefuted x = IsRefutedSide x → ⊥
  IsBroken OtherEnd x = IsTaken x × (HasEnd x → ⊥)
  IsBroken NotUndecided x = IsTaken x × HasEnd x × (HasCause x → ⊥)

  -- the record has its own meaning, or this is its first broken part
  abbrev pub IsJudged : RecordTree → Option Part → Type 0
  IsJudged x None = HasMeaning s x
  IsJudged x (Some part) = IsBroken part x

  -- what the laws of the parts say
  pub record PartsMakeTheMeaning : Type 0 where
    -- a record has its meaning exactly where it has all of its parts
    pub whole : (x : RecordTree) → (HasMeaning s x ↔ IsTaken x × IsRefutedSide x × HasEnd x × HasCause x)
    -- a record with a broken part has not its meaning
    pub broken : (part : Part) (x : RecordTree) → IsBroken part x → HasMeaning s x → ⊥
    -- at most one part is the first that is broken
    pub one : (a b : Part) (x : RecordTree) → IsBroken a x → IsBroken b x → a ≡ b
