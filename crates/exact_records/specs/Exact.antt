-- Lists of records that are exact.
use Rattle.std.specs.Prelude.{ℕ, ◌≡◌, ◌<◌, ◌≤◌, ◌⊎◌, ◌↔◌, List, [], ◌∷◌, ◌++◌, length}
use Rattle.std.specs.List.{AllByRecursion}
use Rattle.path_cond.specs.Seen.{itself}
use Rattle.refutation_check.specs.Seen.{IsRefuted}
use Rattle.sefl_meaning.specs.declared.walk.Decision.{Decision}
use Rattle.sefl_meaning.specs.Routes.{IsOpen}
use Rattle.sefl_meaning.specs.Order.{Ascend, BeginsWith, Parts, rank}
use Rattle.exact_records.specs.Records.{HasMeaning, HasVerdict, Leads, RecordTree, SymRoute, SymStart, Takes, condition_on, decisions_of, path, pruned, unexplored}

-- of these members exactly one has the property
abbrev pub ExactlyOne : {A : Type 0} → (A → Type 0) → List A → Type 0
ExactlyOne P [] = ⊥
ExactlyOne P (x ∷ xs) = (P x × AllByRecursion (λ y. P y → ⊥) xs) ⊎ ((P x → ⊥) × ExactlyOne P xs)

-- some member has the property
abbrev pub SomeOne : {A : Type 0} → (A → Type 0) → List A → Type 0
SomeOne P [] = ⊥
SomeOne P (x ∷ xs) = P x ⊎ SomeOne P xs

-- the first is the second, begins it, or comes before it in the order of words
abbrev pub IsUpTo : List Decision → List Decision → Type 0
IsUpTo ds es = BeginsWith ds es ⊎ Parts ds es

-- each comes before all later ones by its decisions, and none has decisions that another one's begin with
abbrev pub RecordsAscend : List RecordTree → Type 0
RecordsAscend rs = Ascend decisions_of rs

abbrev pub IsUnexplored : RecordTree → Type 0
IsUnexplored (path ds places end' fields verdict) = ⊥
IsUnexplored (pruned ds before refutation) = ⊥
IsUnexplored (unexplored ds) = Unit {0}

abbrev pub IsTried : RecordTree → Type 0
IsTried x = IsUnexplored x → ⊥

-- no path, or that of these decisions
abbrev pub IsNoOtherPath : List Decision → RecordTree → Type 0
IsNoOtherPath ds (path es places end' fields verdict) = es ≡ ds
IsNoOtherPath ds (pruned es before refutation) = ⊥
IsNoOtherPath ds (unexplored es) = Unit {0}

-- exactly one record has decisions that these begin with; it is not a refuted one, and a path has all of them
pub record IsShownOnce (ds : List Decision) (rs : List RecordTree) : Type 0 where
  pub once : ExactlyOne (λ x. BeginsWith (decisions_of x) ds) rs
  pub shown : AllByRecursion (λ x. BeginsWith (decisions_of x) ds → IsNoOtherPath ds x) rs

-- some record's decisions begin with these
abbrev pub IsBegun : List Decision → List RecordTree → Type 0
IsBegun ds rs = SomeOne (λ x. BeginsWith ds (decisions_of x)) rs

-- at most as many paths and refuted sides as the limit, and what was not tried stands only behind that many
pub record IsWithin (limit : ℕ) (rs : List RecordTree) : Type 0 where
  pub done : List RecordTree
  pub left : List RecordTree
  pub joined : rs ≡ done ++ left
  pub tried : AllByRecursion IsTried done
  pub count : length done ≤ limit
  pub untried : AllByRecursion IsUnexplored left
  pub met : (left ≡ []) ⊎ (length done ≡ limit)

-- nothing was left, and no more records than the limit are there
pub record IsWhole (limit : ℕ) (rs : List RecordTree) : Type 0 where
  pub tried : AllByRecursion IsTried rs
  pub count : length rs ≤ limit

-- with what is explored
module _ (s : SymStart) where
  -- nowhere before the end of these decisions is the condition refuted
  abbrev pub IsUnrefuted : List Decision → Type 0
  IsUnrefuted ds = (p : List Decision) (d : Decision) (rest : List Decision) → ds ≡ p ++ d ∷ rest
      → (way : SymRoute) → Leads s p way → IsRefuted itself (condition_on s way) → ⊥

  -- what holds of each record
  pub record IsGood (x : RecordTree) : Type 0 where
    pub meaning : HasMeaning s x
    pub verdict : HasVerdict s x
    pub unrefuted : IsUnrefuted (decisions_of x)

  -- each decision that is offered along a record begins a record, as far as it is within
  abbrev pub AllBegun : (List Decision → Type 0) → List RecordTree → Type 0
  AllBegun Within rs = (p : List Decision) (c d : Decision) (rest : List Decision)
      → SomeOne (λ x. decisions_of x ≡ p ++ c ∷ rest) rs → IsOpen s.tree (p ++ d ∷ []) → Within (p ++ d ∷ []) → IsBegun (p ++ d ∷ []) rs

  -- what is offered after a part of the decisions, and comes after what they have there
  pub record IsLeftBehind (last ds : List Decision) : Type 0 where
    pub parent : List Decision
    pub taken : Decision
    pub rest : List Decision
    pub other : Decision
    pub along : last ≡ parent ++ taken ∷ rest
    pub is : ds ≡ parent ++ other ∷ []
    pub offered : IsOpen s.tree ds
    pub later : rank taken < rank other

  -- the limit was met: there are this many records, and then exactly what was left behind by the last of them
  pub record IsCutOff (limit : ℕ) (rs : List RecordTree) : Type 0 where
    pub done : List RecordTree
    pub last : RecordTree
    pub left : List RecordTree
    pub joined : rs ≡ (done ++ last ∷ []) ++ left
    pub tried : AllByRecursion IsTried (done ++ last ∷ [])
    pub count : length (done ++ last ∷ []) ≡ limit
    pub untried : AllByRecursion IsUnexplored left
    pub some : left ≡ [] → ⊥
    pub exactly : (ds : List Decision) → SomeOne (λ x. decisions_of x ≡ ds) left ↔ IsLeftBehind (decisions_of last) ds

  -- The records ascend; each has its meaning and its verdict, and nothing before it is refuted; each packet that ends is shown
  -- once; the limit is kept, and what it leaves is named; and each decision that is offered along one of them begins one.
  pub record AreExact (limit : ℕ) (rs : List RecordTree) : Type 0 where
    pub ascend : RecordsAscend rs
    pub good : AllByRecursion IsGood rs
    pub once : (v : List ℕ) (ds : List Decision) → Takes s v ds → IsShownOnce ds rs
    pub limited : IsWhole limit rs ⊎ IsCutOff limit rs
    pub some : rs ≡ [] → ⊥
    pub begun : AllBegun (λ ds. Unit {0}) rs

  -- the records that were handed over until now, up to the last one; the limit is kept
  pub record AreExactUpTo (limit : ℕ) (done : List RecordTree) (last : RecordTree) : Type 0 where
    pub ascend : RecordsAscend (done ++ last ∷ [])
    pub good : AllByRecursion IsGood (done ++ last ∷ [])
    pub once : (v : List ℕ) (ds : List Decision) → Takes s v ds → BeginsWith (decisions_of last) ds ⊎ IsUpTo ds (decisions_of last)
        → IsShownOnce ds (done ++ last ∷ [])
    pub begun : AllBegun (λ ds. IsUpTo ds (decisions_of last)) (done ++ last ∷ [])
    pub within : IsWithin limit (done ++ last ∷ [])

  -- none yet, or exact up to the last one
  pub record AreExactSoFar (limit : ℕ) (rs : List RecordTree) : Type 0 where
    pub is : (rs ≡ []) ⊎ ((done : List RecordTree) × (last : RecordTree) × (rs ≡ done ++ last ∷ []) × AreExactUpTo limit done last)
