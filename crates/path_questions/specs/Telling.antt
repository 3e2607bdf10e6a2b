-- What records tell of a question.
use Rattle.std.specs.Prelude.{ℕ, suc, ◌≡◌, ◌⊎◌, List, [], ◌∷◌, ◌++◌, length}
use Rattle.std.specs.List.{AllByRecursion}
use Rattle.path_cond.specs.Seen.{itself}
use Rattle.refutation_check.specs.Seen.{IsMetBy, IsRefuted, IsUndecidedBy}
use Rattle.refutation_check.specs.declared.outcome.Cause.{Cause}
use Rattle.refutation_check.specs.declared.steps.Refute.{Refute}
use Rattle.sefl_meaning.specs.Network.{Network, Entry}
use Rattle.exact_records.specs.Exact.{SomeOne}
use Rattle.exact_records.specs.Records.{IsRefutedBy, Leads, RecordTree, SymCondition, SymRoute, path, pruned, unexplored}
use Rattle.path_questions.specs.Questions.{Question}
use Rattle.path_questions.specs.Formulas.{conditions_on, explored}

-- what is known of a question: the number of the first record that shows a hit, with its values; or no hit, and the numbers of
-- the records that leave it open
pub data Outcome : Type 0 where
  found : ℕ → List ℕ → Outcome
  left_open : List ℕ → Outcome

-- of a record: it shows a hit with these values, none, or leaves the question open; or it rules the question out
pub record Saying (X : Type 0) : Type 1 where
  pub Shows : X → List ℕ → Type 0
  pub ShowsNone : X → Type 0
  pub LeavesOpen : X → Type 0
  pub RulesOut : X → Type 0

module _ {X : Type 0} (say : Saying X) where
  -- these are the numbers, from a number on, of those that leave it open; the others are out
  abbrev pub AreOpenBy : (X → Type 0) → ℕ → List X → List ℕ → Type 0
  AreOpenBy Out n [] ns = ns ≡ []
  AreOpenBy Out n (x ∷ xs) ns =
      (say.LeavesOpen x × (ms : List ℕ) × (ns ≡ n ∷ ms) × AreOpenBy Out (suc n) xs ms) ⊎ (Out x × AreOpenBy Out (suc n) xs ns)

  pub record IsFirstHit (xs : List X) (number : ℕ) (values : List ℕ) : Type 0 where
    pub front : List X
    pub shower : X
    pub rest : List X
    pub joined : xs ≡ front ++ shower ∷ rest
    pub numbered : number ≡ length front
    pub none : AllByRecursion say.ShowsNone front
    pub shows : say.Shows shower values

  abbrev pub IsOutcomeBy : (X → Type 0) → List X → Outcome → Type 0
  IsOutcomeBy Out xs (found number values) = IsFirstHit xs number values
  IsOutcomeBy Out xs (left_open ns) = AllByRecursion say.ShowsNone xs × AreOpenBy Out 0 xs ns

  -- the first hit; or there is none, and these are exactly the numbers of the records that leave it open
  abbrev pub IsOutcome : List X → Outcome → Type 0
  IsOutcome xs outcome = IsOutcomeBy (λ x. say.LeavesOpen x → ⊥) xs outcome

  -- and each other record rules it out
  abbrev pub IsKept : List X → Outcome → Type 0
  IsKept xs outcome = IsOutcomeBy say.RulesOut xs outcome

-- the condition is not met
abbrev pub IsUnmet : SymCondition → Type 0
IsUnmet c = (values : List ℕ) → IsMetBy itself c values → ⊥

abbrev pub IsUndecided : SymCondition → Type 0
IsUndecided c = (cause : Cause) × IsUndecidedBy itself c cause

-- it is refuted, and a refutation is accepted
abbrev pub HasRefutation : SymCondition → Type 0
HasRefutation c = IsRefuted itself c × ((refutation : List Refute) × IsRefutedBy c refutation)

-- the first of the conditions that is met has these least values
abbrev pub FirstMet : List SymCondition → List ℕ → Type 0
FirstMet [] values = ⊥
FirstMet (c ∷ cs) values = IsMetBy itself c values ⊎ (IsUnmet c × FirstMet cs values)

module _ (net : Network) (i : Entry) (hops : ℕ) (q : Question) where
  -- a path shows a hit where one of the question's conditions on it is met
  abbrev pub ShowsHit : RecordTree → List ℕ → Type 0
  ShowsHit (path ds places end' fields verdict) values =
      (way : SymRoute) × Leads (explored net i hops) ds way × FirstMet (conditions_on net i hops q way) values
  ShowsHit (pruned ds before refutation) values = ⊥
  ShowsHit (unexplored ds) values = ⊥

  abbrev pub ShowsNoHit : RecordTree → Type 0
  ShowsNoHit (path ds places end' fields verdict) =
      (way : SymRoute) → Leads (explored net i hops) ds way → AllByRecursion IsUnmet (conditions_on net i hops q way)
  ShowsNoHit (pruned ds before refutation) = Unit {0}
  ShowsNoHit (unexplored ds) = Unit {0}

  -- a record leaves the question open where it was not tried; and a path does, where one of the conditions is undecided
  abbrev pub LeavesItOpen : RecordTree → Type 0
  LeavesItOpen (path ds places end' fields verdict) =
      (way : SymRoute) × Leads (explored net i hops) ds way × SomeOne IsUndecided (conditions_on net i hops q way)
  LeavesItOpen (pruned ds before refutation) = ⊥
  LeavesItOpen (unexplored ds) = Unit {0}

  -- a path rules the question out where each of the conditions is refuted
  abbrev pub RulesItOut : RecordTree → Type 0
  RulesItOut (path ds places end' fields verdict) =
      (way : SymRoute) → Leads (explored net i hops) ds way → AllByRecursion HasRefutation (conditions_on net i hops q way)
  RulesItOut (pruned ds before refutation) = Unit {0}
  RulesItOut (unexplored ds) = ⊥

  abbrev pub saying : Saying RecordTree
  saying = record { Shows = ShowsHit; ShowsNone = ShowsNoHit; LeavesOpen = LeavesItOpen; RulesOut = RulesItOut }
