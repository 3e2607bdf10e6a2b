-- Records that leave nothing out: each comes at once behind the one before it.
use Rattle.std.specs.Prelude.{ℕ, suc, ◌≡◌, List, [], ◌∷◌, ◌++◌, Option, None, Some}
use Rattle.std.specs.List.{AllByRecursion}
use Rattle.sefl_meaning.specs.declared.walk.Decision.{Decision}
use Rattle.sefl_meaning.specs.declared.walk.Decision.TheVariants.{Then, Else, Pass, Broken, Copy}
use Rattle.sefl_meaning.specs.Order.{rank}
use Rattle.sefl_meaning.specs.Routes.{IsOpen}
use Rattle.exact_records.specs.Exact.{IsTried}
use Rattle.exact_records.specs.Records.{RecordTree, SymStart, decisions_of}

-- the least place in the order of a decision that the same instruction offers
abbrev pub base : Decision → ℕ
base Then = 0
base Else = 0
base Pass = 2
base Broken = 2
base (Copy number) = 4

-- nothing that is offered beside it comes before it
abbrev pub IsFirst : Decision → Type 0
IsFirst d = rank d ≡ base d

-- nothing comes between them
abbrev pub IsNext : Decision → Decision → Type 0
IsNext c d = rank d ≡ suc (rank c)

module _ (s : SymStart) where
  -- behind these decisions nothing that is offered beside it comes next
  abbrev pub IsLast : List Decision → Decision → Type 0
  IsLast p c = (d : Decision) → IsNext c d → IsOpen s.tree (p ++ d ∷ []) → ⊥

  -- nor beside any of these, one after another
  abbrev pub AllLast : List Decision → List Decision → Type 0
  AllLast p [] = Unit {0}
  AllLast p (c ∷ cs) = IsLast p c × AllLast (p ++ c ∷ []) cs

  -- Where they part the second one has the next decision. Behind it the first one has the last of what is offered each time, and the
  -- second one the first: so no decisions come between them.
  pub record ComesNext (es ds : List Decision) : Type 0 where
    pub parent : List Decision
    pub taken : Decision
    pub later : List Decision
    pub other : Decision
    pub rest : List Decision
    pub before : es ≡ parent ++ taken ∷ later
    pub is : ds ≡ parent ++ other ∷ rest
    pub next : IsNext taken other
    pub last : AllLast (parent ++ taken ∷ []) later
    pub first : AllByRecursion IsFirst rest

  -- the record was tried, and comes next behind these decisions; where there are none, nothing comes before it
  abbrev pub Joins : Option (List Decision) → RecordTree → Type 0
  Joins None x = IsTried x × AllByRecursion IsFirst (decisions_of x)
  Joins (Some es) x = IsTried x × ComesNext es (decisions_of x)

  -- nothing comes behind these decisions
  abbrev pub Ends : Option (List Decision) → Type 0
  Ends None = ⊥
  Ends (Some es) = AllLast [] es

  -- each comes next behind the one before it, and nothing behind the last
  abbrev pub IsChainBehind : Option (List Decision) → List RecordTree → Type 0
  IsChainBehind before [] = Ends before
  IsChainBehind before (x ∷ xs) = Joins before x × IsChainBehind (Some (decisions_of x)) xs

  abbrev pub IsChain : List RecordTree → Type 0
  IsChain rs = IsChainBehind None rs
