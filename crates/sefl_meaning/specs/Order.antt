-- The order of decisions and of lists of them.
use Rattle.std.specs.Prelude.{ℕ, ◌≡◌, ◌+◌, ◌<◌, ◌⊎◌, List, [], ◌∷◌, ◌++◌}
use Rattle.std.specs.List.{AllByRecursion}
use Rattle.sefl_meaning.specs.declared.walk.Decision.{Decision}
use Rattle.sefl_meaning.specs.declared.walk.Decision.TheVariants.{Then, Else, Pass, Broken, Copy}
use Rattle.sefl_meaning.specs.Walks.{Trail}

-- the place of a decision in their order
abbrev pub rank : Decision → ℕ
rank Then = 0
rank Else = 1
rank Pass = 2
rank Broken = 3
rank (Copy number) = 4 + number

-- the first list comes before the second in the order of words: where they first differ it has the lesser decision, or none
abbrev pub Precedes : List Decision → List Decision → Type 0
Precedes [] [] = ⊥
Precedes [] (d ∷ ds) = Unit {0}
Precedes (c ∷ cs) [] = ⊥
Precedes (c ∷ cs) (d ∷ ds) = (rank c < rank d) ⊎ ((c ≡ d) × Precedes cs ds)

-- the second list begins with the first
abbrev pub BeginsWith : List Decision → List Decision → Type 0
BeginsWith first whole = (rest : List Decision) × (first ++ rest ≡ whole)

-- Where they first differ both have a decision, and the first list has the lesser one. So it comes first in the order of
-- words, and neither list begins with the other.
abbrev pub Parts : List Decision → List Decision → Type 0
Parts [] ds = ⊥
Parts (c ∷ cs) [] = ⊥
Parts (c ∷ cs) (d ∷ ds) = (rank c < rank d) ⊎ ((c ≡ d) × Parts cs ds)

-- each one comes before all later ones by its decisions, and none has decisions that another one's begin with
abbrev pub Ascend : {A : Type 0} → (A → List Decision) → List A → Type 0
Ascend decisions [] = Unit {0}
Ascend decisions (x ∷ xs) = AllByRecursion (λ y. Parts (decisions x) (decisions y)) xs × Ascend decisions xs

abbrev pub WalksAscend : List Trail → Type 0
WalksAscend ts = Ascend (λ (t : Trail). t.decisions) ts

-- it is one of these
abbrev pub Has : {A : Type 0} → List A → A → Type 0
Has [] x = ⊥
Has (y ∷ ys) x = (y ≡ x) ⊎ Has ys x
