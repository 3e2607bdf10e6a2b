-- What the steps of the exploration keep.
use Rattle.std.specs.Prelude.{ℕ, suc, ◌≡◌, ◌<◌, ◌≤◌, ◌+◌, List, [], ◌∷◌, ◌++◌, length, map, Option, None, Some}
use Rattle.std.specs.List.{AllByRecursion}
use Rattle.sefl_meaning.specs.Trees.{Tree, over, arrives, tests, splits, Copies, no_copies, copy_and}
use Rattle.exact_records.specs.Records.{RecordTree}
use Rattle.exact_records.specs.Exact.{IsTried, IsUnexplored}
use Rattle.exact_records.specs.Points.{Stands, Obligation}
use Rattle.exact_records.specs.Work.{work_of}
use Rattle.path_exec.specs.declared.opening.OpenNode.{OpenNode}
use Rattle.path_exec.specs.Views.{Views}
use Rattle.path_exec.specs.OpenNodes.{AreOpenNodes, all_obligations}
use Rattle.path_exec.specs.Paying.{Holds}
use Rattle.path_exec.specs.Receiving.{Receiving}

module _ {V F : Type 0} where
  abbrev mutual
    -- the number of nodes
    pub weight : Tree V F → ℕ
    weight (over p end') = 1
    weight (arrives place p t) = suc (weight t)
    weight (tests asking p test held broken) = suc (weight held + weight broken)
    weight (splits p branches) = suc (weight_of branches)

    pub weight_of : Copies V F → ℕ
    weight_of no_copies = 0
    weight_of (copy_and t branches) = weight t + weight_of branches

abbrev pub weights : List Obligation → ℕ
weights [] = 0
weights (obligation ∷ obligations) = weight obligation.0.tree + weights obligations

module _ {P O N D T : Type 0} (x : Views P O N D T) where
  abbrev pub made_of : Option T → List RecordTree
  made_of None = []
  made_of (Some made) = x.record_of made ∷ []

  abbrev pub IsOwnOrNone : Option T → Type 0
  IsOwnOrNone None = Unit {0}
  IsOwnOrNone (Some made) = x.IsOwn made

  -- below the limit, what comes of the first obligations: a record or none, and other nodes on top of the stack
  pub record Keeps (now : List Obligation) (old new : List (OpenNode N D)) (made : Option T) (before after : ℕ) : Type 0 where
    pub raised : ℕ
    pub counted : after ≡ before + raised
    pub holds : (limit : ℕ) (done : List RecordTree) (count : ℕ) → length done < limit → Holds x.start limit done (now ++ all_obligations x old) count
        → Holds x.start limit (done ++ made_of made) (all_obligations x new) (count + raised)
    pub spent : (limit : ℕ) (done : List RecordTree) (count : ℕ) → length done < limit → Holds x.start limit done (now ++ all_obligations x old) count
        → (y : T) → made ≡ Some y → count + raised ≤ work_of x.start (done ++ made_of made)
    pub open_nodes : AreOpenNodes x old → AreOpenNodes x new
    pub tried : AllByRecursion IsTried (made_of made)
    pub own : IsOwnOrNone made
    pub falls : weights (all_obligations x new) < weights (now ++ all_obligations x old)

  -- the records that a receiver stands for, and the obligations that are left
  pub record Runs (limit count : ℕ) (m : Receiving T) (left : List Obligation) (before after : ℕ) : Type 0 where
    pub items : List T
    pub stands : m.StandsFor items
    pub raised : ℕ
    pub risen : after ≡ before + raised
    pub holds : Holds x.start limit (map x.record_of items) left raised
    pub spent : limit ≤ count → raised ≤ work_of x.start (map x.record_of items)
    pub tried : AllByRecursion IsTried (map x.record_of items)
    pub counted : count ≡ length items

  -- the limit was met, and what is left is named: some of it, or more is left
  pub record Leaves (limit : ℕ) (m : Receiving T) (left : List Obligation) (before after : ℕ) : Type 0 where
    pub items : List T
    pub stands : m.StandsFor items
    pub done : List RecordTree
    pub last : RecordTree
    pub named : List RecordTree
    pub joined : map x.record_of items ≡ (done ++ last ∷ []) ++ named
    pub state : Stands x.start limit (map x.record_of items) left
    pub tried : AllByRecursion IsTried (done ++ last ∷ [])
    pub counted : length (done ++ last ∷ []) ≡ limit
    pub untried : AllByRecursion IsUnexplored named
    pub some : named ≡ [] → left ≡ [] → ⊥
    pub spent : after ≤ before + work_of x.start (map x.record_of items)
