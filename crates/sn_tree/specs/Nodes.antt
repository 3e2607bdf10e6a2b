-- What a node of the tree is seen as, and what holds of it.
use denote.Ref.{Bor}
use Rattle.std.specs.Prelude.{◌≡◌, ℕ, ◌+◌, ◌≤◌, max, List, [], ◌∷◌, ◌++◌, Option, Some, None}
use Rattle.std.specs.declared.alloc.Global.{Global}
use Rattle.std.specs.declared.cmp.Ordering.{Ordering}
use Rattle.std.specs.declared.rc.Rc.{Rc}
use Rattle.sn_tree.specs.declared.branch.Node.{Node}
use Rattle.sn_tree.specs.Pairs.{IsAscending}

-- the pairs in order, and the height that the node has
abbrev pub pairs_and_height : {K V : Type 0} → Option (Rc (Node K V) Global) → List (K × V) × ℕ
pairs_and_height None = ([], 0)
pairs_and_height (Some n) = (n.value.left.0 ++ (n.value.key, n.value.value.value) ∷ n.value.right.0, n.value.height)

-- the pair behind references to its key and to what holds its value
abbrev pub held_pair_of : {K V : Type 0} → Bor K × Bor (Rc V Global) → K × V
held_pair_of p = (p.0.now, p.1.now.value)

-- neither height is more than this above the other
abbrev pub DifferByAtMost : ℕ → ℕ → ℕ → Type 0
DifferByAtMost by l r = (l ≤ r + by) × (r ≤ l + by)

-- the keys ascend, the height is one more than the higher side's, and the sides' heights differ by at most one
abbrev pub IsBalanced : {K V : Type 0} → (K → K → Ordering) → Option (Rc (Node K V) Global) → Type 0
IsBalanced cmp None = Unit {0}
IsBalanced cmp (Some n) = IsAscending cmp (n.value.left.0 ++ (n.value.key, n.value.value.value) ∷ n.value.right.0) × (n.value.height ≡ max n.value.left.1 n.value.right.1 + 1) × DifferByAtMost 1 n.value.left.1 n.value.right.1

-- the height h of a tree with sides of heights l and r, which may differ by two
abbrev pub IsHeightOver : ℕ → ℕ → ℕ → Type 0
IsHeightOver l r h = (max l r ≤ h) × (h ≤ max l r + 1) × (DifferByAtMost 1 l r → h ≡ max l r + 1)

-- the height h is at most one above n
abbrev pub IsUpToOneMore : ℕ → ℕ → Type 0
IsUpToOneMore n h = (n ≤ h) × (h ≤ n + 1)

-- the two nodes are seen as the same
abbrev pub IsSameNode : {K V : Type 0} → Node K V → Node K V → Type 0
IsSameNode n m = (m.left ≡ n.left) × (m.key ≡ n.key) × (m.value.value ≡ n.value.value) × (m.right ≡ n.right) × (m.height ≡ n.height)
