-- By which ports copies leave a node whose tests read the destination alone.
use Rattle.std.specs.Prelude.{ℕ, Bool, true, false, not, ◌&&◌, ◌||◌, ◌==◌, nat_le, if◌then◌else◌, List, [], ◌∷◌, filter, find, Option, None, Some, is_none, option_map, unwrap_or}
use Rattle.std.specs.List.{list_any}
use Rattle.sn_width.specs.Rel.{relates}
use Rattle.sefl_syntax.specs.declared.net.Side.{Side}
use Rattle.sefl_syntax.specs.declared.net.Side.TheVariants.{Inward, Outward}
use Rattle.sefl_syntax.specs.Trees.{ExprTree, constant, reading, sum, CondTree, always, compare, member, all_of, any_of, negation, CondTrees, no_conds, cond_and, InstrTree, allocate, deallocate, assign, assign_any, create_tag, set_tag, destroy_tag, constrain, fail, branch, each, forward, fork, block, no_op, CodeTree, no_code, instr_and, PortTree, NodeTree}

-- one of the ranges, ends included, has the number
abbrev pub lies_in : ℕ → List (ℕ × ℕ) → Bool
lies_in n ranges = list_any (λ range. nat_le range.0 n && nat_le n range.1) ranges

-- the first way, or the second one where there is none
abbrev pub first_way : Option (List ℕ) → Option (List ℕ) → Option (List ℕ)
first_way None later = later
first_way (Some ports) later = Some ports

module _ (a : ℕ) where
  -- an operand is a constant or the destination
  abbrev pub operand : ExprTree → ℕ
  operand (constant n) = n
  operand (reading target) = a
  operand (sum first rest) = operand first

  abbrev mutual
    pub holds : CondTree → Bool
    holds always = true
    holds (compare rel left right) = relates rel (operand left) (operand right)
    holds (member value ranges) = lies_in (operand value) ranges
    holds (all_of conds) = all_hold conds
    holds (any_of conds) = some_holds conds
    holds (negation c) = not (holds c)

    pub all_hold : CondTrees → Bool
    all_hold no_conds = true
    all_hold (cond_and c conds) = holds c && all_hold conds

    pub some_holds : CondTrees → Bool
    some_holds no_conds = false
    some_holds (cond_and c conds) = holds c || some_holds conds

  abbrev mutual
    -- the ports to which code sends copies; None where it runs off its end
    pub way_at : InstrTree → Option (List ℕ)
    way_at (allocate target) = None
    way_at (deallocate target) = None
    way_at (assign target value) = None
    way_at (assign_any target) = None
    way_at (create_tag name addr) = None
    way_at (set_tag name addr) = None
    way_at (destroy_tag name) = None
    way_at (constrain test) = if holds test then None else Some []
    way_at (fail text) = Some []
    way_at (branch test first other) = if holds test then way first else way other
    way_at (each var pattern body) = None
    way_at (forward port) = Some (port ∷ [])
    way_at (fork ports) = Some ports
    way_at (block body) = way body
    way_at no_op = None

    pub way : CodeTree → Option (List ℕ)
    way no_code = None
    way (instr_and i is) = first_way (way_at i) (way is)

abbrev pub is_same_side : Side → Side → Bool
is_same_side Inward Inward = true
is_same_side Inward Outward = false
is_same_side Outward Inward = false
is_same_side Outward Outward = true

abbrev pub is_code_of : Side → ℕ → PortTree → Bool
is_code_of side port p = is_same_side p.side side && p.port == port

-- the code of a port; a port without code has an empty one
abbrev pub code_in : NodeTree → Side → ℕ → CodeTree
code_in node side port = unwrap_or (option_map (λ p. p.code) (find (is_code_of side port) node.codes)) no_code

-- the copy is not stopped at the output port
abbrev pub passes : NodeTree → ℕ → ℕ → Bool
passes node a port = is_none (way a (code_in node Outward port))

abbrev pub exits : NodeTree → ℕ → List ℕ
exits node a = filter (passes node a) (unwrap_or (way a (code_in node Inward 0)) [])
