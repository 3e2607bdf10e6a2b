-- The values of expressions and the truths of conditions, or the first fault in text order.
use Rattle.std.specs.Prelude.{ℕ, List, [], ◌∷◌, Result, Ok}
use Rattle.sn_width.specs.declared.faults.LayoutFault.{LayoutFault}
use Rattle.sn_width.specs.declared.rel.Rel.{Rel}
use Rattle.sefl_syntax.specs.declared.expr.Sign.{Sign}
use Rattle.sefl_syntax.specs.declared.expr.Sign.TheVariants.{Plus, Minus}
use Rattle.sefl_syntax.specs.Trees.{ExprTree, constant, reading, sum, SummandTrees, no_summands, summand, CondTree, always, compare, member, all_of, any_of, negation, CondTrees, no_conds, cond_and}
use Rattle.cell_stacks.specs.Outcome.{and_then, on_ok}
use Rattle.job_items.specs.Atoms.{comparison, membership}
use Rattle.job_items.specs.AtomRules.{atom_width}
use Rattle.sefl_meaning.specs.Values.{Values}
use Rattle.sefl_meaning.specs.Carried.{Carried, Scene, read_at}

abbrev pub joined : {V F : Type 0} → Values V F → ℕ → Sign → V → V → V
joined o w Plus a b = o.plus w a b
joined o w Minus a b = o.minus w a b

module _ {V F : Type 0} (o : Values V F) (at : Scene) where
  abbrev mutual
    -- at a width, that of all references in the atom
    pub value_in : ℕ → ExprTree → Carried V → Result V LayoutFault
    value_in w (constant n) s = Ok (o.constant w n)
    value_in w (reading target) s = read_at at w target s
    value_in w (sum first rest) s = and_then (value_in w first s) (λ a. sum_in w a rest s)

    -- with the further members of a sum
    pub sum_in : ℕ → V → SummandTrees → Carried V → Result V LayoutFault
    sum_in w a no_summands s = Ok a
    sum_in w a (summand sign e rest) s = and_then (value_in w e s) (λ b. sum_in w (joined o w sign a b) rest s)

  -- the width of an atom is that of its first reference, and 64 bits without one
  abbrev pub compared : ℕ → Rel → ExprTree → ExprTree → Carried V → Result F LayoutFault
  compared w rel left right s = and_then (value_in w left s) (λ a. on_ok (o.compare w rel a) (value_in w right s))

  abbrev pub looked_up : ℕ → ExprTree → List (ℕ × ℕ) → Carried V → Result F LayoutFault
  looked_up w value ranges s = on_ok (λ a. o.member w a ranges) (value_in w value s)

  abbrev mutual
    -- every atom is evaluated, from left to right
    pub truth_in : CondTree → Carried V → Result F LayoutFault
    truth_in always s = Ok o.always
    truth_in (compare rel left right) s = compared (atom_width (comparison left right)) rel left right s
    truth_in (member value ranges) s = looked_up (atom_width (membership value ranges)) value ranges s
    truth_in (all_of conds) s = on_ok o.all_of (truths_in conds s)
    truth_in (any_of conds) s = on_ok o.any_of (truths_in conds s)
    truth_in (negation c) s = on_ok o.negation (truth_in c s)

    pub truths_in : CondTrees → Carried V → Result (List F) LayoutFault
    truths_in no_conds s = Ok []
    truths_in (cond_and c conds) s = and_then (truth_in c s) (λ f. on_ok (λ fs. f ∷ fs) (truths_in conds s))
