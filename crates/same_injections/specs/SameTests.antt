-- Expressions, tests, fields and injections that are the same, part by part.
use Rattle.std.specs.Prelude.{◌≡◌, ℕ, List, [], ◌∷◌}
use Rattle.sn_width.specs.declared.rel.Rel.{Rel}
use Rattle.sefl_syntax.specs.declared.reference.Target.{Target}
use Rattle.sefl_syntax.specs.declared.job.RawField.{RawField}
use Rattle.sefl_syntax.specs.declared.job.RawInjection.{RawInjection}
use Rattle.sefl_syntax.specs.Views.{cond_trees}
use Rattle.sefl_syntax.specs.Trees.{CondTree, CondTrees, ExprTree, SummandTrees, all_of, always, any_of, compare, cond_and, constant, member, negation, no_conds, no_summands, reading, sum, summand}

abbrev pub IsConstant : ℕ → ExprTree → Type 0
IsConstant n (constant m) = n ≡ m
IsConstant n (reading u) = ⊥
IsConstant n (sum g ns) = ⊥

abbrev pub IsReading : Target → ExprTree → Type 0
IsReading t (constant m) = ⊥
IsReading t (reading u) = t ≡ u
IsReading t (sum g ns) = ⊥

abbrev mutual
  -- the same numbers and cells, with the same signs
  pub SameExpr : ExprTree → ExprTree → Type 0
  SameExpr (constant n) e = IsConstant n e
  SameExpr (reading t) e = IsReading t e
  SameExpr (sum f ms) (constant n) = ⊥
  SameExpr (sum f ms) (reading t) = ⊥
  SameExpr (sum f ms) (sum g ns) = SameExpr f g × SameSummands ms ns

  pub SameSummands : SummandTrees → SummandTrees → Type 0
  SameSummands no_summands no_summands = Unit {0}
  SameSummands no_summands (summand t f ns) = ⊥
  SameSummands (summand s e ms) no_summands = ⊥
  SameSummands (summand s e ms) (summand t f ns) = (s ≡ t) × SameExpr e f × SameSummands ms ns

abbrev pub IsComparison : Rel → ExprTree → ExprTree → CondTree → Type 0
IsComparison r a b always = ⊥
IsComparison r a b (compare q x y) = (r ≡ q) × SameExpr a x × SameExpr b y
IsComparison r a b (member f ss) = ⊥
IsComparison r a b (all_of ds) = ⊥
IsComparison r a b (any_of ds) = ⊥
IsComparison r a b (negation d) = ⊥

abbrev pub IsMembership : ExprTree → List (ℕ × ℕ) → CondTree → Type 0
IsMembership e rs always = ⊥
IsMembership e rs (compare q x y) = ⊥
IsMembership e rs (member f ss) = SameExpr e f × (rs ≡ ss)
IsMembership e rs (all_of ds) = ⊥
IsMembership e rs (any_of ds) = ⊥
IsMembership e rs (negation d) = ⊥

abbrev mutual
  -- the same connectives, comparisons and memberships, in the same order
  pub SameCond : CondTree → CondTree → Type 0
  SameCond always always = Unit {0}
  SameCond always (compare q x y) = ⊥
  SameCond always (member f ss) = ⊥
  SameCond always (all_of ds) = ⊥
  SameCond always (any_of ds) = ⊥
  SameCond always (negation d) = ⊥
  SameCond (compare r a b) c = IsComparison r a b c
  SameCond (member e rs) c = IsMembership e rs c
  SameCond (all_of cs) always = ⊥
  SameCond (all_of cs) (compare q x y) = ⊥
  SameCond (all_of cs) (member f ss) = ⊥
  SameCond (all_of cs) (all_of ds) = SameConds cs ds
  SameCond (all_of cs) (any_of ds) = ⊥
  SameCond (all_of cs) (negation d) = ⊥
  SameCond (any_of cs) always = ⊥
  SameCond (any_of cs) (compare q x y) = ⊥
  SameCond (any_of cs) (member f ss) = ⊥
  SameCond (any_of cs) (all_of ds) = ⊥
  SameCond (any_of cs) (any_of ds) = SameConds cs ds
  SameCond (any_of cs) (negation d) = ⊥
  SameCond (negation c) always = ⊥
  SameCond (negation c) (compare q x y) = ⊥
  SameCond (negation c) (member f ss) = ⊥
  SameCond (negation c) (all_of ds) = ⊥
  SameCond (negation c) (any_of ds) = ⊥
  SameCond (negation c) (negation d) = SameCond c d

  pub SameConds : CondTrees → CondTrees → Type 0
  SameConds no_conds no_conds = Unit {0}
  SameConds no_conds (cond_and d ds) = ⊥
  SameConds (cond_and c cs) no_conds = ⊥
  SameConds (cond_and c cs) (cond_and d ds) = SameCond c d × SameConds cs ds

-- as many fields, each the same as the one at its place
abbrev pub SameFields : List RawField → List RawField → Type 0
SameFields [] [] = Unit {0}
SameFields [] (g ∷ gs) = ⊥
SameFields (f ∷ fs) [] = ⊥
SameFields (f ∷ fs) (g ∷ gs) = (f ≡ g) × SameFields fs gs

-- injections with the same node, port, tags, fields and tests
abbrev pub AreAlike : RawInjection → RawInjection → Type 0
AreAlike a b =
    (a.node ≡ b.node) × (a.port ≡ b.port) × (a.tags.items ≡ b.tags.items) × SameFields a.fields.items b.fields.items
    × SameConds (cond_trees a.tests.items) (cond_trees b.tests.items)
