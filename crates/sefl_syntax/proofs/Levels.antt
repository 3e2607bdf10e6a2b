-- A tree of a value, level by level.
use Rattle.std.proofs.Common.{◌≡◌, ℕ, List, ◌++◌, Box, Vec, Global, Result, Ok, Err, OnOk, codes, ◌∙◌, append_assoc, rules}
use Rattle.std.specs.declared.alloc.AllocError.{AllocError}
use Rattle.sefl_syntax.specs.Trees.{sum}
use Rattle.sefl_syntax.specs.TermText.{expr_text, operand_text, summands_text}
use Rattle.sefl_syntax.specs.Views.{expr_tree, summand_trees}
use Rattle.sefl_syntax.specs.declared.expr.Sign.{Sign}
use Rattle.sefl_syntax.specs.declared.expr.Expr.{Expr, Sum, the_lemmas}

pub expr_tree_Sum : (first : Box Expr Global) (rest : Vec (Sign × Expr) Global) → expr_tree (Sum first rest) ≡ sum (expr_tree first.value) (summand_trees rest.items)
expr_tree_Sum first rest = search (rules, the_lemmas)

on_ok : {A : Type 0} {P Q : Type 0} (r : Result A AllocError) → (P → Q) → OnOk r P → OnOk r Q
on_ok (Ok _) f h = f h
on_ok (Err _) f h = h

-- a sum is written as its first member and the others
pub sum_written : (e : Expr) (first : Box Expr Global) (rest : Vec (Sign × Expr) Global) (operand : Expr) (summands : List (Sign × Expr)) (r : Result (Unit {0}) AllocError) (old mid new : List ℕ)
    → e ≡ Sum first rest → operand ≡ first.value → summands ≡ rest.items
    → mid ≡ old ++ operand_text (expr_tree operand) → OnOk r (new ≡ mid ++ summands_text (summand_trees summands))
    → OnOk r (new ≡ old ++ expr_text (expr_tree e))
sum_written e first rest operand summands r old mid new is o s m n = on_ok r (λ h.
    h ∙ rw (m, is, o, s, expr_tree_Sum first rest) (append_assoc old (operand_text (expr_tree first.value)) _)) n

-- and as an operand in parentheses
pub operand_written : (e : Expr) (first : Box Expr Global) (rest : Vec (Sign × Expr) Global) (r : Result (Unit {0}) AllocError) (old opened mid new : List ℕ)
    → e ≡ Sum first rest → opened ≡ old ++ codes "("
    → mid ≡ opened ++ expr_text (expr_tree e) → OnOk r (new ≡ mid ++ codes ")")
    → OnOk r (new ≡ old ++ operand_text (expr_tree e))
operand_written e first rest r old opened mid new is o m = on_ok r (λ h.
    h ∙ rw (m, o, is, expr_tree_Sum first rest)
    (append_assoc (old ++ codes "(") _ (codes ")") ∙ append_assoc old (codes "(") _))
