-- What is gathered from a sum is what is gathered from its first member and then from the others.
use Rattle.std.proofs.Common.{◌≡◌, ℕ, List, ◌++◌, Box, Vec, Global, Result, Ok, Err, OnOk, ◌∙◌, append_assoc, rules}
use Rattle.sn_width.specs.declared.memory.NoMemory.{NoMemory}
use Rattle.sefl_syntax.specs.Trees.{sum}
use Rattle.sefl_syntax.specs.Views.{expr_tree, summand_trees}
use Rattle.sefl_syntax.specs.declared.reference.Target.{Target}
use Rattle.sefl_syntax.specs.declared.expr.Sign.{Sign}
use Rattle.sefl_syntax.specs.declared.expr.Expr.{Expr, Sum, the_lemmas}
use Rattle.job_items.specs.Atoms.{expr_reads, summand_reads, expr_constants, summand_constants}

pub expr_tree_Sum : (first : Box Expr Global) (rest : Vec (Sign × Expr) Global) → expr_tree (Sum first rest) ≡ sum (expr_tree first.value) (summand_trees rest.items)
expr_tree_Sum first rest = search (rules, the_lemmas)

on_ok : {P Q : Type 0} (r : Result (Unit {0}) NoMemory) → (P → Q) → OnOk r P → OnOk r Q
on_ok (Ok _) f h = f h
on_ok (Err _) f h = h

pub reads_of_sum : (e : Expr) (first : Box Expr Global) (rest : Vec (Sign × Expr) Global) (operand : Expr) (summands : List (Sign × Expr)) (r : Result (Unit {0}) NoMemory) (old mid new : List Target)
    → e ≡ Sum first rest → operand ≡ first.value → summands ≡ rest.items
    → mid ≡ old ++ expr_reads (expr_tree operand) → OnOk r (new ≡ mid ++ summand_reads (summand_trees summands))
    → OnOk r (new ≡ old ++ expr_reads (expr_tree e))
reads_of_sum e first rest operand summands r old mid new is o s m n = on_ok r (λ h.
    h ∙ rw (m, is, o, s, expr_tree_Sum first rest) (append_assoc old (expr_reads (expr_tree first.value)) _)) n

pub constants_of_sum : (e : Expr) (first : Box Expr Global) (rest : Vec (Sign × Expr) Global) (operand : Expr) (summands : List (Sign × Expr)) (r : Result (Unit {0}) NoMemory) (old mid new : List ℕ)
    → e ≡ Sum first rest → operand ≡ first.value → summands ≡ rest.items
    → mid ≡ old ++ expr_constants (expr_tree operand) → OnOk r (new ≡ mid ++ summand_constants (summand_trees summands))
    → OnOk r (new ≡ old ++ expr_constants (expr_tree e))
constants_of_sum e first rest operand summands r old mid new is o s m n = on_ok r (λ h.
    h ∙ rw (m, is, o, s, expr_tree_Sum first rest) (append_assoc old (expr_constants (expr_tree first.value)) _)) n
