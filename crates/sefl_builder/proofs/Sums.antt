-- A sum as it is made.
use Rattle.std.proofs.Common.{◌≡◌, List, [], ◌∷◌, Box, Vec, Global, ◌∙◌, refl, ap, rules}
use Rattle.sefl_syntax.specs.declared.expr.Sign.{Sign}
use Rattle.sefl_syntax.specs.declared.expr.Expr.{Expr, Sum, the_lemmas}
use Rattle.sefl_syntax.specs.Trees.{sum, negation}
use Rattle.sefl_syntax.specs.declared.cond.Cond.{Cond, Not, the_lemmas as cond_lemmas}
use Rattle.sefl_syntax.specs.Views.{expr_tree, cond_tree, summands_of}
use Rattle.sefl_grammar.specs.Grammar.{sum_of}
use Rattle.sefl_builder.specs.Terms.{member_trees}

tree_of : (first : Box Expr Global) (rest : Vec (Sign × Expr) Global) → expr_tree (Sum first rest) ≡ sum (expr_tree first.value) (summands_of (member_trees rest.items))
tree_of first rest = search (rules, the_lemmas)

sum_of_some : (first : Expr) (ms : List (Sign × Expr)) → (ms ≡ [] → ⊥) → sum (expr_tree first) (summands_of (member_trees ms)) ≡ sum_of (expr_tree first) (summands_of (member_trees ms))
sum_of_some first [] some = absurd (some refl)
sum_of_some first (m ∷ ms) some = refl

pub sum_made : (first : Box Expr Global) (rest : Vec (Sign × Expr) Global) (e : Expr) → first.value ≡ e → (rest.items ≡ [] → ⊥)
    → expr_tree (Sum first rest) ≡ sum_of (expr_tree e) (summands_of (member_trees rest.items))
sum_made first rest e is some =
    tree_of first rest ∙ ap (λ x. sum (expr_tree x) (summands_of (member_trees rest.items))) is ∙ sum_of_some e rest.items some

negation_tree : (c : Box Cond Global) → cond_tree (Not c) ≡ negation (cond_tree c.value)
negation_tree c = search (rules, cond_lemmas)

pub negation_made : (c : Box Cond Global) (of : Cond) → c.value ≡ of → cond_tree (Not c) ≡ negation (cond_tree of)
negation_made c of is = negation_tree c ∙ ap (λ x. negation (cond_tree x)) is
