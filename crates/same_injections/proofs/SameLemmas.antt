-- The loops and the parts of injections that are compared.
use Rattle.std.proofs.Common.{◌≡◌, ◌↔◌, List, [], ◌∷◌, Box, Global, Vec, arith, length, map, refl, ap, subst, rules}
use Rattle.sefl_syntax.specs.Trees.{InjectionTree, sum}
use Rattle.sefl_syntax.specs.Views.{cond_tree, cond_trees, expr_tree, injection_tree, summand_trees}
use Rattle.sefl_syntax.specs.declared.cond.Cond.{Cond}
use Rattle.sefl_syntax.specs.declared.expr.Sign.{Sign}
use Rattle.sefl_syntax.specs.declared.expr.Expr.{Expr, Sum, the_lemmas}
use Rattle.sefl_syntax.specs.declared.job.RawField.{RawField}
use Rattle.sefl_syntax.specs.declared.job.RawInjection.{RawInjection}
use Rattle.same_injections.specs.SameTests.{AreAlike, SameConds, SameFields, SameSummands}
use Rattle.same_injections.proofs.EqualTests.{same_tests}

pub expr_tree_Sum : (first : Box Expr Global) (rest : Vec (Sign × Expr) Global) → expr_tree (Sum first rest) ≡ sum (expr_tree first.value) (summand_trees rest.items)
expr_tree_Sum first rest = search (rules, the_lemmas)

pub as_many_conds : (cs ds : List Cond) → SameConds (cond_trees cs) (cond_trees ds) → length cs ≡ length ds
as_many_conds [] [] h = refl
as_many_conds [] (d ∷ ds) h = absurd h
as_many_conds (c ∷ cs) [] h = absurd h
as_many_conds (c ∷ cs) (d ∷ ds) h = let rest : length cs ≡ length ds = as_many_conds cs ds h.1 in omega (arith, rest)

pub as_many_summands : (ms ns : List (Sign × Expr)) → SameSummands (summand_trees ms) (summand_trees ns) → length ms ≡ length ns
as_many_summands [] [] h = refl
as_many_summands [] (n ∷ ns) h = absurd h
as_many_summands (m ∷ ms) [] h = absurd h
as_many_summands (m ∷ ms) (n ∷ ns) h = let rest : length ms ≡ length ns = as_many_summands ms ns h.2 in omega (arith, rest)

pub same_field_is : (f g : RawField) → f.target ≡ g.target → f.value ≡ g.value → f ≡ g
same_field_is f g target value = λ i. record { target = target i; value = value i }

pub as_many_fields : (fs gs : List RawField) → SameFields fs gs → length fs ≡ length gs
as_many_fields [] [] h = refl
as_many_fields [] (g ∷ gs) h = absurd h
as_many_fields (f ∷ fs) [] h = absurd h
as_many_fields (f ∷ fs) (g ∷ gs) h = let rest : length fs ≡ length gs = as_many_fields fs gs h.1 in omega (arith, rest)

fields_equal : (fs gs : List RawField) → SameFields fs gs → fs ≡ gs
fields_equal [] [] h = refl
fields_equal [] (g ∷ gs) h = absurd h
fields_equal (f ∷ fs) [] h = absurd h
fields_equal (f ∷ fs) (g ∷ gs) h = λ i. h.0 i ∷ fields_equal fs gs h.1 i

fields_themselves : (fs : List RawField) → SameFields fs fs
fields_themselves [] = tt
fields_themselves (f ∷ fs) = (refl, fields_themselves fs)

-- injections with the same parts are the same
pub alike_is_same : (a b : RawInjection) → AreAlike a b ↔ injection_tree a ≡ injection_tree b
alike_is_same a b = (
  λ h. let tests : map cond_tree a.tests.items ≡ map cond_tree b.tests.items = (same_tests (map cond_tree a.tests.items) (map cond_tree b.tests.items)).0 h.4 in
      λ i. record { node = h.0 i; port = h.1 i; tags = h.2 i; fields = fields_equal a.fields.items b.fields.items h.3 i; tests = tests i },
  λ e. (
    ap (λ (t : InjectionTree). t.node) e,
    ap (λ (t : InjectionTree). t.port) e,
    ap (λ (t : InjectionTree). t.tags) e,
    subst (λ (t : InjectionTree). SameFields a.fields.items t.fields) e (fields_themselves a.fields.items),
    (same_tests (map cond_tree a.tests.items) (map cond_tree b.tests.items)).1 (ap (λ (t : InjectionTree). t.tests) e),
  ),
)
