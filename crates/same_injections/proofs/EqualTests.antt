-- Tests that are the same are equal, and equal ones are the same.
use Rattle.std.proofs.Common.{◌≡◌, ◌↔◌, List, [], ◌∷◌, refl, subst}
use Rattle.sefl_syntax.specs.Trees.{CondTree, CondTrees, ExprTree, SummandTrees, all_of, always, any_of, compare, cond_and, constant, member, negation, no_conds, no_summands, reading, sum, summand}
use Rattle.sefl_syntax.specs.Views.{conds_of}
use Rattle.same_injections.specs.SameTests.{SameCond, SameConds, SameExpr, SameSummands}

mutual
  expr_equal : (e f : ExprTree) → SameExpr e f → e ≡ f
  expr_equal (constant n) (constant m) h = λ i. constant (h i)
  expr_equal (constant n) (reading u) h = absurd h
  expr_equal (constant n) (sum g ns) h = absurd h
  expr_equal (reading t) (constant m) h = absurd h
  expr_equal (reading t) (reading u) h = λ i. reading (h i)
  expr_equal (reading t) (sum g ns) h = absurd h
  expr_equal (sum f ms) (constant m) h = absurd h
  expr_equal (sum f ms) (reading u) h = absurd h
  expr_equal (sum f ms) (sum g ns) h = λ i. sum (expr_equal f g h.0 i) (summands_equal ms ns h.1 i)

  summands_equal : (ms ns : SummandTrees) → SameSummands ms ns → ms ≡ ns
  summands_equal no_summands no_summands h = refl
  summands_equal no_summands (summand t f ns) h = absurd h
  summands_equal (summand s e ms) no_summands h = absurd h
  summands_equal (summand s e ms) (summand t f ns) h = λ i. summand (h.0 i) (expr_equal e f h.1 i) (summands_equal ms ns h.2 i)

mutual
  expr_itself : (e : ExprTree) → SameExpr e e
  expr_itself (constant n) = refl
  expr_itself (reading t) = refl
  expr_itself (sum f ms) = (expr_itself f, summands_themselves ms)

  summands_themselves : (ms : SummandTrees) → SameSummands ms ms
  summands_themselves no_summands = tt
  summands_themselves (summand s e ms) = (refl, expr_itself e, summands_themselves ms)

mutual
  cond_equal : (c d : CondTree) → SameCond c d → c ≡ d
  cond_equal always always h = refl
  cond_equal always (compare q x y) h = absurd h
  cond_equal always (member f ss) h = absurd h
  cond_equal always (all_of ds) h = absurd h
  cond_equal always (any_of ds) h = absurd h
  cond_equal always (negation d) h = absurd h
  cond_equal (compare r a b) always h = absurd h
  cond_equal (compare r a b) (compare q x y) h = λ i. compare (h.0 i) (expr_equal a x h.1 i) (expr_equal b y h.2 i)
  cond_equal (compare r a b) (member f ss) h = absurd h
  cond_equal (compare r a b) (all_of ds) h = absurd h
  cond_equal (compare r a b) (any_of ds) h = absurd h
  cond_equal (compare r a b) (negation d) h = absurd h
  cond_equal (member e rs) always h = absurd h
  cond_equal (member e rs) (compare q x y) h = absurd h
  cond_equal (member e rs) (member f ss) h = λ i. member (expr_equal e f h.0 i) (h.1 i)
  cond_equal (member e rs) (all_of ds) h = absurd h
  cond_equal (member e rs) (any_of ds) h = absurd h
  cond_equal (member e rs) (negation d) h = absurd h
  cond_equal (all_of cs) always h = absurd h
  cond_equal (all_of cs) (compare q x y) h = absurd h
  cond_equal (all_of cs) (member f ss) h = absurd h
  cond_equal (all_of cs) (all_of ds) h = λ i. all_of (conds_equal cs ds h i)
  cond_equal (all_of cs) (any_of ds) h = absurd h
  cond_equal (all_of cs) (negation d) h = absurd h
  cond_equal (any_of cs) always h = absurd h
  cond_equal (any_of cs) (compare q x y) h = absurd h
  cond_equal (any_of cs) (member f ss) h = absurd h
  cond_equal (any_of cs) (all_of ds) h = absurd h
  cond_equal (any_of cs) (any_of ds) h = λ i. any_of (conds_equal cs ds h i)
  cond_equal (any_of cs) (negation d) h = absurd h
  cond_equal (negation c) always h = absurd h
  cond_equal (negation c) (compare q x y) h = absurd h
  cond_equal (negation c) (member f ss) h = absurd h
  cond_equal (negation c) (all_of ds) h = absurd h
  cond_equal (negation c) (any_of ds) h = absurd h
  cond_equal (negation c) (negation d) h = λ i. negation (cond_equal c d h i)

  conds_equal : (cs ds : CondTrees) → SameConds cs ds → cs ≡ ds
  conds_equal no_conds no_conds h = refl
  conds_equal no_conds (cond_and d ds) h = absurd h
  conds_equal (cond_and c cs) no_conds h = absurd h
  conds_equal (cond_and c cs) (cond_and d ds) h = λ i. cond_and (cond_equal c d h.0 i) (conds_equal cs ds h.1 i)

mutual
  cond_itself : (c : CondTree) → SameCond c c
  cond_itself always = tt
  cond_itself (compare r a b) = (refl, expr_itself a, expr_itself b)
  cond_itself (member e rs) = (expr_itself e, refl)
  cond_itself (all_of cs) = conds_themselves cs
  cond_itself (any_of cs) = conds_themselves cs
  cond_itself (negation c) = cond_itself c

  conds_themselves : (cs : CondTrees) → SameConds cs cs
  conds_themselves no_conds = tt
  conds_themselves (cond_and c cs) = (cond_itself c, conds_themselves cs)

-- lists of tests are equal where their chains are the same, and the other way
listed_equal : (cs ds : List CondTree) → SameConds (conds_of cs) (conds_of ds) → cs ≡ ds
listed_equal [] [] h = refl
listed_equal [] (d ∷ ds) h = absurd h
listed_equal (c ∷ cs) [] h = absurd h
listed_equal (c ∷ cs) (d ∷ ds) h = λ i. cond_equal c d h.0 i ∷ listed_equal cs ds h.1 i

pub same_tests : (cs ds : List CondTree) → SameConds (conds_of cs) (conds_of ds) ↔ cs ≡ ds
same_tests cs ds = (listed_equal cs ds, λ e. subst (λ ts. SameConds (conds_of cs) (conds_of ts)) e (conds_themselves (conds_of cs)))
