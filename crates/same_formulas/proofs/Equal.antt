-- Formulas that are the same are equal, and equal ones are the same.
use Rattle.std.proofs.Common.{◌≡◌, ◌↔◌, refl, subst}
use Rattle.path_formula.specs.Formulas.{FormulaTree, always, compared, belongs, all_of, any_of, opposite, Formulas, no_formulas, formula}
use Rattle.same_formulas.specs.Same.{AllSame, AreSame}

mutual
  equal_if : (f g : FormulaTree) → AreSame f g → f ≡ g
  equal_if (always t) (always u) h = λ i. always (h i)
  equal_if (always t) (compared q c d) h = absurd h
  equal_if (always t) (belongs c z) h = absurd h
  equal_if (always t) (all_of gs) h = absurd h
  equal_if (always t) (any_of gs) h = absurd h
  equal_if (always t) (opposite g) h = absurd h
  equal_if (compared r a b) (always u) h = absurd h
  equal_if (compared r a b) (compared q c d) h = λ i. compared (h.0 i) (h.1 i) (h.2 i)
  equal_if (compared r a b) (belongs c z) h = absurd h
  equal_if (compared r a b) (all_of gs) h = absurd h
  equal_if (compared r a b) (any_of gs) h = absurd h
  equal_if (compared r a b) (opposite g) h = absurd h
  equal_if (belongs a s) (always u) h = absurd h
  equal_if (belongs a s) (compared q c d) h = absurd h
  equal_if (belongs a s) (belongs c z) h = λ i. belongs (h.0 i) (h.1 i)
  equal_if (belongs a s) (all_of gs) h = absurd h
  equal_if (belongs a s) (any_of gs) h = absurd h
  equal_if (belongs a s) (opposite g) h = absurd h
  equal_if (all_of fs) (always u) h = absurd h
  equal_if (all_of fs) (compared q c d) h = absurd h
  equal_if (all_of fs) (belongs c z) h = absurd h
  equal_if (all_of fs) (all_of gs) h = λ i. all_of (all_equal fs gs h i)
  equal_if (all_of fs) (any_of gs) h = absurd h
  equal_if (all_of fs) (opposite g) h = absurd h
  equal_if (any_of fs) (always u) h = absurd h
  equal_if (any_of fs) (compared q c d) h = absurd h
  equal_if (any_of fs) (belongs c z) h = absurd h
  equal_if (any_of fs) (all_of gs) h = absurd h
  equal_if (any_of fs) (any_of gs) h = λ i. any_of (all_equal fs gs h i)
  equal_if (any_of fs) (opposite g) h = absurd h
  equal_if (opposite f) (always u) h = absurd h
  equal_if (opposite f) (compared q c d) h = absurd h
  equal_if (opposite f) (belongs c z) h = absurd h
  equal_if (opposite f) (all_of gs) h = absurd h
  equal_if (opposite f) (any_of gs) h = absurd h
  equal_if (opposite f) (opposite g) h = λ i. opposite (equal_if f g h i)

  all_equal : (fs gs : Formulas) → AllSame fs gs → fs ≡ gs
  all_equal no_formulas no_formulas h = refl
  all_equal no_formulas (formula g gs) h = absurd h
  all_equal (formula f fs) no_formulas h = absurd h
  all_equal (formula f fs) (formula g gs) h = λ i. formula (equal_if f g h.0 i) (all_equal fs gs h.1 i)

mutual
  itself_same : (f : FormulaTree) → AreSame f f
  itself_same (always t) = refl
  itself_same (compared r a b) = (refl, refl, refl)
  itself_same (belongs a s) = (refl, refl)
  itself_same (all_of fs) = all_themselves fs
  itself_same (any_of fs) = all_themselves fs
  itself_same (opposite f) = itself_same f

  all_themselves : (fs : Formulas) → AllSame fs fs
  all_themselves no_formulas = tt
  all_themselves (formula f fs) = (itself_same f, all_themselves fs)

pub same_is_equal : (f g : FormulaTree) → AreSame f g ↔ f ≡ g
same_is_equal f g = (equal_if f g, λ e. subst (AreSame f) e (itself_same f))
