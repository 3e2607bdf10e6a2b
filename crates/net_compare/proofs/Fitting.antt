-- Paths fit together where no two clash.
use Rattle.std.proofs.Common.{◌≡◌, ◌<◌, inl, inr, ℕ, zero, suc, List, [], ◌∷◌, ◌++◌, arith, get_or, length, map, sym, subst}
use Rattle.std.specs.List.{AllByRecursion}
use Rattle.compare_meaning.specs.Clashes.{Agree, FitsAll, NoneClash}
use Rattle.compare_meaning.specs.Paths.{DeliveredPath}
use Rattle.compare_typing.specs.Typing.{NoClashAgrees}
use Rattle.net_compare.specs.Facings.{AllFit, FitTogether, FitsWith}

-- what holds of all holds of the one at a place
pub all_there : {A : Type 0} (P : A → Type 0) (xs : List A) (n : ℕ) (d : A) → n < length xs → AllByRecursion P xs → P (get_or xs n d)
all_there P [] n d less h = absurd (omega (arith, less))
all_there P (x ∷ xs) zero d less h = h.0
all_there P (x ∷ xs) (suc n) d less h = all_there P xs n d (omega (arith, less)) h.1

pub all_here : {A : Type 0} (P : A → Type 0) (xs : List A) (n : ℕ) (d : A) → n < length xs → d ≡ get_or xs n d → AllByRecursion P xs → P d
all_here P xs n d less is h = subst P (sym is) (all_there P xs n d less h)

-- and of what they are mapped to
pub all_mapped : {A B : Type 0} (f : A → B) (P : B → Type 0) (xs : List A) → AllByRecursion P (map f xs) → AllByRecursion (λ x. P (f x)) xs
all_mapped f P [] h = tt
all_mapped f P (x ∷ xs) h = (h.0, all_mapped f P xs h.1)

turned : (p q : DeliveredPath) → FitsWith p q → FitsWith q p
turned p q h e = by (h (sym e))
  where
    by : Agree p q → Agree q p
    by (inl k) = inr k
    by (inr k) = inl k

module _ (agrees : NoClashAgrees) where
  fits_all : (p : DeliveredPath) (qs : List DeliveredPath) → FitsAll p qs → AllByRecursion (FitsWith p) qs
  fits_all p [] h = tt
  fits_all p (q ∷ qs) h = (λ e. agrees p q h.0 e, fits_all p qs h.1)

  pub together : (ps : List DeliveredPath) → NoneClash ps → FitTogether ps
  together [] h = tt
  together (p ∷ ps) h = (fits_all p ps h.0, together ps h.1)

all_first : {A : Type 0} (P : A → Type 0) (xs ys : List A) → AllByRecursion P (xs ++ ys) → AllByRecursion P xs
all_first P [] ys h = tt
all_first P (x ∷ xs) ys h = (h.0, all_first P xs ys h.1)

all_last : {A : Type 0} (P : A → Type 0) (xs ys : List A) → AllByRecursion P (xs ++ ys) → AllByRecursion P ys
all_last P [] ys h = h
all_last P (x ∷ xs) ys h = all_last P xs ys h.1

pub together_first : (ps qs : List DeliveredPath) → FitTogether (ps ++ qs) → FitTogether ps
together_first [] qs h = tt
together_first (p ∷ ps) qs h = (all_first (FitsWith p) ps qs h.0, together_first ps qs h.1)

pub together_last : (ps qs : List DeliveredPath) → FitTogether (ps ++ qs) → FitTogether qs
together_last [] qs h = h
together_last (p ∷ ps) qs h = together_last ps qs h.1

pub first_fit_last : (ps qs : List DeliveredPath) → FitTogether (ps ++ qs) → AllFit qs ps
first_fit_last [] qs h = tt
first_fit_last (p ∷ ps) qs h = (all_last (FitsWith p) ps qs h.0, first_fit_last ps qs h.1)

no_fit : (ps : List DeliveredPath) → AllFit [] ps
no_fit [] = tt
no_fit (p ∷ ps) = (tt, no_fit ps)

-- each of those with each of these
fit_column : (q : DeliveredPath) (qs ps : List DeliveredPath) → AllFit (q ∷ qs) ps → AllByRecursion (FitsWith q) ps
fit_column q qs [] h = tt
fit_column q qs (p ∷ ps) h = (turned p q h.0.0, fit_column q qs ps h.1)

fit_columns : (q : DeliveredPath) (qs ps : List DeliveredPath) → AllFit (q ∷ qs) ps → AllFit qs ps
fit_columns q qs [] h = tt
fit_columns q qs (p ∷ ps) h = (h.0.1, fit_columns q qs ps h.1)

pub fit_turned : (ps qs : List DeliveredPath) → AllFit qs ps → AllFit ps qs
fit_turned ps [] h = tt
fit_turned ps (q ∷ qs) h = (fit_column q qs ps h, fit_turned ps qs (fit_columns q qs ps h))
