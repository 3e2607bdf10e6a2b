-- Paths that clash, one after another.
use Rattle.std.proofs.Common.{◌≡◌, ◌∙◌, ◌<◌, ◌≤◌, inl, inr, ℕ, zero, suc, ◌+◌, ◌-◌, List, [], ◌∷◌, ◌++◌, arith, drop, get_or, length, map, refl, sym, ap, take}
use Rattle.std.proofs.lemmas.List.{take_all}
use Rattle.std.specs.List.{AllByRecursion}
use Rattle.net_check.specs.Network.{Network}
use Rattle.sefl_meaning.specs.declared.walk.End.TheVariants.{Stopped, Delivered, Failed, Cut}
use Rattle.exact_records.specs.Records.{RecordTree, SymStart, path, pruned, unexplored}
use Rattle.compare_meaning.specs.Clashes.{Agree, Clash, FitsAll, IsFirstClash, IsFirstWith, NoneClash}
use Rattle.compare_meaning.specs.Outputs.{exit_of}
use Rattle.compare_meaning.specs.Paths.{DeliveredPath, condition_along, delivered_from}
use Rattle.net_compare.specs.Clashing.{IsWithin, shifted}
use Rattle.net_compare.proofs.Matched.{both_match, matched_is_begun}

-- ---- slices

-- what stands at a place, whatever is put for one that is not there
pub same_there : {A : Type 0} (xs : List A) (n : ℕ) (x y : A) → n < length xs → get_or xs n x ≡ get_or xs n y
same_there [] n x y less = absurd (omega (arith, less))
same_there (z ∷ zs) zero x y less = refl
same_there (z ∷ zs) (suc n) x y less = same_there zs n x y (omega (arith, less))

rest_length : {A : Type 0} (xs : List A) (n : ℕ) → n ≤ length xs → length (drop n xs) + n ≡ length xs
rest_length xs zero less = omega arith
rest_length [] (suc n) less = absurd (omega (arith, less))
rest_length (x ∷ xs) (suc n) less = let rest : length (drop n xs) + n ≡ length xs = rest_length xs n (omega (arith, less)) in omega (arith, rest)

-- what is left, to the end
pub take_rest : {A : Type 0} (xs : List A) (n : ℕ) → n ≤ length xs → take (length xs - n) (drop n xs) ≡ drop n xs
take_rest xs n less = let rest = rest_length xs n less in let all : length (drop n xs) ≤ length xs - n = omega (arith, rest) in take_all (length xs - n) (drop n xs) all

-- ---- the first that clashes with a path

-- what is told of those that are left is so of all
pub record FitsOn (p : DeliveredPath) (all rest : List DeliveredPath) : Type 0 where
  pub none : FitsAll p rest → FitsAll p all
  pub some : (number : ℕ) → IsFirstWith p rest number → IsFirstWith p all number

pub fits_on_first : (p : DeliveredPath) (all : List DeliveredPath) → FitsOn p all all
fits_on_first p all = record { none = λ h. h; some = λ number h. h }

module _ (p : DeliveredPath) (all : List DeliveredPath) (q : DeliveredPath) (rest : List DeliveredPath) (on : FitsOn p all (q ∷ rest)) where
  pub fits_on_next : (Clash p q → ⊥) → FitsOn p all rest
  fits_on_next none = record { none = λ h. on.none (none, h); some = λ number h. on.some number (inr (none, h)) }

  pub clash_here : Clash p q → IsFirstWith p all q.number
  clash_here clash = on.some q.number (inl (clash, refl))

-- ---- the first two

pub record ClashOn (all rest : List DeliveredPath) : Type 0 where
  pub none : NoneClash rest → NoneClash all
  pub some : (one other : ℕ) → IsFirstClash rest one other → IsFirstClash all one other

pub clash_on_first : (all : List DeliveredPath) → ClashOn all all
clash_on_first all = record { none = λ h. h; some = λ one other h. h }

module _ (all : List DeliveredPath) (p : DeliveredPath) (rest : List DeliveredPath) (on : ClashOn all (p ∷ rest)) where
  pub clash_on_next : FitsAll p rest → ClashOn all rest
  clash_on_next fits = record { none = λ h. on.none (fits, h); some = λ one other h. on.some one other (inr (fits, h)) }

  pub first_two_here : (number : ℕ) → IsFirstWith p rest number → IsFirstClash all p.number number
  first_two_here number h = on.some p.number number (inl (refl, h))

-- ---- widths that begin one list

agree_within : (ws : List ℕ) (p q : DeliveredPath) → IsWithin ws p → IsWithin ws q → Agree p q
agree_within ws p q h k =
    (matched_is_begun p.condition.widths q.condition.widths).0 (both_match p.condition.widths q.condition.widths ws h k)

within_fits : (ws : List ℕ) (p : DeliveredPath) (qs : List DeliveredPath) → IsWithin ws p → AllByRecursion (IsWithin ws) qs → FitsAll p qs
within_fits ws p [] h k = tt
within_fits ws p (q ∷ qs) h k = (λ clash. clash.1 (agree_within ws p q h k.0), within_fits ws p qs h k.1)

none_within : (ws : List ℕ) (ps : List DeliveredPath) → AllByRecursion (IsWithin ws) ps → NoneClash ps
none_within ws [] h = tt
none_within ws (p ∷ ps) h = (within_fits ws p ps h.0 h.1, none_within ws ps h.1)

all_join : {A : Type 0} (P : A → Type 0) (xs ys : List A) → AllByRecursion P xs → AllByRecursion P ys → AllByRecursion P (xs ++ ys)
all_join P [] ys h k = k
all_join P (x ∷ xs) ys h k = (h.0, all_join P xs ys h.1 k)

shifted_within : (ws : List ℕ) (shift : ℕ) (ps : List DeliveredPath) → AllByRecursion (IsWithin ws) ps → AllByRecursion (IsWithin ws) (map (shifted shift) ps)
shifted_within ws shift [] h = tt
shifted_within ws shift (p ∷ ps) h = (h.0, shifted_within ws shift ps h.1)

pub within_none_clash : (ws : List ℕ) (shift : ℕ) (ps qs : List DeliveredPath) → AllByRecursion (IsWithin ws) ps → AllByRecursion (IsWithin ws) qs
    → NoneClash (ps ++ map (shifted shift) qs)
within_none_clash ws shift ps qs h k =
    none_within ws (ps ++ map (shifted shift) qs) (all_join (IsWithin ws) ps (map (shifted shift) qs) h (shifted_within ws shift qs k))

-- ---- other numbers

fits_unshifted : (shift : ℕ) (p : DeliveredPath) (qs : List DeliveredPath) → FitsAll p (map (shifted shift) qs) → FitsAll p qs
fits_unshifted shift p [] h = tt
fits_unshifted shift p (q ∷ qs) h = (h.0, fits_unshifted shift p qs h.1)

fits_mixed : (shift : ℕ) (p : DeliveredPath) (ps qs : List DeliveredPath) → FitsAll p (ps ++ map (shifted shift) qs) → FitsAll p (ps ++ qs)
fits_mixed shift p [] qs h = fits_unshifted shift p qs h
fits_mixed shift p (x ∷ ps) qs h = (h.0, fits_mixed shift p ps qs h.1)

none_unshifted : (shift : ℕ) (qs : List DeliveredPath) → NoneClash (map (shifted shift) qs) → NoneClash qs
none_unshifted shift [] h = tt
none_unshifted shift (q ∷ qs) h = (fits_unshifted shift q qs h.0, none_unshifted shift qs h.1)

-- whatever the numbers are, none clash
pub unshifted : (shift : ℕ) (ps qs : List DeliveredPath) → NoneClash (ps ++ map (shifted shift) qs) → NoneClash (ps ++ qs)
unshifted shift [] qs h = none_unshifted shift qs h
unshifted shift (p ∷ ps) qs h = (fits_mixed shift p ps qs h.0, unshifted shift ps qs h.1)

module _ (net : Network) (start : SymStart) (shift : ℕ) where
  later : (number : ℕ) (rs : List RecordTree) → map (shifted shift) (delivered_from net start (suc number) rs) ≡ delivered_from net start (suc number + shift) rs
      → map (shifted shift) (delivered_from net start (suc number) rs) ≡ delivered_from net start (suc (number + shift)) rs
  later number rs e = let same : suc number + shift ≡ suc (number + shift) = omega arith in e ∙ ap (λ n. delivered_from net start n rs) same

  -- the paths of records that are numbered on
  pub shift_delivered : (number : ℕ) (rs : List RecordTree) → map (shifted shift) (delivered_from net start number rs) ≡ delivered_from net start (number + shift) rs
  shift_delivered number [] = refl
  shift_delivered number (path ds places Stopped fields verdict ∷ rs) = later number rs (shift_delivered (suc number) rs)
  shift_delivered number (path ds places Delivered fields verdict ∷ rs) =
      ap (λ ps. record { number = number + shift; exit = exit_of net places; heads = fields.heads; condition = condition_along start ds } ∷ ps)
      (later number rs (shift_delivered (suc number) rs))
  shift_delivered number (path ds places (Failed failure site) fields verdict ∷ rs) = later number rs (shift_delivered (suc number) rs)
  shift_delivered number (path ds places Cut fields verdict ∷ rs) = later number rs (shift_delivered (suc number) rs)
  shift_delivered number (pruned ds before refutation ∷ rs) = later number rs (shift_delivered (suc number) rs)
  shift_delivered number (unexplored ds ∷ rs) = later number rs (shift_delivered (suc number) rs)
