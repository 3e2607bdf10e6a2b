-- Lists of widths that begin one another.
use Rattle.std.proofs.Common.{◌≡◌, ◌⊎◌, ℕ, zero, suc, ◌<◌, inl, inr, Bool, true, false, nat_lt, ◌==◌, List, [], ◌∷◌, ◌++◌, length, refl, sym, ap, subst, ◌∙◌, slice_index, if◌then◌else◌, arith}
use Rattle.std.proofs.lemmas.Bool.Decides.{nat_tests}
use Rattle.std.proofs.lemmas.Map.Views.{exact_unsigned_eq}
use Rattle.std.specs.List.{AllByRecursion}
use Rattle.compare_meaning.specs.Clashes.{Agree, Begins}
use Rattle.compare_meaning.specs.Facing.{longer, longest}
use Rattle.compare_meaning.specs.Paths.{DeliveredPath}
use Rattle.compare_typing.specs.Typing.{NoClashAgrees, PairsAgree}

append_nil : {A : Type 0} (xs : List A) → xs ++ [] ≡ xs
append_nil [] = refl
append_nil (x ∷ xs) = ap (λ zs. x ∷ zs) (append_nil xs)

append_three : {A : Type 0} (xs ys zs : List A) → (xs ++ ys) ++ zs ≡ xs ++ (ys ++ zs)
append_three [] ys zs = refl
append_three (x ∷ xs) ys zs = ap (λ ws. x ∷ ws) (append_three xs ys zs)

pub begins_itself : (ws : List ℕ) → Begins ws ws
begins_itself ws = ([], append_nil ws)

pub begins_on : (us ws vs : List ℕ) → Begins us ws → Begins ws vs → Begins us vs
begins_on us ws vs h k = (h.0 ++ k.0, sym (append_three us h.0 k.0) ∙ (ap (λ z. z ++ k.0) h.1 ∙ k.1))

-- a list that begins one that is not longer is that one
not_longer : (ws vs : List ℕ) → Begins ws vs → nat_lt (length ws) (length vs) ≡ false → Begins vs ws
not_longer ws vs h k = by h.0 h.1
  where
    ends : (xs rest : List ℕ) → nat_lt (length xs) (length (xs ++ rest)) ≡ false → rest ≡ []
    ends [] [] e = refl
    ends [] (r ∷ rest) e = absurd (grind (arith, nat_tests))
    ends (x ∷ xs) rest e = ends xs rest (grind (arith, nat_tests))

    by : (rest : List ℕ) → ws ++ rest ≡ vs → Begins vs ws
    by rest e =
        let none : rest ≡ [] = ends ws rest (subst (λ z. nat_lt (length ws) (length z) ≡ false) (sym e) k) in
        ([], append_nil vs ∙ (sym e ∙ (ap (λ z. ws ++ z) none ∙ append_nil ws)))

longer_than : (ws vs : List ℕ) → Begins vs ws → nat_lt (length ws) (length vs) ≡ true → Begins ws vs
longer_than ws vs h k = absurd (by h.0 h.1)
  where
    grows : (xs rest : List ℕ) → nat_lt (length (xs ++ rest)) (length xs) ≡ true → ⊥
    grows [] rest e = grind (arith, nat_tests)
    grows (x ∷ xs) rest e = grows xs rest (grind (arith, nat_tests))

    by : (rest : List ℕ) → vs ++ rest ≡ ws → ⊥
    by rest e = grows vs rest (subst (λ z. nat_lt (length z) (length vs) ≡ true) (sym e) k)

-- two that agree both begin the longer one
pub both_begin : (ws vs : List ℕ) → Begins ws vs ⊎ Begins vs ws → Begins ws (longer ws vs) × Begins vs (longer ws vs)
both_begin ws vs h = by (nat_lt (length ws) (length vs)) refl h
  where
    by : (b : Bool) → nat_lt (length ws) (length vs) ≡ b → Begins ws vs ⊎ Begins vs ws
        → Begins ws (if b then vs else ws) × Begins vs (if b then vs else ws)
    by true e (inl k) = (k, begins_itself vs)
    by true e (inr k) = (longer_than ws vs k e, begins_itself vs)
    by false e (inl k) = (begins_itself ws, not_longer ws vs k e)
    by false e (inr k) = (begins_itself ws, k)

-- the longer of two agrees with what both agree with
longer_agrees : (ws vs us : List ℕ) → Begins ws us ⊎ Begins us ws → Begins vs us ⊎ Begins us vs → Begins (longer ws vs) us ⊎ Begins us (longer ws vs)
longer_agrees ws vs us h k = by (nat_lt (length ws) (length vs))
  where
    by : (b : Bool) → Begins (if b then vs else ws) us ⊎ Begins us (if b then vs else ws)
    by true = k
    by false = h

abbrev AgreesWith : List ℕ → DeliveredPath → Type 0
AgreesWith ws q = Begins ws q.condition.widths ⊎ Begins q.condition.widths ws

all_agree : (ws : List ℕ) (q : DeliveredPath) (qs : List DeliveredPath) → AllByRecursion (AgreesWith ws) qs → AllByRecursion (Agree q) qs
    → AllByRecursion (AgreesWith (longer ws q.condition.widths)) qs
all_agree ws q [] h k = tt
all_agree ws q (x ∷ qs) h k = (longer_agrees ws q.condition.widths x.condition.widths h.0 k.0, all_agree ws q qs h.1 k.1)

-- all begin the longest
pub record BeginLongest (ws : List ℕ) (qs : List DeliveredPath) : Type 0 where
  pub first : Begins ws (longest ws qs)
  pub others : AllByRecursion (λ q. Begins q.condition.widths (longest ws qs)) qs

pub begin_longest : (ws : List ℕ) (qs : List DeliveredPath) → AllByRecursion (AgreesWith ws) qs → PairsAgree qs → BeginLongest ws qs
begin_longest ws [] h k = record { first = begins_itself ws; others = tt }
begin_longest ws (q ∷ qs) h k =
    let next = longer ws q.condition.widths in
    let here = both_begin ws q.condition.widths h.0 in
    let rest = begin_longest next qs (all_agree ws q qs h.1 k.0) k.1 in
    record {
      first = begins_on ws next (longest next qs) here.0 rest.first;
      others = (begins_on q.condition.widths next (longest next qs) here.1 rest.first, rest.others);
    }

-- ---- widths of symbols

pub front_index : (ws rest : List ℕ) (i : ℕ) → i < length ws → slice_index (ws ++ rest) i ≡ slice_index ws i
front_index [] rest i h = absurd (omega (arith, h))
front_index (w ∷ ws) rest zero h = refl
front_index (w ∷ ws) rest (suc i) h = front_index ws rest i (omega (arith, h))

pub begun_index : (ws vs : List ℕ) (i : ℕ) → Begins ws vs → i < length ws → slice_index vs i ≡ slice_index ws i
begun_index ws vs i h k = ap (λ z. slice_index z i) (sym h.1) ∙ front_index ws h.0 i k

front_length : (ws rest : List ℕ) (i : ℕ) → i < length ws → i < length (ws ++ rest)
front_length [] rest i h = absurd (omega (arith, h))
front_length (w ∷ ws) rest zero h = omega arith
front_length (w ∷ ws) rest (suc i) h = let more : i < length (ws ++ rest) = front_length ws rest i (omega (arith, h)) in omega (arith, more)

pub begun_length : (ws vs : List ℕ) (i : ℕ) → Begins ws vs → i < length ws → i < length vs
begun_length ws vs i h k = subst (λ z. i < length z) h.1 (front_length ws h.0 i k)

-- ---- clashes

begins_or_not : (ws vs : List ℕ) → Begins ws vs ⊎ (Begins ws vs → ⊥)
begins_or_not [] vs = inl (vs, refl)
begins_or_not (w ∷ ws) [] = inr (λ h. let bad : w ∷ (ws ++ h.0) ≡ [] = h.1 in cc)
begins_or_not (w ∷ ws) (v ∷ vs) = by (w == v) refl (begins_or_not ws vs)
  where
    same_here : (rest : List ℕ) → w ∷ (ws ++ rest) ≡ v ∷ vs → w ≡ v
    same_here rest e = cc

    same_later : (rest : List ℕ) → w ∷ (ws ++ rest) ≡ v ∷ vs → ws ++ rest ≡ vs
    same_later rest e = cc

    by : (b : Bool) → (w == v) ≡ b → Begins ws vs ⊎ (Begins ws vs → ⊥) → Begins (w ∷ ws) (v ∷ vs) ⊎ (Begins (w ∷ ws) (v ∷ vs) → ⊥)
    by true e (inl h) = let same : w ≡ v = exact_unsigned_eq w v e in inl (h.0, λ i. same i ∷ h.1 i)
    by true e (inr h) = inr (λ k. h (k.0, same_later k.0 k.1))
    by false e h = inr (λ k. let same : w ≡ v = same_here k.0 k.1 in absurd (grind (arith, nat_tests)))

pub no_clash_agrees : NoClashAgrees
no_clash_agrees p q none exit = by (begins_or_not p.condition.widths q.condition.widths) (begins_or_not q.condition.widths p.condition.widths)
  where
    by : Begins p.condition.widths q.condition.widths ⊎ (Begins p.condition.widths q.condition.widths → ⊥)
        → Begins q.condition.widths p.condition.widths ⊎ (Begins q.condition.widths p.condition.widths → ⊥) → Agree p q
    by (inl h) k = inl h
    by (inr h) (inl k) = inr k
    by (inr h) (inr k) = absurd (none (exit, λ agree. elim agree [ inl x ↦ h x | inr x ↦ k x ]))
