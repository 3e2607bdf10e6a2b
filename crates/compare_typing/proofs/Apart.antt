-- Domains that are apart.
use Rattle.std.proofs.Common.{◌≡◌, ℕ, suc, ◌+◌, inl, inr, Bool, true, false, true≢false, ◌&&◌, List, [], ◌∷◌, ◌++◌, refl, ap, subst, ◌∙◌, Some, slice_get, slice_index, if◌then◌else◌, arith}
use Rattle.std.specs.List.{list_all}
use Rattle.sn_width.specs.declared.ids.SymId.{SymId}
use Rattle.sn_ranges.specs.Ranges.{fits_width}
use Rattle.path_formula.specs.Formulas.{FormulaTree}
use Rattle.path_formula.specs.Solutions.{alone}
use Rattle.path_cond.specs.Seen.{AllTyped, entry_holds, in_domain, is_entry_on, itself, meets, picks_from, simple_picks}
use Rattle.path_cond.specs.Choices.{is_simple_pick, passes, pick_holds}
use Rattle.refutation_check.specs.Longer.{with_entries}
use Rattle.refutation_check.specs.Seen.{HasEmptyDomain, IsUnmeetable}
use Rattle.refutation_check.specs.Trees.{AcceptedRefute}
use Rattle.refutation_check.specs.declared.steps.Refute.TheVariants.{Empty}
use Rattle.exact_records.specs.Records.{SymCondition}
use Rattle.compare_meaning.specs.Facing.{IsImpossible, joined}
use Rattle.compare_typing.specs.Typing.{ApartDomainsRefute, EmptyStays}
use Rattle.compare_typing.proofs.Typed.{StayTyped, joined_typed}
use Rattle.compare_typing.proofs.Widths.{begun_index, begun_length, both_begin}

both : (a b : Bool) → a ≡ true → b ≡ true → (a && b) ≡ true
both a b h k = λ i. h i && k i

-- the picks of a symbol's simple formulas are such, and meeting them is being in the domain
module _ (c : SymCondition) (s : SymId) (values : List ℕ) where
  abbrev At : ℕ → List (FormulaTree × Bool) → Type 0
  At n es = (k : ℕ) → slice_get c.entries (n + k) ≡ slice_get es k

  here : (n : ℕ) (e : FormulaTree × Bool) (es : List (FormulaTree × Bool)) → At n (e ∷ es) → slice_get c.entries n ≡ Some e
  here n e es at = ap (slice_get c.entries) (omega arith) ∙ at 0

  later : (n : ℕ) (e : FormulaTree × Bool) (es : List (FormulaTree × Bool)) → At n (e ∷ es) → At (suc n) es
  later n e es at = λ k. ap (slice_get c.entries) (omega arith) ∙ at (suc k)

  simple_from : (n : ℕ) (es : List (FormulaTree × Bool)) → At n es → list_all (is_simple_pick itself s c) (picks_from itself s n es) ≡ true
  simple_from n [] at = refl
  simple_from n (e ∷ es) at = by (is_entry_on itself s e) refl (simple_from (suc n) es (later n e es at))
    where
      by : (b : Bool) → is_entry_on itself s e ≡ b → list_all (is_simple_pick itself s c) (picks_from itself s (suc n) es) ≡ true
          → list_all (is_simple_pick itself s c) (if b then n ∷ picks_from itself s (suc n) es else picks_from itself s (suc n) es) ≡ true
      by true h rest =
          both (is_simple_pick itself s c n) (list_all (is_simple_pick itself s c) (picks_from itself s (suc n) es))
          (ap (passes (is_entry_on itself s)) (here n e es at) ∙ h) rest
      by false h rest = rest

  meets_from : (n : ℕ) (es : List (FormulaTree × Bool)) → At n es
      → list_all (pick_holds itself c values) (picks_from itself s n es) ≡ list_all (meets itself s values) es
  meets_from n [] at = refl
  meets_from n (e ∷ es) at = by (is_entry_on itself s e) (meets_from (suc n) es (later n e es at))
    where
      by : (b : Bool) → list_all (pick_holds itself c values) (picks_from itself s (suc n) es) ≡ list_all (meets itself s values) es
          → list_all (pick_holds itself c values) (if b then n ∷ picks_from itself s (suc n) es else picks_from itself s (suc n) es)
          ≡ ((if b then entry_holds itself values e else true) && list_all (meets itself s values) es)
      by true rest =
          let first : pick_holds itself c values n ≡ entry_holds itself values e = ap (passes (entry_holds itself values)) (here n e es at) in
          λ i. first i && rest i
      by false rest = rest

pub empty_refuted : AcceptedRefute itself → (c : SymCondition) → AllTyped itself c.widths c.entries → HasEmptyDomain itself c → IsImpossible c
empty_refuted refute c typed h =
    let s = h.symbol in
    let picks = simple_picks itself s c in
    let at : (k : ℕ) → slice_get c.entries (0 + k) ≡ slice_get c.entries k = λ k. ap (slice_get c.entries) (omega arith) in
    let unmeetable : IsUnmeetable itself c s picks = record {
      known = h.known;
      simple = simple_from c s [] 0 c.entries at;
      no_value = λ value.
          ap (λ b. fits_width (slice_index c.widths s.0) value && b) (meets_from c s (alone s value) 0 c.entries at) ∙ h.no_value value;
    } in
    record { refuted = inl (inr h); never = λ values. refute c (Empty s picks ∷ []) values typed ([], (unmeetable, refl), tt) }

-- ---- more formulas

all_append : {A : Type 0} (p : A → Bool) (xs ys : List A) → list_all p (xs ++ ys) ≡ (list_all p xs && list_all p ys)
all_append p [] ys = refl
all_append p (x ∷ xs) ys = ap (λ b. p x && b) (all_append p xs ys) ∙ and_three (p x) (list_all p xs) (list_all p ys)
  where
    and_three : (a b c : Bool) → (a && (b && c)) ≡ ((a && b) && c)
    and_three true b c = refl
    and_three false b c = refl

still_false : (f a b : Bool) → (f && a) ≡ false → (f && (a && b)) ≡ false
still_false true true b h = absurd (true≢false h)
still_false true false b h = refl
still_false false a b h = refl

pub empty_stays : (c : SymCondition) (es : List (FormulaTree × Bool)) → HasEmptyDomain itself c → HasEmptyDomain itself (with_entries c es)
empty_stays c es h = record {
  symbol = h.symbol;
  known = h.known;
  no_value = λ value.
      let fits = fits_width (slice_index c.widths h.symbol.0) value in
      ap (λ b. fits && b) (all_append (meets itself h.symbol (alone h.symbol value)) c.entries es)
      ∙ still_false fits (in_domain itself h.symbol c value) (list_all (meets itself h.symbol (alone h.symbol value)) es) (h.no_value value);
}

-- ---- two conditions

neither : (f a b : Bool) → ((f && a) ≡ true → (f && b) ≡ true → ⊥) → (f && (a && b)) ≡ false
neither true true true h = absurd (h refl refl)
neither true true false h = refl
neither true false b h = refl
neither false a b h = refl

pub apart_refutes : StayTyped → AcceptedRefute itself → ApartDomainsRefute
apart_refutes stay refute p q s agree h k in_p in_q apart =
    let begin = both_begin p.condition.widths q.condition.widths agree in
    let ws = (joined p q).widths in
    let first : slice_index ws s.0 ≡ slice_index p.condition.widths s.0 = begun_index p.condition.widths ws s.0 begin.0 in_p in
    let second : slice_index ws s.0 ≡ slice_index q.condition.widths s.0 = begun_index q.condition.widths ws s.0 begin.1 in_q in
    let empty : HasEmptyDomain itself (joined p q) = record {
      symbol = s;
      known = begun_length p.condition.widths ws s.0 begin.0 in_p;
      no_value = λ value.
          let test = meets itself s (alone s value) in
          ap (λ b. fits_width (slice_index ws s.0) value && b) (all_append test p.condition.entries q.condition.entries)
          ∙ neither (fits_width (slice_index ws s.0) value) (list_all test p.condition.entries) (list_all test q.condition.entries)
          (λ x y.
          apart value (subst (λ w. (fits_width w value && in_domain itself s p.condition value) ≡ true) first x)
          (subst (λ w. (fits_width w value && in_domain itself s q.condition value) ≡ true) second y));
    } in
    empty_refuted refute (joined p q) (joined_typed stay p q agree h k) empty

pub stays : AcceptedRefute itself → EmptyStays
stays refute = record { more = empty_stays; refuted = empty_refuted refute }
