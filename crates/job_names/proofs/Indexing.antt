-- The index of the first row of each text.
use Rattle.std.proofs.Common.{◌≡◌, ℕ, ◌≤◌, Bool, true, false, cond, List, length, drop, Option, Some, None, bytes_eq, refl, sym, ◌∙◌, ap, subst, position}
use Rattle.std.specs.List.{position_from}
use Rattle.std.specs.Map.{keys_of}
use Rattle.std.specs.Option.{option_or, is_some}
use Rattle.std.specs.Ordering.{is_eq, nat_cmp}
use Rattle.std.specs.declared.cmp.Ordering.{Ordering}
use Rattle.std.specs.declared.cmp.Ordering.TheVariants.{Less, Equal, Greater}
use Rattle.std.specs.Cmp.Lexicographic.{slice_cmp, nat_list_eq_equiv}
use Rattle.std.proofs.lemmas.Bool.{false≢true}
use Rattle.std.proofs.lemmas.Iterator.Adapters.{position_from-zero}
use Rattle.std.proofs.lemmas.List.{at_drop_all}
use Rattle.std.proofs.lemmas.Map.Lookups.{exact_bytes}
use Rattle.std.proofs.lemmas.Map.Text.{is_eq-slice_cmp}
use Rattle.job_names.specs.Tables.{at_text}

option_or-none : {A : Type 0} (o : Option A) → option_or o None ≡ o
option_or-none None = refl
option_or-none (Some x) = refl

equal_from : (o : Ordering) → is_eq o ≡ true → o ≡ Equal
equal_from Less h = absurd (false≢true h)
equal_from Equal h = refl
equal_from Greater h = absurd (false≢true h)

is_exact : (a b : List ℕ) → is_eq (slice_cmp nat_cmp a b) ≡ true → a ≡ b
is_exact a b h = exact_bytes a b (equal_from (slice_cmp nat_cmp a b) h)

-- the same test, by the bytes
tested : (a b : List ℕ) → is_eq (slice_cmp nat_cmp a b) ≡ bytes_eq b a
tested a b = is_eq-slice_cmp a b ∙ nat_list_eq_equiv.symm a b

module _ (old : List (List ℕ × ℕ)) (text : List ℕ) (index : ℕ) where
  entered_by : (q : List ℕ) (b : Bool) → is_eq (slice_cmp nat_cmp text q) ≡ b → is_some (at_text old text) ≡ false
      → cond b (Some index) (at_text old q) ≡ option_or (at_text old q) (cond b (Some index) None)
  entered_by q true is none =
      let here : is_some (at_text old q) ≡ false = subst (λ k. is_some (at_text old k) ≡ false) (is_exact text q is) none in absent (at_text old q) here
    where
      absent : (o : Option ℕ) → is_some o ≡ false → Some index ≡ option_or o (Some index)
      absent None h = refl
      absent (Some x) h = absurd (false≢true (sym h))
  entered_by q false is none = sym (option_or-none (at_text old q))

  -- an index that is entered at a text without one
  pub entered : (new : List (List ℕ × ℕ)) (own : List ℕ) → own ≡ text → is_some (at_text old text) ≡ false
      → ((q : List ℕ) → at_text new q ≡ cond (is_eq (slice_cmp nat_cmp own q)) (Some index) (at_text old q))
      → (q : List ℕ) → at_text new q ≡ option_or (at_text old q) (cond (bytes_eq q text) (Some index) None)
  entered new own same none made q =
      made q ∙ ap (λ k. cond (is_eq (slice_cmp nat_cmp k q)) (Some index) (at_text old q)) same
      ∙ entered_by q (is_eq (slice_cmp nat_cmp text q)) refl none
      ∙ ap (λ b. option_or (at_text old q) (cond b (Some index) None)) (tested text q)

  kept_by : (q : List ℕ) (b : Bool) → is_eq (slice_cmp nat_cmp text q) ≡ b → is_some (at_text old text) ≡ true
      → at_text old q ≡ option_or (at_text old q) (cond b (Some index) None)
  kept_by q true is there =
      let here : is_some (at_text old q) ≡ true = subst (λ k. is_some (at_text old k) ≡ true) (is_exact text q is) there in present (at_text old q) here
    where
      present : (o : Option ℕ) → is_some o ≡ true → o ≡ option_or o (Some index)
      present None h = absurd (false≢true h)
      present (Some x) h = refl
  kept_by q false is there = sym (option_or-none (at_text old q))

  -- a text that has an index keeps it
  pub kept : is_some (at_text old text) ≡ true → (q : List ℕ) → at_text old q ≡ option_or (at_text old q) (cond (bytes_eq q text) (Some index) None)
  kept there q =
      kept_by q (is_eq (slice_cmp nat_cmp text q)) refl there ∙ ap (λ b. option_or (at_text old q) (cond b (Some index) None)) (tested text q)

-- no more rows
pub all_entered : (text : List ℕ) (old : Option ℕ) (rows : List (List ℕ × ℕ)) (i : ℕ) → length rows ≤ i
    → option_or old (position_from (bytes_eq text) i (keys_of (drop i rows))) ≡ position_from (bytes_eq text) 0 (keys_of rows)
    → old ≡ position (bytes_eq text) (keys_of rows)
all_entered text old rows i h left =
    sym (option_or-none old)
    ∙ sym (at_drop_all (λ rs. option_or old (position_from (bytes_eq text) i (keys_of rs))) rows i h)
    ∙ left ∙ sym (position_from-zero (bytes_eq text) (keys_of rows))
