-- From the form of numbers and texts to what they show.
use Rattle.std.proofs.Common.{◌≡◌, ◌≤◌, ◌<◌, ◌^◌, ℕ, ℤ, List, true, Option, Some, None, nat_lt, refl, sym, ap, ◌∙◌, subst, arith}
use Rattle.std.specs.Prelude.{◌&&◌, pos, negsuc, int_lt, option_and_then}
use Rattle.std.proofs.lemmas.Bool.Decides.{nat_tests}
use Rattle.std.proofs.lemmas.Int.{ints}
use Rattle.serde_json.specs.Data.{unsigned, negative, float, Data, null, boolean, number, string, array, object}
use Rattle.serde_json.specs.Find.{as_number, as_str, as_u64, as_i64}
use Rattle.net_check.specs.Network.{Network}
use Rattle.report_shape.specs.declared.part.Part.{Part}
use Rattle.report_shape.specs.declared.part.Part.TheVariants as part
use Rattle.report_shape.specs.Forms.{TextForm, any_text, known}
use Rattle.report_shape.specs.Shape.{form, numbers, texts}
use Rattle.report_shape.specs.Faults.{is_within, text_fits}
use Rattle.run_text.specs.Forms.{count, address_data}
use Rattle.report_names.specs.Names.{knows}
use Rattle.report_forms.specs.Fits.{AddressFits}
use Rattle.path_report.specs.Having.{HasForm}
use Rattle.path_report.proofs.Rows.{unless_true}

-- ---- numbers from 0 on

-- a number of this range
pub record IsCount (least most : ℕ) (d : Data) : Type 0 where
  pub n : ℕ
  pub is : d ≡ count n
  pub low : least ≤ n
  pub high : n ≤ most

at_least : (a b n : ℕ) → is_within (pos a, pos b) (pos n) ≡ true → a ≤ n
at_least a b n h = grind (arith, ints, nat_tests)

at_most : (a b n : ℕ) → is_within (pos a, pos b) (pos n) ≡ true → n ≤ b
at_most a b n h = grind (arith, ints, nat_tests)

no_negative : (a b : ℕ) (z : ℤ) → int_lt z (pos 0) && is_within (pos a, pos b) z ≡ true → ⊥
no_negative a b (pos n) h = grind (arith, ints, nat_tests)
no_negative a b (negsuc n) h = grind (arith, ints, nat_tests)

module _ (net : Network) where
  counted : (p : Part) (a b : ℕ) → form p ≡ numbers (pos a) (pos b) → (d : Data) → HasForm net p d → IsCount a b d
  counted p a b e null h = let g = rw e at h in cc
  counted p a b e (boolean t) h = cc
  counted p a b e (number (unsigned n)) h =
      let g = unless_true (is_within (pos a, pos b) (pos n)) (rw e at h) in
      record { n = n; is = refl; low = at_least a b n g; high = at_most a b n g }
  counted p a b e (number (negative z)) h = absurd (no_negative a b z (unless_true (int_lt z (pos 0) && is_within (pos a, pos b) z) (rw e at h)))
  counted p a b e (number (float x)) h = let g = rw e at h in cc
  counted p a b e (string s) h = let g = rw e at h in cc
  counted p a b e (array ds) h = let g = rw e at h in cc
  counted p a b e (object ms) h = let g = rw e at h in cc

  pub count_form : (d : Data) → HasForm net part.Count d → IsCount 0 18446744073709551615 d
  count_form d h = counted part.Count 0 18446744073709551615 refl d h

  pub id_form : (d : Data) → HasForm net part.Id d → IsCount 0 4294967295 d
  id_form d h = counted part.Id 0 4294967295 refl d h

  pub cases_form : (d : Data) → HasForm net part.Cases d → IsCount 1 18446744073709551615 d
  cases_form d h = counted part.Cases 1 18446744073709551615 refl d h

  pub hops_form : (d : Data) → HasForm net part.Hops d → IsCount 1 256 d
  hops_form d h = counted part.Hops 1 256 refl d h

  pub limit_form : (d : Data) → HasForm net part.Limit d → IsCount 1 100000 d
  limit_form d h = counted part.Limit 1 100000 refl d h

  pub width_form : (d : Data) → HasForm net part.Width d → IsCount 1 128 d
  width_form d h = counted part.Width 1 128 refl d h

  pub version_form : (d : Data) → HasForm net part.Version d → d ≡ count 1
  version_form d h =
      let c = counted part.Version 1 1 refl d h in
      let one : c.n ≡ 1 = omega (arith, c.low, c.high) in
      c.is ∙ ap count one

-- the number that is read of it
pub read_count : (a b : ℕ) (d : Data) (r : Option ℕ) (n : ℕ) → IsCount a b d → r ≡ option_and_then as_u64 (as_number d) → r ≡ Some n → (count n ≡ d) × (a ≤ n) × (n ≤ b)
read_count a b d r n c e h =
    let read : option_and_then as_u64 (as_number d) ≡ Some c.n = ap (λ x. option_and_then as_u64 (as_number x)) c.is in
    let same : c.n ≡ n = cc (read, e, h) in
    (ap count (sym same) ∙ sym c.is, subst (λ k. a ≤ k) same c.low, subst (λ k. k ≤ b) same c.high)

pub no_count : (a b : ℕ) (d : Data) (r : Option ℕ) → IsCount a b d → r ≡ option_and_then as_u64 (as_number d) → r ≡ None → ⊥
no_count a b d r c e h =
    let read : option_and_then as_u64 (as_number d) ≡ Some c.n = ap (λ x. option_and_then as_u64 (as_number x)) c.is in
    cc (read, e, h)

-- ---- addresses

-- a whole number of 32 bits
pub record IsAddress (d : Data) : Type 0 where
  pub z : ℤ
  pub is : address_data z ≡ d
  pub read : option_and_then as_i64 (as_number d) ≡ Some z
  pub fits : AddressFits z

low_address : (n : ℕ) → is_within (negsuc 2147483647, pos 2147483647) (pos n) ≡ true → n < 2 ^ 31
low_address n h = grind (arith, ints, nat_tests)

below_zero : (n : ℕ) → int_lt (pos n) (pos 0) && is_within (negsuc 2147483647, pos 2147483647) (pos n) ≡ true → ⊥
below_zero n h = grind (arith, ints, nat_tests)

negative_address : (n : ℕ) → int_lt (negsuc n) (pos 0) && is_within (negsuc 2147483647, pos 2147483647) (negsuc n) ≡ true → n < 2 ^ 31
negative_address n h = grind (arith, ints, nat_tests)

small_address : (n : ℕ) → n < 2 ^ 31 → nat_lt n (2 ^ 63) ≡ true
small_address n h = grind (arith, nat_tests)

module _ (net : Network) where
  pub address_form : (d : Data) → HasForm net part.Address d → IsAddress d
  address_form null h = cc
  address_form (boolean t) h = cc
  address_form (number (unsigned n)) h =
      let low = low_address n (unless_true (is_within (negsuc 2147483647, pos 2147483647) (pos n)) h) in
      record { z = pos n; is = refl; read = rw (small_address n low) refl; fits = low }
  address_form (number (negative (pos n))) h = absurd (below_zero n (unless_true (int_lt (pos n) (pos 0) && is_within (negsuc 2147483647, pos 2147483647) (pos n)) h))
  address_form (number (negative (negsuc n))) h =
      let low = negative_address n (unless_true (int_lt (negsuc n) (pos 0) && is_within (negsuc 2147483647, pos 2147483647) (negsuc n)) h) in
      record { z = negsuc n; is = refl; read = refl; fits = low }
  address_form (number (float x)) h = cc
  address_form (string s) h = cc
  address_form (array ds) h = cc
  address_form (object ms) h = cc

-- ---- texts

module _ (net : Network) where
  pub text_is : (p : Part) (t : TextForm) → form p ≡ texts t → (d : Data) → HasForm net p d → (s : List ℕ) × (d ≡ string s) × (text_fits (knows net) p t s ≡ true)
  text_is p t e null h = let g = rw e at h in cc
  text_is p t e (boolean b) h = cc
  text_is p t e (number n) h = let g = rw e at h in cc
  text_is p t e (string s) h = (s, refl, unless_true (text_fits (knows net) p t s) (rw e at h))
  text_is p t e (array ds) h = let g = rw e at h in cc
  text_is p t e (object ms) h = let g = rw e at h in cc

  pub place_text : (d : Data) → HasForm net part.Place d → (s : List ℕ) × (d ≡ string s) × (knows net part.Place s ≡ true)
  place_text d h = text_is part.Place known refl d h

  pub meta_text : (d : Data) → HasForm net part.MetaName d → (s : List ℕ) × (d ≡ string s) × (knows net part.MetaName s ≡ true)
  meta_text d h = text_is part.MetaName known refl d h

  pub tag_text : (d : Data) → HasForm net part.TagName d → (s : List ℕ) × (d ≡ string s) × (knows net part.TagName s ≡ true)
  tag_text d h = text_is part.TagName known refl d h

  pub any_text_form : (d : Data) → HasForm net part.Text d → (s : List ℕ) × (d ≡ string s) × (true ≡ true)
  any_text_form d h = text_is part.Text any_text refl d h

  -- an owner that is no text is none
  pub owner_null : (d : Data) → HasForm net part.Owner d → as_str d ≡ None → null ≡ d
  owner_null null h e = refl
  owner_null (boolean b) h e = cc
  owner_null (number n) h e = cc
  owner_null (string s) h e = cc
  owner_null (array ds) h e = cc
  owner_null (object ms) h e = cc
