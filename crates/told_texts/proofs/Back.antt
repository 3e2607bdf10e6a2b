-- What a value of JSON shows.
use Rattle.std.proofs.Common.{◌≡◌, ◌<◌, ◌^◌, ℕ, ℤ, List, [], ◌∷◌, map, Bool, true, false, refl, arith, nat_lt}
use Rattle.std.specs.Prelude.{pos, negsuc, decimal, if◌then◌else◌, option_and_then, unwrap_or}
use Rattle.std.specs.List.{AllByRecursion}
use Rattle.std.specs.Str.Parse.{digits_value}
use Rattle.std.proofs.lemmas.Fmt.{decimal_is_IsNumeral_wide}
use Rattle.serde_json.specs.Data.{Data, null, boolean, number, string, array, object, Items, no_items, item}
use Rattle.serde_json.specs.Find.{get, at, as_number, as_str, as_array, as_integer, as_u64}
use Rattle.serde_json.specs.View.{items_of}
use Rattle.run_text.specs.Forms.{count, value_data, values_data, address_data}
use Rattle.report_forms.specs.Fits.{Fit128}
use Rattle.ask_command.specs.Texts.{counts_data}
use Rattle.told_texts.specs.Ranges.{Fit64}

abbrev pub member_back : List ℕ → Data → Data
member_back k d = unwrap_or (get k d) null

abbrev pub item_back : ℕ → Data → Data
item_back i d = unwrap_or (at i d) null

abbrev pub number_back : Data → ℕ
number_back null = 0
number_back (boolean b) = 0
number_back (number n) = unwrap_or (as_u64 n) 0
number_back (string s) = digits_value 10 s
number_back (array ds) = 0
number_back (object ms) = 0

abbrev pub whole_back : Data → ℤ
whole_back d = unwrap_or (option_and_then as_integer (as_number d)) (pos 0)

abbrev pub text_back : Data → List ℕ
text_back d = unwrap_or (as_str d) []

abbrev pub items_back : {B : Type 0} → (Data → B) → Items → List B
items_back f no_items = []
items_back f (item d ds) = f d ∷ items_back f ds

abbrev pub list_back : {B : Type 0} → (Data → B) → Data → List B
list_back f d = items_back f (unwrap_or (as_array d) no_items)

abbrev pub numbers_back : Data → List ℕ
numbers_back = list_back number_back

module _ {A B : Type 0} (shown : A → Data) (back : Data → B) (told : A → B) (Fits : A → Type 0) (one : (a : A) → Fits a → back (shown a) ≡ told a) where
  pub told_back : (xs : List A) → AllByRecursion Fits xs → items_back back (items_of (map shown xs)) ≡ map told xs
  told_back [] h = refl
  told_back (x ∷ xs) h = λ i. one x h.0 i ∷ told_back xs h.1 i

module _ {A : Type 0} (shown : A → Data) (back : Data → A) (Fits : A → Type 0) (one : (a : A) → Fits a → back (shown a) ≡ a) where
  pub all_back : (xs : List A) → AllByRecursion Fits xs → items_back back (items_of (map shown xs)) ≡ xs
  all_back [] h = refl
  all_back (x ∷ xs) h = λ i. one x h.0 i ∷ all_back xs h.1 i

pub whole_is : (z : ℤ) → whole_back (address_data z) ≡ z
whole_is (pos n) = refl
whole_is (negsuc n) = refl

value_by : (n : ℕ) (b : Bool) → n < 2 ^ 128 → number_back (if b then count n else string (decimal n)) ≡ n
value_by n true h = refl
value_by n false h = (decimal_is_IsNumeral_wide n (omega arith)).1

pub value_is : (n : ℕ) → n < 2 ^ 128 → number_back (value_data n) ≡ n
value_is n h = value_by n (nat_lt n (2 ^ 64)) h

pub values_is : (ns : List ℕ) → Fit128 ns → numbers_back (values_data ns) ≡ ns
unfolding values_data
values_is ns h = all_back value_data number_back (λ n. n < 2 ^ 128) value_is ns h

pub counts_is : (ns : List ℕ) → Fit64 ns → numbers_back (counts_data ns) ≡ ns
unfolding counts_data
counts_is ns h = all_back count number_back (λ n. n < 2 ^ 64) (λ n low. refl) ns h
