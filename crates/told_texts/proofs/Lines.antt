-- A line of compact JSON whose numbers have 64 bits and whose keys ascend has one value.
use Rattle.std.proofs.Common.{◌≡◌, ◌<◌, ◌≤◌, ◌^◌, ℕ, ℤ, suc, max, List, [], ◌∷◌, ◌++◌, map, Bool, true, false, Option, Some, Ordering, Less, Equal, Greater, nat_cmp, nat_lt, refl, sym, ap, ◌∙◌, arith}
use Rattle.std.specs.Prelude.{◌&&◌, pos, negsuc, decimal, if◌then◌else◌, unwrap_or}
use Rattle.std.specs.Cmp.Lexicographic.{slice_cmp}
use Rattle.std.specs.List.{AllByRecursion}
use Rattle.std.proofs.lemmas.Bool.Decides.{nat_tests}
use Rattle.serde_json.specs.Data.{Data, null, string, array, object, Items, no_items, item, Members, no_members, member, depth, items_depth, members_depth}
use Rattle.serde_json.specs.Read.{read, max_depth}
use Rattle.serde_json.specs.View.{items_of}
use Rattle.serde_json.specs.Written.{compact_text}
use Rattle.run_text.specs.Plain.{AllAbove, IsSorted, IsPlain, ArePlain, HasPlain}
use Rattle.run_text.specs.Forms.{list, count, value_data, values_data, address_data}
use Rattle.report_forms.specs.Fits.{AddressFits}

-- the value is read back, and nests to at most this many
pub record IsGood (most : ℕ) (d : Data) : Type 0 where
  pub plain : IsPlain d
  pub shallow : depth d ≤ most

pub record AreGood (most : ℕ) (ds : Items) : Type 0 where
  pub plain : ArePlain ds
  pub shallow : items_depth ds ≤ most

abbrev pub AllGood : ℕ → Members → Type 0
AllGood most no_members = Unit {0}
AllGood most (member k d ms) = IsGood most d × AllGood most ms

none_above : (n : ℕ) → 0 ≤ n
none_above n = omega arith

at_most : (a b n : ℕ) → a ≤ n → b ≤ n → max a b ≤ n
at_most a b n h k = omega arith

both_suc : (a n : ℕ) → a ≤ n → suc a ≤ suc n
both_suc a n h = omega arith

pub deeper : (less more : ℕ) (d : Data) → less ≤ more → IsGood less d → IsGood more d
deeper less more d h k = let deep = k.shallow in record { plain = k.plain; shallow = omega (arith, h, deep) }

-- ---- numbers and texts

pub null_good : (most : ℕ) → IsGood most null
null_good most = record { plain = tt; shallow = none_above most }

pub text_good : (most : ℕ) (s : List ℕ) → IsGood most (string s)
text_good most s = record { plain = tt; shallow = none_above most }

pub count_good : (most n : ℕ) → n < 2 ^ 64 → IsGood most (count n)
count_good most n h = record { plain = h; shallow = none_above most }

-- the version
pub one_good : (most : ℕ) → IsGood most (count 1)
one_good most = count_good most 1 (omega arith)

pub address_good : (most : ℕ) (z : ℤ) → AddressFits z → IsGood most (address_data z)
address_good most (pos n) h = record { plain = omega arith; shallow = none_above most }
address_good most (negsuc n) h = record { plain = omega arith; shallow = none_above most }

below : (a b : ℕ) → nat_lt a b ≡ true → a < b
below a b h = grind (arith, nat_tests)

value_by : (most n : ℕ) (b : Bool) → nat_lt n (2 ^ 64) ≡ b → IsGood most (if b then count n else string (decimal n))
value_by most n true e = count_good most n (below n (2 ^ 64) e)
value_by most n false e = text_good most (decimal n)

pub value_good : (most n : ℕ) → IsGood most (value_data n)
value_good most n = value_by most n (nat_lt n (2 ^ 64)) refl

-- ---- lists

pub end_good : (most : ℕ) → AreGood most no_items
end_good most = record { plain = tt; shallow = none_above most }

pub item_good : (most : ℕ) (d : Data) (ds : Items) → IsGood most d → AreGood most ds → AreGood most (item d ds)
item_good most d ds h k = record { plain = (h.plain, k.plain); shallow = at_most (depth d) (items_depth ds) most h.shallow k.shallow }

pub array_good : (most : ℕ) (ds : Items) → AreGood most ds → IsGood (suc most) (array ds)
array_good most ds h = record { plain = h.plain; shallow = both_suc (items_depth ds) most h.shallow }

module _ {A : Type 0} (shown : A → Data) (Fits : A → Type 0) (most : ℕ) (good : (a : A) → Fits a → IsGood most (shown a)) where
  items_good : (xs : List A) → AllByRecursion Fits xs → AreGood most (items_of (map shown xs))
  items_good [] h = end_good most
  items_good (x ∷ xs) h = item_good most (shown x) (items_of (map shown xs)) (good x h.0) (items_good xs h.1)

  pub list_good : (xs : List A) → AllByRecursion Fits xs → IsGood (suc most) (list (map shown xs))
  list_good xs h = array_good most (items_of (map shown xs)) (items_good xs h)

numbers_good : (most : ℕ) (ns : List ℕ) → AreGood most (items_of (map value_data ns))
numbers_good most [] = end_good most
numbers_good most (n ∷ ns) = item_good most (value_data n) (items_of (map value_data ns)) (value_good most n) (numbers_good most ns)

pub values_good : (most : ℕ) (ns : List ℕ) → IsGood (suc most) (values_data ns)
unfolding values_data
values_good most ns = array_good most (items_of (map value_data ns)) (numbers_good most ns)

-- ---- objects, by a test of their keys

abbrev is_greater : Ordering → Bool
is_greater Less = false
is_greater Equal = false
is_greater Greater = true

abbrev above : List ℕ → Members → Bool
above k no_members = true
above k (member l e ms) = is_greater (slice_cmp nat_cmp l k) && above k ms

abbrev pub ascend : Members → Bool
ascend no_members = true
ascend (member k d ms) = above k ms && ascend ms

both : (a b : Bool) → a && b ≡ true → (a ≡ true) × (b ≡ true)
both true b h = (refl, h)
both false b h = cc

greater : (o : Ordering) → is_greater o ≡ true → o ≡ Greater
greater Less h = cc
greater Equal h = cc
greater Greater h = refl

all_above : (k : List ℕ) (d : Data) (ms : Members) → above k ms ≡ true → AllAbove (member k d no_members) ms
all_above k d no_members h = tt
all_above k d (member l e ms) h =
    let two = both (is_greater (slice_cmp nat_cmp l k)) (above k ms) h in
    ((greater (slice_cmp nat_cmp l k) two.0, tt), all_above k d ms two.1)

sorted : (ms : Members) → ascend ms ≡ true → IsSorted ms
sorted no_members h = tt
sorted (member k d ms) h = let two = both (above k ms) (ascend ms) h in (all_above k d ms two.0, sorted ms two.1)

all_plain : (most : ℕ) (ms : Members) → AllGood most ms → HasPlain ms
all_plain most no_members h = tt
all_plain most (member k d ms) h = (h.0.plain, all_plain most ms h.1)

all_shallow : (most : ℕ) (ms : Members) → AllGood most ms → members_depth ms ≤ most
all_shallow most no_members h = none_above most
all_shallow most (member k d ms) h = at_most (depth d) (members_depth ms) most h.0.shallow (all_shallow most ms h.1)

pub object_good : (most : ℕ) (ms : Members) → ascend ms ≡ true → AllGood most ms → IsGood (suc most) (object ms)
object_good most ms up h =
    record { plain = (sorted ms up, all_plain most ms h); shallow = both_suc (members_depth ms) most (all_shallow most ms h) }

-- ---- one line has one value

abbrev pub ReadsLines : Type 0
ReadsLines = (d : Data) → IsPlain d → depth d ≤ max_depth → read (compact_text d ++ 10 ∷ []) ≡ Some d

line_read : ReadsLines → (most : ℕ) (d : Data) → most ≤ 9 → IsGood most d → read (compact_text d ++ 10 ∷ []) ≡ Some d
line_read lines most d few h = let deep = h.shallow in lines d h.plain (omega (arith, few, deep))

same_data : ReadsLines → (most : ℕ) (d e : Data) → most ≤ 9 → IsGood most d → IsGood most e
    → compact_text d ++ 10 ∷ [] ≡ compact_text e ++ 10 ∷ [] → d ≡ e
same_data lines most d e few h k same =
    ap (λ (o : Option Data). unwrap_or o null) (sym (line_read lines most d few h) ∙ ap read same ∙ line_read lines most e few k)

-- what is shown again of the value of each, and fits, is the same where the lines are
module _ {A B : Type 0} (shown : A → Data) (back : Data → B) (told : A → B) (Fits : A → Type 0) (most : ℕ) (few : most ≤ 9)
    (good : (a : A) → Fits a → IsGood most (shown a)) (one : (a : A) → Fits a → back (shown a) ≡ told a) where
  pub same_told : ReadsLines → (a b : A) → Fits a → Fits b → compact_text (shown a) ++ 10 ∷ [] ≡ compact_text (shown b) ++ 10 ∷ [] → told a ≡ told b
  same_told lines a b h k same =
      sym (one a h) ∙ ap back (same_data lines most (shown a) (shown b) few (good a h) (good b k) same) ∙ one b k
