-- What has its form is read back as it was written: its numbers are whole and of 64 bits, its keys ascend, and it nests to ten at most.
use Rattle.std.proofs.Common.{◌≡◌, ◌<◌, ◌≤◌, ℕ, ℤ, max, zero, suc, List, [], ◌∷◌, ◌++◌, Bool, true, false, Option, Some, None, Ordering, Less, Equal, Greater, nat_cmp, nat_lt, refl, subst, arith}
use Rattle.std.specs.Prelude.{◌&&◌, ◌==◌, not, pos, negsuc, int_lt, nat_le, decimal, length, if◌then◌else◌, Result, Ok, Err, option_and_then}
use Rattle.std.specs.Cmp.Lexicographic.{slice_cmp}
use Rattle.std.specs.Option.{option_or}
use Rattle.std.specs.Str.{bytes_eq}
use Rattle.std.proofs.lemmas.Bool.Decides.{nat_tests}
use Rattle.std.proofs.lemmas.Int.{ints}
use Rattle.std.proofs.lemmas.Slice.Eq.{bytes_eq-Decides}
use Rattle.serde_json.specs.Data.{Num, unsigned, negative, float, Data, null, boolean, number, string, array, object, Items, no_items, item, Members, no_members, member, depth, items_depth, members_depth}
use Rattle.serde_json.specs.Find.{as_str, as_number, as_u64, get_member}
use Rattle.serde_json.specs.Events.{items_len}
use Rattle.serde_json.specs.Read.{read, max_depth}
use Rattle.serde_json.specs.Written.{compact_text}
use Rattle.run_text.specs.Plain.{AllAbove, IsSorted, IsPlainNumber, IsPlain, ArePlain, HasPlain}
use Rattle.report_shape.specs.declared.part.Part.{Part}
use Rattle.report_shape.specs.declared.part.Part.TheVariants as part
use Rattle.report_shape.specs.Forms.{Parts, same, in_order, ListForm, no_list, list_of, one_or_more, rows, headed, ObjectForm, no_object, keyed, by_word, by_number, Field}
use Rattle.report_shape.specs.Shape.{form}
use Rattle.report_shape.specs.Faults.{fault, items_fault, members_fault, number_fits, list_parts, one_or_more_parts, object_fields, row_of, row_named, fits_row, decided_by, by_member, with_keys, if_keys, for_word, for_number, keys_are, part_at, part_of, picked, under, unless, is_whole}

both : (a b : Bool) → a && b ≡ true → (a ≡ true) × (b ≡ true)
both true b h = (refl, h)
both false b h = cc

neither : (a b : Option (List ℕ)) → option_or a b ≡ None → (a ≡ None) × (b ≡ None)
neither None b h = (refl, h)
neither (Some x) b h = cc

none_under : (step : List ℕ) (a : Option (List ℕ)) → under step a ≡ None → a ≡ None
none_under step None h = refl
none_under step (Some x) h = cc

unless_true : (b : Bool) → unless b ≡ None → b ≡ true
unless_true true h = refl
unless_true false h = cc

-- ---- the table's numbers

abbrev small_range : Option (ℤ × ℤ) → Bool
small_range None = true
small_range (Some r) = not (int_lt (pos 18446744073709551615) r.1) && not (int_lt r.0 (negsuc 4294967295))

small : (p : Part) → small_range (form p).number ≡ true
small part.Report = refl
small part.Cases = refl
small part.Hops = refl
small part.Limit = refl
small part.Records = refl
small part.Record = refl
small part.State = refl
small part.Version = refl
small part.Word = refl
small part.Decisions = refl
small part.Decision = refl
small part.Places = refl
small part.Place = refl
small part.End = refl
small part.Text = refl
small part.Fields = refl
small part.Heads = refl
small part.Head = refl
small part.Metas = refl
small part.Meta = refl
small part.Owner = refl
small part.MetaName = refl
small part.Tags = refl
small part.Tag = refl
small part.TagName = refl
small part.Address = refl
small part.Cells = refl
small part.Cell = refl
small part.Width = refl
small part.Value = refl
small part.Terms = refl
small part.Term = refl
small part.Verdict = refl
small part.Before = refl
small part.Cause = refl
small part.Values = refl
small part.Refutation = refl
small part.Step = refl
small part.Ids = refl
small part.Way = refl
small part.Id = refl
small part.Count = refl
small part.Nothing = refl

plain_number : (range : Option (ℤ × ℤ)) (n : Num) → small_range range ≡ true → number_fits range n ≡ true → IsPlainNumber n
plain_number None n s h = cc
plain_number (Some r) (unsigned n) s h = grind (arith, ints, nat_tests)
plain_number (Some r) (negative (pos n)) s h = grind (arith, ints, nat_tests)
plain_number (Some r) (negative (negsuc n)) s h = grind (arith, ints, nat_tests)
plain_number (Some r) (float x) s h = cc

-- ---- the table's keys

abbrev is_greater : Ordering → Bool
is_greater Less = false
is_greater Equal = false
is_greater Greater = true

abbrev above : List ℕ → List Field → Bool
above k [] = true
above k (f ∷ fs) = is_greater (slice_cmp nat_cmp f.0 k) && above k fs

abbrev ascend : List Field → Bool
ascend [] = true
ascend (f ∷ fs) = above f.0 fs && ascend fs

-- each list of fields of the form passes the test
module _ (test : List Field → Bool) where
  abbrev all_pass : {A : Type 0} → (A → List Field) → List A → Bool
  all_pass fields_of [] = true
  all_pass fields_of (x ∷ xs) = test (fields_of x) && all_pass fields_of xs

  abbrev object_passes : ObjectForm → Bool
  object_passes no_object = true
  object_passes (keyed fss) = all_pass (λ fs. fs) fss
  object_passes (by_word key cs) = all_pass (λ c. c.1) cs
  object_passes (by_number key cs) = all_pass (λ c. c.2) cs

greater : (o : Ordering) → is_greater o ≡ true → o ≡ Greater
greater Less h = cc
greater Equal h = cc
greater Greater h = refl

-- what was picked, or the step of the refusal
abbrev Picked : Type 0 → Type 0
Picked A = Result A (Option (List ℕ))

-- the fields that are chosen pass the test, and the object has their keys
module _ (test : List Field → Bool) (gs : List Field) (ms : Members) where
  record IsKeyed : Type 0 where
    passes : test gs ≡ true
    keys : keys_are gs ms ≡ true

  keyed_if : (fs : List Field) (b : Bool) (later : Picked (List Field)) → keys_are fs ms ≡ b → test fs ≡ true → (later ≡ Ok gs → IsKeyed) → (if b then Ok fs else later) ≡ Ok gs → IsKeyed
  keyed_if fs true later k h next e = let is : fs ≡ gs = cc in record { passes = subst (λ x. test x ≡ true) is h; keys = subst (λ x. keys_are x ms ≡ true) is k }
  keyed_if fs false later k h next e = next e

  refused : (step : Option (List ℕ)) → (let r : Picked (List Field) = Err step in r) ≡ Ok gs → IsKeyed
  refused step e = cc

  one_keyed : (fs : List Field) → test fs ≡ true → if_keys fs ms ≡ Ok gs → IsKeyed
  one_keyed fs h e = keyed_if fs (keys_are fs ms) (Err None) refl h (refused None) e

  keyed_of : (fss : List (List Field)) → all_pass test (λ fs. fs) fss ≡ true → with_keys fss ms ≡ Ok gs → IsKeyed
  keyed_of [] h e = cc
  keyed_of (fs ∷ fss) h e =
      let two = both (test fs) (all_pass test (λ fs. fs) fss) h in
      keyed_if fs (keys_are fs ms) (with_keys fss ms) refl two.0 (keyed_of fss two.1) e

  either_keyed : (fs : List Field) (b : Bool) (later : Picked (List Field)) → test fs ≡ true → (later ≡ Ok gs → IsKeyed) → (if b then if_keys fs ms else later) ≡ Ok gs → IsKeyed
  either_keyed fs true later h next e = one_keyed fs h e
  either_keyed fs false later h next e = next e

  word_keyed : (key : List ℕ) (cs : List (List ℕ × List Field)) (s : List ℕ) → all_pass test (λ c. c.1) cs ≡ true → for_word key cs s ms ≡ Ok gs → IsKeyed
  word_keyed key [] s h e = cc
  word_keyed key (c ∷ cs) s h e =
      let two = both (test c.1) (all_pass test (λ c. c.1) cs) h in
      either_keyed c.1 (bytes_eq c.0 s) (for_word key cs s ms) two.0 (word_keyed key cs s two.1) e

  number_keyed : (key : List ℕ) (cs : List (ℕ × ℕ × List Field)) (n : ℕ) → all_pass test (λ c. c.2) cs ≡ true → for_number key cs n ms ≡ Ok gs → IsKeyed
  number_keyed key [] n h e = cc
  number_keyed key (c ∷ cs) n h e =
      let two = both (test c.2) (all_pass test (λ c. c.2) cs) h in
      either_keyed c.2 (nat_le c.0 n && nat_le n c.1) (for_number key cs n ms) two.0 (number_keyed key cs n two.1) e

  by_value : {A : Type 0} (key : List ℕ) (o : Option A) (go : A → Picked (List Field)) → ((x : A) → go x ≡ Ok gs → IsKeyed) → decided_by key o go ≡ Ok gs → IsKeyed
  by_value key None go each e = cc
  by_value key (Some x) go each e = each x e

  by_found : {A : Type 0} (key : List ℕ) (o : Option Data) (read : Data → Option A) (go : A → Picked (List Field)) → ((x : A) → go x ≡ Ok gs → IsKeyed) → by_member key o read go ≡ Ok gs → IsKeyed
  by_found key None read go each e = cc
  by_found key (Some d) read go each e = by_value key (read d) go each e

  object_keyed : (f : ObjectForm) → object_passes test f ≡ true → object_fields f ms ≡ Ok gs → IsKeyed
  object_keyed no_object h e = cc
  object_keyed (keyed fss) h e = keyed_of fss h e
  object_keyed (by_word key cs) h e = by_found key (get_member key ms) as_str (λ s. for_word key cs s ms) (λ s k. word_keyed key cs s h k) e
  object_keyed (by_number key cs) h e =
      by_found key (get_member key ms) (λ d. option_and_then as_u64 (as_number d)) (λ n. for_number key cs n ms) (λ n k. number_keyed key cs n h k) e

all_above : (k : List ℕ) (fs : List Field) (ms : Members) (d : Data) → above k fs ≡ true → keys_are fs ms ≡ true → AllAbove (member k d no_members) ms
all_above k [] no_members d h e = tt
all_above k [] (member l x ms) d h e = cc
all_above k (f ∷ fs) no_members d h e = cc
all_above k (f ∷ fs) (member l x ms) d h e =
    let two = both (is_greater (slice_cmp nat_cmp f.0 k)) (above k fs) h in
    let keys = both (bytes_eq f.0 l) (keys_are fs ms) e in
    let is : f.0 ≡ l = (bytes_eq-Decides f.0 l).0 keys.0 in
    ((subst (λ n. slice_cmp nat_cmp n k ≡ Greater) is (greater (slice_cmp nat_cmp f.0 k) two.0), tt), all_above k fs ms d two.1 keys.1)

sorted : (fs : List Field) (ms : Members) → ascend fs ≡ true → keys_are fs ms ≡ true → IsSorted ms
sorted [] no_members h e = tt
sorted [] (member l x ms) h e = cc
sorted (f ∷ fs) no_members h e = cc
sorted (f ∷ fs) (member l x ms) h e =
    let two = both (above f.0 fs) (ascend fs) h in
    let keys = both (bytes_eq f.0 l) (keys_are fs ms) e in
    let is : f.0 ≡ l = (bytes_eq-Decides f.0 l).0 keys.0 in
    (all_above l fs ms x (subst (λ n. above n fs ≡ true) is two.0) keys.1, sorted fs ms two.1 keys.1)

-- ---- how deep parts nest

unfoldable rank : Part → ℕ
rank part.Report = 10
rank part.Cases = 0
rank part.Hops = 0
rank part.Limit = 0
rank part.Records = 9
rank part.Record = 8
rank part.State = 0
rank part.Version = 0
rank part.Word = 0
rank part.Decisions = 1
rank part.Decision = 0
rank part.Places = 1
rank part.Place = 0
rank part.End = 1
rank part.Text = 0
rank part.Fields = 7
rank part.Heads = 6
rank part.Head = 5
rank part.Metas = 6
rank part.Meta = 5
rank part.Owner = 0
rank part.MetaName = 0
rank part.Tags = 2
rank part.Tag = 1
rank part.TagName = 0
rank part.Address = 0
rank part.Cells = 4
rank part.Cell = 3
rank part.Width = 0
rank part.Value = 0
rank part.Terms = 2
rank part.Term = 1
rank part.Verdict = 3
rank part.Before = 3
rank part.Cause = 2
rank part.Values = 1
rank part.Refutation = 3
rank part.Step = 2
rank part.Ids = 1
rank part.Way = 1
rank part.Id = 0
rank part.Count = 0
rank part.Nothing = 0

abbrev row_below : ℕ → List Part → Bool
row_below r [] = true
row_below r (p ∷ ps) = nat_lt (rank p) r && row_below r ps

abbrev rows_below : {A : Type 0} → ℕ → (A → List Part) → List A → Bool
rows_below r row_of [] = true
rows_below r row_of (x ∷ xs) = row_below r (row_of x) && rows_below r row_of xs

abbrev list_below : ℕ → ListForm → Bool
list_below r no_list = true
list_below r (list_of p) = nat_lt (rank p) r
list_below r (one_or_more p) = nat_lt (rank p) r
list_below r (rows rs) = nat_lt 0 r && rows_below r (λ row. row) rs
list_below r (headed hs) = nat_lt 0 r && rows_below r (λ h. h.2) hs

abbrev fields_below : ℕ → List Field → Bool
fields_below r [] = nat_lt 0 r
fields_below r (f ∷ fs) = nat_lt (rank f.1) r && fields_below r fs

-- keys that ascend, with parts that lie below
abbrev fields_good : ℕ → List Field → Bool
fields_good r fs = ascend fs && fields_below r fs

lists_lower : (p : Part) → list_below (rank p) (form p).list ≡ true
unfolding rank
lists_lower part.Report = refl
lists_lower part.Cases = refl
lists_lower part.Hops = refl
lists_lower part.Limit = refl
lists_lower part.Records = refl
lists_lower part.Record = refl
lists_lower part.State = refl
lists_lower part.Version = refl
lists_lower part.Word = refl
lists_lower part.Decisions = refl
lists_lower part.Decision = refl
lists_lower part.Places = refl
lists_lower part.Place = refl
lists_lower part.End = refl
lists_lower part.Text = refl
lists_lower part.Fields = refl
lists_lower part.Heads = refl
lists_lower part.Head = refl
lists_lower part.Metas = refl
lists_lower part.Meta = refl
lists_lower part.Owner = refl
lists_lower part.MetaName = refl
lists_lower part.Tags = refl
lists_lower part.Tag = refl
lists_lower part.TagName = refl
lists_lower part.Address = refl
lists_lower part.Cells = refl
lists_lower part.Cell = refl
lists_lower part.Width = refl
lists_lower part.Value = refl
lists_lower part.Terms = refl
lists_lower part.Term = refl
lists_lower part.Verdict = refl
lists_lower part.Before = refl
lists_lower part.Cause = refl
lists_lower part.Values = refl
lists_lower part.Refutation = refl
lists_lower part.Step = refl
lists_lower part.Ids = refl
lists_lower part.Way = refl
lists_lower part.Id = refl
lists_lower part.Count = refl
lists_lower part.Nothing = refl

objects_good : (p : Part) → object_passes (fields_good (rank p)) (form p).object ≡ true
unfolding rank
objects_good part.Report = refl
objects_good part.Cases = refl
objects_good part.Hops = refl
objects_good part.Limit = refl
objects_good part.Records = refl
objects_good part.Record = refl
objects_good part.State = refl
objects_good part.Version = refl
objects_good part.Word = refl
objects_good part.Decisions = refl
objects_good part.Decision = refl
objects_good part.Places = refl
objects_good part.Place = refl
objects_good part.End = refl
objects_good part.Text = refl
objects_good part.Fields = refl
objects_good part.Heads = refl
objects_good part.Head = refl
objects_good part.Metas = refl
objects_good part.Meta = refl
objects_good part.Owner = refl
objects_good part.MetaName = refl
objects_good part.Tags = refl
objects_good part.Tag = refl
objects_good part.TagName = refl
objects_good part.Address = refl
objects_good part.Cells = refl
objects_good part.Cell = refl
objects_good part.Width = refl
objects_good part.Value = refl
objects_good part.Terms = refl
objects_good part.Term = refl
objects_good part.Verdict = refl
objects_good part.Before = refl
objects_good part.Cause = refl
objects_good part.Values = refl
objects_good part.Refutation = refl
objects_good part.Step = refl
objects_good part.Ids = refl
objects_good part.Way = refl
objects_good part.Id = refl
objects_good part.Count = refl
objects_good part.Nothing = refl

below : (a b : ℕ) → nat_lt a b ≡ true → a < b
below a b h = grind (arith, nat_tests)

row_lower : (r : ℕ) (ps : List Part) (n : ℕ) → 0 < r → row_below r ps ≡ true → rank (part_at (in_order ps) n) < r
unfolding rank
row_lower r [] n some h = some
row_lower r (p ∷ ps) zero some h = below (rank p) r (both (nat_lt (rank p) r) (row_below r ps) h).0
row_lower r (p ∷ ps) (suc n) some h = row_lower r ps n some (both (nat_lt (rank p) r) (row_below r ps) h).1

-- the parts of a list lie below
abbrev Lower : ℕ → Parts → Type 0
Lower r parts = (n : ℕ) → rank (part_at parts n) < r

lower_if : (r : ℕ) (row : List Part) (parts : Parts) (b : Bool) (later : Picked Parts) → 0 < r → row_below r row ≡ true → (later ≡ Ok parts → Lower r parts) →
    (if b then Ok (in_order row) else later) ≡ Ok parts → Lower r parts
lower_if r row parts true later some h next e = let is : in_order row ≡ parts = cc in subst (Lower r) is (λ n. row_lower r row n some h)
lower_if r row parts false later some h next e = next e

rows_lower : (r : ℕ) (rs : List (List Part)) (count : ℕ) (parts : Parts) → 0 < r → rows_below r (λ row. row) rs ≡ true → row_of rs count ≡ Ok parts → Lower r parts
rows_lower r [] count parts some h e = cc
rows_lower r (row ∷ rs) count parts some h e =
    let two = both (row_below r row) (rows_below r (λ row. row) rs) h in
    lower_if r row parts (length row == count) (row_of rs count) some two.0 (rows_lower r rs count parts some two.1) e

no_parts : (r : ℕ) (step : Option (List ℕ)) (parts : Parts) → (let x : Picked Parts = Err step in x) ≡ Ok parts → Lower r parts
no_parts r step parts e = cc

named_if : (r least : ℕ) (row : List Part) (count : ℕ) (parts : Parts) (b : Bool) (later : Picked Parts) → 0 < r → row_below r row ≡ true → (later ≡ Ok parts → Lower r parts) →
    (if b then fits_row least row count else later) ≡ Ok parts → Lower r parts
named_if r least row count parts true later some h next e = lower_if r row parts (nat_le least count && nat_le count (length row)) (Err None) some h (no_parts r None parts) e
named_if r least row count parts false later some h next e = next e

named_lower : (r : ℕ) (hs : List (List ℕ × ℕ × List Part)) (s : List ℕ) (count : ℕ) (parts : Parts) → 0 < r → rows_below r (λ h. h.2) hs ≡ true → row_named hs s count ≡ Ok parts → Lower r parts
named_lower r [] s count parts some h e = cc
named_lower r (row ∷ hs) s count parts some h e =
    let two = both (row_below r row.2) (rows_below r (λ h. h.2) hs) h in
    named_if r row.1 row.2 count parts (bytes_eq row.0 s) (row_named hs s count) some two.0 (named_lower r hs s count parts some two.1) e

headed_lower : (r : ℕ) (hs : List (List ℕ × ℕ × List Part)) (o : Option (List ℕ)) (count : ℕ) (step : List ℕ) (parts : Parts) → 0 < r → rows_below r (λ h. h.2) hs ≡ true →
    decided_by step o (λ s. row_named hs s count) ≡ Ok parts → Lower r parts
headed_lower r hs None count step parts some h e = cc
headed_lower r hs (Some s) count step parts some h e = named_lower r hs s count parts some h e

items_lower : (r : ℕ) (p : Part) (ds : Items) (parts : Parts) → rank p < r → one_or_more_parts p ds ≡ Ok parts → Lower r parts
items_lower r p no_items parts h e = cc
items_lower r p (item d ds) parts h e = let is : same p ≡ parts = cc in subst (Lower r) is (λ n. h)

list_lower : (r : ℕ) (f : ListForm) (ds : Items) (parts : Parts) → list_below r f ≡ true → list_parts f ds ≡ Ok parts → Lower r parts
list_lower r no_list ds parts h e = cc
list_lower r (list_of p) ds parts h e = let is : same p ≡ parts = cc in subst (Lower r) is (λ n. below (rank p) r h)
list_lower r (one_or_more p) ds parts h e = items_lower r p ds parts (below (rank p) r h) e
list_lower r (rows rs) ds parts h e =
    let two = both (nat_lt 0 r) (rows_below r (λ row. row) rs) h in
    rows_lower r rs (items_len ds) parts (below 0 r two.0) two.1 e
list_lower r (headed hs) no_items parts h e = cc
list_lower r (headed hs) (item d ds) parts h e =
    let two = both (nat_lt 0 r) (rows_below r (λ row. row.2) hs) h in
    headed_lower r hs (as_str d) (suc (items_len ds)) _ parts (below 0 r two.0) two.1 e

field_lower : (r : ℕ) (p q : Part) (b : Bool) → rank p < r → rank q < r → rank (if b then p else q) < r
field_lower r p q true h k = h
field_lower r p q false h k = k

fields_lower : (r : ℕ) (fs : List Field) (k : List ℕ) → fields_below r fs ≡ true → rank (part_of fs k) < r
unfolding rank
fields_lower r [] k h = below 0 r h
fields_lower r (f ∷ fs) k h =
    let two = both (nat_lt (rank f.1) r) (fields_below r fs) h in
    field_lower r f.1 (part_of fs k) (bytes_eq f.0 k) (below (rank f.1) r two.0) (fields_lower r fs k two.1)

some_lower : (r n : ℕ) → n < r → 0 < r
some_lower r n h = omega arith

below_suc : (n r : ℕ) → n < r → suc n ≤ r
below_suc n r h = omega arith

max_below : (a b c r : ℕ) → a ≤ c → c < r → b < r → max a b < r
max_below a b c r h k l = omega arith

-- ---- values that have their form

record IsGood (p : Part) (d : Data) : Type 0 where
  plain : IsPlain d
  shallow : depth d ≤ rank p

record AreGood (r : ℕ) (ds : Items) : Type 0 where
  plain : ArePlain ds
  shallow : items_depth ds < r

record HasGood (r : ℕ) (ms : Members) : Type 0 where
  plain : HasPlain ms
  shallow : members_depth ms < r

module _ (knows : Part → List ℕ → Bool) where
  list_good : (p : Part) (ds : Items) (r : Picked Parts) → list_parts (form p).list ds ≡ r → picked r (λ parts. items_fault knows parts 0 ds) ≡ None →
      ((parts : Parts) → Lower (rank p) parts → 0 < rank p → items_fault knows parts 0 ds ≡ None → AreGood (rank p) ds) → IsGood p (array ds)
  list_good p ds (Ok parts) e none each =
      let lower = list_lower (rank p) (form p).list ds parts (lists_lower p) e in
      let good = each parts lower (some_lower (rank p) (rank (part_at parts 0)) (lower 0)) none in
      record { plain = good.plain; shallow = below_suc (items_depth ds) (rank p) good.shallow }
  list_good p ds (Err step) e none each = cc

  object_good : (p : Part) (ms : Members) (r : Picked (List Field)) → object_fields (form p).object ms ≡ r → picked r (λ fs. members_fault knows fs ms) ≡ None →
      ((fs : List Field) → fields_below (rank p) fs ≡ true → 0 < rank p → members_fault knows fs ms ≡ None → HasGood (rank p) ms) → IsGood p (object ms)
  object_good p ms (Ok fs) e none each =
      let keys = object_keyed (fields_good (rank p)) fs ms (form p).object (objects_good p) e in
      let two = both (ascend fs) (fields_below (rank p) fs) keys.passes in
      let good = each fs two.1 (some_lower (rank p) (rank (part_of fs [])) (fields_lower (rank p) fs [] two.1)) none in
      record { plain = (sorted fs ms two.0 keys.keys, good.plain); shallow = below_suc (members_depth ms) (rank p) good.shallow }
  object_good p ms (Err step) e none each = cc

  mutual
    good : (p : Part) (d : Data) → fault knows p d ≡ None → IsGood p d
    good p null h = record { plain = tt; shallow = omega arith }
    good p (boolean b) h = cc
    good p (number n) h = record { plain = plain_number (form p).number n (small p) (unless_true (number_fits (form p).number n) h); shallow = omega arith }
    good p (string s) h = record { plain = tt; shallow = omega arith }
    good p (array ds) h =
        list_good p ds (list_parts (form p).list ds) refl (neither (picked (list_parts (form p).list ds) (λ parts. items_fault knows parts 0 ds)) (unless (is_whole (form p).reduced (array ds))) h).0
        (λ parts lower some none. items_good parts 0 (rank p) lower some ds none)
    good p (object ms) h = object_good p ms (object_fields (form p).object ms) refl h (λ fs lower some none. members_good fs (rank p) lower some ms none)

    items_good : (parts : Parts) (n r : ℕ) → Lower r parts → 0 < r → (ds : Items) → items_fault knows parts n ds ≡ None → AreGood r ds
    items_good parts n r lower some no_items h = record { plain = tt; shallow = some }
    items_good parts n r lower some (item d ds) h =
        let two = neither (under (decimal n) (fault knows (part_at parts n) d)) (items_fault knows parts (suc n) ds) h in
        let first = good (part_at parts n) d (none_under (decimal n) (fault knows (part_at parts n) d) two.0) in
        let rest = items_good parts (suc n) r lower some ds two.1 in
        record { plain = (first.plain, rest.plain); shallow = max_below (depth d) (items_depth ds) (rank (part_at parts n)) r first.shallow (lower n) rest.shallow }

    members_good : (fs : List Field) (r : ℕ) → fields_below r fs ≡ true → 0 < r → (ms : Members) → members_fault knows fs ms ≡ None → HasGood r ms
    members_good fs r lower some no_members h = record { plain = tt; shallow = some }
    members_good fs r lower some (member k d ms) h =
        let two = neither (under k (fault knows (part_of fs k) d)) (members_fault knows fs ms) h in
        let first = good (part_of fs k) d (none_under k (fault knows (part_of fs k) d) two.0) in
        let rest = members_good fs r lower some ms two.1 in
        record { plain = (first.plain, rest.plain); shallow = max_below (depth d) (members_depth ms) (rank (part_of fs k)) r first.shallow (fields_lower r fs k lower) rest.shallow }

top : (p : Part) → rank p ≤ 10
unfolding rank
top part.Report = omega arith
top part.Cases = omega arith
top part.Hops = omega arith
top part.Limit = omega arith
top part.Records = omega arith
top part.Record = omega arith
top part.State = omega arith
top part.Version = omega arith
top part.Word = omega arith
top part.Decisions = omega arith
top part.Decision = omega arith
top part.Places = omega arith
top part.Place = omega arith
top part.End = omega arith
top part.Text = omega arith
top part.Fields = omega arith
top part.Heads = omega arith
top part.Head = omega arith
top part.Metas = omega arith
top part.Meta = omega arith
top part.Owner = omega arith
top part.MetaName = omega arith
top part.Tags = omega arith
top part.Tag = omega arith
top part.TagName = omega arith
top part.Address = omega arith
top part.Cells = omega arith
top part.Cell = omega arith
top part.Width = omega arith
top part.Value = omega arith
top part.Terms = omega arith
top part.Term = omega arith
top part.Verdict = omega arith
top part.Before = omega arith
top part.Cause = omega arith
top part.Values = omega arith
top part.Refutation = omega arith
top part.Step = omega arith
top part.Ids = omega arith
top part.Way = omega arith
top part.Id = omega arith
top part.Count = omega arith
top part.Nothing = omega arith

-- a line is read back
abbrev ReadsLines : Type 0
ReadsLines = (d : Data) → IsPlain d → depth d ≤ max_depth → read (compact_text d ++ 10 ∷ []) ≡ Some d

pub line_of : ReadsLines → (knows : Part → List ℕ → Bool) (p : Part) (d : Data) → fault knows p d ≡ None → read (compact_text d ++ 10 ∷ []) ≡ Some d
line_of lines knows p d h = let g = good knows p d h in let most = top p in lines d g.plain (omega (arith, g.shallow, most))
