-- The first place of a value that has not its form, as a JSON Pointer.
use Rattle.std.specs.Prelude.{ℕ, suc, ◌==◌, ◌&&◌, ◌||◌, not, ℤ, pos, List, [], ◌∷◌, ◌++◌, length, codes, decimal, Bool, true, false, Option, Some, None, option_map, option_and_then, unwrap_or, if◌then◌else◌, nat_le, int_lt, slice_get, Result, Ok, Err}
use Rattle.std.specs.Option.{option_or}
use Rattle.std.specs.Str.{bytes_eq}
use Rattle.serde_json.specs.Data.{Num, unsigned, negative, float, Data, null, boolean, number, string, array, object, Items, no_items, item, Members, no_members, member}
use Rattle.serde_json.specs.Find.{as_number, as_str, as_u64, get_member}
use Rattle.serde_json.specs.Events.{items_len}
use Rattle.report_shape.specs.Forms.{TextForm, no_text, any_text, words, large, known, ListForm, no_list, list_of, one_or_more, rows, headed, ObjectForm, no_object, keyed, by_word, by_number, Field, Parts, same, in_order}
use Rattle.report_shape.specs.Shape.{form}
use Rattle.report_shape.specs.Numbers.{is_large}
use Rattle.report_shape.specs.Reduced.{is_reduced}
use Rattle.report_shape.specs.declared.part.Part.{Part}
use Rattle.report_shape.specs.declared.part.Part.TheVariants.{Nothing}

-- a place: the value itself, or what stands at this step below it
abbrev pub pointer_to : Option (List ℕ) → List ℕ
pointer_to None = []
pointer_to (Some step) = 47 ∷ step

-- a fault below this step
abbrev pub under : List ℕ → Option (List ℕ) → Option (List ℕ)
under step fault = option_map (λ rest. 47 ∷ (step ++ rest)) fault

-- a fault of the value itself, unless it is as it has to be
abbrev pub unless : Bool → Option (List ℕ)
unless true = None
unless false = Some []

abbrev pub is_one_of : List ℕ → List (List ℕ) → Bool
is_one_of s [] = false
is_one_of s (w ∷ ws) = bytes_eq w s || is_one_of s ws

abbrev pub is_within : ℤ × ℤ → ℤ → Bool
is_within r z = not (int_lt z r.0) && not (int_lt r.1 z)

-- a whole number; a negative one is below 0
abbrev pub number_fits : Option (ℤ × ℤ) → Num → Bool
number_fits None n = false
number_fits (Some r) (unsigned n) = is_within r (pos n)
number_fits (Some r) (negative z) = int_lt z (pos 0) && is_within r z
number_fits (Some r) (float x) = false

-- ---- lists: what the items are, or the step at which the list is refused

abbrev pub one_or_more_parts : Part → Items → Result Parts (Option (List ℕ))
one_or_more_parts p no_items = Err None
one_or_more_parts p (item d ds) = Ok (same p)

abbrev pub row_of : List (List Part) → ℕ → Result Parts (Option (List ℕ))
row_of [] n = Err None
row_of (r ∷ rs) n = if length r == n then Ok (in_order r) else row_of rs n

-- no fewer items than the least number, and no more than the row has
abbrev pub fits_row : ℕ → List Part → ℕ → Result Parts (Option (List ℕ))
fits_row least row n = if nat_le least n && nat_le n (length row) then Ok (in_order row) else Err None

abbrev pub row_named : List (List ℕ × ℕ × List Part) → List ℕ → ℕ → Result Parts (Option (List ℕ))
row_named [] s n = Err (Some (codes "0"))
row_named (h ∷ hs) s n = if bytes_eq h.0 s then fits_row h.1 h.2 n else row_named hs s n

-- what decides, at this step, is of another kind, or decides
abbrev pub decided_by : {A B : Type 0} → List ℕ → Option A → (A → Result B (Option (List ℕ))) → Result B (Option (List ℕ))
decided_by step None go = Err (Some step)
decided_by step (Some a) go = go a

abbrev pub row_by_head : List (List ℕ × ℕ × List Part) → Items → Result Parts (Option (List ℕ))
row_by_head hs no_items = Err None
row_by_head hs (item d ds) = decided_by (codes "0") (as_str d) (λ s. row_named hs s (suc (items_len ds)))

abbrev pub list_parts : ListForm → Items → Result Parts (Option (List ℕ))
list_parts no_list ds = Err None
list_parts (list_of p) ds = Ok (same p)
list_parts (one_or_more p) ds = one_or_more_parts p ds
list_parts (rows rs) ds = row_of rs (items_len ds)
list_parts (headed hs) ds = row_by_head hs ds

abbrev pub part_at : Parts → ℕ → Part
part_at (same p) n = p
part_at (in_order ps) n = unwrap_or (slice_get ps n) Nothing

-- ---- objects: the fields, or the step at which the object is refused

-- exactly these keys, each once
abbrev pub keys_are : List Field → Members → Bool
keys_are [] no_members = true
keys_are [] (member k d ms) = false
keys_are (f ∷ fs) no_members = false
keys_are (f ∷ fs) (member k d ms) = bytes_eq f.0 k && keys_are fs ms

abbrev pub with_keys : List (List Field) → Members → Result (List Field) (Option (List ℕ))
with_keys [] ms = Err None
with_keys (fs ∷ more) ms = if keys_are fs ms then Ok fs else with_keys more ms

abbrev pub if_keys : List Field → Members → Result (List Field) (Option (List ℕ))
if_keys fs ms = if keys_are fs ms then Ok fs else Err None

abbrev pub for_word : List ℕ → List (List ℕ × List Field) → List ℕ → Members → Result (List Field) (Option (List ℕ))
for_word key [] s ms = Err (Some key)
for_word key (c ∷ cs) s ms = if bytes_eq c.0 s then if_keys c.1 ms else for_word key cs s ms

abbrev pub for_number : List ℕ → List (ℕ × ℕ × List Field) → ℕ → Members → Result (List Field) (Option (List ℕ))
for_number key [] n ms = Err (Some key)
for_number key (c ∷ cs) n ms = if nat_le c.0 n && nat_le n c.1 then if_keys c.2 ms else for_number key cs n ms

-- no such member; a member of another kind; or one that decides
abbrev pub by_member : {A : Type 0} → List ℕ → Option Data → (Data → Option A) → (A → Result (List Field) (Option (List ℕ))) → Result (List Field) (Option (List ℕ))
by_member key None read go = Err None
by_member key (Some d) read go = decided_by key (read d) go

abbrev pub object_fields : ObjectForm → Members → Result (List Field) (Option (List ℕ))
object_fields no_object ms = Err None
object_fields (keyed fss) ms = with_keys fss ms
object_fields (by_word key cs) ms = by_member key (get_member key ms) as_str (λ s. for_word key cs s ms)
object_fields (by_number key cs) ms = by_member key (get_member key ms) (λ d. option_and_then as_u64 (as_number d)) (λ n. for_number key cs n ms)

abbrev pub part_of : List Field → List ℕ → Part
part_of [] k = Nothing
part_of (f ∷ fs) k = if bytes_eq f.0 k then f.1 else part_of fs k

-- what was picked out, or the place of the refusal
abbrev pub picked : {A : Type 0} → Result A (Option (List ℕ)) → (A → Option (List ℕ)) → Option (List ℕ)
picked (Ok a) go = go a
picked (Err step) go = Some (pointer_to step)

-- a cell, where the form asks for one, holds a reduced term
abbrev pub is_whole : Bool → Data → Bool
is_whole true d = is_reduced d
is_whole false d = true

-- ---- the first fault, by the texts that the reader knows for each part

module _ (knows : Part → List ℕ → Bool) where
  abbrev pub text_fits : Part → TextForm → List ℕ → Bool
  text_fits p no_text s = false
  text_fits p any_text s = true
  text_fits p (words ws) s = is_one_of s ws
  text_fits p large s = is_large s
  text_fits p known s = knows p s

  abbrev mutual
    pub fault : Part → Data → Option (List ℕ)
    fault p null = unless (form p).nullable
    fault p (boolean b) = Some []
    fault p (number n) = unless (number_fits (form p).number n)
    fault p (string s) = unless (text_fits p (form p).text s)
    fault p (array ds) = option_or (picked (list_parts (form p).list ds) (λ parts. items_fault parts 0 ds)) (unless (is_whole (form p).reduced (array ds)))
    fault p (object ms) = picked (object_fields (form p).object ms) (λ fs. members_fault fs ms)

    -- in order, the items counted from n on
    pub items_fault : Parts → ℕ → Items → Option (List ℕ)
    items_fault parts n no_items = None
    items_fault parts n (item d ds) = option_or (under (decimal n) (fault (part_at parts n) d)) (items_fault parts (suc n) ds)

    -- in order of keys
    pub members_fault : List Field → Members → Option (List ℕ)
    members_fault fs no_members = None
    members_fault fs (member k d ms) = option_or (under k (fault (part_of fs k) d)) (members_fault fs ms)
