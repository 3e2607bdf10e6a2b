-- From the form of a list of fixed length to its items.
use Rattle.std.proofs.Common.{◌≡◌, ◌≤◌, ◌⊎◌, inl, inr, ℕ, suc, List, [], ◌∷◌, length, Bool, true, false, Some, None, refl, sym, ap, ◌∙◌, subst, arith}
use Rattle.std.specs.Prelude.{◌==◌, ◌&&◌, codes, decimal, nat_le, Ok, Err, if◌then◌else◌}
use Rattle.std.proofs.lemmas.Bool.Decides.{nat_tests}
use Rattle.serde_json.specs.Data.{Data, null, boolean, number, string, array, object, Items, no_items, item}
use Rattle.serde_json.specs.Find.{at, get_item}
use Rattle.serde_json.specs.Events.{items_len}
use Rattle.net_check.specs.Network.{Network}
use Rattle.report_shape.specs.declared.part.Part.{Part}
use Rattle.report_shape.specs.declared.part.Part.TheVariants as part
use Rattle.report_shape.specs.Forms.{in_order, rows}
use Rattle.report_shape.specs.Shape.{form, lists}
use Rattle.report_shape.specs.Reduced.{is_reduced}
use Rattle.report_shape.specs.Faults.{fault, items_fault, part_at, row_of, fits_row, list_parts, picked, under, unless}
use Rattle.report_names.specs.Names.{knows}
use Rattle.path_report.specs.Having.{HasForm, Lists, IsRow}
use Rattle.path_report.proofs.Holding.{both, neither, none_under}

-- in this row these parts stand from the place on
abbrev pub StandAt : List Part → ℕ → List Part → Type 0
StandAt all n [] = Unit {0}
StandAt all n (p ∷ ps) = (part_at (in_order all) n ≡ p) × StandAt all (suc n) ps

same_length : (n m : ℕ) → (n == m) ≡ true → n ≡ m
same_length n m h = grind (arith, nat_tests)

up_to : (a b : ℕ) → nat_le a b ≡ true → a ≤ b
up_to a b h = grind (arith, nat_tests)

pub unless_true : (b : Bool) → unless b ≡ None → b ≡ true
unless_true true h = refl
unless_true false h = cc

module _ (net : Network) where
  parts_from : (all : List Part) (n : ℕ) (ps : List Part) → StandAt all n ps → (ds : Items) → length ps ≡ items_len ds → items_fault (knows net) (in_order all) n ds ≡ None → Lists net ps ds
  parts_from all n [] stand no_items len h = refl
  parts_from all n [] stand (item d ds) len h = absurd (omega arith)
  parts_from all n (p ∷ ps) stand no_items len h = absurd (omega arith)
  parts_from all n (p ∷ ps) stand (item d ds) len h =
      let two = neither (under (decimal n) (fault (knows net) (part_at (in_order all) n) d)) (items_fault (knows net) (in_order all) (suc n) ds) h in record {
        value = d;
        rest = ds;
        is = refl;
        form = subst (λ q. HasForm net q d) stand.0 (none_under (decimal n) (fault (knows net) (part_at (in_order all) n) d) two.0);
        next = parts_from all (suc n) ps stand.1 ds (omega arith) two.1;
      }

  items_by : (ps : List Part) (ds : Items) (b : Bool) → (length ps == items_len ds) ≡ b → StandAt ps 0 ps →
      picked (if b then Ok (in_order ps) else Err None) (λ parts. items_fault (knows net) parts 0 ds) ≡ None → Lists net ps ds
  items_by ps ds true len stand h = parts_from ps 0 ps stand ds (same_length (length ps) (items_len ds) len) h
  items_by ps ds false len stand h = cc

  -- a list whose form is this row has its parts
  row_items : (ps : List Part) (ds : Items) → StandAt ps 0 ps → picked (row_of (ps ∷ []) (items_len ds)) (λ parts. items_fault (knows net) parts 0 ds) ≡ None → Lists net ps ds
  row_items ps ds stand h = items_by ps ds (length ps == items_len ds) refl stand h

  pub row_form : (p : Part) (ps : List Part) → form p ≡ lists (rows (ps ∷ [])) → StandAt ps 0 ps → (d : Data) → HasForm net p d → IsRow net ps d
  row_form p ps e stand null h = let g = rw e at h in cc
  row_form p ps e stand (boolean b) h = cc
  row_form p ps e stand (number n) h = let g = rw e at h in cc
  row_form p ps e stand (string s) h = let g = rw e at h in cc
  row_form p ps e stand (array ds) h =
      let g = rw e at h in
      record { items = ds; is = refl; parts = row_items ps ds stand (neither (picked (row_of (ps ∷ []) (items_len ds)) (λ parts. items_fault (knows net) parts 0 ds)) None g).0 }
  row_form p ps e stand (object ms) h = let g = rw e at h in cc

  pub head_row : (d : Data) → HasForm net part.Head d → IsRow net (part.Address ∷ part.Cells ∷ []) d
  head_row d h = row_form part.Head (part.Address ∷ part.Cells ∷ []) refl (refl, (refl, tt)) d h

  pub meta_row : (d : Data) → HasForm net part.Meta d → IsRow net (part.Owner ∷ part.MetaName ∷ part.Cells ∷ []) d
  meta_row d h = row_form part.Meta (part.Owner ∷ part.MetaName ∷ part.Cells ∷ []) refl (refl, (refl, (refl, tt))) d h

  pub tag_row : (d : Data) → HasForm net part.Tag d → IsRow net (part.TagName ∷ part.Address ∷ []) d
  tag_row d h = row_form part.Tag (part.TagName ∷ part.Address ∷ []) refl (refl, (refl, tt)) d h

  pub term_row : (d : Data) → HasForm net part.Term d → IsRow net (part.Count ∷ part.Value ∷ []) d
  term_row d h = row_form part.Term (part.Count ∷ part.Value ∷ []) refl (refl, (refl, tt)) d h

  -- ---- cells

  abbrev unset_parts : List Part
  unset_parts = part.Width ∷ []

  abbrev set_parts : List Part
  set_parts = part.Width ∷ part.Value ∷ part.Terms ∷ []

  cell_by : (ds : Items) (b : Bool) → (1 == items_len ds) ≡ b →
      picked (if b then Ok (in_order unset_parts) else row_of (set_parts ∷ []) (items_len ds)) (λ parts. items_fault (knows net) parts 0 ds) ≡ None →
      Lists net unset_parts ds ⊎ Lists net set_parts ds
  cell_by ds true len h = inl (parts_from unset_parts 0 unset_parts (refl, tt) ds (same_length 1 (items_len ds) len) h)
  cell_by ds false len h = inr (row_items set_parts ds (refl, (refl, (refl, tt))) h)

  cell_items : (ds : Items) → HasForm net part.Cell (array ds) → (Lists net unset_parts ds ⊎ Lists net set_parts ds) × (is_reduced (array ds) ≡ true)
  cell_items ds h =
      let two = neither (picked (row_of (unset_parts ∷ set_parts ∷ []) (items_len ds)) (λ parts. items_fault (knows net) parts 0 ds)) (unless (is_reduced (array ds))) h in
      (cell_by ds (1 == items_len ds) refl two.0, unless_true (is_reduced (array ds)) two.1)

  unset_has_one : (ds : Items) → Lists net unset_parts ds → get_item 1 ds ≡ None
  unset_has_one ds l = ap (get_item 1) (l.is ∙ ap (item l.value) l.next)

  set_has_more : (ds : Items) (l : Lists net set_parts ds) → get_item 1 ds ≡ Some l.next.value
  set_has_more ds l = ap (get_item 1) (l.is ∙ ap (item l.value) l.next.is)

  set_of : (ds : Items) (x : Data) → get_item 1 ds ≡ Some x → Lists net unset_parts ds ⊎ Lists net set_parts ds → Lists net set_parts ds
  set_of ds x e (inl l) = let none = unset_has_one ds l in cc
  set_of ds x e (inr l) = l

  unset_of : (ds : Items) → get_item 1 ds ≡ None → Lists net unset_parts ds ⊎ Lists net set_parts ds → Lists net unset_parts ds
  unset_of ds e (inl l) = l
  unset_of ds e (inr l) = let some = set_has_more ds l in cc

  pub set_row : (d x : Data) → HasForm net part.Cell d → at 1 d ≡ Some x → IsRow net set_parts d
  set_row null x h e = cc
  set_row (boolean b) x h e = cc
  set_row (number n) x h e = cc
  set_row (string s) x h e = cc
  set_row (array ds) x h e = record { items = ds; is = refl; parts = set_of ds x e (cell_items ds h).0 }
  set_row (object ms) x h e = cc

  pub unset_row : (d : Data) → HasForm net part.Cell d → at 1 d ≡ None → IsRow net unset_parts d
  unset_row null h e = cc
  unset_row (boolean b) h e = cc
  unset_row (number n) h e = cc
  unset_row (string s) h e = cc
  unset_row (array ds) h e = record { items = ds; is = refl; parts = unset_of ds e (cell_items ds h).0 }
  unset_row (object ms) h e = cc

  pub cell_reduced : (d : Data) → HasForm net part.Cell d → is_reduced d ≡ true
  cell_reduced null h = cc
  cell_reduced (boolean b) h = cc
  cell_reduced (number n) h = cc
  cell_reduced (string s) h = cc
  cell_reduced (array ds) h = (cell_items ds h).1
  cell_reduced (object ms) h = cc

  -- ---- steps of a refutation, by their first word

  -- items of this row, of which the last ones may be left out
  record IsBegun (least : ℕ) (ps : List Part) (ds : Items) : Type 0 where
    low : least ≤ items_len ds
    high : items_len ds ≤ length ps
    none : items_fault (knows net) (in_order ps) 0 ds ≡ None

  begun_by : (least : ℕ) (ps : List Part) (ds : Items) (b : Bool) → (nat_le least (items_len ds) && nat_le (items_len ds) (length ps)) ≡ b →
      picked (if b then Ok (in_order ps) else Err None) (λ parts. items_fault (knows net) parts 0 ds) ≡ None → IsBegun least ps ds
  begun_by least ps ds true e h =
      let two = both (nat_le least (items_len ds)) (nat_le (items_len ds) (length ps)) e in
      record { low = up_to least (items_len ds) two.0; high = up_to (items_len ds) (length ps) two.1; none = h }
  begun_by least ps ds false e h = cc

  step_items : (word : List ℕ) (least : ℕ) (ps : List Part) (ds : Items) → HasForm net part.Step (array (item (string word) ds)) →
      list_parts (form part.Step).list (item (string word) ds) ≡ fits_row least ps (suc (items_len ds)) → IsBegun least ps (item (string word) ds)
  step_items word least ps ds h e =
      let two = neither (picked (list_parts (form part.Step).list (item (string word) ds)) (λ parts. items_fault (knows net) parts 0 (item (string word) ds))) None h in
      begun_by least ps (item (string word) ds) (nat_le least (suc (items_len ds)) && nat_le (suc (items_len ds)) (length ps)) refl (rw e at two.0)

  -- a list of such items
  record IsBegunRow (least : ℕ) (ps : List Part) (d : Data) : Type 0 where
    items : Items
    is : d ≡ array items
    begun : IsBegun least ps items

  -- this word has this row
  abbrev HasRow : List ℕ → ℕ → List Part → Type 0
  HasRow word least ps = (ds : Items) → list_parts (form part.Step).list (item (string word) ds) ≡ fits_row least ps (suc (items_len ds))

  begun_row : (word : List ℕ) (least : ℕ) (ps : List Part) → HasRow word least ps → (d : Data) → HasForm net part.Step d → at 0 d ≡ Some (string word) → IsBegunRow least ps d
  begun_row word least ps e null h w = cc
  begun_row word least ps e (boolean b) h w = cc
  begun_row word least ps e (number n) h w = cc
  begun_row word least ps e (string s) h w = cc
  begun_row word least ps e (array no_items) h w = cc
  begun_row word least ps e (array (item x ds)) h w =
      let is : x ≡ string word = cc in
      record {
        items = item x ds;
        is = refl;
        begun = subst (λ y. IsBegun least ps (item y ds)) (sym is) (step_items word least ps ds (subst (λ y. HasForm net part.Step (array (item y ds))) is h) (e ds));
      }
  begun_row word least ps e (object ms) h w = cc

  -- a step of which nothing may be left out
  whole_row : (word : List ℕ) (ps : List Part) → StandAt ps 0 ps → HasRow word (length ps) ps → (d : Data) → HasForm net part.Step d → at 0 d ≡ Some (string word) → IsRow net ps d
  whole_row word ps stand e d h w =
      let s = begun_row word (length ps) ps e d h w in
      record { items = s.items; is = s.is; parts = parts_from ps 0 ps stand s.items (omega (arith, s.begun.low, s.begun.high)) s.begun.none }

  pub empty_row : (d : Data) → HasForm net part.Step d → at 0 d ≡ Some (string (codes "empty")) → IsRow net (part.Word ∷ part.Count ∷ part.Ids ∷ []) d
  empty_row d h w = whole_row (codes "empty") (part.Word ∷ part.Count ∷ part.Ids ∷ []) (refl, (refl, (refl, tt))) (λ ds. refl) d h w

  pub domain_row : (d : Data) → HasForm net part.Step d → at 0 d ≡ Some (string (codes "domain")) → IsRow net (part.Word ∷ part.Count ∷ []) d
  domain_row d h w = whole_row (codes "domain") (part.Word ∷ part.Count ∷ []) (refl, (refl, tt)) (λ ds. refl) d h w

  pub cycle_row : (d : Data) → HasForm net part.Step d → at 0 d ≡ Some (string (codes "cycle")) → IsRow net (part.Word ∷ part.Ids ∷ []) d
  cycle_row d h w = whole_row (codes "cycle") (part.Word ∷ part.Ids ∷ []) (refl, (refl, tt)) (λ ds. refl) d h w

  -- a split of a formula, and of a member of one
  abbrev formula_parts : List Part
  formula_parts = part.Word ∷ part.Id ∷ []

  abbrev member_parts : List Part
  member_parts = part.Word ∷ part.Id ∷ part.Way ∷ []

  formula_items : (ds : Items) → IsBegun 2 member_parts ds → get_item 2 ds ≡ None → Lists net formula_parts ds
  formula_items no_items b e = absurd (omega (arith, b.low))
  formula_items (item x no_items) b e = absurd (omega (arith, b.low))
  formula_items (item x (item y no_items)) b e = parts_from member_parts 0 formula_parts (refl, (refl, tt)) (item x (item y no_items)) refl b.none
  formula_items (item x (item y (item z ds))) b e = cc

  member_items : (ds : Items) (v : Data) → IsBegun 2 member_parts ds → get_item 2 ds ≡ Some v → Lists net member_parts ds
  member_items no_items v b e = cc
  member_items (item x no_items) v b e = cc
  member_items (item x (item y no_items)) v b e = cc
  member_items (item x (item y (item z ds))) v b e = parts_from member_parts 0 member_parts (refl, (refl, (refl, tt))) (item x (item y (item z ds))) (omega (arith, b.high)) b.none

  split_row : (d : Data) → HasForm net part.Step d → at 0 d ≡ Some (string (codes "split")) → IsBegunRow 2 member_parts d
  split_row d h w = begun_row (codes "split") 2 member_parts (λ ds. refl) d h w

  pub formula_row : (d : Data) → HasForm net part.Step d → at 0 d ≡ Some (string (codes "split")) → at 2 d ≡ None → IsRow net formula_parts d
  formula_row d h w e = let s = split_row d h w in record { items = s.items; is = s.is; parts = formula_items s.items s.begun (ap (at 2) (sym s.is) ∙ e) }

  pub member_row : (d v : Data) → HasForm net part.Step d → at 0 d ≡ Some (string (codes "split")) → at 2 d ≡ Some v → IsRow net member_parts d
  member_row d v h w e = let s = split_row d h w in record { items = s.items; is = s.is; parts = member_items s.items v s.begun (ap (at 2) (sym s.is) ∙ e) }
