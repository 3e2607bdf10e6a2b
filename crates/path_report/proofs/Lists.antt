-- Lists of values and what they show.
use Rattle.std.proofs.Common.{◌≡◌, ◌≤◌, ◌<◌, ◌+◌, ℕ, List, [], ◌∷◌, ◌++◌, map, take, length, get_or, Some, None, String, Vec, Global, string_bytes, refl, sym, ap, ◌∙◌, subst, arith, rules, drop, suc, drop-cons}
use Rattle.std.specs.Prelude.{decimal}
use Rattle.std.specs.List.{AllByRecursion}
use Rattle.std.proofs.lemmas.Grind.{common_steps}
use Rattle.serde_json.specs.Data.{Data, null, boolean, number, string, array, object, item}
use Rattle.serde_json.specs.Find.{as_str}
use Rattle.serde_json.specs.View.{view, items_of, items_view}
use Rattle.serde_json.specs.declared.value.Value.{Value, Array, the_lemmas}
use Rattle.serde_json.specs.declared.value.Value.{String as Text}
use Rattle.serde_json.proofs.Views.{view-Array}
use Rattle.net_check.specs.Network.{Network}
use Rattle.report_shape.specs.declared.part.Part.{Part}
use Rattle.report_shape.specs.Forms.{same}
use Rattle.report_shape.specs.Faults.{fault, items_fault, under}
use Rattle.report_names.specs.Names.{knows}
use Rattle.run_text.specs.Forms.{list}
use Rattle.path_report.specs.Having.{HasForm}
use Rattle.path_report.proofs.Holding.{neither, none_under}

items_shown : (vs : List Value) → items_of (map view vs) ≡ items_view vs
items_shown [] = refl
items_shown (v ∷ vs) = ap (item (view v)) (items_shown vs)

all_taken : (vs : List Value) (i : ℕ) → length vs ≤ i → take i vs ≡ vs
all_taken vs i h = grind (arith, common_steps)

-- what all items show is what the value shows
pub list_shown : (ds : List Data) (v : Value) (vec : Vec Value Global) (vs : List Value) (i : ℕ) → v ≡ Array vec → vs ≡ vec.items → ds ≡ map view (take i vs) → length vs ≤ i → list ds ≡ view v
list_shown ds v vec vs i is whole read past =
    ap list (read ∙ ap (map view) (all_taken vs i past ∙ whole)) ∙ ap array (items_shown vec.items) ∙ sym (ap view is ∙ view-Array vec)

pub map_more : {A B : Type 0} (f : A → B) (xs : List A) (x : A) → map f (xs ++ x ∷ []) ≡ map f xs ++ f x ∷ []
map_more f [] x = refl
map_more f (y ∷ xs) x = ap (λ zs. f y ∷ zs) (map_more f xs x)

pub map_taken : (vs : List Value) (i : ℕ) (v : Value) → i < length vs → map view (take (i + 1) vs) ≡ map view (take i vs) ++ view (get_or vs i v) ∷ []
map_taken vs i v h = grind (arith, common_steps)

-- one more of what is held shows one more item
pub read_more : {A B : Type 0} (g : B → Data) (f : A → B) (xs : List A) (x : A) (vs : List Value) (i : ℕ) (v : Value) →
    map g (map f xs) ≡ map view (take i vs) → i < length vs → g (f x) ≡ view (get_or vs i v) → map g (map f (xs ++ x ∷ [])) ≡ map view (take (i + 1) vs)
read_more g f xs x vs i v read within this =
    ap (map g) (map_more f xs x) ∙ map_more g (map f xs) (f x) ∙ ap (λ ds. ds ++ g (f x) ∷ []) read ∙ ap (λ d. map view (take i vs) ++ d ∷ []) this ∙ sym (map_taken vs i v within)

pub fits_more : {A B : Type 0} (P : B → Type 0) (f : A → B) (xs : List A) (x : A) → AllByRecursion P (map f xs) → P (f x) → AllByRecursion P (map f (xs ++ x ∷ []))
fits_more P f [] x all h = (h, tt)
fits_more P f (y ∷ xs) x all h = (all.0, fits_more P f xs x all.1 h)

-- ---- texts

pub view_text : (t : String Global) → view (Text t) ≡ string (string_bytes t)
view_text t = search (rules, the_lemmas)

pub text_at : (d : Data) (s : List ℕ) → as_str d ≡ Some s → d ≡ string s
text_at null s e = cc
text_at (boolean b) s e = cc
text_at (number n) s e = cc
text_at (string t) s e = cc
text_at (array ds) s e = cc
text_at (object ms) s e = cc

-- ---- the next item of a list of one part

module _ (net : Network) (p : Part) (vs : List Value) (i : ℕ) (x : Value) (within : i < length vs) (is : x ≡ get_or vs i x) (h : items_fault (knows net) (same p) i (items_view (drop i vs)) ≡ None) where
  next_item : items_fault (knows net) (same p) i (item (view x) (items_view (drop (suc i) vs))) ≡ None
  next_item =
      let cut : drop i vs ≡ x ∷ drop (suc i) vs = drop-cons vs i x within ∙ ap (λ y. y ∷ drop (suc i) vs) (sym is) in
      subst (λ l. items_fault (knows net) (same p) i (items_view l) ≡ None) cut h

  pub item_form : HasForm net p (view x)
  item_form =
      none_under (decimal i) (fault (knows net) p (view x))
      (neither (under (decimal i) (fault (knows net) p (view x))) (items_fault (knows net) (same p) (suc i) (items_view (drop (suc i) vs))) next_item).0

  pub left_more : items_fault (knows net) (same p) (i + 1) (items_view (drop (i + 1) vs)) ≡ None
  left_more =
      let e : suc i ≡ i + 1 = omega arith in
      subst (λ k. items_fault (knows net) (same p) k (items_view (drop k vs)) ≡ None) e
      (neither (under (decimal i) (fault (knows net) p (view x))) (items_fault (knows net) (same p) (suc i) (items_view (drop (suc i) vs))) next_item).1
