-- What a split of a refutation shows.
use Rattle.std.proofs.Common.{◌≡◌, ℕ, List, [], ◌∷◌, Some, refl, sym, ap, ◌∙◌, subst}
use Rattle.std.specs.Prelude.{codes}
use Rattle.serde_json.specs.Data.{Data, null, boolean, number, string, array, object, no_items, item}
use Rattle.serde_json.specs.Find.{at}
use Rattle.net_check.specs.Network.{Network}
use Rattle.report_shape.specs.declared.part.Part.TheVariants as part
use Rattle.run_text.specs.Forms.{list, count}
use Rattle.record_text.specs.Records.{ids_data, member_split_data, split_data}
use Rattle.path_report.specs.Having.{HasForm, IsRow}
use Rattle.path_report.proofs.Reduces.{row_of_three}

module _ (net : Network) where
  -- a way is a list of numbers
  way_ids : (d : Data) → HasForm net part.Way d → HasForm net part.Ids d
  way_ids null h = cc
  way_ids (boolean b) h = cc
  way_ids (number n) h = cc
  way_ids (string s) h = cc
  way_ids (array no_items) h = cc
  way_ids (array (item d ds)) h = h
  way_ids (object ms) h = cc

  -- and it is not empty
  with_way : (pick : ℕ) (way : List ℕ) → HasForm net part.Way (ids_data way) → split_data pick way ≡ member_split_data pick way
  unfolding ids_data
  with_way pick [] h = cc
  with_way pick (first ∷ way) h = refl

  -- ---- a split of a formula

  module _ (d b : Data) (row : IsRow net (part.Word ∷ part.Id ∷ []) d) (word : at 0 d ≡ Some (string (codes "split"))) (second : Some b ≡ at 1 d) where
    two : d ≡ list (row.parts.value ∷ row.parts.next.value ∷ [])
    two = row.is ∙ ap array (row.parts.is ∙ ap (item row.parts.value) (row.parts.next.is ∙ ap (item row.parts.next.value) row.parts.next.next))

    pub formula_shown : (pick : ℕ) (way : List ℕ) → count pick ≡ b → way ≡ [] → split_data pick way ≡ d
    formula_shown pick way shown none =
        let x : row.parts.value ≡ string (codes "split") = let k = ap (at 0) two in cc in
        let y : row.parts.next.value ≡ b = let k = ap (at 1) two in cc in
        ap (split_data pick) none ∙ ap (λ k. list (string (codes "split") ∷ k ∷ [])) (shown ∙ sym y) ∙ ap (λ k. list (k ∷ row.parts.next.value ∷ [])) (sym x) ∙ sym two

  -- ---- a split of a member

  module _ (d e : Data) (row : IsRow net (part.Word ∷ part.Id ∷ part.Way ∷ []) d) (third : Some e ≡ at 2 d) where
    third_is : at 2 d ≡ Some row.parts.next.next.value
    third_is = ap (at 2) (row.is ∙ ap array (row.parts.is ∙ ap (item row.parts.value) (row.parts.next.is ∙ ap (item row.parts.next.value) row.parts.next.next.is)))

    way_there : HasForm net part.Way e
    way_there = let same : row.parts.next.next.value ≡ e = cc (third_is, third) in subst (HasForm net part.Way) same row.parts.next.next.form

    pub ids_there : HasForm net part.Ids e
    ids_there = way_ids e way_there

    pub member_shown : (b : Data) → at 0 d ≡ Some (string (codes "split")) → Some b ≡ at 1 d → (pick : ℕ) (way : List ℕ) → count pick ≡ b → ids_data way ≡ e → split_data pick way ≡ d
    member_shown b word second pick way first shown =
        with_way pick way (subst (HasForm net part.Way) (sym shown) way_there)
        ∙ ap (λ k. list (string (codes "split") ∷ k ∷ ids_data way ∷ [])) first
        ∙ ap (λ k. list (string (codes "split") ∷ b ∷ k ∷ [])) shown
        ∙ sym (row_of_three net part.Word part.Id part.Way d (string (codes "split")) b e row (sym word) second third)
