-- Maps whose keys are lent texts.
use denote.Ref.{Bor}
use Rattle.std.proofs.Common.{◌≡◌, ℕ, ℤ, List, [], ◌∷◌, refl, ap, sym, ◌∙◌, cond, true, if◌then◌else◌, Option, Some}
use Rattle.std.specs.Ordering.{nat_cmp, match_ordering, is_eq}
use Rattle.std.specs.declared.cmp.Ordering.TheVariants.{Less, Equal, Greater}
use Rattle.std.specs.Cmp.Lexicographic.{slice_cmp}
use Rattle.std.specs.Map.{lookup}
use Rattle.std.specs.BTreeMap.{insert_entry}
use Rattle.sn_width.specs.Address.{is_address}
use Rattle.job_items.specs.Tags.{tag_address, with_address}
use Rattle.job_items.specs.LentTags.{lent_tag, lent_tags}

pub lent_insert_tag : (entries : List (Bor (List ℕ) × ℤ)) (key : Bor (List ℕ)) (a : ℤ)
    → lent_tags (insert_entry (λ x y. slice_cmp nat_cmp x.now y.now) entries key a)
    ≡ insert_entry (slice_cmp nat_cmp) (lent_tags entries) key.now a
lent_insert_tag [] key a = refl
lent_insert_tag (e ∷ es) key a =
    elim (slice_cmp nat_cmp key.now e.0.now) as
    (λ o. lent_tags (match_ordering o ((key, a) ∷ e ∷ es) ((e.0, a) ∷ es) (e ∷ insert_entry (λ x y. slice_cmp nat_cmp x.now y.now) es key a))
    ≡ match_ordering o ((key.now, a) ∷ lent_tag e ∷ lent_tags es) ((e.0.now, a) ∷ lent_tags es) (lent_tag e ∷ insert_entry (slice_cmp nat_cmp) (lent_tags es) key.now a))
    [ Less ↦ refl | Equal ↦ refl | Greater ↦ ap (λ rest. lent_tag e ∷ rest) (lent_insert_tag es key a) ]

pub lent_lookup_tag : (entries : List (Bor (List ℕ) × ℤ)) (key : List ℕ)
    → lookup (λ own. is_eq (slice_cmp nat_cmp key own.now)) entries ≡ tag_address (lent_tags entries) key
lent_lookup_tag [] key = refl
lent_lookup_tag (e ∷ es) key =
    ap (λ rest. cond (is_eq (slice_cmp nat_cmp key e.0.now)) (Some e.1) rest) (lent_lookup_tag es key)

-- a tag that is put in
pub tag_made : (old new : List (Bor (List ℕ) × ℤ)) (name : Bor (List ℕ)) (x a : ℤ) (address : Option ℤ)
    → address ≡ Some a → true ≡ is_address a → x ≡ a
    → new ≡ insert_entry (λ x y. slice_cmp nat_cmp x.now y.now) old name x
    → lent_tags new ≡ with_address (lent_tags old) name.now address
tag_made old new name x a address is there value made =
    ap lent_tags made ∙ lent_insert_tag old name x ∙ ap (insert_entry (slice_cmp nat_cmp) (lent_tags old) name.now) value
    ∙ ap (λ b. if b then insert_entry (slice_cmp nat_cmp) (lent_tags old) name.now a else lent_tags old) there
    ∙ ap (with_address (lent_tags old) name.now) (sym is)
