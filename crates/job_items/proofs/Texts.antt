-- Sets of texts that are lent.
use denote.Ref.{Bor}
use Rattle.std.proofs.Common.{◌≡◌, ℕ, List, [], ◌∷◌, refl, ap}
use Rattle.std.specs.Ordering.{nat_cmp, match_ordering}
use Rattle.std.specs.declared.cmp.Ordering.TheVariants.{Less, Equal, Greater}
use Rattle.std.specs.Cmp.Lexicographic.{slice_cmp}
use Rattle.std.specs.BTreeSet.{insert_key}
use Rattle.job_items.specs.Rules.{with_text}
use Rattle.job_items.specs.Progress.{lent_texts}

-- a text that is put in among lent ones is put in among the texts
pub lent_insert : (keys : List (Bor (List ℕ))) (key : Bor (List ℕ))
    → lent_texts (insert_key (λ x y. slice_cmp nat_cmp x.now y.now) keys key) ≡ with_text (lent_texts keys) key.now
lent_insert [] key = refl
lent_insert (x ∷ xs) key =
    elim (slice_cmp nat_cmp key.now x.now) as
    (λ o. lent_texts (match_ordering o (key ∷ x ∷ xs) (x ∷ xs) (x ∷ insert_key (λ a b. slice_cmp nat_cmp a.now b.now) xs key))
    ≡ match_ordering o (key.now ∷ x.now ∷ lent_texts xs) (x.now ∷ lent_texts xs) (x.now ∷ with_text (lent_texts xs) key.now))
    [ Less ↦ refl | Equal ↦ refl | Greater ↦ ap (λ rest. x.now ∷ rest) (lent_insert xs key) ]
