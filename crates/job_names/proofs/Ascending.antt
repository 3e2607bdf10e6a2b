-- Names put in one after another are a set: they ascend, and are those that were put in.
use Rattle.std.proofs.Common.{◌≡◌, ℕ, Bool, true, false, ◌||◌, List, [], ◌∷◌, bytes_eq, refl, sym, ◌∙◌, ap}
use Rattle.std.proofs.lemmas.Map.Lookups.{exact_bytes}
use Rattle.std.specs.Cmp.Lexicographic.{slice_cmp, nat_list_cmp_total}
use Rattle.std.specs.List.{list_any, AllByRecursion}
use Rattle.std.specs.List.Sorted.{IsStrictlySortedBy}
use Rattle.std.specs.Ordering.{nat_cmp, match_ordering, ordering_reverse}
use Rattle.std.specs.declared.cmp.Ordering.{Ordering}
use Rattle.std.specs.declared.cmp.Ordering.TheVariants.{Less, Equal, Greater}
use Rattle.job_items.specs.Rules.{with_text, with_names}
use Rattle.job_names.specs.Occurrences.{as_set}

-- what holds of a text and of a set holds of the set with the text
all_with : (P : List ℕ → Type 0) (k : List ℕ) (ks : List (List ℕ)) → P k → AllByRecursion P ks → AllByRecursion P (with_text ks k)
all_with P k [] here all = (here, tt)
all_with P k (x ∷ xs) here all =
    elim (slice_cmp nat_cmp k x) as (λ o. AllByRecursion P (match_ordering o (k ∷ x ∷ xs) (x ∷ xs) (x ∷ with_text xs k)))
    [ Less ↦ (here, all) | Equal ↦ all | Greater ↦ (all.0, all_with P k xs here all.1) ]

-- what is above a text is above each text below that one
above : (x y : List ℕ) → slice_cmp nat_cmp x y ≡ Less → (ks : List (List ℕ))
    → AllByRecursion (λ z. slice_cmp nat_cmp y z ≡ Less) ks → AllByRecursion (λ z. slice_cmp nat_cmp x z ≡ Less) ks
above x y less [] all = tt
above x y less (z ∷ zs) all = (nat_list_cmp_total.trans x y z less all.0, above x y less zs all.1)

ascending_by : (o : Ordering) (x k : List ℕ) (xs : List (List ℕ)) → slice_cmp nat_cmp k x ≡ o
    → IsStrictlySortedBy (slice_cmp nat_cmp) (x ∷ xs) → IsStrictlySortedBy (slice_cmp nat_cmp) (with_text xs k)
    → IsStrictlySortedBy (slice_cmp nat_cmp) (match_ordering o (k ∷ x ∷ xs) (x ∷ xs) (x ∷ with_text xs k))
unfolding IsStrictlySortedBy
ascending_by Less x k xs e sorted rest = ((e, above k x e xs sorted.0), sorted)
ascending_by Equal x k xs e sorted rest = sorted
ascending_by Greater x k xs e sorted rest =
    (all_with (λ z. slice_cmp nat_cmp x z ≡ Less) k xs (nat_list_cmp_total.antisymm x k ∙ ap ordering_reverse e) sorted.0, rest)

ascending_with : (ks : List (List ℕ)) (k : List ℕ) → IsStrictlySortedBy (slice_cmp nat_cmp) ks → IsStrictlySortedBy (slice_cmp nat_cmp) (with_text ks k)
unfolding IsStrictlySortedBy
ascending_with [] k sorted = (tt, tt)
ascending_with (x ∷ xs) k sorted = ascending_by (slice_cmp nat_cmp k x) x k xs refl sorted (ascending_with xs k sorted.1)

ascending_names : (ks more : List (List ℕ)) → IsStrictlySortedBy (slice_cmp nat_cmp) ks → IsStrictlySortedBy (slice_cmp nat_cmp) (with_names ks more)
ascending_names ks [] sorted = sorted
ascending_names ks (m ∷ ms) sorted = ascending_names (with_text ks m) ms (ascending_with ks m sorted)

pub as_set-ascending : (texts : List (List ℕ)) → IsStrictlySortedBy (slice_cmp nat_cmp) (as_set texts)
unfolding IsStrictlySortedBy
as_set-ascending texts = ascending_names [] texts tt

-- tests of three

twice : (a b : Bool) → (a || b) ≡ (a || (a || b))
twice true b = refl
twice false b = refl

exchanged : (a b c : Bool) → (a || (b || c)) ≡ (b || (a || c))
exchanged true true c = refl
exchanged true false c = refl
exchanged false true c = refl
exchanged false false c = refl

moved : (a b c : Bool) → (a || (b || c)) ≡ ((b || a) || c)
moved true true c = refl
moved true false c = refl
moved false true c = refl
moved false false c = refl

or_none : (a : Bool) → (a || false) ≡ a
or_none true = refl
or_none false = refl

any_by : (o : Ordering) (text x k : List ℕ) (xs : List (List ℕ)) → slice_cmp nat_cmp k x ≡ o
    → list_any (bytes_eq text) (with_text xs k) ≡ (bytes_eq text k || list_any (bytes_eq text) xs)
    → list_any (bytes_eq text) (match_ordering o (k ∷ x ∷ xs) (x ∷ xs) (x ∷ with_text xs k)) ≡ (bytes_eq text k || list_any (bytes_eq text) (x ∷ xs))
any_by Less text x k xs e rest = refl
any_by Equal text x k xs e rest =
    twice (bytes_eq text x) (list_any (bytes_eq text) xs) ∙ ap (λ y. bytes_eq text y || list_any (bytes_eq text) (x ∷ xs)) (sym (exact_bytes k x e))
any_by Greater text x k xs e rest =
    ap (λ b. bytes_eq text x || b) rest ∙ exchanged (bytes_eq text x) (bytes_eq text k) (list_any (bytes_eq text) xs)

any_with : (ks : List (List ℕ)) (k text : List ℕ) → list_any (bytes_eq text) (with_text ks k) ≡ (bytes_eq text k || list_any (bytes_eq text) ks)
any_with [] k text = refl
any_with (x ∷ xs) k text = any_by (slice_cmp nat_cmp k x) text x k xs refl (any_with xs k text)

any_names : (ks more : List (List ℕ)) (text : List ℕ)
    → list_any (bytes_eq text) (with_names ks more) ≡ (list_any (bytes_eq text) more || list_any (bytes_eq text) ks)
any_names ks [] text = refl
any_names ks (m ∷ ms) text =
    any_names (with_text ks m) ms text ∙ ap (λ b. list_any (bytes_eq text) ms || b) (any_with ks m text)
    ∙ moved (list_any (bytes_eq text) ms) (bytes_eq text m) (list_any (bytes_eq text) ks)

pub as_set-members : (texts : List (List ℕ)) (text : List ℕ) → list_any (bytes_eq text) (as_set texts) ≡ list_any (bytes_eq text) texts
as_set-members texts text = any_names [] texts text ∙ or_none (list_any (bytes_eq text) texts)
