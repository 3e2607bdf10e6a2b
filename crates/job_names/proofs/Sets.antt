-- Sets of names that are lent.
use denote.Ref.{Bor}
use Rattle.std.proofs.Common.{◌≡◌, ℕ, Bool, true, false, cond, ◌||◌, List, [], ◌∷◌, ◌++◌, Some, is_some, if◌then◌else◌, bytes_eq, refl, sym, ◌∙◌, ap, append_assoc, true≢false}
use Rattle.std.specs.List.{list_any, AllByRecursion}
use Rattle.std.specs.List.Sorted.{IsStrictlySortedBy}
use Rattle.std.specs.Map.{lookup}
use Rattle.std.specs.Ordering.{nat_cmp, match_ordering}
use Rattle.std.specs.declared.cmp.Ordering.TheVariants.{Less, Equal, Greater}
use Rattle.std.specs.Cmp.Lexicographic.{slice_cmp}
use Rattle.std.specs.BTreeSet.{insert_key}
use Rattle.indexmap.specs.IndexMap.{insert_entry}
use Rattle.job_items.specs.Rules.{with_text}
use Rattle.job_names.specs.Lent.{lent_names}
use Rattle.job_names.specs.Occurrences.{with_first}

-- a name that is put in among lent ones is put in among the names
pub lent_insert : (keys : List (Bor (List ℕ))) (key : Bor (List ℕ))
    → lent_names (insert_key (λ x y. slice_cmp nat_cmp x.now y.now) keys key) ≡ with_text (lent_names keys) key.now
lent_insert [] key = refl
lent_insert (x ∷ xs) key =
    elim (slice_cmp nat_cmp key.now x.now) as
    (λ o. lent_names (match_ordering o (key ∷ x ∷ xs) (x ∷ xs) (x ∷ insert_key (λ a b. slice_cmp nat_cmp a.now b.now) xs key))
    ≡ match_ordering o (key.now ∷ x.now ∷ lent_names xs) (x.now ∷ lent_names xs) (x.now ∷ with_text (lent_names xs) key.now))
    [ Less ↦ refl | Equal ↦ refl | Greater ↦ ap (λ rest. x.now ∷ rest) (lent_insert xs key) ]

-- a set of lent names ascends as the names do
lent_above : (x : List ℕ) (keys : List (Bor (List ℕ))) → AllByRecursion (λ key. slice_cmp nat_cmp x key.now ≡ Less) keys
    → AllByRecursion (λ name. slice_cmp nat_cmp x name ≡ Less) (lent_names keys)
lent_above x [] all = tt
lent_above x (k ∷ ks) all = (all.0, lent_above x ks all.1)

pub lent_ascend : (keys : List (Bor (List ℕ))) → IsStrictlySortedBy (λ x y. slice_cmp nat_cmp x.now y.now) keys
    → IsStrictlySortedBy (slice_cmp nat_cmp) (lent_names keys)
unfolding IsStrictlySortedBy
lent_ascend [] sorted = tt
lent_ascend (k ∷ ks) sorted = (lent_above k.now ks sorted.0, lent_ascend ks sorted.1)

-- one more copy of the names of a list
pub copied : (keys : List (Bor (List ℕ))) (old new : List (List ℕ)) (copy : List ℕ) (name : Bor (List ℕ)) (left rest : List (Bor (List ℕ)))
    → old ++ lent_names left ≡ lent_names keys → left ≡ name ∷ rest → copy ≡ name.now → new ≡ old ++ copy ∷ []
    → new ++ lent_names rest ≡ lent_names keys
copied keys old new copy name left rest whole next same made =
    let split : old ++ name.now ∷ lent_names rest ≡ lent_names keys = ap (λ l. old ++ lent_names l) (sym next) ∙ whole in
    let added : new ≡ old ++ name.now ∷ [] = made ∙ ap (λ n. old ++ n ∷ []) same in
    ap (λ l. l ++ lent_names rest) added ∙ append_assoc old (name.now ∷ []) (lent_names rest) ∙ split

-- patterns

some_any : (p : List ℕ) (es : List (List ℕ × ℕ)) → is_some (lookup (bytes_eq p) es) ≡ list_any (λ own. bytes_eq p own.0) es
some_any p [] = refl
some_any p (e ∷ es) =
    elim (bytes_eq p e.0) as (λ b. is_some (cond b (Some e.1) (lookup (bytes_eq p) es)) ≡ (b || list_any (λ own. bytes_eq p own.0) es))
    [ true ↦ refl | false ↦ some_any p es ]

none_of_two : (a b : Bool) → (a || b) ≡ false → (a ≡ false) × (b ≡ false)
none_of_two true b h = absurd (true≢false h)
none_of_two false b h = (refl, h)

inserted_last : (es : List (List ℕ × ℕ)) (p : List ℕ) (site : ℕ) → list_any (λ own. bytes_eq p own.0) es ≡ false
    → insert_entry bytes_eq es p site ≡ es ++ (p, site) ∷ []
inserted_last [] p site none = refl
inserted_last (e ∷ es) p site none =
    let parts = none_of_two (bytes_eq p e.0) (list_any (λ own. bytes_eq p own.0) es) none in
    ap (λ b. if b then ((e.0, site) ∷ es) else (e ∷ insert_entry bytes_eq es p site)) parts.0
    ∙ ap (λ rest. e ∷ rest) (inserted_last es p site parts.1)

-- a pattern that is there is not noted again
pub kept_first : (es : List (List ℕ × ℕ)) (p : List ℕ) (site : ℕ) → is_some (lookup (bytes_eq p) es) ≡ true → es ≡ with_first es (p, site)
kept_first es p site there =
    sym (ap (λ b. if b then es else (es ++ (p, site) ∷ [])) (sym (some_any p es) ∙ there))

-- and another one is noted last
pub noted_first : (es new : List (List ℕ × ℕ)) (key p : List ℕ) (site : ℕ) → key ≡ p → is_some (lookup (bytes_eq p) es) ≡ false
    → new ≡ insert_entry bytes_eq es key site → new ≡ with_first es (p, site)
noted_first es new key p site same none made =
    let absent : list_any (λ own. bytes_eq p own.0) es ≡ false = sym (some_any p es) ∙ none in
    made ∙ ap (λ k. insert_entry bytes_eq es k site) same ∙ inserted_last es p site absent
    ∙ sym (ap (λ b. if b then es else (es ++ (p, site) ∷ [])) absent)
