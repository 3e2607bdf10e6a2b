-- A row that is added is found by its key, and the others as before.
use Rattle.std.proofs.Common.{◌≡◌, ◌∙◌, refl, sym, ap, ap₂, subst, ℕ, Bool, true, false, cond, ◌&&◌, List, [], ◌∷◌, ◌++◌, Option, Some, None}
use Rattle.std.specs.Cmp.{unsigned_tied}
use Rattle.std.specs.Map.{lookup}
use Rattle.std.specs.Option.{option_or}
use Rattle.std.specs.Ordering.{is_eq, nat_cmp, ordering_then}
use Rattle.std.specs.declared.cmp.Ordering.{Ordering}
use Rattle.std.specs.declared.cmp.Ordering.TheVariants.{Less, Equal, Greater}
use Rattle.std.proofs.lemmas.Bool.{and_parts, eqb-true, false≢true}
use Rattle.table_lines.specs.Found.{found_at, key_cmp}
use Rattle.table_lines.specs.Rows.{Key, is_key}

is_eq-ordering_then : (o p : Ordering) → is_eq (ordering_then o p) ≡ (is_eq o && is_eq p)
is_eq-ordering_then Less p = refl
is_eq-ordering_then Equal p = refl
is_eq-ordering_then Greater p = refl

-- keys compare as equal where both numbers are
compares : (a b : Key) → is_eq (key_cmp a b) ≡ is_key a b
compares a b = is_eq-ordering_then (nat_cmp a.0 b.0) (nat_cmp a.1 b.1) ∙ ap₂ (λ s t. s && t) (unsigned_tied a.0 b.0) (unsigned_tied a.1 b.1)

is_exact : (a b : Key) → is_key a b ≡ true → a ≡ b
is_exact a b h =
    let parts = and_parts _ _ h in
    let first : a.0 ≡ b.0 = eqb-true a.0 b.0 parts.0 in
    let second : a.1 ≡ b.1 = eqb-true a.1 b.1 parts.1 in
    λ i. (first i, second i)

-- what is found where one row more stands behind the others
lookup-behind : {V : Type 0} (test : Key → Bool) (k : Key) (v : V) (xs : List (Key × V))
    → lookup test (xs ++ (k, v) ∷ []) ≡ option_or (lookup test xs) (cond (test k) (Some v) None)
lookup-behind test k v [] = refl
lookup-behind test k v (x ∷ xs) = by (test x.0) (lookup-behind test k v xs)
  where
    by : (b : Bool) → lookup test (xs ++ (k, v) ∷ []) ≡ option_or (lookup test xs) (cond (test k) (Some v) None)
        → cond b (Some x.1) (lookup test (xs ++ (k, v) ∷ [])) ≡ option_or (cond b (Some x.1) (lookup test xs)) (cond (test k) (Some v) None)
    by true later = refl
    by false later = later

option_or-none : {A : Type 0} (o : Option A) → o ≡ option_or o None
option_or-none None = refl
option_or-none (Some x) = refl

turned_true : (k q : Key) → is_key k q ≡ true → is_key q k ≡ true
turned_true k q e =
    let same = is_exact k q e in
    let own = subst (λ x. is_key k x ≡ true) (sym same) e in
    subst (λ x. is_key x k ≡ true) same own

turned_false : (k q : Key) (b : Bool) → is_key k q ≡ false → is_key q k ≡ b → b ≡ false
turned_false k q true e f = absurd (false≢true (sym e ∙ turned_true q k f))
turned_false k q false e f = refl

-- a row of a key without one, behind the others and in the map
pub adds : {V : Type 0} (rows old new : List (Key × V)) (k : Key) (v : V) → lookup (is_key k) rows ≡ None
    → ((q : Key) → found_at old q ≡ lookup (is_key q) rows)
    → ((q : Key) → found_at new q ≡ cond (is_eq (key_cmp k q)) (Some v) (found_at old q))
    → (q : Key) → found_at new q ≡ lookup (is_key q) (rows ++ (k, v) ∷ [])
adds rows old new k v none before made q =
    made q ∙ ap (λ b. cond b (Some v) (found_at old q)) (compares k q) ∙ by (is_key k q) refl ∙ sym (lookup-behind (is_key q) k v rows)
  where
    by : (b : Bool) → is_key k q ≡ b → cond b (Some v) (found_at old q) ≡ option_or (lookup (is_key q) rows) (cond (is_key q k) (Some v) None)
    by true e =
        let absent : lookup (is_key q) rows ≡ None = subst (λ x. lookup (is_key x) rows ≡ None) (is_exact k q e) none in
        sym (ap (λ o. option_or o (cond (is_key q k) (Some v) None)) absent ∙ ap (λ b. cond b (Some v) None) (turned_true k q e))
    by false e =
        before q ∙ option_or-none (lookup (is_key q) rows) ∙ sym (ap (λ b. option_or (lookup (is_key q) rows) (cond b (Some v) None)) (turned_false k q (is_key q k) e refl))
