-- Lists that are read one value after another.
use Rattle.std.proofs.Common.{◌≡◌, ℕ, zero, suc, ◌+◌, ◌-◌, ◌<◌, Bool, true, false, List, [], ◌∷◌, ◌++◌, length, None, Some, refl, sym, ap, ◌∙◌, arith, append_assoc, map}
use Rattle.std.proofs.lemmas.List.{map-append}
use Rattle.sefl_grammar.specs.Word.{Word}
use Rattle.sefl_builder.specs.Reading.{Found, Reader, many, all, added}

nothing_less : (n : ℕ) → n - 0 ≡ n
nothing_less n = omega arith

added_none : {A : Type 0} (found : Found (List A)) → added [] found ≡ found
added_none None = refl
added_none (Some r) = refl

-- one step less is to come
less : (i n : ℕ) → i < n → n - i ≡ suc (n - (i + 1))
less i n h = omega arith

many_goes : {A : Type 0} (goes : List Word → Bool) (item : Reader A) (n : ℕ) (ws mid : List Word) (x : A)
    → goes ws ≡ true → item ws ≡ Some (x, mid) → many goes item (suc n) ws ≡ added (x ∷ []) (many goes item n mid)
many_goes goes item n ws mid x g e = rw (g, e) refl

added_twice : {A : Type 0} (xs : List A) (x : A) (found : Found (List A)) → added xs (added (x ∷ []) found) ≡ added (xs ++ x ∷ []) found
added_twice xs x None = refl
added_twice xs x (Some r) = ap (λ l. Some (l, r.1)) (sym (append_assoc xs (x ∷ []) r.0))

pub many_step : {A : Type 0} (goes : List Word → Bool) (item : Reader A) (i n : ℕ) (ws mid : List Word) (xs : List A) (x : A)
    → i < n → goes ws ≡ true → item ws ≡ Some (x, mid)
    → added xs (many goes item (n - i) ws) ≡ added (xs ++ x ∷ []) (many goes item (n - (i + 1)) mid)
many_step goes item i n ws mid xs x h g e =
    ap (λ k. added xs (many goes item k ws)) (less i n h)
    ∙ ap (added xs) (many_goes goes item (n - (i + 1)) ws mid x g e)
    ∙ added_twice xs x (many goes item (n - (i + 1)) mid)

-- all is to come behind what is known
pub many_after : {A : Type 0} (goes : List Word → Bool) (item : Reader A) (n : ℕ) (ws : List Word) (xs : List A)
    → n ≡ length ws → added xs (many goes item (n - 0) ws) ≡ added xs (all goes item ws)
unfolding all
many_after goes item n ws xs e = ap (λ k. added xs (many goes item k ws)) (nothing_less n ∙ e)

-- all is to come
pub many_begin : {A : Type 0} (goes : List Word → Bool) (item : Reader A) (n : ℕ) (ws : List Word)
    → n ≡ length ws → added [] (many goes item (n - 0) ws) ≡ all goes item ws
unfolding all
many_begin goes item n ws e = ap (λ k. added [] (many goes item k ws)) (nothing_less n ∙ e) ∙ added_none (many goes item (length ws) ws)

many_ends : {A : Type 0} (goes : List Word → Bool) (item : Reader A) (n : ℕ) (ws : List Word) → goes ws ≡ false → many goes item n ws ≡ Some ([], ws)
many_ends goes item zero ws g = refl
many_ends goes item (suc n) ws g = rw g refl

append_nil : {A : Type 0} (xs : List A) → xs ++ [] ≡ xs
append_nil [] = refl
append_nil (x ∷ xs) = ap (λ l. x ∷ l) (append_nil xs)

-- none is to come
pub many_stop : {A : Type 0} (goes : List Word → Bool) (item : Reader A) (n : ℕ) (ws : List Word) (xs : List A)
    → goes ws ≡ false → added xs (many goes item n ws) ≡ Some (xs, ws)
many_stop goes item n ws xs g = ap (added xs) (many_ends goes item n ws g) ∙ ap (λ l. Some (l, ws)) (append_nil xs)

-- as many were read as may be
pub many_full : {A : Type 0} (goes : List Word → Bool) (item : Reader A) (ws : List Word) (xs : List A)
    → added xs (many goes item 0 ws) ≡ Some (xs, ws)
many_full goes item ws xs = ap (λ l. Some (l, ws)) (append_nil xs)

-- one was not read
pub many_fails : {A : Type 0} (goes : List Word → Bool) (item : Reader A) (i n : ℕ) (ws : List Word) (xs : List A)
    → i < n → goes ws ≡ true → item ws ≡ None → added xs (many goes item (n - i) ws) ≡ None
many_fails goes item i n ws xs h g e =
    ap (λ k. added xs (many goes item k ws)) (less i n h) ∙ rw (g, e) refl

-- one more was read, which the program has in its list
pub many_next : {A B : Type 0} (view : A → B) (goes : List Word → Bool) (item : Reader B) (i n : ℕ) (ws mid : List Word) (xs ys : List A) (x : A) (total : Found (List B))
    → added (map view xs) (many goes item (n - i) ws) ≡ total → i < n → goes ws ≡ true → item ws ≡ Some (view x, mid) → ys ≡ xs ++ x ∷ []
    → added (map view ys) (many goes item (n - (i + 1)) mid) ≡ total
many_next view goes item i n ws mid xs ys x total before h g e is =
    ap (λ l. added (map view l) (many goes item (n - (i + 1)) mid)) is
    ∙ ap (λ l. added l (many goes item (n - (i + 1)) mid)) (map-append view xs (x ∷ []))
    ∙ sym (many_step goes item i n ws mid (map view xs) (view x) h g e) ∙ before

-- the same where the program's values are those that are read
pub many_next_same : {A : Type 0} (goes : List Word → Bool) (item : Reader A) (i n : ℕ) (ws mid : List Word) (xs ys : List A) (x : A) (total : Found (List A))
    → added xs (many goes item (n - i) ws) ≡ total → i < n → goes ws ≡ true → item ws ≡ Some (x, mid) → ys ≡ xs ++ x ∷ []
    → added ys (many goes item (n - (i + 1)) mid) ≡ total
many_next_same goes item i n ws mid xs ys x total before h g e is =
    ap (λ l. added l (many goes item (n - (i + 1)) mid)) is ∙ sym (many_step goes item i n ws mid xs x h g e) ∙ before
