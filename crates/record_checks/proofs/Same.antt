-- Lists that are compared member by member.
use Rattle.std.proofs.Common.{◌≡◌, ◌↔◌, ℕ, zero, suc, ◌+◌, ◌<◌, ◌≤◌, Bool, true, false, IsTrue, List, [], ◌∷◌, ◌++◌, length, map, take, get_or, Result, Ok, Err, IfOk, refl, sym, ap, ◌∙◌, arith}
use Rattle.std.proofs.lemmas.List.{length-map, map-id, take_all, take_more}

pub no_yes : false ≡ true → ⊥
no_yes e = cc

-- an answer that is no, where the fact does not hold
pub no_fact : (P : Type 0) → (P → ⊥) → IsTrue false ↔ P
no_fact P h = (λ e. absurd (no_yes e), λ p. absurd (h p))

pub yes_fact : (P : Type 0) → P → IsTrue true ↔ P
yes_fact P p = (λ e. p, λ q. refl)

mapped_at : {A B : Type 0} (f : A → B) (xs : List A) (k : ℕ) (d : A) → f (get_or xs k d) ≡ get_or (map f xs) k (f d)
mapped_at f [] k d = refl
mapped_at f (x ∷ xs) zero d = refl
mapped_at f (x ∷ xs) (suc k) d = mapped_at f xs k d

at_any : {C : Type 0} (zs : List C) (k : ℕ) (a b : C) → k < length zs → get_or zs k a ≡ get_or zs k b
at_any [] k a b h = absurd (omega (arith, h))
at_any (z ∷ zs) zero a b h = refl
at_any (z ∷ zs) (suc k) a b h = at_any zs k a b (omega (arith, h))

map_pushed : {A B : Type 0} (f : A → B) (zs : List A) (z : A) → map f (zs ++ z ∷ []) ≡ map f zs ++ f z ∷ []
map_pushed f [] z = refl
map_pushed {A} {B} f (w ∷ zs) z = ap (λ (us : List B). f w ∷ us) (map_pushed f zs z)

-- two lists whose members are seen as values of one type
module _ {A B C : Type 0} (f : A → C) (g : B → C) where
  same_lengths : (xs : List A) (ys : List B) → map f xs ≡ map g ys → length xs ≡ length ys
  same_lengths xs ys e = sym (length-map xs f) ∙ (ap length e ∙ length-map ys g)

  -- lists of other lengths differ
  pub other_lengths : (xs : List A) (ys : List B) → (length xs ≡ length ys → ⊥) → IsTrue false ↔ (map f xs ≡ map g ys)
  other_lengths xs ys h = no_fact (map f xs ≡ map g ys) (λ e. h (same_lengths xs ys e))

  -- and so do lists that differ at a place
  pub other_members : (xs : List A) (ys : List B) (k : ℕ) (x : A) (y : B) → k < length xs → x ≡ get_or xs k x → y ≡ get_or ys k y → (f x ≡ g y → ⊥)
      → IsTrue false ↔ (map f xs ≡ map g ys)
  other_members xs ys k x y less at_x at_y differ =
      no_fact (map f xs ≡ map g ys) (λ e. differ (
      ap f at_x
      ∙ (mapped_at f xs k x
      ∙ (ap (λ (zs : List C). get_or zs k (f x)) e
      ∙ (at_any (map g ys) k (f x) (g y) (let l = length-map ys g in let m = same_lengths xs ys e in omega (arith, less, l, m))
      ∙ (sym (mapped_at g ys k y) ∙ ap g (sym at_y)))))))

  -- the first members stay the same with one more
  pub more_members : (xs : List A) (ys : List B) (k : ℕ) (x : A) (y : B) → k < length xs → k < length ys → x ≡ get_or xs k x → y ≡ get_or ys k y → f x ≡ g y
      → map f (take k xs) ≡ map g (take k ys) → map f (take (k + 1) xs) ≡ map g (take (k + 1) ys)
  more_members xs ys k x y less less' at_x at_y same e =
      ap (map f) (take_more xs k x less)
      ∙ (map_pushed f (take k xs) (get_or xs k x)
      ∙ ((λ i. e i ++ (ap f (sym at_x) ∙ (same ∙ ap g at_y)) i ∷ [])
      ∙ (sym (map_pushed g (take k ys) (get_or ys k y)) ∙ ap (map g) (sym (take_more ys k y less')))))

  pub all_members : (xs : List A) (ys : List B) (k : ℕ) → length xs ≤ k → length ys ≤ k → map f (take k xs) ≡ map g (take k ys) → IsTrue true ↔ (map f xs ≡ map g ys)
  all_members xs ys k long long' e =
      yes_fact (map f xs ≡ map g ys) (ap (map f) (sym (take_all k xs long)) ∙ (e ∙ ap (map g) (take_all k ys long')))

-- where the members of the second are themselves
pub plain : {A C : Type 0} (f : A → C) (b : Bool) (xs : List A) (ys : List C) → (IsTrue b ↔ (map f xs ≡ map (λ (y : C). y) ys)) → (IsTrue b ↔ (map f xs ≡ ys))
plain f b xs ys h = (λ t. h.0 t ∙ map-id ys, λ e. h.1 (e ∙ sym (map-id ys)))

-- a question that is answered by another one
pub through : {E : Type 0} (r : Result Bool E) (P Q : Type 0) → (P ↔ Q) → IfOk r (λ yes. IsTrue yes ↔ P) → IfOk r (λ yes. IsTrue yes ↔ Q)
through (Ok b) P Q h k = (λ y. h.0 (k.0 y), λ q. k.1 (h.1 q))
through (Err e) P Q h k = tt

pub same_truth : (r a b : Bool) → r ≡ a → b ≡ a → IsTrue r ↔ (b ≡ true)
same_truth r a b e k = (λ y. k ∙ (sym e ∙ y), λ t. e ∙ (sym k ∙ t))

pub both_ways : (P : Type 0) → P ↔ P
both_ways P = (λ p. p, λ p. p)
