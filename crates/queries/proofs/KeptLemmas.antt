-- The steps of what is kept.
use Rattle.std.proofs.Common.{◌≡◌, ℕ, suc, ◌+◌, inl, inr, List, [], ◌∷◌, ◌++◌, length, refl, ap, subst, ◌∙◌, append_assoc, arith}
use Rattle.std.specs.List.{AllByRecursion}
use Rattle.path_questions.specs.Telling.{AreOpenBy, IsKept, Saying, found, left_open}

all_append : {A : Type 0} (P : A → Type 0) (xs ys : List A) → AllByRecursion P xs → AllByRecursion P ys → AllByRecursion P (xs ++ ys)
all_append P [] ys h k = k
all_append P (x ∷ xs) ys h k = (h.0, all_append P xs ys h.1 k)

pub all_more : {A : Type 0} (P : A → Type 0) (xs : List A) (x : A) → AllByRecursion P xs → P x → AllByRecursion P (xs ++ x ∷ [])
all_more P xs x h k = all_append P xs (x ∷ []) h (k, tt)

module _ {X : Type 0} (say : Saying X) where
  abbrev AreOpenNow : ℕ → List X → List ℕ → Type 0
  AreOpenNow n xs ns = AreOpenBy say say.RulesOut n xs ns

  more_open : (n : ℕ) (rs : List X) (x : X) (ns : List ℕ) → AreOpenNow n rs ns → say.LeavesOpen x → AreOpenNow n (rs ++ x ∷ []) (ns ++ (n + length rs) ∷ [])
  more_open n [] x ns h k = inl (k, [], ap (λ zs. zs ++ (n + 0) ∷ []) h ∙ (let same : n + 0 ≡ n = omega arith in ap (λ m. m ∷ []) same), refl)
  more_open n (y ∷ rs) x ns (inl h) k =
      let same : suc n + length rs ≡ n + suc (length rs) = omega arith in
      inl (
        h.0,
        h.1 ++ (n + suc (length rs)) ∷ [],
        ap (λ zs. zs ++ (n + suc (length rs)) ∷ []) h.2,
        subst (λ m. AreOpenNow (suc n) (rs ++ x ∷ []) (h.1 ++ m ∷ [])) same (more_open (suc n) rs x h.1 h.3 k),
      )
  more_open n (y ∷ rs) x ns (inr h) k =
      let same : suc n + length rs ≡ n + suc (length rs) = omega arith in
      inr (h.0, subst (λ m. AreOpenNow (suc n) (rs ++ x ∷ []) (ns ++ m ∷ [])) same (more_open (suc n) rs x ns h.1 k))

  no_more_open : (n : ℕ) (rs : List X) (x : X) (ns : List ℕ) → AreOpenNow n rs ns → say.RulesOut x → AreOpenNow n (rs ++ x ∷ []) ns
  no_more_open n [] x ns h k = inr (k, h)
  no_more_open n (y ∷ rs) x ns (inl h) k = inl (h.0, h.1, h.2, no_more_open (suc n) rs x h.1 h.3 k)
  no_more_open n (y ∷ rs) x ns (inr h) k = inr (h.0, no_more_open (suc n) rs x ns h.1 k)

  pub stays_found : (rs : List X) (x : X) (number : ℕ) (values : List ℕ) → IsKept say rs (found number values) → IsKept say (rs ++ x ∷ []) (found number values)
  stays_found rs x number values h = record {
    front = h.front;
    shower = h.shower;
    rest = h.rest ++ x ∷ [];
    joined = ap (λ zs. zs ++ x ∷ []) h.joined ∙ append_assoc h.front (h.shower ∷ h.rest) (x ∷ []);
    numbered = h.numbered;
    none = h.none;
    shows = h.shows;
  }

  pub hit_comes : (rs : List X) (x : X) (number : ℕ) (ns values : List ℕ) → number ≡ length rs → IsKept say rs (left_open ns) → say.Shows x values
      → IsKept say (rs ++ x ∷ []) (found number values)
  hit_comes rs x number ns values e h k = record { front = rs; shower = x; rest = []; joined = refl; numbered = e; none = h.0; shows = k }

  pub open_comes : (rs : List X) (x : X) (number : ℕ) (ns : List ℕ) → number ≡ length rs → IsKept say rs (left_open ns) → say.ShowsNone x × say.LeavesOpen x
      → IsKept say (rs ++ x ∷ []) (left_open (ns ++ number ∷ []))
  open_comes rs x number ns e h k =
      let same : 0 + length rs ≡ number = omega (arith, e) in
      (all_append say.ShowsNone rs (x ∷ []) h.0 (k.0, tt), subst (λ m. AreOpenNow 0 (rs ++ x ∷ []) (ns ++ m ∷ [])) same (more_open 0 rs x ns h.1 k.1))

  pub out_comes : (rs : List X) (x : X) (ns : List ℕ) → say.ShowsNone x → IsKept say rs (left_open ns) → say.RulesOut x → IsKept say (rs ++ x ∷ []) (left_open ns)
  out_comes rs x ns none h k = (all_append say.ShowsNone rs (x ∷ []) h.0 (none, tt), no_more_open 0 rs x ns h.1 k)
