-- Formulas of a condition, one by one.
use Rattle.std.proofs.Common.{◌≡◌, ℕ, zero, suc, ◌+◌, ◌<◌, Bool, true, false, cond, ◌&&◌, List, [], ◌∷◌, ◌++◌, length, drop, Option, Some, None, refl, sym, ap, ap₂, ◌∙◌, arith}
use Rattle.std.specs.Prelude.{slice_get, reverse, IfSome}
use Rattle.std.specs.List.{list_all, position_from}
use Rattle.std.proofs.lemmas.List.{reverse-append, append-nil}
use Rattle.sn_width.specs.declared.ids.SymId.{SymId}
use Rattle.lin_term.specs.Terms.{Part}
use Rattle.path_formula.specs.Formulas.{FormulaTree, always, compared, belongs, all_of, any_of, opposite, Formulas, no_formulas, formula}
use Rattle.path_formula.specs.Kinds.{kind_of}
use Rattle.path_formula.specs.Typed.{IsTyped, AreTyped, PartsAreTyped}
use Rattle.path_formula.specs.View.{view}
use Rattle.path_formula.specs.declared.kinds.Kind.{Kind}
use Rattle.path_cond.specs.Conditions.{Entry, AllTyped, is_entry_on, is_simple_on, is_broken, is_broken_kind, broken_after, picks_from, picks_at, IsKept}

-- a place in a list holds something
pub not_missing : {X : Type 0} (xs : List X) (i : ℕ) → None ≡ slice_get xs i → i < length xs → ⊥
not_missing [] i e h = omega arith
not_missing (x ∷ xs) zero e h = cc
not_missing (x ∷ xs) (suc i) e h = not_missing xs i e (omega arith)

-- one more element that a test was tried on
pub test_step : {X : Type 0} (p : X → Bool) (xs : List X) (i : ℕ) (r : Bool) → i < length xs → IfSome (slice_get xs i) (λ x. r ≡ p x) → list_all p (drop i xs) ≡ (r && list_all p (drop (i + 1) xs))
test_step p [] i r lt h = absurd (omega arith)
test_step p (x ∷ xs) zero r lt h = ap (λ b. b && list_all p xs) (sym h)
test_step p (x ∷ xs) (suc i) r lt h =
    let next : suc (i + 1) ≡ suc i + 1 = omega arith in
    test_step p xs i r (omega arith) h ∙ ap (λ k. r && list_all p (drop k (x ∷ xs))) next

and_all : (b : Bool) → b ≡ b && true
and_all true = refl
and_all false = refl

-- a place keeps what it holds where more comes after
slice_get-more : (xs ys : List ℕ) (i w : ℕ) → slice_get xs i ≡ Some w → slice_get (xs ++ ys) i ≡ Some w
slice_get-more [] ys i w h = cc
slice_get-more (x ∷ xs) ys zero w h = h
slice_get-more (x ∷ xs) ys (suc i) w h = slice_get-more xs ys i w h

-- what is typed stays typed under more symbols
module _ (widths more : List ℕ) where
  parts_wider : (w : ℕ) (ps : List Part) → PartsAreTyped widths w ps → PartsAreTyped (widths ++ more) w ps
  parts_wider w [] h = tt
  parts_wider w (p ∷ ps) h = (slice_get-more widths more p.0.0 w h.0, parts_wider w ps h.1)

  mutual
    typed_wider : (f : FormulaTree) → IsTyped widths f → IsTyped (widths ++ more) f
    typed_wider (always b) h = tt
    typed_wider (compared rel a b) h = (h.0, parts_wider a.width a.parts h.1, parts_wider b.width b.parts h.2)
    typed_wider (belongs t set) h = (h.0, parts_wider t.width t.parts h.1)
    typed_wider (all_of fs) h = all_typed_wider fs h
    typed_wider (any_of fs) h = all_typed_wider fs h
    typed_wider (opposite f) h = typed_wider f h

    all_typed_wider : (fs : Formulas) → AreTyped widths fs → AreTyped (widths ++ more) fs
    all_typed_wider no_formulas h = tt
    all_typed_wider (formula f fs) h = (typed_wider f h.0, all_typed_wider fs h.1)

  pub AllTyped-wider : (entries : List Entry) → AllTyped widths entries → AllTyped (widths ++ more) entries
  AllTyped-wider [] h = tt
  AllTyped-wider (e ∷ entries) h = (typed_wider (view e.0) h.0, AllTyped-wider entries h.1)

-- one formula more
pub AllTyped-more : (widths : List ℕ) (entries : List Entry) (e : Entry) → AllTyped widths entries → IsTyped widths (view e.0) → AllTyped widths (entries ++ e ∷ [])
AllTyped-more widths [] e h t = (t, tt)
AllTyped-more widths (f ∷ entries) e h t = (h.0, AllTyped-more widths entries e h.1 t)

broken_first : (b : Bool) (n k : ℕ) → n ≡ k → cond b (Some n) None ≡ broken_after None b k
broken_first true n k e = ap Some e
broken_first false n k e = refl

broken_later : (b c : Bool) (n k : ℕ) (o p : Option ℕ) → o ≡ broken_after p c k → cond b (Some n) o ≡ broken_after (cond b (Some n) p) c k
broken_later true c n k o p h = refl
broken_later false c n k o p h = h

pub position_from-more : (n : ℕ) (entries : List Entry) (e : Entry) → position_from is_broken n (entries ++ e ∷ []) ≡ broken_after (position_from is_broken n entries) (is_broken e) (n + length entries)
position_from-more n [] e = broken_first (is_broken e) n (n + 0) (omega arith)
position_from-more n (f ∷ entries) e =
    let next : n + 1 + length entries ≡ n + suc (length entries) = omega arith in
    broken_later (is_broken f) (is_broken e) n (n + suc (length entries)) (position_from is_broken (n + 1) (entries ++ e ∷ [])) (position_from is_broken (n + 1) entries)
    (position_from-more (n + 1) entries e ∙ ap (broken_after (position_from is_broken (n + 1) entries) (is_broken e)) next)

picks_later : (b : Bool) (n : ℕ) (xs ys zs : List ℕ) → xs ≡ ys ++ zs → cond b (n ∷ xs) xs ≡ cond b (n ∷ ys) ys ++ zs
picks_later true n xs ys zs h = ap (λ ks. n ∷ ks) h
picks_later false n xs ys zs h = h

picks_from-more : (s : SymId) (n : ℕ) (entries : List Entry) (e : Entry) → picks_from s n (entries ++ e ∷ []) ≡ picks_from s n entries ++ cond (is_entry_on s e) ((n + length entries) ∷ []) []
picks_from-more s n [] e = let here : n ≡ n + 0 = omega arith in ap (λ k. cond (is_entry_on s e) (k ∷ []) []) here
picks_from-more s n (f ∷ entries) e =
    let next : suc n + length entries ≡ n + suc (length entries) = omega arith in
    picks_later (is_entry_on s f) n (picks_from s (suc n) (entries ++ e ∷ [])) (picks_from s (suc n) entries) (cond (is_entry_on s e) ((n + suc (length entries)) ∷ []) [])
    (picks_from-more s (suc n) entries e ∙ ap (λ k. picks_from s (suc n) entries ++ cond (is_entry_on s e) (k ∷ []) []) next)

reversed_more : (b : Bool) (k : ℕ) (xs : List ℕ) → reverse (xs ++ cond b (k ∷ []) []) ≡ cond b (k ∷ reverse xs) (reverse xs)
reversed_more true k xs = reverse-append xs (k ∷ [])
reversed_more false k xs = ap reverse (append-nil xs)

-- the picks of a symbol, the newest first, after one more formula
pub reversed_picks-more : (s : SymId) (entries : List Entry) (e : Entry) (n : ℕ) → n ≡ length entries → reverse (picks_from s 0 (entries ++ e ∷ [])) ≡ cond (is_entry_on s e) (n ∷ reverse (picks_from s 0 entries)) (reverse (picks_from s 0 entries))
reversed_picks-more s entries e n is =
    let here : 0 + length entries ≡ n = omega arith in
    ap reverse (picks_from-more s 0 entries e) ∙ reversed_more (is_entry_on s e) (0 + length entries) (picks_from s 0 entries)
    ∙ ap (λ k. cond (is_entry_on s e) (k ∷ reverse (picks_from s 0 entries)) (reverse (picks_from s 0 entries))) here

-- what is kept, after one more formula
pub IsKept-more : (widths : List ℕ) (entries : List Entry) (broken next_broken : Option ℕ) (simple next_simple : List (ℕ × List ℕ)) (e : Entry) (k : Kind) (n : ℕ)
    → IsKept widths entries broken simple → IsTyped widths (view e.0) → k ≡ kind_of (view e.0) → n ≡ length entries
    → next_broken ≡ broken_after broken (is_broken_kind e.1 k) n
    → ((s : SymId) → picks_at s next_simple ≡ cond (is_simple_on s k) (n ∷ picks_at s simple) (picks_at s simple))
    → IsKept widths (entries ++ e ∷ []) next_broken next_simple
IsKept-more widths entries broken next_broken simple next_simple e k n kept typed kind is hb hs =
    let here : n ≡ 0 + length entries = omega arith in
    record {
      typed = AllTyped-more widths entries e kept.typed typed;
      broken_is = hb ∙ ap₂ (λ o q. broken_after o (is_broken_kind e.1 q) n) kept.broken_is kind ∙ ap (broken_after (position_from is_broken 0 entries) (is_broken e)) here ∙ sym (position_from-more 0 entries e);
      simple_is = λ s. hs s ∙ ap₂ (λ q ks. cond (is_simple_on s q) (n ∷ ks) ks) kind (kept.simple_is s) ∙ sym (reversed_picks-more s entries e n is);
    }

pub IsKept-wider : (widths more : List ℕ) (entries : List Entry) (broken : Option ℕ) (simple : List (ℕ × List ℕ)) → IsKept widths entries broken simple → IsKept (widths ++ more) entries broken simple
IsKept-wider widths more entries broken simple kept =
    record { typed = AllTyped-wider widths more entries kept.typed; broken_is = kept.broken_is; simple_is = kept.simple_is }
