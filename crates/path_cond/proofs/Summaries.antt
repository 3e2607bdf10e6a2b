-- What is kept of the formulas, after one more.
use Rattle.std.proofs.Common.{◌≡◌, ℕ, zero, suc, ◌+◌, ◌-◌, ◌*◌, ◌^◌, ◌<◌, ◌≤◌, ◌==◌, min, Bool, true, false, cond, ◌&&◌, ◌||◌, List, [], ◌∷◌, ◌++◌, map, length, Option, Some, None, refl, sym, ap, ap₂, ◌∙◌, mul_assoc, append_assoc, arith, ◌⊎◌, inl, inr}
use Rattle.std.specs.Prelude.{reverse}
use Rattle.std.specs.List.{list_any, position_from}
use Rattle.std.proofs.lemmas.List.{reverse-append, append-nil}
use Rattle.std.proofs.lemmas.List.Folds.{list_any-append}
use Rattle.std.proofs.lemmas.Bool.Decides.{nat_tests}
use Rattle.std.proofs.Math.Nat.{mul_comm, mul-suc}
use Rattle.path_formula.specs.Kinds.{kind_of}
use Rattle.path_formula.specs.View.{view}
use Rattle.path_formula.specs.declared.kinds.Kind.{Kind}
use Rattle.path_formula.specs.Cases.{cases_of}
use Rattle.path_formula.specs.CaseCounts.{capped}
use Rattle.path_cond.specs.Conditions.{Entry, broken_after}
use Rattle.path_cond.specs.Marks.{Adds}
use Rattle.path_cond.specs.Occurring.{occurs_in}
use Rattle.path_cond.specs.Summaries.{IsKnown, picks_where, product, entry_case_count, first_case, has_one_case, single_case, singles_at, singles_from, has_no_cases, couples, is_inside, is_outside, is_inside_kind, is_outside_kind}
use Rattle.path_cond.specs.declared.singles.Single.{Single}
use Rattle.path_cond.specs.declared.summary.Summary.{Summary}
use Rattle.path_cond.proofs.Marking.{or_none}

first_one : (b : Bool) (n k : ℕ) → n ≡ k → cond b (Some n) None ≡ broken_after None b k
first_one true n k e = ap Some e
first_one false n k e = refl

first_later : (b c : Bool) (n k : ℕ) (o p : Option ℕ) → o ≡ broken_after p c k → cond b (Some n) o ≡ broken_after (cond b (Some n) p) c k
first_later true c n k o p h = refl
first_later false c n k o p h = h

position_more : (t : Entry → Bool) (n : ℕ) (entries : List Entry) (e : Entry) → position_from t n (entries ++ e ∷ []) ≡ broken_after (position_from t n entries) (t e) (n + length entries)
position_more t n [] e = first_one (t e) n (n + 0) (omega arith)
position_more t n (f ∷ entries) e =
    let next : n + 1 + length entries ≡ n + suc (length entries) = omega arith in
    first_later (t f) (t e) n (n + suc (length entries)) (position_from t (n + 1) (entries ++ e ∷ [])) (position_from t (n + 1) entries)
    (position_more t (n + 1) entries e ∙ ap (broken_after (position_from t (n + 1) entries) (t e)) next)

picks_later : (b : Bool) (n : ℕ) (xs ys zs : List ℕ) → xs ≡ ys ++ zs → cond b (n ∷ xs) xs ≡ cond b (n ∷ ys) ys ++ zs
picks_later true n xs ys zs h = ap (λ ks. n ∷ ks) h
picks_later false n xs ys zs h = h

picks_more : (t : Entry → Bool) (n : ℕ) (entries : List Entry) (e : Entry) → picks_where t n (entries ++ e ∷ []) ≡ picks_where t n entries ++ cond (t e) ((n + length entries) ∷ []) []
picks_more t n [] e = let here : n ≡ n + 0 = omega arith in ap (λ k. cond (t e) (k ∷ []) []) here
picks_more t n (f ∷ entries) e =
    let next : suc n + length entries ≡ n + suc (length entries) = omega arith in
    picks_later (t f) n (picks_where t (suc n) (entries ++ e ∷ [])) (picks_where t (suc n) entries) (cond (t e) ((n + suc (length entries)) ∷ []) [])
    (picks_more t (suc n) entries e ∙ ap (λ k. picks_where t (suc n) entries ++ cond (t e) (k ∷ []) []) next)

reversed_more : (b : Bool) (k : ℕ) (xs : List ℕ) → reverse (xs ++ cond b (k ∷ []) []) ≡ cond b (k ∷ reverse xs) (reverse xs)
reversed_more true k xs = reverse-append xs (k ∷ [])
reversed_more false k xs = ap reverse (append-nil xs)

picks_on : (t : Entry → Bool) (entries : List Entry) (e : Entry) (n : ℕ) (b : Bool) (old new : List ℕ) → n ≡ length entries → b ≡ t e
    → old ≡ reverse (picks_where t 0 entries) → new ≡ cond b (n ∷ old) old → new ≡ reverse (picks_where t 0 (entries ++ e ∷ []))
picks_on t entries e n b old new is ans was now =
    let here : n ≡ 0 + length entries = omega arith in
    now ∙ (λ i. cond (ans i) (here i ∷ was i) (was i)) ∙ sym (reversed_more (t e) (0 + length entries) (picks_where t 0 entries)) ∙ ap reverse (sym (picks_more t 0 entries e))

grows : (x k : ℕ) → x ≤ x * suc k
grows x k = omega (arith, mul-suc x k)

least : (x y : ℕ) → (x ≤ y) ⊎ (y < x)
least x y = search arith

cap_product : (most x n : ℕ) → min (min x most * n) most ≡ min (x * n) most
cap_product most x zero = omega arith
cap_product most x (suc k) =
    let a : min x most ≤ min x most * suc k = grows (min x most) k in
    let b : x ≤ x * suc k = grows x k in
    elim (least x most) [
      | inl small ↦ let e : min x most ≡ x = omega arith in ap (λ y. min (y * suc k) most) e
      | inr large ↦ omega arith
    ]

capped_both : (x n : ℕ) → capped (capped x * capped n) ≡ capped (x * n)
capped_both x n = cap_product (2 ^ 64 - 1) x (capped n) ∙ ap capped (mul_comm x (capped n)) ∙ cap_product (2 ^ 64 - 1) n x ∙ ap capped (mul_comm n x)

product_more : (ns : List ℕ) (n : ℕ) → product (ns ++ n ∷ []) ≡ product ns * n
product_more [] n = omega (arith, mul_comm n 1)
product_more (m ∷ ns) n = ap (λ k. m * k) (product_more ns n) ∙ sym (mul_assoc m (product ns) n)

counts_more : (entries : List Entry) (e : Entry) → map entry_case_count (entries ++ e ∷ []) ≡ map entry_case_count entries ++ entry_case_count e ∷ []
counts_more [] e = refl
counts_more (f ∷ entries) e = ap (λ ns. entry_case_count f ∷ ns) (counts_more entries e)

zero_capped : (n : ℕ) → (capped n == 0) ≡ (n == 0)
zero_capped zero = refl
zero_capped (suc n) = let low : 0 < min (suc n) (2 ^ 64 - 1) = omega arith in grind (arith, nat_tests)

-- the bounds of one formula more
singles_next : (n : ℕ) (entries : List Entry) (e : Entry)
    → singles_from n (entries ++ e ∷ []) ≡ singles_from n entries ++ singles_at (n + length entries) (single_case e)
singles_next n [] e =
    let here : n ≡ n + 0 = omega arith in
    append-nil (singles_at n (single_case e)) ∙ ap (λ k. singles_at k (single_case e)) here
singles_next n (f ∷ entries) e =
    let next : suc n + length entries ≡ n + suc (length entries) = omega arith in
    ap (λ xs. singles_at n (single_case f) ++ xs) (singles_next (suc n) entries e)
    ∙ ap (λ k. singles_at n (single_case f) ++ (singles_from (suc n) entries ++ singles_at k (single_case e))) next
    ∙ sym (append_assoc (singles_at n (single_case f)) (singles_from (suc n) entries) (singles_at (n + suc (length entries)) (single_case e)))

singles_on : (entries : List Entry) (e : Entry) (n : ℕ) (one : Bool) (old new : List Single) → n ≡ length entries → one ≡ has_one_case e
    → old ≡ singles_from 0 entries
    → new ≡ old ++ singles_at n (cond one (first_case (cases_of (view e.0) e.1)) [])
    → new ≡ singles_from 0 (entries ++ e ∷ [])
singles_on entries e n one old new is ans was now =
    let here : n ≡ 0 + length entries = omega arith in
    now ∙ (λ i. was i ++ singles_at (here i) (cond (ans i) (first_case (cases_of (view e.0) e.1)) []))
    ∙ sym (singles_next 0 entries e)

one_capped : (n : ℕ) → (capped n == 1) ≡ (n == 1)
one_capped zero = refl
one_capped (suc zero) = refl
one_capped (suc (suc n)) = let low : 1 < min (suc (suc n)) (2 ^ 64 - 1) = omega arith in grind (arith, nat_tests)

pub known_more : (entries : List Entry) (e : Entry) (kind : Kind) (pick cases : ℕ) (old new : Summary) → pick ≡ length entries → kind ≡ kind_of (view e.0) → cases ≡ capped (entry_case_count e)
    → new.inside ≡ cond (is_inside_kind kind) (pick ∷ old.inside) old.inside
    → new.outside ≡ cond (is_outside_kind kind) (pick ∷ old.outside) old.outside
    → new.choices ≡ capped (old.choices * cases)
    → new.singles ≡ old.singles ++ singles_at pick (cond (is_inside_kind kind && (cases == 1)) (first_case (cases_of (view e.0) e.1)) [])
    → new.caseless ≡ broken_after old.caseless (cases == 0) pick
    → Adds old.marks new.marks (λ s. is_inside_kind kind && occurs_in s (view e.0))
    → IsKnown entries old → IsKnown (entries ++ e ∷ []) new
known_more entries e kind pick cases old new is k n inside outside choices singles caseless adds h =
    let here : pick ≡ 0 + length entries = omega arith in
    record {
      inside_are = picks_on is_inside entries e pick (is_inside_kind kind) old.inside new.inside is (ap is_inside_kind k) h.inside_are inside;
      outside_are = picks_on is_outside entries e pick (is_outside_kind kind) old.outside new.outside is (ap is_outside_kind k) h.outside_are outside;
      choices_are = choices ∙ ap₂ (λ a b. capped (a * b)) h.choices_are n ∙ capped_both (product (map entry_case_count entries)) (entry_case_count e)
          ∙ ap capped (sym (product_more (map entry_case_count entries) (entry_case_count e)) ∙ ap product (sym (counts_more entries e)));
      singles_are =
          singles_on entries e pick (is_inside_kind kind && (cases == 1)) old.singles new.singles is
          (λ i. is_inside_kind (k i) && ((ap (λ m. m == 1) n ∙ one_capped (entry_case_count e)) i)) h.singles_are singles;
      caseless_is = caseless ∙ (λ i. broken_after (h.caseless_is i) ((ap (λ m. m == 0) n ∙ zero_capped (entry_case_count e)) i) (here i)) ∙ sym (position_more has_no_cases 0 entries e);
      marks_are = λ s.
          adds.marks s
          ∙ (λ i. h.marks_are s i || (is_inside_kind (k i) && occurs_in s (view e.0)))
          ∙ sym (list_any-append (couples s) entries (e ∷ []) ∙ ap (λ b. list_any (couples s) entries || b) (or_none (couples s e)));
    }
