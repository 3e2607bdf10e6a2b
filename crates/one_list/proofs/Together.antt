-- Two lists that are exact of one start go together, record by record.
use Rattle.std.proofs.Common.{◌≡◌, ◌∙◌, ◌≤◌, ◌⊎◌, ℕ, zero, suc, inl, inr, List, [], ◌∷◌, ◌++◌, length, map, refl, sym, ap, subst, Some, option_map, arith}
use Rattle.std.specs.List.{AllByRecursion}
use Rattle.path_cond.specs.Seen.{itself}
use Rattle.refutation_check.specs.Longer.{WidenFreely}
use Rattle.path_solver.specs.Judged.{AreExact as VerdictsAreExact}
use Rattle.sefl_meaning.specs.declared.walk.Decision.{Decision}
use Rattle.sefl_meaning.specs.Network.{Network, Entry}
use Rattle.sefl_meaning.specs.Injected.{unknown_count}
use Rattle.sefl_meaning.specs.Order.{Has, Parts}
use Rattle.sefl_meaning.specs.Routes.{IsOpen, behind, route}
use Rattle.term_values.specs.TermValues.{terms}
use Rattle.exact_records.specs.Records.{RecordTree, SymRoute, SymStart, SymTree, decisions_of, path, pruned, unexplored}
use Rattle.exact_records.specs.Exact.{AreExact, IsCutOff, IsGood, IsLeftBehind, IsTried, IsUnexplored, IsWhole, RecordsAscend}
use Rattle.exact_records.proofs.Lists.{append_nil}
use Rattle.path_questions.proofs.Growing.{TreeGrows}
use Rattle.one_list.specs.Same.{AreAlike, ExploredRecordsAreOne, without_refutation}
use Rattle.one_list.proofs.Comparing.{Meets, both_meet, meets_apart, turned}
use Rattle.one_list.proofs.Pairs.{good_open, left_is_one, same_left, tried_are_one}
use Rattle.one_list.proofs.Members.{Reached, all_has, all_so, reached}
use Rattle.one_list.proofs.Starts.{start_grows}

-- ---- lists that are alike, record by record

abbrev Alike : List RecordTree → List RecordTree → Type 0
Alike [] [] = Unit {0}
Alike [] (y ∷ qs) = ⊥
Alike (x ∷ rs) [] = ⊥
Alike (x ∷ rs) (y ∷ qs) = (without_refutation x ≡ without_refutation y) × Alike rs qs

alike_map : (rs qs : List RecordTree) → Alike rs qs → AreAlike rs qs
alike_map [] [] h = refl
alike_map [] (y ∷ qs) h = absurd h
alike_map (x ∷ rs) [] h = absurd h
alike_map (x ∷ rs) (y ∷ qs) h = λ i. h.0 i ∷ alike_map rs qs h.1 i

alike_append : (rs qs us vs : List RecordTree) → Alike rs qs → Alike us vs → Alike (rs ++ us) (qs ++ vs)
alike_append [] [] us vs h k = k
alike_append [] (y ∷ qs) us vs h k = absurd h
alike_append (x ∷ rs) [] us vs h k = absurd h
alike_append (x ∷ rs) (y ∷ qs) us vs h k = (h.0, alike_append rs qs us vs h.1 k)

alike_last : (rs qs : List RecordTree) (x y : RecordTree) → Alike (rs ++ x ∷ []) (qs ++ y ∷ []) → without_refutation x ≡ without_refutation y
alike_last [] [] x y h = h.0
alike_last [] (q ∷ []) x y h = absurd h.1
alike_last [] (q ∷ p ∷ qs) x y h = absurd h.1
alike_last (r ∷ []) [] x y h = absurd h.1
alike_last (r ∷ p ∷ rs) [] x y h = absurd h.1
alike_last (r ∷ rs) (q ∷ qs) x y h = alike_last rs qs x y h.1

decisions_stay : (x : RecordTree) → decisions_of (without_refutation x) ≡ decisions_of x
decisions_stay (path ds places end' fields verdict) = refl
decisions_stay (pruned ds before refutation) = refl
decisions_stay (unexplored ds) = refl

alike_decisions : (x y : RecordTree) → without_refutation x ≡ without_refutation y → decisions_of x ≡ decisions_of y
alike_decisions x y e = sym (decisions_stay x) ∙ (ap decisions_of e ∙ decisions_stay y)

-- ---- what is left of two lists

-- each record of the whole list is among the rest of it, or comes before all that are left of the other
abbrev Passed : List RecordTree → List RecordTree → List RecordTree → Type 0
Passed whole rest other =
    (z : RecordTree) → Has whole z → Has rest z ⊎ AllByRecursion (λ x. Parts (decisions_of z) (decisions_of x)) other

-- a list, and what is left of it
record IsRest (s : SymStart) (whole rest : List RecordTree) : Type 0 where
  pub reaches : (ds : List Decision) → IsOpen s.tree ds → Reached whole ds
  pub ascend : RecordsAscend rest
  pub good : AllByRecursion (IsGood s) rest

passed_one : (whole rest other : List RecordTree) (x y : RecordTree) → decisions_of x ≡ decisions_of y → RecordsAscend (y ∷ other)
    → Passed whole (x ∷ rest) (y ∷ other) → Passed whole rest other
passed_one whole rest other x y same ascend h z has =
    elim (h z has) [
      | inl k ↦ elim k [
        | inl e ↦
            let at : decisions_of y ≡ decisions_of z = sym same ∙ ap decisions_of e in
            inr (subst (λ ds. AllByRecursion (λ q. Parts ds (decisions_of q)) other) at ascend.0)
        | inr m ↦ inl m
      ]
      | inr k ↦ inr k.1
    ]

rest_one : (s : SymStart) (whole rest : List RecordTree) (x : RecordTree) → IsRest s whole (x ∷ rest) → IsRest s whole rest
rest_one s whole rest x h = record { reaches = h.reaches; ascend = h.ascend.1; good = h.good.1 }

-- ---- the records that were tried, and those that were left

-- there are as many as the limit, and these were left behind by the last of them
record IsFull (s : SymStart) (limit : ℕ) (done left : List RecordTree) : Type 0 where
  pub front : List RecordTree
  pub last : RecordTree
  pub is : done ≡ front ++ last ∷ []
  pub count : length done ≡ limit
  pub behind : AllByRecursion (λ x. IsLeftBehind s (decisions_of last) (decisions_of x)) left

record IsParted (s : SymStart) (limit : ℕ) (rs : List RecordTree) : Type 0 where
  pub done : List RecordTree
  pub left : List RecordTree
  pub joined : rs ≡ done ++ left
  pub tried : AllByRecursion IsTried done
  pub untried : AllByRecursion IsUnexplored left
  pub count : length done ≤ limit
  pub full : (left ≡ []) ⊎ IsFull s limit done left

parted : (s : SymStart) (limit : ℕ) (rs : List RecordTree) → IsWhole limit rs ⊎ IsCutOff s limit rs → IsParted s limit rs
parted s limit rs (inl h) =
    record { done = rs; left = []; joined = sym (append_nil rs); tried = h.tried; untried = tt; count = h.count; full = inl refl }
parted s limit rs (inr h) =
    let n = h.count in
    record {
      done = h.done ++ h.last ∷ [];
      left = h.left;
      joined = h.joined;
      tried = h.tried;
      untried = h.untried;
      count = omega (arith, n);
      full = inr (record {
        front = h.done;
        last = h.last;
        is = refl;
        count = n;
        behind = all_so (IsLeftBehind s (decisions_of h.last)) h.left (λ ds k. (h.exactly ds).0 k);
      });
    }

is_full : (s : SymStart) (limit : ℕ) (done left : List RecordTree) → (left ≡ []) ⊎ IsFull s limit done left → (left ≡ []) ⊎ (length done ≡ limit)
is_full s limit done left (inl e) = inl e
is_full s limit done left (inr h) = inr h.count

module _ (verdicts : VerdictsAreExact itself) (widen : WidenFreely itself)
    (composed : (t : SymTree) (ds es : List Decision) (r : SymRoute) → route t ds ≡ Some r
    → route t (ds ++ es) ≡ option_map (behind r.arrivals r.tests) (route r.left es))
    (prefix : (t : SymTree) (ds es : List Decision) → IsOpen t (ds ++ es) → IsOpen t ds)
    (s : SymStart) (grows : TreeGrows [] s.tree) where
  opened : (x : RecordTree) → IsGood s x → IsOpen s.tree (decisions_of x)
  opened x g = good_open verdicts widen composed s grows x g

  -- ---- the next records of both meet

  -- there is a next record of the other list
  none_missing : (rs : List RecordTree) (x : RecordTree) (us : List RecordTree) → IsGood s x
      → ((ds : List Decision) → IsOpen s.tree ds → Reached rs ds) → Passed rs [] (x ∷ us) → ⊥
  none_missing rs x us g reaches passed =
      let z = reaches (decisions_of x) (opened x g) in
      elim (passed z.0 z.1) [
        | inl k ↦ k
        | inr k ↦ meets_apart (decisions_of z.0) (decisions_of x) (turned (decisions_of x) (decisions_of z.0) z.2) k.0
      ]

  -- it meets this one, or one behind it does
  abbrev Met : RecordTree → RecordTree → Type 0
  Met x y = Meets (decisions_of x) (decisions_of y)
      ⊎ ((z : RecordTree) × Parts (decisions_of y) (decisions_of z) × Meets (decisions_of x) (decisions_of z))

  met : (qs : List RecordTree) (x y : RecordTree) (us vs : List RecordTree) → IsGood s x
      → ((ds : List Decision) → IsOpen s.tree ds → Reached qs ds) → Passed qs (y ∷ vs) (x ∷ us) → RecordsAscend (y ∷ vs) → Met x y
  met qs x y us vs g reaches passed ascend =
      let z = reaches (decisions_of x) (opened x g) in
      elim (passed z.0 z.1) [
        | inl k ↦ elim k [
          | inl e ↦ inl (subst (λ q. Meets (decisions_of x) (decisions_of q)) (sym e) z.2)
          | inr m ↦ inr (z.0, all_has (λ q. Parts (decisions_of y) (decisions_of q)) vs z.0 ascend.0 m, z.2)
        ]
        | inr k ↦ absurd (meets_apart (decisions_of z.0) (decisions_of x) (turned (decisions_of x) (decisions_of z.0) z.2) k.0)
      ]

  met_both : (x y : RecordTree) → Met x y → Met y x → Meets (decisions_of x) (decisions_of y)
  met_both x y (inl h) k = h
  met_both x y (inr h) (inl k) = turned (decisions_of y) (decisions_of x) k
  met_both x y (inr h) (inr k) = both_meet (decisions_of x) (decisions_of y) (decisions_of k.0) (decisions_of h.0) k.1 h.1 h.2 k.2

  module _ (rs qs : List RecordTree) where
    next_meet : (x y : RecordTree) (us vs : List RecordTree) → IsRest s rs (x ∷ us) → IsRest s qs (y ∷ vs)
        → Passed rs (x ∷ us) (y ∷ vs) → Passed qs (y ∷ vs) (x ∷ us) → Meets (decisions_of x) (decisions_of y)
    next_meet x y us vs a b p q =
        met_both x y (met qs x y us vs a.good.0 b.reaches q b.ascend) (met rs y x vs us b.good.0 a.reaches p a.ascend)

    -- ---- what was left

    left_go : (last : List Decision) (us vs : List RecordTree) → IsRest s rs us → IsRest s qs vs → Passed rs us vs → Passed qs vs us
        → AllByRecursion IsUnexplored us → AllByRecursion IsUnexplored vs
        → AllByRecursion (λ x. IsLeftBehind s last (decisions_of x)) us → AllByRecursion (λ x. IsLeftBehind s last (decisions_of x)) vs → Alike us vs
    left_go last [] [] a b p q un non l m = tt
    left_go last [] (y ∷ vs) a b p q un non l m = absurd (none_missing rs y vs b.good.0 a.reaches p)
    left_go last (x ∷ us) [] a b p q un non l m = absurd (none_missing qs x us a.good.0 b.reaches q)
    left_go last (x ∷ us) (y ∷ vs) a b p q un non l m =
        let same = left_is_one s last (decisions_of x) (decisions_of y) l.0 m.0 (next_meet x y us vs a b p q) in (
          same_left x y un.0 non.0 same,
          left_go last us vs (rest_one s rs us x a) (rest_one s qs vs y b) (passed_one rs us vs x y same b.ascend p)
              (passed_one qs vs us y x (sym same) a.ascend q) un.1 non.1 l.1 m.1,
        )

    -- ---- what was tried

    -- those that were tried are alike, and this is left
    record IsGone (us vs left other : List RecordTree) : Type 0 where
      pub alike : Alike us vs
      pub first : IsRest s rs left
      pub second : IsRest s qs other
      pub passed_first : Passed rs left other
      pub passed_second : Passed qs other left

    tried_go : (n : ℕ) (us vs left other : List RecordTree) → IsRest s rs (us ++ left) → IsRest s qs (vs ++ other)
        → Passed rs (us ++ left) (vs ++ other) → Passed qs (vs ++ other) (us ++ left) → AllByRecursion IsTried us → AllByRecursion IsTried vs
        → length us ≤ n → length vs ≤ n → (left ≡ []) ⊎ (length us ≡ n) → (other ≡ []) ⊎ (length vs ≡ n) → IsGone us vs left other
    tried_go n [] [] left other a b p q tried also l m f g = record { alike = tt; first = a; second = b; passed_first = p; passed_second = q }
    tried_go n [] (y ∷ vs) left other a b p q tried also l m (inl e) g =
        absurd (none_missing rs y (vs ++ other) b.good.0 a.reaches (subst (λ us. Passed rs us (y ∷ vs ++ other)) e p))
    tried_go n [] (y ∷ vs) left other a b p q tried also l m (inr f) g =
        let more : suc (length vs) ≤ n = m in
        let none : 0 ≡ n = f in
        absurd (omega (arith, more, none))
    tried_go n (x ∷ us) [] left other a b p q tried also l m f (inl e) =
        absurd (none_missing qs x (us ++ left) a.good.0 b.reaches (subst (λ vs. Passed qs vs (x ∷ us ++ left)) e q))
    tried_go n (x ∷ us) [] left other a b p q tried also l m f (inr g) =
        let more : suc (length us) ≤ n = l in
        let none : 0 ≡ n = g in
        absurd (omega (arith, more, none))
    tried_go zero (x ∷ us) (y ∷ vs) left other a b p q tried also l m f g =
        let more : suc (length us) ≤ 0 = l in
        absurd (omega (arith, more))
    tried_go (suc n) (x ∷ us) (y ∷ vs) left other a b p q tried also l m f g =
        let is = tried_are_one verdicts widen composed s grows x y a.good.0 tried.0 b.good.0 also.0 (next_meet x y (us ++ left) (vs ++ other) a b p q) in
        let same = alike_decisions x y is in
        let first : suc (length us) ≤ suc n = l in
        let second : suc (length vs) ≤ suc n = m in
        let gone =
        tried_go n us vs left other (rest_one s rs (us ++ left) x a) (rest_one s qs (vs ++ other) y b)
        (passed_one rs (us ++ left) (vs ++ other) x y same b.ascend p) (passed_one qs (vs ++ other) (us ++ left) y x (sym same) a.ascend q)
        tried.1 also.1 (omega (arith, first)) (omega (arith, second)) (one_less left us n f) (one_less other vs n g) in
        record { alike = (is, gone.alike); first = gone.first; second = gone.second; passed_first = gone.passed_first; passed_second = gone.passed_second }
      where
        one_less : (left us : List RecordTree) (n : ℕ) → (left ≡ []) ⊎ (suc (length us) ≡ suc n) → (left ≡ []) ⊎ (length us ≡ n)
        one_less left us n (inl e) = inl e
        one_less left us n (inr h) = inr (omega (arith, h))

    -- ---- both together

    none_behind : (last : List Decision) (us : List RecordTree) → us ≡ [] → AllByRecursion (λ x. IsLeftBehind s last (decisions_of x)) us
    none_behind last us e = subst (AllByRecursion (λ x. IsLeftBehind s last (decisions_of x))) (sym e) tt

    left_alike : (limit : ℕ) (done also us vs : List RecordTree) → IsGone done also us vs → AllByRecursion IsUnexplored us → AllByRecursion IsUnexplored vs
        → (us ≡ []) ⊎ IsFull s limit done us → (vs ≡ []) ⊎ IsFull s limit also vs → Alike us vs
    left_alike limit done also us vs gone un non (inl e) (inl f) =
        left_go [] us vs gone.first gone.second gone.passed_first gone.passed_second un non (none_behind [] us e) (none_behind [] vs f)
    left_alike limit done also us vs gone un non (inl e) (inr f) =
        let last = decisions_of f.last in
        left_go last us vs gone.first gone.second gone.passed_first gone.passed_second un non (none_behind last us e) f.behind
    left_alike limit done also us vs gone un non (inr e) (inl f) =
        let last = decisions_of e.last in
        left_go last us vs gone.first gone.second gone.passed_first gone.passed_second un non e.behind (none_behind last vs f)
    left_alike limit done also us vs gone un non (inr e) (inr f) =
        let ends = alike_last e.front f.front e.last f.last (subst (Alike (e.front ++ e.last ∷ [])) f.is (subst (λ l. Alike l also) e.is gone.alike)) in
        let same = alike_decisions e.last f.last ends in
        left_go (decisions_of e.last) us vs gone.first gone.second gone.passed_first gone.passed_second un non e.behind
        (subst (λ last. AllByRecursion (λ x. IsLeftBehind s last (decisions_of x)) vs) (sym same) f.behind)

    all_one : (limit : ℕ) → AreExact s limit rs → AreExact s limit qs → AreAlike rs qs
    all_one limit h k =
        let a = parted s limit rs h.limited in
        let b = parted s limit qs k.limited in
        let first : IsRest s rs (a.done ++ a.left) =
        record { reaches = reached prefix s rs h.begun h.some; ascend = subst RecordsAscend a.joined h.ascend; good = subst (AllByRecursion (IsGood s)) a.joined h.good } in
        let second : IsRest s qs (b.done ++ b.left) =
        record { reaches = reached prefix s qs k.begun k.some; ascend = subst RecordsAscend b.joined k.ascend; good = subst (AllByRecursion (IsGood s)) b.joined k.good } in
        let gone =
        tried_go limit a.done b.done a.left b.left first second (λ z has. inl (subst (λ l. Has l z) a.joined has)) (λ z has. inl (subst (λ l. Has l z) b.joined has))
        a.tried b.tried a.count b.count (is_full s limit a.done a.left a.full) (is_full s limit b.done b.left b.full) in
        let left = left_alike limit a.done b.done a.left b.left gone a.untried b.untried a.full b.full in
        ap (map without_refutation) a.joined
        ∙ (alike_map (a.done ++ a.left) (b.done ++ b.left) (alike_append a.done b.done a.left b.left gone.alike left) ∙ ap (map without_refutation) (sym b.joined))

-- the records of one start are one list
pub records_are_one : (verdicts : VerdictsAreExact itself) (widen : WidenFreely itself)
    (composed : (t : SymTree) (ds es : List Decision) (r : SymRoute) → route t ds ≡ Some r
    → route t (ds ++ es) ≡ option_map (behind r.arrivals r.tests) (route r.left es))
    (prefix : (t : SymTree) (ds es : List Decision) → IsOpen t (ds ++ es) → IsOpen t ds)
    (net : Network) (i : Entry) (hops : ℕ) → ExploredRecordsAreOne net i hops
records_are_one verdicts widen composed prefix net i hops start explored limit rs qs h k =
    all_one verdicts widen composed prefix start (start_grows (terms (unknown_count i)) net i hops start explored) rs qs limit h k
