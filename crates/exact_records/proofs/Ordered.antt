-- Records that stand for a tree ascend, and each end of the tree has one of them.
use Rattle.std.proofs.Common.{◌≡◌, ℕ, zero, suc, ◌+◌, ◌<◌, ◌≤◌, ◌⊎◌, inl, inr, Bool, true, false, List, [], ◌∷◌, ◌++◌, refl, sym, ap, subst, ◌∙◌, append_assoc, arith, Option, Some, None, option_map}
use Rattle.std.specs.List.{AllByRecursion}
use Rattle.sefl_meaning.specs.declared.walk.Decision.{Decision}
use Rattle.sefl_meaning.specs.declared.walk.Decision.TheVariants.{Then, Else, Pass, Broken, Copy}
use Rattle.sefl_meaning.specs.declared.walk.End.{End}
use Rattle.sefl_meaning.specs.Courses.{Asking, at_if, at_constrain, Progress}
use Rattle.sefl_meaning.specs.Trees.{Tree, over, arrives, tests, splits, Copies, no_copies, copy_and}
use Rattle.sefl_meaning.specs.Taken.{decision_at}
use Rattle.sefl_meaning.specs.Routes.{truth_of, number_of, Route, waiting, arriving, taking, by_truth, by_number, route, copy_route}
use Rattle.sefl_meaning.specs.Order.{BeginsWith, Parts, rank}
use Rattle.exact_records.specs.Records.{RecordTree, path, pruned, unexplored, decisions_of}
use Rattle.exact_records.specs.Exact.{ExactlyOne, RecordsAscend}
use Rattle.exact_records.specs.Shapes.{IsPathAt, IsNotRun, One, Joined, Side, Covers, CoverCopies, SideOf}
use Rattle.exact_records.proofs.Lists.{append_nil, all_append, all_weaker, one_before, one_after}
use Rattle.exact_records.proofs.Begins.{begins_part, parts_of, same_decision, less_asked, less_not_same}

-- the record's decisions begin with these
abbrev pub Behind : List Decision → RecordTree → Type 0
Behind ds x = BeginsWith ds (decisions_of x)

pub at_path : (ds : List Decision) (x : RecordTree) → IsPathAt ds x → decisions_of x ≡ ds
at_path ds (path es places end' fields verdict) h = h
at_path ds (pruned es before refutation) h = absurd h
at_path ds (unexplored es) h = absurd h

pub at_side : (ds : List Decision) (x : RecordTree) → IsNotRun ds x → decisions_of x ≡ ds
at_side ds (path es places end' fields verdict) h = absurd h
at_side ds (pruned es before refutation) h = h
at_side ds (unexplored es) h = h

pub begins_same : (ds : List Decision) (x : RecordTree) → decisions_of x ≡ ds → Behind ds x
begins_same ds x e = ([], append_nil ds ∙ sym e)

-- one record, of these decisions
one_behind : (P : RecordTree → Type 0) (ds : List Decision) (rs : List RecordTree) → ((x : RecordTree) → P x → decisions_of x ≡ ds) → One P rs
    → AllByRecursion (Behind ds) rs
one_behind P ds rs f h = subst (AllByRecursion (Behind ds)) (sym h.is) (begins_same ds h.it (f h.it h.has), tt)

side_behind : (ds : List Decision) (rs : List RecordTree) (K : Type 0) → (K → AllByRecursion (Behind ds) rs) → Side ds rs K → AllByRecursion (Behind ds) rs
side_behind ds rs K f (inl h) = one_behind (IsNotRun ds) ds rs (at_side ds) h
side_behind ds rs K f (inr h) = f h.1

joined_all : (P : RecordTree → Type 0) (S T : List RecordTree → Type 0) (rs : List RecordTree)
    → ((xs : List RecordTree) → S xs → AllByRecursion P xs) → ((xs : List RecordTree) → T xs → AllByRecursion P xs) → Joined S T rs → AllByRecursion P rs
joined_all P S T rs f g h = subst (AllByRecursion P) (sym h.is) (all_append P h.first h.later (f h.first h.firsts) (g h.later h.laters))

module _ {V F : Type 0} where
  mutual
    pub covers_behind : (t : Tree V F) (ds : List Decision) (rs : List RecordTree) → Covers t ds rs → AllByRecursion (Behind ds) rs
    covers_behind (over p end') ds rs h = one_behind (IsPathAt ds) ds rs (at_path ds) h
    covers_behind (arrives place p t) ds rs h = covers_behind t ds rs h
    covers_behind (tests asking p test held broken) ds rs h =
        joined_all (Behind ds) _ _ rs
        (λ xs k. all_weaker _ _ xs (λ x. begins_part ds (decision_at asking true) (decisions_of x))
        (side_behind (ds ++ decision_at asking true ∷ []) xs _ (covers_behind held (ds ++ decision_at asking true ∷ []) xs) k))
        (λ xs k. all_weaker _ _ xs (λ x. begins_part ds (decision_at asking false) (decisions_of x))
        (side_behind (ds ++ decision_at asking false ∷ []) xs _ (covers_behind broken (ds ++ decision_at asking false ∷ []) xs) k))
        h
    covers_behind (splits p branches) ds rs h = all_weaker _ _ rs (λ x (k : (m : ℕ) × (0 ≤ m) × Behind (ds ++ Copy m ∷ []) x). begins_part ds (Copy k.0) (decisions_of x) k.2) (copies_behind branches 0 ds rs h)

    -- each is behind one of the copies from the number on
    pub copies_behind : (branches : Copies V F) (n : ℕ) (ds : List Decision) (rs : List RecordTree) → CoverCopies branches n ds rs
        → AllByRecursion (λ x. (m : ℕ) × (n ≤ m) × Behind (ds ++ Copy m ∷ []) x) rs
    copies_behind no_copies n ds rs h = subst (AllByRecursion _) (sym h) tt
    copies_behind (copy_and t branches) n ds rs h =
        joined_all _ _ _ rs
        (λ xs k. all_weaker _ _ xs (λ x b. (n, omega arith, b)) (side_behind (ds ++ Copy n ∷ []) xs _ (covers_behind t (ds ++ Copy n ∷ []) xs) k))
        (λ xs k. all_weaker _ _ xs (λ x (b : (m : ℕ) × (suc n ≤ m) × Behind (ds ++ Copy m ∷ []) x). (b.0, omega (arith, b.1), b.2)) (copies_behind branches (suc n) ds xs k))
        h

  pub side_of_behind : (t : Tree V F) (ds : List Decision) (rs : List RecordTree) → SideOf t ds rs → AllByRecursion (Behind ds) rs
  side_of_behind t ds rs h = side_behind ds rs _ (covers_behind t ds rs) h

-- ---- ascending

pub ascend_append : (xs ys : List RecordTree) → RecordsAscend xs → RecordsAscend ys
    → AllByRecursion (λ x. AllByRecursion (λ y. Parts (decisions_of x) (decisions_of y)) ys) xs → RecordsAscend (xs ++ ys)
ascend_append [] ys h k m = k
ascend_append (x ∷ xs) ys h k m = (all_append _ xs ys h.0 m.0, ascend_append xs ys h.1 k m.1)

one_ascends : (P : RecordTree → Type 0) (rs : List RecordTree) → One P rs → RecordsAscend rs
one_ascends P rs h = subst RecordsAscend (sym h.is) (tt, tt)

side_ascends : (ds : List Decision) (rs : List RecordTree) (K : Type 0) → (K → RecordsAscend rs) → Side ds rs K → RecordsAscend rs
side_ascends ds rs K f (inl h) = one_ascends (IsNotRun ds) rs h
side_ascends ds rs K f (inr h) = f h.1

-- behind different decisions
apart : (ds : List Decision) (c d : Decision) (xs ys : List RecordTree) → rank c < rank d → AllByRecursion (Behind (ds ++ c ∷ [])) xs
    → AllByRecursion (Behind (ds ++ d ∷ [])) ys → AllByRecursion (λ x. AllByRecursion (λ y. Parts (decisions_of x) (decisions_of y)) ys) xs
apart ds c d xs ys less h k =
    all_weaker _ _ xs (λ x b. all_weaker _ _ ys (λ y e. parts_of ds c d (decisions_of x) (decisions_of y) b e less) k) h

module _ {V F : Type 0} where
  mutual
    pub covers_ascend : (t : Tree V F) (ds : List Decision) (rs : List RecordTree) → Covers t ds rs → RecordsAscend rs
    covers_ascend (over p end') ds rs h = one_ascends (IsPathAt ds) rs h
    covers_ascend (arrives place p t) ds rs h = covers_ascend t ds rs h
    covers_ascend (tests asking p test held broken) ds rs h =
        let c = decision_at asking true in
        let d = decision_at asking false in
        subst RecordsAscend (sym h.is) (ascend_append h.first h.later
        (side_ascends (ds ++ c ∷ []) h.first _ (covers_ascend held (ds ++ c ∷ []) h.first) h.firsts)
        (side_ascends (ds ++ d ∷ []) h.later _ (covers_ascend broken (ds ++ d ∷ []) h.later) h.laters)
        (apart ds c d h.first h.later (less_asked asking) (side_of_behind held (ds ++ c ∷ []) h.first h.firsts) (side_of_behind broken (ds ++ d ∷ []) h.later h.laters)))
    covers_ascend (splits p branches) ds rs h = copies_ascend branches 0 ds rs h

    pub copies_ascend : (branches : Copies V F) (n : ℕ) (ds : List Decision) (rs : List RecordTree) → CoverCopies branches n ds rs → RecordsAscend rs
    copies_ascend no_copies n ds rs h = subst RecordsAscend (sym h) tt
    copies_ascend (copy_and t branches) n ds rs h =
        let c = Copy n in
        subst RecordsAscend (sym h.is) (ascend_append h.first h.later
        (side_ascends (ds ++ c ∷ []) h.first _ (covers_ascend t (ds ++ c ∷ []) h.first) h.firsts)
        (copies_ascend branches (suc n) ds h.later h.laters)
        (all_weaker _ _ h.first
        (λ x (b : Behind (ds ++ c ∷ []) x). all_weaker _ _ h.later (λ y (e : (m : ℕ) × (suc n ≤ m) × Behind (ds ++ Copy m ∷ []) y). parts_of ds c (Copy e.0) (decisions_of x) (decisions_of y) b e.2 (omega (arith, e.1))) (copies_behind branches (suc n) ds h.later h.laters))
        (side_of_behind t (ds ++ c ∷ []) h.first h.firsts)))

  pub side_of_ascends : (t : Tree V F) (ds : List Decision) (rs : List RecordTree) → SideOf t ds rs → RecordsAscend rs
  side_of_ascends t ds rs h = side_ascends ds rs _ (covers_ascend t ds rs) h

pub number_apart : (n m : ℕ) → Copy n ≡ Copy m → m < n → ⊥
number_apart n m e h = let same : n ≡ m = cc in omega (arith, h, same)

-- ---- which side a decision takes

pub only_offered : (asking : Asking) (d : Decision) (truth : Bool) → truth_of asking d ≡ Some truth → d ≡ decision_at asking truth
only_offered at_if Then truth e = let same : true ≡ truth = cc in ap (decision_at at_if) same
only_offered at_if Else truth e = let same : false ≡ truth = cc in ap (decision_at at_if) same
only_offered at_if Pass truth e = cc
only_offered at_if Broken truth e = cc
only_offered at_if (Copy number) truth e = cc
only_offered at_constrain Then truth e = cc
only_offered at_constrain Else truth e = cc
only_offered at_constrain Pass truth e = let same : true ≡ truth = cc in ap (decision_at at_constrain) same
only_offered at_constrain Broken truth e = let same : false ≡ truth = cc in ap (decision_at at_constrain) same
only_offered at_constrain (Copy number) truth e = cc

pub only_number : (d : Decision) (n : ℕ) → number_of d ≡ Some n → d ≡ Copy n
only_number Then n e = cc
only_number Else n e = cc
only_number Pass n e = cc
only_number Broken n e = cc
only_number (Copy m) n e = let same : m ≡ n = cc in ap (λ (k : ℕ). Copy k) same

pub mapped_some : {A B : Type 0} (f : A → B) (x : Option A) (b : B) → option_map f x ≡ Some b → (a : A) × (x ≡ Some a) × (b ≡ f a)
mapped_some f None b e = cc
mapped_some f (Some a) b e = (a, refl, cc)

module _ {V F : Type 0} where
  -- a route that goes to this side of a test
  pub record GoesTo (asking : Asking) (test : F) (side : Tree V F) (truth : Bool) (d : Decision) (ds : List Decision) (r : Route V F) : Type 0 where
    pub taken : d ≡ decision_at asking truth
    pub way : Route V F
    pub found : route side ds ≡ Some way
    pub is : r ≡ taking test truth way

  goes_to : (asking : Asking) (test : F) (side : Tree V F) (truth : Bool) (d : Decision) (ds : List Decision) (r : Route V F)
      → truth_of asking d ≡ Some truth → option_map (taking test truth) (route side ds) ≡ Some r → GoesTo asking test side truth d ds r
  goes_to asking test side truth d ds r e k =
      let m = mapped_some (taking test truth) (route side ds) r k in
      record { taken = only_offered asking d truth e; way = m.0; found = m.1; is = m.2 }

  by_cases_of_truth : (asking : Asking) (test : F) (held broken : Tree V F) (d : Decision) (ds : List Decision) (r : Route V F) (truth : Option Bool)
      → truth_of asking d ≡ truth → by_truth truth test (route held ds) (route broken ds) ≡ Some r
      → GoesTo asking test held true d ds r ⊎ GoesTo asking test broken false d ds r
  by_cases_of_truth asking test held broken d ds r None e k = let bad : None ≡ Some r = k in cc
  by_cases_of_truth asking test held broken d ds r (Some true) e k = inl (goes_to asking test held true d ds r e k)
  by_cases_of_truth asking test held broken d ds r (Some false) e k = inr (goes_to asking test broken false d ds r e k)

  pub side_taken : (asking : Asking) (p : Progress V) (test : F) (held broken : Tree V F) (d : Decision) (ds : List Decision) (r : Route V F)
      → route (tests asking p test held broken) (d ∷ ds) ≡ Some r → GoesTo asking test held true d ds r ⊎ GoesTo asking test broken false d ds r
  side_taken asking p test held broken d ds r k = by_cases_of_truth asking test held broken d ds r (truth_of asking d) refl k

  by_cases_of_number : (branches : Copies V F) (d : Decision) (ds : List Decision) (r : Route V F) (number : Option ℕ) → number_of d ≡ number
      → by_number number (λ n. copy_route branches n ds) ≡ Some r → (n : ℕ) × (d ≡ Copy n) × (copy_route branches n ds ≡ Some r)
  by_cases_of_number branches d ds r None e k = let bad : None ≡ Some r = k in cc
  by_cases_of_number branches d ds r (Some n) e k = (n, only_number d n e, k)

  pub copy_taken : (p : Progress V) (branches : Copies V F) (d : Decision) (ds : List Decision) (r : Route V F)
      → route (splits p branches) (d ∷ ds) ≡ Some r → (n : ℕ) × (d ≡ Copy n) × (copy_route branches n ds ≡ Some r)
  copy_taken p branches d ds r k = by_cases_of_number branches d ds r (number_of d) refl k

-- ---- each end has one record

abbrev pub Begins : List Decision → RecordTree → Type 0
Begins ds x = BeginsWith (decisions_of x) ds

one_once : (P : RecordTree → Type 0) (ds es : List Decision) (rs : List RecordTree) → ((x : RecordTree) → P x → decisions_of x ≡ ds) → One P rs
    → ExactlyOne (Begins (ds ++ es)) rs
one_once P ds es rs f h = subst (ExactlyOne (Begins (ds ++ es))) (sym h.is) (inl ((es, ap (λ zs. zs ++ es) (f h.it h.has)), tt))

pub side_once : (ds es : List Decision) (rs : List RecordTree) (K : Type 0) → (K → ExactlyOne (Begins (ds ++ es)) rs) → Side ds rs K
    → ExactlyOne (Begins (ds ++ es)) rs
side_once ds es rs K f (inl h) = one_once (IsNotRun ds) ds es rs (at_side ds) h
side_once ds es rs K f (inr h) = f h.1

-- none of what is behind another decision
none_begins : (ds : List Decision) (c d : Decision) (es : List Decision) (rs : List RecordTree) → (c ≡ d → ⊥) → AllByRecursion (Behind (ds ++ c ∷ [])) rs
    → AllByRecursion (λ x. Begins (ds ++ d ∷ es) x → ⊥) rs
none_begins ds c d es rs other h = all_weaker _ _ rs (λ x b k. other (same_decision ds c d es (decisions_of x) b k)) h

-- those of the first side, as those of both
once_first : (ds : List Decision) (c d : Decision) (es : List Decision) (rs xs ys : List RecordTree) → rs ≡ xs ++ ys → d ≡ c
    → ExactlyOne (Begins ((ds ++ c ∷ []) ++ es)) xs → AllByRecursion (λ x. Begins (ds ++ d ∷ es) x → ⊥) ys → ExactlyOne (Begins (ds ++ d ∷ es)) rs
once_first ds c d es rs xs ys is same h k =
    let e : (ds ++ c ∷ []) ++ es ≡ ds ++ d ∷ es = append_assoc ds (c ∷ []) es ∙ ap (λ z. ds ++ z ∷ es) (sym same) in
    subst (ExactlyOne (Begins (ds ++ d ∷ es))) (sym is) (one_before _ xs ys (subst (λ zs. ExactlyOne (Begins zs) xs) e h) k)

once_later : (ds : List Decision) (c d : Decision) (es : List Decision) (rs xs ys : List RecordTree) → rs ≡ xs ++ ys → d ≡ c
    → AllByRecursion (λ x. Begins (ds ++ d ∷ es) x → ⊥) xs → ExactlyOne (Begins ((ds ++ c ∷ []) ++ es)) ys → ExactlyOne (Begins (ds ++ d ∷ es)) rs
once_later ds c d es rs xs ys is same k h =
    let e : (ds ++ c ∷ []) ++ es ≡ ds ++ d ∷ es = append_assoc ds (c ∷ []) es ∙ ap (λ z. ds ++ z ∷ es) (sym same) in
    subst (ExactlyOne (Begins (ds ++ d ∷ es))) (sym is) (one_after _ xs ys k (subst (λ zs. ExactlyOne (Begins zs) ys) e h))

module _ {V F : Type 0} where
  -- a tree that is over where nothing is decided
  pub asks_not_over : (asking : Asking) (p q : Progress V) (test : F) (held broken : Tree V F) (end' : End) (r : Route V F)
      → Some (waiting (tests asking p test held broken)) ≡ Some r → r.left ≡ over q end' → ⊥
  asks_not_over asking p q test held broken end' r e k =
      let same : waiting (tests asking p test held broken) ≡ r = cc in
      let bad : tests asking p test held broken ≡ over q end' = ap (λ (x : Route V F). x.left) same ∙ k in
      cc

  pub splits_not_over : (p q : Progress V) (branches : Copies V F) (end' : End) (r : Route V F)
      → Some (waiting (splits p branches)) ≡ Some r → r.left ≡ over q end' → ⊥
  splits_not_over p q branches end' r e k =
      let same : waiting (splits p branches) ≡ r = cc in
      let bad : splits p branches ≡ over q end' = ap (λ (x : Route V F). x.left) same ∙ k in
      cc

module _ {V F : Type 0} where
  mutual
    pub covers_once : (t : Tree V F) (ds : List Decision) (rs : List RecordTree) → Covers t ds rs
        → (es : List Decision) (r : Route V F) (p : Progress V) (end' : End) → route t es ≡ Some r → r.left ≡ over p end' → ExactlyOne (Begins (ds ++ es)) rs
    covers_once (over p end') ds rs h es r q end'' e k = one_once (IsPathAt ds) ds es rs (at_path ds) h
    covers_once (arrives place p t) ds rs h es r q end' e k =
        let m = mapped_some (arriving place p) (route t es) r e in
        covers_once t ds rs h es m.0 q end' m.1 (ap (λ (x : Route V F). x.left) (sym m.2) ∙ k)
    covers_once (tests asking p test held broken) ds rs h [] r q end' e k = absurd (asks_not_over asking p q test held broken end' r e k)
    covers_once (tests asking p test held broken) ds rs h (d ∷ es) r q end' e k =
        let c0 = decision_at asking true in
        let c1 = decision_at asking false in
        elim (side_taken asking p test held broken d es r e) [
          | inl g ↦ once_first ds c0 d es rs h.first h.later h.is g.taken
              (side_once (ds ++ c0 ∷ []) es h.first _ (λ m. covers_once held (ds ++ c0 ∷ []) h.first m es g.way q end' g.found (ap (λ (x : Route V F). x.left) (sym g.is) ∙ k)) h.firsts)
              (none_begins ds c1 d es h.later (λ s. less_not_same c0 c1 (less_asked asking) (sym (s ∙ g.taken))) (side_of_behind broken (ds ++ c1 ∷ []) h.later h.laters))
          | inr g ↦ once_later ds c1 d es rs h.first h.later h.is g.taken
              (none_begins ds c0 d es h.first (λ s. less_not_same c0 c1 (less_asked asking) (s ∙ g.taken)) (side_of_behind held (ds ++ c0 ∷ []) h.first h.firsts))
              (side_once (ds ++ c1 ∷ []) es h.later _ (λ m. covers_once broken (ds ++ c1 ∷ []) h.later m es g.way q end' g.found (ap (λ (x : Route V F). x.left) (sym g.is) ∙ k)) h.laters)
        ]
    covers_once (splits p branches) ds rs h [] r q end' e k = absurd (splits_not_over p q branches end' r e k)
    covers_once (splits p branches) ds rs h (d ∷ es) r q end' e k =
        let g = copy_taken p branches d es r e in
        subst (λ c. ExactlyOne (Begins (ds ++ c ∷ es)) rs) (sym g.1) (copies_once branches 0 ds rs h g.0 g.0 (omega arith) es r q end' g.2 k)

    pub copies_once : (branches : Copies V F) (first : ℕ) (ds : List Decision) (rs : List RecordTree) → CoverCopies branches first ds rs
        → (n m : ℕ) → m ≡ first + n → (es : List Decision) (r : Route V F) (p : Progress V) (end' : End) → copy_route branches n es ≡ Some r → r.left ≡ over p end'
        → ExactlyOne (Begins (ds ++ Copy m ∷ es)) rs
    copies_once no_copies first ds rs h n m is es r q end' e k = let bad : None ≡ Some r = e in cc
    copies_once (copy_and t branches) first ds rs h zero m is es r q end' e k =
        let c = Copy first in
        let same : m ≡ first = omega (arith, is) in
        once_first ds c (Copy m) es rs h.first h.later h.is (ap (λ (i : ℕ). Copy i) same)
        (side_once (ds ++ c ∷ []) es h.first _ (λ b. covers_once t (ds ++ c ∷ []) h.first b es r q end' e k) h.firsts)
        (all_weaker _ _ h.later
        (λ x (b : (i : ℕ) × (suc first ≤ i) × Behind (ds ++ Copy i ∷ []) x) o. number_apart b.0 m (same_decision ds (Copy b.0) (Copy m) es (decisions_of x) b.2 o) (omega (arith, b.1, same)))
        (copies_behind branches (suc first) ds h.later h.laters))
    copies_once (copy_and t branches) first ds rs h (suc n) m is es r q end' e k =
        let c = Copy first in
        subst (ExactlyOne (Begins (ds ++ Copy m ∷ es))) (sym h.is) (one_after _ h.first h.later
        (none_begins ds c (Copy m) es h.first (λ s. number_apart m first (sym s) (omega (arith, is))) (side_of_behind t (ds ++ c ∷ []) h.first h.firsts))
        (copies_once branches (suc first) ds h.later h.laters n m (omega (arith, is)) es r q end' e k))
