-- Each decision that is offered along a record begins one.
use Rattle.std.proofs.Common.{◌≡◌, ℕ, zero, suc, ◌+◌, ◌≤◌, inl, inr, true, false, List, [], ◌∷◌, ◌++◌, sym, ap, subst, ◌∙◌, append_assoc, arith, Some, None}
use Rattle.std.specs.List.{AllByRecursion}
use Rattle.sefl_meaning.specs.declared.walk.Decision.{Decision}
use Rattle.sefl_meaning.specs.declared.walk.Decision.TheVariants.{Copy}
use Rattle.sefl_meaning.specs.Trees.{Tree, over, arrives, tests, splits, Copies, no_copies, copy_and}
use Rattle.sefl_meaning.specs.Taken.{decision_at}
use Rattle.sefl_meaning.specs.Routes.{EachSplits, HasCopy, Route, Splits, arriving, copy_route, route}
use Rattle.exact_records.specs.Records.{RecordTree, decisions_of}
use Rattle.exact_records.specs.Exact.{SomeOne}
use Rattle.exact_records.specs.Shapes.{IsPathAt, IsNotRun, One, Side, Covers, CoverCopies, SideOf}
use Rattle.exact_records.proofs.Lists.{some_first, some_later, some_either, some_weaker, some_not, cancel, same_first, nothing_after}
use Rattle.exact_records.proofs.Begins.{behind_one, begins_part, less_asked, less_not_same}
use Rattle.exact_records.proofs.Ordered.{Behind, at_path, at_side, begins_same, side_of_behind, copies_behind, mapped_some, side_taken, copy_taken, number_apart}

-- the record has these decisions
abbrev pub Is : List Decision → RecordTree → Type 0
Is ds x = decisions_of x ≡ ds

one_some : (P : RecordTree → Type 0) (ds : List Decision) (rs : List RecordTree) → ((x : RecordTree) → P x → decisions_of x ≡ ds) → One P rs → SomeOne (Behind ds) rs
one_some P ds rs f h = subst (SomeOne (Behind ds)) (sym h.is) (inl (begins_same ds h.it (f h.it h.has)))

side_some : (ds : List Decision) (rs : List RecordTree) (K : Type 0) → (K → SomeOne (Behind ds) rs) → Side ds rs K → SomeOne (Behind ds) rs
side_some ds rs K f (inl h) = one_some (IsNotRun ds) ds rs (at_side ds) h
side_some ds rs K f (inr h) = f h.1

module _ {V F : Type 0} where
  mutual
    pub covers_some : (t : Tree V F) (ds : List Decision) (rs : List RecordTree) → Splits t → Covers t ds rs → SomeOne (Behind ds) rs
    covers_some (over p end') ds rs s h = one_some (IsPathAt ds) ds rs (at_path ds) h
    covers_some (arrives place p t) ds rs s h = covers_some t ds rs s h
    covers_some (tests asking p test held broken) ds rs s h =
        let c = decision_at asking true in
        subst (SomeOne (Behind ds)) (sym h.is) (some_first _ h.first h.later (some_weaker _ _ h.first (λ x. begins_part ds c (decisions_of x))
        (side_some (ds ++ c ∷ []) h.first _ (covers_some held (ds ++ c ∷ []) h.first s.0) h.firsts)))
    covers_some (splits p branches) ds rs s h = copies_some branches 0 ds rs s.0 s.1 h

    pub copies_some : (branches : Copies V F) (n : ℕ) (ds : List Decision) (rs : List RecordTree) → HasCopy branches → EachSplits branches → CoverCopies branches n ds rs → SomeOne (Behind ds) rs
    copies_some no_copies n ds rs some s h = absurd some
    copies_some (copy_and t branches) n ds rs some s h =
        subst (SomeOne (Behind ds)) (sym h.is) (some_first _ h.first h.later (some_weaker _ _ h.first (λ x. begins_part ds (Copy n) (decisions_of x))
        (side_some (ds ++ Copy n ∷ []) h.first _ (covers_some t (ds ++ Copy n ∷ []) h.first s.0) h.firsts)))

  pub side_of_some : (t : Tree V F) (ds : List Decision) (rs : List RecordTree) → Splits t → SideOf t ds rs → SomeOne (Behind ds) rs
  side_of_some t ds rs s h = side_some ds rs _ (covers_some t ds rs s) h

-- behind one decision more, said in two ways
pub regroup : (ds : List Decision) (b c : Decision) (q : List Decision) → b ≡ c → (ds ++ c ∷ []) ++ q ≡ ds ++ b ∷ q
regroup ds b c q e = append_assoc ds (c ∷ []) q ∙ ap (λ z. ds ++ z ∷ q) (sym e)

-- what was not run has no longer decisions
not_longer : (P : RecordTree → Type 0) (ds q : List Decision) (c : Decision) (rest : List Decision) (rs : List RecordTree)
    → ((x : RecordTree) → P x → decisions_of x ≡ ds) → One P rs → SomeOne (Is (ds ++ (q ++ c ∷ rest))) rs → ⊥
not_longer P ds q c rest rs f h k =
    longer q (elim (subst (SomeOne (Is (ds ++ (q ++ c ∷ rest)))) h.is k) [
      | inl e ↦ nothing_after ds (q ++ c ∷ rest) (sym (f h.it h.has) ∙ e)
      | inr bad ↦ absurd bad
    ])
  where
    longer : (xs : List Decision) → xs ++ c ∷ rest ≡ [] → ⊥
    longer [] e = cc
    longer (x ∷ xs) e = let bad : x ∷ (xs ++ c ∷ rest) ≡ [] = e in cc

side_begun : (ds q : List Decision) (c d : Decision) (rest : List Decision) (rs : List RecordTree) (K : Type 0)
    → (K → SomeOne (Is (ds ++ (q ++ c ∷ rest))) rs → SomeOne (Behind (ds ++ (q ++ d ∷ []))) rs)
    → Side ds rs K → SomeOne (Is (ds ++ (q ++ c ∷ rest))) rs → SomeOne (Behind (ds ++ (q ++ d ∷ []))) rs
side_begun ds q c d rest rs K f (inl h) k = absurd (not_longer (IsNotRun ds) ds q c rest rs (at_side ds) h k)
side_begun ds q c d rest rs K f (inr h) k = f h.1 k

-- what is behind another decision is not this
not_other : (ds : List Decision) (b c : Decision) (q : List Decision) (x : RecordTree) → (c ≡ b → ⊥) → Is (ds ++ b ∷ q) x → Behind (ds ++ c ∷ []) x → ⊥
not_other ds b c q x other e h =
    let k = behind_one ds c (decisions_of x) h in
    other (sym (same_first (cancel ds (b ∷ q) (c ∷ k.0) (sym e ∙ k.1))))

-- it is in the first part, or in the later one
in_first : (ds : List Decision) (b c : Decision) (q : List Decision) (rs xs ys : List RecordTree) → rs ≡ xs ++ ys → (c ≡ b → ⊥)
    → AllByRecursion (Behind (ds ++ c ∷ [])) ys → SomeOne (Is (ds ++ b ∷ q)) rs → SomeOne (Is (ds ++ b ∷ q)) xs
in_first ds b c q rs xs ys is other h k =
    elim (some_either _ xs ys (subst (SomeOne (Is (ds ++ b ∷ q))) is k)) [
      | inl l ↦ l
      | inr r ↦ absurd (some_not _ _ ys (λ x. not_other ds b c q x other) r h)
    ]

in_later : (ds : List Decision) (b c : Decision) (q : List Decision) (rs xs ys : List RecordTree) → rs ≡ xs ++ ys → (c ≡ b → ⊥)
    → AllByRecursion (Behind (ds ++ c ∷ [])) xs → SomeOne (Is (ds ++ b ∷ q)) rs → SomeOne (Is (ds ++ b ∷ q)) ys
in_later ds b c q rs xs ys is other h k =
    elim (some_either _ xs ys (subst (SomeOne (Is (ds ++ b ∷ q))) is k)) [
      | inl l ↦ absurd (some_not _ _ xs (λ x. not_other ds b c q x other) l h)
      | inr r ↦ r
    ]

module _ {V F : Type 0} where
  mutual
    pub covers_begun : (t : Tree V F) (ds : List Decision) (rs : List RecordTree) → Splits t → Covers t ds rs
        → (q : List Decision) (c d : Decision) (rest : List Decision) → SomeOne (Is (ds ++ (q ++ c ∷ rest))) rs
        → (r : Route V F) → route t (q ++ d ∷ []) ≡ Some r → SomeOne (Behind (ds ++ (q ++ d ∷ []))) rs
    covers_begun (over p end') ds rs s h q c d rest k r e = absurd (not_longer (IsPathAt ds) ds q c rest rs (at_path ds) h k)
    covers_begun (arrives place p t) ds rs s h q c d rest k r e =
        let m = mapped_some (arriving place p) (route t (q ++ d ∷ [])) r e in
        covers_begun t ds rs s h q c d rest k m.0 m.1
    covers_begun (tests asking p test held broken) ds rs s h [] c d rest k r e =
        let c0 = decision_at asking true in
        let c1 = decision_at asking false in
        elim (side_taken asking p test held broken d [] r e) [
          | inl g ↦ subst (SomeOne (Behind (ds ++ d ∷ []))) (sym h.is) (some_first _ h.first h.later
              (subst (λ z. SomeOne (Behind (ds ++ z ∷ [])) h.first) (sym g.taken) (side_of_some held (ds ++ c0 ∷ []) h.first s.0 h.firsts)))
          | inr g ↦ subst (SomeOne (Behind (ds ++ d ∷ []))) (sym h.is) (some_later _ h.first h.later
              (subst (λ z. SomeOne (Behind (ds ++ z ∷ [])) h.later) (sym g.taken) (side_of_some broken (ds ++ c1 ∷ []) h.later s.1 h.laters)))
        ]
    covers_begun (tests asking p test held broken) ds rs s h (b ∷ q) c d rest k r e =
        let c0 = decision_at asking true in
        let c1 = decision_at asking false in
        elim (side_taken asking p test held broken b (q ++ d ∷ []) r e) [
          | inl g ↦
              let l = in_first ds b c1 (q ++ c ∷ rest) rs h.first h.later h.is (λ z. less_not_same c0 c1 (less_asked asking) (sym (z ∙ g.taken))) (side_of_behind broken (ds ++ c1 ∷ []) h.later h.laters) k in
              subst (SomeOne (Behind (ds ++ (b ∷ q ++ d ∷ [])))) (sym h.is) (some_first _ h.first h.later
              (subst (λ z. SomeOne (Behind z) h.first) (regroup ds b c0 (q ++ d ∷ []) g.taken)
              (side_begun (ds ++ c0 ∷ []) q c d rest h.first _ (λ m a. covers_begun held (ds ++ c0 ∷ []) h.first s.0 m q c d rest a g.way g.found) h.firsts
              (subst (λ z. SomeOne (Is z) h.first) (sym (regroup ds b c0 (q ++ c ∷ rest) g.taken)) l))))
          | inr g ↦
              let l = in_later ds b c0 (q ++ c ∷ rest) rs h.first h.later h.is (λ z. less_not_same c0 c1 (less_asked asking) (z ∙ g.taken)) (side_of_behind held (ds ++ c0 ∷ []) h.first h.firsts) k in
              subst (SomeOne (Behind (ds ++ (b ∷ q ++ d ∷ [])))) (sym h.is) (some_later _ h.first h.later
              (subst (λ z. SomeOne (Behind z) h.later) (regroup ds b c1 (q ++ d ∷ []) g.taken)
              (side_begun (ds ++ c1 ∷ []) q c d rest h.later _ (λ m a. covers_begun broken (ds ++ c1 ∷ []) h.later s.1 m q c d rest a g.way g.found) h.laters
              (subst (λ z. SomeOne (Is z) h.later) (sym (regroup ds b c1 (q ++ c ∷ rest) g.taken)) l))))
        ]
    covers_begun (splits p branches) ds rs s h [] c d rest k r e =
        let g = copy_taken p branches d [] r e in
        subst (λ z. SomeOne (Behind (ds ++ z ∷ [])) rs) (sym g.1) (copy_some branches 0 ds rs s.1 h g.0 g.0 (omega arith) [] r g.2)
    covers_begun (splits p branches) ds rs s h (b ∷ q) c d rest k r e =
        let g = copy_taken p branches b (q ++ d ∷ []) r e in
        subst (λ z. SomeOne (Behind (ds ++ (z ∷ q ++ d ∷ []))) rs) (sym g.1) (copies_begun branches 0 ds rs s.1 h g.0 g.0 (omega arith) q c d rest
        (subst (λ z. SomeOne (Is (ds ++ (z ∷ q ++ c ∷ rest))) rs) g.1 k) r g.2)

    -- a copy has a record
    pub copy_some : (branches : Copies V F) (first : ℕ) (ds : List Decision) (rs : List RecordTree) → EachSplits branches → CoverCopies branches first ds rs
        → (n m : ℕ) → m ≡ first + n → (es : List Decision) (r : Route V F) → copy_route branches n es ≡ Some r → SomeOne (Behind (ds ++ Copy m ∷ [])) rs
    copy_some no_copies first ds rs s h n m is es r e = let bad : None ≡ Some r = e in cc
    copy_some (copy_and t branches) first ds rs s h zero m is es r e =
        let same : m ≡ first = omega (arith, is) in
        subst (SomeOne (Behind (ds ++ Copy m ∷ []))) (sym h.is) (some_first _ h.first h.later
        (subst (λ (z : ℕ). SomeOne (Behind (ds ++ Copy z ∷ [])) h.first) (sym same) (side_of_some t (ds ++ Copy first ∷ []) h.first s.0 h.firsts)))
    copy_some (copy_and t branches) first ds rs s h (suc n) m is es r e =
        subst (SomeOne (Behind (ds ++ Copy m ∷ []))) (sym h.is) (some_later _ h.first h.later
        (copy_some branches (suc first) ds h.later s.1 h.laters n m (omega (arith, is)) es r e))

    pub copies_begun : (branches : Copies V F) (first : ℕ) (ds : List Decision) (rs : List RecordTree) → EachSplits branches → CoverCopies branches first ds rs
        → (n m : ℕ) → m ≡ first + n → (q : List Decision) (c d : Decision) (rest : List Decision) → SomeOne (Is (ds ++ (Copy m ∷ q ++ c ∷ rest))) rs
        → (r : Route V F) → copy_route branches n (q ++ d ∷ []) ≡ Some r → SomeOne (Behind (ds ++ (Copy m ∷ q ++ d ∷ []))) rs
    copies_begun no_copies first ds rs s h n m is q c d rest k r e = let bad : None ≡ Some r = e in cc
    copies_begun (copy_and t branches) first ds rs s h zero m is q c d rest k r e =
        let c0 = Copy first in
        let same : m ≡ first = omega (arith, is) in
        let taken : Copy m ≡ Copy first = ap (λ (z : ℕ). Copy z) same in
        let l : SomeOne (Is (ds ++ (Copy m ∷ q ++ c ∷ rest))) h.first = elim (some_either _ h.first h.later (subst (SomeOne (Is (ds ++ (Copy m ∷ q ++ c ∷ rest)))) h.is k)) [
          | inl a ↦ a
          | inr a ↦ absurd (some_not _ _ h.later (λ x o (b : (i : ℕ) × (suc first ≤ i) × Behind (ds ++ Copy i ∷ []) x). not_other ds (Copy m) (Copy b.0) (q ++ c ∷ rest) x (λ z. number_apart b.0 m z (omega (arith, b.1, same))) o b.2) a (copies_behind branches (suc first) ds h.later h.laters))
        ] in
        subst (SomeOne (Behind (ds ++ (Copy m ∷ q ++ d ∷ [])))) (sym h.is) (some_first _ h.first h.later
        (subst (λ z. SomeOne (Behind z) h.first) (regroup ds (Copy m) c0 (q ++ d ∷ []) taken)
        (side_begun (ds ++ c0 ∷ []) q c d rest h.first _ (λ w a. covers_begun t (ds ++ c0 ∷ []) h.first s.0 w q c d rest a r e) h.firsts
        (subst (λ z. SomeOne (Is z) h.first) (sym (regroup ds (Copy m) c0 (q ++ c ∷ rest) taken)) l))))
    copies_begun (copy_and t branches) first ds rs s h (suc n) m is q c d rest k r e =
        let l = in_later ds (Copy m) (Copy first) (q ++ c ∷ rest) rs h.first h.later h.is (λ z. number_apart m first (sym z) (omega (arith, is))) (side_of_behind t (ds ++ Copy first ∷ []) h.first h.firsts) k in
        subst (SomeOne (Behind (ds ++ (Copy m ∷ q ++ d ∷ [])))) (sym h.is) (some_later _ h.first h.later
        (copies_begun branches (suc first) ds h.later s.1 h.laters n m (omega (arith, is)) q c d rest l r e))

  -- along the whole
  pub side_of_begun : (t : Tree V F) (rs : List RecordTree) → Splits t → SideOf t [] rs → (p : List Decision) (c d : Decision) (rest : List Decision)
      → SomeOne (Is (p ++ c ∷ rest)) rs → (r : Route V F) → route t (p ++ d ∷ []) ≡ Some r → SomeOne (Behind (p ++ d ∷ [])) rs
  side_of_begun t rs s h p c d rest k r e = side_begun [] p c d rest rs _ (λ m a. covers_begun t [] rs s m p c d rest a r e) h k
