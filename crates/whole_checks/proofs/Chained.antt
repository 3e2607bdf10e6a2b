-- A chain of records has one for each decision that is offered along them, and its records ascend.
use Rattle.std.proofs.Common.{◌≡◌, ◌∙◌, ◌↔◌, ◌<◌, ◌≤◌, ◌⊎◌, inl, inr, ℕ, zero, suc, List, [], ◌∷◌, ◌++◌, None, Some, refl, sym, ap, subst, append_assoc, arith}
use Rattle.std.specs.List.{AllByRecursion}
use Rattle.sefl_meaning.specs.declared.walk.Decision.{Decision}
use Rattle.sefl_meaning.specs.Order.{BeginsWith, Has, Parts, rank}
use Rattle.sefl_meaning.specs.Routes.{IsOpen, offers, route}
use Rattle.exact_records.specs.Exact.{AllBegun, IsTried, RecordsAscend, SomeOne}
use Rattle.exact_records.specs.Records.{RecordTree, SymRoute, SymStart, SymTree, decisions_of}
use Rattle.exact_records.proofs.Begins.{parts_at}
use Rattle.exact_records.proofs.Lists.{all_append, all_later, all_weaker, append_nil, same_first, same_rest, some_first, some_later}
use Rattle.whole_checks.specs.Chains.{AllLast, ComesNext, Ends, IsChain, IsChainBehind, IsFirst, IsLast, IsNext, Joins, base}
use Rattle.whole_checks.proofs.Offers.{filled, least, one_place, same_or_less}

-- ---- lists that are one

module _ {A : Type 0} where
  -- two places in one list: one place, or one before the other
  abbrev pub Meet : List A → List A → A → A → List A → List A → Type 0
  Meet p q c d xs ys =
      ((p ≡ q) × (c ≡ d) × (xs ≡ ys))
      ⊎ ((m : List A) × (q ≡ p ++ c ∷ m) × (xs ≡ m ++ d ∷ ys))
      ⊎ ((m : List A) × (p ≡ q ++ d ∷ m) × (ys ≡ m ++ c ∷ xs))

  pub meet : (p q : List A) (c d : A) (xs ys : List A) → p ++ c ∷ xs ≡ q ++ d ∷ ys → Meet p q c d xs ys
  meet [] [] c d xs ys e = inl (refl, same_first e, same_rest e)
  meet [] (z ∷ q) c d xs ys e = inr (inl (q, (λ i. sym (same_first e) i ∷ q), same_rest e))
  meet (z ∷ p) [] c d xs ys e = inr (inr (p, (λ i. same_first e i ∷ p), sym (same_rest e)))
  meet (y ∷ p) (z ∷ q) c d xs ys e =
      let first : y ≡ z = same_first e in
      elim (meet p q c d xs ys (same_rest e)) [
        | inl k ↦ inl ((λ i. first i ∷ k.0 i), k.1, k.2)
        | inr (inl k) ↦ inr (inl (k.0, (λ i. sym first i ∷ k.1 i), k.2))
        | inr (inr k) ↦ inr (inr (k.0, (λ i. first i ∷ k.1 i), k.2))
      ]

  behind_one : (p : List A) (c : A) (m rest : List A) (d : A) → (p ++ c ∷ m) ++ d ∷ rest ≡ p ++ c ∷ (m ++ d ∷ rest)
  behind_one p c m rest d = append_assoc p (c ∷ m) (d ∷ rest)

parts_behind : (cs ds es : List Decision) → Parts cs ds → Parts ds es → Parts cs es
parts_behind [] ds es h k = absurd h
parts_behind (c ∷ cs) [] es h k = absurd h
parts_behind (c ∷ cs) (d ∷ ds) [] h k = absurd k
parts_behind (c ∷ cs) (d ∷ ds) (e ∷ es) (inl h) (inl k) = inl (omega (arith, h, k))
parts_behind (c ∷ cs) (d ∷ ds) (e ∷ es) (inl h) (inr k) = inl (subst (λ (x : Decision). rank c < rank x) k.0 h)
parts_behind (c ∷ cs) (d ∷ ds) (e ∷ es) (inr h) (inl k) = inl (subst (λ (x : Decision). rank x < rank e) (sym h.0) k)
parts_behind (c ∷ cs) (d ∷ ds) (e ∷ es) (inr h) (inr k) = inr (h.0 ∙ k.0, parts_behind cs ds es h.1 k.1)

module _ (s : SymStart) where
  -- ---- a chain ascends, and all of it was tried

  next_parts : (es ds : List Decision) → ComesNext s es ds → Parts es ds
  next_parts es ds n =
      let less : rank n.taken < rank n.other = let e = n.next in omega (arith, e) in
      subst (λ xs. Parts xs ds) (sym n.before) (subst (Parts (n.parent ++ n.taken ∷ n.later)) (sym n.is) (parts_at n.parent n.taken n.other n.later n.rest less))

  all_parts : (es : List Decision) (xs : List RecordTree) → IsChainBehind s (Some es) xs → AllByRecursion (λ x. Parts es (decisions_of x)) xs
  all_parts es [] h = tt
  all_parts es (x ∷ xs) h =
      let first = next_parts es (decisions_of x) h.0.1 in
      (first, all_weaker _ _ xs (λ y k. parts_behind es (decisions_of x) (decisions_of y) first k) (all_parts (decisions_of x) xs h.1))

  ascend_behind : (es : List Decision) (xs : List RecordTree) → IsChainBehind s (Some es) xs → RecordsAscend xs
  ascend_behind es [] h = tt
  ascend_behind es (x ∷ xs) h = (all_parts (decisions_of x) xs h.1, ascend_behind (decisions_of x) xs h.1)

  pub chain_ascends : (rs : List RecordTree) → IsChain s rs → RecordsAscend rs
  chain_ascends [] h = tt
  chain_ascends (x ∷ xs) h = (all_parts (decisions_of x) xs h.1, ascend_behind (decisions_of x) xs h.1)

  tried_behind : (es : List Decision) (xs : List RecordTree) → IsChainBehind s (Some es) xs → AllByRecursion IsTried xs
  tried_behind es [] h = tt
  tried_behind es (x ∷ xs) h = (h.0.0, tried_behind (decisions_of x) xs h.1)

  pub chain_tried : (rs : List RecordTree) → IsChain s rs → AllByRecursion IsTried rs
  chain_tried [] h = tt
  chain_tried (x ∷ xs) h = (h.0.0, tried_behind (decisions_of x) xs h.1)

  pub chain_has_some : (rs : List RecordTree) → IsChain s rs → rs ≡ [] → ⊥
  chain_has_some [] h e = h
  chain_has_some (x ∷ xs) h e = cc

  pub last_along : (p m : List Decision) (c : Decision) (rest : List Decision) → AllLast s p (m ++ c ∷ rest) → IsLast s (p ++ m) c
  last_along p [] c rest h = subst (λ q. IsLast s q c) (sym (append_nil p)) h.0
  last_along p (d ∷ m) c rest h = subst (λ q. IsLast s q c) (append_assoc p (d ∷ []) m) (last_along (p ++ d ∷ []) m c rest h.1)

  abbrev Opens : List Decision → Type 0
  Opens ds = IsOpen s.tree ds

  abbrev Begun : List Decision → List RecordTree → Type 0
  Begun ds rs = SomeOne (λ x. BeginsWith ds (decisions_of x)) rs

  module _ (prefix : (t : SymTree) (ds es : List Decision) → IsOpen t (ds ++ es) → IsOpen t ds)
      (more : (t : SymTree) (ds : List Decision) (d : Decision) (r : SymRoute) → route t ds ≡ Some r → (IsOpen t (ds ++ d ∷ []) ↔ Has (offers r.left) d)) where
    -- ---- beside a decision

    pub opens_part : (ds p : List Decision) (c : Decision) (rest : List Decision) → ds ≡ p ++ c ∷ rest → Opens ds → Opens (p ++ c ∷ [])
    opens_part ds p c rest is h = prefix s.tree (p ++ c ∷ []) rest (subst Opens (is ∙ sym (append_assoc p (c ∷ []) rest)) h)

    pub least_there : (p : List Decision) (c d : Decision) → Opens (p ++ c ∷ []) → Opens (p ++ d ∷ []) → base c ≤ rank d
    least_there p c d h k =
        let way = prefix s.tree p (c ∷ []) h in
        least way.0.left c d ((more s.tree p c way.0 way.1).0 h) ((more s.tree p d way.0 way.1).0 k)

    pub filled_there : (p : List Decision) (c : Decision) (place : ℕ) → Opens (p ++ c ∷ []) → base c ≤ place → place ≤ rank c
        → (d : Decision) × Opens (p ++ d ∷ []) × (rank d ≡ place)
    filled_there p c place h low high =
        let way = prefix s.tree p (c ∷ []) h in
        let found = filled way.0.left c place ((more s.tree p c way.0 way.1).0 h) low high in
        (found.0, (more s.tree p found.0 way.0 way.1).1 found.1, found.2)

    none_later : (p : List Decision) (c d : Decision) → Opens (p ++ c ∷ []) → IsLast s p c → Opens (p ++ d ∷ []) → rank c < rank d → ⊥
    none_later p c d h last k less =
        let low = least_there p d c k h in
        let found = filled_there p d (suc (rank c)) k (omega (arith, low)) less in
        last found.0 found.2 found.1

    none_sooner : (p : List Decision) (c d : Decision) → Opens (p ++ c ∷ []) → IsFirst c → Opens (p ++ d ∷ []) → rank d < rank c → ⊥
    none_sooner p c d h first k less = let low = least_there p c d h k in omega (arith, low, first, less)

    -- ---- later decisions begin later records

    later_begun : (xs : List RecordTree) (es : List Decision) → Opens es → AllByRecursion (λ x. Opens (decisions_of x)) xs → IsChainBehind s (Some es) xs
        → (p : List Decision) (c : Decision) (rest : List Decision) (d : Decision) → es ≡ p ++ c ∷ rest → Opens (p ++ d ∷ []) → rank c < rank d
        → Begun (p ++ d ∷ []) xs
    later_begun [] es opened all chain p c rest d is k less =
        absurd (none_later p c d (opens_part es p c rest is opened) (last_along [] p c rest (subst (AllLast s []) is chain)) k less)
    later_begun (x ∷ xs) es opened all chain p c rest d is k less =
        let n = chain.0.1 in
        elim (meet p n.parent c n.taken rest n.later (sym is ∙ n.before)) [
          | inl same ↦
              let next : rank n.other ≡ suc (rank c) = n.next ∙ ap (λ (z : Decision). suc (rank z)) (sym same.1) in
              let there : decisions_of x ≡ p ++ n.other ∷ n.rest = n.is ∙ ap (λ q. q ++ n.other ∷ n.rest) (sym same.0) in
              elim (same_or_less (rank n.other) (rank d) (omega (arith, next, less))) [
                | inl e ↦ inl (n.rest, append_assoc p (d ∷ []) n.rest ∙ (ap (λ (z : Decision). p ++ z ∷ n.rest) (sym (one_place n.other d e)) ∙ sym there))
                | inr l ↦ inr (later_begun xs (decisions_of x) all.0 all.1 chain.1 p n.other n.rest d there k l)
              ]
          | inr (inl m) ↦
              let there : decisions_of x ≡ p ++ c ∷ (m.0 ++ n.other ∷ n.rest) =
              n.is ∙ (ap (λ q. q ++ n.other ∷ n.rest) m.1 ∙ behind_one p c m.0 n.rest n.other) in
              inr (later_begun xs (decisions_of x) all.0 all.1 chain.1 p c (m.0 ++ n.other ∷ n.rest) d there k less)
          | inr (inr m) ↦
              let last = last_along (n.parent ++ n.taken ∷ []) m.0 c rest (subst (AllLast s (n.parent ++ n.taken ∷ [])) m.2 n.last) in
              let at : (n.parent ++ n.taken ∷ []) ++ m.0 ≡ p = append_assoc n.parent (n.taken ∷ []) m.0 ∙ sym m.1 in
              absurd (none_later p c d (opens_part es p c rest is opened) (subst (λ q. IsLast s q c) at last) k less)
        ]

    -- ---- and earlier ones earlier records

    -- those of these records are begun that are offered beside a decision of a list, and come before it
    abbrev SoonerBegun : List RecordTree → List Decision → Type 0
    SoonerBegun done ds = (p : List Decision) (c : Decision) (rest : List Decision) (d : Decision) → ds ≡ p ++ c ∷ rest → Opens (p ++ d ∷ []) → rank d < rank c
        → Begun (p ++ d ∷ []) done

    first_begun : (ds : List Decision) → Opens ds → AllByRecursion IsFirst ds → SoonerBegun [] ds
    first_begun ds opened first p c rest d is k less =
        absurd (none_sooner p c d (opens_part ds p c rest is opened) (all_later IsFirst p (c ∷ rest) (subst (AllByRecursion IsFirst) is first)).0 k less)

    sooner_begun : (done : List RecordTree) (es ds : List Decision) → Opens ds → Begun es done → SoonerBegun done es → ComesNext s es ds → SoonerBegun done ds
    sooner_begun done es ds opened has before n p c rest d is k less =
        elim (meet p n.parent c n.other rest n.rest (sym is ∙ n.is)) [
          | inl same ↦
              let next : rank c ≡ suc (rank n.taken) = ap rank same.1 ∙ n.next in
              let there : es ≡ p ++ n.taken ∷ n.later = n.before ∙ ap (λ q. q ++ n.taken ∷ n.later) (sym same.0) in
              elim (same_or_less (rank d) (rank n.taken) (omega (arith, next, less))) [
                | inl e ↦ begun_by (p ++ d ∷ []) es (n.later, append_assoc p (d ∷ []) n.later ∙ (ap (λ (z : Decision). p ++ z ∷ n.later) (one_place d n.taken e) ∙ sym there)) done has
                | inr l ↦ before p n.taken n.later d there k l
              ]
          | inr (inl m) ↦
              let there : es ≡ p ++ c ∷ (m.0 ++ n.taken ∷ n.later) =
              n.before ∙ (ap (λ q. q ++ n.taken ∷ n.later) m.1 ∙ behind_one p c m.0 n.later n.taken) in
              before p c (m.0 ++ n.taken ∷ n.later) d there k less
          | inr (inr m) ↦
              absurd (none_sooner p c d (opens_part ds p c rest is opened) (all_later IsFirst m.0 (c ∷ rest) (subst (AllByRecursion IsFirst) m.2 n.first)).0 k less)
        ]
      where
        begun_by : (bs es : List Decision) → BeginsWith bs es → (rs : List RecordTree) → Begun es rs → Begun bs rs
        begun_by bs es b [] h = h
        begun_by bs es b (x ∷ rs) (inl h) = inl (b.0 ++ h.0, sym (append_assoc bs b.0 h.0) ∙ (ap (λ q. q ++ h.0) b.1 ∙ h.1))
        begun_by bs es b (x ∷ rs) (inr h) = inr (begun_by bs es b rs h)

    -- ---- all of them

    -- each decision that is offered along this record begins one of these
    abbrev AlongBegun : List RecordTree → RecordTree → Type 0
    AlongBegun all x = (p : List Decision) (c : Decision) (rest : List Decision) (d : Decision) → decisions_of x ≡ p ++ c ∷ rest → Opens (p ++ d ∷ [])
        → Begun (p ++ d ∷ []) all

    either_way : (c d : Decision) → (rank c < rank d) ⊎ (c ≡ d) ⊎ (rank d < rank c)
    either_way c d = by_places (rank c) (rank d) refl refl
      where
        apart : (a b : ℕ) → (a < b) ⊎ (a ≡ b) ⊎ (b < a)
        apart zero zero = inr (inl refl)
        apart zero (suc b) = inl (omega arith)
        apart (suc a) zero = inr (inr (omega arith))
        apart (suc a) (suc b) = elim (apart a b) [
          | inl h ↦ inl (omega (arith, h))
          | inr (inl e) ↦ inr (inl (ap suc e))
          | inr (inr h) ↦ inr (inr (omega (arith, h)))
        ]

        by_places : (a b : ℕ) → a ≡ rank c → b ≡ rank d → (rank c < rank d) ⊎ (c ≡ d) ⊎ (rank d < rank c)
        by_places a b e f = elim (apart (rank c) (rank d)) [
          | inl h ↦ inl h
          | inr (inl h) ↦ inr (inl (one_place c d h))
          | inr (inr h) ↦ inr (inr h)
        ]

    along : (done : List RecordTree) (x : RecordTree) (xs : List RecordTree) → Opens (decisions_of x) → AllByRecursion (λ y. Opens (decisions_of y)) xs
        → SoonerBegun done (decisions_of x) → IsChainBehind s (Some (decisions_of x)) xs → AlongBegun (done ++ x ∷ xs) x
    along done x xs opened all before chain p c rest d is k =
        elim (either_way c d) [
          | inl less ↦ some_later _ done (x ∷ xs) (inr (later_begun xs (decisions_of x) opened all chain p c rest d is k less))
          | inr (inl e) ↦
              some_later _ done (x ∷ xs) (inl (rest, append_assoc p (d ∷ []) rest ∙ (ap (λ (z : Decision). p ++ z ∷ rest) (sym e) ∙ sym is)))
          | inr (inr less) ↦ some_first _ done (x ∷ xs) (before p c rest d is k less)
        ]

    all_along : (done : List RecordTree) (x : RecordTree) (xs : List RecordTree) → Opens (decisions_of x) → AllByRecursion (λ y. Opens (decisions_of y)) xs
        → SoonerBegun done (decisions_of x) → IsChainBehind s (Some (decisions_of x)) xs → AllByRecursion (AlongBegun (done ++ x ∷ xs)) (x ∷ xs)
    all_along done x [] opened all before chain = (along done x [] opened all before chain, tt)
    all_along done x (y ∷ xs) opened all before chain =
        let now = done ++ x ∷ [] in
        let has : Begun (decisions_of x) now = some_later _ done (x ∷ []) (inl ([], append_nil (decisions_of x))) in
        let sooner : SoonerBegun now (decisions_of x) = λ p c rest d is k less. some_first _ done (x ∷ []) (before p c rest d is k less) in
        let whole : now ++ y ∷ xs ≡ done ++ x ∷ y ∷ xs = append_assoc done (x ∷ []) (y ∷ xs) in (
          along done x (y ∷ xs) opened all before chain,
          subst (λ rs. AllByRecursion (AlongBegun rs) (y ∷ xs)) whole
              (all_along now y xs all.0 all.1 (sooner_begun now (decisions_of x) (decisions_of y) all.0 has sooner chain.0.1) chain.1),
        )

    of_some : (all rs : List RecordTree) → AllByRecursion (AlongBegun all) rs → (p : List Decision) (c d : Decision) (rest : List Decision)
        → SomeOne (λ x. decisions_of x ≡ p ++ c ∷ rest) rs → Opens (p ++ d ∷ []) → Begun (p ++ d ∷ []) all
    of_some all [] h p c d rest k opened = absurd k
    of_some all (x ∷ rs) h p c d rest (inl is) opened = h.0 p c rest d is opened
    of_some all (x ∷ rs) h p c d rest (inr k) opened = of_some all rs h.1 p c d rest k opened

    pub chain_begun : (rs : List RecordTree) → AllByRecursion (λ x. Opens (decisions_of x)) rs → IsChain s rs → AllBegun s (λ ds. Unit {0}) rs
    chain_begun [] all h = absurd h
    chain_begun (x ∷ xs) all h = λ p c d rest k opened within.
        of_some (x ∷ xs) (x ∷ xs) (all_along [] x xs all.0 all.1 (first_begun (decisions_of x) all.0 h.0.1) h.1) p c d rest k opened
