-- Exact records, all of them tried, are a chain.
use Rattle.std.proofs.Common.{◌≡◌, ◌∙◌, ◌↔◌, ◌⊎◌, ◌<◌, ◌≤◌, inl, inr, ℕ, suc, List, [], ◌∷◌, ◌++◌, Option, None, Some, refl, sym, ap, subst, append_assoc, arith}
use Rattle.std.specs.List.{AllByRecursion}
use Rattle.sefl_meaning.specs.declared.walk.Decision.{Decision}
use Rattle.sefl_meaning.specs.Order.{BeginsWith, Has, Parts, rank}
use Rattle.sefl_meaning.specs.Routes.{IsOpen, offers, route}
use Rattle.exact_records.specs.Exact.{AllBegun, IsGood, IsTried, RecordsAscend, SomeOne}
use Rattle.exact_records.specs.Records.{RecordTree, SymRoute, SymStart, SymTree, decisions_of}
use Rattle.exact_records.proofs.Begins.{parts_apart, parts_asym, parts_at}
use Rattle.exact_records.proofs.Lists.{append_nil}
use Rattle.one_list.proofs.Members.{all_has}
use Rattle.whole_checks.specs.Chains.{AllLast, ComesNext, IsChain, IsChainBehind, IsFirst, IsLast, IsNext, base}
use Rattle.whole_checks.proofs.Chained.{filled_there, least_there, opens_part}
use Rattle.whole_checks.specs.Walks.{ExactRecordsAreChains}
use Rattle.whole_checks.proofs.Offers.{same_or_less}
use Rattle.whole_checks.proofs.Shown.{meaning_opens}

-- ---- where lists of decisions part

record Parting (cs ds : List Decision) : Type 0 where
  parent : List Decision
  one : Decision
  other : Decision
  later : List Decision
  rest : List Decision
  left : cs ≡ parent ++ one ∷ later
  right : ds ≡ parent ++ other ∷ rest
  less : rank one < rank other

parting : (cs ds : List Decision) → Parts cs ds → Parting cs ds
parting [] ds h = absurd h
parting (c ∷ cs) [] h = absurd h
parting (c ∷ cs) (d ∷ ds) (inl h) = record { parent = []; one = c; other = d; later = cs; rest = ds; left = refl; right = refl; less = h }
parting (c ∷ cs) (d ∷ ds) (inr h) =
    let p = parting cs ds h.1 in
    record { parent = c ∷ p.parent; one = p.one; other = p.other; later = p.later; rest = p.rest; left = ap (λ zs. c ∷ zs) p.left; right = (λ i. sym h.0 i ∷ p.right i); less = p.less }

-- what begins with one decision beside another comes before what goes on with that
begun_before : (p : List Decision) (c d : Decision) (xs ds : List Decision) → rank c < rank d → BeginsWith (p ++ c ∷ []) ds → Parts ds (p ++ d ∷ xs)
begun_before p c d xs ds less b = subst (λ zs. Parts zs (p ++ d ∷ xs)) (sym (append_assoc p (c ∷ []) b.0) ∙ b.1) (parts_at p c d b.0 xs less)

begun_behind : (p : List Decision) (c d : Decision) (xs ds : List Decision) → rank c < rank d → BeginsWith (p ++ d ∷ []) ds → Parts (p ++ c ∷ xs) ds
begun_behind p c d xs ds less b = subst (Parts (p ++ c ∷ xs)) (sym (append_assoc p (d ∷ []) b.0) ∙ b.1) (parts_at p c d xs b.0 less)

no_parts : (ds : List Decision) → Parts ds ds → ⊥
no_parts ds h = parts_apart ds [] (subst (Parts ds) (sym (append_nil ds)) h)

some_has : (P : RecordTree → Type 0) (xs : List RecordTree) → SomeOne P xs → (x : RecordTree) × Has xs x × P x
some_has P [] h = absurd h
some_has P (x ∷ xs) (inl h) = (x, inl refl, h)
some_has P (x ∷ xs) (inr h) = let k = some_has P xs h in (k.0, inr k.1, k.2)

has_some : (P : RecordTree → Type 0) (xs : List RecordTree) (x : RecordTree) → Has xs x → P x → SomeOne P xs
has_some P [] x h k = absurd h
has_some P (y ∷ xs) x (inl e) k = inl (subst P (sym e) k)
has_some P (y ∷ xs) x (inr h) k = inr (has_some P xs x h k)

-- each member of a list of decisions is one, with what stands before it
each_first : (ds : List Decision) → ((p : List Decision) (c : Decision) (rest : List Decision) → ds ≡ p ++ c ∷ rest → IsFirst c) → AllByRecursion IsFirst ds
each_first [] h = tt
each_first (d ∷ ds) h = (h [] d ds refl, each_first ds (λ p c rest e. h (d ∷ p) c rest (ap (λ zs. d ∷ zs) e)))

module _ (s : SymStart) where
  each_last : (q ds : List Decision) → ((p : List Decision) (c : Decision) (rest : List Decision) → ds ≡ p ++ c ∷ rest → IsLast s (q ++ p) c) → AllLast s q ds
  each_last q [] h = tt
  each_last q (d ∷ ds) h = (
    subst (λ r. IsLast s r d) (append_nil q) (h [] d ds refl),
    each_last (q ++ d ∷ []) ds (λ p c rest e. subst (λ r. IsLast s r c) (sym (append_assoc q (d ∷ []) p)) (h (d ∷ p) c rest (ap (λ zs. d ∷ zs) e))),
  )

  module _ (prefix : (t : SymTree) (ds es : List Decision) → IsOpen t (ds ++ es) → IsOpen t ds)
      (more : (t : SymTree) (ds : List Decision) (d : Decision) (r : SymRoute) → route t ds ≡ Some r → (IsOpen t (ds ++ d ∷ []) ↔ Has (offers r.left) d))
      (all : List RecordTree) (begun : AllBegun s (λ ds. Unit {0}) all) (opened : (x : RecordTree) → Has all x → IsOpen s.tree (decisions_of x)) where
    -- the record that an offered decision beside one of a record begins
    beginner : (x : RecordTree) → Has all x → (p : List Decision) (c : Decision) (rest : List Decision) → decisions_of x ≡ p ++ c ∷ rest → (d : Decision)
        → IsOpen s.tree (p ++ d ∷ []) → (y : RecordTree) × Has all y × BeginsWith (p ++ d ∷ []) (decisions_of y)
    beginner x has p c rest is d offered =
        some_has (λ y. BeginsWith (p ++ d ∷ []) (decisions_of y)) all
        (begun p c d rest (has_some (λ y. decisions_of y ≡ p ++ c ∷ rest) all x has is) offered tt)

    -- where no record comes before it, each of its decisions is the first
    first_there : (x : RecordTree) → Has all x → ((y : RecordTree) → Has all y → Parts (decisions_of y) (decisions_of x) → ⊥) → AllByRecursion IsFirst (decisions_of x)
    first_there x has none = each_first (decisions_of x) by
      where
        by : (p : List Decision) (c : Decision) (rest : List Decision) → decisions_of x ≡ p ++ c ∷ rest → IsFirst c
        by p c rest is =
            let here = opens_part s prefix more (decisions_of x) p c rest is (opened x has) in
            elim (same_or_less (base c) (rank c) (least_there s prefix more p c c here here)) [
              | inl e ↦ sym e
              | inr less ↦
                  let low : base c ≤ base c = omega arith in
                  let d = filled_there s prefix more p c (base c) here low (omega (arith, less)) in
                  let sooner : rank d.0 < rank c = let e = d.2 in omega (arith, e, less) in
                  let y = beginner x has p c rest is d.0 d.1 in
                  absurd (none y.0 y.1 (subst (Parts (decisions_of y.0)) (sym is) (begun_before p d.0 c rest (decisions_of y.0) sooner y.2)))
            ]

    -- where none comes behind it, each is the last
    last_there : (x : RecordTree) → Has all x → ((y : RecordTree) → Has all y → Parts (decisions_of x) (decisions_of y) → ⊥) → AllLast s [] (decisions_of x)
    last_there x has none = each_last [] (decisions_of x) by
      where
        by : (p : List Decision) (c : Decision) (rest : List Decision) → decisions_of x ≡ p ++ c ∷ rest → IsLast s p c
        by p c rest is = λ d next offered.
            let later : rank c < rank d = omega (arith, next) in
            let y = beginner x has p c rest is d offered in
            none y.0 y.1 (subst (λ zs. Parts zs (decisions_of y.0)) (sym is) (begun_behind p c d rest (decisions_of y.0) later y.2))

    -- where none comes between two, the second comes next
    next_there : (x y : RecordTree) → Has all x → Has all y → Parts (decisions_of x) (decisions_of y)
        → ((z : RecordTree) → Has all z → Parts (decisions_of x) (decisions_of z) → Parts (decisions_of z) (decisions_of y) → ⊥) → ComesNext s (decisions_of x) (decisions_of y)
    next_there x y has also parts none =
        let a = parting (decisions_of x) (decisions_of y) parts in
        record {
          parent = a.parent;
          taken = a.one;
          later = a.later;
          other = a.other;
          rest = a.rest;
          before = a.left;
          is = a.right;
          next = by_next a (same_or_less (suc (rank a.one)) (rank a.other) a.less);
          last = each_last (a.parent ++ a.one ∷ []) a.later (by_last a);
          first = each_first a.rest (by_first a);
        }
      where
        by_next : (a : Parting (decisions_of x) (decisions_of y)) → (suc (rank a.one) ≡ rank a.other) ⊎ (suc (rank a.one) < rank a.other) → IsNext a.one a.other
        by_next a (inl e) = sym e
        by_next a (inr less) =
            let one = opens_part s prefix more (decisions_of x) a.parent a.one a.later a.left (opened x has) in
            let other = opens_part s prefix more (decisions_of y) a.parent a.other a.rest a.right (opened y also) in
            let low = least_there s prefix more a.parent a.other a.one other one in
            let d = filled_there s prefix more a.parent a.other (suc (rank a.one)) other (omega (arith, low)) (omega (arith, less)) in
            let behind : rank a.one < rank d.0 = let e = d.2 in omega (arith, e) in
            let before : rank d.0 < rank a.other = let e = d.2 in omega (arith, e, less) in
            let z = beginner x has a.parent a.one a.later a.left d.0 d.1 in
            absurd (none z.0 z.1 (subst (λ zs. Parts zs (decisions_of z.0)) (sym a.left) (begun_behind a.parent a.one d.0 a.later (decisions_of z.0) behind z.2))
            (subst (Parts (decisions_of z.0)) (sym a.right) (begun_before a.parent d.0 a.other a.rest (decisions_of z.0) before z.2)))

        by_last : (a : Parting (decisions_of x) (decisions_of y)) (p : List Decision) (c : Decision) (rest : List Decision) → a.later ≡ p ++ c ∷ rest
            → IsLast s ((a.parent ++ a.one ∷ []) ++ p) c
        by_last a p c rest e = λ d next offered.
            let q = (a.parent ++ a.one ∷ []) ++ p in
            let whole : decisions_of x ≡ q ++ c ∷ rest =
            a.left ∙ (ap (λ zs. a.parent ++ a.one ∷ zs) e ∙ (sym (append_assoc a.parent (a.one ∷ []) (p ++ c ∷ rest)) ∙ sym (append_assoc (a.parent ++ a.one ∷ []) p (c ∷ rest)))) in
            let later : rank c < rank d = omega (arith, next) in
            let z = beginner x has q c rest whole d offered in
            let from : BeginsWith (a.parent ++ a.one ∷ []) (decisions_of z.0) =
            (p ++ (d ∷ z.2.0), sym (append_assoc (a.parent ++ a.one ∷ []) p (d ∷ z.2.0)) ∙ (sym (append_assoc q (d ∷ []) z.2.0) ∙ z.2.1)) in
            none z.0 z.1 (subst (λ zs. Parts zs (decisions_of z.0)) (sym whole) (begun_behind q c d rest (decisions_of z.0) later z.2))
            (subst (Parts (decisions_of z.0)) (sym a.right) (begun_before a.parent a.one a.other a.rest (decisions_of z.0) a.less from))

        by_first : (a : Parting (decisions_of x) (decisions_of y)) (p : List Decision) (c : Decision) (rest : List Decision) → a.rest ≡ p ++ c ∷ rest → IsFirst c
        by_first a p c rest e =
            let q = (a.parent ++ a.other ∷ []) ++ p in
            let whole : decisions_of y ≡ q ++ c ∷ rest =
            a.right ∙ (ap (λ zs. a.parent ++ a.other ∷ zs) e ∙ (sym (append_assoc a.parent (a.other ∷ []) (p ++ c ∷ rest)) ∙ sym (append_assoc (a.parent ++ a.other ∷ []) p (c ∷ rest)))) in
            let here = opens_part s prefix more (decisions_of y) q c rest whole (opened y also) in
            elim (same_or_less (base c) (rank c) (least_there s prefix more q c c here here)) [
              | inl k ↦ sym k
              | inr less ↦
                  let low : base c ≤ base c = omega arith in
                  let d = filled_there s prefix more q c (base c) here low (omega (arith, less)) in
                  let sooner : rank d.0 < rank c = let k = d.2 in omega (arith, k, less) in
                  let z = beginner y also q c rest whole d.0 d.1 in
                  let from : BeginsWith (a.parent ++ a.other ∷ []) (decisions_of z.0) =
                  (p ++ (d.0 ∷ z.2.0), sym (append_assoc (a.parent ++ a.other ∷ []) p (d.0 ∷ z.2.0)) ∙ (sym (append_assoc q (d.0 ∷ []) z.2.0) ∙ z.2.1)) in
                  absurd (none z.0 z.1 (subst (λ zs. Parts zs (decisions_of z.0)) (sym a.left) (begun_behind a.parent a.one a.other a.later (decisions_of z.0) a.less from))
                  (subst (Parts (decisions_of z.0)) (sym whole) (begun_before q d.0 c rest (decisions_of z.0) sooner z.2)))
            ]

    -- ---- along the list

    -- the records before one: each comes before it
    abbrev AllBefore : List RecordTree → RecordTree → Type 0
    AllBefore done x = AllByRecursion (λ y. Parts (decisions_of y) (decisions_of x)) done

    -- it is among the records before one, or is it, or comes behind it
    either : (done : List RecordTree) (x : RecordTree) (xs : List RecordTree) → AllBefore done x → AllByRecursion (λ y. Parts (decisions_of x) (decisions_of y)) xs
        → (z : RecordTree) → Has (done ++ x ∷ xs) z → Parts (decisions_of z) (decisions_of x) ⊎ (x ≡ z) ⊎ Has xs z
    either [] x xs before behind z (inl e) = inr (inl e)
    either [] x xs before behind z (inr h) = inr (inr h)
    either (y ∷ done) x xs before behind z (inl e) = inl (subst (λ (r : RecordTree). Parts (decisions_of r) (decisions_of x)) e before.0)
    either (y ∷ done) x xs before behind z (inr h) = either done x xs before.1 behind z h

    in_middle : (done : List RecordTree) (x : RecordTree) (xs : List RecordTree) → Has (done ++ x ∷ xs) x
    in_middle [] x xs = inl refl
    in_middle (y ∷ done) x xs = inr (in_middle done x xs)

    all_before : (done : List RecordTree) (x y : RecordTree) → AllBefore done x → Parts (decisions_of x) (decisions_of y) → AllBefore (done ++ x ∷ []) y
    all_before [] x y before parts = (parts, tt)
    all_before (z ∷ done) x y before parts = (through (decisions_of z) (decisions_of x) (decisions_of y) before.0 parts, all_before done x y before.1 parts)
      where
        through : (cs ds es : List Decision) → Parts cs ds → Parts ds es → Parts cs es
        through [] ds es h k = absurd h
        through (c ∷ cs) [] es h k = absurd h
        through (c ∷ cs) (d ∷ ds) [] h k = absurd k
        through (c ∷ cs) (d ∷ ds) (e ∷ es) (inl h) (inl k) = inl (omega (arith, h, k))
        through (c ∷ cs) (d ∷ ds) (e ∷ es) (inl h) (inr k) = inl (subst (λ (x : Decision). rank c < rank x) k.0 h)
        through (c ∷ cs) (d ∷ ds) (e ∷ es) (inr h) (inl k) = inl (subst (λ (x : Decision). rank x < rank e) (sym h.0) k)
        through (c ∷ cs) (d ∷ ds) (e ∷ es) (inr h) (inr k) = inr (h.0 ∙ k.0, through cs ds es h.1 k.1)

    chain_from : (done : List RecordTree) (x : RecordTree) (xs : List RecordTree) → all ≡ done ++ x ∷ xs → AllBefore done x → RecordsAscend (x ∷ xs)
        → AllByRecursion IsTried xs → IsChainBehind s (Some (decisions_of x)) xs
    chain_from done x [] is before ascend tried =
        last_there x (subst (λ rs. Has rs x) (sym is) (in_middle done x [])) none
      where
        none : (z : RecordTree) → Has all z → Parts (decisions_of x) (decisions_of z) → ⊥
        none z has parts =
            elim (either done x [] before tt z (subst (λ rs. Has rs z) is has)) [
              | inl h ↦ parts_asym (decisions_of z) (decisions_of x) h parts
              | inr (inl e) ↦ no_parts (decisions_of x) (subst (λ (r : RecordTree). Parts (decisions_of x) (decisions_of r)) (sym e) parts)
              | inr (inr h) ↦ absurd h
            ]
    chain_from done x (y ∷ xs) is before ascend tried =
        let now : all ≡ (done ++ x ∷ []) ++ y ∷ xs = is ∙ sym (append_assoc done (x ∷ []) (y ∷ xs)) in
        let here = all_before done x y before ascend.0.0 in
        let has = subst (λ rs. Has rs x) (sym is) (in_middle done x (y ∷ xs)) in
        let also = subst (λ rs. Has rs y) (sym now) (in_middle (done ++ x ∷ []) y xs) in (
          (tried.0, next_there x y has also ascend.0.0 none),
          chain_from (done ++ x ∷ []) y xs now here ascend.1 tried.1,
        )
      where
        none : (z : RecordTree) → Has all z → Parts (decisions_of x) (decisions_of z) → Parts (decisions_of z) (decisions_of y) → ⊥
        none z has behind parts =
            elim (either done x (y ∷ xs) before ascend.0 z (subst (λ rs. Has rs z) is has)) [
              | inl h ↦ parts_asym (decisions_of z) (decisions_of x) h behind
              | inr (inl e) ↦ no_parts (decisions_of x) (subst (λ (r : RecordTree). Parts (decisions_of x) (decisions_of r)) (sym e) behind)
              | inr (inr (inl e)) ↦ no_parts (decisions_of y) (subst (λ (r : RecordTree). Parts (decisions_of r) (decisions_of y)) (sym e) parts)
              | inr (inr (inr h)) ↦ parts_asym (decisions_of z) (decisions_of y) parts (all_has (λ r. Parts (decisions_of y) (decisions_of r)) xs z ascend.1.0 h)
            ]

    chain_of : (rs : List RecordTree) → all ≡ rs → (rs ≡ [] → ⊥) → RecordsAscend rs → AllByRecursion IsTried rs → IsChain s rs
    chain_of [] is some ascend tried = absurd (some refl)
    chain_of (x ∷ xs) is some ascend tried =
        let has : Has all x = subst (λ rs. Has rs x) (sym is) (inl refl) in
        ((tried.0, first_there x has none), chain_from [] x xs is tt ascend tried.1)
      where
        none : (z : RecordTree) → Has all z → Parts (decisions_of z) (decisions_of x) → ⊥
        none z has parts =
            elim (subst (λ rs. Has rs z) is has) [
              | inl e ↦ no_parts (decisions_of x) (subst (λ (r : RecordTree). Parts (decisions_of r) (decisions_of x)) (sym e) parts)
              | inr h ↦ parts_asym (decisions_of z) (decisions_of x) parts (all_has (λ r. Parts (decisions_of x) (decisions_of r)) xs z ascend.0 h)
            ]

module _ (prefix : (t : SymTree) (ds es : List Decision) → IsOpen t (ds ++ es) → IsOpen t ds)
    (more : (t : SymTree) (ds : List Decision) (d : Decision) (r : SymRoute) → route t ds ≡ Some r → (IsOpen t (ds ++ d ∷ []) ↔ Has (offers r.left) d)) where
  pub exact_chains : (s : SymStart) → ExactRecordsAreChains s
  exact_chains s limit rs exact tried =
      chain_of s prefix more rs exact.begun (λ x has. meaning_opens s more x (all_has (IsGood s) rs x exact.good has).meaning) rs refl exact.some exact.ascend tried
