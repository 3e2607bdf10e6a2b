-- Where the limit is met, what is left is exactly what the last record's decisions left behind.
use Rattle.std.proofs.Common.{◌≡◌, ℕ, zero, suc, ◌+◌, ◌<◌, ◌≤◌, ◌⊎◌, inl, inr, Bool, true, false, List, [], ◌∷◌, ◌++◌, length, refl, sym, ap, subst, ◌∙◌, append_assoc, arith, Option, Some, None, option_map}
use Rattle.std.specs.List.{AllByRecursion}
use Rattle.sefl_meaning.specs.declared.walk.Decision.{Decision}
use Rattle.sefl_meaning.specs.declared.walk.Decision.TheVariants.{Copy}
use Rattle.sefl_meaning.specs.declared.walk.Place.{Place}
use Rattle.sefl_meaning.specs.Courses.{Asking, at_if, at_constrain, Progress}
use Rattle.sefl_meaning.specs.Trees.{Tree, over, arrives, tests, splits, Copies, no_copies, copy_and}
use Rattle.sefl_meaning.specs.Taken.{decision_at}
use Rattle.sefl_meaning.specs.Routes.{EachSplits, IsOpen, Route, Splits, arriving, copy_route, route, taking}
use Rattle.sefl_meaning.specs.Order.{rank}
use Rattle.exact_records.specs.Below.{Facts}
use Rattle.exact_records.specs.Records.{RecordTree, SymStart, decisions_of}
use Rattle.exact_records.specs.Exact.{AreExact, IsGood, IsTried, IsUnexplored, SomeOne}
use Rattle.exact_records.specs.Shapes.{IsPathAt, IsNotRun, One, Side, Covers, CoverCopies, SideOf}
use Rattle.exact_records.proofs.Lists.{append_nil, all_first, all_later, some_first, some_later, some_either, same_first, same_rest, cancel, nothing_after}
use Rattle.exact_records.proofs.Begins.{behind_one, less_asked}
use Rattle.exact_records.proofs.Ordered.{Behind, at_path, at_side, side_of_behind, copies_behind, mapped_some, side_taken, copy_taken, number_apart}
use Rattle.exact_records.proofs.Begun.{Is, side_of_some}
use Rattle.exact_records.proofs.Arriving.{IsSomeWay, always_way}
use Rattle.exact_records.proofs.Continuing.{exact_by}

module _ {A : Type 0} where
  -- where a member of two lists stands
  pub split_member : (xs ys pre : List A) (a : A) (left : List A) → xs ++ ys ≡ pre ++ a ∷ left
      → ((m : List A) × (ys ≡ m ++ a ∷ left)) ⊎ ((m : List A) × (xs ≡ pre ++ a ∷ m) × (left ≡ m ++ ys))
  split_member [] ys pre a left e = inl (pre, e)
  split_member (x ∷ xs) ys [] a left e = inr (xs, ap (λ z. z ∷ xs) (same_first e), sym (same_rest e))
  split_member (x ∷ xs) ys (p ∷ pre) a left e =
      elim (split_member xs ys pre a left (same_rest e)) [
        | inl h ↦ inl h
        | inr h ↦ inr (h.0, (λ i. same_first e i ∷ h.1 i), h.2)
      ]

  all_at : (P : A → Type 0) (xs : List A) (a : A) (ys : List A) → AllByRecursion P (xs ++ a ∷ ys) → P a
  all_at P [] a ys h = h.0
  all_at P (x ∷ xs) a ys h = all_at P xs a ys h.1

  after_last : (P : A → Type 0) (xs : List A) (a : A) (ys : List A) → AllByRecursion P (xs ++ a ∷ ys) → AllByRecursion P ys
  after_last P [] a ys h = h.1
  after_last P (x ∷ xs) a ys h = after_last P xs a ys h.1

  not_none : (xs : List A) (a : A) (ys : List A) → xs ++ a ∷ ys ≡ [] → ⊥
  not_none [] a ys e = cc
  not_none (x ∷ xs) a ys e = let bad : x ∷ (xs ++ a ∷ ys) ≡ [] = e in cc

  only_member : (x : A) (pre : List A) (a : A) (left : List A) → x ∷ [] ≡ pre ++ a ∷ left → (x ≡ a) × (left ≡ [])
  only_member x [] a left e = (same_first e, sym (same_rest e))
  only_member x (p ∷ pre) a left e = absurd (more pre (sym (same_rest e)))
    where
      more : (zs : List A) → zs ++ a ∷ left ≡ [] → ⊥
      more [] q = cc
      more (z ∷ zs) q = let bad : z ∷ (zs ++ a ∷ left) ≡ [] = q in cc

  some_both : (P Q : A → Type 0) (xs : List A) → SomeOne P xs → AllByRecursion Q xs → (a : A) × P a × Q a
  some_both P Q [] h k = absurd h
  some_both P Q (x ∷ xs) (inl h) k = (x, h, k.0)
  some_both P Q (x ∷ xs) (inr h) k = some_both P Q xs h k.1

-- what is left behind, where this is what is offered
record LeftBy (Offered : List Decision → Type 0) (last ds : List Decision) : Type 0 where
  pub parent : List Decision
  pub taken : Decision
  pub rest : List Decision
  pub other : Decision
  pub along : last ≡ parent ++ taken ∷ rest
  pub is : ds ≡ parent ++ other ∷ []
  pub offered : Offered ds
  pub later : rank taken < rank other

-- a later decision alone
abbrev IsLater : (List Decision → Type 0) → Decision → List Decision → Type 0
IsLater Offered c x = (d : Decision) × (x ≡ d ∷ []) × (rank c < rank d) × Offered (d ∷ [])

none_left : (Offered : List Decision → Type 0) (x : List Decision) → LeftBy Offered [] x → ⊥
none_left Offered x h = more h.parent h.taken h.rest h.along
  where
    more : (zs : List Decision) (d : Decision) (ds : List Decision) → [] ≡ zs ++ d ∷ ds → ⊥
    more [] d ds e = cc
    more (z ∷ zs) d ds e = let bad : [] ≡ z ∷ (zs ++ d ∷ ds) = e in cc

module _ (O P : List Decision → Type 0) (c : Decision) where
  left_next_at : (rel x : List Decision) → ((es : List Decision) → O (c ∷ es) → P es) → (parent : List Decision) (taken : Decision) (rest : List Decision) (other : Decision)
      → c ∷ rel ≡ parent ++ taken ∷ rest → x ≡ parent ++ other ∷ [] → O x → rank taken < rank other
      → ((y : List Decision) × (x ≡ c ∷ y) × LeftBy P rel y) ⊎ IsLater O c x
  left_next_at rel x f [] taken rest other along is opens later =
      inr (other, is, subst (λ e. rank e < rank other) (sym (same_first along)) later, subst O is opens)
  left_next_at rel x f (e ∷ parent) taken rest other along is opens later =
      let y = parent ++ other ∷ [] in
      let same : x ≡ c ∷ y = is ∙ ap (λ b. b ∷ y) (sym (same_first along)) in
      inl (y, same, record { parent = parent; taken = taken; rest = rest; other = other; along = same_rest along; is = refl; offered = f y (subst O same opens); later = later })

  left_next : (rel x : List Decision) → ((es : List Decision) → O (c ∷ es) → P es) → LeftBy O (c ∷ rel) x → ((y : List Decision) × (x ≡ c ∷ y) × LeftBy P rel y) ⊎ IsLater O c x
  left_next rel x f h = left_next_at rel x f h.parent h.taken h.rest h.other h.along h.is h.offered h.later

  left_deeper : (rel y : List Decision) → ((es : List Decision) → P es → O (c ∷ es)) → LeftBy P rel y → LeftBy O (c ∷ rel) (c ∷ y)
  left_deeper rel y f h = record {
    parent = c ∷ h.parent;
    taken = h.taken;
    rest = h.rest;
    other = h.other;
    along = ap (λ zs. c ∷ zs) h.along;
    is = ap (λ zs. c ∷ zs) h.is;
    offered = f y h.offered;
    later = h.later;
  }

left_here : (O : List Decision → Type 0) (c : Decision) (rel x : List Decision) → IsLater O c x → LeftBy O (c ∷ rel) x
left_here O c rel x h = record { parent = []; taken = c; rest = rel; other = h.0; along = refl; is = h.1; offered = subst O (sym h.1) h.3; later = h.2 }

-- these are exactly what is left behind
record CutBy (O : List Decision → Type 0) (ds rel : List Decision) (left : List RecordTree) : Type 0 where
  pub only : (x : List Decision) → SomeOne (Is (ds ++ x)) left → LeftBy O rel x
  pub all : (x : List Decision) → LeftBy O rel x → SomeOne (Is (ds ++ x)) left

record LaterBy (O : List Decision → Type 0) (ds : List Decision) (c : Decision) (later : List RecordTree) : Type 0 where
  pub only : (x : List Decision) → SomeOne (Is (ds ++ x)) later → IsLater O c x
  pub all : (x : List Decision) → IsLater O c x → SomeOne (Is (ds ++ x)) later

nothing_cut : (O : List Decision → Type 0) (ds rel : List Decision) (left : List RecordTree) → left ≡ [] → rel ≡ [] → CutBy O ds rel left
nothing_cut O ds rel left e k = record {
  only = λ x h. absurd (subst (SomeOne (Is (ds ++ x))) e h);
  all = λ x h. absurd (none_left O x (subst (λ r. LeftBy O r x) k h));
}

behind_this : (ds : List Decision) (c : Decision) (x : List Decision) (z : RecordTree) → Is (ds ++ x) z → Behind (ds ++ c ∷ []) z → (y : List Decision) × (x ≡ c ∷ y)
behind_this ds c x z e h =
    let k = behind_one ds c (decisions_of z) h in
    (k.0, cancel ds x (c ∷ k.0) (sym e ∙ k.1))

-- from one part to the whole
cut_above : (O P : List Decision → Type 0) (ds : List Decision) (c : Decision) (rel : List Decision) (left m later : List RecordTree) → left ≡ m ++ later
    → ((es : List Decision) → O (c ∷ es) → P es) → ((es : List Decision) → P es → O (c ∷ es))
    → AllByRecursion (Behind (ds ++ c ∷ [])) m → CutBy P (ds ++ c ∷ []) rel m → LaterBy O ds c later → CutBy O ds (c ∷ rel) left
cut_above O P ds c rel left m later is f g behind cut after = record {
  only = λ x h.
      elim (some_either _ m later (subst (SomeOne (Is (ds ++ x))) is h)) [
        | inl k ↦
            let z = some_both _ _ m k behind in
            let q = behind_this ds c x z.0 z.1 z.2 in
            let e : ds ++ x ≡ (ds ++ c ∷ []) ++ q.0 = ap (λ zs. ds ++ zs) q.1 ∙ sym (append_assoc ds (c ∷ []) q.0) in
            subst (LeftBy O (c ∷ rel)) (sym q.1) (left_deeper O P c rel q.0 g (cut.only q.0 (subst (λ zs. SomeOne (Is zs) m) e k)))
        | inr k ↦ left_here O c rel x (after.only x k)
      ];
  all = λ x h.
      elim (left_next O P c rel x f h) [
        | inl k ↦
            let e : (ds ++ c ∷ []) ++ k.0 ≡ ds ++ x = append_assoc ds (c ∷ []) k.0 ∙ ap (λ zs. ds ++ zs) (sym k.1) in
            subst (SomeOne (Is (ds ++ x))) (sym is) (some_first _ m later (subst (λ zs. SomeOne (Is zs) m) e (cut.all k.0 k.2)))
        | inr k ↦ subst (SomeOne (Is (ds ++ x))) (sym is) (some_later _ m later (after.all x k))
      ];
}

unexplored_not_tried : (x : RecordTree) → IsUnexplored x → IsTried x → ⊥
unexplored_not_tried x h k = k h

-- a side where nothing was tried
untried_side : (ds : List Decision) (rs : List RecordTree) (K : Type 0) → SomeOne (Behind ds) rs → AllByRecursion IsUnexplored rs → Side ds rs K → One (IsNotRun ds) rs
untried_side ds rs K some h (inl k) = k
untried_side ds [] K some h (inr k) = absurd some
untried_side ds (x ∷ rs) K some h (inr k) = absurd (k.0 h.0)

one_is : (ds : List Decision) (rs : List RecordTree) → One (IsNotRun ds) rs → (x : List Decision) → SomeOne (Is x) rs → x ≡ ds
one_is ds rs h x k =
    elim (subst (SomeOne (Is x)) h.is k) [
      | inl e ↦ sym e ∙ at_side ds h.it h.has
      | inr bad ↦ absurd bad
    ]

one_has : (ds : List Decision) (rs : List RecordTree) → One (IsNotRun ds) rs → SomeOne (Is ds) rs
one_has ds rs h = subst (SomeOne (Is ds)) (sym h.is) (inl (at_side ds h.it h.has))

side_cut : (O : List Decision → Type 0) (ds : List Decision) (rs : List RecordTree) (K : Type 0) (pre : List RecordTree) (last : RecordTree) (left : List RecordTree) (rel : List Decision)
    → rs ≡ pre ++ last ∷ left → decisions_of last ≡ ds ++ rel → (K → CutBy O ds rel left) → Side ds rs K → CutBy O ds rel left
side_cut O ds rs K pre last left rel is e f (inl h) =
    let m = only_member h.it pre last left (sym h.is ∙ is) in
    nothing_cut O ds rel left m.1 (nothing_after ds rel (sym (at_side ds h.it h.has) ∙ (ap decisions_of m.0 ∙ e)))
side_cut O ds rs K pre last left rel is e f (inr h) = f h.1

path_cut : (O : List Decision → Type 0) (ds : List Decision) (rs pre : List RecordTree) (last : RecordTree) (left : List RecordTree) (rel : List Decision)
    → rs ≡ pre ++ last ∷ left → decisions_of last ≡ ds ++ rel → One (IsPathAt ds) rs → CutBy O ds rel left
path_cut O ds rs pre last left rel is e h =
    let m = only_member h.it pre last left (sym h.is ∙ is) in
    nothing_cut O ds rel left m.1 (nothing_after ds rel (sym (at_path ds h.it h.has) ∙ (ap decisions_of m.0 ∙ e)))

-- where one more decision is offered alike
cut_same : (O P : List Decision → Type 0) (ds rel : List Decision) (left : List RecordTree) → ((zs : List Decision) (d : Decision) → O (zs ++ d ∷ []) → P (zs ++ d ∷ []))
    → ((es : List Decision) → P es → O es) → CutBy P ds rel left → CutBy O ds rel left
cut_same O P ds rel left f g cut = record {
  only = λ x h. let l = cut.only x h in record { parent = l.parent; taken = l.taken; rest = l.rest; other = l.other; along = l.along; is = l.is; offered = g x l.offered; later = l.later };
  all = λ x h. cut.all x (record {
    parent = h.parent;
    taken = h.taken;
    rest = h.rest;
    other = h.other;
    along = h.along;
    is = h.is;
    later = h.later;
    offered = subst P (sym h.is) (f h.parent h.other (subst O h.is h.offered));
  });
}

module _ {V F : Type 0} where
  arrives_opens : (place : Place) (p : Progress V) (t : Tree V F) (ds : List Decision) → IsOpen t ds → IsOpen (arrives place p t) ds
  arrives_opens place p t ds h = (arriving place p h.0, ap (option_map (arriving place p)) h.1)

  opens_behind : (place : Place) (p : Progress V) (t : Tree V F) (ds : List Decision) → IsOpen (arrives place p t) ds → IsOpen t ds
  opens_behind place p t ds h = let m = mapped_some (arriving place p) (route t ds) h.0 h.1 in (m.0, m.1)

  held_opens : (asking : Asking) (p : Progress V) (test : F) (held broken : Tree V F) (ds : List Decision) → IsOpen held ds → IsOpen (tests asking p test held broken) (decision_at asking true ∷ ds)
  held_opens at_if p test held broken ds h = (taking test true h.0, ap (option_map (taking test true)) h.1)
  held_opens at_constrain p test held broken ds h = (taking test true h.0, ap (option_map (taking test true)) h.1)

  broken_opens : (asking : Asking) (p : Progress V) (test : F) (held broken : Tree V F) (ds : List Decision) → IsOpen broken ds → IsOpen (tests asking p test held broken) (decision_at asking false ∷ ds)
  broken_opens at_if p test held broken ds h = (taking test false h.0, ap (option_map (taking test false)) h.1)
  broken_opens at_constrain p test held broken ds h = (taking test false h.0, ap (option_map (taking test false)) h.1)

  opens_held : (asking : Asking) (p : Progress V) (test : F) (held broken : Tree V F) (ds : List Decision) → IsOpen (tests asking p test held broken) (decision_at asking true ∷ ds) → IsOpen held ds
  opens_held at_if p test held broken ds h = let m = mapped_some (taking test true) (route held ds) h.0 h.1 in (m.0, m.1)
  opens_held at_constrain p test held broken ds h = let m = mapped_some (taking test true) (route held ds) h.0 h.1 in (m.0, m.1)

  opens_broken : (asking : Asking) (p : Progress V) (test : F) (held broken : Tree V F) (ds : List Decision) → IsOpen (tests asking p test held broken) (decision_at asking false ∷ ds) → IsOpen broken ds
  opens_broken at_if p test held broken ds h = let m = mapped_some (taking test false) (route broken ds) h.0 h.1 in (m.0, m.1)
  opens_broken at_constrain p test held broken ds h = let m = mapped_some (taking test false) (route broken ds) h.0 h.1 in (m.0, m.1)

  -- which decisions come later at a test
  later_test : (asking : Asking) (p : Progress V) (test : F) (held broken : Tree V F) (truth : Bool) (d : Decision) → rank (decision_at asking truth) < rank d
      → IsOpen (tests asking p test held broken) (d ∷ []) → (truth ≡ true) × (d ≡ decision_at asking false)
  later_test asking p test held broken true d less h =
      elim (side_taken asking p test held broken d [] h.0 h.1) [
        | inl g ↦ absurd (same_not_less d (decision_at asking true) g.taken less)
        | inr g ↦ (refl, g.taken)
      ]
    where
      same_not_less : (c b : Decision) → c ≡ b → rank b < rank c → ⊥
      same_not_less c b e l = let same : rank c ≡ rank b = ap rank e in omega (arith, same, l)
  later_test asking p test held broken false d less h =
      elim (side_taken asking p test held broken d [] h.0 h.1) [
        | inl g ↦ let same : rank d ≡ rank (decision_at asking true) = ap rank g.taken in absurd (omega (arith, same, less, less_asked asking))
        | inr g ↦ let same : rank d ≡ rank (decision_at asking false) = ap rank g.taken in absurd (omega (arith, same, less))
      ]

  -- those of copies, numbered from a number on
  record OpensFrom (branches : Copies V F) (first : ℕ) (ds : List Decision) : Type 0 where
    pub place : ℕ
    pub number : ℕ
    pub rest : List Decision
    pub numbered : number ≡ first + place
    pub is : ds ≡ Copy number ∷ rest
    pub way : Route V F
    pub found : copy_route branches place rest ≡ Some way

  later_opens : (t : Tree V F) (branches : Copies V F) (first : ℕ) (ds : List Decision) → OpensFrom branches (suc first) ds → OpensFrom (copy_and t branches) first ds
  later_opens t branches first ds h = record { place = suc h.place; number = h.number; rest = h.rest; numbered = omega (arith, h.numbered); is = h.is; way = h.way; found = h.found }

  opens_later_at : (t : Tree V F) (branches : Copies V F) (first : ℕ) (ds : List Decision) (place number : ℕ) (rest : List Decision) (way : Route V F) → number ≡ first + place → ds ≡ Copy number ∷ rest
      → copy_route (copy_and t branches) place rest ≡ Some way → (first < number) → OpensFrom branches (suc first) ds
  opens_later_at t branches first ds zero number rest way numbered is found less = absurd (omega (arith, numbered, less))
  opens_later_at t branches first ds (suc place) number rest way numbered is found less =
      record { place = place; number = number; rest = rest; numbered = omega (arith, numbered); is = is; way = way; found = found }

  opens_later : (t : Tree V F) (branches : Copies V F) (first : ℕ) (ds : List Decision) (h : OpensFrom (copy_and t branches) first ds) → first < h.number → OpensFrom branches (suc first) ds
  opens_later t branches first ds h less = opens_later_at t branches first ds h.place h.number h.rest h.way h.numbered h.is h.found less

  first_opens : (t : Tree V F) (branches : Copies V F) (first : ℕ) (ds : List Decision) → IsOpen t ds → OpensFrom (copy_and t branches) first (Copy first ∷ ds)
  first_opens t branches first ds h = record { place = 0; number = first; rest = ds; numbered = omega arith; is = refl; way = h.0; found = h.1 }

  opens_first_at : (t : Tree V F) (branches : Copies V F) (first : ℕ) (ds : List Decision) (place number : ℕ) (rest : List Decision) (way : Route V F) → number ≡ first + place → Copy first ∷ ds ≡ Copy number ∷ rest
      → copy_route (copy_and t branches) place rest ≡ Some way → IsOpen t ds
  opens_first_at t branches first ds zero number rest way numbered is found = (way, ap (route t) (same_rest is) ∙ found)
  opens_first_at t branches first ds (suc place) number rest way numbered is found = absurd (number_apart number first (sym (same_first is)) (omega (arith, numbered)))

  opens_first : (t : Tree V F) (branches : Copies V F) (first : ℕ) (ds : List Decision) → OpensFrom (copy_and t branches) first (Copy first ∷ ds) → IsOpen t ds
  opens_first t branches first ds h = opens_first_at t branches first ds h.place h.number h.rest h.way h.numbered h.is h.found

  always_opens : (t : Tree V F) → IsOpen t []
  always_opens t = some_way (route t []) refl (always_way t)
    where
      some_way : (r : Option (Route V F)) → route t [] ≡ r → IsSomeWay r → IsOpen t []
      some_way None e h = absurd h
      some_way (Some r) e h = (r, e)

  splits_open : (p : Progress V) (branches : Copies V F) (d : Decision) (ds : List Decision) → IsOpen (splits p branches) (d ∷ ds) → OpensFrom branches 0 (d ∷ ds)
  splits_open p branches d ds h =
      let g = copy_taken p branches d ds h.0 h.1 in
      record { place = g.0; number = g.0; rest = ds; numbered = omega arith; is = ap (λ b. b ∷ ds) g.1; way = h.0; found = g.2 }

  splits_offer : (p : Progress V) (branches : Copies V F) (zs : List Decision) (d : Decision) → IsOpen (splits p branches) (zs ++ d ∷ []) → OpensFrom branches 0 (zs ++ d ∷ [])
  splits_offer p branches [] d h = splits_open p branches d [] h
  splits_offer p branches (z ∷ zs) d h = splits_open p branches z (zs ++ d ∷ []) h

  open_splits : (p : Progress V) (branches : Copies V F) (ds : List Decision) → OpensFrom branches 0 ds → IsOpen (splits p branches) ds
  open_splits p branches ds h =
      let same : h.number ≡ h.place = omega (arith, h.numbered) in
      let e : ds ≡ Copy h.place ∷ h.rest = h.is ∙ ap (λ (n : ℕ). Copy n ∷ h.rest) same in
      subst (IsOpen (splits p branches)) (sym e) (h.way, h.found)

module _ {V F : Type 0} where
  -- what copies from the next number on leave behind
  later_left : (t : Tree V F) (branches : Copies V F) (first m : ℕ) (rel x : List Decision) → suc first ≤ m → LeftBy (OpensFrom (copy_and t branches) first) (Copy m ∷ rel) x
      → LeftBy (OpensFrom branches (suc first)) (Copy m ∷ rel) x
  later_left t branches first m rel x less h =
      record {
        parent = h.parent;
        taken = h.taken;
        rest = h.rest;
        other = h.other;
        along = h.along;
        is = h.is;
        later = h.later;
        offered = opens_later t branches first x h.offered (above h.parent h.taken h.rest h.other h.along (sym h.is ∙ h.offered.is) h.later);
      }
    where
      above : (zs : List Decision) (c : Decision) (cs : List Decision) (d : Decision) → Copy m ∷ rel ≡ zs ++ c ∷ cs → zs ++ d ∷ [] ≡ Copy h.offered.number ∷ h.offered.rest → rank c < rank d
          → first < h.offered.number
      above [] c cs d along is later =
          let e : rank (Copy m) ≡ rank c = ap rank (same_first along) in
          let k : rank d ≡ rank (Copy h.offered.number) = ap rank (same_first is) in
          omega (arith, e, k, later, less)
      above (z ∷ zs) c cs d along is later =
          let e : rank (Copy m) ≡ rank (Copy h.offered.number) = ap rank (same_first along ∙ same_first is) in
          omega (arith, e, less)

-- the decisions behind one of them
rest_behind : (ds : List Decision) (c : Decision) (rel : List Decision) (x : RecordTree) → decisions_of x ≡ ds ++ rel → Behind (ds ++ c ∷ []) x
    → (q : List Decision) × (rel ≡ c ∷ q) × (decisions_of x ≡ (ds ++ c ∷ []) ++ q)
rest_behind ds c rel x e h =
    let k = behind_one ds c (decisions_of x) h in
    (k.0, cancel ds rel (c ∷ k.0) (sym e ∙ k.1), k.1 ∙ sym (append_assoc ds (c ∷ []) k.0))

module _ {V F : Type 0} where
  -- the other side of a test, where nothing was tried
  later_side : (asking : Asking) (p : Progress V) (test : F) (held broken : Tree V F) (ds : List Decision) (later : List RecordTree) → One (IsNotRun (ds ++ decision_at asking false ∷ [])) later
      → LaterBy (IsOpen (tests asking p test held broken)) ds (decision_at asking true) later
  later_side asking p test held broken ds later h =
      let c1 = decision_at asking false in
      record {
        only = λ x k.
            let e : x ≡ c1 ∷ [] = cancel ds x (c1 ∷ []) (one_is (ds ++ c1 ∷ []) later h (ds ++ x) k) in
            (c1, e, less_asked asking, broken_opens asking p test held broken [] (always_opens broken));
        all = λ x k.
            let e : x ≡ c1 ∷ [] = k.1 ∙ ap (λ b. b ∷ []) (later_test asking p test held broken true k.0 k.2 k.3).1 in
            subst (λ zs. SomeOne (Is (ds ++ zs)) later) (sym e) (one_has (ds ++ c1 ∷ []) later h);
      }

  -- nothing comes later at a test than its broken side
  no_later_side : (asking : Asking) (p : Progress V) (test : F) (held broken : Tree V F) (ds : List Decision)
      → LaterBy (IsOpen (tests asking p test held broken)) ds (decision_at asking false) []
  no_later_side asking p test held broken ds = record {
    only = λ x k. absurd k;
    all = λ x k. absurd (not_false (later_test asking p test held broken false k.0 k.2 k.3).0);
  }
    where
      not_false : false ≡ true → ⊥
      not_false e = cc

  -- copies where nothing was tried
  copies_untried : (branches : Copies V F) (first : ℕ) (ds : List Decision) (rs : List RecordTree) → EachSplits branches → CoverCopies branches first ds rs → AllByRecursion IsUnexplored rs
      → (x : List Decision) → SomeOne (Is (ds ++ x)) rs → (m : ℕ) × (x ≡ Copy m ∷ []) × (first ≤ m) × OpensFrom branches first x
  copies_untried no_copies first ds rs s h un x k = absurd (subst (SomeOne (Is (ds ++ x))) h k)
  copies_untried (copy_and t branches) first ds rs s h un x k =
      let both = subst (AllByRecursion IsUnexplored) h.is un in
      let one = untried_side (ds ++ Copy first ∷ []) h.first _ (side_of_some t (ds ++ Copy first ∷ []) h.first s.0 h.firsts) (all_first _ h.first h.later both) h.firsts in
      elim (some_either _ h.first h.later (subst (SomeOne (Is (ds ++ x))) h.is k)) [
        | inl a ↦
            let e : x ≡ Copy first ∷ [] = cancel ds x (Copy first ∷ []) (one_is (ds ++ Copy first ∷ []) h.first one (ds ++ x) a) in
            (first, e, omega arith, subst (OpensFrom (copy_and t branches) first) (sym e) (first_opens t branches first [] (always_opens t)))
        | inr a ↦
            let q = copies_untried branches (suc first) ds h.later s.1 h.laters (all_later _ h.first h.later both) x a in
            (q.0, q.1, omega (arith, q.2), later_opens t branches first x q.3)
      ]

  untried_copies : (branches : Copies V F) (first : ℕ) (ds : List Decision) (rs : List RecordTree) → EachSplits branches → CoverCopies branches first ds rs → AllByRecursion IsUnexplored rs
      → (place number : ℕ) → number ≡ first + place → (way : Route V F) → copy_route branches place [] ≡ Some way → SomeOne (Is (ds ++ Copy number ∷ [])) rs
  untried_copies no_copies first ds rs s h un place number e way found = let bad : None ≡ Some way = found in cc
  untried_copies (copy_and t branches) first ds rs s h un zero number e way found =
      let both = subst (AllByRecursion IsUnexplored) h.is un in
      let one = untried_side (ds ++ Copy first ∷ []) h.first _ (side_of_some t (ds ++ Copy first ∷ []) h.first s.0 h.firsts) (all_first _ h.first h.later both) h.firsts in
      let same : number ≡ first = omega (arith, e) in
      subst (SomeOne (Is (ds ++ Copy number ∷ []))) (sym h.is) (some_first _ h.first h.later (subst (λ (n : ℕ). SomeOne (Is (ds ++ Copy n ∷ [])) h.first) (sym same) (one_has (ds ++ Copy first ∷ []) h.first one)))
  untried_copies (copy_and t branches) first ds rs s h un (suc place) number e way found =
      let both = subst (AllByRecursion IsUnexplored) h.is un in
      subst (SomeOne (Is (ds ++ Copy number ∷ []))) (sym h.is) (some_later _ h.first h.later
      (untried_copies branches (suc first) ds h.later s.1 h.laters (all_later _ h.first h.later both) place number (omega (arith, e)) way found))

  later_copies : (t : Tree V F) (branches : Copies V F) (first : ℕ) (ds : List Decision) (later : List RecordTree) → EachSplits branches → CoverCopies branches (suc first) ds later → AllByRecursion IsUnexplored later
      → LaterBy (OpensFrom (copy_and t branches) first) ds (Copy first) later
  later_copies t branches first ds later s h un = record {
    only = λ x k.
        let q = copies_untried branches (suc first) ds later s h un x k in
        (Copy q.0, q.1, omega (arith, q.2), subst (OpensFrom (copy_and t branches) first) q.1 (later_opens t branches first x q.3));
    all = λ x k.
        let o : OpensFrom (copy_and t branches) first (k.0 ∷ []) = k.3 in
        let d : k.0 ≡ Copy o.number = same_first o.is in
        let less : rank (Copy first) < rank (Copy o.number) = subst (λ b. rank (Copy first) < rank b) d k.2 in
        let p = opens_later t branches first (k.0 ∷ []) o (omega (arith, less)) in
        let e : x ≡ Copy p.number ∷ [] = k.1 ∙ ap (λ b. b ∷ []) (same_first p.is) in
        let found : copy_route branches p.place [] ≡ Some p.way = ap (copy_route branches p.place) (same_rest p.is) ∙ p.found in
        subst (λ zs. SomeOne (Is (ds ++ zs)) later) (sym e) (untried_copies branches (suc first) ds later s h un p.place p.number p.numbered p.way found);
  }

  cut_later : (t : Tree V F) (branches : Copies V F) (first m : ℕ) (ds rel : List Decision) (left : List RecordTree) → suc first ≤ m → CutBy (OpensFrom branches (suc first)) ds (Copy m ∷ rel) left
      → CutBy (OpensFrom (copy_and t branches) first) ds (Copy m ∷ rel) left
  cut_later t branches first m ds rel left less cut = record {
    only = λ x h. let l = cut.only x h in record { parent = l.parent; taken = l.taken; rest = l.rest; other = l.other; along = l.along; is = l.is; later = l.later; offered = later_opens t branches first x l.offered };
    all = λ x h. cut.all x (later_left t branches first m rel x less h);
  }

  mutual
    covers_cut : (t : Tree V F) (ds : List Decision) (rs : List RecordTree) → Splits t → Covers t ds rs → (pre : List RecordTree) (last : RecordTree) (left : List RecordTree) (rel : List Decision)
        → rs ≡ pre ++ last ∷ left → decisions_of last ≡ ds ++ rel → AllByRecursion IsUnexplored left → CutBy (IsOpen t) ds rel left
    covers_cut (over p end') ds rs s h pre last left rel is e un = path_cut _ ds rs pre last left rel is e h
    covers_cut (arrives place p t) ds rs s h pre last left rel is e un =
        cut_same (IsOpen (arrives place p t)) (IsOpen t) ds rel left (λ zs d. opens_behind place p t (zs ++ d ∷ [])) (arrives_opens place p t) (covers_cut t ds rs s h pre last left rel is e un)
    covers_cut (tests asking p test held broken) ds rs s h pre last left rel is e un =
        let c0 = decision_at asking true in
        let c1 = decision_at asking false in
        let all0 = side_of_behind held (ds ++ c0 ∷ []) h.first h.firsts in
        let all1 = side_of_behind broken (ds ++ c1 ∷ []) h.later h.laters in
        elim (split_member h.first h.later pre last left (sym h.is ∙ is)) [
          | inl k ↦
              let b = rest_behind ds c1 rel last e (all_at _ k.0 last left (subst (AllByRecursion (Behind (ds ++ c1 ∷ []))) k.1 all1)) in
              let cut = side_cut (IsOpen broken) (ds ++ c1 ∷ []) h.later _ k.0 last left b.0 k.1 b.2
              (λ m. covers_cut broken (ds ++ c1 ∷ []) h.later s.1 m k.0 last left b.0 k.1 b.2 un) h.laters in
              subst (λ r. CutBy (IsOpen (tests asking p test held broken)) ds r left) (sym b.1)
              (cut_above _ (IsOpen broken) ds c1 b.0 left left [] (sym (append_nil left)) (opens_broken asking p test held broken) (broken_opens asking p test held broken)
              (after_last (Behind (ds ++ c1 ∷ [])) k.0 last left (subst (AllByRecursion (Behind (ds ++ c1 ∷ []))) k.1 all1)) cut (no_later_side asking p test held broken ds))
          | inr k ↦
              let b = rest_behind ds c0 rel last e (all_at _ pre last k.0 (subst (AllByRecursion (Behind (ds ++ c0 ∷ []))) k.1 all0)) in
              let both = subst (AllByRecursion IsUnexplored) k.2 un in
              let cut = side_cut (IsOpen held) (ds ++ c0 ∷ []) h.first _ pre last k.0 b.0 k.1 b.2
              (λ m. covers_cut held (ds ++ c0 ∷ []) h.first s.0 m pre last k.0 b.0 k.1 b.2 (all_first _ k.0 h.later both)) h.firsts in
              let one = untried_side (ds ++ c1 ∷ []) h.later _ (side_of_some broken (ds ++ c1 ∷ []) h.later s.1 h.laters) (all_later _ k.0 h.later both) h.laters in
              subst (λ r. CutBy (IsOpen (tests asking p test held broken)) ds r left) (sym b.1)
              (cut_above _ (IsOpen held) ds c0 b.0 left k.0 h.later k.2 (opens_held asking p test held broken) (held_opens asking p test held broken)
              (after_last (Behind (ds ++ c0 ∷ [])) pre last k.0 (subst (AllByRecursion (Behind (ds ++ c0 ∷ []))) k.1 all0)) cut (later_side asking p test held broken ds h.later one))
        ]
    covers_cut (splits p branches) ds rs s h pre last left rel is e un =
        cut_same (IsOpen (splits p branches)) (OpensFrom branches 0) ds rel left (splits_offer p branches) (open_splits p branches) (copies_cut branches 0 ds rs s.1 h pre last left rel is e un)

    copies_cut : (branches : Copies V F) (first : ℕ) (ds : List Decision) (rs : List RecordTree) → EachSplits branches → CoverCopies branches first ds rs
        → (pre : List RecordTree) (last : RecordTree) (left : List RecordTree) (rel : List Decision)
        → rs ≡ pre ++ last ∷ left → decisions_of last ≡ ds ++ rel → AllByRecursion IsUnexplored left → CutBy (OpensFrom branches first) ds rel left
    copies_cut no_copies first ds rs s h pre last left rel is e un = absurd (not_none pre last left (sym is ∙ h))
    copies_cut (copy_and t branches) first ds rs s h pre last left rel is e un =
        let c0 = Copy first in
        let all0 = side_of_behind t (ds ++ c0 ∷ []) h.first h.firsts in
        let all1 = copies_behind branches (suc first) ds h.later h.laters in
        elim (split_member h.first h.later pre last left (sym h.is ∙ is)) [
          | inl k ↦
              let m : (m : ℕ) × (suc first ≤ m) × Behind (ds ++ Copy m ∷ []) last = all_at _ k.0 last left (subst (AllByRecursion (λ x. (m : ℕ) × (suc first ≤ m) × Behind (ds ++ Copy m ∷ []) x)) k.1 all1) in
              let b = rest_behind ds (Copy m.0) rel last e m.2 in
              let cut = copies_cut branches (suc first) ds h.later s.1 h.laters k.0 last left rel k.1 e un in
              subst (λ r. CutBy (OpensFrom (copy_and t branches) first) ds r left) (sym b.1)
              (cut_later t branches first m.0 ds b.0 left m.1 (subst (λ r. CutBy (OpensFrom branches (suc first)) ds r left) b.1 cut))
          | inr k ↦
              let b = rest_behind ds c0 rel last e (all_at _ pre last k.0 (subst (AllByRecursion (Behind (ds ++ c0 ∷ []))) k.1 all0)) in
              let both = subst (AllByRecursion IsUnexplored) k.2 un in
              let cut = side_cut (IsOpen t) (ds ++ c0 ∷ []) h.first _ pre last k.0 b.0 k.1 b.2
              (λ m. covers_cut t (ds ++ c0 ∷ []) h.first s.0 m pre last k.0 b.0 k.1 b.2 (all_first _ k.0 h.later both)) h.firsts in
              subst (λ r. CutBy (OpensFrom (copy_and t branches) first) ds r left) (sym b.1)
              (cut_above _ (IsOpen t) ds c0 b.0 left k.0 h.later k.2 (opens_first t branches first) (first_opens t branches first)
              (after_last (Behind (ds ++ c0 ∷ [])) pre last k.0 (subst (AllByRecursion (Behind (ds ++ c0 ∷ []))) k.1 all0)) cut
              (later_copies t branches first ds h.later s.1 h.laters (all_later _ k.0 h.later both)))
        ]

module _ (facts : Facts) (s : SymStart) where
  -- in the end, where the limit was met and something is left
  pub exact_cut : (limit : ℕ) (done : List RecordTree) (last : RecordTree) (left : List RecordTree) → Splits s.tree → SideOf s.tree [] ((done ++ last ∷ []) ++ left)
      → AllByRecursion (IsGood s) ((done ++ last ∷ []) ++ left) → AllByRecursion IsTried (done ++ last ∷ []) → length (done ++ last ∷ []) ≡ limit → AllByRecursion IsUnexplored left → (left ≡ [] → ⊥)
      → AreExact s limit ((done ++ last ∷ []) ++ left)
  exact_cut limit done last left spl h good tried count un some =
      let is : (done ++ last ∷ []) ++ left ≡ done ++ last ∷ left = append_assoc done (last ∷ []) left in
      let cut = side_cut (IsOpen s.tree) [] ((done ++ last ∷ []) ++ left) _ done last left (decisions_of last) is refl
      (λ m. covers_cut s.tree [] ((done ++ last ∷ []) ++ left) spl m done last left (decisions_of last) is refl un) h in
      exact_by facts s limit ((done ++ last ∷ []) ++ left) spl h good (inr (record {
        done = done;
        last = last;
        left = left;
        joined = refl;
        tried = tried;
        count = count;
        untried = un;
        some = some;
        exactly = λ ds. (
          λ k. let l = cut.only ds k in record { parent = l.parent; taken = l.taken; rest = l.rest; other = l.other; along = l.along; is = l.is; offered = l.offered; later = l.later },
          λ k. cut.all ds (record { parent = k.parent; taken = k.taken; rest = k.rest; other = k.other; along = k.along; is = k.is; offered = k.offered; later = k.later }),
        );
      }))
