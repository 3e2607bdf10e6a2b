-- Whether decisions come next, from where they part.
use Rattle.std.proofs.Common.{IsTrue, false, true≢false, ◌≡◌, ◌∙◌, ◌<◌, ◌≤◌, ◌+◌, ℕ, zero, suc, inl, inr, List, [], ◌∷◌, ◌++◌, drop, length, take, refl, sym, ap, subst, append_assoc, arith, Option, None, Some, slice_get}
use Rattle.std.proofs.lemmas.List.{length-append}
use Rattle.std.specs.List.{AllByRecursion}
use Rattle.sefl_meaning.specs.declared.walk.Decision.{Decision}
use Rattle.sefl_meaning.specs.Order.{BeginsWith, rank}
use Rattle.exact_records.specs.Records.{SymStart}
use Rattle.exact_records.proofs.Lists.{append_nil, last_of, same_first, same_rest}
use Rattle.whole_checks.specs.Chains.{AllLast, ComesNext, IsFirst, IsLast, IsNext}
use Rattle.whole_checks.specs.Settling.{AreSharedAt, IsSettled}
use Rattle.whole_checks.proofs.Chained.{last_along}

-- ---- places in lists

-- the second list begins with the first
abbrev pub BeginsIn : {A : Type 0} → List A → List A → Type 0
BeginsIn {A} xs ys = (rest : List A) × (xs ++ rest ≡ ys)

module _ {A : Type 0} where
  -- a member with what stands before it and behind it
  pub record Split (xs : List A) (at : ℕ) (x : A) : Type 0 where
    pub front : List A
    pub later : List A
    pub is : xs ≡ front ++ x ∷ later
    pub counted : length front ≡ at

  pub split_at : (xs : List A) (at : ℕ) (x : A) → slice_get xs at ≡ Some x → Split xs at x
  split_at [] at x e = absurd (cc)
  split_at (y ∷ xs) zero x e = record { front = []; later = xs; is = (let same : y ≡ x = cc in ap (λ z. z ∷ xs) same); counted = refl }
  split_at (y ∷ xs) (suc n) x e =
      let s = split_at xs n x e in
      record { front = y ∷ s.front; later = s.later; is = ap (λ zs. y ∷ zs) s.is; counted = ap suc s.counted }

  pub got_there : (front : List A) (x : A) (later : List A) (at : ℕ) → length front ≡ at → slice_get (front ++ x ∷ later) at ≡ Some x
  got_there [] x later zero e = refl
  got_there [] x later (suc n) e = absurd (omega (arith, e))
  got_there (y ∷ front) x later zero e = absurd (omega (arith, e))
  got_there (y ∷ front) x later (suc n) e = got_there front x later n (omega (arith, e))

  pub dropped : (front : List A) (x : A) (later : List A) (at : ℕ) → length front ≡ at → drop (at + 1) (front ++ x ∷ later) ≡ later
  dropped front x later at e = let more : at + 1 ≡ suc at = omega arith in ap (λ n. drop n (front ++ x ∷ later)) more ∙ by front at e
    where
      by : (front : List A) (at : ℕ) → length front ≡ at → drop (suc at) (front ++ x ∷ later) ≡ later
      by [] zero e = refl
      by [] (suc n) e = absurd (omega (arith, e))
      by (y ∷ front) zero e = absurd (omega (arith, e))
      by (y ∷ front) (suc n) e = by front n (omega (arith, e))

  taken_front : (front rest : List A) (at : ℕ) → length front ≡ at → take at (front ++ rest) ≡ front
  taken_front [] rest zero e = refl
  taken_front [] rest (suc n) e = absurd (omega (arith, e))
  taken_front (y ∷ front) rest zero e = absurd (omega (arith, e))
  taken_front (y ∷ front) rest (suc n) e = ap (λ zs. y ∷ zs) (taken_front front rest n (omega (arith, e)))

  same_front : (xs ys us vs : List A) → length xs ≡ length ys → xs ++ us ≡ ys ++ vs → xs ≡ ys
  same_front [] [] us vs l e = refl
  same_front [] (y ∷ ys) us vs l e = absurd (omega (arith, l))
  same_front (x ∷ xs) [] us vs l e = absurd (omega (arith, l))
  same_front (x ∷ xs) (y ∷ ys) us vs l e = λ i. same_first e i ∷ same_front xs ys us vs (omega (arith, l)) (same_rest e) i

  -- of two fronts of one list the longer one begins with the shorter one
  longer_front : (xs ys us vs : List A) → xs ++ us ≡ ys ++ vs → length xs ≤ length ys → (zs : List A) × (ys ≡ xs ++ zs) × (us ≡ zs ++ vs)
  longer_front [] ys us vs e l = (ys, refl, e)
  longer_front (x ∷ xs) [] us vs e l = absurd (omega (arith, l))
  longer_front (x ∷ xs) (y ∷ ys) us vs e l =
      let k = longer_front xs ys us vs (same_rest e) (omega (arith, l)) in
      (k.0, (λ i. sym (same_first e) i ∷ k.1 i), k.2)

  pub got_within : (xs : List A) (n : ℕ) (x : A) → slice_get xs n ≡ Some x → n < length xs
  got_within [] n x e = absurd (cc)
  got_within (y ∷ xs) zero x e = omega arith
  got_within (y ∷ xs) (suc n) x e = let less = got_within xs n x e in omega (arith, less)

  -- one more is shared
  pub share_more : (xs ys : List A) (n : ℕ) (d : A) → slice_get xs n ≡ Some d → slice_get ys n ≡ Some d → BeginsIn (take n xs) ys → BeginsIn (take (n + 1) xs) ys
  share_more xs ys n d h k b = let more : suc n ≡ n + 1 = omega arith in subst (λ m. BeginsIn (take m xs) ys) more (by xs ys n h k b)
    where
      by : (xs ys : List A) (n : ℕ) → slice_get xs n ≡ Some d → slice_get ys n ≡ Some d → BeginsIn (take n xs) ys → BeginsIn (take (suc n) xs) ys
      by [] ys n h k b = absurd (cc)
      by (x ∷ xs) [] n h k b = absurd (cc)
      by (x ∷ xs) (y ∷ ys) zero h k b = (ys, (let same : x ≡ y = cc in ap (λ z. z ∷ ys) same))
      by (x ∷ xs) (y ∷ ys) (suc n) h k b =
          let m = by xs ys n h k (b.0, same_rest b.1) in
          (m.0, λ i. same_first b.1 i ∷ m.1 i)

  -- where two lists part is one place
  pub part_there : (p : List A) (c d : A) (xs ys : List A) (at : ℕ) → (c ≡ d → ⊥) → (rest : List A) → take at (p ++ c ∷ xs) ++ rest ≡ p ++ d ∷ ys
      → ((z : A) → slice_get (p ++ c ∷ xs) at ≡ Some z → slice_get (p ++ d ∷ ys) at ≡ Some z → ⊥) → length p ≡ at
  part_there [] c d xs ys zero other rest e part = refl
  part_there [] c d xs ys (suc n) other rest e part = absurd (other (same_first e))
  part_there (z ∷ p) c d xs ys zero other rest e part = absurd (part z refl refl)
  part_there (z ∷ p) c d xs ys (suc n) other rest e part = ap suc (part_there p c d xs ys n other rest (same_rest e) part)

not_same : (c d : Decision) → IsNext c d → c ≡ d → ⊥
not_same c d next e = let same : rank c ≡ rank d = ap rank e in omega (arith, next, same)

module _ (s : SymStart) where
  last_further : (p xs ys : List Decision) → AllLast s p (xs ++ ys) → AllLast s (p ++ xs) ys
  last_further p [] ys h = subst (λ q. AllLast s q ys) (sym (append_nil p)) h
  last_further p (x ∷ xs) ys h = subst (λ q. AllLast s q ys) (append_assoc p (x ∷ []) xs) (last_further (p ++ x ∷ []) xs ys h.1)

  module _ (es ds : List Decision) (k at : ℕ) (settled : IsSettled s es k) where
    pub next_from : (c d : Decision) → slice_get es at ≡ Some c → slice_get ds at ≡ Some d → BeginsWith (take at es) ds → k ≤ at + 1 → IsNext c d
        → AllByRecursion IsFirst (drop (at + 1) ds) → ComesNext s es ds
    next_from c d there other begins few next first =
        let a = split_at es at c there in
        let b = split_at ds at d other in
        let begun : take at es ≡ a.front = ap (take at) a.is ∙ taken_front a.front (c ∷ a.later) at a.counted in
        let same : b.front ≡ a.front =
        same_front b.front a.front (d ∷ b.later) begins.0 (b.counted ∙ sym a.counted) (sym b.is ∙ (sym begins.1 ∙ ap (λ zs. zs ++ begins.0) begun)) in
        let whole : settled.front ++ settled.back ≡ (a.front ++ c ∷ []) ++ a.later = sym settled.is ∙ (a.is ∙ sym (append_assoc a.front (c ∷ []) a.later)) in
        let long : length (a.front ++ c ∷ []) ≡ at + 1 = length-append a.front (c ∷ []) ∙ ap (λ n. n + 1) a.counted in
        let short : length settled.front ≤ length (a.front ++ c ∷ []) = let m = settled.counted in omega (arith, few, long, m) in
        let more = longer_front settled.front (a.front ++ c ∷ []) settled.back a.later whole short in
        record {
          parent = a.front;
          taken = c;
          later = a.later;
          other = d;
          rest = b.later;
          before = a.is;
          is = b.is ∙ ap (λ zs. zs ++ d ∷ b.later) same;
          next = next;
          last = subst (λ q. AllLast s q a.later) (sym more.1) (last_further settled.front more.0 a.later (subst (AllLast s settled.front) more.2 settled.last));
          first = subst (AllByRecursion IsFirst) (ap (drop (at + 1)) b.is ∙ dropped b.front d b.later at b.counted) first;
        }

    module _ (begins : BeginsWith (take at es) ds) (part : AreSharedAt es ds at → ⊥) (n : ComesNext s es ds) where
      place_is : length n.parent ≡ at
      place_is =
          part_there n.parent n.taken n.other n.later n.rest at (not_same n.taken n.other n.next) begins.0
          (ap (λ zs. take at zs ++ begins.0) (sym n.before) ∙ (begins.1 ∙ n.is))
          (λ z h k. part (z, subst (λ zs. slice_get zs at ≡ Some z) (sym n.before) h, subst (λ zs. slice_get zs at ≡ Some z) (sym n.is) k))

      pub one_there : slice_get es at ≡ Some n.taken
      one_there = ap (λ zs. slice_get zs at) n.before ∙ got_there n.parent n.taken n.later at place_is

      pub other_there : slice_get ds at ≡ Some n.other
      other_there = ap (λ zs. slice_get zs at) n.is ∙ got_there n.parent n.other n.rest at place_is

      pub rest_first : AllByRecursion IsFirst (drop (at + 1) ds)
      rest_first = subst (AllByRecursion IsFirst) (sym (ap (drop (at + 1)) n.is ∙ dropped n.parent n.other n.rest at place_is)) n.first

      pub few_open : at + 1 < k → ⊥
      few_open many =
          let long : length (n.parent ++ n.taken ∷ []) ≡ at + 1 = length-append n.parent (n.taken ∷ []) ∙ ap (λ m. m + 1) place_is in
          let whole : (n.parent ++ n.taken ∷ []) ++ n.later ≡ settled.front ++ settled.back =
          append_assoc n.parent (n.taken ∷ []) n.later ∙ (sym n.before ∙ settled.is) in
          let m = settled.counted in
          let more = longer_front (n.parent ++ n.taken ∷ []) settled.front n.later settled.back whole (omega (arith, long, m, many)) in
          elim (last_of more.0) [
            | inl none ↦
                let short : length settled.front ≡ at + 1 = ap length (more.1 ∙ (ap (λ zs. (n.parent ++ n.taken ∷ []) ++ zs) none ∙ append_nil (n.parent ++ n.taken ∷ []))) ∙ long in
                omega (arith, short, m, many)
            | inr y ↦
                let front : settled.front ≡ ((n.parent ++ n.taken ∷ []) ++ y.0) ++ y.1 ∷ [] =
                more.1 ∙ (ap (λ zs. (n.parent ++ n.taken ∷ []) ++ zs) y.2 ∙ sym (append_assoc (n.parent ++ n.taken ∷ []) y.0 (y.1 ∷ []))) in
                let later : n.later ≡ y.0 ++ y.1 ∷ settled.back = more.2 ∙ (ap (λ zs. zs ++ settled.back) y.2 ∙ append_assoc y.0 (y.1 ∷ []) settled.back) in
                settled.more ((n.parent ++ n.taken ∷ []) ++ y.0) y.1 front
                (last_along s (n.parent ++ n.taken ∷ []) y.0 y.1 settled.back (subst (AllLast s (n.parent ++ n.taken ∷ [])) later n.last))
          ]

  -- none has a later one beside it where all are settled
  pub settled_ends : (ds : List Decision) (k : ℕ) → IsSettled s ds k → k ≡ 0 → AllLast s [] ds
  settled_ends ds k settled e = by settled.front refl
    where
      by : (front : List Decision) → front ≡ settled.front → AllLast s [] ds
      by [] is =
          subst (AllLast s []) (ap (λ zs. zs ++ settled.back) is ∙ sym settled.is) (subst (λ q. AllLast s q settled.back) (sym is) settled.last)
      by (z ∷ front) is = absurd (let long : length (z ∷ front) ≡ k = ap length is ∙ settled.counted in omega (arith, long, e))

  pub ends_settled : (ds : List Decision) (k : ℕ) → IsSettled s ds k → AllLast s [] ds → k ≡ 0
  ends_settled ds k settled ends =
      elim (last_of settled.front) [
        | inl none ↦ sym settled.counted ∙ ap length none
        | inr y ↦
            let whole : ds ≡ y.0 ++ y.1 ∷ settled.back = settled.is ∙ (ap (λ zs. zs ++ settled.back) y.2 ∙ append_assoc y.0 (y.1 ∷ []) settled.back) in
            absurd (settled.more y.0 y.1 y.2 (last_along s [] y.0 y.1 settled.back (subst (AllLast s []) whole ends)))
      ]

none_some : {A : Type 0} (x : Option A) (y : A) → x ≡ None → x ≡ Some y → ⊥
none_some x y h k = cc

some_same : {A : Type 0} (x : Option A) (y z : A) → x ≡ Some y → x ≡ Some z → y ≡ z
some_same x y z h k = cc

pub not_so : {X : Type 0} → IsTrue false → X
not_so h = absurd (true≢false (sym h))

-- why decisions do not come next
module _ (s : SymStart) (es ds : List Decision) (k at : ℕ) (settled : IsSettled s es k) (begins : BeginsWith (take at es) ds) (part : AreSharedAt es ds at → ⊥) where
  pub none_of_one : slice_get es at ≡ None → ComesNext s es ds → ⊥
  none_of_one none n = none_some (slice_get es at) n.taken none (one_there s es ds k at settled begins part n)

  pub none_of_other : slice_get ds at ≡ None → ComesNext s es ds → ⊥
  none_of_other none n = none_some (slice_get ds at) n.other none (other_there s es ds k at settled begins part n)

  pub next_of_both : (c d : Decision) → slice_get es at ≡ Some c → slice_get ds at ≡ Some d → ComesNext s es ds → IsNext c d
  next_of_both c d one other n =
      let first = some_same (slice_get es at) n.taken c (one_there s es ds k at settled begins part n) one in
      let second = some_same (slice_get ds at) n.other d (other_there s es ds k at settled begins part n) other in
      subst (λ (x : Decision). IsNext x d) first (subst (IsNext n.taken) second n.next)
