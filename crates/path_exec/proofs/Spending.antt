-- The work of records that are made one after another.
use Rattle.std.proofs.Common.{◌≡◌, ℕ, ◌+◌, ◌-◌, ◌<◌, ◌≤◌, ◌==◌, inl, inr, true, false, List, [], ◌∷◌, ◌++◌, sym, ap, ◌∙◌, arith, if◌then◌else◌}
use Rattle.std.proofs.lemmas.Bool.Decides.{nat_tests}
use Rattle.sefl_meaning.specs.declared.walk.Decision.{Decision}
use Rattle.sefl_meaning.specs.Order.{Parts, rank}
use Rattle.exact_records.specs.Records.{RecordTree, decisions_of}
use Rattle.exact_records.specs.Work.{common, count_of, work_after, work_by}
use Rattle.exact_records.proofs.Lists.{last_of, same_first, same_rest}
use Rattle.path_exec.specs.Paying.{Paid}

same_rank : (n m : ℕ) → n ≡ m → (n == m) ≡ true
same_rank n m e = grind (arith, nat_tests)

other_rank : (n m : ℕ) → n < m → (n == m) ≡ false
other_rank n m h = grind (arith, nat_tests)

-- what parts from a list has as much in common with a longer one
common_longer : (ds es rest : List Decision) → Parts ds es → common ds (es ++ rest) ≡ common ds es
common_longer [] es rest h = absurd h
common_longer (d ∷ ds) [] rest h = absurd h
common_longer (d ∷ ds) (e ∷ es) rest (inl h) =
    ap (λ t. if t then d ∷ common ds (es ++ rest) else []) (other_rank (rank d) (rank e) h)
    ∙ sym (ap (λ t. if t then d ∷ common ds es else []) (other_rank (rank d) (rank e) h))
common_longer (d ∷ ds) (e ∷ es) rest (inr h) =
    let same : rank d ≡ rank e = ap rank h.0 in
    ap (λ t. if t then d ∷ common ds (es ++ rest) else []) (same_rank (rank d) (rank e) same)
    ∙ (ap (λ zs. d ∷ zs) (common_longer ds es rest h.1)
    ∙ sym (ap (λ t. if t then d ∷ common ds es else []) (same_rank (rank d) (rank e) same)))

-- and the longer one goes on behind it
common_begins : (ds es : List Decision) → Parts ds es → (c : Decision) × (rest : List Decision) × (es ≡ common ds es ++ c ∷ rest)
common_begins [] es h = absurd h
common_begins (d ∷ ds) [] h = absurd h
common_begins (d ∷ ds) (e ∷ es) (inl h) =
    (e, es, ap (λ t. (if t then d ∷ common ds es else []) ++ e ∷ es) (sym (other_rank (rank d) (rank e) h)))
common_begins (d ∷ ds) (e ∷ es) (inr h) =
    let k = common_begins ds es h.1 in
    let same : rank d ≡ rank e = ap rank h.0 in
    (k.0, k.1, (λ i. sym h.0 i ∷ k.2 i) ∙ ap (λ t. (if t then d ∷ common ds es else []) ++ k.0 ∷ k.1) (sym (same_rank (rank d) (rank e) same)))

module _ {A : Type 0} where
  pub not_snoc : (zs : List A) (a : A) → zs ++ a ∷ [] ≡ [] → ⊥
  not_snoc [] a q = cc
  not_snoc (w ∷ zs) a q = let bad : w ∷ (zs ++ a ∷ []) ≡ [] = q in cc

  pub last_same : (xs ys : List A) (x y : A) → xs ++ x ∷ [] ≡ ys ++ y ∷ [] → x ≡ y
  last_same [] [] x y e = same_first e
  last_same [] (z ∷ ys) x y e = absurd (not_snoc ys y (sym (same_rest e)))
  last_same (z ∷ xs) [] x y e = absurd (not_snoc xs x (same_rest e))
  last_same (z ∷ xs) (w ∷ ys) x y e = last_same xs ys x y (same_rest e)

module _ (at : List Decision → ℕ) where
  after_snoc : (z : RecordTree) (front : List RecordTree) (last x : RecordTree)
      → work_after at z ((front ++ last ∷ []) ++ x ∷ []) ≡ work_after at z (front ++ last ∷ []) + (count_of at x - at (common (decisions_of last) (decisions_of x)))
  after_snoc z [] last x = omega arith
  after_snoc z (y ∷ front) last x = let h = after_snoc y front last x in omega (arith, h)

  work_snoc : (front : List RecordTree) (last x : RecordTree)
      → work_by at ((front ++ last ∷ []) ++ x ∷ []) ≡ work_by at (front ++ last ∷ []) + (count_of at x - at (common (decisions_of last) (decisions_of x)))
  work_snoc [] last x = omega arith
  work_snoc (y ∷ front) last x = let h = after_snoc y front last x in omega (arith, h)

  -- a record more is no less work
  pub more_work : (done : List RecordTree) (x : RecordTree) → work_by at done ≤ work_by at (done ++ x ∷ [])
  more_work done x =
      elim (last_of done) [
        | inl q ↦
            let none : work_by at done ≡ 0 = ap (work_by at) q in
            omega (arith, none)
        | inr q ↦
            let w = work_snoc q.0 q.1 x in
            let d : work_by at (done ++ x ∷ []) ≡ work_by at ((q.0 ++ q.1 ∷ []) ++ x ∷ []) = ap (λ xs. work_by at (xs ++ x ∷ [])) q.2 in
            let f : work_by at done ≡ work_by at (q.0 ++ q.1 ∷ []) = ap (work_by at) q.2 in
            omega (arith, w, d, f)
      ]

  pub paid_first : Paid at [] [] 0 0
  paid_first = record { none_done = λ e. omega arith; some_done = λ front last e. absurd (not_snoc front last (sym e)) }

  -- a node was opened: the first obligation behind it comes next
  pub paid_opened : (done : List RecordTree) (next rest : List Decision) (before begun steps raised : ℕ)
      → ((front : List RecordTree) (last : RecordTree) → done ≡ front ++ last ∷ [] → Parts (decisions_of last) next)
      → steps + before ≡ begun → Paid at done next before raised → Paid at done (next ++ rest) begun (raised + steps)
  paid_opened done next rest before begun steps raised apart e h = record {
    none_done = λ q. let k = h.none_done q in omega (arith, e, k);
    some_done = λ front last q.
        let k = h.some_done front last q in
        let c : at (common (decisions_of last) (next ++ rest)) ≡ at (common (decisions_of last) next) = ap at (common_longer (decisions_of last) next rest (apart front last q)) in
        omega (arith, e, k, c);
  }

  -- a record was made of it: what was raised is within the work of the records, whatever comes next
  pub paid_made : (done : List RecordTree) (next : List Decision) (before steps raised : ℕ) (x : RecordTree)
      → ((front : List RecordTree) (last : RecordTree) → done ≡ front ++ last ∷ [] → Parts (decisions_of last) next)
      → decisions_of x ≡ next → steps + before ≡ count_of at x → Paid at done next before raised → raised + steps ≤ work_by at (done ++ x ∷ [])
  paid_made done next before steps raised x apart same e h =
      elim (last_of done) [
        | inl q ↦
            let k = h.none_done q in
            let w : work_by at (done ++ x ∷ []) ≡ work_by at (x ∷ []) = ap (λ xs. work_by at (xs ++ x ∷ [])) q in
            omega (arith, e, k, w)
        | inr q ↦
            let k = h.some_done q.0 q.1 q.2 in
            let c : at (common (decisions_of q.1) (decisions_of x)) ≡ at (common (decisions_of q.1) next) = ap (λ zs. at (common (decisions_of q.1) zs)) same in
            let w = work_snoc q.0 q.1 x in
            let d : work_by at (done ++ x ∷ []) ≡ work_by at ((q.0 ++ q.1 ∷ []) ++ x ∷ []) = ap (λ xs. work_by at (xs ++ x ∷ [])) q.2 in
            let f : work_by at done ≡ work_by at (q.0 ++ q.1 ∷ []) = ap (work_by at) q.2 in
            omega (arith, e, k, c, w, d, f)
      ]

  -- so it is before the next obligation, where no more had begun anywhere on the way to it than before it
  pub paid_next : (done : List RecordTree) (x : RecordTree) (next : List Decision) (before raised : ℕ) → Parts (decisions_of x) next
      → ((p : List Decision) (d : Decision) (rest : List Decision) → next ≡ p ++ d ∷ rest → at p ≤ before) → raised ≤ work_by at (done ++ x ∷ []) → Paid at (done ++ x ∷ []) next before raised
  paid_next done x next before raised apart grown h = record {
    none_done = λ q. absurd (not_snoc done x q);
    some_done = λ front last q.
        let same = last_same done front x last q in
        let k = common_begins (decisions_of x) next apart in
        let g = grown (common (decisions_of x) next) k.0 k.1 k.2 in
        let c : at (common (decisions_of last) next) ≡ at (common (decisions_of x) next) = ap (λ (y : RecordTree). at (common (decisions_of y) next)) (sym same) in
        omega (arith, h, g, c);
  }
