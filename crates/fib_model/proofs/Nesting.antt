-- In order of their addresses and lengths, the last row that contains an address is the longest.
use Rattle.std.proofs.Common.{◌≡◌, ◌∙◌, refl, sym, ap, subst, ℕ, suc, ◌+◌, ◌-◌, ◌*◌, ◌^◌, ◌≤◌, ◌<◌, ◌⊎◌, inl, inr, nat_lt, Bool, true, false, if◌then◌else◌, List, [], ◌∷◌, Option, None, Some, arith, true≢false}
use Rattle.std.specs.List.{AllByRecursion}
use Rattle.std.proofs.Math.Nat.{mul-le-mul_right}
use Rattle.std.proofs.lemmas.Nat.{pow-add}
use Rattle.std.proofs.lemmas.Bool.{cases_lt}
use Rattle.std.proofs.lemmas.Bool.Decides.{nat_tests}
use Rattle.fib_model.specs.Prefixes.{Row, size, contains, IsRow, longer, longest, order_key, InOrder, last_row, Has, IsBest, Distinct, LongestFirst, first_row}

-- ---- multiples

one_more : (k s : ℕ) → suc k * s ≡ k * s + s
one_more k s = grind arith

-- no multiple lies strictly between two neighbors
no_multiple : (s k j : ℕ) → k * s < j * s → j * s < k * s + s → ⊥
no_multiple s k j above below = by (cases_lt k j)
  where
    by : (k < j) ⊎ (j ≤ k) → ⊥
    by (inl lt) = let h : suc k * s ≤ j * s = mul-le-mul_right s lt in absurd (omega (arith, one_more k s, h, below))
    by (inr ge) = let h : j * s ≤ k * s = mul-le-mul_right s ge in absurd (omega (arith, h, above))

-- a longer prefix's size divides a shorter one's
divides : (r f : Row) → r.1 ≤ f.1 → f.1 ≤ 32 → size r ≡ 2 ^ (f.1 - r.1) * size f
divides r f le fits =
    let e : 32 - r.1 ≡ (f.1 - r.1) + (32 - f.1) = omega (arith, le, fits) in
    ap (λ n. 2 ^ n) e ∙ pow-add 2 (f.1 - r.1) (32 - f.1)

inside : (r : Row) (a : ℕ) → contains r a ≡ true → (r.0 ≤ a) × (a < r.0 + size r)
inside r a h = (grind (arith, nat_tests, h), grind (arith, nat_tests, h))

-- of two rows that contain an address the later one is no shorter
pub later_longer : (f r : Row) (a : ℕ) → IsRow f → IsRow r → order_key f ≤ order_key r → contains f a ≡ true → contains r a ≡ true → f.1 ≤ r.1
later_longer f r a fr rr order hf hr = by (cases_lt r.1 f.1)
  where
    by : (r.1 < f.1) ⊎ (f.1 ≤ r.1) → f.1 ≤ r.1
    by (inr le) = le
    by (inl lt) =
        let inf = inside f a hf in
        let inr' = inside r a hr in
        let above : f.0 < r.0 = omega (arith, order, lt, fr.0, rr.0) in
        let below : r.0 < f.0 + size f = omega (arith, inf.1, inr'.0) in
        let m : r.0 ≡ (rr.1 * 2 ^ (f.1 - r.1)) * size f = rr.2 ∙ ap (λ n. rr.1 * n) (divides r f (omega (arith, lt)) fr.0) ∙ grind arith in
        absurd (no_multiple (size f) fr.1 (rr.1 * 2 ^ (f.1 - r.1)) (omega (arith, above, m, fr.2)) (omega (arith, below, m, fr.2)))

apart : (x y : Row) (a : ℕ) → IsRow x → IsRow y → size x ≡ size y → contains x a ≡ true → contains y a ≡ true → x.0 < y.0 → ⊥
apart x y a xr yr e hx hy lt =
    let inx = inside x a hx in
    let iny = inside y a hy in
    let m : y.0 ≡ yr.1 * size x = yr.2 ∙ ap (λ n. yr.1 * n) (sym e) in
    no_multiple (size x) xr.1 yr.1 (omega (arith, lt, m, xr.2)) (omega (arith, inx.1, iny.0, m, xr.2))

-- two rows of one length that contain an address are one prefix
pub same_prefix : (x y : Row) (a : ℕ) → IsRow x → IsRow y → x.1 ≡ y.1 → contains x a ≡ true → contains y a ≡ true → x.0 ≡ y.0
same_prefix x y a xr yr same hx hy = by (cases_lt x.0 y.0) (cases_lt y.0 x.0)
  where
    by : (x.0 < y.0) ⊎ (y.0 ≤ x.0) → (y.0 < x.0) ⊎ (x.0 ≤ y.0) → x.0 ≡ y.0
    by (inl lt) h = absurd (apart x y a xr yr (ap (λ n. 2 ^ (32 - n)) same) hx hy lt)
    by (inr le) (inl lt) = absurd (apart y x a yr xr (ap (λ n. 2 ^ (32 - n)) (sym same)) hy hx lt)
    by (inr le) (inr ge) = omega (arith, le, ge)

-- ---- the search, and the last row

excluded : (b : Bool) → b ≡ false → b ≡ true → ⊥
excluded b f t = true≢false (sym t ∙ f)

-- what a search of the whole list finds
pub longest_best : (rows : List Row) (a : ℕ) → IsBest rows a (longest rows a)
longest_best [] a = λ x h. absurd h
longest_best (r ∷ rs) a = by (contains r a) refl (longest rs a) (longest_best rs a)
  where
    of_two : (x : Row) → contains r a ≡ true → (b : Bool) → nat_lt r.1 x.1 ≡ b → IsBest rs a (Some x) → IsBest (r ∷ rs) a (Some (if b then x else r))
    of_two x h true less best = (
      inr best.0,
      best.1,
      λ y has yes'. elim has [
        | inl is ↦ subst (λ z. z.1 ≤ x.1) (sym is) (grind (arith, nat_tests, less))
        | inr in' ↦ best.2 y in' yes'
      ],
    )
    of_two x h false less best = (
      inl refl,
      h,
      λ y has yes'. elim has [
        | inl is ↦ (let e : y.1 ≡ r.1 = ap (λ z. z.1) is in omega (arith, e))
        | inr in' ↦ (let e : y.1 ≤ x.1 = best.2 y in' yes' in grind (arith, nat_tests, less, e))
      ],
    )

    by : (b : Bool) → contains r a ≡ b → (found : Option Row) → IsBest rs a found → IsBest (r ∷ rs) a (if b then Some (longer r found) else found)
    by true h None best = (
      inl refl,
      h,
      λ y has yes'. elim has [
        | inl is ↦ subst (λ z. y.1 ≤ z.1) is (omega arith)
        | inr in' ↦ absurd (excluded (contains y a) (best y in') yes')
      ],
    )
    by true h (Some x) best = of_two x h (nat_lt r.1 x.1) refl best
    by false h None best = λ y has. elim has [ inl is ↦ ap (λ z. contains z a) is ∙ h | inr in' ↦ best y in' ]
    by false h (Some x) best = (
      inr best.0,
      best.1,
      λ y has yes'. elim has [
        | inl is ↦ absurd (excluded (contains r a) h (ap (λ z. contains z a) (sym is) ∙ yes'))
        | inr in' ↦ best.2 y in' yes'
      ],
    )

pub member_is : (P : Row → Type 0) (rows : List Row) (x : Row) → AllByRecursion P rows → Has rows x → P x
member_is P [] x all h = absurd h
member_is P (r ∷ rs) x all (inl is) = subst P (sym is) all.0
member_is P (r ∷ rs) x all (inr in') = member_is P rs x all.1 in'

-- one best row
pub one_best : (rows : List Row) (a : ℕ) (x y : Option Row) → AllByRecursion IsRow rows → Distinct rows → IsBest rows a x → IsBest rows a y → x ≡ y
one_best rows a None None rs d bx by' = refl
one_best rows a None (Some y) rs d bx by' = absurd (excluded (contains y a) (bx y by'.0) by'.1)
one_best rows a (Some x) None rs d bx by' = absurd (excluded (contains x a) (by' x bx.0) bx.1)
one_best rows a (Some x) (Some y) rs d bx by' =
    let same : x.1 ≡ y.1 = (let e : x.1 ≤ y.1 = by'.2 x bx.0 bx.1 in let f : y.1 ≤ x.1 = bx.2 y by'.0 by'.1 in omega (arith, e, f)) in
    ap Some (d x y bx.0 by'.0 (same_prefix x y a (member_is IsRow rows x rs bx.0) (member_is IsRow rows y rs by'.0) same bx.1 by'.1) same)

-- where the row found before is no longer than any that comes, if both contain the address
abbrev pub Behind : List Row → ℕ → Option Row → Type 0
Behind rows a None = Unit {0}
Behind rows a (Some f) = (contains f a ≡ true) × ((x : Row) → Has rows x → contains x a ≡ true → f.1 ≤ x.1)

-- what the last row is, with the row found before as one of them
abbrev pub Found : List Row → ℕ → Option Row → Option Row → Type 0
Found rows a None last = IsBest rows a last
Found rows a (Some f) last = IsBest (f ∷ rows) a last

-- the best of some rows is that of others, where each of these that contains the address is no longer than one of those
transfer : (a : ℕ) (xs ys : List Row) (best : Option Row) → ((x : Row) → Has xs x → Has ys x)
    → ((y : Row) → Has ys y → contains y a ≡ true → (z : Row) × Has xs z × (contains z a ≡ true) × (y.1 ≤ z.1))
    → IsBest xs a best → IsBest ys a best
transfer a xs ys None into up is = λ y has. by y has (contains y a) refl
  where
    by : (y : Row) → Has ys y → (b : Bool) → contains y a ≡ b → b ≡ false
    by y has true h = let u = up y has h in absurd (excluded (contains u.0 a) (is u.0 u.1) u.2)
    by y has false h = refl
transfer a xs ys (Some l) into up is =
    (into l is.0, is.1, λ y has c. let u = up y has c in let e : u.0.1 ≤ l.1 = is.2 u.0 u.1 u.2 in omega (arith, e, u.3))

pub last_best : (rows : List Row) (a : ℕ) (found : Option Row) → AllByRecursion IsRow rows → InOrder rows → Behind rows a found → Found rows a found (last_row rows a found)
last_best [] a None is order behind = λ x h. absurd h
last_best [] a (Some f) is order behind = (inl refl, behind.0, λ x h c. elim h [ inl e ↦ subst (λ z. x.1 ≤ z.1) e (omega arith) | inr n ↦ absurd n ])
last_best (r ∷ rs) a found is order behind =
    by (contains r a) refl (λ next b. last_best rs a next is.1 order.1 b) found behind
  where
    here : contains r a ≡ true → Behind rs a (Some r)
    here h = (h, λ x has c. later_longer r x a is.0 (member_is IsRow rs x is.1 has) (member_is (λ x. order_key r ≤ order_key x) rs x order.0 has) h c)

    by : (b : Bool) → contains r a ≡ b → ((next : Option Row) → Behind rs a next → Found rs a next (last_row rs a next))
        → (found : Option Row) → Behind (r ∷ rs) a found → Found (r ∷ rs) a found (last_row rs a (if b then Some r else found))
    by true h rest None behind = rest (Some r) (here h)
    by true h rest (Some f) behind =
        transfer a (r ∷ rs) (f ∷ r ∷ rs) (last_row rs a (Some r)) (λ x has. inr has)
        (λ y has c. elim has [
          | inl e ↦ (r, inl refl, h, subst (λ z. z.1 ≤ r.1) (sym e) (behind.1 r (inl refl) h))
          | inr in' ↦ (y, in', c, omega arith)
        ]) (rest (Some r) (here h))
    by false h rest None behind =
        transfer a rs (r ∷ rs) (last_row rs a None) (λ x has. inr has)
        (λ y has c. elim has [
          | inl e ↦ absurd (excluded (contains r a) h (ap (λ z. contains z a) (sym e) ∙ c))
          | inr in' ↦ (y, in', c, omega arith)
        ]) (rest None tt)
    by false h rest (Some f) behind =
        transfer a (f ∷ rs) (f ∷ r ∷ rs) (last_row rs a (Some f)) (λ x has. elim has [ inl e ↦ inl e | inr in' ↦ inr (inr in') ])
        (λ y has c. elim has [
          | inl e ↦ (f, inl refl, behind.0, subst (λ z. z.1 ≤ f.1) (sym e) (omega arith))
          | inr more ↦ elim more [
            | inl e ↦ absurd (excluded (contains r a) h (ap (λ z. contains z a) (sym e) ∙ c))
            | inr in' ↦ (y, inr in', c, omega arith)
          ]
        ]) (rest (Some f) (behind.0, λ x has c. behind.1 x (inr has) c))

-- of the rows in order the last one is what the search of the file's rows finds
pub last_is_longest : (rows ordered : List Row) (a : ℕ) → AllByRecursion IsRow rows → AllByRecursion IsRow ordered → Distinct rows → InOrder ordered
    → ((x : Row) → Has rows x → Has ordered x) → ((x : Row) → Has ordered x → Has rows x) → last_row ordered a None ≡ longest rows a
last_is_longest rows ordered a is those distinct order into back =
    one_best rows a (last_row ordered a None) (longest rows a) is distinct
    (transfer a ordered rows (last_row ordered a None) back (λ y has c. (y, into y has, c, omega arith)) (last_best ordered a None those order tt))
    (longest_best rows a)

-- of rows with the longest first, the first one that contains an address is the best
pub first_best : (rows : List Row) (a : ℕ) → LongestFirst rows → IsBest rows a (first_row rows a)
first_best [] a order = λ x h. absurd h
first_best (r ∷ rs) a order = by (contains r a) refl (first_row rs a) (first_best rs a order.1)
  where
    by : (b : Bool) → contains r a ≡ b → (found : Option Row) → IsBest rs a found → IsBest (r ∷ rs) a (if b then Some r else found)
    by true h found best = (
      inl refl,
      h,
      λ y has c. elim has [
        | inl is ↦ subst (λ z. y.1 ≤ z.1) is (omega arith)
        | inr in' ↦ member_is (λ x. x.1 ≤ r.1) rs y order.0 in'
      ],
    )
    by false h None best = λ y has. elim has [ inl is ↦ ap (λ z. contains z a) is ∙ h | inr in' ↦ best y in' ]
    by false h (Some x) best = (
      inr best.0,
      best.1,
      λ y has c. elim has [
        | inl is ↦ absurd (excluded (contains r a) h (ap (λ z. contains z a) (sym is) ∙ c))
        | inr in' ↦ best.2 y in' c
      ],
    )

pub first_is_longest : (rows ordered : List Row) (a : ℕ) → AllByRecursion IsRow rows → Distinct rows → LongestFirst ordered
    → ((x : Row) → Has rows x → Has ordered x) → ((x : Row) → Has ordered x → Has rows x) → first_row ordered a ≡ longest rows a
first_is_longest rows ordered a is distinct order into back =
    one_best rows a (first_row ordered a) (longest rows a) is distinct
    (transfer a ordered rows (first_row ordered a) back (λ y has c. (y, into y has, c, omega arith)) (first_best ordered a order))
    (longest_best rows a)
