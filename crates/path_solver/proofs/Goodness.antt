-- The bounds of the cases of a formula are between its symbols, and their numbers are small.
use Rattle.std.proofs.Common.{◌≡◌, ℕ, zero, suc, ◌+◌, ◌%◌, ◌^◌, ◌<◌, ◌≤◌, ℤ, pos, Bool, true, false, cond, nat_eq, List, [], ◌∷◌, ◌++◌, map, Option, Some, None, arith}
use Rattle.std.specs.Prelude.{neg_ℤ, ◌-ℤ◌, ◌≤ℤ◌, option_to_list}
use Rattle.std.proofs.lemmas.Int.{ints}
use Rattle.std.proofs.Math.Pow.{pow_mono}
use Rattle.sn_width.specs.declared.ids.SymId.{SymId}
use Rattle.sn_width.specs.declared.rel.Rel.{Rel}
use Rattle.sn_width.specs.declared.rel.Rel.TheVariants.{Eq, Ne, Lt, Le, Gt, Ge}
use Rattle.sn_ranges.specs.Ranges.{Range}
use Rattle.lin_term.specs.Terms.{LinearTerm}
use Rattle.path_formula.specs.Bounds.{Case}
use Rattle.path_formula.specs.Cases.{range_case, single_cases, with_bounds, joined}
use Rattle.path_formula.specs.Pairs.{regions_of, list_of, weak_bound, strict_bound, relation_cases, in_regions, region_cases, row_cases, pair_cases}
use Rattle.sn_ranges.specs.Sets.{with_number, ranges_from, ranges_where}
use Rattle.path_formula.specs.declared.sym_bound.SymBound.{SymBound}
use Rattle.path_solver.specs.Bounds.{IsBetween, AreBetween, EachAreBetween}

pub between_append : (test : SymId → Bool) (xs ys : Case) → AreBetween test xs → AreBetween test ys → AreBetween test (xs ++ ys)
between_append test [] ys h g = g
between_append test (x ∷ xs) ys h g = (h.0, between_append test xs ys h.1 g)

pub each_append : (test : SymId → Bool) (xs ys : List Case) → EachAreBetween test xs → EachAreBetween test ys
    → EachAreBetween test (xs ++ ys)
each_append test [] ys h g = g
each_append test (x ∷ xs) ys h g = (h.0, each_append test xs ys h.1 g)

pub each_with : (test : SymId → Bool) (cases : List Case) (bounds : Case) → AreBetween test bounds
    → EachAreBetween test cases → EachAreBetween test (with_bounds cases bounds)
each_with test [] bounds h g = tt
each_with test (c ∷ cases) bounds h g = (between_append test bounds c h g.0, each_with test cases bounds h g.1)

pub each_joined : (test : SymId → Bool) (xs ys : List Case) → EachAreBetween test xs → EachAreBetween test ys
    → EachAreBetween test (joined xs ys)
each_joined test [] ys h g = tt
each_joined test (x ∷ xs) ys h g =
    each_append test (with_bounds ys x) (joined xs ys) (each_with test ys x h.0 g) (each_joined test xs ys h.1 g)

-- both ends of each range are below the limit
abbrev pub AreUnder : ℕ → List Range → Type 0
AreUnder limit [] = Unit {0}
AreUnder limit (r ∷ ranges) = (r.0 < limit) × (r.1 < limit) × AreUnder limit ranges

number_under : (limit n : ℕ) (r : Range) (rest : List Range) (b : Bool) → n < limit → AreUnder limit (r ∷ rest)
    → AreUnder limit (cond b ((n, r.1) ∷ rest) ((n, n) ∷ r ∷ rest))
number_under limit n r rest true lt h = (lt, h.1, h.2)
number_under limit n r rest false lt h = (lt, lt, h)

with_number_under : (limit n : ℕ) (ranges : List Range) → n < limit → AreUnder limit ranges
    → AreUnder limit (with_number n ranges)
with_number_under limit n [] lt h = (lt, lt, tt)
with_number_under limit n (r ∷ rest) lt h = number_under limit n r rest (nat_eq r.0 (suc n)) lt h

chosen_under : (limit n : ℕ) (ranges : List Range) (b : Bool) → n < limit → AreUnder limit ranges
    → AreUnder limit (cond b (with_number n ranges) ranges)
chosen_under limit n ranges true lt h = with_number_under limit n ranges lt h
chosen_under limit n ranges false lt h = h

from_under : (test : ℕ → Bool) (limit first count : ℕ) → first + count ≤ limit → AreUnder limit (ranges_from test first count)
unfolding ranges_from
from_under test limit first zero h = tt
from_under test limit first (suc count) h =
    chosen_under limit first (ranges_from test (suc first) count) (test first) (omega arith)
    (from_under test limit (suc first) count (omega arith))

pub ranges_under : (width : ℕ) (test : ℕ → Bool) → AreUnder (2 ^ width) (ranges_where width test)
unfolding ranges_where
ranges_under width test = from_under test (2 ^ width) 0 (2 ^ width) (omega arith)

pub limit_of : (width : ℕ) → width ≤ 64 → 2 ^ width ≤ 2 ^ 64
limit_of width h = pow_mono h

lower_between : (test : SymId → Bool) (s : SymId) (n limit : ℕ) → limit ≤ 2 ^ 64 → n < limit → test s ≡ true
    → IsBetween test (record { plus = None; minus = Some s; at_most = neg_ℤ (pos n) })
lower_between test s n limit small lt h =
    record { plus = tt; minus = h; some = tt; at_least = omega (arith, ints); at_most = omega (arith, ints) }

upper_between : (test : SymId → Bool) (s : SymId) (n limit : ℕ) → limit ≤ 2 ^ 64 → n < limit → test s ≡ true
    → IsBetween test (record { plus = Some s; minus = None; at_most = pos n })
upper_between test s n limit small lt h =
    record { plus = h; minus = tt; some = tt; at_least = omega (arith, ints); at_most = omega (arith, ints) }

range_between : (test : SymId → Bool) (s : SymId) (ranges : List Range) (limit : ℕ) → limit ≤ 2 ^ 64 → test s ≡ true
    → AreUnder limit ranges → EachAreBetween test (map (range_case s) ranges)
range_between test s [] limit small h under = tt
range_between test s (r ∷ ranges) limit small h under = (
  (lower_between test s r.0 limit small under.0 h, (upper_between test s r.1 limit small under.1 h, tt)),
  range_between test s ranges limit small h under.2,
)

pub single_between : (test : SymId → Bool) (s : SymId) (width : ℕ) (passes : ℕ → Bool) → width ≤ 64 → test s ≡ true
    → EachAreBetween test (single_cases s width passes)
single_between test s width passes narrow h =
    range_between test s (ranges_where width passes) (2 ^ width) (limit_of width narrow) h (ranges_under width passes)

-- the number is between -2^64 and 2^64
record IsSmall (z : ℤ) : Type 0 where
  pub at_least : neg_ℤ (pos (2 ^ 64)) ≤ℤ z
  pub at_most : z ≤ℤ pos (2 ^ 64)

difference_between : (test : SymId → Bool) (s r : SymId) (o u k : ℤ) → test s ≡ true → test r ≡ true → IsSmall o
    → IsSmall u → IsSmall k → IsBetween test (record { plus = Some s; minus = Some r; at_most = (u -ℤ o) -ℤ k })
difference_between test s r o u k h g x y z =
    let a =
    x.at_least in let b = x.at_most in let c = y.at_least in let d = y.at_most in let e = z.at_least in
    let f = z.at_most in
    record { plus = h; minus = g; some = tt; at_least = omega (arith, ints); at_most = omega (arith, ints) }

weak_between : (test : SymId → Bool) (s r : SymId) (o u : ℤ) → test s ≡ true → test r ≡ true → IsSmall o → IsSmall u
    → IsBetween test (record { plus = Some s; minus = Some r; at_most = u -ℤ o })
weak_between test s r o u h g x y =
    let a = x.at_least in let b = x.at_most in let c = y.at_least in let d = y.at_most in
    record { plus = h; minus = g; some = tt; at_least = omega (arith, ints); at_most = omega (arith, ints) }

one_is_small : IsSmall (pos 1)
one_is_small = record { at_least = omega (arith, ints); at_most = omega (arith, ints) }

relation_between : (test : SymId → Bool) (rel : Rel) (s r : SymId) (bs br : Option SymBound) (o u : ℤ) → test s ≡ true
    → test r ≡ true → IsSmall o → IsSmall u
    → EachAreBetween test (relation_cases rel (record { symbol = s; bound = bs; offset = o })
    (record { symbol = r; bound = br; offset = u }))
unfolding weak_bound strict_bound
relation_between test Lt s r bs br o u h g x y = ((difference_between test s r o u (pos 1) h g x y one_is_small, tt), tt)
relation_between test Le s r bs br o u h g x y = ((weak_between test s r o u h g x y, tt), tt)
relation_between test Gt s r bs br o u h g x y = ((difference_between test r s u o (pos 1) g h y x one_is_small, tt), tt)
relation_between test Ge s r bs br o u h g x y = ((weak_between test r s u o g h y x, tt), tt)
relation_between test Eq s r bs br o u h g x y =
    ((weak_between test s r o u h g x y, (weak_between test r s u o g h y x, tt)), tt)
relation_between test Ne s r bs br o u h g x y = (
  (difference_between test s r o u (pos 1) h g x y one_is_small, tt),
  ((difference_between test r s u o (pos 1) g h y x one_is_small, tt), tt),
)

in_regions_between : (test : SymId → Bool) (s r : SymId) (bs br : Option SymBound) (o u : ℤ) (cases : List Case)
    → AreBetween test (option_to_list bs) → AreBetween test (option_to_list br) → EachAreBetween test cases
    → EachAreBetween test (map (in_regions (record { symbol = s; bound = bs; offset = o })
    (record { symbol = r; bound = br; offset = u })) cases)
in_regions_between test s r bs br o u [] h g e = tt
in_regions_between test s r bs br o u (c ∷ cases) h g e = (
  between_append test (option_to_list bs) (option_to_list br ++ c) h (between_append test (option_to_list br) c g e.0),
  in_regions_between test s r bs br o u cases h g e.1,
)

-- a region: a symbol that passes the test, a bound on it, and an offset
record IsRegion (test : SymId → Bool) (s : SymId) (b : Option SymBound) (o : ℤ) : Type 0 where
  pub symbol : test s ≡ true
  pub bound : AreBetween test (option_to_list b)
  pub offset : IsSmall o

region_between : (test : SymId → Bool) (rel : Rel) (s r : SymId) (bs br : Option SymBound) (o u : ℤ)
    → IsRegion test s bs o → IsRegion test r br u
    → EachAreBetween test (region_cases rel (record { symbol = s; bound = bs; offset = o })
    (record { symbol = r; bound = br; offset = u }))
region_between test rel s r bs br o u h g =
    in_regions_between test s r bs br o u
    (relation_cases rel (record { symbol = s; bound = bs; offset = o })
    (record { symbol = r; bound = br; offset = u }))
    h.bound g.bound (relation_between test rel s r bs br o u h.symbol g.symbol h.offset g.offset)

small_low : (all c : ℕ) → all ≤ 2 ^ 64 → c < all → IsSmall (pos c)
small_low all c small lt = record { at_least = omega (arith, ints); at_most = omega (arith, ints) }

small_high : (all c : ℕ) → all ≤ 2 ^ 64 → c < all → IsSmall (pos c -ℤ pos all)
small_high all c small lt = record { at_least = omega (arith, ints); at_most = omega (arith, ints) }

whole_region : (test : SymId → Bool) (s : SymId) (all c : ℕ) → all ≤ 2 ^ 64 → c < all → test s ≡ true
    → IsRegion test s None (pos c)
whole_region test s all c small lt h = record { symbol = h; bound = tt; offset = small_low all c small lt }

below_region : (test : SymId → Bool) (s : SymId) (all c : ℕ) → all ≤ 2 ^ 64 → c < all → test s ≡ true
    → IsRegion test s (Some (record { plus = Some s; minus = None; at_most = (pos all -ℤ pos c) -ℤ pos 1 })) (pos c)
below_region test s all c small lt h =
    record {
      symbol = h;
      bound = (
        record {
          plus = h;
          minus = tt;
          some = tt;
          at_least = omega (arith, ints);
          at_most = omega (arith, ints);
        },
        tt,
      );
      offset = small_low all c small lt;
    }

above_region : (test : SymId → Bool) (s : SymId) (all c : ℕ) → all ≤ 2 ^ 64 → c < all → test s ≡ true
    → IsRegion test s (Some (record { plus = None; minus = Some s; at_most = pos c -ℤ pos all })) (pos c -ℤ pos all)
above_region test s all c small lt h =
    record {
      symbol = h;
      bound = (
        record {
          plus = tt;
          minus = h;
          some = tt;
          at_least = omega (arith, ints);
          at_most = omega (arith, ints);
        },
        tt,
      );
      offset = small_high all c small lt;
    }

-- the cases with the first symbol in one region, whatever the regions of the second are
row_by : (test : SymId → Bool) (rel : Rel) (s : SymId) (bs : Option SymBound) (o : ℤ) (r : SymId) (all c : ℕ) (b : Bool)
    → IsRegion test s bs o → all ≤ 2 ^ 64 → c < all → test r ≡ true
    → EachAreBetween test (row_cases rel
    (record {
      symbol = r;
      bound = cond b None
          (Some (record { plus = Some r; minus = None; at_most = (pos all -ℤ pos c) -ℤ pos 1 }));
      offset = pos c;
    }
    ∷ option_to_list (cond b None
    (Some (record {
      symbol = r;
      bound = Some (record { plus = None; minus = Some r; at_most = pos c -ℤ pos all });
      offset = pos c -ℤ pos all;
    }))))
    (record { symbol = s; bound = bs; offset = o }))
row_by test rel s bs o r all c true h small lt g =
    each_append test (region_cases rel (record { symbol = s; bound = bs; offset = o })
    (record { symbol = r; bound = None; offset = pos c })) []
    (region_between test rel s r bs None o (pos c) h (whole_region test r all c small lt g)) tt
row_by test rel s bs o r all c false h small lt g =
    let low : Option SymBound = Some (record { plus = Some r; minus = None; at_most = (pos all -ℤ pos c) -ℤ pos 1 }) in
    let high : Option SymBound = Some (record { plus = None; minus = Some r; at_most = pos c -ℤ pos all }) in
    let lows = region_between test rel s r bs low o (pos c) h (below_region test r all c small lt g) in
    let highs = region_between test rel s r bs high o (pos c -ℤ pos all) h (above_region test r all c small lt g) in
    each_append test (region_cases rel (record { symbol = s; bound = bs; offset = o })
    (record { symbol = r; bound = low; offset = pos c }))
    (region_cases rel (record { symbol = s; bound = bs; offset = o })
    (record { symbol = r; bound = high; offset = pos c -ℤ pos all }) ++ [])
    lows (each_append test (region_cases rel (record { symbol = s; bound = bs; offset = o })
    (record { symbol = r; bound = high; offset = pos c -ℤ pos all })) [] highs tt)

one_up : (w : ℕ) → 1 ≤ 2 ^ w
one_up w = pow_mono {i = 0} {j = w} (omega arith)

constant_fits : (w c : ℕ) → c % 2 ^ w < 2 ^ w
constant_fits w c = let some = one_up w in omega arith

row_between : (test : SymId → Bool) (rel : Rel) (s : SymId) (bs : Option SymBound) (o : ℤ) (r : SymId)
    (term : LinearTerm) → IsRegion test s bs o → term.width ≤ 64 → test r ≡ true
    → EachAreBetween test (row_cases rel (list_of (regions_of r term)) (record { symbol = s; bound = bs; offset = o }))
row_between test rel s bs o r term h narrow g =
    row_by test rel s bs o r (2 ^ term.width) (term.constant % 2 ^ term.width)
    (nat_eq (term.constant % 2 ^ term.width) 0) h (limit_of term.width narrow)
    (constant_fits term.width term.constant) g

pair_by : (test : SymId → Bool) (rel : Rel) (s : SymId) (all c : ℕ) (b : Bool) (r : SymId) (term : LinearTerm)
    → all ≤ 2 ^ 64 → c < all → test s ≡ true → term.width ≤ 64 → test r ≡ true
    → EachAreBetween test (pair_cases rel
    (record {
      symbol = s;
      bound = cond b None
          (Some (record { plus = Some s; minus = None; at_most = (pos all -ℤ pos c) -ℤ pos 1 }));
      offset = pos c;
    }
    ∷ option_to_list (cond b None
    (Some (record {
      symbol = s;
      bound = Some (record { plus = None; minus = Some s; at_most = pos c -ℤ pos all });
      offset = pos c -ℤ pos all;
    }))))
    (list_of (regions_of r term)))
pair_by test rel s all c true r term small lt h narrow g =
    each_append test (row_cases rel (list_of (regions_of r term)) (record { symbol = s; bound = None; offset = pos c })) []
    (row_between test rel s None (pos c) r term (whole_region test s all c small lt h) narrow g) tt
pair_by test rel s all c false r term small lt h narrow g =
    let low : Option SymBound = Some (record { plus = Some s; minus = None; at_most = (pos all -ℤ pos c) -ℤ pos 1 }) in
    let high : Option SymBound = Some (record { plus = None; minus = Some s; at_most = pos c -ℤ pos all }) in
    let lows = row_between test rel s low (pos c) r term (below_region test s all c small lt h) narrow g in
    let highs = row_between test rel s high (pos c -ℤ pos all) r term (above_region test s all c small lt h) narrow g in
    each_append test (row_cases rel (list_of (regions_of r term)) (record { symbol = s; bound = low; offset = pos c }))
    (row_cases rel (list_of (regions_of r term)) (record { symbol = s; bound = high; offset = pos c -ℤ pos all }) ++ [])
    lows (each_append test (row_cases rel (list_of (regions_of r term))
    (record { symbol = s; bound = high; offset = pos c -ℤ pos all })) [] highs tt)

pub pair_between : (test : SymId → Bool) (rel : Rel) (s r : SymId) (left right : LinearTerm) → left.width ≤ 64
    → right.width ≤ 64 → test s ≡ true → test r ≡ true
    → EachAreBetween test (pair_cases rel (list_of (regions_of s left)) (list_of (regions_of r right)))
pair_between test rel s r left right narrow slim h g =
    pair_by test rel s (2 ^ left.width) (left.constant % 2 ^ left.width) (nat_eq (left.constant % 2 ^ left.width) 0) r right
    (limit_of left.width narrow) (constant_fits left.width left.constant) h slim g
