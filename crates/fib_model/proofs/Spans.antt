-- Rows in order, as spans.
use Rattle.std.proofs.Common.{◌≡◌, ◌∙◌, refl, ap, ℕ, suc, ◌-◌, ◌^◌, ◌≤◌, ◌<◌, inl, inr, ◌&&◌, nat_le, Bool, true, false, if◌then◌else◌, List, [], ◌∷◌, map, All, Option, None, Some, option_map, IsPermutation, arith}
use Rattle.std.specs.List.{AllByRecursion}
use Rattle.std.specs.List.Sorted.{IsNonDecreasingBy}
use Rattle.std.proofs.lemmas.Nat.{pow_pos}
use Rattle.std.proofs.lemmas.Bool.Decides.{nat_tests}
use Rattle.std.proofs.lemmas.List.Elements.{All-from_recursion, All-map, recursion_from_All}
use Rattle.std.proofs.lemmas.List.Sorted.{All-permutation, IsPermutation-sym}
use Rattle.fib_model.specs.Sweeps.{StartFrom, covers, last_port}
use Rattle.fib_model.specs.Prefixes.{Row, contains, IsRow, order_key, InOrder, last_row, Has, Distinct, fib_port, span_of}
use Rattle.fib_model.proofs.Nesting.{last_is_longest, member_is}

pub same_cover : (r : Row) (a : ℕ) → covers (span_of r) a ≡ contains r a
same_cover r a = let h : 1 ≤ 2 ^ (32 - r.1) = pow_pos (32 - r.1) in ap (λ b. nat_le r.0 a && b) (grind (arith, nat_tests, h))

port_of : Option Row → Option ℕ
port_of found = option_map (λ r. r.2) found

-- the last span that covers an address is that of the last row that contains it
last_spans : (rows : List Row) (a : ℕ) (found : Option Row) → last_port (map span_of rows) a (option_map (λ r. r.2) found) ≡ option_map (λ r. r.2) (last_row rows a found)
last_spans [] a found = refl
last_spans (r ∷ rs) a found =
    ap (λ b. last_port (map span_of rs) a (if b then Some r.2 else option_map (λ r. r.2) found)) (same_cover r a)
    ∙ by (contains r a) (last_spans rs a)
  where
    by : (b : Bool) → ((found : Option Row) → last_port (map span_of rs) a (option_map (λ r. r.2) found) ≡ option_map (λ r. r.2) (last_row rs a found))
        → last_port (map span_of rs) a (if b then Some r.2 else option_map (λ r. r.2) found) ≡ option_map (λ r. r.2) (last_row rs a (if b then Some r else found))
    by true rest = rest (Some r)
    by false rest = rest found

-- ---- order

pub in_order : (rows : List Row) → IsNonDecreasingBy order_key rows → InOrder rows
in_order [] sorted = tt
in_order (r ∷ rs) sorted = (
  recursion_from_All (λ x. order_key r ≤ order_key x) rs (λ k d h. sorted 0 (suc k) d (omega arith) (omega (arith, h))),
  in_order rs (λ i j d le h. sorted (suc i) (suc j) d (omega (arith, le)) (omega (arith, h))),
)

pub starts : (n : ℕ) (rows : List Row) → AllByRecursion (λ r. r.1 ≤ 32) rows → InOrder rows → AllByRecursion (λ r. n ≤ r.0) rows → StartFrom n (map span_of rows)
starts n [] short order least = tt
starts n (r ∷ rs) short order least =
    (least.0, starts r.0 rs short.1 order.1 (later r rs short.0 short.1 order.0))
  where
    later : (r : Row) (rs : List Row) → r.1 ≤ 32 → AllByRecursion (λ r. r.1 ≤ 32) rs → AllByRecursion (λ x. order_key r ≤ order_key x) rs → AllByRecursion (λ x. r.0 ≤ x.0) rs
    later r [] s short order = tt
    later r (x ∷ xs) s short order = (omega (arith, s, short.0, order.0), later r xs s short.1 order.1)

-- ---- members

has_more : (rows : List Row) (r : Row) (xs : List Row) → AllByRecursion (Has rows) xs → AllByRecursion (Has (r ∷ rows)) xs
has_more rows r [] all = tt
has_more rows r (x ∷ xs) all = (inr all.0, has_more rows r xs all.1)

all_had : (rows : List Row) → AllByRecursion (Has rows) rows
all_had [] = tt
all_had (r ∷ rs) = (inl refl, has_more rs r rs (all_had rs))

pub moved : (rows ordered : List Row) → IsPermutation rows ordered → (x : Row) → Has ordered x → Has rows x
moved rows ordered p x has =
    member_is (Has rows) ordered x (recursion_from_All (Has rows) ordered (All-permutation (Has rows) rows ordered p (All-from_recursion (Has rows) rows (all_had rows)))) has

-- ---- the whole

pub spans_port : (rows ordered : List Row) (a : ℕ) → IsPermutation rows ordered → IsNonDecreasingBy order_key ordered → All IsRow rows → Distinct rows
    → last_port (map span_of ordered) a None ≡ fib_port rows a
spans_port rows ordered a p sorted is distinct =
    last_spans ordered a None
    ∙ ap (option_map (λ r. r.2)) (last_is_longest rows ordered a (recursion_from_All IsRow rows is)
    (recursion_from_All IsRow ordered (All-permutation IsRow rows ordered p is)) distinct (in_order ordered sorted)
    (moved ordered rows (IsPermutation-sym rows ordered p)) (moved rows ordered p))

module _ (rows ordered : List Row) (p : IsPermutation rows ordered) (is : All IsRow rows) where
  pub ordered_rows : All IsRow ordered
  ordered_rows = All-permutation IsRow rows ordered p is

  pub ordered_lengths : All (λ r. r.1 ≤ 32) ordered
  ordered_lengths = λ k d h. (ordered_rows k d h).0

  pub spans_start : IsNonDecreasingBy order_key ordered → StartFrom 0 (map span_of ordered)
  spans_start sorted =
      starts 0 ordered (recursion_from_All (λ r. r.1 ≤ 32) ordered (λ k d h. (ordered_rows k d h).0)) (in_order ordered sorted)
      (recursion_from_All (λ r. 0 ≤ r.0) ordered (λ k d h. omega arith))

  pub spans_end : All (λ span. span.first ≤ 4294967296) (map span_of ordered)
  spans_end = All-map (λ span. span.first ≤ 4294967296) span_of ordered (λ k d h. let e = (ordered_rows k d h).3 in omega (arith, e))

  pub spans_ports : (ports : ℕ) → All (λ row. row.2 < ports) rows → All (λ span. span.port < ports) (map span_of ordered)
  spans_ports ports h = All-map (λ span. span.port < ports) span_of ordered (All-permutation (λ row. row.2 < ports) rows ordered p h)
