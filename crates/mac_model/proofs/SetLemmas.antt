-- The addresses of rows as ranges.
use Rattle.std.proofs.Common.{◌≡◌, ◌∙◌, refl, sym, ap, ℕ, ◌==◌, ◌&&◌, ◌||◌, ◌^◌, ◌≤◌, ◌<◌, All, nat_le, not, Bool, true, false, cond, List, [], ◌∷◌, map, filter, Some, option_map, arith}
use Rattle.std.specs.Prelude.{find, is_none}
use Rattle.std.specs.List.{AllByRecursion}
use Rattle.std.proofs.lemmas.Bool.Decides.{nat_tests}
use Rattle.std.proofs.lemmas.List.Elements.{All-from_recursion, recursion_from_All}
use Rattle.sn_ranges.specs.Ranges.{RangeSet, IsSetOf, fits_width, is_member}
use Rattle.table_nodes.specs.Exits.{lies_in}
use Rattle.table_nodes.specs.TableNodes.{is_port}
use Rattle.mac_model.specs.MacTables.{Row, NoneTwice}
use Rattle.mac_model.specs.Nodes.{mac_port, point}

-- one number as a range
pub one : (x a : ℕ) → (nat_le x a && nat_le a x) ≡ (a == x)
one x a = by (nat_le x a) (nat_le a x) refl refl
  where
    by : (p q : Bool) → nat_le x a ≡ p → nat_le a x ≡ q → (p && q) ≡ (a == x)
    by true true h k = sym (grind (arith, nat_tests, h, k))
    by true false h k = sym (grind (arith, nat_tests, h, k))
    by false q h k = sym (grind (arith, nat_tests, h))

-- an address lies in those of the rows where one of them has it
pub known : (rows : List Row) (a : ℕ) → not (lies_in a (map point rows)) ≡ is_none (mac_port rows a)
known [] a = refl
known (row ∷ rows) a = ap (λ b. not (b || lies_in a (map point rows))) (one row.0 a) ∙ by (a == row.0) (known rows a)
  where
    by : (b : Bool) → not (lies_in a (map point rows)) ≡ is_none (mac_port rows a)
        → not (b || lies_in a (map point rows)) ≡ is_none (option_map (λ row. row.1) (cond b (Some row) (find (λ row. a == row.0) rows)))
    by true rest = refl
    by false rest = rest

differs : (x a : ℕ) (b : Bool) → (a == x) ≡ b → (x ≡ a → ⊥) → (a == x) ≡ false
differs x a true is apart = absurd (apart (grind (arith, is)))
differs x a false is apart = is

absent : (test : Row → Bool) (a : ℕ) (rows : List Row) → AllByRecursion (λ other. other.0 ≡ a → ⊥) rows → lies_in a (map point (filter test rows)) ≡ false
absent test a [] apart = refl
absent test a (row ∷ rows) apart = by (test row) (absent test a rows apart.1)
  where
    by : (b : Bool) → lies_in a (map point (filter test rows)) ≡ false → lies_in a (map point (cond b (row ∷ filter test rows) (filter test rows))) ≡ false
    by true rest = (λ i. (one row.0 a ∙ differs row.0 a (a == row.0) refl apart.0) i || rest i)
    by false rest = rest

others : (x a : ℕ) (rows : List Row) → a ≡ x → AllByRecursion (λ other. other.0 ≡ x → ⊥) rows → AllByRecursion (λ other. other.0 ≡ a → ⊥) rows
others x a [] same apart = tt
others x a (row ∷ rows) same apart = ((λ is. apart.0 (is ∙ same)), others x a rows same apart.1)

-- an address lies in those of the rows of a port where its row has the port
pub own : (port : ℕ) (rows : List Row) (a : ℕ) → NoneTwice rows → lies_in a (map point (filter (λ row. row.1 == port) rows)) ≡ is_port (mac_port rows a) port
own port [] a apart = refl
own port (row ∷ rows) a apart = by (a == row.0) refl (row.1 == port) refl (own port rows a apart.1)
  where
    kept : List Row
    kept = filter (λ row. row.1 == port) rows

    by : (b : Bool) → (a == row.0) ≡ b → (p : Bool) → (row.1 == port) ≡ p → lies_in a (map point kept) ≡ is_port (mac_port rows a) port
        → lies_in a (map point (cond p (row ∷ kept) kept)) ≡ is_port (option_map (λ row. row.1) (cond b (Some row) (find (λ row. a == row.0) rows))) port
    by true is true at rest = ap (λ b. b || lies_in a (map point kept)) (one row.0 a ∙ is) ∙ sym at
    by true is false at rest = absent (λ row. row.1 == port) a rows (others row.0 a rows (grind (arith, is)) apart.0) ∙ sym at
    by false is true at rest = ap (λ b. b || lies_in a (map point kept)) (one row.0 a ∙ is) ∙ rest
    by false is false at rest = rest

-- ---- as sets

points_fit : (rows : List Row) → AllByRecursion (λ row. row.0 < 2 ^ 48) rows → AllByRecursion (λ pair. (pair.0 ≤ pair.1) × (pair.1 < 2 ^ 48)) (map point rows)
points_fit [] all = tt
points_fit (row ∷ rows) all = (((omega arith), all.0), points_fit rows all.1)

pub all_fit : (rows : List Row) → All (λ row. row.0 < 2 ^ 48) rows → All (λ pair. (pair.0 ≤ pair.1) × (pair.1 < 2 ^ 48)) (map point rows)
all_fit rows all = All-from_recursion (λ pair. (pair.0 ≤ pair.1) × (pair.1 < 2 ^ 48)) (map point rows) (points_fit rows (recursion_from_All (λ row. row.0 < 2 ^ 48) rows all))

kept : (P : Row → Type 0) (test : Row → Bool) (rows : List Row) → AllByRecursion P rows → AllByRecursion P (filter test rows)
kept P test [] all = tt
kept P test (row ∷ rows) all = by (test row) (kept P test rows all.1)
  where
    by : (b : Bool) → AllByRecursion P (filter test rows) → AllByRecursion P (cond b (row ∷ filter test rows) (filter test rows))
    by true rest = (all.0, rest)
    by false rest = rest

pub all_kept : (test : Row → Bool) (rows : List Row) → All (λ row. row.0 < 2 ^ 48) rows → All (λ row. row.0 < 2 ^ 48) (filter test rows)
all_kept test rows all = All-from_recursion (λ row. row.0 < 2 ^ 48) (filter test rows) (kept (λ row. row.0 < 2 ^ 48) test rows (recursion_from_All (λ row. row.0 < 2 ^ 48) rows all))

pub own_is : (port : ℕ) (rows some : List Row) → some ≡ filter (λ row. row.1 == port) rows → NoneTwice rows → (set : RangeSet) → IsSetOf 48 (λ a. lies_in a (map point some)) set
    → IsSetOf 48 (λ a. is_port (mac_port rows a) port) set
own_is port rows some is apart set made = record {
  same_width = made.same_width;
  canonical = made.canonical;
  members = λ a. made.members a ∙ ap (λ rows. lies_in a (map point rows)) is ∙ own port rows a apart;
}

pub unknown_is : (rows : List Row) (all : RangeSet) → IsSetOf 48 (λ a. lies_in a (map point rows)) all → (set : RangeSet)
    → IsSetOf all.width (λ a. fits_width all.width a && not (is_member all.pairs a)) set → IsSetOf 48 (λ a. fits_width 48 a && is_none (mac_port rows a)) set
unknown_is rows all is set made = record {
  same_width = made.same_width ∙ is.same_width;
  canonical = made.canonical;
  members = λ a. made.members a ∙ (λ i. fits_width (is.same_width i) a && not (is.members a i)) ∙ ap (λ b. fits_width 48 a && b) (known rows a);
}
