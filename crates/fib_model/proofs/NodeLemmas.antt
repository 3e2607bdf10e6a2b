-- The nodes of forwarding tables send as the longest prefix says.
use Rattle.std.proofs.Common.{◌≡◌, ◌∙◌, refl, ap, subst, ℕ, suc, ◌^◌, ◌≤◌, ◌<◌, ◌||◌, Bool, true, false, if◌then◌else◌, List, [], ◌∷◌, map, Option, None, Some, option_map, IsPermutation, arith}
use Rattle.std.specs.List.{AllByRecursion}
use Rattle.std.specs.List.Sorted.{IsNonDecreasingBy}
use Rattle.std.proofs.lemmas.List.Elements.{recursion_from_All}
use Rattle.std.proofs.lemmas.List.Sorted.{All-permutation, IsPermutation-sym}
use Rattle.std.proofs.lemmas.Option.{none-some, same_Some}
use Rattle.sefl_syntax.specs.declared.net.Style.{Style}
use Rattle.sefl_syntax.specs.declared.net.Style.TheVariants.{Chain, Grouped, Egress}
use Rattle.sefl_syntax.specs.declared.net.TableKind.TheVariants.{Fib}
use Rattle.sefl_syntax.specs.Trees.{NodeTree}
use Rattle.table_nodes.specs.Exits.{exits}
use Rattle.table_nodes.specs.TableNodes.{Sends, InRange, first_held, row_guard, port_or}
use Rattle.table_nodes.specs.Laws.{NodesSend}
use Rattle.fib_model.specs.Prefixes.{Row, IsRow, contains, longest, fib_port, first_row, LongestFirst, IsBest}
use Rattle.fib_model.specs.Fibs.{FibSeen, IsFib}
use Rattle.fib_model.specs.Nodes.{IsFibNode, chain_key}
use Rattle.fib_model.proofs.Nesting.{first_is_longest, longest_best, member_is}
use Rattle.fib_model.proofs.Spans.{same_cover, moved}

or_none : (b : Bool) → (b || false) ≡ b
or_none true = refl
or_none false = refl

rows_held : (a : ℕ) (rows : List Row) → first_held a (map (row_guard Fib) rows) ≡ option_map (λ r. r.2) (first_row rows a)
rows_held a [] = refl
rows_held a (r ∷ rows) =
    ap (λ b. if b then Some r.2 else first_held a (map (row_guard Fib) rows)) (or_none _ ∙ same_cover r a) ∙ by (contains r a) (rows_held a rows)
  where
    by : (b : Bool) → first_held a (map (row_guard Fib) rows) ≡ option_map (λ r. r.2) (first_row rows a)
        → (if b then Some r.2 else first_held a (map (row_guard Fib) rows)) ≡ option_map (λ r. r.2) (if b then Some r else first_row rows a)
    by true rest = refl
    by false rest = rest

longest_first : (rows : List Row) → AllByRecursion IsRow rows → IsNonDecreasingBy chain_key rows → LongestFirst rows
longest_first [] is sorted = tt
longest_first (r ∷ rs) is sorted = (
  later r rs is.0 is.1 (recursion_from_All (λ x. chain_key r ≤ chain_key x) rs (λ k d h. sorted 0 (suc k) d (omega arith) (omega (arith, h)))),
  longest_first rs is.1 (λ i j d le h. sorted (suc i) (suc j) d (omega (arith, le)) (omega (arith, h))),
)
  where
    later : (r : Row) (rs : List Row) → IsRow r → AllByRecursion IsRow rs → AllByRecursion (λ x. chain_key r ≤ chain_key x) rs → AllByRecursion (λ x. x.1 ≤ r.1) rs
    later r [] is are order = tt
    later r (x ∷ xs) is are order = ((let e = are.0.3 in omega (arith, is.0, are.0.0, e, order.0)), later r xs is are.1 order.1)

chain_sends : (ports : ℕ) (rows ordered : List Row) → IsFib ports rows → IsPermutation rows ordered → IsNonDecreasingBy chain_key ordered
    → Sends Fib (fib_port rows) (map (row_guard Fib) ordered)
chain_sends ports rows ordered is p sorted = λ a less.
    rows_held a ordered
    ∙ ap (option_map (λ r. r.2)) (first_is_longest rows ordered a (recursion_from_All IsRow rows is.prefixes) is.distinct
    (longest_first ordered (recursion_from_All IsRow ordered (All-permutation IsRow rows ordered p is.prefixes)) sorted)
    (moved ordered rows (IsPermutation-sym rows ordered p)) (moved rows ordered p))

in_range : (ports : ℕ) (rows : List Row) → IsFib ports rows → InRange ports (fib_port rows)
in_range ports rows is = λ a port found. by a port (longest rows a) (longest_best rows a) found
  where
    by : (a port : ℕ) (o : Option Row) → IsBest rows a o → option_map (λ r. r.2) o ≡ Some port → port < ports
    by a port None best found = absurd (none-some port found)
    by a port (Some r) best found =
        subst (λ p. p < ports) (same_Some r.2 port found) (member_is (λ r. r.2 < ports) rows r (recursion_from_All (λ r. r.2 < ports) rows is.below) best.0)

pub fib_exits : NodesSend → (fib : FibSeen) (style : Style) (node : NodeTree) → IsFib fib.ports fib.rows → IsFibNode fib style node
    → (a : ℕ) → a < 2 ^ 32 → exits node a ≡ port_or [] (fib_port fib.rows a)
fib_exits law fib Chain node is made =
    law Fib fib.ports (fib_port fib.rows) (map (row_guard Fib) made.0) Chain node made.3 (chain_sends fib.ports fib.rows made.0 is made.1 made.2) (in_range fib.ports fib.rows is)
fib_exits law fib Grouped node is made = law Fib fib.ports (fib_port fib.rows) [] Grouped node made tt (in_range fib.ports fib.rows is)
fib_exits law fib Egress node is made = law Fib fib.ports (fib_port fib.rows) [] Egress node made tt (in_range fib.ports fib.rows is)
