-- The nodes of MAC tables send as their rows say.
use Rattle.std.proofs.Common.{◌≡◌, ◌∙◌, refl, sym, ap, subst, ℕ, ◌^◌, ◌≤◌, ◌<◌, ◌==◌, inl, inr, List, [], ◌∷◌, map, Option, None, Some, option_map, All, IsPermutation, true≢false, arith}
use Rattle.std.specs.Prelude.{find}
use Rattle.std.specs.List.{AllByRecursion}
use Rattle.std.specs.List.Sorted.{IsNonDecreasingBy}
use Rattle.std.proofs.lemmas.List.Elements.{All-from_recursion, recursion_from_All}
use Rattle.std.proofs.lemmas.List.Sorted.{All-permutation, IsPermutation-sym}
use Rattle.std.proofs.lemmas.Option.{none-some, same_Some}
use Rattle.sefl_syntax.specs.declared.net.Style.{Style}
use Rattle.sefl_syntax.specs.declared.net.Style.TheVariants.{Chain, Grouped, Egress}
use Rattle.sefl_syntax.specs.declared.net.TableKind.TheVariants.{Mac}
use Rattle.sefl_syntax.specs.Trees.{NodeTree}
use Rattle.table_nodes.specs.Exits.{exits}
use Rattle.table_nodes.specs.TableNodes as nodes
use Rattle.table_nodes.specs.TableNodes.{Sends, InRange, row_guard, port_or, ports_from}
use Rattle.table_nodes.specs.Laws.{NodesSend}
use Rattle.mac_model.specs.MacTables.{Row, MacSeen, IsMac, NoneTwice}
use Rattle.mac_model.specs.Nodes.{IsMacNode, address_key, mac_port, whole}
use Rattle.mac_model.proofs.RowLemmas.{Has, IsFor, found_is, rows_held}

member_is : (P : Row → Type 0) (rows : List Row) (x : Row) → AllByRecursion P rows → Has rows x → P x
member_is P [] x all h = absurd h
member_is P (row ∷ rows) x all (inl is) = subst P (sym is) all.0
member_is P (row ∷ rows) x all (inr later) = member_is P rows x all.1 later

had_more : (row : Row) (rows some : List Row) → AllByRecursion (Has rows) some → AllByRecursion (Has (row ∷ rows)) some
had_more row rows [] all = tt
had_more row rows (x ∷ xs) all = (inr all.0, had_more row rows xs all.1)

all_had : (rows : List Row) → AllByRecursion (Has rows) rows
all_had [] = tt
all_had (row ∷ rows) = (inl refl, had_more row rows rows (all_had rows))

moved : (rows ordered : List Row) → IsPermutation rows ordered → (x : Row) → Has ordered x → Has rows x
moved rows ordered p x has =
    member_is (Has rows) ordered x (recursion_from_All (Has rows) ordered (All-permutation (Has rows) rows ordered p (All-from_recursion (Has rows) rows (all_had rows)))) has

-- two rows of one address are one row
one_row : (rows : List Row) (x y : Row) → NoneTwice rows → Has rows x → Has rows y → x.0 ≡ y.0 → x ≡ y
one_row [] x y apart hx hy same = absurd hx
one_row (row ∷ rows) x y apart (inl ix) (inl iy) same = ix ∙ sym iy
one_row (row ∷ rows) x y apart (inl ix) (inr hy) same =
    absurd (member_is (λ other. other.0 ≡ row.0 → ⊥) rows y apart.0 hy (sym same ∙ ap (λ r. r.0) ix))
one_row (row ∷ rows) x y apart (inr hx) (inl iy) same =
    absurd (member_is (λ other. other.0 ≡ row.0 → ⊥) rows x apart.0 hx (same ∙ ap (λ r. r.0) iy))
one_row (row ∷ rows) x y apart (inr hx) (inr hy) same = one_row rows x y apart.1 hx hy same

-- of the rows and of the same rows in another order the same one is for an address
one_found : (rows ordered : List Row) (a : ℕ) → NoneTwice rows → IsPermutation rows ordered → (x y : Option Row) → IsFor rows a x → IsFor ordered a y → y ≡ x
one_found rows ordered a apart p None None fx fy = refl
one_found rows ordered a apart p None (Some y) fx fy = absurd (true≢false (sym fy.1 ∙ fx y (moved rows ordered p y fy.0)))
one_found rows ordered a apart p (Some x) None fx fy = absurd (true≢false (sym fx.1 ∙ fy x (moved ordered rows (IsPermutation-sym rows ordered p) x fx.0)))
one_found rows ordered a apart p (Some x) (Some y) fx fy =
    ap Some (one_row rows y x apart (moved rows ordered p y fy.0) fx.0 (let h = fx.1 in let k = fy.1 in grind (arith, h, k)))

chain_sends : (ports : ℕ) (rows ordered : List Row) → IsMac ports rows → IsPermutation rows ordered → Sends Mac (mac_port rows) (map (row_guard Mac) (map whole ordered))
chain_sends ports rows ordered is p = λ a less.
    rows_held a ordered
    ∙ ap (option_map (λ row. row.1)) (one_found rows ordered a is.apart p (find (λ row. a == row.0) rows) (find (λ row. a == row.0) ordered) (found_is rows a) (found_is ordered a))

in_range : (ports : ℕ) (rows : List Row) → IsMac ports rows → InRange ports (mac_port rows)
in_range ports rows is = λ a port found. by a port (find (λ row. a == row.0) rows) (found_is rows a) found
  where
    by : (a port : ℕ) (o : Option Row) → IsFor rows a o → option_map (λ row. row.1) o ≡ Some port → port < ports
    by a port None for found = absurd (none-some port found)
    by a port (Some row) for found =
        subst (λ p. p < ports) (same_Some row.1 port found) (member_is (λ row. row.1 < ports) rows row (recursion_from_All (λ row. row.1 < ports) rows is.below) for.0)

pub mac_exits : NodesSend → (mac : MacSeen) (style : Style) (node : NodeTree) → IsMac mac.ports mac.rows → IsMacNode mac style node
    → (a : ℕ) → a < 2 ^ 48 → exits node a ≡ port_or (ports_from 0 mac.ports) (mac_port mac.rows a)
mac_exits law mac Chain node is made =
    law Mac mac.ports (mac_port mac.rows) (map (row_guard Mac) (map whole made.0)) Chain node made.3 (chain_sends mac.ports mac.rows made.0 is made.1) (in_range mac.ports mac.rows is)
mac_exits law mac Grouped node is made = law Mac mac.ports (mac_port mac.rows) [] Grouped node made tt (in_range mac.ports mac.rows is)
mac_exits law mac Egress node is made = law Mac mac.ports (mac_port mac.rows) [] Egress node made tt (in_range mac.ports mac.rows is)

-- the rows are the table's, by ascending address
pub wholes_are : (rows ordered : List Row) (wholes : List nodes.Row) → IsPermutation rows ordered → IsNonDecreasingBy address_key ordered → wholes ≡ map whole ordered
    → (ordered : List Row) × IsPermutation rows ordered × IsNonDecreasingBy address_key ordered × (wholes ≡ map whole ordered)
wholes_are rows ordered wholes same order is = (ordered, same, order, is)

whole_lengths : (rows : List Row) → AllByRecursion (λ (row : nodes.Row). row.1 ≤ 48) (map whole rows)
whole_lengths [] = tt
whole_lengths (row ∷ rows) = ((omega arith), whole_lengths rows)

pub all_whole : (rows : List Row) → All (λ (row : nodes.Row). row.1 ≤ 48) (map whole rows)
all_whole rows = All-from_recursion (λ (row : nodes.Row). row.1 ≤ 48) (map whole rows) (whole_lengths rows)
