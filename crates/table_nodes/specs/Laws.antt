-- Where the nodes of tables send an address.
use Rattle.std.specs.Prelude.{ℕ, ◌≡◌, ◌^◌, ◌<◌, Bool, List, [], ◌∷◌, ◌++◌, length, Option}
use Rattle.std.specs.declared.alloc.Global.{Global}
use Rattle.std.specs.declared.vec.Vec.{Vec}
use Rattle.sn_ranges.specs.Ranges.{IsCanonical}
use Rattle.sefl_syntax.specs.declared.net.Style.{Style}
use Rattle.sefl_syntax.specs.declared.net.TableKind.{TableKind}
use Rattle.sefl_syntax.specs.Trees.{NodeTree}
use Rattle.table_nodes.specs.Exits.{exits, lies_in}
use Rattle.table_nodes.specs.Codes.{lists}
use Rattle.table_nodes.specs.TableNodes.{Guard, IsNode, SetsFor, RowsSend, InRange, bits_of, port_or, rest_of}

-- in each style the exits of a table's node are the table's port for the address, or the ports for addresses that no row has
abbrev pub NodesSend : Type 0
NodesSend =
    (kind : TableKind) (ports : ℕ) (f : ℕ → Option ℕ) (rows : List Guard) (style : Style) (node : NodeTree)
    → IsNode kind ports f rows style node → RowsSend style kind f rows → InRange ports f
    → (a : ℕ) → a < 2 ^ bits_of kind → exits node a ≡ port_or (rest_of kind ports) (f a)

-- one set more, which is the least list of ranges of the addresses that pass the test for the next port
abbrev pub SetsGrow : Type 0
SetsGrow =
    (kind : TableKind) (test : ℕ → ℕ → Bool) (sets : List (Vec (ℕ × ℕ) Global)) (set : Vec (ℕ × ℕ) Global)
    → SetsFor kind test 0 (lists sets) → IsCanonical (bits_of kind) set.items
    → ((a : ℕ) → a < 2 ^ bits_of kind → lies_in a set.items ≡ test a (length sets))
    → SetsFor kind test 0 (lists (sets ++ set ∷ []))
