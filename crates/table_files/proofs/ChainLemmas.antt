-- The text of a table's node in style chain, by its rows.
use Rattle.std.proofs.Common.{◌≡◌, ◌∙◌, refl, sym, ap, ℕ, zero, suc, ◌+◌, ◌==◌, if◌then◌else◌, false, List, [], ◌∷◌, ◌++◌, map, append_assoc, append-nil, add-one, codes, decimal, IsPermutation, Ok, arith}
use Rattle.std.specs.List.{flat_map}
use Rattle.std.specs.List.Sorted.{IsNonDecreasingBy}
use Rattle.std.proofs.lemmas.Bool.Decides.{nat_tests}
use Rattle.sefl_syntax.specs.declared.net.Style.TheVariants.{Chain}
use Rattle.sefl_syntax.specs.declared.net.TableKind.{TableKind}
use Rattle.sefl_syntax.specs.declared.net.TableKind.TheVariants.{Mac, Fib}
use Rattle.sefl_syntax.specs.CodeText.{between_blocks, block_end, code_text, deeper, fork_text, if_heading, instr_text, line_text, more_ports_text, ports_text, quoted, word_text}
use Rattle.sefl_syntax.specs.NetText.{node_heading, node_text, port_text}
use Rattle.sefl_syntax.specs.Trees.{CodeTree, NodeTree}
use Rattle.table_nodes.specs.TableNodes.{Row, guard_instr, guarded, last_of, ports_from, row_guard}
use Rattle.mac_model.specs.MacTables as mac
use Rattle.mac_model.specs.MacTables.{MacSeen, mac_of}
use Rattle.mac_model.specs.Nodes.{IsMacNode, address_key, whole}
use Rattle.fib_model.specs.Fibs.{FibSeen, fib_of}
use Rattle.fib_model.specs.Nodes.{IsFibNode, chain_key}
use Rattle.table_files.specs.FileNodes.{IsNodeOf}
use Rattle.table_files.specs.ChainTexts.{chain_of, forward_text, heading, last_text, next_port, row_end, row_text}

-- ---- the ports of a fork

more : (first n : ℕ) → more_ports_text (ports_from first (suc n)) ≡ more_ports_text (ports_from first n) ++ (codes ", " ++ decimal (first + n))
more first zero = let e : first ≡ first + zero = omega arith in append-nil (codes ", " ++ decimal first) ∙ ap (λ p. codes ", " ++ decimal p) e
more first (suc n) =
    let e : suc first + n ≡ first + suc n = omega arith in
    ap (λ text. (codes ", " ++ decimal first) ++ text) (more (suc first) n ∙ ap (λ p. more_ports_text (ports_from (suc first) n) ++ (codes ", " ++ decimal p)) e)
    ∙ sym (append_assoc (codes ", " ++ decimal first) (more_ports_text (ports_from (suc first) n)) (codes ", " ++ decimal (first + suc n)))

next : (n : ℕ) → ports_text (ports_from 0 (suc n)) ≡ ports_text (ports_from 0 n) ++ next_port n
next zero = append-nil (codes " " ++ decimal zero)
next (suc n) =
    let e : 1 + n ≡ suc n = omega arith in
    let later : (suc n == 0) ≡ false = grind (arith, nat_tests) in
    ap (λ text. (codes " " ++ decimal zero) ++ text) (more 1 n ∙ ap (λ p. more_ports_text (ports_from 1 n) ++ (codes ", " ++ decimal p)) e)
    ∙ sym (append_assoc (codes " " ++ decimal zero) (more_ports_text (ports_from 1 n)) (codes ", " ++ decimal (suc n)))
    ∙ ap (λ b. ports_text (ports_from 0 (suc n)) ++ (if b then (codes " " ++ decimal (suc n)) else (codes ", " ++ decimal (suc n)))) (sym later)

next_added : (n : ℕ) → ports_text (ports_from 0 (n + 1)) ≡ ports_text (ports_from 0 n) ++ next_port n
next_added n = rw add-one (next n)

pub port_added : (before out new : List ℕ) (port : ℕ) → out ≡ before ++ ports_text (ports_from 0 port) → new ≡ out ++ next_port port
    → new ≡ before ++ ports_text (ports_from 0 (port + 1))
port_added before out new port is added =
    added ∙ ap (λ text. text ++ next_port port) is ∙ append_assoc before (ports_text (ports_from 0 port)) (next_port port)
    ∙ ap (λ text. before ++ text) (sym (next_added port))

-- ---- the rows

row_is : (kind : TableKind) (row : Row) → instr_text (codes "    ") (guard_instr (row_guard kind row)) ≡ row_text kind row
unfolding block_end between_blocks deeper forward_text if_heading line_text row_end word_text
row_is Mac row = simp append_assoc refl
row_is Fib row = simp append_assoc refl

code_is : (kind : TableKind) (rows : List Row) (last : CodeTree)
    → code_text (codes "    ") (guarded (map (row_guard kind) rows) last) ≡ flat_map (row_text kind) rows ++ code_text (codes "    ") last
code_is kind [] last = refl
code_is kind (row ∷ rows) last =
    ap (λ text. text ++ code_text (codes "    ") (guarded (map (row_guard kind) rows) last)) (row_is kind row)
    ∙ ap (λ text. row_text kind row ++ text) (code_is kind rows last)
    ∙ sym (append_assoc (row_text kind row) (flat_map (row_text kind) rows) (code_text (codes "    ") last))

-- ---- the node

last_is : (kind : TableKind) (ports : ℕ) → (codes "    " ++ last_text kind ports) ++ codes "\n" ≡ code_text (codes "    ") (last_of kind ports)
unfolding line_text quoted word_text
last_is Mac ports = sym (append-nil ((codes "    " ++ fork_text (ports_from 0 ports)) ++ codes "\n"))
last_is Fib ports = refl

pub last_written : (old : List ℕ) (kind : TableKind) (ports : ℕ)
    → ((old ++ codes "    ") ++ last_text kind ports) ++ codes "\n" ≡ old ++ code_text (codes "    ") (last_of kind ports)
last_written old kind ports =
    ap (λ text. text ++ codes "\n") (append_assoc old (codes "    ") (last_text kind ports)) ∙ append_assoc old (codes "    " ++ last_text kind ports) (codes "\n")
    ∙ ap (λ text. old ++ text) (last_is kind ports)

joined : (heading before port behind rows last end close : List ℕ)
    → (((heading ++ (before ++ port ++ behind)) ++ rows) ++ last) ++ (end ++ close)
    ≡ heading ++ ((before ++ port ++ behind ++ (rows ++ last) ++ end) ++ []) ++ close
joined heading before port behind rows last end close = simp append_assoc refl

pub chain_written : (name : List ℕ) (kind : TableKind) (ports : ℕ) (rows : List Row)
    → ((heading name ports ++ flat_map (row_text kind) rows) ++ code_text (codes "    ") (last_of kind ports)) ++ codes "  }\n}\n"
    ≡ node_text name (chain_of kind ports rows)
unfolding node_text port_text
chain_written name kind ports rows =
    let last = code_text (codes "    ") (last_of kind ports) in
    joined (node_heading name 1 ports) (codes "  in ") (decimal 0) (codes " {\n") (flat_map (row_text kind) rows) last (codes "  }\n") (codes "}\n")
    ∙ ap (λ body. node_heading name 1 ports ++ ((codes "  in " ++ decimal 0 ++ codes " {\n" ++ body ++ codes "  }\n") ++ []) ++ codes "}\n")
    (sym (code_is kind rows (last_of kind ports)))

-- the text is that of the table's node, where the rows are the table's in the order of style chain
pub mac_chain_is : (name text : List ℕ) (table : MacSeen) (wholes : List Row)
    → (ordered : List mac.Row) × IsPermutation table.rows ordered × IsNonDecreasingBy address_key ordered × (wholes ≡ map whole ordered)
    → text ≡ node_text name (chain_of Mac table.ports wholes) → (node : NodeTree) × IsMacNode table Chain node × (text ≡ node_text name node)
mac_chain_is name text table wholes (ordered, same, order, wholes_are) is =
    (chain_of Mac table.ports (map whole ordered), (ordered, same, order, refl), is ∙ ap (λ rows. node_text name (chain_of Mac table.ports rows)) wholes_are)

pub fib_chain_is : (name text : List ℕ) (table : FibSeen) (ordered : List Row) → IsPermutation table.rows ordered → IsNonDecreasingBy chain_key ordered
    → text ≡ node_text name (chain_of Fib table.ports ordered) → (node : NodeTree) × IsFibNode table Chain node × (text ≡ node_text name node)
fib_chain_is name text table ordered same order is = (chain_of Fib table.ports ordered, (ordered, same, order, refl), is)

-- and of the node of the file that has the table
pub mac_file_is : (bytes name text : List ℕ) (table : MacSeen) → mac_of bytes ≡ Ok table
    → (node : NodeTree) × IsMacNode table Chain node × (text ≡ node_text name node)
    → (node : NodeTree) × IsNodeOf Mac bytes Chain node × (text ≡ node_text name node)
mac_file_is bytes name text table is (node, made, same) = (node, (table, is, made), same)

pub fib_file_is : (bytes name text : List ℕ) (table : FibSeen) → fib_of bytes ≡ Ok table
    → (node : NodeTree) × IsFibNode table Chain node × (text ≡ node_text name node)
    → (node : NodeTree) × IsNodeOf Fib bytes Chain node × (text ≡ node_text name node)
fib_file_is bytes name text table is (node, made, same) = (node, (table, is, made), same)
