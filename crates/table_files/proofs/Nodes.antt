-- The bytes of a table have one node in a style.
use Rattle.std.proofs.Common.{◌≡◌, ◌∙◌, refl, sym, ap, subst, ℕ, suc, ◌≤◌, ◌<◌, ◌&&◌, ◌||◌, inl, inr, Bool, nat_le, List, [], ◌∷◌, length, map, Option, Result, Ok, Err, arith}
use Rattle.std.specs.List.{AllByRecursion}
use Rattle.sn_ranges.specs.Laws.{OneListForEachSet}
use Rattle.sn_ranges.specs.Ranges.{is_member, in_range}
use Rattle.sefl_syntax.specs.declared.net.Style.{Style}
use Rattle.sefl_syntax.specs.declared.net.Style.TheVariants.{Chain, Grouped, Egress}
use Rattle.sefl_syntax.specs.declared.net.TableKind.{TableKind}
use Rattle.sefl_syntax.specs.declared.net.TableKind.TheVariants.{Mac, Fib}
use Rattle.sefl_syntax.specs.Trees.{NodeTree}
use Rattle.table_lines.specs.declared.fault.TableFault.{TableFault}
use Rattle.table_lines.specs.declared.table.Row.{Row}
use Rattle.table_lines.specs.Laws.{FilesHaveTables, IsKey, IsTable, NoneTwice}
use Rattle.table_lines.specs.Tables.{TableSeen, table_of}
use Rattle.table_nodes.specs.Exits.{lies_in}
use Rattle.table_nodes.specs.TableNodes.{Guard, IsNode, Set, SetsFor, bits_of, destination, guarded, in_code, is_port, last_of, lets, node_with, out_codes, row_guard, set_guards, to_all}
use Rattle.mac_model.specs.MacTables.{MacSeen, mac_of, mac_seen, pair}
use Rattle.mac_model.specs.Nodes.{IsMacNode, address_key, mac_port, whole}
use Rattle.fib_model.specs.Prefixes.{fib_port}
use Rattle.fib_model.specs.Fibs.{FibSeen, fib_of, fib_seen, triple}
use Rattle.fib_model.specs.Nodes.{IsFibNode, chain_key}
use Rattle.table_files.specs.FileNodes.{FilesHaveOneNode}
use Rattle.table_files.proofs.Ordered.{Has, ordered_once}

-- ---- rows

module _ {X : Type 0} (row_of : Row → X) (key : X → ℕ) (kind : TableKind)
    (same : (a b : Row) → IsKey kind a.address a.length → IsKey kind b.address b.length → key (row_of a) ≡ key (row_of b)
    → (a.address ≡ b.address) × (a.length ≡ b.length)) where
  not_later : (row : Row) (rows : List Row) (y : X) → IsKey kind row.address row.length → AllByRecursion (λ other. IsKey kind other.address other.length) rows
      → AllByRecursion (λ other. other.address ≡ row.address → other.length ≡ row.length → ⊥) rows → Has (map row_of rows) y → key y ≡ key (row_of row) → ⊥
  not_later row [] y is keys apart has e = has
  not_later row (other ∷ rows) y is keys apart (inl hy) e = let s = same other row keys.0 is (ap key (sym hy) ∙ e) in apart.0 s.0 s.1
  not_later row (other ∷ rows) y is keys apart (inr hy) e = not_later row rows y is keys.1 apart.1 hy e

  -- of the rows of a table no two have one key
  one_row : (rows : List Row) → AllByRecursion (λ row. IsKey kind row.address row.length) rows → NoneTwice rows
      → (x y : X) → Has (map row_of rows) x → Has (map row_of rows) y → key x ≡ key y → x ≡ y
  one_row [] keys apart x y hx hy e = absurd hx
  one_row (row ∷ rows) keys apart x y (inl ix) (inl iy) e = ix ∙ sym iy
  one_row (row ∷ rows) keys apart x y (inl ix) (inr hy) e = absurd (not_later row rows y keys.0 keys.1 apart.0 hy (sym e ∙ ap key ix))
  one_row (row ∷ rows) keys apart x y (inr hx) (inl iy) e = absurd (not_later row rows x keys.0 keys.1 apart.0 hx (e ∙ ap key iy))
  one_row (row ∷ rows) keys apart x y (inr hx) (inr hy) e = one_row rows keys.1 apart.1 x y hx hy e

same_address : (a b : Row) → IsKey Mac a.address a.length → IsKey Mac b.address b.length → address_key (pair a) ≡ address_key (pair b)
    → (a.address ≡ b.address) × (a.length ≡ b.length)
same_address a b is also e = (e, is.0 ∙ sym also.0)

same_prefix : (a b : Row) → IsKey Fib a.address a.length → IsKey Fib b.address b.length → chain_key (triple a) ≡ chain_key (triple b)
    → (a.address ≡ b.address) × (a.length ≡ b.length)
same_prefix a b is also e =
    let short : a.length ≤ 32 = is.0 in
    let brief : b.length ≤ 32 = also.0 in
    let low : a.address < 4294967296 = is.3 in
    let least : b.address < 4294967296 = also.3 in
    (omega (arith, short, brief, low, least, e), omega (arith, short, brief, low, least, e))

-- ---- sets

lies_is_member : (set : Set) (a : ℕ) → lies_in a set ≡ is_member set a
unfolding is_member in_range
lies_is_member [] a = refl
lies_is_member (r ∷ rs) a = ap (λ b. (nat_le r.0 a && nat_le a r.1) || b) (lies_is_member rs a)

module _ (one_list : OneListForEachSet) where
  sets_once : (kind : TableKind) (test : ℕ → ℕ → Bool) (port : ℕ) (xs ys : List Set) → length xs ≡ length ys → SetsFor kind test port xs → SetsFor kind test port ys → xs ≡ ys
  sets_once kind test port [] [] many are also = refl
  sets_once kind test port [] (y ∷ ys) many are also = absurd (omega (arith, many))
  sets_once kind test port (x ∷ xs) [] many are also = absurd (omega (arith, many))
  sets_once kind test port (x ∷ xs) (y ∷ ys) many are also =
      let first = one_list (record { width = bits_of kind; pairs = x }) (record { width = bits_of kind; pairs = y }) are.0 also.0 refl
      (λ a less. sym (lies_is_member x a) ∙ (are.1 a less ∙ (sym (also.1 a less) ∙ lies_is_member y a))) in
      let rest = sets_once kind test (suc port) xs ys (omega (arith, many)) are.2 also.2 in
      λ i. (first i).pairs ∷ rest i

  -- ---- nodes

  node_once : (kind : TableKind) (ports : ℕ) (f : ℕ → Option ℕ) (rows : List Guard) (style : Style) (a b : NodeTree)
      → IsNode kind ports f rows style a → IsNode kind ports f rows style b → a ≡ b
  node_once kind ports f rows Chain a b is also = is ∙ sym also
  node_once kind ports f rows Grouped a b (sets, many, are, is) (others, more, also, same) =
      let one = sets_once kind (λ a. is_port (f a)) 0 sets others (many ∙ sym more) are also in
      is ∙ (ap (λ ss. node_with ports (in_code (guarded (set_guards (destination kind) 0 ss) (last_of kind ports)) ∷ [])) one ∙ sym same)
  node_once kind ports f rows Egress a b (sets, many, are, is) (others, more, also, same) =
      let one = sets_once kind (λ a. lets kind (f a)) 0 sets others (many ∙ sym more) are also in
      is ∙ (ap (λ ss. node_with ports (in_code (to_all ports) ∷ out_codes (destination kind) 0 ss)) one ∙ sym same)

  mac_once : (table : TableSeen) → IsTable Mac table → (mac : MacSeen) → mac.ports ≡ table.ports → mac.rows ≡ map pair table.rows
      → (style : Style) (a b : NodeTree) → IsMacNode mac style a → IsMacNode mac style b → a ≡ b
  mac_once table is mac ports rows Chain a b (xs, p, up, node) (ys, q, also, other) =
      let one = ordered_once address_key mac.rows xs ys
      (subst (λ rs. (x y : ℕ × ℕ) → Has rs x → Has rs y → address_key x ≡ address_key y → x ≡ y) (sym rows) (one_row pair address_key Mac same_address table.rows is.keys is.apart)) p q up also in
      node ∙ (ap (λ rs. node_with mac.ports (in_code (guarded (map (row_guard Mac) (map whole rs)) (last_of Mac mac.ports)) ∷ [])) one ∙ sym other)
  mac_once table is mac ports rows Grouped a b node other = node_once Mac mac.ports (mac_port mac.rows) [] Grouped a b node other
  mac_once table is mac ports rows Egress a b node other = node_once Mac mac.ports (mac_port mac.rows) [] Egress a b node other

  fib_once : (table : TableSeen) → IsTable Fib table → (fib : FibSeen) → fib.ports ≡ table.ports → fib.rows ≡ map triple table.rows
      → (style : Style) (a b : NodeTree) → IsFibNode fib style a → IsFibNode fib style b → a ≡ b
  fib_once table is fib ports rows Chain a b (xs, p, up, node) (ys, q, also, other) =
      let one = ordered_once chain_key fib.rows xs ys
      (subst (λ rs. (x y : ℕ × ℕ × ℕ) → Has rs x → Has rs y → chain_key x ≡ chain_key y → x ≡ y) (sym rows) (one_row triple chain_key Fib same_prefix table.rows is.keys is.apart)) p q up also in
      node ∙ (ap (λ rs. node_with fib.ports (in_code (guarded (map (row_guard Fib) rs) (last_of Fib fib.ports)) ∷ [])) one ∙ sym other)
  fib_once table is fib ports rows Grouped a b node other = node_once Fib fib.ports (fib_port fib.rows) [] Grouped a b node other
  fib_once table is fib ports rows Egress a b node other = node_once Fib fib.ports (fib_port fib.rows) [] Egress a b node other

-- ---- files

abbrev or_else : {A : Type 0} → A → Result A TableFault → A
or_else default (Ok x) = x
or_else default (Err fault) = default

ok_same : {A : Type 0} (a b : A) (r : Result A TableFault) → r ≡ Ok a → r ≡ Ok b → a ≡ b
ok_same a b r h k = ap (or_else a) (sym h ∙ k)

abbrev IsErr : {A : Type 0} → Result A TableFault → Type 0
IsErr (Ok x) = ⊥
IsErr (Err fault) = Unit {0}

no_ok : {A C : Type 0} (fault : TableFault) (x : A) → Err fault ≡ Ok x → C
no_ok fault x is = absurd (subst IsErr is tt)

module _ (one_list : OneListForEachSet) (tables : FilesHaveTables) where
  of_mac : (bytes : List ℕ) (style : Style) (a b : NodeTree) (mac : MacSeen) → mac_of bytes ≡ Ok mac → IsMacNode mac style a → IsMacNode mac style b → a ≡ b
  of_mac bytes style a b mac is node other = by (table_of Mac bytes) refl is
    where
      by : (o : Result TableSeen TableFault) → table_of Mac bytes ≡ o → mac_seen o ≡ Ok mac → a ≡ b
      by (Ok table) has seen =
          let same = ok_same (record { ports = table.ports; rows = map pair table.rows }) mac (mac_seen (Ok table)) refl seen in
          mac_once one_list table (tables Mac bytes table has) mac (ap (λ m. m.ports) (sym same)) (ap (λ m. m.rows) (sym same)) style a b node other
      by (Err fault) has seen = no_ok fault mac seen

  of_fib : (bytes : List ℕ) (style : Style) (a b : NodeTree) (fib : FibSeen) → fib_of bytes ≡ Ok fib → IsFibNode fib style a → IsFibNode fib style b → a ≡ b
  of_fib bytes style a b fib is node other = by (table_of Fib bytes) refl is
    where
      by : (o : Result TableSeen TableFault) → table_of Fib bytes ≡ o → fib_seen o ≡ Ok fib → a ≡ b
      by (Ok table) has seen =
          let same = ok_same (record { ports = table.ports; rows = map triple table.rows }) fib (fib_seen (Ok table)) refl seen in
          fib_once one_list table (tables Fib bytes table has) fib (ap (λ m. m.ports) (sym same)) (ap (λ m. m.rows) (sym same)) style a b node other
      by (Err fault) has seen = no_ok fault fib seen

  pub files_once : FilesHaveOneNode
  files_once Mac bytes style a b (mac, is, node) (mac', also, other) =
      of_mac bytes style a b mac is node (subst (λ (m : MacSeen). IsMacNode m style b) (ok_same mac' mac (mac_of bytes) also is) other)
  files_once Fib bytes style a b (fib, is, node) (fib', also, other) =
      of_fib bytes style a b fib is node (subst (λ (m : FibSeen). IsFibNode m style b) (ok_same fib' fib (fib_of bytes) also is) other)
