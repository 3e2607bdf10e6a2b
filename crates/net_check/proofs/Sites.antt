-- The place of a port's code among the items of the net.
use Rattle.std.proofs.Common.{◌≡◌, ℕ, zero, suc, ◌+◌, ◌<◌, Bool, true, false, cond, eqb, zero-add, List, [], ◌∷◌, ◌++◌, length, drop, Option, Some, None, slice_get, find, option_map, refl, sym, ◌∙◌, ap, ap₂, arith, append_assoc, length-append}
use Rattle.std.proofs.Math.Nat.{suc-add}
use Rattle.std.proofs.Math.Seq.{drop-append-add}
use Rattle.std.proofs.lemmas.Bool.{and_parts, eqb-true, false≢true}
use Rattle.std.proofs.lemmas.List.{drop-drop}
use Rattle.std.proofs.lemmas.Option.{none-some, same_Some}
use Rattle.sefl_syntax.specs.declared.net.Side.{Side}
use Rattle.sefl_syntax.specs.declared.net.Side.TheVariants.{Inward, Outward}
use Rattle.sefl_syntax.specs.Trees.{InstrTree, allocate, deallocate, assign, assign_any, create_tag, set_tag, destroy_tag, constrain, fail, branch, each, forward, fork, block, no_op, CodeTree, no_code, instr_and, PortTree, DeclTree, NetTree}
use Rattle.job_items.specs.declared.ports.Ports.{Ports}
use Rattle.job_items.specs.Items.{Place, Item, port_item, within, inner_items, code_items, with_input, with_output, one_port_items, port_items, decl_items, node_items, link_items, net_items}
use Rattle.job_items.specs.Nodes.{Nodes, ports_of, codes_of, with_node, nodes_after}
use Rattle.net_check.specs.Laws.{port_with, place_on, IsCodePlace, AreInstrSites}
use Rattle.net_check.specs.Places.{is_same_side, is_port, codes_of_node, codes_at, code_of, inner_size, code_size, codes_size, decl_size, node_site, place_among, code_place}

mutual
  length-inner_items : (place : Place) (i : InstrTree) → length (inner_items place i) ≡ inner_size i
  length-inner_items place (branch test first other) =
      length-append (code_items place first) (code_items place other) ∙ ap₂ (λ a b. a + b) (length-code_items place first) (length-code_items place other)
  length-inner_items place (each var pattern body) = length-code_items (within place var) body
  length-inner_items place (block body) = length-code_items place body
  length-inner_items place (allocate target) = refl
  length-inner_items place (deallocate target) = refl
  length-inner_items place (assign target value) = refl
  length-inner_items place (assign_any target) = refl
  length-inner_items place (create_tag name addr) = refl
  length-inner_items place (set_tag name addr) = refl
  length-inner_items place (destroy_tag name) = refl
  length-inner_items place (constrain test) = refl
  length-inner_items place (fail text) = refl
  length-inner_items place (forward port) = refl
  length-inner_items place (fork ports) = refl
  length-inner_items place no_op = refl

  pub length-code_items : (place : Place) (code : CodeTree) → length (code_items place code) ≡ code_size code
  length-code_items place no_code = refl
  length-code_items place (instr_and i is) =
      let inner = length-inner_items place i in
      let rest = length-code_items place is in
      let both = length-append (inner_items place i) (code_items place is) in
      omega (arith, inner, rest, both)

length-one_port_items : (ports : Ports) (ins outs : List ℕ) (p : PortTree) → length (one_port_items ports ins outs p) ≡ 1 + code_size p.code
length-one_port_items ports ins outs p =
    let code = length-code_items (record { outs = ports.outs; side = p.side; vars = [] }) p.code in omega (arith, code)

length-port_items : (ports : Ports) (ins outs : List ℕ) (ps : List PortTree) → length (port_items ports ins outs ps) ≡ codes_size ps
length-port_items ports ins outs [] = refl
length-port_items ports ins outs (p ∷ ps) =
    let rest = port_items ports (with_input p.side p.port ins) (with_output p.side p.port outs) ps in
    length-append (one_port_items ports ins outs p) rest
    ∙ ap₂ (λ a b. a + b) (length-one_port_items ports ins outs p) (length-port_items ports (with_input p.side p.port ins) (with_output p.side p.port outs) ps)

length-decl_items : (nodes : Nodes) (d : DeclTree) → length (decl_items nodes d) ≡ decl_size d
length-decl_items nodes d = let codes = length-port_items (ports_of d.body) [] [] (codes_of d.body) in omega (arith, codes)

-- the items behind some first ones
drop_behind : {A : Type 0} (n k : ℕ) (xs ys : List A) → length xs ≡ n → drop (n + k) (xs ++ ys) ≡ drop k ys
drop_behind n k xs ys h = ap (λ m. drop (m + k) (xs ++ ys)) (sym h) ∙ drop-append-add xs ys k

-- the items of a node begin at its site
record NodeBegins (nodes : Nodes) (ds : List DeclTree) (tail : List Item) (k : ℕ) (d : DeclTree) : Type 0 where
  before : Nodes
  after : List Item
  begins : drop (node_site ds k) (node_items nodes ds ++ tail) ≡ decl_items before d ++ after

node_begins : (nodes : Nodes) (ds : List DeclTree) (tail : List Item) (k : ℕ) (d : DeclTree) → slice_get ds k ≡ Some d → NodeBegins nodes ds tail k d
node_begins nodes [] tail k d h = absurd (none-some d h)
node_begins nodes (e ∷ ds) tail zero d h =
    let same : e ≡ d = cc in
    record {
      before = nodes;
      after = node_items (with_node nodes e) ds ++ tail;
      begins = append_assoc (decl_items nodes e) (node_items (with_node nodes e) ds) tail
          ∙ ap (λ x. decl_items nodes x ++ (node_items (with_node nodes e) ds ++ tail)) same;
    }
node_begins nodes (e ∷ ds) tail (suc k) d h =
    let more = node_begins (with_node nodes e) ds tail k d h in
    record {
      before = more.before;
      after = more.after;
      begins = ap (drop (decl_size e + node_site ds k)) (append_assoc (decl_items nodes e) (node_items (with_node nodes e) ds) tail)
          ∙ drop_behind (decl_size e) (node_site ds k) (decl_items nodes e) (node_items (with_node nodes e) ds ++ tail) (length-decl_items nodes e)
          ∙ more.begins;
    }

-- the items of a code begin at its site
record CodeBegins (ports : Ports) (ins outs : List ℕ) (ps : List PortTree) (tail : List Item) (side : Side) (port site index : ℕ) (place : ℕ × ℕ) : Type 0 where
  code : CodeTree
  items_before : ℕ
  codes_before : ℕ
  site_is : place.0 ≡ site + items_before
  index_is : place.1 ≡ index + codes_before
  is_first : find (is_port side port) ps ≡ Some (port_with side port code)
  at_index : slice_get ps codes_before ≡ Some (port_with side port code)
  own_ins : List ℕ
  own_outs : List ℕ
  after : List Item
  begins : drop items_before (port_items ports ins outs ps ++ tail)
      ≡ port_item ports own_ins own_outs (port_with side port code) ∷ (code_items (place_on ports side) code ++ after)

same_side : (a b : Side) → is_same_side a b ≡ true → a ≡ b
same_side Inward Inward h = refl
same_side Inward Outward h = absurd (false≢true h)
same_side Outward Inward h = absurd (false≢true h)
same_side Outward Outward h = refl

is_port_with : (side : Side) (port : ℕ) (p : PortTree) → is_port side port p ≡ true → p ≡ port_with side port p.code
is_port_with side port p h =
    let parts = and_parts (is_same_side p.side side) (eqb p.port port) h in
    let sides = same_side p.side side parts.0 in
    let numbers = eqb-true p.port port parts.1 in
    λ i. record { side = sides i; port = numbers i; code = p.code }

begins_by : (ports : Ports) (ins outs : List ℕ) (p : PortTree) (ps : List PortTree) (tail : List Item) (side : Side) (port site index : ℕ) (place : ℕ × ℕ) (b : Bool)
    → (place_among (site + (1 + code_size p.code)) (index + 1) side port ps ≡ Some place
    → CodeBegins ports (with_input p.side p.port ins) (with_output p.side p.port outs) ps tail side port (site + (1 + code_size p.code)) (index + 1) place)
    → is_port side port p ≡ b
    → cond b (Some (site, index)) (place_among (site + (1 + code_size p.code)) (index + 1) side port ps) ≡ Some place
    → CodeBegins ports ins outs (p ∷ ps) tail side port site index place
begins_by ports ins outs p ps tail side port site index place true later e found =
    let same : (site, index) ≡ place = same_Some (site, index) place found in
    let site_same : site ≡ place.0 = λ i. (same i).0 in
    let index_same : index ≡ place.1 = λ i. (same i).1 in
    let is = is_port_with side port p e in
    let rest = port_items ports (with_input p.side p.port ins) (with_output p.side p.port outs) ps in
    record {
      code = p.code;
      items_before = 0;
      codes_before = 0;
      site_is = omega (arith, site_same);
      index_is = omega (arith, index_same);
      is_first = ap (λ t. cond t (Some p) (find (is_port side port) ps)) e ∙ ap Some is;
      at_index = ap Some is;
      own_ins = ins;
      own_outs = outs;
      after = rest ++ tail;
      begins = ap (λ l. port_item ports ins outs p ∷ l) (append_assoc (code_items (place_on ports p.side) p.code) rest tail)
          ∙ ap (λ (q : PortTree). port_item ports ins outs q ∷ (code_items (place_on ports q.side) p.code ++ (rest ++ tail))) is;
    }
begins_by ports ins outs p ps tail side port site index place false later e found =
    let more = later found in
    let rest = port_items ports (with_input p.side p.port ins) (with_output p.side p.port outs) ps in
    record {
      code = more.code;
      items_before = 1 + code_size p.code + more.items_before;
      codes_before = suc more.codes_before;
      site_is = let is = more.site_is in omega (arith, is);
      index_is = let is = more.index_is in omega (arith, is);
      is_first = ap (λ t. cond t (Some p) (find (is_port side port) ps)) e ∙ more.is_first;
      at_index = more.at_index;
      own_ins = more.own_ins;
      own_outs = more.own_outs;
      after = more.after;
      begins = ap (drop (1 + code_size p.code + more.items_before)) (append_assoc (one_port_items ports ins outs p) rest tail)
          ∙ drop_behind (1 + code_size p.code) more.items_before (one_port_items ports ins outs p) (rest ++ tail) (length-one_port_items ports ins outs p)
          ∙ more.begins;
    }

code_begins : (ports : Ports) (ins outs : List ℕ) (ps : List PortTree) (tail : List Item) (side : Side) (port site index : ℕ) (place : ℕ × ℕ)
    → place_among site index side port ps ≡ Some place → CodeBegins ports ins outs ps tail side port site index place
code_begins ports ins outs [] tail side port site index place h = absurd (none-some place h)
code_begins ports ins outs (p ∷ ps) tail side port site index place h =
    begins_by ports ins outs p ps tail side port site index place (is_port side port p)
    (λ found. code_begins ports (with_input p.side p.port ins) (with_output p.side p.port outs) ps tail side port (site + (1 + code_size p.code)) (index + 1) place found)
    refl h

place_by : (net : NetTree) (node port : ℕ) (side : Side) (place : ℕ × ℕ) (o : Option DeclTree) → slice_get net.nodes node ≡ o
    → place_among (node_site net.nodes node + 1) 0 side port (codes_of_node o) ≡ Some place
    → (code : CodeTree) × IsCodePlace net node side port place code
place_by net node port side place None e h = absurd (none-some place h)
place_by net node port side place (Some d) e h =
    let tail = link_items (nodes_after [] net.nodes) [] net.links in
    let outer = node_begins [] net.nodes tail node d e in
    let inner = code_begins (ports_of d.body) [] [] (codes_of d.body) outer.after side port (node_site net.nodes node + 1) 0 place h in
    let site : place.0 ≡ node_site net.nodes node + suc inner.items_before = (let is = inner.site_is in omega (arith, is)) in
    let index : place.1 ≡ inner.codes_before = (let is = inner.index_is in omega (arith, is)) in (
      inner.code,
      record {
        decl = d;
        is_node = e;
        is_code = ap (λ x. option_map (λ (p : PortTree). p.code) (find (is_port side port) (codes_of_node x))) e
            ∙ ap (option_map (λ (p : PortTree). p.code)) inner.is_first;
        at_index = ap₂ (λ x k. slice_get (codes_of_node x) k) e index ∙ inner.at_index;
        ins = inner.own_ins;
        outs = inner.own_outs;
        after = inner.after;
        at_site = ap (λ n. drop n (net_items net)) site
            ∙ sym (drop-drop (suc inner.items_before) (node_site net.nodes node) (net_items net))
            ∙ ap (drop (suc inner.items_before)) outer.begins
            ∙ inner.begins;
      },
    )

pub place_is_code : (net : NetTree) (node port : ℕ) (side : Side) (place : ℕ × ℕ) → code_place net node side port ≡ Some place
    → (code : CodeTree) × IsCodePlace net node side port place code
place_is_code net node port side place h = place_by net node port side place (slice_get net.nodes node) refl h

absent : (site index : ℕ) (side : Side) (port : ℕ) (ps : List PortTree) → place_among site index side port ps ≡ None → find (is_port side port) ps ≡ None
absent site index side port [] h = refl
absent site index side port (p ∷ ps) h =
    elim (is_port side port p) as
    (λ b. cond b (Some (site, index)) (place_among (site + (1 + code_size p.code)) (index + 1) side port ps) ≡ None → cond b (Some p) (find (is_port side port) ps) ≡ None)
    [ true ↦ λ e. absurd (none-some (site, index) (sym e)) | false ↦ λ e. absent (site + (1 + code_size p.code)) (index + 1) side port ps e ] h

pub no_place_no_code : (net : NetTree) (node port : ℕ) (side : Side) → code_place net node side port ≡ None → code_of net node side port ≡ None
no_place_no_code net node port side h =
    ap (option_map (λ (p : PortTree). p.code)) (absent (node_site net.nodes node + 1) 0 side port (codes_at net node) h)

slice_get-drop : {A : Type 0} (n k : ℕ) (xs : List A) → slice_get (drop n xs) k ≡ slice_get xs (n + k)
slice_get-drop zero k xs = ap (slice_get xs) (sym (zero-add k))
slice_get-drop (suc n) k [] = refl
slice_get-drop (suc n) k (x ∷ xs) = slice_get-drop n k xs ∙ ap (slice_get (x ∷ xs)) (sym (suc-add n k))

slice_get-append : {A : Type 0} (xs ys : List A) (k : ℕ) → k < length xs → slice_get (xs ++ ys) k ≡ slice_get xs k
slice_get-append [] ys k h = absurd (omega (arith, h))
slice_get-append (x ∷ xs) ys zero h = refl
slice_get-append (x ∷ xs) ys (suc k) h = slice_get-append xs ys k (omega (arith, h))

pub instr_sites : (net : NetTree) (node port : ℕ) (side : Side) (place : ℕ × ℕ) (code : CodeTree) (found : IsCodePlace net node side port place code)
    → AreInstrSites net place.0 (place_on (ports_of found.decl.body) side) code
instr_sites net node port side place code found k h =
    let items = code_items (place_on (ports_of found.decl.body) side) code in
    let count = length-code_items (place_on (ports_of found.decl.body) side) code in
    let within_code : k < length items = omega (arith, count, h) in
    let there : place.0 + 1 + k ≡ place.0 + suc k = omega arith in
    ap (slice_get (net_items net)) there ∙ sym (slice_get-drop place.0 (suc k) (net_items net))
    ∙ ap (λ l. slice_get l (suc k)) found.at_site ∙ slice_get-append items found.after k within_code
