-- Positions of names, and links between ports.
use Rattle.std.proofs.Common.{◌≡◌, ℕ, zero, suc, ◌+◌, Bool, true, false, cond, ◌&&◌, eqb, List, [], ◌∷◌, Option, Some, None, slice_get, filter_map, refl, sym, ◌∙◌, ap, ap₂, subst, arith, bytes_eq}
use Rattle.std.specs.List.{cons_option, position_from}
use Rattle.std.specs.Option.{option_zip}
use Rattle.std.proofs.lemmas.Bool.{and_parts, eqb-true, eq-eqb, false≢true}
use Rattle.std.proofs.lemmas.Iterator.Adapters.{position_from-zero}
use Rattle.std.proofs.lemmas.Option.{none-some, same_Some}
use Rattle.std.proofs.lemmas.Slice.Eq.{bytes_eq-Decides}
use Rattle.sefl_syntax.specs.declared.net.Link.{Link}
use Rattle.sefl_syntax.specs.Trees.{DeclTree, NetTree}
use Rattle.net_check.specs.Laws.{IsLinked, AreLoose, IsNamed}
use Rattle.net_check.specs.Places.{Port, has_name, node_position, is_same_port, port_on, way_of, way_from, link_from}

-- names

record IsNamedAmong (name : List ℕ) (ds : List DeclTree) (start node : ℕ) : Type 0 where
  before : ℕ
  is_behind : node ≡ start + before
  decl : DeclTree
  there : slice_get ds before ≡ Some decl
  named : decl.name ≡ name

named_by : (name : List ℕ) (d : DeclTree) (ds : List DeclTree) (start node : ℕ) (b : Bool)
    → (position_from (has_name name) (start + 1) ds ≡ Some node → IsNamedAmong name ds (start + 1) node)
    → bytes_eq name d.name ≡ b → cond b (Some start) (position_from (has_name name) (start + 1) ds) ≡ Some node
    → IsNamedAmong name (d ∷ ds) start node
named_by name d ds start node true later e h =
    let same : start ≡ node = same_Some start node h in
    record { before = 0; is_behind = omega (arith, same); decl = d; there = refl; named = sym ((bytes_eq-Decides name d.name).0 e) }
named_by name d ds start node false later e h =
    let more = later h in
    let behind = more.is_behind in
    record { before = suc more.before; is_behind = omega (arith, behind); decl = more.decl; there = more.there; named = more.named }

named_among : (name : List ℕ) (ds : List DeclTree) (start node : ℕ) → position_from (has_name name) start ds ≡ Some node → IsNamedAmong name ds start node
named_among name [] start node h = absurd (none-some node h)
named_among name (d ∷ ds) start node h =
    named_by name d ds start node (bytes_eq name d.name) (λ e. named_among name ds (start + 1) node e) refl h

pub position_is_named : (net : NetTree) (name : List ℕ) (node : ℕ) → node_position net name ≡ Some node → IsNamed net node name
position_is_named net name node h =
    let found = named_among name net.nodes 0 node (sym (position_from-zero (has_name name) net.nodes) ∙ h) in
    let behind = found.is_behind in
    let same : node ≡ found.before = omega (arith, behind) in
    (found.decl, ap (slice_get net.nodes) same ∙ found.there, found.named)

unnamed_by : (name : List ℕ) (d : DeclTree) (start : ℕ) (rest : Option ℕ) (b : Bool) → cond b (Some start) rest ≡ None → (b ≡ false) × (rest ≡ None)
unnamed_by name d start rest true h = absurd (none-some start (sym h))
unnamed_by name d start rest false h = (refl, h)

unnamed_among : (name : List ℕ) (ds : List DeclTree) (start node : ℕ) (d : DeclTree) → position_from (has_name name) start ds ≡ None
    → slice_get ds node ≡ Some d → d.name ≡ name → ⊥
unnamed_among name [] start node d h there named = none-some d there
unnamed_among name (e ∷ ds) start zero d h there named =
    let none = unnamed_by name e start (position_from (has_name name) (start + 1) ds) (bytes_eq name e.name) h in
    let same : e ≡ d = same_Some e d there in
    let is : bytes_eq name e.name ≡ true = (bytes_eq-Decides name e.name).1 (sym (ap (λ (x : DeclTree). x.name) same ∙ named)) in
    false≢true (sym none.0 ∙ is)
unnamed_among name (e ∷ ds) start (suc node) d h there named =
    let none = unnamed_by name e start (position_from (has_name name) (start + 1) ds) (bytes_eq name e.name) h in
    unnamed_among name ds (start + 1) node d none.1 there named

pub no_position_no_name : (net : NetTree) (name : List ℕ) (node : ℕ) → node_position net name ≡ None → IsNamed net node name → ⊥
no_position_no_name net name node h found =
    unnamed_among name net.nodes 0 node found.0 (sym (position_from-zero (has_name name) net.nodes) ∙ h) found.1 found.2

-- links

module _ (named : List ℕ → Option ℕ) (start : Port) where
  linked_later : (l : Link) (ls : List Link) (end : Port) → IsLinked named ls start end → IsLinked named (l ∷ ls) start end
  linked_later l ls end more = record {
    index = suc more.index;
    link = more.link;
    is_link = more.is_link;
    from = more.from;
    from_port = more.from_port;
    to = more.to;
    to_port = more.to_port;
  }

  linked_here : (l : Link) (ls : List Link) (end : Port) (f t : ℕ) (b : Bool) → named l.from ≡ Some f → named l.to ≡ Some t
      → is_same_port (f, l.from_port) start ≡ b
      → (way_from (filter_map (way_of named) ls) start ≡ Some end → IsLinked named ls start end)
      → cond b (Some (t, l.to_port)) (way_from (filter_map (way_of named) ls) start) ≡ Some end
      → IsLinked named (l ∷ ls) start end
  linked_here l ls end f t true from to e later h =
      let parts = and_parts (eqb f start.0) (eqb l.from_port start.1) e in
      let same : (t, l.to_port) ≡ end = same_Some (t, l.to_port) end h in
      let same_node : t ≡ end.0 = λ i. (same i).0 in
      let same_port : l.to_port ≡ end.1 = λ i. (same i).1 in
      record {
        index = 0;
        link = l;
        is_link = refl;
        from = from ∙ ap Some (eqb-true f start.0 parts.0);
        from_port = eqb-true l.from_port start.1 parts.1;
        to = to ∙ ap Some same_node;
        to_port = same_port;
      }
  linked_here l ls end f t false from to e later h = linked_later l ls end (later h)

  linked_by : (l : Link) (ls : List Link) (end : Port) (a b : Option ℕ) → named l.from ≡ a → named l.to ≡ b
      → (way_from (filter_map (way_of named) ls) start ≡ Some end → IsLinked named ls start end)
      → way_from (cons_option (option_zip (port_on a l.from_port) (port_on b l.to_port)) (filter_map (way_of named) ls)) start ≡ Some end
      → IsLinked named (l ∷ ls) start end
  linked_by l ls end None b from to later h = linked_later l ls end (later h)
  linked_by l ls end (Some f) None from to later h = linked_later l ls end (later h)
  linked_by l ls end (Some f) (Some t) from to later h = linked_here l ls end f t (is_same_port (f, l.from_port) start) from to refl later h

  linked : (ls : List Link) (end : Port) → way_from (filter_map (way_of named) ls) start ≡ Some end → IsLinked named ls start end
  linked [] end h = absurd (none-some end h)
  linked (l ∷ ls) end h = linked_by l ls end (named l.from) (named l.to) refl refl (λ e. linked ls end e) h

  none_by : (end : Port) (rest : Option Port) (b : Bool) → cond b (Some end) rest ≡ None → rest ≡ None
  none_by end rest true h = absurd (none-some end (sym h))
  none_by end rest false h = h

  none_later : (way : Option (Port × Port)) (ways : List (Port × Port)) → way_from (cons_option way ways) start ≡ None → way_from ways start ≡ None
  none_later None ways h = h
  none_later (Some w) ways h = none_by w.1 (way_from ways start) (is_same_port w.0 start) h

  loose_by : (l : Link) (ways : List (Port × Port)) (b : Option ℕ) → named l.to ≡ b → named l.from ≡ Some start.0 → l.from_port ≡ start.1
      → way_from (cons_option (way_of named l) ways) start ≡ None → named l.to ≡ None
  loose_by l ways None to from port h = to
  loose_by l ways (Some t) to from port h =
      let test : (eqb start.0 start.0 && eqb l.from_port start.1) ≡ true = ap₂ (λ p q. p && q) (eq-eqb start.0 start.0 refl) (eq-eqb l.from_port start.1 port) in
      let there : way_from (cons_option (way_of named l) ways) start ≡ Some (t, l.to_port)
      = ap₂ (λ a b. way_from (cons_option (option_zip (port_on a l.from_port) (port_on b l.to_port)) ways) start) from to
      ∙ ap (λ b. cond b (Some (t, l.to_port)) (way_from ways start)) test in
      absurd (none-some (t, l.to_port) (sym h ∙ there))

  loose : (ls : List Link) → way_from (filter_map (way_of named) ls) start ≡ None → AreLoose named ls start
  loose [] h index link there from port = absurd (none-some link there)
  loose (l ∷ ls) h zero link there from port =
      let same : l ≡ link = same_Some l link there in
      let P : Link → Type 0 = λ x. named x.from ≡ Some start.0 in
      let Q : Link → Type 0 = λ x. x.from_port ≡ start.1 in
      let R : Link → Type 0 = λ x. named x.to ≡ None in
      subst R same (loose_by l (filter_map (way_of named) ls) (named l.to) refl (subst P (sym same) from) (subst Q (sym same) port) h)
  loose (l ∷ ls) h (suc index) link there from port =
      loose ls (none_later (way_of named l) (filter_map (way_of named) ls) h) index link there from port

pub told_is_linked : (net : NetTree) (node port : ℕ) (end : Port) → link_from net node port ≡ Some end → IsLinked (node_position net) net.links (node, port) end
told_is_linked net node port end h = linked (node_position net) (node, port) net.links end h

pub untold_is_loose : (net : NetTree) (node port : ℕ) → link_from net node port ≡ None → AreLoose (node_position net) net.links (node, port)
untold_is_loose net node port h = loose (node_position net) (node, port) net.links h
