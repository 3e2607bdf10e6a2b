-- Codes by port, code by code and node by node.
use Rattle.std.proofs.Common.{◌≡◌, ℕ, zero, suc, ◌+◌, ◌<◌, ◌≤◌, ◌⊎◌, inl, inr, Bool, true, false, cond, List, [], ◌∷◌, length, get_or, drop, map, Option, Some, None, slice_get, option_map, nat_lt, eqb, refl, sym, ◌∙◌, ap, ap₂, arith, add-one}
use Rattle.std.specs.Option.{option_or}
use Rattle.std.proofs.lemmas.Bool.{ltb-true, ltb-false, lt-ltb, le-ltb, eq-eqb, eqb-true}
use Rattle.std.proofs.lemmas.Option.{slice_get-map, slice_get_past, slice_get_read}
use Rattle.sn_width.specs.declared.ids.NodeId.{NodeId}
use Rattle.sefl_syntax.specs.declared.net.Side.{Side}
use Rattle.sefl_syntax.specs.declared.net.PortCode.{PortCode}
use Rattle.sefl_syntax.specs.declared.net.NodeDecl.{NodeDecl}
use Rattle.sefl_syntax.specs.Trees.{DeclTree}
use Rattle.sefl_syntax.specs.Views.{port_tree, decl_tree, code_tree}
use Rattle.job_items.specs.Nodes.{codes_of}
use Rattle.net_check.specs.Lookups.{of_node}
use Rattle.net_check.specs.Places.{is_port, code_size, codes_size, decl_size, node_site, place_among, place_in, codes_of_node}
use Rattle.net_check.proofs.First.{option_or-none, option_or-option_or, option_or-cond}
use Rattle.net_check.proofs.Counting.{next_of}

of_node-option_or : {A : Type 0} (own other : NodeId) (a b : Option A)
    → option_or (of_node own other a) (of_node own other b) ≡ of_node own other (option_or a b)
of_node-option_or {A} own other a b =
    elim (eqb own.0 other.0) as (λ t. option_or (cond t a None) (cond t b None) ≡ cond t (option_or a b) None) [ true ↦ refl | false ↦ refl ]

-- one more code
pub code_enters : (own other : NodeId) (side : Side) (port site next : ℕ) (ports : List PortCode) (i : ℕ) (x : PortCode) (old new whole : Option (ℕ × ℕ))
    → i < length ports → x ≡ get_or ports i x
    → next ≡ site + (1 + code_size (code_tree x.code.items))
    → new ≡ option_or old (of_node own other (cond (is_port side port (port_tree x)) (Some (site, i)) None))
    → option_or old (of_node own other (place_among site i side port (map port_tree (drop i ports)))) ≡ whole
    → option_or new (of_node own other (place_among next (i + 1) side port (map port_tree (drop (i + 1) ports)))) ≡ whole
code_enters own other side port site next ports i x old new whole h is ends made left =
    let found = cond (is_port side port (port_tree x)) (Some (site, i)) None in
    let later = map port_tree (drop (i + 1) ports) in
    let rest = place_among (site + (1 + code_size (code_tree x.code.items))) (i + 1) side port later in
    ap₂ (λ o n. option_or o (of_node own other (place_among n (i + 1) side port later))) made ends
    ∙ option_or-option_or old (of_node own other found) (of_node own other rest)
    ∙ ap (option_or old) (of_node-option_or own other found rest ∙ ap (of_node own other) (option_or-cond (is_port side port (port_tree x)) (site, i) rest))
    ∙ sym (ap (λ ps. option_or old (of_node own other (place_among site i side port (map port_tree ps)))) (next_of ports i x h is))
    ∙ left

pub codes_size-drop : (ports : List PortCode) (i : ℕ) (x : PortCode) → i < length ports → x ≡ get_or ports i x
    → codes_size (map port_tree (drop i ports)) ≡ 1 + code_size (code_tree x.code.items) + codes_size (map port_tree (drop (i + 1) ports))
codes_size-drop ports i x h is = ap (λ ps. codes_size (map port_tree ps)) (next_of ports i x h is)

pub node_site-suc : (ds : List DeclTree) (k : ℕ) (d : DeclTree) → slice_get ds k ≡ Some d → node_site ds (suc k) ≡ node_site ds k + decl_size d
node_site-suc [] k d h = cc
node_site-suc (e ∷ ds) zero d h = let same : e ≡ d = cc in ap (λ x. decl_size x + 0) same ∙ omega arith
node_site-suc (e ∷ ds) (suc k) d h = let more = node_site-suc ds k d h in omega (arith, more)

pub node_there : (nodes : List NodeDecl) (i : ℕ) (x : NodeDecl) → i < length nodes → x ≡ get_or nodes i x
    → slice_get (map decl_tree nodes) i ≡ Some (decl_tree x)
node_there nodes i x h is = slice_get-map decl_tree nodes i ∙ ap (option_map decl_tree) (slice_get_read nodes (length nodes) i x refl h is)

pub site_goes_on : (nodes : List NodeDecl) (i site next : ℕ) (x : NodeDecl) → i < length nodes → x ≡ get_or nodes i x
    → site ≡ node_site (map decl_tree nodes) i → next ≡ site + decl_size (decl_tree x) → next ≡ node_site (map decl_tree nodes) (i + 1)
site_goes_on nodes i site next x h is here ends =
    ends ∙ ap (λ s. s + decl_size (decl_tree x)) here ∙ sym (node_site-suc (map decl_tree nodes) i (decl_tree x) (node_there nodes i x h is))
    ∙ ap (node_site (map decl_tree nodes)) (sym (add-one i))

three_ways : (n i : ℕ) → (n < i) ⊎ ((n ≡ i) ⊎ (i < n))
three_ways n i = three_by (nat_lt n i) (nat_lt i n) refl refl
  where
    three_by : (a b : Bool) → nat_lt n i ≡ a → nat_lt i n ≡ b → (n < i) ⊎ ((n ≡ i) ⊎ (i < n))
    three_by true b e f = inl (ltb-true n i e)
    three_by false true e f = inr (inr (ltb-true i n f))
    three_by false false e f = inr (inl (omega (arith, ltb-false n i e, ltb-false i n f)))

eqb-apart : (a b : ℕ) → (a ≡ b → ⊥) → eqb a b ≡ false
eqb-apart a b apart = apart_by (eqb a b) refl
  where
    apart_by : (t : Bool) → eqb a b ≡ t → t ≡ false
    apart_by true e = absurd (apart (eqb-true a b e))
    apart_by false e = refl

enters_by : (ds : List DeclTree) (d : DeclTree) (side : Side) (port site n i : ℕ) (old : Option (ℕ × ℕ)) → slice_get ds i ≡ Some d → site ≡ node_site ds i
    → old ≡ cond (nat_lt n i) (place_in ds n side port) None → (n < i) ⊎ ((n ≡ i) ⊎ (i < n))
    → option_or old (cond (eqb i n) (place_among (site + 1) 0 side port (codes_of d.body)) None) ≡ cond (nat_lt n (i + 1)) (place_in ds n side port) None
enters_by ds d side port site n i old there here was (inl below) =
    let before = ap (λ t. cond t (place_in ds n side port) None) (lt-ltb n i below) in
    ap₂ (λ o t. option_or o (cond t (place_among (site + 1) 0 side port (codes_of d.body)) None)) (was ∙ before) (eqb-apart i n (omega arith))
    ∙ option_or-none (place_in ds n side port)
    ∙ sym (ap (λ t. cond t (place_in ds n side port) None) (lt-ltb n (i + 1) (omega arith)))
enters_by ds d side port site n i old there here was (inr (inl same)) =
    let before = ap (λ t. cond t (place_in ds n side port) None) (le-ltb n i (omega arith)) in
    ap₂ (λ o t. option_or o (cond t (place_among (site + 1) 0 side port (codes_of d.body)) None)) (was ∙ before) (eq-eqb i n (sym same))
    ∙ ap₂ (λ s o. place_among (s + 1) 0 side port (codes_of_node o)) here (sym there)
    ∙ ap (λ k. place_in ds k side port) (sym same)
    ∙ sym (ap (λ t. cond t (place_in ds n side port) None) (lt-ltb n (i + 1) (omega arith)))
enters_by ds d side port site n i old there here was (inr (inr above)) =
    let before = ap (λ t. cond t (place_in ds n side port) None) (le-ltb n i (omega arith)) in
    ap₂ (λ o t. option_or o (cond t (place_among (site + 1) 0 side port (codes_of d.body)) None)) (was ∙ before) (eqb-apart i n (omega arith))
    ∙ sym (ap (λ t. cond t (place_in ds n side port) None) (le-ltb n (i + 1) (omega arith)))

-- one more node
pub node_enters : (nodes : List NodeDecl) (x : NodeDecl) (id other : NodeId) (side : Side) (port site i : ℕ) (old new : Option (ℕ × ℕ))
    → i < length nodes → x ≡ get_or nodes i x → id.0 ≡ i → site ≡ node_site (map decl_tree nodes) i
    → old ≡ cond (nat_lt other.0 i) (place_in (map decl_tree nodes) other.0 side port) None
    → new ≡ option_or old (of_node id other (place_among (site + 1) 0 side port (codes_of (decl_tree x).body)))
    → new ≡ cond (nat_lt other.0 (i + 1)) (place_in (map decl_tree nodes) other.0 side port) None
node_enters nodes x id other side port site i old new h is same here was made =
    made ∙ ap (λ k. option_or old (cond (eqb k other.0) (place_among (site + 1) 0 side port (codes_of (decl_tree x).body)) None)) same
    ∙ enters_by (map decl_tree nodes) (decl_tree x) side port site other.0 i old (node_there nodes i x h is) here was (three_ways other.0 i)

-- no more nodes
pub nodes_are_entered : (nodes : List NodeDecl) (other : NodeId) (side : Side) (port i : ℕ) (old : Option (ℕ × ℕ)) → length nodes ≤ i
    → old ≡ cond (nat_lt other.0 i) (place_in (map decl_tree nodes) other.0 side port) None
    → old ≡ place_in (map decl_tree nodes) other.0 side port
nodes_are_entered nodes other side port i old h was = was ∙ all_by (nat_lt other.0 i) refl
  where
    all_by : (b : Bool) → nat_lt other.0 i ≡ b
        → cond b (place_in (map decl_tree nodes) other.0 side port) None ≡ place_in (map decl_tree nodes) other.0 side port
    all_by true e = refl
    all_by false e =
        let past : length nodes ≤ other.0 = omega (arith, ltb-false other.0 i e) in
        let none : slice_get (map decl_tree nodes) other.0 ≡ None
        = slice_get-map decl_tree nodes other.0 ∙ ap (option_map decl_tree) (slice_get_past nodes other.0 past) in
        sym (ap (λ o. place_among (node_site (map decl_tree nodes) other.0 + 1) 0 side port (codes_of_node o)) none)
