-- Nodes, metadata and tags of an accepted net are found by their names.
use Rattle.std.proofs.Common.{◌≡◌, ◌∙◌, inl, inr, refl, sym, subst, ap, ℕ, ◌<◌, ◌≤◌, Bool, true, false, cond, if◌then◌else◌, List, [], ◌∷◌, length, Some, None, option_map, is_some, unwrap_or, bytes_eq, position, slice_get, true≢false, arith}
use Rattle.std.proofs.lemmas.Cmp.{nat_list_eq_equiv}
use Rattle.std.proofs.lemmas.Option.{slice_get_cases}
use Rattle.std.proofs.lemmas.Slice.Eq.{bytes_eq-Decides}
use Rattle.std.specs.Prelude.{flat_map}
use Rattle.std.specs.Cmp.Lexicographic.{slice_cmp}
use Rattle.std.specs.List.{AllByRecursion, IsDistinct}
use Rattle.std.specs.List.Sorted.{IsStrictlySortedBy}
use Rattle.std.specs.Map.{lookup}
use Rattle.std.specs.Ordering.{nat_cmp}
use Rattle.indexmap.specs.IndexMap.{insert_entry}
use Rattle.sn_width.specs.declared.ids.NodeId.{NodeId}
use Rattle.sn_width.specs.declared.ids.NameId.{NameId}
use Rattle.sn_width.specs.declared.ids.TagId.{TagId}
use Rattle.sefl_syntax.specs.Name.{is_name}
use Rattle.sefl_syntax.specs.Trees.{DeclTree}
use Rattle.job_items.specs.declared.ports.Ports.{Ports}
use Rattle.job_items.specs.Items.{decl_items, job_items, link_items, net_items, node_items}
use Rattle.job_items.specs.Nodes.{Nodes, node_named, nodes_after, ports_of, with_node}
use Rattle.job_names.specs.Occurrences.{as_set, item_metas, item_tags}
use Rattle.net_check.specs.Places.{node_position}
use Rattle.net_check.specs.Keeping.{KeepsRules}
use Rattle.net_check.specs.Network.{Network}
use Rattle.net_check.specs.Sound.{IsAcceptedNet}
use Rattle.run_text.specs.Names.{meta_name, node_name, tag_name}
use Rattle.report_names.specs.Names as report
use Rattle.report_names.specs.Own.{IsOwnName, IsOwnNode, IsOwnTag}
use Rattle.report_forms.specs.Spelled.{AreSpelled, IsSpelled}
use Rattle.report_forms.proofs.Lists.{all_at, all_first, all_later}
use Rattle.report_forms.proofs.Places.{first_with, sorted_place}

-- ---- names that are read

module _ (name k : List ℕ) (v : Ports) where
  still_read : (es : Nodes) → is_some (lookup (bytes_eq name) es) ≡ true → is_some (lookup (bytes_eq name) (insert_entry bytes_eq es k v)) ≡ true
  still_read [] h = absurd (true≢false (sym h))
  still_read (e ∷ es) h = by (bytes_eq name e.0) (bytes_eq k e.0) refl h (still_read es)
    where
      by : (b same : Bool) → bytes_eq name e.0 ≡ b → is_some (cond b (Some e.1) (lookup (bytes_eq name) es)) ≡ true
          → (is_some (lookup (bytes_eq name) es) ≡ true → is_some (lookup (bytes_eq name) (insert_entry bytes_eq es k v)) ≡ true)
          → is_some (lookup (bytes_eq name) (if same then ((e.0, v) ∷ es) else (e ∷ insert_entry bytes_eq es k v))) ≡ true
      by true true p h rest = ap (λ b. is_some (cond b (Some v) (lookup (bytes_eq name) es))) p
      by true false p h rest = ap (λ b. is_some (cond b (Some e.1) (lookup (bytes_eq name) (insert_entry bytes_eq es k v)))) p
      by false true p h rest = ap (λ b. is_some (cond b (Some v) (lookup (bytes_eq name) es))) p ∙ h
      by false false p h rest = ap (λ b. is_some (cond b (Some e.1) (lookup (bytes_eq name) (insert_entry bytes_eq es k v)))) p ∙ rest h

now_read : (k : List ℕ) (v : Ports) (es : Nodes) → is_some (lookup (bytes_eq k) (insert_entry bytes_eq es k v)) ≡ true
now_read k v [] = ap (λ b. is_some (cond b (Some v) None)) (nat_list_eq_equiv.refl k)
now_read k v (e ∷ es) = by (bytes_eq k e.0) refl (now_read k v es)
  where
    by : (b : Bool) → bytes_eq k e.0 ≡ b → is_some (lookup (bytes_eq k) (insert_entry bytes_eq es k v)) ≡ true
        → is_some (lookup (bytes_eq k) (if b then ((e.0, v) ∷ es) else (e ∷ insert_entry bytes_eq es k v))) ≡ true
    by true p rest = ap (λ b. is_some (cond b (Some v) (lookup (bytes_eq k) es))) p
    by false p rest = ap (λ b. is_some (cond b (Some e.1) (lookup (bytes_eq k) (insert_entry bytes_eq es k v)))) p ∙ rest

-- a later node has no name that was read before
unread : (nodes : Nodes) (ds : List DeclTree) (name : List ℕ) → AllByRecursion KeepsRules (node_items nodes ds)
    → is_some (node_named nodes name) ≡ true → AllByRecursion (λ d. bytes_eq name d.name ≡ false) ds
unread nodes [] name h read = tt
unread nodes (d ∷ ds) name h read = (
  other (bytes_eq name d.name) refl,
  unread (with_node nodes d) ds name (all_later KeepsRules (decl_items nodes d) (node_items (with_node nodes d) ds) h)
      (still_read name d.name (ports_of d.body) nodes read),
)
  where
    other : (b : Bool) → bytes_eq name d.name ≡ b → bytes_eq name d.name ≡ false
    other false p = p
    other true p =
        let same : name ≡ d.name = (bytes_eq-Decides name d.name).0 p in
        absurd (true≢false (sym read ∙ (ap (λ n. is_some (node_named nodes n)) same ∙ h.0.node_once)))

distinct_nodes : (nodes : Nodes) (ds : List DeclTree) → AllByRecursion KeepsRules (node_items nodes ds) → IsDistinct (λ a b. bytes_eq a.name b.name) ds
unfolding IsDistinct
distinct_nodes nodes [] h = tt
distinct_nodes nodes (d ∷ ds) h =
    let later = all_later KeepsRules (decl_items nodes d) (node_items (with_node nodes d) ds) h in (
      unread (with_node nodes d) ds d.name later (now_read d.name (ports_of d.body) nodes),
      distinct_nodes (with_node nodes d) ds later,
    )

-- ---- members of lists

-- the member at a place within
pub member_at : {X : Type 0} (xs : List X) (i : ℕ) → i < length xs → (x : X) × (slice_get xs i ≡ Some x)
member_at xs i below = elim ((slice_get_cases xs i).1) [ inl h ↦ (h.0, h.2) | inr h ↦ absurd (past h.0) ]
  where
    past : length xs ≤ i → ⊥
    past h = omega (arith, h, below)

-- ---- nodes

pub node_found : (net : Network) → AllByRecursion KeepsRules (net_items net.own) → AreSpelled net → (node : NodeId) → node.0 < length net.own.nodes
    → IsOwnNode net node
unfolding node_name
node_found net rules spelled node below =
    let found = member_at net.own.nodes node.0 below in
    let d = found.0 in
    let named : node_name net node ≡ d.name = ap (λ o. unwrap_or (option_map (λ d. d.name) o) []) found.1 in
    let first : node_position net.own d.name ≡ Some node.0 = first_with (λ d. d.name) net.own.nodes node.0 d
    (distinct_nodes [] net.own.nodes (all_first KeepsRules (node_items [] net.own.nodes) (link_items (nodes_after [] net.own.nodes) [] net.own.links) rules)) found.1 in
    let name : is_name d.name ≡ true = all_at (λ d. IsSpelled d.name) net.own.nodes node.0 d spelled.nodes found.1 in
    subst (λ s. report.node_named net s ≡ Some node.0) (sym named) (ap (λ b. if b then node_position net.own d.name else None) name ∙ first)

-- ---- metadata and tags

module _ (sorted : (texts : List (List ℕ)) → IsStrictlySortedBy (slice_cmp nat_cmp) (as_set texts)) (net : Network) (accepted : IsAcceptedNet net) (spelled : AreSpelled net) where
  pub meta_found : (name : NameId) → name.0 < length net.names.metas → IsOwnName net name
  unfolding meta_name
  meta_found name below =
      let found = member_at net.names.metas name.0 below in
      let text = found.0 in
      let named : meta_name net name ≡ text = ap (λ o. unwrap_or o []) found.1 in
      let ascend : IsStrictlySortedBy (slice_cmp nat_cmp) net.names.metas =
      subst (λ names. IsStrictlySortedBy (slice_cmp nat_cmp) names.metas) (sym accepted.2.names) (sorted (flat_map item_metas (job_items accepted.0))) in
      let first : position (bytes_eq text) net.names.metas ≡ Some name.0 = sorted_place net.names.metas name.0 text ascend found.1 in
      let is : is_name text ≡ true = all_at IsSpelled net.names.metas name.0 text spelled.metas found.1 in
      subst (λ s. report.meta_named net s ≡ Some name.0) (sym named) (ap (λ b. if b then position (bytes_eq text) net.names.metas else None) is ∙ first)

  pub tag_found : (tag : TagId) → tag.0 < length net.names.tags → IsOwnTag net tag
  unfolding tag_name
  tag_found tag below =
      let found = member_at net.names.tags tag.0 below in
      let text = found.0 in
      let named : tag_name net tag ≡ text = ap (λ o. unwrap_or o []) found.1 in
      let ascend : IsStrictlySortedBy (slice_cmp nat_cmp) net.names.tags =
      subst (λ names. IsStrictlySortedBy (slice_cmp nat_cmp) names.tags) (sym accepted.2.names) (sorted (flat_map item_tags (job_items accepted.0))) in
      let first : position (bytes_eq text) net.names.tags ≡ Some tag.0 = sorted_place net.names.tags tag.0 text ascend found.1 in
      let is : is_name text ≡ true = all_at IsSpelled net.names.tags tag.0 text spelled.tags found.1 in
      subst (λ s. report.tag_named net s ≡ Some tag.0) (sym named) (ap (λ b. if b then position (bytes_eq text) net.names.tags else None) is ∙ first)
