-- What a net does names its own nodes, tags and metadata alone.
use Rattle.std.proofs.Common.{◌≡◌, refl, sym, subst, ℕ, ℤ, zero, suc, ◌+◌, ◌<◌, Bool, true, false, not, ◌||◌, cond, if◌then◌else◌, List, [], ◌∷◌, ◌++◌, length, Option, None, Some, option_map, Result, Ok, Err, map, bytes_eq, true≢false, arith}
use Rattle.std.specs.Prelude.{IfOk, drop, filter, flat_map, unwrap_or}
use Rattle.std.specs.Option.{IfSome}
use Rattle.std.specs.List.{AllByRecursion, list_any, position_or_len}
use Rattle.std.specs.declared.cmp.Ordering.{Ordering}
use Rattle.std.specs.Ordering.{int_cmp, nat_cmp}
use Rattle.sn_width.specs.declared.faults.LayoutFault.{LayoutFault}
use Rattle.sn_width.specs.declared.faults.LayoutFault.TheVariants.{NoField, NoMeta, WidthDiffers}
use Rattle.sn_width.specs.declared.ids.NodeId.{NodeId}
use Rattle.sn_width.specs.declared.ids.NameId.{NameId}
use Rattle.sn_width.specs.declared.ids.TagId.{TagId}
use Rattle.sn_tree.specs.Ends.{tail}
use Rattle.sn_tree.specs.Pairs.{pairs_after, pairs_before}
use Rattle.cell_stacks.specs.declared.cell.Cell.{Cell}
use Rattle.cell_stacks.specs.Cells.{accepts, popped, pushed, set_cell, top_cell, unset_cell, with_top}
use Rattle.cell_stacks.specs.Outcome.{and_then, on_ok}
use Rattle.cell_stacks.specs.Stacks.{stack_at, with_stack}
use Rattle.header_layers.specs.Layout as layout
use Rattle.header_layers.specs.Layout.{Layout, address_of, top_address}
use Rattle.metadata_scopes.specs.Scopes as scopes
use Rattle.metadata_scopes.specs.Scopes.{Metadata, key_cmp}
use Rattle.metadata_scopes.specs.Snapshot.{is_allocated, present_of}
use Rattle.sefl_syntax.specs.declared.net.Side.{Side}
use Rattle.sefl_syntax.specs.declared.net.Side.TheVariants.{Inward, Outward}
use Rattle.sefl_syntax.specs.declared.reference.Addr.{Addr}
use Rattle.sefl_syntax.specs.declared.reference.Scope.{Scope}
use Rattle.sefl_syntax.specs.declared.reference.Scope.TheVariants.{Global, Local}
use Rattle.sefl_syntax.specs.declared.reference.Target.{Target}
use Rattle.sefl_syntax.specs.declared.reference.Target.TheVariants.{Header, Meta, Bound}
use Rattle.sefl_syntax.specs.declared.job.RawField.{RawField}
use Rattle.sefl_syntax.specs.Trees.{InstrTree, CodeTree, InjectionTree, ExprTree, allocate, deallocate, assign, assign_any, create_tag, set_tag, destroy_tag, constrain, fail, branch, each, forward, fork, block, no_op, no_code, instr_and}
use Rattle.job_items.specs.Atoms.{expr_reads}
use Rattle.job_items.specs.AtomRules.{meta_name, width_of}
use Rattle.job_items.specs.Items as items
use Rattle.job_items.specs.Items.{Item, code_items, field_items, inner_items, instr_item, net_items, tag_item, tag_items, within}
use Rattle.job_items.specs.Nodes.{ports_of}
use Rattle.job_items.specs.Tags.{Tags, with_tag}
use Rattle.std.proofs.lemmas.Option.{slice_get_within}
use Rattle.sefl_syntax.specs.Trees.{NetTree}
use Rattle.job_items.specs.Items.{value_items, test_item}
use Rattle.job_items.specs.Tags.{tags_after}
use Rattle.net_check.specs.Laws.{IsCodePlace, IsLinked, IsNamed, place_on}
use Rattle.net_check.specs.Places as places
use Rattle.net_check.specs.Places.{Port, code_place, link_from, node_position}
use Rattle.net_check.specs.Keeping.{HasNamesOf, IsAmong, line_items}
use Rattle.net_check.specs.Sound.{AreIdsFrom}
use Rattle.sefl_meaning.specs.declared.walk.Iteration.{Iteration}
use Rattle.sefl_meaning.specs.declared.walk.Failure.TheVariants.{Constraint}
use Rattle.sefl_meaning.specs.Values.{Values}
use Rattle.sefl_meaning.specs.Network.{Network, code_of, code_size, inner_size, link_of, name_id, names_found, port_at, tag_id}
use Rattle.sefl_meaning.specs.Carried.{Carried, Key, Scene, base_tag, bound_key, nothing, owner_of, scene_at, stepped, with_layers, with_scopes}
use Rattle.sefl_meaning.specs.Runs.{Exit, off, go, forked, failed, in_iteration, iterations_of}
use Rattle.sefl_meaning.specs.Terms.{truth_in, value_in}
use Rattle.sefl_meaning.specs.Steps.{allocated, assigned, deallocated, evaluated, tag_created, tag_destroyed, tag_set}
use Rattle.sefl_meaning.specs.Courses.{Course, Progress, after, asks, at_constrain, at_if, begin, chosen, course_code, course_in, course_iterations, ends, off_or, step, unless_fault}
use Rattle.sefl_meaning.specs.Trees.{Copies, Onward, Tree, arrives, copies, copy_and, crossed, enter, leave, no_copies, over, passed, port_course, splits, tests, then_tree}
use Rattle.sefl_meaning.specs.Taken.{decision_at, walks_of, walks_of_copies}
use Rattle.sefl_meaning.specs.Walks.{by_way_of, decided}
use Rattle.sefl_meaning.specs.Injected.{field_value, injected, unknown_width, with_field, with_fields, with_tags}
use Rattle.sefl_meaning.specs.declared.walk.Decision.TheVariants.{Copy}
use Rattle.sefl_meaning.specs.Ids.{CarriesOwn, EachHasOwnIds, HasOwnIds, IsKey, IsNode, IsOwnWalk, IsOwner}
use Rattle.sefl_meaning.proofs.AllLemmas.{all_append, all_first, all_later, all_map}

-- ---- keys of stacks

filter_all : {X : Type 0} (P : X → Type 0) (t : X → Bool) (xs : List X) → AllByRecursion P xs → AllByRecursion P (filter t xs)
filter_all P t [] h = tt
filter_all P t (x ∷ xs) h = by (t x) (filter_all P t xs h.1)
  where
    by : (b : Bool) → AllByRecursion P (filter t xs) → AllByRecursion P (cond b (x ∷ filter t xs) (filter t xs))
    by true rest = (h.0, rest)
    by false rest = rest

module _ {K X : Type 0} (P : K → Type 0) (cmp : K → K → Ordering) where
  abbrev AllKeys : List (K × List X) → Type 0
  AllKeys stacks = AllByRecursion (λ p. P p.0) stacks

  with_key : (key : K) (members : List X) (stacks : List (K × List X)) → P key → AllKeys stacks → AllKeys (with_stack cmp key members stacks)
  with_key key [] stacks own h =
      all_append (λ p. P p.0) (pairs_before cmp key stacks) (pairs_after cmp key stacks) (filter_all (λ p. P p.0) _ stacks h) (filter_all (λ p. P p.0) _ stacks h)
  with_key key (x ∷ xs) stacks own h =
      all_append (λ p. P p.0) (pairs_before cmp key stacks) ((key, x ∷ xs) ∷ pairs_after cmp key stacks) (filter_all (λ p. P p.0) _ stacks h)
      (own, filter_all (λ p. P p.0) _ stacks h)

module _ {K V : Type 0} (P : K → Type 0) (cmp : K → K → Ordering) where
  abbrev AllOwn : List (K × List (Cell V)) → Type 0
  AllOwn stacks = AllByRecursion (λ p. P p.0) stacks

  pushed_own : (key : K) (width : ℕ) (stacks : List (K × List (Cell V))) → P key → AllOwn stacks → IfOk (pushed cmp key width stacks) AllOwn
  pushed_own key width stacks own h = by (accepts width (stack_at cmp key stacks))
    where
      next : List (K × List (Cell V))
      next = with_stack cmp key (unset_cell width ∷ stack_at cmp key stacks) stacks

      by : (b : Bool) → IfOk (cond b (Ok next) (Err WidthDiffers)) AllOwn
      by true = with_key P cmp key (unset_cell width ∷ stack_at cmp key stacks) stacks own h
      by false = tt

  popped_own : (absent : LayoutFault) (key : K) (width : ℕ) (stacks : List (K × List (Cell V))) → P key → AllOwn stacks → IfOk (popped cmp absent key width stacks) AllOwn
  popped_own absent key width stacks own h = by (top_cell absent width (stack_at cmp key stacks))
    where
      by : (r : Result (Cell V) LayoutFault) → IfOk (on_ok (λ top. with_stack cmp key (tail (stack_at cmp key stacks)) stacks) r) AllOwn
      by (Ok top) = with_key P cmp key (tail (stack_at cmp key stacks)) stacks own h
      by (Err fault) = tt

  with_top_own : (absent : LayoutFault) (key : K) (width : ℕ) (value : V) (stacks : List (K × List (Cell V))) → P key → AllOwn stacks
      → IfOk (with_top cmp absent key width value stacks) AllOwn
  with_top_own absent key width value stacks own h = by (top_cell absent width (stack_at cmp key stacks))
    where
      by : (r : Result (Cell V) LayoutFault) → IfOk (on_ok (λ top. with_stack cmp key (set_cell width value ∷ tail (stack_at cmp key stacks)) stacks) r) AllOwn
      by (Ok top) = with_key P cmp key (set_cell width value ∷ tail (stack_at cmp key stacks)) stacks own h
      by (Err fault) = tt

-- ---- names

among_below : (names : List (List ℕ)) (name : List ℕ) → IsAmong names name → position_or_len (bytes_eq name) names < length names
among_below [] name h = absurd (true≢false (sym h))
among_below (n ∷ ns) name h = by (bytes_eq name n) h (among_below ns name)
  where
    by : (p : Bool) → (p || list_any (bytes_eq name) ns) ≡ true → (IsAmong ns name → position_or_len (bytes_eq name) ns < length ns)
        → cond (not p) (1 + position_or_len (bytes_eq name) ns) 0 < suc (length ns)
    by true h rest = omega arith
    by false h rest = let k = rest h in omega (arith, k)

-- the metadata name of a reference is the net's
abbrev NamedIn : Network → Target → Type 0
NamedIn net (Header addr width) = Unit {0}
NamedIn net (Meta scope name width) = IsAmong net.names.metas name
NamedIn net (Bound var width) = Unit {0}

first_named : (net : Network) (target : Target) (others : List Target) → AllByRecursion (IsAmong net.names.metas) (flat_map meta_name (target ∷ others) ++ [])
    → NamedIn net target
first_named net (Header addr width) others h = tt
first_named net (Meta scope name width) others h = h.0
first_named net (Bound var width) others h = tt

-- ---- single steps

pub record IsOwnScene (at : Scene) : Type 0 where
  pub node : IsNode at.net at.node
  pub iterations : AllByRecursion (λ t. IsKey at.net (t.owner, t.name)) at.iterations
  pub found : (pattern : List ℕ) → AllByRecursion (λ id. id.0 < length at.net.names.metas) (names_found at.net pattern)

module _ {V : Type 0} where
  abbrev KeepsTags : (Option TagId → ℤ → Layout V → Result (Layout V) LayoutFault) → Type 0
  KeepsTags on_layers = (base : Option TagId) (offset : ℤ) (l : Layout V) → IfOk (on_layers base offset l) (λ new. new.tags ≡ l.tags)

  abbrev KeepsKeys : Network → (Key → Metadata V → Result (Metadata V) LayoutFault) → Type 0
  KeepsKeys net on_scopes =
      (key : Key) (m : Metadata V) → IsKey net key → AllByRecursion (λ p. IsKey net p.0) m → IfOk (on_scopes key m) (AllByRecursion (λ p. IsKey net p.0))

bound_own : (net : Network) (iterations : List Iteration) (var : List ℕ) → AllByRecursion (λ t. IsKey net (t.owner, t.name)) iterations → IfOk (bound_key iterations var) (IsKey net)
bound_own net [] var h = tt
bound_own net (iteration ∷ iterations) var h = by (bytes_eq var iteration.var) (bound_own net iterations var h.1)
  where
    by : (b : Bool) → IfOk (bound_key iterations var) (IsKey net) → IfOk (cond b (Ok (iteration.owner, iteration.name)) (bound_key iterations var)) (IsKey net)
    by true rest = h.0
    by false rest = rest

owner_own : (net : Network) (scope : Scope) (node : NodeId) → IsNode net node → IsOwner net (owner_of scope node)
owner_own net Global node h = tt
owner_own net Local node h = h

module _ {V : Type 0} (at : Scene) (scene : IsOwnScene at) (s : Carried V) (h : CarriesOwn at.net s) where
  layers_own : (r : Result (Layout V) LayoutFault) → IfOk r (λ new. AllByRecursion (λ p. p.0 < length at.net.names.tags) new.tags)
      → IfOk (on_ok (with_layers s) r) (CarriesOwn at.net)
  layers_own (Ok l) own = record { tags = own; metas = h.metas }
  layers_own (Err fault) own = tt

  scopes_own : (r : Result (Metadata V) LayoutFault) → IfOk r (AllByRecursion (λ p. IsKey at.net p.0)) → IfOk (on_ok (with_scopes s) r) (CarriesOwn at.net)
  scopes_own (Ok m) own = record { tags = h.tags; metas = own }
  scopes_own (Err fault) own = tt

  same_tags : (r : Result (Layout V) LayoutFault) → IfOk r (λ new. new.tags ≡ s.layers.tags)
      → IfOk r (λ new. AllByRecursion (λ p. p.0 < length at.net.names.tags) new.tags)
  same_tags (Ok l) is = subst (AllByRecursion (λ p. p.0 < length at.net.names.tags)) (sym is) h.tags
  same_tags (Err fault) is = tt

  module _ (on_layers : Option TagId → ℤ → Layout V → Result (Layout V) LayoutFault) (on_scopes : Key → Metadata V → Result (Metadata V) LayoutFault)
      (tags : KeepsTags on_layers) (keys : KeepsKeys at.net on_scopes) where
    key_own : (key : Result Key LayoutFault) → IfOk key (IsKey at.net)
        → IfOk (and_then key (λ k. on_ok (with_scopes s) (on_scopes k s.scopes))) (CarriesOwn at.net)
    key_own (Ok key) own = scopes_own (on_scopes key s.scopes) (keys key s.scopes own h.metas)
    key_own (Err fault) own = tt

    stepped_own : (target : Target) → NamedIn at.net target → IfOk (stepped at target on_layers on_scopes s) (CarriesOwn at.net)
    stepped_own (Header addr width) named =
        layers_own (on_layers (base_tag at.net addr) addr.offset s.layers)
        (same_tags (on_layers (base_tag at.net addr) addr.offset s.layers) (tags (base_tag at.net addr) addr.offset s.layers))
    stepped_own (Meta scope name width) named =
        scopes_own (on_scopes (owner_of scope at.node, name_id at.net name) s.scopes)
        (keys (owner_of scope at.node, name_id at.net name) s.scopes (owner_own at.net scope at.node scene.node, among_below at.net.names.metas name named) h.metas)
    stepped_own (Bound var width) named = key_own (bound_key at.iterations var) (bound_own at.net at.iterations var scene.iterations)

  -- a step on the cells at an address leaves the tags
  heads_step : (step : ℤ → List (ℤ × List (Cell V)) → Result (List (ℤ × List (Cell V))) LayoutFault) (l : Layout V) (address : Result ℤ LayoutFault)
      → IfOk (and_then address (λ a. on_ok (layout.with_heads l) (step a l.heads))) (λ new. new.tags ≡ l.tags)
  heads_step step l (Err fault) = tt
  heads_step step l (Ok a) = by (step a l.heads)
    where
      by : (r : Result (List (ℤ × List (Cell V))) LayoutFault) → IfOk (on_ok (layout.with_heads l) r) (λ new. new.tags ≡ l.tags)
      by (Ok heads) = refl
      by (Err fault) = tt

  pub allocated_own : (target : Target) → NamedIn at.net target → IfOk (allocated at target s) (CarriesOwn at.net)
  allocated_own target named = stepped_own
      (λ tag offset l. layout.allocated tag offset (width_of target) l) (λ key m. scopes.allocated key.0 key.1 (width_of target) m)
      (λ base offset l. heads_step (λ a heads. layout.allocated_at a (width_of target) heads) l (address_of base offset l.tags))
      (λ key m own all. pushed_own (IsKey at.net) key_cmp key (width_of target) m own all) target named

  pub deallocated_own : (target : Target) → NamedIn at.net target → IfOk (deallocated at target s) (CarriesOwn at.net)
  deallocated_own target named = stepped_own
      (λ tag offset l. layout.deallocated tag offset (width_of target) l) (λ key m. scopes.deallocated key.0 key.1 (width_of target) m)
      (λ base offset l. heads_step (λ a heads. popped int_cmp NoField a (width_of target) heads) l (address_of base offset l.tags))
      (λ key m own all. popped_own (IsKey at.net) key_cmp NoMeta key (width_of target) m own all) target named

  pub assigned_own : (value : V) (target : Target) → NamedIn at.net target → IfOk (assigned at target value s) (CarriesOwn at.net)
  assigned_own value target named = stepped_own
      (λ tag offset l. layout.assigned tag offset (width_of target) value l) (λ key m. scopes.assigned key.0 key.1 (width_of target) value m)
      (λ base offset l. heads_step (λ a heads. with_top int_cmp NoField a (width_of target) value heads) l (address_of base offset l.tags))
      (λ key m own all. with_top_own (IsKey at.net) key_cmp NoMeta key (width_of target) value m own all) target named

  evaluated_own : {F : Type 0} (o : Values V F) (target : Target) (value : ExprTree) → NamedIn at.net target → IfOk (evaluated o at target value s) (CarriesOwn at.net)
  evaluated_own o target value named = by (value_in o at (width_of target) value s)
    where
      by : (r : Result V LayoutFault) → IfOk (and_then r (λ a. assigned at target a s)) (CarriesOwn at.net)
      by (Ok a) = assigned_own a target named
      by (Err fault) = tt

  -- the addresses of a tag of the net change
  tag_step : {A : Type 0} (name : List ℕ) → IsAmong at.net.names.tags name → (addresses : A → List ℤ) (r : Result A LayoutFault)
      → IfOk (on_ok (with_layers s) (on_ok (λ a. layout.with_tag s.layers (tag_id at.net name) (addresses a)) r)) (CarriesOwn at.net)
  tag_step name named addresses (Ok a) = record {
    tags = with_key (λ key. key < length at.net.names.tags) nat_cmp (tag_id at.net name).0 (addresses a) s.layers.tags (among_below at.net.names.tags name named) h.tags;
    metas = h.metas;
  }
  tag_step name named addresses (Err fault) = tt

  abbrev addresses_of : List ℕ → List ℤ
  addresses_of name = stack_at nat_cmp (tag_id at.net name).0 s.layers.tags

  tag_created_own : (name : List ℕ) (addr : Addr) → IsAmong at.net.names.tags name → IfOk (tag_created at name addr s) (CarriesOwn at.net)
  tag_created_own name addr named = tag_step name named (λ a. a ∷ addresses_of name) (address_of (base_tag at.net addr) addr.offset s.layers.tags)

  pub tag_set_own : (name : List ℕ) (addr : Addr) → IsAmong at.net.names.tags name → IfOk (tag_set at name addr s) (CarriesOwn at.net)
  tag_set_own name addr named = tag_step name named (λ a. a ∷ tail (addresses_of name)) (address_of (base_tag at.net addr) addr.offset s.layers.tags)

  tag_destroyed_own : (name : List ℕ) → IsAmong at.net.names.tags name → IfOk (tag_destroyed at name s) (CarriesOwn at.net)
  tag_destroyed_own name named = tag_step name named (λ a. tail (addresses_of name)) (top_address (addresses_of name))

-- ---- the iterations of a For

present_own : {V : Type 0} (net : Network) (owner : Option NodeId) (names : List NameId) (m : Metadata V) → IsOwner net owner
    → AllByRecursion (λ id. id.0 < length net.names.metas) names → AllByRecursion (IsKey net) (present_of owner names m)
present_own net owner names m own h =
    all_map (λ id. id.0 < length net.names.metas) (IsKey net) (λ name. (owner, name)) (filter (λ name. is_allocated owner name m) names) (λ id below. (own, below))
    (filter_all (λ id. id.0 < length net.names.metas) (λ name. is_allocated owner name m) names h)

iterations_own : {V : Type 0} (at : Scene) (scene : IsOwnScene at) (pattern : List ℕ) (s : Carried V) → AllByRecursion (IsKey at.net) (iterations_of at pattern s)
iterations_own at scene pattern s =
    let names = names_found at.net pattern in
    all_append (IsKey at.net) (present_of None names s.scopes) (present_of (Some at.node) names s.scopes)
    (present_own at.net None names s.scopes tt (scene.found pattern)) (present_own at.net (Some at.node) names s.scopes scene.node (scene.found pattern))

iteration_scene : (at : Scene) (var : List ℕ) (key : Key) → IsOwnScene at → IsKey at.net key → IsOwnScene (in_iteration at var key)
iteration_scene at var key scene own = record { node = scene.node; iterations = (own, scene.iterations); found = scene.found }

-- ---- courses

module _ {V F : Type 0} (net : Network) where
  abbrev CourseOwn : Course V F → Type 0
  CourseOwn (ends p exit) = CarriesOwn net p.state
  CourseOwn (asks asking p test held broken) = CarriesOwn net p.state × CourseOwn held × CourseOwn broken

  abbrev Goes : (Progress V → Course V F) → Type 0
  Goes next = (q : Progress V) → CarriesOwn net q.state → CourseOwn (next q)

  own_off : (exit : Exit) (p : Progress V) (next : Progress V → Course V F) → CarriesOwn net p.state → Goes next → CourseOwn (off_or exit p next)
  own_off off p next h f = f p h
  own_off (go port) p next h f = h
  own_off (forked ports) p next h f = h
  own_off (failed failure site) p next h f = h

  own_after : (c : Course V F) (next : Progress V → Course V F) → CourseOwn c → Goes next → CourseOwn (after c next)
  own_after (ends p exit) next h f = own_off exit p next h f
  own_after (asks asking p test held broken) next h f = (h.0, own_after held next h.1 f, own_after broken next h.2 f)

  own_iterations : (body : Key → Progress V → Course V F) (keys : List Key) (p : Progress V) → CarriesOwn net p.state → AllByRecursion (IsKey net) keys
      → ((key : Key) → IsKey net key → Goes (body key)) → CourseOwn (course_iterations body keys p)
  own_iterations body [] p h all f = h
  own_iterations body (key ∷ keys) p h all f = own_after (body key p) (course_iterations body keys) (f key all.0 p h) (λ q k. own_iterations body keys q k all.1 f)

  own_test : (site : ℕ) (r : Result F LayoutFault) (p : Progress V) (next : F → Course V F) → CarriesOwn net p.state → ((f : F) → CourseOwn (next f)) → CourseOwn (unless_fault site r p next)
  own_test site (Ok f) p next h all = all f
  own_test site (Err fault) p next h all = h

module _ {V : Type 0} (F : Type 0) (net : Network) where
  own_step : (site : ℕ) (r : Result (Carried V) LayoutFault) (p : Progress V) → CarriesOwn net p.state → IfOk r (CarriesOwn net) → CourseOwn {V = V} {F = F} net (step site r p)
  own_step site (Ok s) p h own = own
  own_step site (Err fault) p h own = h

  own_chosen : (site : ℕ) (r : Result (Carried V) LayoutFault) (p : Progress V) (width : ℕ) → CarriesOwn net p.state → IfOk r (CarriesOwn net)
      → CourseOwn {V = V} {F = F} net (unless_fault site r p (λ next. ends (chosen p width next) off))
  own_chosen site (Ok s) p width h own = own
  own_chosen site (Err fault) p width h own = h

module _ {V F : Type 0} (o : Values V F) where
  mutual
    instr_own : (at : Scene) → IsOwnScene at → (site : ℕ) (i : InstrTree) (place : items.Place) → HasNamesOf at.net.names (instr_item place i)
        → AllByRecursion (HasNamesOf at.net.names) (inner_items place i) → (p : Progress V) → CarriesOwn at.net p.state → CourseOwn at.net (course_in o at site i p)
    instr_own at scene site (allocate target) place names inner p h =
        own_step F at.net site (allocated at target p.state) p h (allocated_own at scene p.state h target (first_named at.net target [] names.metas))
    instr_own at scene site (deallocate target) place names inner p h =
        own_step F at.net site (deallocated at target p.state) p h (deallocated_own at scene p.state h target (first_named at.net target [] names.metas))
    instr_own at scene site (assign target value) place names inner p h =
        own_step F at.net site (evaluated o at target value p.state) p h (evaluated_own at scene p.state h o target value (first_named at.net target (expr_reads value) names.metas))
    instr_own at scene site (assign_any target) place names inner p h =
        own_chosen F at.net site (assigned at target (o.choice (width_of target) (length p.choices)) p.state) p (width_of target) h
        (assigned_own at scene p.state h (o.choice (width_of target) (length p.choices)) target (first_named at.net target [] names.metas))
    instr_own at scene site (create_tag name addr) place names inner p h =
        own_step F at.net site (tag_created at name addr p.state) p h (tag_created_own at scene p.state h name addr names.tags.0)
    instr_own at scene site (set_tag name addr) place names inner p h =
        own_step F at.net site (tag_set at name addr p.state) p h (tag_set_own at scene p.state h name addr names.tags.0)
    instr_own at scene site (destroy_tag name) place names inner p h =
        own_step F at.net site (tag_destroyed at name p.state) p h (tag_destroyed_own at scene p.state h name names.tags.0)
    instr_own at scene site (constrain test) place names inner p h =
        own_test at.net site (truth_in o at test p.state) p (λ f. asks at_constrain p f (ends p off) (ends p (failed Constraint site))) h (λ f. (h, h, h))
    instr_own at scene site (fail text) place names inner p h = h
    instr_own at scene site (branch test first other) place names inner p h =
        own_test at.net site (truth_in o at test p.state) p
        (λ f. asks at_if p f (course_code o at (suc site) first p) (course_code o at (suc site + code_size first) other p)) h
        (λ f. (
          h,
          code_own at scene (suc site) first place (all_first (HasNamesOf at.net.names) (code_items place first) (code_items place other) inner) p h,
          code_own at scene (suc site + code_size first) other place (all_later (HasNamesOf at.net.names) (code_items place first) (code_items place other) inner) p h,
        ))
    instr_own at scene site (each var pattern body) place names inner p h =
        own_iterations at.net (λ key q. course_code o (in_iteration at var key) (suc site) body q) (iterations_of at pattern p.state) p h (iterations_own at scene pattern p.state)
        (λ key own q k. code_own (in_iteration at var key) (iteration_scene at var key scene own) (suc site) body (within place var) inner q k)
    instr_own at scene site (forward port) place names inner p h = h
    instr_own at scene site (fork ports) place names inner p h = h
    instr_own at scene site (block body) place names inner p h = code_own at scene (suc site) body place inner p h
    instr_own at scene site no_op place names inner p h = h

    code_own : (at : Scene) → IsOwnScene at → (site : ℕ) (code : CodeTree) (place : items.Place) → AllByRecursion (HasNamesOf at.net.names) (code_items place code)
        → (p : Progress V) → CarriesOwn at.net p.state → CourseOwn at.net (course_code o at site code p)
    code_own at scene site no_code place names p h = h
    code_own at scene site (instr_and i is) place names p h =
        own_after at.net (course_in o at site i (begin p)) (course_code o at (suc site + inner_size i) is)
        (instr_own at scene site i place names.0 (all_first (HasNamesOf at.net.names) (inner_items place i) (code_items place is) names.1) (begin p) h)
        (λ q k. code_own at scene (suc site + inner_size i) is place (all_later (HasNamesOf at.net.names) (inner_items place i) (code_items place is) names.1) q k)

-- ---- trees

-- what is known of the net's codes, patterns and links
pub record Own (net : Network) : Type 0 where
  pub codes : (node : NodeId) (side : Side) (port : ℕ) → (place : items.Place) × AllByRecursion (HasNamesOf net.names) (code_items place (code_of net node side port).1)
  pub found : (pattern : List ℕ) → AllByRecursion (λ id. id.0 < length net.names.metas) (names_found net pattern)
  pub links : (node : NodeId) (port : ℕ) → IfSome (link_of net node port) (λ to. IsNode net to.0)

module _ {V F : Type 0} (o : Values V F) (net : Network) (own : Own net) where
  pub port_scene : (node : NodeId) → IsNode net node → IsOwnScene (scene_at net node)
  port_scene node there = record { node = there; iterations = tt; found = own.found }

  port_own : (node : NodeId) (side : Side) (port : ℕ) (p : Progress V) → IsNode net node → CarriesOwn net p.state → CourseOwn net (port_course o net node side port p)
  port_own node side port p there h =
      let code = own.codes node side port in
      code_own o (scene_at net node) (port_scene node there) (suc (code_of net node side port).0) (code_of net node side port).1 code.0 code.1 p h

  abbrev Enters : Onward V F → Type 0
  Enters onward = (node : NodeId) (port : ℕ) (p : Progress V) → IsNode net node → CarriesOwn net p.state → HasOwnIds net (onward node port p)

  own_then : (c : Course V F) (next : Exit → Progress V → Tree V F) → CourseOwn net c → ((exit : Exit) (p : Progress V) → CarriesOwn net p.state → HasOwnIds net (next exit p))
      → HasOwnIds net (then_tree c next)
  own_then (ends p exit) next h f = f exit p h
  own_then (asks asking p test held broken) next h f = (h.0, own_then held next h.1 f, own_then broken next h.2 f)

  own_crossed : (onward : Onward V F) → Enters onward → (link : Option (NodeId × ℕ)) → IfSome link (λ to. IsNode net to.0) → (exit : Exit) (p : Progress V) → CarriesOwn net p.state
      → HasOwnIds net (crossed o net onward link exit p)
  own_crossed onward f None there off p h = h
  own_crossed onward f (Some to) there off p h = f to.0 to.1 p there h
  own_crossed onward f None there (failed failure site) p h = h
  own_crossed onward f (Some to) there (failed failure site) p h = h
  own_crossed onward f None there (go port) p h = h
  own_crossed onward f (Some to) there (go port) p h = h
  own_crossed onward f None there (forked ports) p h = h
  own_crossed onward f (Some to) there (forked ports) p h = h

  own_leave : (onward : Onward V F) → Enters onward → (node : NodeId) (port : ℕ) (p : Progress V) → IsNode net node → CarriesOwn net p.state
      → HasOwnIds net (leave o net onward node port p)
  own_leave onward f node port p there h = (
    there,
    h,
    own_then (port_course o net node Outward port p) (crossed o net onward (link_of net node port)) (port_own node Outward port p there h)
        (λ exit q k. own_crossed onward f (link_of net node port) (own.links node port) exit q k),
  )

  own_copies : (onward : Onward V F) → Enters onward → (node : NodeId) (ports : List ℕ) (p : Progress V) → IsNode net node → CarriesOwn net p.state
      → EachHasOwnIds net (copies o net onward node ports p)
  own_copies onward f node [] p there h = tt
  own_copies onward f node (port ∷ ports) p there h = (own_leave onward f node port p there h, own_copies onward f node ports p there h)

  own_passed : (onward : Onward V F) → Enters onward → (node : NodeId) (exit : Exit) (p : Progress V) → IsNode net node → CarriesOwn net p.state
      → HasOwnIds net (passed o net onward node exit p)
  own_passed onward f node off p there h = h
  own_passed onward f node (go port) p there h = own_leave onward f node port p there h
  own_passed onward f node (forked ports) p there h = (h, own_copies onward f node ports p there h)
  own_passed onward f node (failed failure site) p there h = h

  pub enter_own : (hops : ℕ) → Enters (enter o net hops)
  enter_own zero node port p there h = (there, h, h)
  enter_own (suc hops) node port p there h = (
    there,
    h,
    own_then (port_course o net node Inward port p) (passed o net (enter o net hops) node) (port_own node Inward port p there h)
        (λ exit q k. own_passed (enter o net hops) (enter_own hops) node exit q there k),
  )

-- ---- an injection

module _ {V F : Type 0} (o : Values V F) (at : Scene) (scene : IsOwnScene at) where
  and_own : (r : Result (Carried V) LayoutFault) (next : Carried V → Result (Carried V) LayoutFault) → IfOk r (CarriesOwn at.net)
      → ((s : Carried V) → CarriesOwn at.net s → IfOk (next s) (CarriesOwn at.net)) → IfOk (and_then r next) (CarriesOwn at.net)
  and_own (Ok s) next h f = f s h
  and_own (Err fault) next h f = tt

  tags_own : (tags : Tags) (lines : List (List ℕ × Addr)) → AllByRecursion (HasNamesOf at.net.names) (tag_items tags lines) → (s : Carried V) → CarriesOwn at.net s
      → IfOk (with_tags o at lines s) (CarriesOwn at.net)
  tags_own tags [] names s h = h
  tags_own tags (line ∷ lines) names s h =
      and_own (tag_set at line.0 line.1 s) (with_tags o at lines) (tag_set_own at scene s h line.0 line.1 names.0.tags.0)
      (λ next k. tags_own (with_tag tags line) lines names.1 next k)

  fields_own : (tags : Tags) (before fields : List RawField) → AllByRecursion (HasNamesOf at.net.names) (field_items tags before fields) → (number : ℕ) (s : Carried V) → CarriesOwn at.net s
      → IfOk (with_fields o at number fields s) (CarriesOwn at.net)
  fields_own tags before [] names number s h = h
  fields_own tags before (f ∷ fs) names number s h =
      let named = first_named at.net f.target [] names.0.metas in
      let value = field_value o (width_of f.target) number f.value in
      and_own (with_field o at number f s) (with_fields o at (number + length (unknown_width f)) fs)
      (and_own (allocated at f.target s) (assigned at f.target value) (allocated_own at scene s h f.target named) (λ next k. assigned_own at scene next k value f.target named))
      (λ next k. fields_own tags (before ++ f ∷ []) fs names.1 (number + length (unknown_width f)) next k)

  pub injection_own : (i : InjectionTree) → AllByRecursion (HasNamesOf at.net.names) (line_items i) → IfOk (injected o at i) (CarriesOwn at.net)
  injection_own i names =
      let known = tags_after [] i.tags in
      let fields = all_first (HasNamesOf at.net.names) (field_items known [] i.fields) (map (test_item known i.fields) i.tests)
      (all_later (HasNamesOf at.net.names) (tag_items [] i.tags) (value_items known i) names) in
      and_own (with_tags o at i.tags nothing) (with_fields o at 0 i.fields)
      (tags_own [] i.tags (all_first (HasNamesOf at.net.names) (tag_items [] i.tags) (value_items known i) names) nothing (record { tags = tt; metas = tt }))
      (λ s h. fields_own known [] i.fields fields 0 s h)

-- ---- what an accepted net has

all_drop : {X : Type 0} (P : X → Type 0) (n : ℕ) (xs : List X) → AllByRecursion P xs → AllByRecursion P (drop n xs)
all_drop P zero xs h = h
all_drop P (suc n) [] h = tt
all_drop P (suc n) (x ∷ xs) h = all_drop P n xs h.1

at_place : (P : Item → Type 0) (net : NetTree) (node port : ℕ) (side : Side) (place : ℕ × ℕ) (code : CodeTree) → AllByRecursion P (net_items net)
    → (at : IsCodePlace net node side port place code) → AllByRecursion P (code_items (place_on (ports_of at.decl.body) side) code)
at_place P net node port side place code all at =
    all_first P (code_items (place_on (ports_of at.decl.body) side) code) at.after
    (subst (AllByRecursion P) at.at_site (all_drop P place.0 (net_items net) all)).1

module _ (P : Item → Type 0) (net : Network) (all : AllByRecursion P (net_items net.own))
    (none : (net : NetTree) (node port : ℕ) (side : Side) → code_place net node side port ≡ None → places.code_of net node side port ≡ None)
    (some : (net : NetTree) (node port : ℕ) (side : Side) (place : ℕ × ℕ) → code_place net node side port ≡ Some place → (code : CodeTree) × IsCodePlace net node side port place code) where
  -- what holds of all items of a net holds of those of each code
  pub each_code : (node : NodeId) (side : Side) (port : ℕ) → (place : items.Place) × AllByRecursion P (code_items place (code_of net node side port).1)
  each_code node side port = by (code_place net.own node.0 side port) refl
    where
      nowhere : items.Place
      nowhere = record { outs = 0; side = side; vars = [] }

      by : (found : Option (ℕ × ℕ)) → code_place net.own node.0 side port ≡ found
          → (place : items.Place) × AllByRecursion P (code_items place (code_of net node side port).1)
      by None is = (nowhere, subst (λ code. AllByRecursion P (code_items nowhere (unwrap_or code no_code))) (sym (none net.own node.0 port side is)) tt)
      by (Some place) is =
          let at = some net.own node.0 port side place is in
          let where' = place_on (ports_of at.1.decl.body) side in
          (where', subst (λ code. AllByRecursion P (code_items where' (unwrap_or code no_code))) (sym at.1.is_code) (at_place P net.own node.0 port side place at.0 all at.1))

module _ (net : Network) (told : (net : NetTree) (node port : ℕ) (end : Port) → link_from net node port ≡ Some end → IsLinked (node_position net) net.links (node, port) end)
    (named : (net : NetTree) (name : List ℕ) (node : ℕ) → node_position net name ≡ Some node → IsNamed net node name) where
  pub link_own : (node : NodeId) (port : ℕ) → IfSome (link_of net node port) (λ to. IsNode net to.0)
  link_own node port = by (link_from net.own node.0 port) refl
    where
      by : (link : Option Port) → link_from net.own node.0 port ≡ link → IfSome (option_map port_at link) (λ to. IsNode net to.0)
      by None is = tt
      by (Some end) is =
          let at = told net.own node.0 port end is in
          let there = named net.own at.link.to end.0 at.to in
          slice_get_within net.own.nodes end.0 there.0 there.1

pub ids_below : (count first : ℕ) (ids : List NameId) → AreIdsFrom count first ids → AllByRecursion (λ id. id.0 < count) ids
ids_below count first [] h = tt
ids_below count first (id ∷ ids) h = (h.1, ids_below count (suc id.0) ids h.2)

-- ---- walks

either : {X : Type 0} (P : X → Type 0) (b : Bool) (xs ys : List X) → AllByRecursion P xs → AllByRecursion P ys → AllByRecursion P (if b then xs else ys)
either P true xs ys h k = h
either P false xs ys h k = k

module _ (net : Network) where
  mutual
    pub walks_own : (t : Tree ℕ Bool) → HasOwnIds net t → AllByRecursion (IsOwnWalk net) (walks_of t)
    walks_own (over p end') h = (record { arrivals = tt; state = h }, tt)
    walks_own (arrives place p t) h =
        all_map (IsOwnWalk net) (IsOwnWalk net) (by_way_of place p) (walks_of t) (λ w own. record { arrivals = ((h.0, h.1), own.arrivals); state = own.state }) (walks_own t h.2)
    walks_own (tests asking p test held broken) h =
        all_map (IsOwnWalk net) (IsOwnWalk net) (decided (decision_at asking test ∷ [])) (if test then walks_of held else walks_of broken)
        (λ w own. record { arrivals = own.arrivals; state = own.state })
        (either (IsOwnWalk net) test (walks_of held) (walks_of broken) (walks_own held h.1) (walks_own broken h.2))
    walks_own (splits p branches) h = copies_own 0 branches h.1

    copies_own : (number : ℕ) (branches : Copies ℕ Bool) → EachHasOwnIds net branches → AllByRecursion (IsOwnWalk net) (walks_of_copies number branches)
    copies_own number no_copies h = tt
    copies_own number (copy_and t branches) h =
        all_append (IsOwnWalk net) (map (decided (Copy number ∷ [])) (walks_of t)) (walks_of_copies (suc number) branches)
        (all_map (IsOwnWalk net) (IsOwnWalk net) (decided (Copy number ∷ [])) (walks_of t) (λ w own. record { arrivals = own.arrivals; state = own.state }) (walks_own t h.0))
        (copies_own (suc number) branches h.1)
