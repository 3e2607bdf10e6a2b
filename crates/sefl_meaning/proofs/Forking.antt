-- Where each Fork lists a port, each split has a copy; and so it is in an accepted net.
use Rattle.std.proofs.Common.{◌≡◌, ℕ, zero, suc, ◌+◌, Bool, true, false, cond, List, [], ◌∷◌, length, refl, Option, Some, None, option_map, Result, Ok, Err, find, slice_get}
use Rattle.std.specs.Prelude.{unwrap_or}
use Rattle.std.specs.List.{AllByRecursion}
use Rattle.sn_width.specs.declared.faults.LayoutFault.{LayoutFault}
use Rattle.sn_width.specs.declared.ids.NodeId.{NodeId}
use Rattle.sefl_syntax.specs.declared.net.Side.{Side}
use Rattle.sefl_syntax.specs.declared.net.Side.TheVariants.{Inward, Outward}
use Rattle.sefl_syntax.specs.Trees.{InstrTree, CodeTree, allocate, deallocate, assign, assign_any, create_tag, set_tag, destroy_tag, constrain, fail, branch, each, forward, fork, block, no_op, no_code, instr_and, PortTree, DeclTree}
use Rattle.job_items.specs.declared.ports.Ports.{Ports}
use Rattle.job_items.specs.AtomRules.{width_of}
use Rattle.job_items.specs.Items as items
use Rattle.job_items.specs.Items.{Item, instr_item, within, inner_items, code_items, one_port_items, port_items, decl_items, node_items, link_items, net_items, with_input, with_output}
use Rattle.job_items.specs.Nodes.{Nodes, with_node, nodes_after, ports_of, codes_of}
use Rattle.net_check.specs.Places.{codes_of_node, is_port}
use Rattle.net_check.specs.Keeping.{KeepsRules}
use Rattle.sefl_meaning.specs.declared.walk.Failure.TheVariants.{Constraint}
use Rattle.sefl_meaning.specs.Values.{Values}
use Rattle.sefl_meaning.specs.Network.{Network, code_of, link_of, code_size}
use Rattle.sefl_meaning.specs.Carried.{Carried, Scene, Key, scene_at}
use Rattle.sefl_meaning.specs.Runs.{Exit, off, go, forked, failed, in_iteration, iterations_of}
use Rattle.sefl_meaning.specs.Terms.{truth_in}
use Rattle.sefl_meaning.specs.Steps.{allocated, deallocated, assigned, evaluated, tag_created, tag_set, tag_destroyed}
use Rattle.sefl_meaning.specs.Courses.{step, chosen, at_if, at_constrain, Progress, begin, Course, ends, asks, off_or, after, unless_fault, course_iterations, course_in, course_code}
use Rattle.sefl_meaning.specs.Trees.{Tree, then_tree, Onward, port_course, crossed, leave, copies, passed, enter}
use Rattle.sefl_meaning.specs.Routes.{Splits, EachSplits, HasCopy}
use Rattle.sefl_meaning.proofs.AllLemmas.{all_first, all_later}

abbrev mutual
  -- each Fork in the code lists a port
  pub HasPorts : InstrTree → Type 0
  HasPorts (allocate target) = Unit {0}
  HasPorts (deallocate target) = Unit {0}
  HasPorts (assign target value) = Unit {0}
  HasPorts (assign_any target) = Unit {0}
  HasPorts (create_tag name addr) = Unit {0}
  HasPorts (set_tag name addr) = Unit {0}
  HasPorts (destroy_tag name) = Unit {0}
  HasPorts (constrain test) = Unit {0}
  HasPorts (fail text) = Unit {0}
  HasPorts (branch test first other) = AllHavePorts first × AllHavePorts other
  HasPorts (each var pattern body) = AllHavePorts body
  HasPorts (forward port) = Unit {0}
  HasPorts (fork ports) = ports ≡ [] → ⊥
  HasPorts (block body) = AllHavePorts body
  HasPorts no_op = Unit {0}

  pub AllHavePorts : CodeTree → Type 0
  AllHavePorts no_code = Unit {0}
  AllHavePorts (instr_and i is) = HasPorts i × AllHavePorts is

abbrev ExitForks : Exit → Type 0
ExitForks off = Unit {0}
ExitForks (go port) = Unit {0}
ExitForks (forked ports) = ports ≡ [] → ⊥
ExitForks (failed failure site) = Unit {0}

module _ {V F : Type 0} where
  abbrev CourseForks : Course V F → Type 0
  CourseForks (ends p exit) = ExitForks exit
  CourseForks (asks asking p test held broken) = CourseForks held × CourseForks broken

  forks_off : (exit : Exit) (p : Progress V) (next : Progress V → Course V F) → ExitForks exit → ((q : Progress V) → CourseForks (next q)) → CourseForks (off_or exit p next)
  forks_off off p next h f = f p
  forks_off (go port) p next h f = h
  forks_off (forked ports) p next h f = h
  forks_off (failed failure site) p next h f = h

  forks_after : (c : Course V F) (next : Progress V → Course V F) → CourseForks c → ((q : Progress V) → CourseForks (next q)) → CourseForks (after c next)
  forks_after (ends p exit) next h f = forks_off exit p next h f
  forks_after (asks asking p test held broken) next h f = (forks_after held next h.0 f, forks_after broken next h.1 f)

  forks_iterations : (body : Key → Progress V → Course V F) (keys : List Key) (p : Progress V) → ((key : Key) (q : Progress V) → CourseForks (body key q)) → CourseForks (course_iterations body keys p)
  forks_iterations body [] p f = tt
  forks_iterations body (key ∷ keys) p f = forks_after (body key p) (course_iterations body keys) (f key p) (λ q. forks_iterations body keys q f)

module _ {V F A : Type 0} where
  forks_unless : (site : ℕ) (r : Result A LayoutFault) (p : Progress V) (next : A → Course V F) → ((a : A) → CourseForks (next a)) → CourseForks (unless_fault site r p next)
  forks_unless site (Ok a) p next f = f a
  forks_unless site (Err fault) p next f = tt

module _ {V : Type 0} (F : Type 0) where
  forks_step : (site : ℕ) (r : Result (Carried V) LayoutFault) (p : Progress V) → CourseForks {V = V} {F = F} (step site r p)
  forks_step site (Ok a) p = tt
  forks_step site (Err fault) p = tt

  forks_chosen : (site : ℕ) (r : Result (Carried V) LayoutFault) (p : Progress V) (width : ℕ) → CourseForks {V = V} {F = F} (unless_fault site r p (λ next. ends (chosen p width next) off))
  forks_chosen site (Ok a) p width = tt
  forks_chosen site (Err fault) p width = tt

module _ {V F : Type 0} (o : Values V F) where
  mutual
    instr_forks : (at : Scene) (site : ℕ) (i : InstrTree) (p : Progress V) → HasPorts i → CourseForks (course_in o at site i p)
    instr_forks at site (allocate target) p h = forks_step F site (allocated at target p.state) p
    instr_forks at site (deallocate target) p h = forks_step F site (deallocated at target p.state) p
    instr_forks at site (assign target value) p h = forks_step F site (evaluated o at target value p.state) p
    instr_forks at site (assign_any target) p h =
        forks_chosen F site (assigned at target (o.choice (width_of target) (length p.choices)) p.state) p (width_of target)
    instr_forks at site (create_tag name addr) p h = forks_step F site (tag_created at name addr p.state) p
    instr_forks at site (set_tag name addr) p h = forks_step F site (tag_set at name addr p.state) p
    instr_forks at site (destroy_tag name) p h = forks_step F site (tag_destroyed at name p.state) p
    instr_forks at site (constrain test) p h = forks_unless site (truth_in o at test p.state) p (λ f. asks at_constrain p f (ends p off) (ends p (failed Constraint site))) (λ f. (tt, tt))
    instr_forks at site (fail text) p h = tt
    instr_forks at site (branch test first other) p h =
        forks_unless site (truth_in o at test p.state) p (λ f. asks at_if p f (course_code o at (suc site) first p) (course_code o at (suc site + code_size first) other p))
        (λ f. (code_forks at (suc site) first p h.0, code_forks at (suc site + code_size first) other p h.1))
    instr_forks at site (each var pattern body) p h = forks_iterations _ (iterations_of at pattern p.state) p (λ key q. code_forks (in_iteration at var key) (suc site) body q h)
    instr_forks at site (forward port) p h = tt
    instr_forks at site (fork ports) p h = h
    instr_forks at site (block body) p h = code_forks at (suc site) body p h
    instr_forks at site no_op p h = tt

    code_forks : (at : Scene) (site : ℕ) (code : CodeTree) (p : Progress V) → AllHavePorts code → CourseForks (course_code o at site code p)
    code_forks at site no_code p h = tt
    code_forks at site (instr_and i is) p h = forks_after (course_in o at site i (begin p)) _ (instr_forks at site i (begin p) h.0) (λ q. code_forks at _ is q h.1)

  splits_then : (c : Course V F) (next : Exit → Progress V → Tree V F) → CourseForks c → ((exit : Exit) (p : Progress V) → ExitForks exit → Splits (next exit p)) → Splits (then_tree c next)
  splits_then (ends p exit) next h f = f exit p h
  splits_then (asks asking p test held broken) next h f = (splits_then held next h.0 f, splits_then broken next h.1 f)

module _ {V F : Type 0} (o : Values V F) (net : Network) (codes : (node : NodeId) (side : Side) (port : ℕ) → AllHavePorts (code_of net node side port).1) where
  splits_crossed : (onward : Onward V F) → ((node : NodeId) (port : ℕ) (p : Progress V) → Splits (onward node port p)) → (link : Option (NodeId × ℕ)) (exit : Exit) (p : Progress V)
      → Splits (crossed o net onward link exit p)
  splits_crossed onward f None off p = tt
  splits_crossed onward f (Some to) off p = f to.0 to.1 p
  splits_crossed onward f None (failed failure site) p = tt
  splits_crossed onward f (Some to) (failed failure site) p = tt
  splits_crossed onward f None (go port) p = tt
  splits_crossed onward f (Some to) (go port) p = tt
  splits_crossed onward f None (forked ports) p = tt
  splits_crossed onward f (Some to) (forked ports) p = tt

  splits_leave : (onward : Onward V F) → ((node : NodeId) (port : ℕ) (p : Progress V) → Splits (onward node port p)) → (node : NodeId) (port : ℕ) (p : Progress V) → Splits (leave o net onward node port p)
  splits_leave onward f node port p =
      splits_then o (port_course o net node Outward port p) (crossed o net onward (link_of net node port)) (code_forks o (scene_at net node) _ _ p (codes node Outward port))
      (λ exit q h. splits_crossed onward f (link_of net node port) exit q)

  splits_copies : (onward : Onward V F) → ((node : NodeId) (port : ℕ) (p : Progress V) → Splits (onward node port p)) → (node : NodeId) (ports : List ℕ) (p : Progress V)
      → EachSplits (copies o net onward node ports p)
  splits_copies onward f node [] p = tt
  splits_copies onward f node (port ∷ ports) p = (splits_leave onward f node port p, splits_copies onward f node ports p)

  some_copies : (onward : Onward V F) (node : NodeId) (ports : List ℕ) (p : Progress V) → (ports ≡ [] → ⊥) → HasCopy (copies o net onward node ports p)
  some_copies onward node [] p h = h refl
  some_copies onward node (port ∷ ports) p h = tt

  splits_passed : (onward : Onward V F) → ((node : NodeId) (port : ℕ) (p : Progress V) → Splits (onward node port p)) → (node : NodeId) (exit : Exit) (p : Progress V) → ExitForks exit
      → Splits (passed o net onward node exit p)
  splits_passed onward f node off p h = tt
  splits_passed onward f node (go port) p h = splits_leave onward f node port p
  splits_passed onward f node (forked ports) p h = (some_copies onward node ports p h, splits_copies onward f node ports p)
  splits_passed onward f node (failed failure site) p h = tt

  -- the tree of a net whose Forks list ports
  pub enter_splits : (hops : ℕ) (node : NodeId) (port : ℕ) (p : Progress V) → Splits (enter o net hops node port p)
  enter_splits zero node port p = tt
  enter_splits (suc hops) node port p =
      splits_then o (port_course o net node Inward port p) (passed o net (enter o net hops) node) (code_forks o (scene_at net node) _ _ p (codes node Inward port))
      (λ exit q h. splits_passed (enter o net hops) (enter_splits hops) node exit q h)

-- ---- the codes of an accepted net

mutual
  instr_lists : (place : items.Place) (i : InstrTree) → KeepsRules (instr_item place i) →
      AllByRecursion KeepsRules (inner_items place i) → HasPorts i
  instr_lists place (allocate target) k h = tt
  instr_lists place (deallocate target) k h = tt
  instr_lists place (assign target value) k h = tt
  instr_lists place (assign_any target) k h = tt
  instr_lists place (create_tag name addr) k h = tt
  instr_lists place (set_tag name addr) k h = tt
  instr_lists place (destroy_tag name) k h = tt
  instr_lists place (constrain test) k h = tt
  instr_lists place (fail text) k h = tt
  instr_lists place (branch test first other) k h = (
    code_lists place first (all_first KeepsRules (code_items place first) (code_items place other) h),
    code_lists place other (all_later KeepsRules (code_items place first) (code_items place other) h),
  )
  instr_lists place (each var pattern body) k h = code_lists (within place var) body h
  instr_lists place (forward port) k h = tt
  instr_lists place (fork []) k h = let bad : true ≡ false = k.forks in cc
  instr_lists place (fork (port ∷ ports)) k h = λ e. cc
  instr_lists place (block body) k h = code_lists place body h
  instr_lists place no_op k h = tt

  code_lists : (place : items.Place) (code : CodeTree) → AllByRecursion KeepsRules (code_items place code) →
      AllHavePorts code
  code_lists place no_code h = tt
  code_lists place (instr_and i is) h = (
    instr_lists place i h.0 (all_first KeepsRules (inner_items place i) (code_items place is) h.1),
    code_lists place is (all_later KeepsRules (inner_items place i) (code_items place is) h.1),
  )

abbrev PortLists : PortTree → Type 0
PortLists p = AllHavePorts p.code

abbrev NodeLists : DeclTree → Type 0
NodeLists d = AllByRecursion PortLists (codes_of d.body)

ports_list : (ports : Ports) (ins outs : List ℕ) (ps : List PortTree) →
    AllByRecursion KeepsRules (port_items ports ins outs ps) → AllByRecursion PortLists ps
ports_list ports ins outs [] h = tt
ports_list ports ins outs (p ∷ ps) h =
    let later = port_items ports (with_input p.side p.port ins) (with_output p.side p.port outs) ps in
    let own = all_first KeepsRules (one_port_items ports ins outs p) later h in (
      code_lists (record { outs = ports.outs; side = p.side; vars = [] }) p.code own.1,
      ports_list ports (with_input p.side p.port ins) (with_output p.side p.port outs) ps
          (all_later KeepsRules (one_port_items ports ins outs p) later h),
    )

nodes_list : (nodes : Nodes) (ds : List DeclTree) → AllByRecursion KeepsRules (node_items nodes ds) →
    AllByRecursion NodeLists ds
nodes_list nodes [] h = tt
nodes_list nodes (d ∷ ds) h =
    let own = all_first KeepsRules (decl_items nodes d) (node_items (with_node nodes d) ds) h in (
      ports_list (ports_of d.body) [] [] (codes_of d.body) own.1,
      nodes_list (with_node nodes d) ds (all_later KeepsRules (decl_items nodes d) (node_items (with_node nodes d) ds) h),
    )

node_lists : (ds : List DeclTree) (n : ℕ) → AllByRecursion NodeLists ds →
    AllByRecursion PortLists (codes_of_node (slice_get ds n))
node_lists [] n h = tt
node_lists (d ∷ ds) zero h = h.0
node_lists (d ∷ ds) (suc n) h = node_lists ds n h.1

by_test : (b : Bool) (p : PortTree) (found : Option PortTree) → AllHavePorts p.code →
    AllHavePorts (unwrap_or (option_map (λ (q : PortTree). q.code) found) no_code) →
    AllHavePorts (unwrap_or (option_map (λ (q : PortTree). q.code) (cond b (Some p) found)) no_code)
by_test true p found h k = h
by_test false p found h k = k

found_lists : (test : PortTree → Bool) (ps : List PortTree) → AllByRecursion PortLists ps →
    AllHavePorts (unwrap_or (option_map (λ (p : PortTree). p.code) (find test ps)) no_code)
found_lists test [] h = tt
found_lists test (p ∷ ps) h = by_test (test p) p (find test ps) h.0 (found_lists test ps h.1)

pub accepted_codes : (net : Network) → AllByRecursion KeepsRules (net_items net.own) → (node : NodeId) (side : Side)
    (port : ℕ) → AllHavePorts (code_of net node side port).1
accepted_codes net h node side port =
    let nodes = net.own.nodes in
    let all = nodes_list [] nodes
    (all_first KeepsRules (node_items [] nodes) (link_items (nodes_after [] nodes) [] net.own.links) h) in
    found_lists (is_port side port) (codes_of_node (slice_get nodes node.0)) (node_lists nodes node.0 all)
