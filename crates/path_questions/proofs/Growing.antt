-- Choices come and none goes: those at a port are the first of those at the end.
use Rattle.std.proofs.Common.{◌≡◌, ℕ, zero, suc, ◌+◌, Bool, true, false, List, [], ◌∷◌, ◌++◌, length, refl, sym, ap, ◌∙◌, append_assoc, Option, Some, None, option_map, Result, Ok, Err}
use Rattle.std.proofs.lemmas.List.{append-nil}
use Rattle.std.specs.List.{AllByRecursion}
use Rattle.sn_width.specs.declared.faults.LayoutFault.{LayoutFault}
use Rattle.sn_width.specs.declared.ids.NodeId.{NodeId}
use Rattle.sefl_syntax.specs.declared.net.Side.{Side}
use Rattle.sefl_syntax.specs.declared.net.Side.TheVariants.{Inward, Outward}
use Rattle.sefl_syntax.specs.Trees.{InstrTree, CodeTree, allocate, deallocate, assign, assign_any, create_tag, set_tag, destroy_tag, constrain, fail, branch, each, forward, fork, block, no_op, no_code, instr_and}
use Rattle.job_items.specs.AtomRules.{width_of}
use Rattle.sefl_meaning.specs.declared.walk.Decision.{Decision}
use Rattle.sefl_meaning.specs.declared.walk.Failure.TheVariants.{Constraint}
use Rattle.sefl_meaning.specs.declared.walk.Place.{Place}
use Rattle.sefl_meaning.specs.Values.{Values}
use Rattle.sefl_meaning.specs.Network.{Network, code_of, link_of, code_size, inner_size}
use Rattle.sefl_meaning.specs.Carried.{Carried, Scene, Key, scene_at}
use Rattle.sefl_meaning.specs.Terms.{truth_in}
use Rattle.sefl_meaning.specs.Steps.{allocated, deallocated, assigned, evaluated, tag_created, tag_set, tag_destroyed}
use Rattle.sefl_meaning.specs.Runs.{Exit, off, go, forked, failed, in_iteration, iterations_of}
use Rattle.sefl_meaning.specs.Courses.{at_if, at_constrain, Progress, begin, chosen, with_state, Course, ends, asks, off_or, after, unless_fault, step, course_iterations, course_in, course_code}
use Rattle.sefl_meaning.specs.Routes.{Route, route, copy_route, waiting, arriving, taking, truth_of, number_of, by_truth, by_number}
use Rattle.sefl_meaning.specs.Start.{progress_of}
use Rattle.sefl_meaning.specs.Trees.{Tree, over, arrives, tests, splits, Copies, no_copies, copy_and, Onward, then_tree, port_course, crossed, leave, copies, passed, enter}

-- these choices are the first of the progress
abbrev pub Grows : {V : Type 0} → List ℕ → Progress V → Type 0
Grows before p = (more : List ℕ) × (p.choices ≡ before ++ more)

module _ {V : Type 0} where
  pub stays : (p : Progress V) → Grows p.choices p
  stays p = ([], sym (append-nil p.choices))

  pub grows_on : (before : List ℕ) (p q : Progress V) → Grows before p → Grows p.choices q → Grows before q
  grows_on before p q h k =
      (h.0 ++ k.0, k.1 ∙ (ap (λ cs. cs ++ k.0) h.1 ∙ append_assoc before h.0 k.0))

module _ {V F : Type 0} where
  -- at each node of a course and of a tree
  abbrev pub CourseGrows : List ℕ → Course V F → Type 0
  CourseGrows before (ends p exit) = Grows before p
  CourseGrows before (asks asking p test held broken) = Grows before p × CourseGrows p.choices held × CourseGrows p.choices broken

  abbrev mutual
    pub TreeGrows : List ℕ → Tree V F → Type 0
    TreeGrows before (over p end') = Grows before p
    TreeGrows before (arrives place p t) = Grows before p × TreeGrows p.choices t
    TreeGrows before (tests asking p test held broken) = Grows before p × TreeGrows p.choices held × TreeGrows p.choices broken
    TreeGrows before (splits p branches) = Grows before p × EachGrows p.choices branches

    pub EachGrows : List ℕ → Copies V F → Type 0
    EachGrows before no_copies = Unit {0}
    EachGrows before (copy_and t branches) = TreeGrows before t × EachGrows before branches

  course_before : (before : List ℕ) (p : Progress V) (c : Course V F) → Grows before p → CourseGrows p.choices c → CourseGrows before c
  course_before before p (ends q exit) h k = grows_on before p q h k
  course_before before p (asks asking q test held broken) h k = (grows_on before p q h k.0, k.1, k.2)

  mutual
    tree_before : (before : List ℕ) (p : Progress V) (t : Tree V F) → Grows before p → TreeGrows p.choices t → TreeGrows before t
    tree_before before p (over q end') h k = grows_on before p q h k
    tree_before before p (arrives place q t) h k = (grows_on before p q h k.0, k.1)
    tree_before before p (tests asking q test held broken) h k = (grows_on before p q h k.0, k.1, k.2)
    tree_before before p (splits q branches) h k = (grows_on before p q h k.0, k.1)

  off_grows : (before : List ℕ) (exit : Exit) (p : Progress V) (next : Progress V → Course V F) → Grows before p
      → ((q : Progress V) → CourseGrows q.choices (next q)) → CourseGrows before (off_or exit p next)
  off_grows before off p next h k = course_before before p (next p) h (k p)
  off_grows before (go port) p next h k = h
  off_grows before (forked ports) p next h k = h
  off_grows before (failed failure site) p next h k = h

  after_grows : (before : List ℕ) (c : Course V F) (next : Progress V → Course V F) → CourseGrows before c
      → ((q : Progress V) → CourseGrows q.choices (next q)) → CourseGrows before (after c next)
  after_grows before (ends p exit) next h k = off_grows before exit p next h k
  after_grows before (asks asking p test held broken) next h k =
      (h.0, after_grows p.choices held next h.1 k, after_grows p.choices broken next h.2 k)

  iterations_grow : (body : Key → Progress V → Course V F) → ((key : Key) (q : Progress V) → CourseGrows q.choices (body key q))
      → (keys : List Key) (p : Progress V) → CourseGrows p.choices (course_iterations body keys p)
  iterations_grow body k [] p = stays p
  iterations_grow body k (key ∷ keys) p =
      after_grows p.choices (body key p) (course_iterations body keys) (k key p) (λ q. iterations_grow body k keys q)

  unless_grows : {A : Type 0} (site : ℕ) (r : Result A LayoutFault) (p : Progress V) (next : A → Course V F)
      → ((x : A) → CourseGrows p.choices (next x)) → CourseGrows p.choices (unless_fault site r p next)
  unless_grows site (Ok x) p next k = k x
  unless_grows site (Err fault) p next k = stays p

  then_grows : (before : List ℕ) (c : Course V F) (next : Exit → Progress V → Tree V F) → CourseGrows before c
      → ((exit : Exit) (q : Progress V) → TreeGrows q.choices (next exit q)) → TreeGrows before (then_tree c next)
  then_grows before (ends p exit) next h k = tree_before before p (next exit p) h (k exit p)
  then_grows before (asks asking p test held broken) next h k =
      (h.0, then_grows p.choices held next h.1 k, then_grows p.choices broken next h.2 k)

step_grows : {V : Type 0} (F : Type 0) (site : ℕ) (r : Result (Carried V) LayoutFault) (p : Progress V) → CourseGrows {F = F} p.choices (step site r p)
step_grows F site r p = unless_grows site r p (λ next. ends (with_state p next) off) (λ next. stays p)

module _ {V F : Type 0} (o : Values V F) where
  mutual
    instr_grows : (at : Scene) (site : ℕ) (i : InstrTree) (p : Progress V) → CourseGrows p.choices (course_in o at site i p)
    instr_grows at site (allocate target) p = step_grows F site (allocated at target p.state) p
    instr_grows at site (deallocate target) p = step_grows F site (deallocated at target p.state) p
    instr_grows at site (assign target value) p = step_grows F site (evaluated o at target value p.state) p
    instr_grows at site (assign_any target) p =
        unless_grows site (assigned at target (o.choice (width_of target) (length p.choices)) p.state) p
        (λ next. ends (chosen p (width_of target) next) off) (λ next. (width_of target ∷ [], refl))
    instr_grows at site (create_tag name addr) p = step_grows F site (tag_created at name addr p.state) p
    instr_grows at site (set_tag name addr) p = step_grows F site (tag_set at name addr p.state) p
    instr_grows at site (destroy_tag name) p = step_grows F site (tag_destroyed at name p.state) p
    instr_grows at site (constrain test) p =
        unless_grows site (truth_in o at test p.state) p
        (λ f. asks at_constrain p f (ends p off) (ends p (failed Constraint site))) (λ f. (stays p, stays p, stays p))
    instr_grows at site (fail text) p = stays p
    instr_grows at site (branch test first other) p =
        unless_grows site (truth_in o at test p.state) p
        (λ f. asks at_if p f (course_code o at (suc site) first p) (course_code o at (suc site + code_size first) other p))
        (λ f. (stays p, code_grows at (suc site) first p, code_grows at (suc site + code_size first) other p))
    instr_grows at site (each var pattern body) p =
        iterations_grow (λ key q. course_code o (in_iteration at var key) (suc site) body q)
        (λ key q. code_grows (in_iteration at var key) (suc site) body q) (iterations_of at pattern p.state) p
    instr_grows at site (forward port) p = stays p
    instr_grows at site (fork ports) p = stays p
    instr_grows at site (block body) p = code_grows at (suc site) body p
    instr_grows at site no_op p = stays p

    code_grows : (at : Scene) (site : ℕ) (code : CodeTree) (p : Progress V) → CourseGrows p.choices (course_code o at site code p)
    code_grows at site no_code p = stays p
    code_grows at site (instr_and i is) p =
        after_grows p.choices (course_in o at site i (begin p)) (course_code o at (suc site + inner_size i) is)
        (instr_grows at site i (begin p)) (λ q. code_grows at (suc site + inner_size i) is q)

  module _ (net : Network) where
    abbrev OnwardGrows : Onward V F → Type 0
    OnwardGrows onward = (node : NodeId) (port : ℕ) (p : Progress V) → TreeGrows p.choices (onward node port p)

    port_grows : (node : NodeId) (side : Side) (port : ℕ) (p : Progress V) → CourseGrows p.choices (port_course o net node side port p)
    port_grows node side port p = code_grows (scene_at net node) (suc (code_of net node side port).0) (code_of net node side port).1 p

    module _ (onward : Onward V F) (k : OnwardGrows onward) where
      crossed_grows : (link : Option (NodeId × ℕ)) (exit : Exit) (p : Progress V) → TreeGrows p.choices (crossed o net onward link exit p)
      crossed_grows None off p = stays p
      crossed_grows None (go port) p = stays p
      crossed_grows None (forked ports) p = stays p
      crossed_grows None (failed failure site) p = stays p
      crossed_grows (Some to) off p = k to.0 to.1 p
      crossed_grows (Some to) (go port) p = stays p
      crossed_grows (Some to) (forked ports) p = stays p
      crossed_grows (Some to) (failed failure site) p = stays p

      leave_grows : OnwardGrows (leave o net onward)
      leave_grows node port p = (
        stays p,
        then_grows p.choices (port_course o net node Outward port p) (crossed o net onward (link_of net node port))
            (port_grows node Outward port p) (crossed_grows (link_of net node port)),
      )

      copies_grow : (node : NodeId) (ports : List ℕ) (p : Progress V) → EachGrows p.choices (copies o net onward node ports p)
      copies_grow node [] p = tt
      copies_grow node (port ∷ ports) p = (leave_grows node port p, copies_grow node ports p)

      passed_grows : (node : NodeId) (exit : Exit) (p : Progress V) → TreeGrows p.choices (passed o net onward node exit p)
      passed_grows node off p = stays p
      passed_grows node (go port) p = leave_grows node port p
      passed_grows node (forked ports) p = (stays p, copies_grow node ports p)
      passed_grows node (failed failure site) p = stays p

    pub enter_grows : (hops : ℕ) → OnwardGrows (enter o net hops)
    enter_grows zero node port p = (stays p, stays p)
    enter_grows (suc hops) node port p = (
      stays p,
      then_grows p.choices (port_course o net node Inward port p) (passed o net (enter o net hops) node)
          (port_grows node Inward port p) (passed_grows (enter o net hops) (enter_grows hops) node),
    )

-- ---- routes

module _ {V F : Type 0} where
  -- all arrivals of a route have the first of the choices where it waits or is over
  pub record RouteGrows (before : List ℕ) (r : Route V F) : Type 0 where
    pub whole : Grows before (progress_of r.left)
    pub arrivals : AllByRecursion (λ (a : Place × Progress V). Grows a.1.choices (progress_of r.left)) r.arrivals

  abbrev pub FoundGrows : List ℕ → Option (Route V F) → Type 0
  FoundGrows before None = Unit {0}
  FoundGrows before (Some r) = RouteGrows before r

  route_before : (before : List ℕ) (p : Progress V) (r : Option (Route V F)) → Grows before p → FoundGrows p.choices r → FoundGrows before r
  route_before before p None h k = tt
  route_before before p (Some r) h k = record { whole = grows_on before p (progress_of r.left) h k.whole; arrivals = k.arrivals }

  arriving_grows : (before : List ℕ) (place : Place) (p : Progress V) (r : Option (Route V F)) → Grows before p → FoundGrows p.choices r
      → FoundGrows before (option_map (arriving place p) r)
  arriving_grows before place p None h k = tt
  arriving_grows before place p (Some r) h k =
      record { whole = grows_on before p (progress_of r.left) h k.whole; arrivals = (k.whole, k.arrivals) }

  taking_grows : (before : List ℕ) (test : F) (truth : Bool) (r : Option (Route V F)) → FoundGrows before r → FoundGrows before (option_map (taking test truth) r)
  taking_grows before test truth None k = tt
  taking_grows before test truth (Some r) k = record { whole = k.whole; arrivals = k.arrivals }

  truth_grows : (before : List ℕ) (answer : Option Bool) (test : F) (held broken : Option (Route V F)) → FoundGrows before held → FoundGrows before broken
      → FoundGrows before (by_truth answer test held broken)
  truth_grows before None test held broken h k = tt
  truth_grows before (Some true) test held broken h k = taking_grows before test true held h
  truth_grows before (Some false) test held broken h k = taking_grows before test false broken k

  number_grows : (before : List ℕ) (number : Option ℕ) (copy : ℕ → Option (Route V F)) → ((n : ℕ) → FoundGrows before (copy n))
      → FoundGrows before (by_number number copy)
  number_grows before None copy k = tt
  number_grows before (Some n) copy k = k n

  waiting_grows : (before : List ℕ) (t : Tree V F) → Grows before (progress_of t) → FoundGrows before (Some (waiting t))
  waiting_grows before t h = record { whole = h; arrivals = tt }

  mutual
    pub route_grows : (before : List ℕ) (t : Tree V F) (ds : List Decision) → TreeGrows before t → FoundGrows before (route t ds)
    route_grows before (over p end') [] h = waiting_grows before (over p end') h
    route_grows before (over p end') (d ∷ ds) h = tt
    route_grows before (arrives place p t) ds h = arriving_grows before place p (route t ds) h.0 (route_grows p.choices t ds h.1)
    route_grows before (tests asking p test held broken) [] h = waiting_grows before (tests asking p test held broken) h.0
    route_grows before (tests asking p test held broken) (d ∷ ds) h =
        route_before before p (by_truth (truth_of asking d) test (route held ds) (route broken ds)) h.0
        (truth_grows p.choices (truth_of asking d) test (route held ds) (route broken ds) (route_grows p.choices held ds h.1) (route_grows p.choices broken ds h.2))
    route_grows before (splits p branches) [] h = waiting_grows before (splits p branches) h.0
    route_grows before (splits p branches) (d ∷ ds) h =
        route_before before p (by_number (number_of d) (λ n. copy_route branches n ds)) h.0
        (number_grows p.choices (number_of d) (λ n. copy_route branches n ds) (λ n. copies_route p.choices branches n ds h.1))

    copies_route : (before : List ℕ) (branches : Copies V F) (n : ℕ) (ds : List Decision) → EachGrows before branches → FoundGrows before (copy_route branches n ds)
    copies_route before no_copies n ds h = tt
    copies_route before (copy_and t branches) zero ds h = route_grows before t ds h.0
    copies_route before (copy_and t branches) (suc n) ds h = copies_route before branches n ds h.1
