-- The plain run over numbers is the way through the course and the tree that goes by their truths.
use Rattle.std.proofs.Common.{◌≡◌, ℕ, zero, suc, ◌+◌, Bool, true, false, if◌then◌else◌, List, [], ◌∷◌, ◌++◌, length, map, refl, sym, ap, ◌∙◌, Option, None, Some, Result, Ok, Err}
use Rattle.sn_width.specs.declared.faults.LayoutFault.{LayoutFault}
use Rattle.sn_width.specs.declared.ids.NodeId.{NodeId}
use Rattle.sefl_syntax.specs.declared.net.Side.{Side}
use Rattle.sefl_syntax.specs.declared.net.Side.TheVariants.{Inward, Outward}
use Rattle.sefl_syntax.specs.Trees.{InstrTree, CodeTree, allocate, deallocate, assign, assign_any, create_tag, set_tag, destroy_tag, constrain, fail, branch, each, forward, fork, block, no_op, no_code, instr_and}
use Rattle.job_items.specs.AtomRules.{width_of}
use Rattle.sefl_meaning.specs.declared.walk.Decision.{Decision}
use Rattle.sefl_meaning.specs.declared.walk.Decision.TheVariants.{Then, Else, Pass, Broken, Copy}
use Rattle.sefl_meaning.specs.declared.walk.Failure.TheVariants.{Constraint}
use Rattle.sefl_meaning.specs.Values.{numbers}
use Rattle.sefl_meaning.specs.Network.{Network, code_of, link_of, code_size, inner_size}
use Rattle.sefl_meaning.specs.Carried.{Carried, Scene, Key, scene_at}
use Rattle.sefl_meaning.specs.Terms.{truth_in}
use Rattle.sefl_meaning.specs.Steps.{allocated, deallocated, assigned, evaluated, tag_created, tag_set, tag_destroyed}
use Rattle.sefl_meaning.specs.Runs as runs
use Rattle.sefl_meaning.specs.Runs.{Exit, off, go, forked, failed, Ran, ran, noting, then_next, then_run, run_iterations, in_iteration, iterations_of, run_instr, run_code}
use Rattle.sefl_meaning.specs.Courses.{at_if, at_constrain, Progress, begin, Course, ends, asks, off_or, after, unless_fault, step, course_iterations, course_in, course_code}
use Rattle.sefl_meaning.specs.Walks as walks
use Rattle.sefl_meaning.specs.Walks.{Passage, by_way_of, decided, place_at, run_port}
use Rattle.sefl_meaning.specs.Trees as trees
use Rattle.sefl_meaning.specs.Trees.{Tree, port_course}
use Rattle.sefl_meaning.specs.Taken.{decision_at, taken, walks_of, walks_of_copies}

-- ---- the code of a port

-- one decision before what a run goes on to
one_before : (exit : Exit) (d : Decision) (r : Ran) (next : Progress ℕ → Ran) →
    then_next exit (noting (d ∷ []) r) next ≡ noting (d ∷ []) (then_next exit r next)
one_before off d r next = refl
one_before (go port) d r next = refl
one_before (forked ports) d r next = refl
one_before (failed failure site) d r next = refl

abbrev RunsAs : (Progress ℕ → Course ℕ Bool) → (Progress ℕ → Ran) → Type 0
RunsAs next run_next = (p : Progress ℕ) → taken (next p) ≡ run_next p

taken_off : (exit : Exit) (p : Progress ℕ) (next : Progress ℕ → Course ℕ Bool) (run_next : Progress ℕ → Ran) →
    RunsAs next run_next → taken (off_or exit p next) ≡ then_next exit (ran exit p) run_next
taken_off off p next run_next same = same p
taken_off (go port) p next run_next same = refl
taken_off (forked ports) p next run_next same = refl
taken_off (failed failure site) p next run_next same = refl

taken_after : (c : Course ℕ Bool) (next : Progress ℕ → Course ℕ Bool) (run_next : Progress ℕ → Ran) →
    RunsAs next run_next → taken (after c next) ≡ then_run (taken c) run_next
taken_after (ends p exit) next run_next same = taken_off exit p next run_next same
taken_after (asks asking p true held broken) next run_next same =
    ap (noting (decision_at asking true ∷ [])) (taken_after held next run_next same)
    ∙ sym (one_before (taken held).exit (decision_at asking true) (taken held) run_next)
taken_after (asks asking p false held broken) next run_next same =
    ap (noting (decision_at asking false ∷ [])) (taken_after broken next run_next same)
    ∙ sym (one_before (taken broken).exit (decision_at asking false) (taken broken) run_next)

taken_unless : {A : Type 0} (site : ℕ) (r : Result A LayoutFault) (p : Progress ℕ) (next : A → Course ℕ Bool)
    (run_next : A → Ran) →
    ((x : A) → taken (next x) ≡ run_next x) →
    taken (unless_fault site r p next) ≡ runs.unless_fault site r p run_next
taken_unless site (Ok x) p next run_next same = same x
taken_unless site (Err fault) p next run_next same = refl

taken_iterations : (body : Key → Progress ℕ → Course ℕ Bool) (run_body : Key → Progress ℕ → Ran) →
    ((key : Key) → RunsAs (body key) (run_body key)) → (keys : List Key) →
    RunsAs (course_iterations body keys) (run_iterations run_body keys)
taken_iterations body run_body same [] p = refl
taken_iterations body run_body same (key ∷ keys) p =
    taken_after (body key p) (course_iterations body keys) (run_iterations run_body keys) (taken_iterations body run_body same keys)
    ∙ ap (λ r. then_run r (run_iterations run_body keys)) (same key p)

taken_step : (site : ℕ) (result : Result (Carried ℕ) LayoutFault) (p : Progress ℕ) →
    taken (step {F = Bool} site result p) ≡ runs.step site result p
taken_step site (Ok s) p = refl
taken_step site (Err fault) p = refl

taken_choice : (site width : ℕ) (result : Result (Carried ℕ) LayoutFault) (p : Progress ℕ) →
    taken (unless_fault {F = Bool} site result p
    (λ next. ends (record p { state = next; choices = p.choices ++ width ∷ [] }) off))
    ≡ runs.unless_fault site result p
    (λ next. ran off (record { state = next; choices = p.choices ++ width ∷ []; begun = p.begun }))
taken_choice site width (Ok s) p = refl
taken_choice site width (Err fault) p = refl

taken_constrain : (site : ℕ) (result : Result Bool LayoutFault) (p : Progress ℕ) →
    taken (unless_fault site result p
    (λ holds. asks at_constrain p holds (ends p off) (ends p (failed Constraint site))))
    ≡ runs.unless_fault site result p (λ holds.
    if holds then noting (Pass ∷ []) (ran off p) else noting (Broken ∷ []) (ran (failed Constraint site) p))
taken_constrain site (Ok true) p = refl
taken_constrain site (Ok false) p = refl
taken_constrain site (Err fault) p = refl

taken_branch : (site : ℕ) (result : Result Bool LayoutFault) (p : Progress ℕ) (held broken : Course ℕ Bool)
    (first other : Ran) →
    taken held ≡ first → taken broken ≡ other →
    taken (unless_fault site result p (λ holds. asks at_if p holds held broken))
    ≡ runs.unless_fault site result p
    (λ holds. if holds then noting (Then ∷ []) first else noting (Else ∷ []) other)
taken_branch site (Ok true) p held broken first other h b = ap (noting (Then ∷ [])) h
taken_branch site (Ok false) p held broken first other h b = ap (noting (Else ∷ [])) b
taken_branch site (Err fault) p held broken first other h b = refl

module _ (v : List ℕ) (unknowns : ℕ) where
  mutual
    pub taken_instr : (at : Scene) (site : ℕ) (i : InstrTree) (p : Progress ℕ) →
        taken (course_in (numbers v unknowns) at site i p) ≡ run_instr v unknowns at site i p
    taken_instr at site (allocate target) p = taken_step site (allocated at target p.state) p
    taken_instr at site (deallocate target) p = taken_step site (deallocated at target p.state) p
    taken_instr at site (assign target value) p =
        taken_step site (evaluated (numbers v unknowns) at target value p.state) p
    taken_instr at site (assign_any target) p =
        taken_choice site (width_of target)
        (assigned at target ((numbers v unknowns).choice (width_of target) (length p.choices)) p.state) p
    taken_instr at site (create_tag name addr) p = taken_step site (tag_created at name addr p.state) p
    taken_instr at site (set_tag name addr) p = taken_step site (tag_set at name addr p.state) p
    taken_instr at site (destroy_tag name) p = taken_step site (tag_destroyed at name p.state) p
    taken_instr at site (constrain test) p = taken_constrain site (truth_in (numbers v unknowns) at test p.state) p
    taken_instr at site (fail text) p = refl
    taken_instr at site (branch test first other) p =
        taken_branch site (truth_in (numbers v unknowns) at test p.state) p _ _ _ _ (taken_code at (suc site) first p)
        (taken_code at (suc site + code_size first) other p)
    taken_instr at site (each var pattern body) p =
        taken_iterations (λ key q. course_code (numbers v unknowns) (in_iteration at var key) (suc site) body q)
        (λ key q. run_code v unknowns (in_iteration at var key) (suc site) body q)
        (λ key q. taken_code (in_iteration at var key) (suc site) body q)
        (iterations_of at pattern p.state) p
    taken_instr at site (forward port) p = refl
    taken_instr at site (fork ports) p = refl
    taken_instr at site (block body) p = taken_code at (suc site) body p
    taken_instr at site no_op p = refl

    pub taken_code : (at : Scene) (site : ℕ) (code : CodeTree) (p : Progress ℕ) →
        taken (course_code (numbers v unknowns) at site code p)
        ≡ run_code v unknowns at site code p
    taken_code at site no_code p = refl
    taken_code at site (instr_and i is) p =
        taken_after (course_in (numbers v unknowns) at site i (begin p))
        (course_code (numbers v unknowns) at (suc site + inner_size i) is)
        (run_code v unknowns at (suc site + inner_size i) is) (λ q. taken_code at (suc site + inner_size i) is q)
        ∙ ap (λ r. then_run r (run_code v unknowns at (suc site + inner_size i) is)) (taken_instr at site i (begin p))

-- ---- whole walks

none_before : (ts : List Passage) → ts ≡ map (decided []) ts
none_before [] = refl
none_before (t ∷ ts) = ap (λ (us : List Passage). t ∷ us) (none_before ts)

one_first : (d : Decision) (ds : List Decision) (ts : List Passage) →
    map (decided (d ∷ [])) (map (decided ds) ts) ≡ map (decided (d ∷ ds)) ts
one_first d ds [] = refl
one_first d ds (t ∷ ts) = ap (λ (us : List Passage). decided (d ∷ ds) t ∷ us) (one_first d ds ts)

walks_behind : (c : Course ℕ Bool) (next : Exit → Progress ℕ → Tree ℕ Bool) (walk : Exit → Progress ℕ → List Passage) →
    ((exit : Exit) (p : Progress ℕ) → walks_of (next exit p) ≡ walk exit p) →
    walks_of (trees.then_tree c next)
    ≡ map (decided (taken c).decisions) (walk (taken c).exit (taken c).progress)
walks_behind (ends p exit) next walk same = same exit p ∙ none_before (walk exit p)
walks_behind (asks asking p true held broken) next walk same =
    ap (map (decided (decision_at asking true ∷ []))) (walks_behind held next walk same)
    ∙ one_first (decision_at asking true) (taken held).decisions
    (walk (taken held).exit (taken held).progress)
walks_behind (asks asking p false held broken) next walk same =
    ap (map (decided (decision_at asking false ∷ []))) (walks_behind broken next walk same)
    ∙ one_first (decision_at asking false) (taken broken).decisions
    (walk (taken broken).exit (taken broken).progress)

module _ (net : Network) (v : List ℕ) (unknowns : ℕ) where
  abbrev WalksAs : trees.Onward ℕ Bool → walks.Onward → Type 0
  WalksAs onward walk = (node : NodeId) (port : ℕ) (p : Progress ℕ) →
      walks_of (onward node port p) ≡ walk node port p

  -- the walks behind the code of a port are those of its run
  port_walks : (node : NodeId) (side : Side) (port : ℕ) (p : Progress ℕ) (next : Exit → Progress ℕ → Tree ℕ Bool)
      (walk : Exit → Progress ℕ → List Passage) →
      ((exit : Exit) (q : Progress ℕ) → walks_of (next exit q) ≡ walk exit q) →
      walks_of (trees.then_tree (port_course (numbers v unknowns) net node side port p) next)
      ≡ map (decided (run_port net v unknowns node side port p).decisions)
      (walk (run_port net v unknowns node side port p).exit (run_port net v unknowns node side port p).progress)
  port_walks node side port p next walk same =
      walks_behind (port_course (numbers v unknowns) net node side port p) next walk same
      ∙ ap (λ (r : Ran). map (decided r.decisions) (walk r.exit r.progress))
      (taken_code v unknowns (scene_at net node) (suc (code_of net node side port).0)
      (code_of net node side port).1 p)

  module _ (onward : trees.Onward ℕ Bool) (walk : walks.Onward) (same : WalksAs onward walk) where
    crossed_walks : (link : Option (NodeId × ℕ)) (exit : Exit) (p : Progress ℕ) →
        walks_of (trees.crossed (numbers v unknowns) net onward link exit p)
        ≡ walks.crossed net v unknowns walk link exit p
    crossed_walks None off p = refl
    crossed_walks None (go port) p = refl
    crossed_walks None (forked ports) p = refl
    crossed_walks None (failed failure site) p = refl
    crossed_walks (Some to) off p = same to.0 to.1 p
    crossed_walks (Some to) (go port) p = refl
    crossed_walks (Some to) (forked ports) p = refl
    crossed_walks (Some to) (failed failure site) p = refl

    leave_walks : WalksAs (trees.leave (numbers v unknowns) net onward) (walks.leave net v unknowns walk)
    leave_walks node port p =
        ap (map (by_way_of (place_at node Outward port) p))
        (port_walks node Outward port p (trees.crossed (numbers v unknowns) net onward (link_of net node port))
        (walks.crossed net v unknowns walk (link_of net node port)) (crossed_walks (link_of net node port)))

    copies_walks : (node : NodeId) (number : ℕ) (ports : List ℕ) (p : Progress ℕ) →
        walks_of_copies number (trees.copies (numbers v unknowns) net onward node ports p)
        ≡ walks.copies net v unknowns walk node number ports p
    copies_walks node number [] p = refl
    copies_walks node number (port ∷ ports) p = λ i.
        map (decided (Copy number ∷ [])) (leave_walks node port p i) ++ copies_walks node (suc number) ports p i

    passed_walks : (node : NodeId) (exit : Exit) (p : Progress ℕ) →
        walks_of (trees.passed (numbers v unknowns) net onward node exit p)
        ≡ walks.passed net v unknowns walk node exit p
    passed_walks node off p = refl
    passed_walks node (go port) p = leave_walks node port p
    passed_walks node (forked ports) p = copies_walks node 0 ports p
    passed_walks node (failed failure site) p = refl

  pub enter_walks : (hops : ℕ) → WalksAs (trees.enter (numbers v unknowns) net hops) (walks.enter net v unknowns hops)
  enter_walks zero node port p = refl
  enter_walks (suc hops) node port p =
      ap (map (by_way_of (place_at node Inward port) p))
      (port_walks node Inward port p
      (trees.passed (numbers v unknowns) net (trees.enter (numbers v unknowns) net hops) node)
      (walks.passed net v unknowns (walks.enter net v unknowns hops) node)
      (passed_walks (trees.enter (numbers v unknowns) net hops) (walks.enter net v unknowns hops) (enter_walks hops)
      node))
