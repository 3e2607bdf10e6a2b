-- Courses and trees of one kind of values, and what functions of values and truths make of them.
use Rattle.std.proofs.Common.{◌≡◌, ℕ, zero, suc, ◌+◌, Bool, List, [], ◌∷◌, length, refl, sym, ap, subst, ◌∙◌, Option, Some, None, Result, Ok, Err}
use Rattle.sn_width.specs.declared.faults.LayoutFault.{LayoutFault}
use Rattle.sn_width.specs.declared.ids.NodeId.{NodeId}
use Rattle.sefl_syntax.specs.declared.net.Side.{Side}
use Rattle.sefl_syntax.specs.declared.net.Side.TheVariants.{Inward, Outward}
use Rattle.sefl_syntax.specs.Trees.{InstrTree, CodeTree, allocate, deallocate, assign, assign_any, create_tag, set_tag, destroy_tag, constrain, fail, branch, each, forward, fork, block, no_op, no_code, instr_and}
use Rattle.job_items.specs.AtomRules.{width_of}
use Rattle.sefl_meaning.specs.declared.walk.Failure.TheVariants.{Constraint}
use Rattle.sefl_meaning.specs.Values.{Values}
use Rattle.sefl_meaning.specs.Network.{Network, code_of, link_of, names_found, code_size, inner_size}
use Rattle.sefl_meaning.specs.Carried.{Carried, Scene, Key, carried_valued, scene_at}
use Rattle.sefl_meaning.specs.Terms.{truth_in}
use Rattle.sefl_meaning.specs.Steps.{assigned}
use Rattle.sefl_meaning.specs.Runs.{Exit, off, go, forked, failed, in_iteration, iterations_of}
use Rattle.sefl_meaning.specs.Walks.{place_at}
use Rattle.sefl_meaning.specs.Courses.{at_if, at_constrain, Progress, begin, chosen, Course, ends, asks, off_or, after, unless_fault, step, course_iterations, course_in, course_code}
use Rattle.sefl_meaning.specs.Trees.{Tree, Onward, arrives, splits, copy_and, then_tree, port_course, crossed, leave, copies, passed, enter}
use Rattle.sefl_meaning.specs.Trees.{tests}
use Rattle.sefl_meaning.specs.Valued.{Respects, CarriedFits, CourseFits, progress_valued, course_valued, tree_valued, copies_valued}
use Rattle.sefl_meaning.specs.Laws.{StateLaws}
use Rattle.sefl_meaning.proofs.Tracks.{Tracks, Anything, truth_tracks, allocated_tracks, deallocated_tracks, assigned_tracks, evaluated_tracks, tag_created_tracks, tag_set_tracks, tag_destroyed_tracks}

module _ {V F W G : Type 0} (fits : ℕ → V → Bool) (f : V → W) (g : F → G) where
  pub record CourseTracks (c : Course V F) (d : Course W G) : Type 0 where
    pub same : d ≡ course_valued f g c
    pub has : CourseFits fits c

  abbrev NextTracks : (Progress V → Course V F) → (Progress W → Course W G) → Type 0
  NextTracks next next_valued = (p : Progress V) → CarriedFits fits p.state →
      CourseTracks (next p) (next_valued (progress_valued f p))

  off_tracks : (exit : Exit) (p : Progress V) (next : Progress V → Course V F)
      (next_valued : Progress W → Course W G) → CarriedFits fits p.state →
      NextTracks next next_valued → CourseTracks (off_or exit p next) (off_or exit (progress_valued f p) next_valued)
  off_tracks off p next next_valued h k = k p h
  off_tracks (go port) p next next_valued h k = record { same = refl; has = h }
  off_tracks (forked ports) p next next_valued h k = record { same = refl; has = h }
  off_tracks (failed failure site) p next next_valued h k = record { same = refl; has = h }

  after_valued : (c : Course V F) (next : Progress V → Course V F) (next_valued : Progress W → Course W G) →
      CourseFits fits c →
      NextTracks next next_valued → CourseTracks (after c next) (after (course_valued f g c) next_valued)
  after_valued (ends p exit) next next_valued h k = off_tracks exit p next next_valued h k
  after_valued (asks asking p test held broken) next next_valued h k =
      let a = after_valued held next next_valued h.0 k in
      let b = after_valued broken next next_valued h.1 k in
      record { same = λ i. asks asking (progress_valued f p) (g test) (a.same i) (b.same i); has = (a.has, b.has) }

  track_after : (c : Course V F) (d : Course W G) (next : Progress V → Course V F)
      (next_valued : Progress W → Course W G) → CourseTracks c d →
      NextTracks next next_valued → CourseTracks (after c next) (after d next_valued)
  track_after c d next next_valued h k =
      subst (λ (e : Course W G). CourseTracks (after c next) (after e next_valued)) (sym h.same)
      (after_valued c next next_valued h.has k)

  track_iterations : (body : Key → Progress V → Course V F) (body_valued : Key → Progress W → Course W G) →
      ((key : Key) → NextTracks (body key) (body_valued key)) → (keys : List Key) →
      NextTracks (course_iterations body keys) (course_iterations body_valued keys)
  track_iterations body body_valued k [] p h = record { same = refl; has = h }
  track_iterations body body_valued k (key ∷ keys) p h =
      track_after (body key p) (body_valued key (progress_valued f p)) (course_iterations body keys)
      (course_iterations body_valued keys) (k key p h)
      (track_iterations body body_valued k keys)

  track_unless : {A B : Type 0} (h : A → B) (P : A → Type 0) (site : ℕ) (r : Result A LayoutFault)
      (t : Result B LayoutFault) (p : Progress V)
      (next : A → Course V F) (next_valued : B → Course W G) → Tracks h P r t → CarriedFits fits p.state →
      ((x : A) → P x → CourseTracks (next x) (next_valued (h x))) →
      CourseTracks (unless_fault site r p next) (unless_fault site t (progress_valued f p) next_valued)
  track_unless h P site (Ok x) t p next next_valued track fit k =
      subst (λ (u : Result _ LayoutFault). CourseTracks (next x)
      (unless_fault site u (progress_valued f p) next_valued)) (sym track.same) (k x track.has)
  track_unless h P site (Err fault) t p next next_valued track fit k = record {
    same = ap (λ u. unless_fault site u (progress_valued f p) next_valued) track.same;
    has = fit;
  }

  track_step : (site : ℕ) (r : Result (Carried V) LayoutFault) (t : Result (Carried W) LayoutFault) (p : Progress V) →
      CarriedFits fits p.state →
      Tracks (carried_valued f) (CarriedFits fits) r t →
      CourseTracks (step site r p) (step site t (progress_valued f p))
  track_step site r t p h track =
      track_unless (carried_valued f) (CarriedFits fits) site r t p _ _ track h
      (λ next fit. record { same = refl; has = fit })

  track_asks : {asking : _} (p : Progress V) (t : F) (held broken : Course V F)
      (held_valued broken_valued : Course W G) →
      CourseTracks held held_valued → CourseTracks broken broken_valued →
      CourseTracks (asks asking p t held broken) (asks asking (progress_valued f p) (g t) held_valued broken_valued)
  track_asks {asking = asking} p t held broken held_valued broken_valued a b = record {
    same = λ i. asks asking (progress_valued f p) (g t) (a.same i) (b.same i);
    has = (a.has, b.has);
  }

  -- what comes behind the ends of a course
  behind_valued : (c : Course V F) (next : Exit → Progress V → Tree V F) (next_valued : Exit → Progress W → Tree W G) →
      CourseFits fits c →
      ((exit : Exit) (p : Progress V) → CarriedFits fits p.state →
      next_valued exit (progress_valued f p) ≡ tree_valued f g (next exit p)) →
      then_tree (course_valued f g c) next_valued ≡ tree_valued f g (then_tree c next)
  behind_valued (ends p exit) next next_valued h k = k exit p h
  behind_valued (asks asking p test held broken) next next_valued h k = λ i.
      tests asking (progress_valued f p) (g test) (behind_valued held next next_valued h.0 k i)
      (behind_valued broken next next_valued h.1 k i)

module _ {V F W G : Type 0} (fits : ℕ → V → Bool) (o : Values V F) (p : Values W G) (f : V → W) (g : F → G)
    (rules : Respects fits o p f g) (laws : StateLaws f) where
  choice_tracks : (at : Scene) (target : _) (k : ℕ) (s : Carried V) → CarriedFits fits s →
      Tracks (carried_valued f) (CarriedFits fits) (assigned at target (o.choice (width_of target) k) s)
      (assigned at target (p.choice (width_of target) k) (carried_valued f s))
  choice_tracks at target k s h =
      subst (λ (x : W). Tracks (carried_valued f) (CarriedFits fits)
      (assigned at target (o.choice (width_of target) k) s) (assigned at target x (carried_valued f s)))
      (rules.choice (width_of target) k)
      (assigned_tracks fits f laws at target (o.choice (width_of target) k) s (rules.keeps.choice (width_of target) k)
      h)

  -- what a For goes over depends on no value
  iterations_same : (at : Scene) (pattern : List ℕ) (s : Carried V) →
      iterations_of at pattern (carried_valued f s) ≡ iterations_of at pattern s
  iterations_same at pattern s = laws.metadata.present at.node (names_found at.net pattern) s.scopes

  mutual
    pub instr_tracks : (at : Scene) (site : ℕ) (i : InstrTree) (from : Progress V) → CarriedFits fits from.state →
        CourseTracks fits f g (course_in o at site i from) (course_in p at site i (progress_valued f from))
    instr_tracks at site (allocate target) from h =
        track_step fits f g site _ _ from h (allocated_tracks fits f laws at target from.state h)
    instr_tracks at site (deallocate target) from h =
        track_step fits f g site _ _ from h (deallocated_tracks fits f laws at target from.state h)
    instr_tracks at site (assign target value) from h =
        track_step fits f g site _ _ from h (evaluated_tracks fits o p f g rules laws at target value from.state h)
    instr_tracks at site (assign_any target) from h =
        track_unless fits f g (carried_valued f) (CarriedFits fits) site
        (assigned at target (o.choice (width_of target) (length from.choices)) from.state)
        (assigned at target (p.choice (width_of target) (length from.choices)) (carried_valued f from.state)) from
        (λ next. ends (chosen from (width_of target) next) off)
        (λ next. ends (chosen (progress_valued f from) (width_of target) next) off)
        (choice_tracks at target (length from.choices) from.state h) h (λ next fit. record { same = refl; has = fit })
    instr_tracks at site (create_tag name addr) from h =
        track_step fits f g site _ _ from h (tag_created_tracks fits f laws at name addr from.state h)
    instr_tracks at site (set_tag name addr) from h =
        track_step fits f g site _ _ from h (tag_set_tracks fits f laws at name addr from.state h)
    instr_tracks at site (destroy_tag name) from h =
        track_step fits f g site _ _ from h (tag_destroyed_tracks fits f laws at name from.state h)
    instr_tracks at site (constrain test) from h =
        track_unless fits f g g Anything site (truth_in o at test from.state)
        (truth_in p at test (carried_valued f from.state)) from
        (λ t. asks at_constrain from t (ends from off) (ends from (failed Constraint site)))
        (λ t. asks at_constrain (progress_valued f from) t (ends (progress_valued f from) off)
        (ends (progress_valued f from) (failed Constraint site)))
        (truth_tracks fits o p f g rules laws at test from.state h) h (λ t u. record { same = refl; has = (h, h) })
    instr_tracks at site (fail text) from h = record { same = refl; has = h }
    instr_tracks at site (branch test first other) from h =
        track_unless fits f g g Anything site (truth_in o at test from.state)
        (truth_in p at test (carried_valued f from.state)) from
        (λ t. asks at_if from t (course_code o at (suc site) first from)
        (course_code o at (suc site + code_size first) other from))
        (λ t. asks at_if (progress_valued f from) t (course_code p at (suc site) first (progress_valued f from))
        (course_code p at (suc site + code_size first) other (progress_valued f from)))
        (truth_tracks fits o p f g rules laws at test from.state h) h (λ t u.
        track_asks fits f g from t (course_code o at (suc site) first from)
        (course_code o at (suc site + code_size first) other from)
        (course_code p at (suc site) first (progress_valued f from))
        (course_code p at (suc site + code_size first) other (progress_valued f from))
        (code_tracks at (suc site) first from h) (code_tracks at (suc site + code_size first) other from h))
    instr_tracks at site (each var pattern body) from h =
        subst (λ (keys : List Key). CourseTracks fits f g
        (course_iterations (λ key q. course_code o (in_iteration at var key) (suc site) body q) (iterations_of at pattern from.state)
        from)
        (course_iterations (λ key q. course_code p (in_iteration at var key) (suc site) body q) keys (progress_valued f from)))
        (sym (iterations_same at pattern from.state))
        (track_iterations fits f g (λ key q. course_code o (in_iteration at var key) (suc site) body q)
        (λ key q. course_code p (in_iteration at var key) (suc site) body q)
        (λ key q fit. code_tracks (in_iteration at var key) (suc site) body q fit) (iterations_of at pattern from.state) from h)
    instr_tracks at site (forward port) from h = record { same = refl; has = h }
    instr_tracks at site (fork ports) from h = record { same = refl; has = h }
    instr_tracks at site (block body) from h = code_tracks at (suc site) body from h
    instr_tracks at site no_op from h = record { same = refl; has = h }

    pub code_tracks : (at : Scene) (site : ℕ) (code : CodeTree) (from : Progress V) → CarriedFits fits from.state →
        CourseTracks fits f g (course_code o at site code from) (course_code p at site code (progress_valued f from))
    code_tracks at site no_code from h = record { same = refl; has = h }
    code_tracks at site (instr_and i is) from h =
        track_after fits f g (course_in o at site i (begin from))
        (course_in p at site i (begin (progress_valued f from)))
        (course_code o at (suc site + inner_size i) is) (course_code p at (suc site + inner_size i) is)
        (instr_tracks at site i (begin from) h) (λ q fit. code_tracks at (suc site + inner_size i) is q fit)

  -- ---- whole trees

  module _ (net : Network) where
    port_tracks : (node : NodeId) (side : Side) (port : ℕ) (from : Progress V) → CarriedFits fits from.state →
        CourseTracks fits f g (port_course o net node side port from)
        (port_course p net node side port (progress_valued f from))
    port_tracks node side port from h =
        code_tracks (scene_at net node) (suc (code_of net node side port).0)
        (code_of net node side port).1 from h

    port_behind : (node : NodeId) (side : Side) (port : ℕ) (from : Progress V) (next : Exit → Progress V → Tree V F)
        (next_valued : Exit → Progress W → Tree W G) →
        CarriedFits fits from.state →
        ((exit : Exit) (q : Progress V) → CarriedFits fits q.state →
        next_valued exit (progress_valued f q) ≡ tree_valued f g (next exit q)) →
        then_tree (port_course p net node side port (progress_valued f from)) next_valued
        ≡ tree_valued f g (then_tree (port_course o net node side port from) next)
    port_behind node side port from next next_valued h k =
        let course = port_tracks node side port from h in
        ap (λ c. then_tree c next_valued) course.same
        ∙ behind_valued fits f g (port_course o net node side port from) next next_valued course.has k

    abbrev OnwardTracks : Onward V F → Onward W G → Type 0
    OnwardTracks onward onward_valued = (node : NodeId) (port : ℕ) (from : Progress V) → CarriedFits fits from.state →
        onward_valued node port (progress_valued f from) ≡ tree_valued f g (onward node port from)

    module _ (onward : Onward V F) (onward_valued : Onward W G) (same : OnwardTracks onward onward_valued) where
      crossed_tracks : (link : Option (NodeId × ℕ)) (exit : Exit) (from : Progress V) → CarriedFits fits from.state →
          crossed p net onward_valued link exit (progress_valued f from)
          ≡ tree_valued f g (crossed o net onward link exit from)
      crossed_tracks None off from h = refl
      crossed_tracks None (go port) from h = refl
      crossed_tracks None (forked ports) from h = refl
      crossed_tracks None (failed failure site) from h = refl
      crossed_tracks (Some to) off from h = same to.0 to.1 from h
      crossed_tracks (Some to) (go port) from h = refl
      crossed_tracks (Some to) (forked ports) from h = refl
      crossed_tracks (Some to) (failed failure site) from h = refl

      leave_tracks : OnwardTracks (leave o net onward) (leave p net onward_valued)
      leave_tracks node port from h =
          ap (arrives (place_at node Outward port) (progress_valued f from))
          (port_behind node Outward port from (crossed o net onward (link_of net node port))
          (crossed p net onward_valued (link_of net node port)) h
          (crossed_tracks (link_of net node port)))

      copies_track : (node : NodeId) (ports : List ℕ) (from : Progress V) → CarriedFits fits from.state →
          copies p net onward_valued node ports (progress_valued f from)
          ≡ copies_valued f g (copies o net onward node ports from)
      copies_track node [] from h = refl
      copies_track node (port ∷ ports) from h =
          λ i. copy_and (leave_tracks node port from h i) (copies_track node ports from h i)

      passed_tracks : (node : NodeId) (exit : Exit) (from : Progress V) → CarriedFits fits from.state →
          passed p net onward_valued node exit (progress_valued f from)
          ≡ tree_valued f g (passed o net onward node exit from)
      passed_tracks node off from h = refl
      passed_tracks node (go port) from h = leave_tracks node port from h
      passed_tracks node (forked ports) from h = ap (splits (progress_valued f from)) (copies_track node ports from h)
      passed_tracks node (failed failure site) from h = refl

    pub enter_tracks : (hops : ℕ) → OnwardTracks (enter o net hops) (enter p net hops)
    enter_tracks zero node port from h = refl
    enter_tracks (suc hops) node port from h =
        ap (arrives (place_at node Inward port) (progress_valued f from))
        (port_behind node Inward port from (passed o net (enter o net hops) node)
        (passed p net (enter p net hops) node) h
        (passed_tracks (enter o net hops) (enter p net hops) (enter_tracks hops) node))
