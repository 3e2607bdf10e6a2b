-- Symbols are typed along the way.
use Rattle.std.proofs.Common.{◌≡◌, ℕ, zero, suc, ◌+◌, Bool, List, [], ◌∷◌, ◌++◌, length, refl, sym, subst, append_assoc, arith, length-append, Option, Some, None, Result, Ok, Err, IfOk}
use Rattle.std.proofs.lemmas.List.{append-nil}
use Rattle.std.specs.List.{AllByRecursion}
use Rattle.sn_width.specs.declared.faults.LayoutFault.{LayoutFault}
use Rattle.sn_width.specs.declared.ids.NodeId.{NodeId}
use Rattle.sefl_syntax.specs.declared.net.Side.{Side}
use Rattle.sefl_syntax.specs.declared.net.Side.TheVariants.{Inward, Outward}
use Rattle.sefl_syntax.specs.declared.reference.Addr.{Addr}
use Rattle.sefl_syntax.specs.declared.reference.Target.{Target}
use Rattle.sefl_syntax.specs.declared.job.RawField.{RawField}
use Rattle.sefl_syntax.specs.Trees.{InstrTree, CodeTree, ExprTree, InjectionTree, allocate, deallocate, assign, assign_any, create_tag, set_tag, destroy_tag, constrain, fail, branch, each, forward, fork, block, no_op, no_code, instr_and}
use Rattle.cell_stacks.specs.declared.cell.Cell.{Cell}
use Rattle.job_items.specs.AtomRules.{width_of}
use Rattle.net_check.specs.Network.{width_unless}
use Rattle.sefl_meaning.specs.declared.walk.Failure.TheVariants.{Constraint}
use Rattle.sefl_meaning.specs.Values.{Values}
use Rattle.sefl_meaning.specs.Network.{Network, code_of, link_of, code_size, inner_size}
use Rattle.sefl_meaning.specs.Carried.{Carried, Scene, Key, nothing, scene_at}
use Rattle.sefl_meaning.specs.Terms.{truth_in, value_in}
use Rattle.sefl_meaning.specs.Steps.{allocated, deallocated, assigned, evaluated, tag_created, tag_set, tag_destroyed}
use Rattle.sefl_meaning.specs.Injected.{with_tags, field_value, with_field, with_fields, unknown_width, unknown_widths, injected}
use Rattle.sefl_meaning.specs.Runs.{Exit, off, go, forked, failed, in_iteration, iterations_of}
use Rattle.sefl_meaning.specs.Courses.{at_if, at_constrain, Progress, begin, chosen, with_state, Course, ends, asks, off_or, after, unless_fault, step, course_iterations, course_in, course_code}
use Rattle.sefl_meaning.specs.Trees.{Tree, Onward, then_tree, port_course, crossed, leave, copies, passed, enter}
use Rattle.sefl_meaning.specs.Valued.{Fits, HeldFits, CellFits, StacksFit, CarriedFits, KeepsSymbols, ProgressTyped, CourseTyped, TreeTyped, EachTyped}
use Rattle.sefl_meaning.specs.Laws.{StateLaws}
use Rattle.sefl_meaning.proofs.AllLemmas.{all_weaker}
use Rattle.sefl_meaning.proofs.Keeping.{of_step, value_kept}
use Rattle.sefl_meaning.proofs.Tracks.{allocated_tracks, deallocated_tracks, assigned_tracks, tag_created_tracks, tag_set_tracks, tag_destroyed_tracks}

-- ---- what fits more closely fits

module _ {V : Type 0} (closer fits : ℕ → V → Bool) (k : (w : ℕ) (x : V) → Fits closer w x → Fits fits w x) where
  held_weaker : (width : ℕ) (value : Option V) → HeldFits closer width value → HeldFits fits width value
  held_weaker width None h = tt
  held_weaker width (Some x) h = k width x h

  cells_weaker : (cells : List (Cell V)) → AllByRecursion (CellFits closer) cells → AllByRecursion (CellFits fits) cells
  cells_weaker cells h = all_weaker _ _ cells (λ cell held. held_weaker cell.width cell.value held) h

  stacks_weaker : {K : Type 0} (stacks : List (K × List (Cell V))) → StacksFit closer stacks → StacksFit fits stacks
  stacks_weaker stacks h = all_weaker _ _ stacks (λ stack cells. cells_weaker stack.1 cells) h

  pub carried_weaker : (s : Carried V) → CarriedFits closer s → CarriedFits fits s
  carried_weaker s h =
      record { heads = stacks_weaker s.layers.heads h.heads; scopes = stacks_weaker s.scopes h.scopes }

any_ok : {A E : Type 0} (r : Result A E) → IfOk r (λ x. Unit {0})
any_ok (Ok x) = tt
any_ok (Err e) = tt

module _ {V F : Type 0} (fits : List ℕ → ℕ → V → Bool) (unknowns : List ℕ) where
  typed_off : (exit : Exit) (p : Progress V) (next : Progress V → Course V F) → ProgressTyped fits unknowns p →
      ((q : Progress V) → ProgressTyped fits unknowns q → CourseTyped fits unknowns (next q)) → CourseTyped fits unknowns (off_or exit p next)
  typed_off off p next h k = k p h
  typed_off (go port) p next h k = h
  typed_off (forked ports) p next h k = h
  typed_off (failed failure site) p next h k = h

  typed_after : (c : Course V F) (next : Progress V → Course V F) → CourseTyped fits unknowns c →
      ((q : Progress V) → ProgressTyped fits unknowns q → CourseTyped fits unknowns (next q)) → CourseTyped fits unknowns (after c next)
  typed_after (ends p exit) next h k = typed_off exit p next h k
  typed_after (asks asking p test held broken) next h k =
      (h.0, typed_after held next h.1 k, typed_after broken next h.2 k)

  typed_iterations : (body : Key → Progress V → Course V F) → ((key : Key) (q : Progress V) → ProgressTyped fits unknowns q → CourseTyped fits unknowns (body key q)) →
      (keys : List Key) (p : Progress V) → ProgressTyped fits unknowns p → CourseTyped fits unknowns (course_iterations body keys p)
  typed_iterations body k [] p h = h
  typed_iterations body k (key ∷ keys) p h =
      typed_after (body key p) (course_iterations body keys) (k key p h) (λ q fit. typed_iterations body k keys q fit)

  typed_unless : {A : Type 0} (P : A → Type 0) (site : ℕ) (r : Result A LayoutFault) (p : Progress V)
      (next : A → Course V F) → IfOk r P → ProgressTyped fits unknowns p → ((x : A) → P x → CourseTyped fits unknowns (next x)) → CourseTyped fits unknowns (unless_fault site r p next)
  typed_unless P site (Ok x) p next h t k = k x h
  typed_unless P site (Err fault) p next h t k = t

  typed_then : (c : Course V F) (next : Exit → Progress V → Tree V F) → CourseTyped fits unknowns c →
      ((exit : Exit) (q : Progress V) → ProgressTyped fits unknowns q → TreeTyped fits unknowns (next exit q)) →
      TreeTyped fits unknowns (then_tree c next)
  typed_then (ends p exit) next h k = k exit p h
  typed_then (asks asking p test held broken) next h k =
      (h.0, typed_then held next h.1 k, typed_then broken next h.2 k)

typed_step : {V : Type 0} (F : Type 0) (fits : List ℕ → ℕ → V → Bool) (unknowns : List ℕ) (site : ℕ) (r : Result (Carried V) LayoutFault) (p : Progress V) →
    IfOk r (CarriedFits (fits (unknowns ++ p.choices))) → ProgressTyped fits unknowns p → CourseTyped {F = F} fits unknowns (step site r p)
typed_step F fits unknowns site r p h t =
    typed_unless fits unknowns (CarriedFits (fits (unknowns ++ p.choices))) site r p (λ next. ends (with_state p next) off) h t
    (λ next fit. fit)

module _ {V F : Type 0} (fits : List ℕ → ℕ → V → Bool) (unknowns : List ℕ) (o : Values V F)
    (keeps : KeepsSymbols fits unknowns o) (laws : StateLaws (λ (x : V). x)) where
  abbrev Held : List ℕ → Carried V → Type 0
  Held widths s = CarriedFits (fits widths) s

  wider : (widths : List ℕ) (more : ℕ) (s : Carried V) → Held widths s → Held (widths ++ more ∷ []) s
  wider widths more s h =
      carried_weaker (fits widths) (fits (widths ++ more ∷ [])) (λ w x fit. keeps.wider widths more w x fit) s h

  evaluated_typed : (at : Scene) (target : Target) (e : ExprTree) (widths : List ℕ) (s : Carried V) → Held widths s →
      IfOk (evaluated o at target e s) (Held widths)
  evaluated_typed at target e widths s h =
      of_step (Fits (fits widths) (width_of target)) (Held widths) (value_in o at (width_of target) e s)
      (λ a. assigned at target a s) (value_kept (fits widths) o (keeps.sums widths) laws at (width_of target) e s h)
      (λ a ha. (assigned_tracks (fits widths) (λ x. x) laws at target a s ha h).has)

  chosen_typed : (at : Scene) (target : Target) (p : Progress V) → Held (unknowns ++ p.choices) p.state →
      IfOk (assigned at target (o.choice (width_of target) (length p.choices)) p.state)
      (Held (unknowns ++ (p.choices ++ width_of target ∷ [])))
  chosen_typed at target p h =
      let w = width_of target in
      let more = (unknowns ++ p.choices) ++ w ∷ [] in
      subst (λ widths. IfOk (assigned at target (o.choice w (length p.choices)) p.state) (Held widths))
      (append_assoc unknowns p.choices (w ∷ []))
      (assigned_tracks (fits more) (λ x. x) laws at target (o.choice w (length p.choices)) p.state
      (keeps.choice p.choices w) (wider (unknowns ++ p.choices) w p.state h)).has

  mutual
    pub instr_typed : (at : Scene) (site : ℕ) (i : InstrTree) (p : Progress V) → ProgressTyped fits unknowns p →
        CourseTyped fits unknowns (course_in o at site i p)
    instr_typed at site (allocate target) p h =
        typed_step F fits unknowns site (allocated at target p.state) p
        (allocated_tracks (fits (unknowns ++ p.choices)) (λ x. x) laws at target p.state h).has h
    instr_typed at site (deallocate target) p h =
        typed_step F fits unknowns site (deallocated at target p.state) p
        (deallocated_tracks (fits (unknowns ++ p.choices)) (λ x. x) laws at target p.state h).has h
    instr_typed at site (assign target value) p h =
        typed_step F fits unknowns site (evaluated o at target value p.state) p
        (evaluated_typed at target value (unknowns ++ p.choices) p.state h) h
    instr_typed at site (assign_any target) p h =
        typed_unless fits unknowns (Held (unknowns ++ (p.choices ++ width_of target ∷ []))) site
        (assigned at target (o.choice (width_of target) (length p.choices)) p.state) p
        (λ next. ends (chosen p (width_of target) next) off) (chosen_typed at target p h) h (λ next fit. fit)
    instr_typed at site (create_tag name addr) p h =
        typed_step F fits unknowns site (tag_created at name addr p.state) p
        (tag_created_tracks (fits (unknowns ++ p.choices)) (λ x. x) laws at name addr p.state h).has h
    instr_typed at site (set_tag name addr) p h =
        typed_step F fits unknowns site (tag_set at name addr p.state) p
        (tag_set_tracks (fits (unknowns ++ p.choices)) (λ x. x) laws at name addr p.state h).has h
    instr_typed at site (destroy_tag name) p h =
        typed_step F fits unknowns site (tag_destroyed at name p.state) p
        (tag_destroyed_tracks (fits (unknowns ++ p.choices)) (λ x. x) laws at name p.state h).has h
    instr_typed at site (constrain test) p h =
        typed_unless fits unknowns (λ f. Unit {0}) site (truth_in o at test p.state) p
        (λ f. asks at_constrain p f (ends p off) (ends p (failed Constraint site))) (any_ok (truth_in o at test p.state)) h
        (λ f u. (h, h, h))
    instr_typed at site (fail text) p h = h
    instr_typed at site (branch test first other) p h =
        typed_unless fits unknowns (λ f. Unit {0}) site (truth_in o at test p.state) p
        (λ f. asks at_if p f (course_code o at (suc site) first p) (course_code o at (suc site + code_size first) other p))
        (any_ok (truth_in o at test p.state)) h
        (λ f u. (h, code_typed at (suc site) first p h, code_typed at (suc site + code_size first) other p h))
    instr_typed at site (each var pattern body) p h =
        typed_iterations fits unknowns (λ key q. course_code o (in_iteration at var key) (suc site) body q)
        (λ key q fit. code_typed (in_iteration at var key) (suc site) body q fit) (iterations_of at pattern p.state) p h
    instr_typed at site (forward port) p h = h
    instr_typed at site (fork ports) p h = h
    instr_typed at site (block body) p h = code_typed at (suc site) body p h
    instr_typed at site no_op p h = h

    pub code_typed : (at : Scene) (site : ℕ) (code : CodeTree) (p : Progress V) → ProgressTyped fits unknowns p →
        CourseTyped fits unknowns (course_code o at site code p)
    code_typed at site no_code p h = h
    code_typed at site (instr_and i is) p h =
        typed_after fits unknowns (course_in o at site i (begin p)) (course_code o at (suc site + inner_size i) is)
        (instr_typed at site i (begin p) h) (λ q fit. code_typed at (suc site + inner_size i) is q fit)

  -- ---- whole trees

  module _ (net : Network) where
    abbrev OnwardTyped : Onward V F → Type 0
    OnwardTyped onward = (node : NodeId) (port : ℕ) (p : Progress V) → ProgressTyped fits unknowns p →
        TreeTyped fits unknowns (onward node port p)

    port_typed : (node : NodeId) (side : Side) (port : ℕ) (p : Progress V) → ProgressTyped fits unknowns p →
        CourseTyped fits unknowns (port_course o net node side port p)
    port_typed node side port p h =
        code_typed (scene_at net node) (suc (code_of net node side port).0)
        (code_of net node side port).1 p h

    module _ (onward : Onward V F) (k : OnwardTyped onward) where
      crossed_typed : (link : Option (NodeId × ℕ)) (exit : Exit) (p : Progress V) → ProgressTyped fits unknowns p →
          TreeTyped fits unknowns (crossed o net onward link exit p)
      crossed_typed None off p h = h
      crossed_typed None (go port) p h = h
      crossed_typed None (forked ports) p h = h
      crossed_typed None (failed failure site) p h = h
      crossed_typed (Some to) off p h = k to.0 to.1 p h
      crossed_typed (Some to) (go port) p h = h
      crossed_typed (Some to) (forked ports) p h = h
      crossed_typed (Some to) (failed failure site) p h = h

      leave_typed : OnwardTyped (leave o net onward)
      leave_typed node port p h = (
        h,
        typed_then fits unknowns (port_course o net node Outward port p) (crossed o net onward (link_of net node port))
            (port_typed node Outward port p h) (crossed_typed (link_of net node port)),
      )

      copies_typed : (node : NodeId) (ports : List ℕ) (p : Progress V) → ProgressTyped fits unknowns p →
          EachTyped fits unknowns (copies o net onward node ports p)
      copies_typed node [] p h = tt
      copies_typed node (port ∷ ports) p h = (leave_typed node port p h, copies_typed node ports p h)

      passed_typed : (node : NodeId) (exit : Exit) (p : Progress V) → ProgressTyped fits unknowns p →
          TreeTyped fits unknowns (passed o net onward node exit p)
      passed_typed node off p h = h
      passed_typed node (go port) p h = leave_typed node port p h
      passed_typed node (forked ports) p h = (h, copies_typed node ports p h)
      passed_typed node (failed failure site) p h = h

    pub enter_typed : (hops : ℕ) → OnwardTyped (enter o net hops)
    enter_typed zero node port p h = (h, h)
    enter_typed (suc hops) node port p h = (
      h,
      typed_then fits unknowns (port_course o net node Inward port p) (passed o net (enter o net hops) node)
          (port_typed node Inward port p h) (passed_typed (enter o net hops) (enter_typed hops) node),
    )

  -- ---- injections

  module _ (at : Scene) where
    tags_typed : (lines : List (List ℕ × Addr)) (widths : List ℕ) (s : Carried V) → Held widths s →
        IfOk (with_tags o at lines s) (Held widths)
    tags_typed [] widths s h = h
    tags_typed (line ∷ lines) widths s h =
        of_step (Held widths) (Held widths) (tag_set at line.0 line.1 s) (with_tags o at lines)
        (tag_set_tracks (fits widths) (λ x. x) laws at line.0 line.1 s h).has
        (λ next fit. tags_typed lines widths next fit)

    value_typed : (target : Target) (number : ℕ) (value : Option ℕ) (before : List ℕ) (s : Carried V) →
        number ≡ length before → Held before s →
        IfOk (assigned at target (field_value o (width_of target) number value) s)
        (Held (before ++ width_unless value (width_of target)))
    value_typed target number None before s e h =
        let w = width_of target in
        subst (λ n. IfOk (assigned at target (o.unknown w n) s) (Held (before ++ w ∷ []))) (sym e)
        (assigned_tracks (fits (before ++ w ∷ [])) (λ x. x) laws at target (o.unknown w (length before)) s
        (keeps.unknown before w) (wider before w s h)).has
    value_typed target number (Some n) before s e h =
        let w = width_of target in
        subst (λ widths. IfOk (assigned at target (o.constant w n) s) (Held widths)) (sym (append-nil before))
        (assigned_tracks (fits before) (λ x. x) laws at target (o.constant w n) s ((keeps.sums before).constant w n) h).has

    field_typed : (number : ℕ) (f : RawField) (before : List ℕ) (s : Carried V) → number ≡ length before → Held before s →
        IfOk (with_field o at number f s) (Held (before ++ unknown_width f))
    field_typed number f before s e h =
        of_step (Held before) (Held (before ++ unknown_width f)) (allocated at f.target s)
        (assigned at f.target (field_value o (width_of f.target) number f.value))
        (allocated_tracks (fits before) (λ x. x) laws at f.target s h).has
        (λ next fit. value_typed f.target number f.value before next e fit)

    fields_typed : (number : ℕ) (fields : List RawField) (before : List ℕ) (s : Carried V) → number ≡ length before →
        Held before s → IfOk (with_fields o at number fields s) (Held (before ++ unknown_widths fields))
    fields_typed number [] before s e h = subst (λ widths. Held widths s) (sym (append-nil before)) h
    fields_typed number (f ∷ fields) before s e h =
        of_step (Held (before ++ unknown_width f)) (Held (before ++ unknown_widths (f ∷ fields))) (with_field o at number f s)
        (with_fields o at (number + length (unknown_width f)) fields) (field_typed number f before s e h)
        (λ next fit.
        subst (λ widths. IfOk (with_fields o at (number + length (unknown_width f)) fields next) (Held widths))
        (append_assoc before (unknown_width f) (unknown_widths fields))
        (fields_typed (number + length (unknown_width f)) fields (before ++ unknown_width f) next
        (omega (arith, length-append before (unknown_width f), e)) fit))

    pub injected_typed : (i : InjectionTree) → IfOk (injected o at i) (Held (unknown_widths i.fields))
    injected_typed i =
        of_step (Held []) (Held (unknown_widths i.fields)) (with_tags o at i.tags nothing) (with_fields o at 0 i.fields)
        (tags_typed i.tags [] nothing (record { heads = tt; scopes = tt }))
        (λ next fit. fields_typed 0 i.fields [] next refl fit)
