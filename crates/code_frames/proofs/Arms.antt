-- The arms of an instruction.
use Rattle.std.proofs.Common.{◌≡◌, ℕ, suc, ◌+◌, ◌<◌, List, [], ◌∷◌, ◌++◌, length, Result, Ok, Err, refl, sym, ap, ◌∙◌, subst, arith}
use Rattle.sn_width.specs.declared.ids.NodeId.{NodeId}
use Rattle.sn_width.specs.declared.ids.NameId.{NameId}
use Rattle.sn_width.specs.declared.faults.LayoutFault.{LayoutFault}
use Rattle.sn_width.specs.declared.faults.StepFault.{StepFault}
use Rattle.sn_width.specs.declared.faults.StepFault.TheVariants as faults
use Rattle.cell_stacks.specs.Outcome.{Meets, on_ok}
use Rattle.sefl_syntax.specs.Trees.{InstrTree, CodeTree, allocate, deallocate, assign, assign_any, create_tag, set_tag, destroy_tag, constrain, fail, branch, each, forward, fork, block, no_op}
use Rattle.sefl_syntax.specs.declared.reference.Target.{Target}
use Rattle.metadata_scopes.specs.Snapshot.{snapshot}
use Rattle.job_items.specs.AtomRules.{width_of}
use Rattle.sefl_meaning.specs.declared.walk.Iteration.{Iteration}
use Rattle.sefl_meaning.specs.declared.walk.Failure.TheVariants.{Layout}
use Rattle.sefl_meaning.specs.Network.{Network, names_found}
use Rattle.sefl_meaning.specs.Values.{Values}
use Rattle.sefl_meaning.specs.Carried.{Carried, Scene, Key}
use Rattle.sefl_meaning.specs.Steps.{assigned}
use Rattle.sefl_meaning.specs.Runs.{off, failed}
use Rattle.sefl_meaning.specs.Courses.{Progress, Course, ends, unless_fault, course_in}
use Rattle.instr_steps.specs.declared.steps.Step.{Step}
use Rattle.instr_steps.specs.declared.steps.Step.TheVariants.{Allocate, Deallocate, Assign, CreateTag, SetTag, DestroyTag}
use Rattle.code_frames.specs.declared.instrs.Done.{Done}
use Rattle.code_frames.specs.Acts.{step_tree}
use Rattle.code_frames.specs.Doing.{AsksFor, Settles, course_of, done_weight}
use Rattle.code_frames.specs.Steps.{Held, chosen, stepped, with_choices}
use Rattle.code_frames.specs.Frames.{of_iterations, progress_at, scene_in}
use Rattle.code_frames.specs.Weights.{instr_weight}

module _ {V F T : Type 0} (o : Values V F) (net : Network) (node : NodeId) (truth : T → F) (at : Scene) (site : ℕ) where
  abbrev gone : Progress V → Held V → Course V F
  gone p h = ends (progress_at h.0 h.1 p.begun) off

  moved : (r : Result (Carried V) LayoutFault) (p : Progress V) → unless_fault site r p (λ s. gone p (s, p.choices)) ≡ unless_fault site (on_ok (with_choices p.choices) r) p (gone p)
  moved (Ok s) p = refl
  moved (Err fault) p = refl

  -- the course of a step, and that of a choice
  step_course : (step : Step) (p : Progress V) → course_in o at site (step_tree step) p ≡ unless_fault site (stepped o at step p.state) p (λ s. gone p (s, p.choices))
  step_course (Allocate target) p = refl
  step_course (Deallocate target) p = refl
  step_course (Assign target value) p = refl
  step_course (CreateTag name addr) p = refl
  step_course (SetTag name addr) p = refl
  step_course (DestroyTag name) p = refl

  choice_moved : (r : Result (Carried V) LayoutFault) (p : Progress V) (more : List ℕ) → unless_fault site r p (λ s. gone p (s, more)) ≡ unless_fault site (on_ok (with_choices more) r) p (gone p)
  choice_moved (Ok s) p more = refl
  choice_moved (Err fault) p more = refl

  choice_course : (target : Target) (p : Progress V) → course_in o at site (assign_any target) p ≡ unless_fault site (chosen o at target (p.state, p.choices)) p (gone p)
  choice_course target p = choice_moved (assigned at target (o.choice (width_of target) (length p.choices)) p.state) p (p.choices ++ width_of target ∷ [])

  -- a call that was taken, or refused, goes the course
  settles : (answer : Result (Unit {0}) StepFault) (done : Done T) (held new : Held V) (step : Result (Held V) LayoutFault)
      → Settles answer site done → Meets step answer held new
      → (begun : ℕ) → course_of o net node truth done (progress_at new.0 new.1 begun)
      ≡ unless_fault site step (progress_at held.0 held.1 begun) (gone (progress_at held.0 held.1 begun))
  settles (Ok taken) done held new step is meets begun =
      ap (λ (d : Done T). course_of o net node truth d (progress_at new.0 new.1 begun)) is
      ∙ ap (λ r. unless_fault site r (progress_at held.0 held.1 begun) (gone (progress_at held.0 held.1 begun))) (sym meets)
  settles (Err (faults.Layout fault)) done held new step is meets begun =
      ap (λ (d : Done T). course_of o net node truth d (progress_at new.0 new.1 begun)) is
      ∙ ap (λ (h : Held V). ends (progress_at h.0 h.1 begun) (failed (Layout fault) site)) meets.1
      ∙ ap (λ r. unless_fault site r (progress_at held.0 held.1 begun) (gone (progress_at held.0 held.1 begun))) (sym meets.0)
  settles (Err faults.NoMemory) done held new step is meets begun = absurd is

  pub steps_settle : (answer : Result (Unit {0}) StepFault) (done : Done T) (step : Step) (tree : InstrTree) (s new : Carried V) (choices more : List ℕ)
      → step_tree step ≡ tree → Settles answer site done → Meets (stepped o at step s) answer s new → more ≡ choices
      → (begun : ℕ) → course_of o net node truth done (progress_at new more begun) ≡ course_in o at site tree (progress_at s choices begun)
  steps_settle answer done step tree s new choices more is settled meets same begun =
      settles answer done (s, choices) (new, more) (on_ok (with_choices choices) (stepped o at step s)) settled
      (meets_held answer (stepped o at step s) meets) begun
      ∙ sym (moved (stepped o at step s) (progress_at s choices begun))
      ∙ sym (step_course step (progress_at s choices begun))
      ∙ ap (λ (i : InstrTree). course_in o at site i (progress_at s choices begun)) is
    where
      meets_held : (answer : Result (Unit {0}) StepFault) (r : Result (Carried V) LayoutFault) → Meets r answer s new → Meets (on_ok (with_choices choices) r) answer (s, choices) (new, more)
      meets_held (Ok taken) r m = ap (on_ok (with_choices choices)) m ∙ (λ i. Ok (new, sym same i))
      meets_held (Err (faults.Layout fault)) r m = (ap (on_ok (with_choices choices)) m.0, λ i. (m.1 i, same i))
      meets_held (Err faults.NoMemory) r m = λ i. (m i, same i)

  pub choices_settle : (answer : Result (Unit {0}) StepFault) (done : Done T) (target : Target) (tree : InstrTree) (s new : Carried V) (choices more : List ℕ)
      → assign_any target ≡ tree → Settles answer site done → Meets (chosen o at target (s, choices)) answer (s, choices) (new, more)
      → (begun : ℕ) → course_of o net node truth done (progress_at new more begun) ≡ course_in o at site tree (progress_at s choices begun)
  choices_settle answer done target tree s new choices more is settled meets begun =
      settles answer done (s, choices) (new, more) (chosen o at target (s, choices)) settled meets begun
      ∙ sym (choice_course target (progress_at s choices begun))
      ∙ ap (λ (i : InstrTree). course_in o at site i (progress_at s choices begun)) is

-- an instruction weighs something
some : (net : Network) (i : InstrTree) → 0 < instr_weight net i
some net (allocate target) = omega arith
some net (deallocate target) = omega arith
some net (assign target value) = omega arith
some net (assign_any target) = omega arith
some net (create_tag name addr) = omega arith
some net (set_tag name addr) = omega arith
some net (destroy_tag name) = omega arith
some net (constrain test) = omega arith
some net (fail text) = omega arith
some net (branch test first other) = omega arith
some net (each var pattern body) = omega arith
some net (forward port) = omega arith
some net (fork ports) = omega arith
some net (block body) = omega arith
some net no_op = omega arith

-- what was settled puts nothing on the frames, and asks nothing
pub settled_weighs : {T : Type 0} (net : Network) (answer : Result (Unit {0}) StepFault) (site : ℕ) (done : Done T) (tree : InstrTree) → Settles answer site done → done_weight net done < instr_weight net tree
settled_weighs net (Ok taken) site done tree is = omega (arith, ap (done_weight net) is, some net tree)
settled_weighs net (Err (faults.Layout fault)) site done tree is = omega (arith, ap (done_weight net) is, some net tree)
settled_weighs net (Err faults.NoMemory) site done tree is = absurd is

pub settled_fits : {T : Type 0} (Fit : T → Type 0) (answer : Result (Unit {0}) StepFault) (site : ℕ) (done : Done T) → Settles answer site done → AsksFor Fit done
settled_fits Fit (Ok taken) site done is = subst (AsksFor Fit) (sym is) tt
settled_fits Fit (Err (faults.Layout fault)) site done is = subst (AsksFor Fit) (sym is) tt
settled_fits Fit (Err faults.NoMemory) site done is = absurd is

-- the iterations of a For
pub iterations_put : {V F : Type 0} (o : Values V F) (net : Network) (node : NodeId) (iterations : List Iteration) (site inner : ℕ) (var pattern : List ℕ) (body : CodeTree)
    (found : List NameId) (listed keys : List Key) (s : Carried V) (choices : List ℕ)
    → inner ≡ site + 1 → found ≡ names_found net pattern → listed ≡ snapshot node found s.scopes → keys ≡ listed
    → (begun : ℕ) → of_iterations o net node iterations var inner body keys (progress_at s choices begun) ≡ course_in o (scene_in net node iterations) site (each var pattern body) (progress_at s choices begun)
iterations_put o net node iterations site inner var pattern body found listed keys s choices b finds are same begun =
    let e : inner ≡ suc site = omega arith in
    let all : keys ≡ snapshot node (names_found net pattern) s.scopes = same ∙ are ∙ ap (λ (names : List NameId). snapshot node names s.scopes) finds in
    λ j. of_iterations o net node iterations var (e j) body (all j) (progress_at s choices begun)
