-- Steps on what is carried, and choices: what they keep, and what they do with numbers.
use Rattle.std.proofs.Common.{◌≡◌, ℕ, zero, suc, ◌+◌, ◌≤◌, List, [], ◌∷◌, ◌++◌, drop, take, length, arith, length-drop, Result, Ok, Err, IfOk, refl, sym, ap, ◌∙◌}
use Rattle.sn_width.specs.declared.faults.LayoutFault.{LayoutFault}
use Rattle.sn_width.specs.declared.faults.StepFault.{StepFault}
use Rattle.cell_stacks.specs.Outcome.{on_ok, Meets}
use Rattle.sefl_syntax.specs.Trees.{ExprTree}
use Rattle.sefl_syntax.specs.Views.{expr_tree}
use Rattle.sefl_syntax.specs.declared.reference.Addr.{Addr}
use Rattle.sefl_syntax.specs.declared.reference.Target.{Target}
use Rattle.job_items.specs.AtomRules.{width_of}
use Rattle.lin_term.specs.Terms.{LinearTerm, value_at}
use Rattle.sefl_meaning.specs.Values.{Values, numbers}
use Rattle.sefl_meaning.specs.Carried.{Carried, Scene, carried_valued}
use Rattle.sefl_meaning.specs.Steps.{allocated, assigned, deallocated, evaluated, tag_created, tag_set, tag_destroyed}
use Rattle.sefl_meaning.specs.Terms.{value_in}
use Rattle.term_values.specs.TermValues.{symbol_term}
use Rattle.instr_steps.specs.Stepping.{stepped}
use Rattle.sym_state.specs.Symbolic.{Symbolic, choices_of, numbers_in, with_symbol}
use Rattle.instr_steps.specs.declared.steps.Step.{Step}
use Rattle.instr_steps.specs.declared.steps.Step.TheVariants.{Allocate, Deallocate, Assign, CreateTag, SetTag, DestroyTag}
use Rattle.sym_state.proofs.Keeping.{left_by, meets_valued, on_ok_keeps, on_ok_on_ok, then_keeps}

module _ {V F : Type 0} (fits : ℕ → V → Type 0) (Holds : Carried V → Type 0) (o : Values V F) (at : Scene) (s : Carried V)
    (on_allocate : (target : Target) → IfOk (allocated at target s) Holds)
    (on_deallocate : (target : Target) → IfOk (deallocated at target s) Holds)
    (on_value : (w : ℕ) (e : ExprTree) → IfOk (value_in o at w e s) (fits w))
    (on_assign : (target : Target) (value : V) → fits (width_of target) value → IfOk (assigned at target value s) Holds)
    (on_create : (name : List ℕ) (addr : Addr) → IfOk (tag_created at name addr s) Holds)
    (on_set : (name : List ℕ) (addr : Addr) → IfOk (tag_set at name addr s) Holds)
    (on_destroy : (name : List ℕ) → IfOk (tag_destroyed at name s) Holds) where
  pub stepped_keeps : (step : Step) → IfOk (stepped o at step s) Holds
  stepped_keeps (Allocate target) = on_allocate target.now
  stepped_keeps (Deallocate target) = on_deallocate target.now
  stepped_keeps (Assign target value) =
      let w : ℕ = width_of target.now in
      then_keeps (fits w) Holds (value_in o at w (expr_tree value.now) s) (λ a. assigned at target.now a s)
      (on_value w (expr_tree value.now)) (λ a h. on_assign target.now a h)
  stepped_keeps (CreateTag name addr) = on_create name.now addr.now
  stepped_keeps (SetTag name addr) = on_set name.now addr.now
  stepped_keeps (DestroyTag name) = on_destroy name.now

module _ {V F W G : Type 0} (f : V → W) (o : Values V F) (p : Values W G) (at : Scene) (s : Carried V)
    (on_allocate : (target : Target) → allocated at target (carried_valued f s) ≡ on_ok (carried_valued f) (allocated at target s))
    (on_deallocate : (target : Target) → deallocated at target (carried_valued f s) ≡ on_ok (carried_valued f) (deallocated at target s))
    (on_assign : (target : Target) (e : ExprTree) → evaluated p at target e (carried_valued f s) ≡ on_ok (carried_valued f) (evaluated o at target e s))
    (on_create : (name : List ℕ) (addr : Addr) → tag_created at name addr (carried_valued f s) ≡ on_ok (carried_valued f) (tag_created at name addr s))
    (on_set : (name : List ℕ) (addr : Addr) → tag_set at name addr (carried_valued f s) ≡ on_ok (carried_valued f) (tag_set at name addr s))
    (on_destroy : (name : List ℕ) → tag_destroyed at name (carried_valued f s) ≡ on_ok (carried_valued f) (tag_destroyed at name s)) where
  pub stepped_commutes : (step : Step) → stepped p at step (carried_valued f s) ≡ on_ok (carried_valued f) (stepped o at step s)
  stepped_commutes (Allocate target) = on_allocate target.now
  stepped_commutes (Deallocate target) = on_deallocate target.now
  stepped_commutes (Assign target value) = on_assign target.now (expr_tree value.now)
  stepped_commutes (CreateTag name addr) = on_create name.now addr.now
  stepped_commutes (SetTag name addr) = on_set name.now addr.now
  stepped_commutes (DestroyTag name) = on_destroy name.now

-- the choices stand behind the unknown fields
pub next_choice : (u : ℕ) (widths : List ℕ) → u ≤ length widths → u + length (drop u widths) ≡ length widths
next_choice u widths known = omega (arith, length-drop u widths)

-- a choice, on the carried numbers
pub chosen_commutes : (v : List ℕ) (at : Scene) (target : Target) (old new : Symbolic) (result : Result (Unit {0}) StepFault)
    → old.unknowns ≤ length old.condition.widths
    → ((w k : ℕ) → value_at (symbol_term w (old.unknowns + k)) v ≡ (numbers v old.unknowns).choice w k)
    → ((term : LinearTerm) → term ≡ symbol_term (width_of target) (length old.condition.widths)
    → assigned at target (value_at term v) (numbers_in v old) ≡ on_ok (carried_valued (λ t. value_at t v)) (assigned at target term old.carried))
    → Meets (on_ok (with_symbol old (width_of target)) (assigned at target (symbol_term (width_of target) (length old.condition.widths)) old.carried)) result old new
    → Meets (assigned at target ((numbers v old.unknowns).choice (width_of target) (length (choices_of old))) (numbers_in v old)) result (numbers_in v old) (numbers_in v new)
chosen_commutes v at target old new result known symbols commutes h =
    let w = width_of target in
    let k = length (choices_of old) in
    let term = symbol_term w (length old.condition.widths) in
    let f : Carried LinearTerm → Carried ℕ = carried_valued (λ t. value_at t v) in
    let same : (numbers v old.unknowns).choice w k ≡ value_at term v =
    sym (symbols w k) ∙ ap (λ n. value_at (symbol_term w n) v) (next_choice old.unknowns old.condition.widths known) in
    meets_valued (numbers_in v) (on_ok (with_symbol old w) (assigned at target term old.carried))
    (assigned at target ((numbers v old.unknowns).choice w k) (numbers_in v old)) result old new
    (ap (λ n. assigned at target n (numbers_in v old)) same ∙ commutes term refl
    ∙ on_ok_on_ok (numbers_in v) (with_symbol old w) (assigned at target term old.carried)) h

always_ok : {A : Type 0} (r : Result A LayoutFault) → IfOk r (λ x. Unit {0})
always_ok (Ok x) = tt
always_ok (Err e) = tt

-- a part of the state that no step changes is as it was
pub stays : {S T A : Type 0} (part : S → A) (with' : T → S) (step : Result T LayoutFault) (result : Result (Unit {0}) StepFault) (old new : S)
    → ((x : T) → part (with' x) ≡ part old) → Meets (on_ok with' step) result old new → part new ≡ part old
stays {S} {T} part with' step result old new same h =
    left_by (λ (s : S). part s ≡ part old) (on_ok with' step) result old new h
    (on_ok_keeps (λ (x : T). Unit {0}) (λ (s : S). part s ≡ part old) with' step (always_ok step) (λ x t. same x)) refl

-- the choices with one more
pub behind : (u : ℕ) (widths : List ℕ) (w : ℕ) → u ≤ length widths → drop u (widths ++ w ∷ []) ≡ drop u widths ++ w ∷ []
behind zero widths w h = refl
behind (suc u) [] w h = absurd (omega arith)
behind (suc u) (x ∷ widths) w h = behind u widths w (omega arith)

-- the unknown fields with one symbol more
pub fields_stay : (u : ℕ) (widths : List ℕ) (w : ℕ) → u ≤ length widths → take u (widths ++ w ∷ []) ≡ take u widths
fields_stay zero widths w h = refl
fields_stay (suc u) [] w h = absurd (omega arith)
fields_stay (suc u) (x ∷ widths) w h = ap (λ ws. x ∷ ws) (fields_stay u widths w (omega arith))
