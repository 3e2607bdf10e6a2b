-- The formulas of a question, and the conditions of a path's question.
use Rattle.std.specs.Prelude.{ℕ, true, List, [], map, Result, Ok, Err}
use Rattle.sn_width.specs.declared.faults.LayoutFault.{LayoutFault}
use Rattle.sn_width.specs.declared.ids.NodeId.{NodeId}
use Rattle.sn_width.specs.declared.rel.Rel.TheVariants.{Ne}
use Rattle.lin_term.specs.Terms.{LinearTerm}
use Rattle.path_formula.specs.Formulas.{FormulaTree}
use Rattle.cell_stacks.specs.Outcome.{on_ok}
use Rattle.job_items.specs.AtomRules.{width_of}
use Rattle.sefl_meaning.specs.declared.walk.Place.{Place}
use Rattle.sefl_meaning.specs.declared.walk.End.TheVariants.{Stopped}
use Rattle.sefl_meaning.specs.Values.{Values}
use Rattle.sefl_meaning.specs.Network.{Network, Entry}
use Rattle.sefl_meaning.specs.Carried.{Carried, nothing, read_at, scene_at}
use Rattle.sefl_meaning.specs.Terms.{truth_in}
use Rattle.sefl_meaning.specs.Courses.{Progress}
use Rattle.sefl_meaning.specs.Injected.{unknown_count}
use Rattle.sefl_meaning.specs.Routes.{Route}
use Rattle.sefl_meaning.specs.Runs.{starting}
use Rattle.sefl_meaning.specs.Start.{start_of}
use Rattle.sefl_meaning.specs.Trees.{Tree, over, arrives, tests, splits}
use Rattle.term_values.specs.TermValues.{terms}
use Rattle.exact_records.specs.Records.{SymCondition, SymRoute, SymStart, condition_on, with_test}
use Rattle.path_questions.specs.Questions.{Field, Question, reach, invariant, visible, asked}
use Rattle.path_questions.specs.Sentences.{injected_value}

abbrev pub held_or : {F : Type 0} → F → Result F LayoutFault → F
held_or faulty (Ok f) = f
held_or faulty (Err fault) = faulty

module _ {V F : Type 0} (o : Values V F) (net : Network) where
  -- the value read differs from the injected one; so it does where the read faults
  abbrev pub differs : NodeId → Field → Carried V → F
  differs node field s =
      held_or o.always (on_ok (λ a. o.compare (width_of field.target) Ne a (injected_value o field))
      (read_at (scene_at net node) (width_of field.target) field.target s))

  -- of a state that a question speaks of: the test, or that the field reads otherwise; where the test faults it is false
  abbrev pub formula_at : Question → Carried V → F
  formula_at (reach place test) s = held_or (o.negation o.always) (truth_in o (scene_at net place.node) test s)
  formula_at (invariant place field) s = differs place.node field s
  formula_at (visible place field) s = differs place.node field s

module _ {V F : Type 0} where
  -- of a route that is over
  abbrev pub asked_left : Question → List (Place × Progress V) → Tree V F → List (Carried V)
  asked_left q arrivals (over p end') = asked q arrivals end' p
  asked_left q arrivals (arrives place p t) = []
  asked_left q arrivals (tests asking p test held broken) = []
  asked_left q arrivals (splits p branches) = []

  -- the states of a route that a question speaks of
  abbrev pub asked_on : Question → Route V F → List (Carried V)
  asked_on q way = asked_left q way.arrivals way.left

-- what is explored; there is always such a start where the net and the injection are of one job
abbrev pub start_or : SymStart → Result SymStart LayoutFault → SymStart
start_or none (Ok start) = start
start_or none (Err fault) = none

abbrev pub no_start : SymStart
no_start = record { unknowns = []; tests = []; tree = over (starting nothing) Stopped; most_choices = 0 }

module _ (net : Network) (i : Entry) (hops : ℕ) where
  abbrev pub explored : SymStart
  explored = start_or no_start (start_of (terms (unknown_count i)) net i hops)

  abbrev pub formula_of : Question → Carried LinearTerm → FormulaTree
  formula_of q s = formula_at (terms (unknown_count i)) net q s

  -- the condition of a route, with the formula of a state
  abbrev pub condition_with : Question → SymRoute → Carried LinearTerm → SymCondition
  condition_with q way s = with_test (condition_on explored way) (formula_of q s) true

  -- the conditions of a question on a path: one for each state that it speaks of, in their order
  abbrev pub conditions_on : Question → SymRoute → List SymCondition
  conditions_on q way = map (condition_with q way) (asked_on q way)
