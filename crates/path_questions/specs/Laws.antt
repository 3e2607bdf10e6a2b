-- What the laws of questions say.
use Rattle.std.specs.Prelude.{ℕ, List}
use Rattle.std.specs.List.{AllByRecursion}
use Rattle.sefl_syntax.specs.declared.reference.Target.{Target}
use Rattle.path_formula.specs.Typed.{IsTyped}
use Rattle.sefl_meaning.specs.declared.walk.Decision.{Decision}
use Rattle.sefl_meaning.specs.Network.{Network, Entry}
use Rattle.sefl_meaning.specs.Start.{widths_on}
use Rattle.exact_records.specs.Packets.{AreExactFor, IsExplored}
use Rattle.exact_records.specs.Records.{Leads, RecordTree, SymRoute}
use Rattle.path_questions.specs.Answers.{IsRight}
use Rattle.path_questions.specs.Formulas.{asked_on, explored, formula_of}
use Rattle.path_questions.specs.Placing.{IsInjected}
use Rattle.path_questions.specs.Questions.{Question, reach, invariant, visible}
use Rattle.path_questions.specs.Telling.{IsKept, Outcome, saying}

-- its field is one of the injection
abbrev pub IsOfInjection : Network → Entry → Question → Type 0
IsOfInjection net i (reach place test) = Unit {0}
IsOfInjection net i (invariant place field) = (target : Target) × IsInjected net i target field
IsOfInjection net i (visible place field) = (target : Target) × IsInjected net i target field

module _ (net : Network) (i : Entry) (hops : ℕ) where
  -- over exact records, what is kept of a question is right
  abbrev pub KeptIsRight : Type 0
  KeptIsRight = (limit : ℕ) (rs : List RecordTree) (q : Question) (outcome : Outcome) → AreExactFor net i hops limit rs
      → IsKept (saying net i hops q) rs outcome → IsRight net i hops q rs outcome

  -- the formulas of a question on a path may be added to the path's condition
  abbrev pub FormulasAreTyped : Type 0
  FormulasAreTyped = IsExplored net i hops (explored net i hops) → (q : Question) → IsOfInjection net i q → (ds : List Decision) (way : SymRoute)
      → Leads (explored net i hops) ds way
      → AllByRecursion (λ s. IsTyped (widths_on (explored net i hops) way) (formula_of net i hops q s)) (asked_on q way)
