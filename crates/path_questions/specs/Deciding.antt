-- What the code finds of the conditions of a question.
use Rattle.std.specs.Prelude.{ℕ, Bool, true, false, List, map}
use Rattle.std.specs.List.{AllByRecursion}
use Rattle.path_cond.specs.Seen.{itself}
use Rattle.path_solver.specs.declared.decision.Decided.{Decided}
use Rattle.path_solver.specs.declared.decision.Decided.TheVariants as decided
use Rattle.refutation_check.specs.Seen.{IsMetBy}
use Rattle.net_check.specs.Network.{Network, Entry, entry, network}
use Rattle.exact_records.specs.Exact.{SomeOne}
use Rattle.exact_records.specs.Records.{SymCondition, with_test}
use Rattle.sym_state.specs.Symbolic.{Symbolic}
use Rattle.path_questions.specs.Formulas.{formula_of}
use Rattle.path_questions.specs.Questions.{Question}
use Rattle.path_questions.specs.Telling.{FirstMet, HasRefutation, IsUndecided, IsUnmet}
use Rattle.path_questions.specs.declared.judging.Judged.{Judged}
use Rattle.path_questions.specs.declared.judging.Judged.TheVariants.{Hit, Open, RuledOut}
use Rattle.path_questions.specs.declared.subject.Subject.{Subject}

-- what a decision says
abbrev pub judged_by : Decided → Judged
judged_by (decided.Sat values) = Hit values
judged_by (decided.Unsat refutation) = RuledOut
judged_by (decided.Undecided cause) = Open

-- of one condition: it is met by these values, undecided or refuted
abbrev pub Says : SymCondition → Judged → Type 0
Says c (Hit values) = IsMetBy itself c values
Says c Open = IsUndecided c
Says c RuledOut = HasRefutation c

abbrev pub is_hit : Judged → Bool
is_hit (Hit values) = true
is_hit Open = false
is_hit RuledOut = false

-- whether one is undecided, where one of those before was or none
abbrev pub open_with : Bool → Judged → Bool
open_with before (Hit values) = before
open_with before Open = true
open_with before RuledOut = before

-- the first of the conditions that is met; or none is, and one is undecided; or each is refuted
abbrev pub IsJudged : List SymCondition → Judged → Type 0
IsJudged cs (Hit values) = FirstMet cs values
IsJudged cs Open = AllByRecursion IsUnmet cs × SomeOne IsUndecided cs
IsJudged cs RuledOut = AllByRecursion HasRefutation cs

module _ (net : Network) (i : Entry) (hops : ℕ) where
  -- a condition with the formula of each of these states
  abbrev pub conditions_with : Question → SymCondition → List Symbolic → List SymCondition
  conditions_with q c states = map (λ (x : Symbolic). with_test c (formula_of net i hops q x.carried) true) states

module _ (subject : Subject) where
  abbrev pub net_of : Network
  net_of = network subject.net.now

  abbrev pub entry_of : Entry
  entry_of = entry subject.injection.now
