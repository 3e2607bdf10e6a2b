-- The condition of an injection, and that one thing is explored.
use Rattle.std.proofs.Common.{◌≡◌, ℕ, inl, inr, true, List, [], ◌∷◌, length, map, Option, Result, Ok, Err, refl, sym, ap, subst, ◌∙◌}
use Rattle.refutation_check.specs.Longer.{condition_of}
use Rattle.path_formula.specs.Formulas.{FormulaTree}
use Rattle.path_formula.specs.View.{view}
use Rattle.path_cond.specs.Conditions.{Entry}
use Rattle.path_cond.specs.Seen.{entry_seen}
use Rattle.net_check.specs.Network.{Network}
use Rattle.sn_width.specs.declared.ids.NodeId.{NodeId}
use Rattle.sefl_meaning.specs.Network.{Entry as Injection}
use Rattle.sefl_meaning.specs.Runs.{starting}
use Rattle.sefl_meaning.specs.Trees.{enter}
use Rattle.term_values.specs.TermValues.{terms}
use Rattle.sym_state.specs.Beginning.{Begins, MustBeTrue, start_in, trees_of as formula_trees}
use Rattle.sym_state.specs.Symbolic.{Symbolic}
use Rattle.exact_records.specs.Packets.{IsExplored}
use Rattle.path_records.specs.declared.records.Record.{Record}
use Rattle.exact_records.specs.Records.{RecordTree, SymStart, first_condition}
use Rattle.exact_records.specs.View.{record_trees}
use Rattle.record_checks.specs.Confirming.{Confirms, IsConfirmedBack}
use Rattle.record_checks.specs.Stops.{trees_of}
use Rattle.record_checks.specs.Supplies.{ConfirmsAll}
use Rattle.record_checks.specs.declared.counts.Confirmed.{Confirmed}
use Rattle.record_checks.specs.declared.fault.ReplayFault.{ReplayFault}
use Rattle.record_checks.specs.declared.fault.ReplayFault.TheVariants.{NotConfirmed, NoMemory}
use Rattle.symbolic_engine.specs.Origins.{IsFirstState}
use Rattle.whole_checks.specs.Confirming.{Answer, ConfirmsWhole}
use Rattle.path_replay.specs.Replaying.{ConfirmsFor, ConfirmsAllFor, ConfirmsWholeFor, IsConfirmedBackFor}

true_entries : (entries : List Entry) → MustBeTrue entries
    → map (entry_seen view) entries ≡ map (λ (f : FormulaTree). (f, true)) (formula_trees entries)
true_entries [] h = refl
true_entries (entry ∷ entries) h = λ i. (view entry.0, h.0 i) ∷ true_entries entries h.1 i

pub first_seen : (s : SymStart) (net : Network) (hops : ℕ) (node : NodeId) (port : ℕ) (x : Symbolic) → IsFirstState s net hops node port x
    → trees_of x.condition ≡ first_condition s
first_seen s net hops node port x first =
    let entries = true_entries x.condition.entries first.true_tests ∙ ap (map (λ (f : FormulaTree). (f, true))) (sym first.tests) in
    λ i. condition_of (sym first.most_choices i) (sym first.unknowns i) (entries i)

-- the state of an injection is the first of what is explored there
pub first_of : (net : Network) (i : Injection) (hops : ℕ) (x : Symbolic) → Begins net i x → IsFirstState (start_in net i hops x) net hops i.node i.own.port x
first_of net i hops x begins = record {
  unknowns = refl;
  tests = refl;
  most_choices = refl;
  tree = ap (λ (u : ℕ). enter (terms u) net hops i.node i.own.port (starting x.carried)) (sym begins.unknown_fields);
  true_tests = begins.true_tests;
  fields = begins.unknown_fields ∙ ap length (sym begins.widths);
  decisions = begins.decisions;
  places = begins.places;
}

same_ok : {A E : Type 0} {a b : A} → ◌≡◌ {A = Result A E} (Ok a) (Ok b) → a ≡ b
same_ok e = cc e

module _ (net : Network) (i : Injection) (hops : ℕ) (start : SymStart) (explored : IsExplored net i hops start) (xs : List RecordTree) where
  pub confirms_for : (result : Result Confirmed ReplayFault) → Confirms start xs result → ConfirmsFor net i hops xs result
  confirms_for (Ok counts) h = record { start = start; explored = explored; holds = h }
  confirms_for (Err (NotConfirmed number part)) h = record { start = start; explored = explored; holds = h }
  confirms_for (Err NoMemory) h = tt

  pub whole_for : (answer : Answer) → ConfirmsWhole start xs answer → ConfirmsWholeFor net i hops xs answer
  whole_for answer (inl e) = inl e
  whole_for answer (inr h) = inr (record { start = start; explored = explored; holds = h })

  -- one thing is explored
  one_start : (P : SymStart → Type 0) (other : SymStart) → IsExplored net i hops other → P start → P other
  one_start P other is h = subst P (same_ok (sym explored ∙ is)) h

-- the same of records that were handed over
module _ {S : Type 0} (steps : S → Option Record → S → Type 0) (net : Network) (i : Injection) (hops : ℕ) (start : SymStart) (explored : IsExplored net i hops start) (u v : S) where
  pub all_for : (result : Result Confirmed ReplayFault) → ConfirmsAll steps start u v result → ConfirmsAllFor net i hops steps u v result
  all_for (Ok counts) (xs, all, h) = (xs, all, confirms_for net i hops start explored (record_trees xs) (Ok counts) h)
  all_for (Err (NotConfirmed number part)) (xs, all, h) = (xs, all, confirms_for net i hops start explored (record_trees xs) (Err (NotConfirmed number part)) h)
  all_for (Err NoMemory) h = tt

-- what each record means at the start is what is answered
abbrev IsBack : Type 0
IsBack = (s : SymStart) (xs : List RecordTree) (answer : Result Confirmed ReplayFault) → Confirms s xs answer → IsConfirmedBack s xs answer

pub back_for : IsBack → (net : Network) (i : Injection) (hops : ℕ) (xs : List RecordTree) (answer : Result Confirmed ReplayFault)
    → ConfirmsFor net i hops xs answer → IsConfirmedBackFor net i hops xs answer
back_for law net i hops xs (Ok counts) h = λ other is.
    law other xs (Ok counts) (one_start net i hops h.start h.explored xs (λ s. Confirms s xs (Ok counts)) other is h.holds)
back_for law net i hops xs (Err (NotConfirmed number part)) h = λ other is.
    law other xs (Err (NotConfirmed number part)) (one_start net i hops h.start h.explored xs (λ s. Confirms s xs (Err (NotConfirmed number part))) other is h.holds)
back_for law net i hops xs (Err NoMemory) h = λ other is. law other xs (Err NoMemory) tt
