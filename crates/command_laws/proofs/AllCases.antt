-- With the greatest bound no record is undecided for its number of choices of cases.
use Rattle.std.proofs.Common.{◌≡◌, ℕ, ◌*◌, ◌<◌, ◌≤◌, List, [], ◌∷◌, None, Some, Result, Ok, Err, refl, sym, ap, subst, ◌∙◌, arith}
use Rattle.std.specs.List.{AllByRecursion}
use Rattle.sn_width.specs.declared.faults.LayoutFault.{LayoutFault}
use Rattle.lin_term.specs.Terms.{LinearTerm}
use Rattle.path_formula.specs.CaseCounts.{capped}
use Rattle.path_formula.specs.Formulas.{FormulaTree}
use Rattle.path_cond.specs.Choices.{choice_count, formula_choices, range_choices}
use Rattle.path_cond.specs.Seen.{itself, tried}
use Rattle.refutation_check.specs.Seen.{AreManyChoices}
use Rattle.refutation_check.specs.declared.outcome.Cause.TheVariants.{Outside, Cases, Coupled}
use Rattle.refutation_check.specs.declared.outcome.Verdict.{Verdict}
use Rattle.refutation_check.specs.declared.outcome.Verdict.TheVariants.{Sat, Undecided}
use Rattle.cell_stacks.specs.Outcome.{and_then, on_ok}
use Rattle.net_check.specs.Network.{Network, Entry}
use Rattle.sefl_meaning.specs.Carried.{Carried, scene_at}
use Rattle.sefl_meaning.specs.Injected.{injected, unknown_count, unknown_widths}
use Rattle.sefl_meaning.specs.Start.{start_from, tests_in, tree_from}
use Rattle.term_values.specs.TermValues.{terms}
use Rattle.exact_records.specs.Exact.{IsGood}
use Rattle.exact_records.specs.Packets.{IsExplored}
use Rattle.exact_records.specs.Records.{IsVerdictOn, RecordTree, SymCondition, SymStart, condition_on, path, pruned, unexplored}
use Rattle.command_laws.specs.Cases.{AllCasesAreTried, HasAllCasesTried, IsTriedInAll, all_choices}

-- ---- the bound of what is explored

abbrev bound_or : ℕ → Result SymStart LayoutFault → ℕ
bound_or none (Ok start) = start.most_choices
bound_or none (Err fault) = none

module _ (net : Network) (i : Entry) (hops : ℕ) where
  bound_by_tests : (s : Carried LinearTerm) (r : Result (List FormulaTree) LayoutFault)
      → bound_or i.most_choices (on_ok (λ fs. record {
        unknowns = unknown_widths i.own.fields;
        tests = fs;
        tree = tree_from (terms (unknown_count i)) net i hops s;
        most_choices = i.most_choices;
      }) r) ≡ i.most_choices
  bound_by_tests s (Ok fs) = refl
  bound_by_tests s (Err fault) = refl

  bound_by_state : (r : Result (Carried LinearTerm) LayoutFault)
      → bound_or i.most_choices (and_then r (start_from (terms (unknown_count i)) net i hops)) ≡ i.most_choices
  bound_by_state (Ok s) = bound_by_tests s (tests_in (terms (unknown_count i)) (scene_at net i.node) i.own.tests s)
  bound_by_state (Err fault) = refl

  its_bound : (start : SymStart) → IsExplored net i hops start → start.most_choices ≡ i.most_choices
  its_bound start explored =
      ap (bound_or i.most_choices) (sym explored) ∙ bound_by_state (injected (terms (unknown_count i)) (scene_at net i.node) i.own)

-- ---- conditions with the greatest bound

at_most_all : (n : ℕ) → capped n ≤ all_choices
at_most_all n = omega arith

never_many : (c : SymCondition) (count : ℕ) → c.most_choices ≡ all_choices → AreManyChoices itself c count → ⊥
never_many c count most many =
    let few : choice_count itself c ≤ all_choices = at_most_all (formula_choices itself c * range_choices itself c) in
    let above : tried all_choices < count = subst (λ n. tried n < count) most many.many in
    let is = many.is in
    omega (arith, few, above, is)

verdict_tried : (c : SymCondition) → c.most_choices ≡ all_choices → (verdict : Verdict) → IsVerdictOn c verdict → IsTriedInAll verdict
verdict_tried c most (Sat values) h = tt
verdict_tried c most (Undecided (Outside pick values)) h = λ k. k
verdict_tried c most (Undecided (Cases count)) h = λ k. never_many c count most h.1
verdict_tried c most (Undecided (Coupled count)) h = λ k. k

module _ (s : SymStart) (most : s.most_choices ≡ all_choices) where
  record_tried : (x : RecordTree) → IsGood s x → HasAllCasesTried x
  record_tried (path ds places end' fields verdict) good =
      let way = good.meaning.way in
      verdict_tried (condition_on s way) most verdict (good.verdict way good.meaning.leads)
  record_tried (pruned ds None refutation) good = tt
  record_tried (pruned ds (Some before) refutation) good =
      let side = good.meaning.side in
      verdict_tried (condition_on s side.way) most before (good.verdict.0 side)
  record_tried (unexplored ds) good = tt

  records_tried : (rs : List RecordTree) → AllByRecursion (IsGood s) rs → AllByRecursion HasAllCasesTried rs
  records_tried [] goods = tt
  records_tried (x ∷ rs) goods = (record_tried x goods.0, records_tried rs goods.1)

pub all_cases_are_tried : AllCasesAreTried
all_cases_are_tried net i hops limit rs most exact =
    records_tried exact.start (its_bound net i hops exact.start exact.explored ∙ most) rs exact.exact.good
