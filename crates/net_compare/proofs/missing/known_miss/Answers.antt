use Rattle.std.proofs.Common.{◌≡◌, ◌∙◌, ◌++◌, ap, map, sym, subst, IfSome}
use Rattle.path_cond.specs.Seen.{AllTyped, itself, seen}
use Rattle.path_formula.specs.View.{view}
use Rattle.refutation_check.specs.Longer.{condition_of}
use Rattle.exact_records.specs.Records.{SymCondition}
use Rattle.net_compare.specs.Joining.{denied_by}
use Rattle.net_compare.specs.Rows.{row_seen}
use Rattle.net_compare.specs.Saying.{Says}
use Rattle.net_compare.proofs.Joined.{all_typed, whole_is_denied}
use Rattle.net_compare.proofs.missing.known_miss.Goals as goal

pub weigh-requires : goal.weigh-requires
weigh-requires c =
    let start = c.args.start.now.condition in
    let fs = c.args.formulas.now in
    let firsts = row_seen c.as_slice.result.now in
    let seconds = row_seen c.as_slice-2.result.now in
    let whole : condition_of c.most_choices.result start.widths (firsts ++ seconds) ≡ denied_by (seen view start) (map view fs) =
    whole_is_denied start (map view fs) c.most_choices.result firsts seconds c.most_choices.ensures
    (ap row_seen c.as_slice.ensures.value ∙ (c.requires.sound.row ∙ sym c.requires.same)) (ap row_seen c.as_slice-2.ensures.value ∙ c.in_ok-denied.ensures) in
    record {
      typed = subst (λ (x : SymCondition). AllTyped itself x.widths x.entries) (sym whole)
          (all_typed start fs ((c.a_condition_is_judged_by_its_trees.ensures start).typed.0 c.formulas_are_typed.ensures) c.requires.typed);
    }

pub returns : goal.returns
returns c =
    let start = c.args.start.now.condition in
    let fs = c.args.formulas.now in
    let firsts = row_seen c.as_slice.result.now in
    let seconds = row_seen c.as_slice-2.result.now in
    let whole : condition_of c.most_choices.result start.widths (firsts ++ seconds) ≡ denied_by (seen view start) (map view fs) =
    whole_is_denied start (map view fs) c.most_choices.result firsts seconds c.most_choices.ensures
    (ap row_seen c.as_slice.ensures.value ∙ (c.requires.sound.row ∙ sym c.requires.same)) (ap row_seen c.as_slice-2.ensures.value ∙ c.in_ok-denied.ensures) in
    subst (λ x. IfSome c.told_by.result (Says x)) whole c.told_by.ensures
