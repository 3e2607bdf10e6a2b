use Rattle.std.proofs.Common.{◌≡◌, ◌∙◌, ◌++◌, ap, sym, subst}
use Rattle.path_cond.specs.Seen.{AllTyped, itself}
use Rattle.refutation_check.specs.Longer.{condition_of}
use Rattle.exact_records.specs.Records.{SymCondition}
use Rattle.compare_meaning.specs.Facing.{joined}
use Rattle.net_compare.specs.Facings.{KnowsOpen}
use Rattle.net_compare.specs.Rows.{row_seen}
use Rattle.net_compare.specs.Saying.{seen_path}
use Rattle.net_compare.specs.Weighing.{IsWeighed}
use Rattle.net_compare.proofs.Joined.{open_weighed, whole_is_joined}
use Rattle.net_compare.proofs.facing.known_open.Goals as goal

pub weigh-requires : goal.weigh-requires
weigh-requires c =
    let p = seen_path c.args.path.now in
    let q = seen_path c.args.other.now in
    let firsts = row_seen c.as_slice.result.now in
    let seconds = row_seen c.as_slice-2.result.now in
    let most = c.most_choices.result in
    let widths = c.with_more_symbols.result.now.widths in
    let whole : condition_of most widths (firsts ++ seconds) ≡ joined p q =
    whole_is_joined p q most widths firsts seconds c.most_choices.ensures c.with_more_symbols.ensures (ap row_seen c.as_slice.ensures.value ∙ c.requires.path.row)
    (ap row_seen c.as_slice-2.ensures.value ∙ c.requires.other.row) in
    record {
      typed = subst (λ (x : SymCondition). AllTyped itself x.widths x.entries) (sym whole)
          (c.joined_conditions_are_typed.ensures p q c.requires.agree c.requires.path.typed c.requires.other.typed);
    }

pub returns : goal.returns
returns c =
    let p = seen_path c.args.path.now in
    let q = seen_path c.args.other.now in
    let firsts = row_seen c.as_slice.result.now in
    let seconds = row_seen c.as_slice-2.result.now in
    let most = c.most_choices.result in
    let widths = c.with_more_symbols.result.now.widths in
    let whole : condition_of most widths (firsts ++ seconds) ≡ joined p q =
    whole_is_joined p q most widths firsts seconds c.most_choices.ensures c.with_more_symbols.ensures (ap row_seen c.as_slice.ensures.value ∙ c.requires.path.row)
    (ap row_seen c.as_slice-2.ensures.value ∙ c.requires.other.row) in
    subst (KnowsOpen (joined p q)) (sym c.weighed_open.ensures)
    (open_weighed c.candidates_leave_a_condition_open.ensures (joined p q) c.in_ok-weighed.weighed
    (subst (λ (x : SymCondition). IsWeighed x c.in_ok-weighed.weighed) whole c.in_ok-weighed.ensures))
