use Rattle.std.proofs.Common.{◌∙◌, ◌++◌, ap, refl, subst}
use Rattle.path_cond.specs.Seen.{itself}
use Rattle.refutation_check.specs.Seen.{IsWithinLimits}
use Rattle.net_compare.specs.Rows.{row_seen}
use Rattle.net_compare.specs.Saying.{seen_path}
use Rattle.net_compare.specs.Weighing.{IsSmall}
use Rattle.net_compare.proofs.Joined.{rows_torn, whole_is_joined}
use Rattle.net_compare.proofs.torn.are_torn.Goals as goal

pub returns : goal.returns
returns c = λ yes.
    let p = seen_path c.args.path.now in
    let q = seen_path c.args.other.now in
    let symbols = c.with_more_symbols-symbols.result.now in
    let most = c.most_choices.result in
    let small : IsSmall symbols.widths most = c.is_small.ensures c.if-not-is_small.false in
    let within =
    subst (IsWithinLimits itself)
    (whole_is_joined p q most symbols.widths p.condition.entries q.condition.entries c.most_choices.ensures c.with_more_symbols-symbols.ensures refl refl)
    (small (p.condition.entries ++ q.condition.entries)) in
    c.torn_paths_do_not_face.ensures p q within
    (rows_torn (row_seen c.as_slice.result.now) (row_seen c.as_slice-2.result.now) p.condition.entries q.condition.entries
    (ap row_seen c.as_slice.ensures.value ∙ c.requires.path.row) (ap row_seen c.as_slice-2.ensures.value ∙ c.requires.other.row) (c.is_torn_at.ensures yes))
