use Rattle.std.proofs.Common.{◌≡◌, ◌∙◌, ap, refl, sym, subst}
use Rattle.std.proofs.lemmas.Result.{IfOk-weaker}
use Rattle.path_cond.specs.Conditions.{Condition}
use Rattle.path_cond.specs.Seen.{AllTyped, itself}
use Rattle.compare_meaning.specs.Facing.{longer}
use Rattle.net_compare.specs.Rows.{row_seen}
use Rattle.net_compare.specs.Saying.{seen_path}
use Rattle.net_compare.proofs.Joined.{is_joined, typed_longer}
use Rattle.net_compare.proofs.facing.join.Goals as goal

pub with_row-requires-clause-typed : goal.with_row-requires-clause-typed
with_row-requires-clause-typed c =
    let own = c.args.path.now.condition.now.widths in
    let theirs = c.args.other.now.condition.now.widths in
    let q = seen_path c.args.other.now in
    let now : c.in_ok-wider.wider.condition.widths ≡ longer own theirs =
    ap (λ (d : Condition). d.widths) c.in_ok-wider.ensures.longer ∙ ap (λ (d : Condition). longer d.widths theirs) c.in_ok-start.ensures.same in
    let row = ap row_seen c.as_slice.ensures.value ∙ c.requires.other.row in
    subst (AllTyped itself c.in_ok-wider.wider.condition.widths) (sym row)
    (typed_longer c.more_symbols_keep_types.ensures.formula own theirs c.in_ok-wider.wider.condition.widths q.condition.entries c.requires.agree now
    c.requires.other.typed.formulas)

pub returns-clause-joined : goal.returns-clause-joined
returns-clause-joined c =
    let p = seen_path c.args.path.now in
    let q = seen_path c.args.other.now in
    let row = ap row_seen c.as_slice.ensures.value ∙ c.requires.other.row in
    IfOk-weaker c.with_row.result _ _
    (λ both h.
    h ∙ is_joined p q c.args.path.now.condition.now c.in_ok-start.start.condition c.in_ok-wider.wider.condition c.args.other.now.condition.now.widths (row_seen c.as_slice.result.now)
    refl refl row c.in_ok-start.ensures.same c.in_ok-wider.ensures.longer) c.with_row.ensures.longer
