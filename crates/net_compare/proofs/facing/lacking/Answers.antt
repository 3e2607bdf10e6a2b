use Rattle.std.proofs.Common.{◌∙◌, ap, map}
use Rattle.std.proofs.lemmas.Result.{IfOk-weaker}
use Rattle.path_formula.specs.View.{view}
use Rattle.net_compare.specs.Rows.{row_seen}
use Rattle.net_compare.specs.Saying.{seen_path}
use Rattle.net_compare.proofs.Joined.{rows_lack}
use Rattle.net_compare.proofs.facing.lacking.Goals as goal

pub returns : goal.returns
returns c =
    let p = seen_path c.args.path.now in
    let q = seen_path c.args.other.now in
    IfOk-weaker c.missing.result _ _
    (λ fs h.
    rows_lack (row_seen c.as_slice.result.now) (row_seen c.as_slice-2.result.now) p.condition.entries q.condition.entries (map view fs.items)
    (ap row_seen c.as_slice.ensures.value ∙ c.requires.path.row) (ap row_seen c.as_slice-2.ensures.value ∙ c.requires.other.row) h) c.missing.ensures
