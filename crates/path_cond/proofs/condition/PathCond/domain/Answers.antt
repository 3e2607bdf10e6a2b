use Rattle.std.proofs.Common.{◌&&◌, ap, ◌∙◌}
use Rattle.std.specs.Prelude.{slice_index}
use Rattle.std.proofs.lemmas.Result.{IfOk-weaker}
use Rattle.sn_ranges.specs.Ranges.{IsSetOf, fits_width}
use Rattle.path_cond.specs.Conditions.{in_domain}
use Rattle.path_cond.specs.Picks.{are_simple_picks, meets_picks}
use Rattle.path_cond.proofs.Narrowing.{simple_are_simple, simple_set}
use Rattle.path_cond.proofs.condition.PathCond.domain.Goals as goal

pub values_meeting-requires-clause-simple : goal.values_meeting-requires-clause-simple
values_meeting-requires-clause-simple c =
    let s = c.args.symbol in
    let cond = c.args.self.now in
    let is = c.deref.ensures.value ∙ c.in_ok-picks.ensures ∙ c.simple_picks.ensures in
    ap (are_simple_picks s cond) is ∙ simple_are_simple s cond

pub returns : goal.returns
returns c =
    let s = c.args.symbol in
    let cond = c.args.self.now in
    let w = slice_index cond.widths s.0 in
    let is = c.deref.ensures.value ∙ c.in_ok-picks.ensures ∙ c.simple_picks.ensures in
    IfOk-weaker c.values_meeting.result (IsSetOf w (λ x. fits_width w x && meets_picks s cond c.deref.result.now x)) (IsSetOf w (λ x. fits_width w x && in_domain s cond x))
    (λ set h. simple_set s cond w c.deref.result.now set is h) c.values_meeting.ensures
