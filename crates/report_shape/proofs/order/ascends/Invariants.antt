use Rattle.std.proofs.Common.{◌≡◌, drop, None}
use Rattle.serde_json.specs.View.{items_view}
use Rattle.report_shape.specs.Reduced.{ascends}
use Rattle.report_shape.proofs.order.ascends.Given as goal

-- what is left has the order of the whole
abbrev pub invariant-loop-term : goal.invariant-loop-term
invariant-loop-term l = ascends None l.most (items_view l.terms) ≡ ascends l.last l.most (items_view (drop l.term-index l.terms))
