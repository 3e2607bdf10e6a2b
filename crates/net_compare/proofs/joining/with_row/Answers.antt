use Rattle.std.proofs.Common.{◌≡◌, ◌++◌, ◌∙◌, ap, map}
use Rattle.path_cond.specs.Conditions.{Condition}
use Rattle.path_cond.specs.Seen.{entry_seen}
use Rattle.path_formula.specs.View.{view}
use Rattle.net_compare.specs.Rows.{row_seen}
use Rattle.net_compare.proofs.Entries.{entry_typed, joined_next, rest_typed, widths_after}
use Rattle.net_compare.proofs.joining.with_row.Goals as goal

pub with_formula-requires-clause-typed : goal.with_formula-requires-clause-typed
with_formula-requires-clause-typed c =
    entry_typed c.args.start.condition.widths c.args.row.now c.loop-formula.formula-index c.loop-formula-item.result c.loop-formula-test.true c.loop-formula-item.is
    c.loop-formula.invariant.typed c.loop-formula.now.condition.widths c.loop-formula.invariant.widths c.in_ok-copy.copy c.in_ok-copy.ensures.same

pub loop-formula-preserved : goal.loop-formula-preserved
loop-formula-preserved c =
    let row = c.args.row.now in
    let n = c.loop-formula.formula-index in
    let d = c.loop-formula-item.result in
    let start = c.args.start.condition in
    let before = c.loop-formula.now.condition in
    let after = c.in_ok-now.now.condition in
    let copy = c.in_ok-copy.copy in
    record {
      ready = c.in_ok-now.ensures.ready;
      widths = widths_after before after (copy, d.1) c.in_ok-now.ensures.longer start.widths c.loop-formula.invariant.widths;
      most = ap (λ (x : Condition). x.most_choices) c.in_ok-now.ensures.longer ∙ c.loop-formula.invariant.most;
      typed = rest_typed start.widths row n d c.loop-formula-test.true c.loop-formula-item.is c.loop-formula.invariant.typed;
      joined = joined_next start.widths row n d c.loop-formula-test.true c.loop-formula-item.is before.entries after.entries copy c.in_ok-copy.ensures.same
          (ap (λ (x : Condition). x.entries) c.in_ok-now.ensures.longer) (map (entry_seen view) start.entries ++ row_seen row) c.loop-formula.invariant.joined;
    }
