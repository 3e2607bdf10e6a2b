use Rattle.std.proofs.Common.{◌≡◌, ◌∙◌, length, arith}
use Rattle.path_solver.proofs.Bases.{next_nil, no_nil, padded_is}
use Rattle.path_solver.proofs.base.padded.Goals as goal

pub loop-place-init : goal.loop-place-init
loop-place-init c =
    record {
      behind = omega arith;
      within = c.requires;
      values = no_nil c.args.least.now c.in_ok-values.values.items c.in_ok-values.ensures.items;
    }

pub loop-place-preserved : goal.loop-place-preserved
loop-place-preserved c =
    let l = c.loop-place in
    record {
      behind = omega (arith, l.invariant.behind);
      within = omega (arith, c.loop-place-test.true, c.symbols-place-end.ensures);
      values = c.in_ok-push.ensures.items ∙ next_nil c.args.least.now l.values.items (length c.args.least.now) l.place l.invariant.behind l.invariant.values;
    }

pub returns : goal.returns
returns c =
    let l = c.loop-place in
    let end : l.place ≡ length c.args.cond.now.widths = omega (arith, l.invariant.within, c.loop-place-test.false, c.symbols-place-end.ensures) in
    padded_is c.args.cond.now.widths c.args.least.now l.values.items l.place c.requires end l.invariant.values
