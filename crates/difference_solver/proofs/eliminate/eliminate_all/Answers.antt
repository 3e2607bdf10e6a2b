use Rattle.std.proofs.Common.{arith, refl, sym, subst, ℕ, ◌∙◌, ◌-◌}
use Rattle.difference_solver.specs.Elimination.{HasSources}
use Rattle.difference_solver.proofs.Steps.{eliminates_start, eliminates_more, eliminates_sources, sources_below, closed_below, step_keeps}
use Rattle.difference_solver.proofs.eliminate.eliminate_all.Goals as goal

pub loop-step-init : goal.loop-step-init
loop-step-init c = record {
  count = refl;
  eliminates = eliminates_start c.args.table.now c.count-count.result c.count-count.ensures.same c.requires;
  kept = λ i j d h. h;
  sources = λ bounds h. sources_below bounds (c.count-count.result - 0) c.count-count.result c.args.table.now (omega arith) h;
}

pub loop-step-preserved : goal.loop-step-preserved
loop-step-preserved c =
    let inv = c.loop-step.invariant in
    let n = c.count-count.result in
    record {
      count = c.add_rows.ensures.count ∙ inv.count;
      eliminates = eliminates_more c.args.table.now c.loop-step.table c.add_rows.new.table n c.loop-step.step (omega arith) c.count-count.ensures.few c.requires c.in-None.ensures c.add_rows.ensures inv.eliminates;
      kept = λ i j d h. step_keeps (n - c.loop-step.step) c.loop-step.table c.add_rows.new.table c.add_rows.ensures i j d (inv.kept i j d h);
      sources = λ bounds h. eliminates_sources bounds c.args.table.now c.loop-step.table c.add_rows.new.table n c.loop-step.step (omega arith) (omega arith) c.add_rows.ensures (inv.sources bounds h);
    }

pub returns-in-Some-clause-sources : goal.returns-in-Some-clause-sources
returns-in-Some-clause-sources c = λ bounds h.
    sources_below bounds 0 (c.count-count.result - c.loop-step.step) c.loop-step.table (omega arith)
    (c.loop-step.invariant.sources bounds (subst (λ (n : ℕ). HasSources bounds n c.args.table.now) (sym c.count-count.ensures.same) h))

pub returns-clause-sources : goal.returns-clause-sources
returns-clause-sources c = λ bounds h.
    sources_below bounds 0 (c.count-count.result - c.loop-step.step) c.loop-step.table (omega arith)
    (c.loop-step.invariant.sources bounds (subst (λ (n : ℕ). HasSources bounds n c.args.table.now) (sym c.count-count.ensures.same) h))

pub returns-clause-closed : goal.returns-clause-closed
returns-clause-closed c =
    closed_below 0 (c.count-count.result - c.loop-step.step) c.loop-step.table (omega arith) c.loop-step.invariant.eliminates.closed
