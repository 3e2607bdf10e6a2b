use Rattle.std.proofs.Common.{◌+◌, arith}
use Rattle.difference_solver.specs.Parts.{has_label}
use Rattle.difference_solver.proofs.Naming.{next_name, all_names}
use Rattle.difference_solver.proofs.renaming.names_of.Goals as goal

pub loop-unknown-preserved : goal.loop-unknown-preserved
loop-unknown-preserved c =
    let l = c.loop-unknown in
    next_name (has_label c.args.labels.now c.args.label) l.unknown (c.args.count + 1) l.names.items c.push_name.new.names.items
    (omega (arith, c.loop-unknown-test.true)) c.in_ok-push_name.ensures l.invariant

pub returns : goal.returns
returns c =
    let l = c.loop-unknown in
    all_names (has_label c.args.labels.now c.args.label) c.args.count l.unknown l.names.items (omega (arith, c.loop-unknown-test.false)) l.invariant
