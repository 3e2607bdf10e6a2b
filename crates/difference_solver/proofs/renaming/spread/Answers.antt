use Rattle.std.proofs.Common.{◌≡◌, ◌+◌, [], ◌∷◌, ◌++◌, arith, rules}
use Rattle.difference_solver.specs.Parts.{has_label}
use Rattle.difference_solver.specs.Renaming.{spread_at}
use Rattle.difference_solver.proofs.Renamed.{next_integer, all_integers}
use Rattle.difference_solver.proofs.renaming.spread.Goals as goal

pub loop-unknown-preserved : goal.loop-unknown-preserved
loop-unknown-preserved c =
    let l = c.loop-unknown in
    let test = has_label c.args.labels.now c.args.label in
    let more : c.push.new.self.items ≡ l.found.items ++ spread_at test c.args.names.now c.args.values.now l.unknown ∷ [] = search rules in
    next_integer test c.args.names.now c.args.values.now l.unknown (c.args.count + 1) l.found.items c.push.new.self.items
    (omega (arith, c.loop-unknown-test.true)) more l.invariant

pub returns : goal.returns
returns c =
    let l = c.loop-unknown in
    all_integers (has_label c.args.labels.now c.args.label) c.args.names.now c.args.values.now c.args.count l.unknown l.found.items
    (omega (arith, c.loop-unknown-test.false)) l.invariant
