use Rattle.std.proofs.Common.{rules, ◌≡◌, ◌∙◌, ap, sym, drop}
use Rattle.fault_places.specs.Lines.{skipped}
use Rattle.fault_places.proofs.Starts.{all_skipped}
use Rattle.fault_places.proofs.line.skipped.Goals as goal

pub returns-then-left-eq0-clause-count : goal.returns-then-left-eq0-clause-count
returns-then-left-eq0-clause-count c =
    let l = c.loop-byte in
    let none : l.left ≡ 0 = search rules in
    sym (all_skipped l.count (drop l.byte-index c.args.bytes.now)) ∙ ap (λ n. skipped n l.count (drop l.byte-index c.args.bytes.now)) (sym none) ∙ l.invariant.goes
