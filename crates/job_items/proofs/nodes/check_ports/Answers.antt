use Rattle.std.proofs.Common.{◌+◌, [], map, drop, refl, ap₂, ◌∙◌}
use Rattle.sefl_syntax.specs.Views.{port_tree}
use Rattle.job_items.specs.Items.{one_port_items, port_items, with_input, with_output}
use Rattle.job_items.specs.Progress.{progress_of, outcome_from}
use Rattle.job_items.proofs.Outcomes.{follows_error, stops_in_blocks, passes_in_blocks}
use Rattle.job_items.proofs.nodes.check_ports.Goals as goal

pub returns-in_err-check_port : goal.returns-in_err-check_port
returns-in_err-check_port c =
    let ports = c.args.ports in
    let ins = c.loop-code.ins.keys in
    let outs = c.loop-code.outs.keys in
    follows_error _ c.from_residual.result c.in_err-check_port.field-0.0 (progress_of c.check_port.new.tally) c.from_residual.ensures.1
    (stops_in_blocks (λ ps. port_items ports ins outs (map port_tree ps)) (λ p. one_port_items ports ins outs (port_tree p))
    (λ p ps. port_items ports (with_input p.side p.port ins) (with_output p.side p.port outs) (map port_tree ps)) (λ p ps. refl)
    (outcome_from (progress_of c.args.tally.now) (port_items ports [] [] (map port_tree c.args.codes.now)))
    (progress_of c.loop-code.tally) c.args.codes.now c.loop-code.code-index c.code-item.result c.in_err-check_port.field-0.0
    (progress_of c.check_port.new.tally) c.loop-code-test.true c.code-item.is c.loop-code.invariant c.in_err-check_port.ensures.follows)

pub loop-code-preserved : goal.loop-code-preserved
loop-code-preserved c =
    let ports = c.args.ports in
    let ins = c.loop-code.ins.keys in
    let outs = c.loop-code.outs.keys in
    let rest = map port_tree (drop (c.loop-code.code-index + 1) c.args.codes.now) in
    ap₂ (λ a b. outcome_from (progress_of c.check_port.new.tally) (port_items ports a b rest)) c.in_ok-check_port.ensures.inputs c.in_ok-check_port.ensures.outputs
    ∙ passes_in_blocks (λ ps. port_items ports ins outs (map port_tree ps)) (λ p. one_port_items ports ins outs (port_tree p))
    (λ p ps. port_items ports (with_input p.side p.port ins) (with_output p.side p.port outs) (map port_tree ps)) (λ p ps. refl)
    (outcome_from (progress_of c.args.tally.now) (port_items ports [] [] (map port_tree c.args.codes.now)))
    (progress_of c.loop-code.tally) (progress_of c.check_port.new.tally) c.args.codes.now c.loop-code.code-index c.code-item.result
    c.loop-code-test.true c.code-item.is c.loop-code.invariant c.in_ok-check_port.ensures.follows
