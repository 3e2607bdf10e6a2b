use Rattle.std.proofs.Common.{◌≡◌, [], drop, map}
use Rattle.sefl_syntax.specs.Views.{port_tree}
use Rattle.job_items.specs.Items.{port_items}
use Rattle.job_items.specs.Progress.{progress_of, outcome_from}
use Rattle.job_items.proofs.nodes.check_ports.Given as goal

abbrev pub invariant-loop-code : goal.invariant-loop-code
invariant-loop-code l =
    outcome_from (progress_of l.tally) (port_items l.ports l.ins.keys l.outs.keys (map port_tree (drop l.code-index l.codes)))
    ≡ outcome_from (progress_of l.fn.tally) (port_items l.ports [] [] (map port_tree l.codes))
