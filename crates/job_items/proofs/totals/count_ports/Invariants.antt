use Rattle.std.proofs.Common.{◌≡◌, drop, map}
use Rattle.sefl_syntax.specs.Views.{port_tree}
use Rattle.job_items.specs.Totals.{counts_of, with_ports}
use Rattle.job_items.proofs.totals.count_ports.Given as goal

abbrev pub invariant-loop-code : goal.invariant-loop-code
invariant-loop-code l = with_ports (counts_of l.tally) (map port_tree (drop l.code-index l.codes)) ≡ with_ports (counts_of l.fn.tally) (map port_tree l.codes)
