use Rattle.std.proofs.Common.{◌≡◌, ◌+◌, map, drop}
use Rattle.sefl_syntax.specs.Views.{port_tree}
use Rattle.net_check.specs.Places.{codes_size}
use Rattle.fault_places.proofs.number.behind_codes.Given as goal

abbrev pub invariant-loop-port : goal.invariant-loop-port
invariant-loop-port l = l.site + codes_size (map port_tree (drop l.port-index l.codes)) ≡ l.first + codes_size (map port_tree l.codes)
