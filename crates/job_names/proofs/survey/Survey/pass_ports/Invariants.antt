use Rattle.std.proofs.Common.{◌≡◌, drop, fold, map}
use Rattle.sefl_syntax.specs.Views.{port_tree}
use Rattle.job_names.specs.Lent.{surveyed_by}
use Rattle.job_names.specs.Surveyed.{surveyed_port}
use Rattle.job_names.proofs.survey.Survey.pass_ports.Given as goal

abbrev pub invariant-loop-port : goal.invariant-loop-port
invariant-loop-port l = fold surveyed_port (surveyed_by l.self) (map port_tree (drop l.port-index l.ports)) ≡ fold surveyed_port (surveyed_by l.fn.self) (map port_tree l.ports)
