use Rattle.std.proofs.Common.{◌≡◌, length}
use Rattle.sefl_syntax.specs.declared.net.TableKind.TheVariants.{Fib}
use Rattle.table_nodes.specs.Codes.{lists}
use Rattle.table_nodes.specs.TableNodes.{SetsFor, is_port}
use Rattle.fib_model.specs.Prefixes.{fib_port}
use Rattle.fib_model.proofs.least.least_sets.Given as goal

abbrev pub invariant-loop-port : goal.invariant-loop-port
invariant-loop-port l = record {
  len : length l.sets.items ≡ l.port;
  sets : SetsFor Fib (λ a. is_port (fib_port l.rows a)) 0 (lists l.sets.items);
}
