use Rattle.std.proofs.Common.{refl, map}
use Rattle.net_check.specs.Network.{network}
use Rattle.sefl_meaning.specs.View.{carried_of}
use Rattle.table_nodes.specs.TableNodes.{destination, row_guard}
use Rattle.model_laws.proofs.Leaves.{leaves}
use Rattle.model_laws.proofs.TableTests.{node_tests, rows_test}
use Rattle.model_laws.proofs.tables.table_run.Goals as goal

pub returns : goal.returns
returns c = λ tree t codes unknowns begun choices.
    let kind = c.args.kind in
    leaves (network c.args.net.now) c.args.values.now unknowns c.args.node tree (destination kind)
    (carried_of c.args.state.now) c.args.address codes
    (node_tests kind t.0 t.1 (map (row_guard kind) t.2) t.3 tree t.5 (rows_test kind t.2 t.4)) c.requires.reads
    (record { state = carried_of c.args.state.now; choices = choices; begun = begun }) refl
