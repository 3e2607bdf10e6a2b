-- By which ports the table in a file sends an address.
use Rattle.std.specs.Prelude.{ℕ, ◌≡◌, List, [], Ok}
use Rattle.sn_width.specs.declared.ids.NodeId.{NodeId}
use Rattle.sefl_syntax.specs.declared.net.TableKind.{TableKind}
use Rattle.sefl_syntax.specs.declared.net.TableKind.TheVariants.{Mac, Fib}
use Rattle.table_nodes.specs.TableNodes.{port_or, ports_from}
use Rattle.mac_model.specs.MacTables.{MacSeen, mac_of}
use Rattle.mac_model.specs.Nodes.{mac_port}
use Rattle.fib_model.specs.Prefixes.{fib_port}
use Rattle.fib_model.specs.Fibs.{FibSeen, fib_of}
use Rattle.command_edge.specs.Files.{Files, HasFile}
use Rattle.command_edge.specs.declared.limits.TheConstants.{FILE_LIMIT}
use Rattle.sefl_meaning.specs.Network.{Network}
use Rattle.sefl_meaning.specs.Carried.{Carried}
use Rattle.model_laws.specs.Leaving.{leaves_by}

-- the bytes have a table, which sends the address to these ports: a MAC table to that of its row, or to all where no row has it; a
-- forwarding table to that of its longest prefix, or to none
abbrev pub SendsTo : TableKind → List ℕ → ℕ → List ℕ → Type 0
SendsTo Mac bytes a ports = (mac : MacSeen) × (mac_of bytes ≡ Ok mac) × (ports ≡ port_or (ports_from 0 mac.ports) (mac_port mac.rows a))
SendsTo Fib bytes a ports = (fib : FibSeen) × (fib_of bytes ≡ Ok fib) × (ports ≡ port_or [] (fib_port fib.rows a))

-- the file under the name has a table, and by just the ports to which it sends the address copies of a packet that carries this leave
-- the box, whatever was chosen before
abbrev pub LeavesByFile : Files → TableKind → List ℕ → Network → NodeId → List ℕ → Carried ℕ → ℕ → Type 0
LeavesByFile files kind name net node v s a =
    (bytes : List ℕ) × HasFile files FILE_LIMIT name bytes × (ports : List ℕ) × SendsTo kind bytes a ports
    × ((unknowns begun : ℕ) (choices : List ℕ) → leaves_by net v unknowns node (record { state = s; choices = choices; begun = begun }) ≡ ports)
