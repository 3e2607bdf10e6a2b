-- The runs of elements.
use Rattle.std.specs.Prelude.{◌≡◌, ℕ, List, Some, slice_get}
use Rattle.sn_width.specs.declared.ids.NodeId.{NodeId}
use Rattle.sefl_syntax.specs.declared.net.Side.{Side}
use Rattle.sefl_syntax.specs.declared.net.Side.TheVariants.{Inward}
use Rattle.net_check.specs.Network.{code_at}
use Rattle.table_nodes.specs.Exits.{code_in}
use Rattle.click_elements.specs.Classes.{ClassSeen}
use Rattle.click_model.specs.Declarations.{ElementSeen}
use Rattle.click_model.specs.Configs.{ConfigSeen}
use Rattle.click_model.specs.Nets.{element_node}
use Rattle.sefl_meaning.specs.Network.{Network}
use Rattle.sefl_meaning.specs.Carried.{Carried}
use Rattle.sefl_meaning.specs.Runs.{Progress}
use Rattle.sefl_meaning.specs.Walks.{run_port}
use Rattle.model_laws.specs.Outcomes.{Outcome, outcome}

-- the node of the net has the codes of the configuration's element at this index
pub record IsElement (c : ConfigSeen) (index : ℕ) (net : Network) (node : NodeId) (e : ElementSeen) : Type 0 where
  pub is : slice_get c.elements index ≡ Some e
  pub codes : (side : Side) (port : ℕ) → code_at net node side port ≡ code_in (element_node c.connections e) side port

abbrev pub progress : Carried ℕ → List ℕ → ℕ → Progress ℕ
progress s choices begun = record { state = s; choices = choices; begun = begun }

-- the run of input 0, where the element is of the class, comes to the row, whatever was chosen before
abbrev pub RunsAs : ConfigSeen → ℕ → Network → NodeId → List ℕ → Carried ℕ → ClassSeen → (ElementSeen → ℕ → Outcome) → Type 0
RunsAs c index net node v s class row =
    (e : ElementSeen) → IsElement c index net node e → e.class ≡ class
    → (unknowns begun : ℕ) (choices : List ℕ) → outcome (run_port net v unknowns node Inward 0 (progress s choices begun)) ≡ row e unknowns
