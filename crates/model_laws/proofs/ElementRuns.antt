-- The runs of elements.
use Rattle.std.proofs.Common.{◌≡◌, ◌∙◌, ap, ℕ, List}
use Rattle.sn_width.specs.declared.ids.NodeId.{NodeId}
use Rattle.sefl_syntax.specs.declared.net.Side.TheVariants.{Inward}
use Rattle.click_elements.specs.Classes.{ClassSeen}
use Rattle.click_elements.specs.Nodes.{input_code}
use Rattle.click_model.specs.Declarations.{ElementSeen}
use Rattle.click_model.specs.Configs.{ConfigSeen}
use Rattle.click_model.specs.Nets.{leads_of}
use Rattle.sefl_meaning.specs.Network.{Network}
use Rattle.sefl_meaning.specs.Carried.{Carried, scene_at}
use Rattle.model_laws.specs.Elements.{progress, RunsAs}
use Rattle.model_laws.specs.Outcomes.{Outcome}
use Rattle.model_laws.proofs.Going.{Next, goes, port_goes}

module _ (c : ConfigSeen) (index : ℕ) (net : Network) (node : NodeId) (v : List ℕ) (s : Carried ℕ) (class : ClassSeen) (row : ElementSeen → ℕ → Outcome) where
  -- what the class's code comes to is what the element's run comes to
  pub runs_as : ((e : ElementSeen) (unknowns site begun : ℕ) (choices : List ℕ) (next : Next)
      → goes v unknowns (scene_at net node) site (input_code class (leads_of e.name c.connections)) (progress s choices begun) next ≡ row e unknowns)
      → RunsAs c index net node v s class row
  runs_as h = λ e is same unknowns begun choices.
      port_goes net v unknowns node (input_code class (leads_of e.name c.connections)) (progress s choices begun) (row e unknowns)
      (is.codes Inward 0 ∙ ap (λ class. input_code class (leads_of e.name c.connections)) same)
      (λ site next. h e unknowns site begun choices next)
