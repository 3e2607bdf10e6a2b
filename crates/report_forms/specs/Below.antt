-- What the laws of the crates below say of a net and an injection.
use Rattle.std.specs.Prelude.{◌≡◌, ℕ, List, ◌++◌, IfOk, Ok}
use Rattle.sn_width.specs.declared.ids.NodeId.{NodeId}
use Rattle.lin_term.specs.Terms.{LinearTerm}
use Rattle.path_formula.specs.Formulas.{FormulaTree}
use Rattle.net_check.specs.Sound.{AreOfOneJob, IsAcceptedNet}
use Rattle.sefl_meaning.specs.Network.{Network, Entry}
use Rattle.sefl_meaning.specs.Carried.{Carried, scene_at}
use Rattle.sefl_meaning.specs.Ids.{CarriesOwn, HasOwnIds, IsNode}
use Rattle.sefl_meaning.specs.Injected.{injected, unknown_count, unknown_widths}
use Rattle.sefl_meaning.specs.Runs.{Progress}
use Rattle.sefl_meaning.specs.Trees.{enter}
use Rattle.sefl_meaning.specs.Valued.{CarriedFits, Fits, TreeTyped}
use Rattle.term_values.specs.Fits.{typed_fits}
use Rattle.term_values.specs.TermValues.{terms}

pub record Below (net : Network) (i : Entry) : Type 0 where
  -- what is injected, and what comes from there, names the net's own
  pub injection : AreOfOneJob net i → (s : Carried LinearTerm) → injected (terms (unknown_count i)) (scene_at net i.node) i.own ≡ Ok s
      → IsNode net i.node × CarriesOwn net s
  pub trees : IsAcceptedNet net → (hops port : ℕ) (node : NodeId) (p : Progress LinearTerm) → IsNode net node → CarriesOwn net p.state
      → HasOwnIds {V = LinearTerm} {F = FormulaTree} net (enter (terms (unknown_count i)) net hops node port p)
  -- and has values of the widths of its cells
  pub typed_injection : IfOk (injected (terms (unknown_count i)) (scene_at net i.node) i.own) (CarriedFits (typed_fits (unknown_widths i.own.fields)))
  pub typed_trees : (hops port : ℕ) (node : NodeId) (p : Progress LinearTerm)
      → CarriedFits (typed_fits (unknown_widths i.own.fields ++ p.choices)) p.state
      → TreeTyped typed_fits (unknown_widths i.own.fields) (enter (terms (unknown_count i)) net hops node port p)
  pub width : (widths : List ℕ) (w : ℕ) (t : LinearTerm) → Fits (typed_fits widths) w t → t.width ≡ w
