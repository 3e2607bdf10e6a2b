-- Nodes that wait for the truth of a test.
use Rattle.std.proofs.Common.{◌≡◌, sym, subst}
use Rattle.lin_term.specs.Terms.{LinearTerm}
use Rattle.path_formula.specs.Formulas.{FormulaTree}
use Rattle.sefl_meaning.specs.Courses.{Progress}
use Rattle.sefl_meaning.specs.Trees.{tests}
use Rattle.code_frames.specs.declared.frame.Question.{Question}
use Rattle.code_frames.specs.declared.frame.Question.TheVariants.{If, Constrain}
use Rattle.code_frames.specs.Frames.{asking_of}
use Rattle.exact_records.specs.Records.{SymTree}
use Rattle.path_exec.specs.declared.engine.Offer.{Offer}
use Rattle.path_exec.specs.Offers.{IsNode}
use Rattle.symbolic_engine.specs.Turning.{offer_of}

asks_node : (question : Question) (t : SymTree) (p : Progress LinearTerm) (test : FormulaTree) (held broken : SymTree)
    → t ≡ tests (asking_of question) p test held broken → IsNode (offer_of question) t
asks_node (If iterations site first other) t p test held broken is = record { progress = p; test = test; held = held; broken = broken; is = is }
asks_node (Constrain site) t p test held broken is = record { progress = p; test = test; held = held; broken = broken; is = is }

-- a node of a test waits at the instruction of the question
pub asking_node : (question : Question) (offer : Offer) (t : SymTree) (p : Progress LinearTerm) (test : FormulaTree) (held broken : SymTree)
    → offer ≡ offer_of question → t ≡ tests (asking_of question) p test held broken → IsNode offer t
asking_node question offer t p test held broken e is = subst (λ (o : Offer). IsNode o t) (sym e) (asks_node question t p test held broken is)
