-- What a decision makes of a node.
use Rattle.std.specs.Prelude.{ℕ, ◌≡◌, ◌<◌, Bool, length, reverse, Option, None, Some, option_map}
use Rattle.lin_term.specs.Terms.{LinearTerm}
use Rattle.path_formula.specs.Formulas.{FormulaTree}
use Rattle.path_formula.specs.declared.formula.Formula.{Formula}
use Rattle.path_formula.specs.View.{view}
use Rattle.net_check.specs.Network.{Network}
use Rattle.sefl_meaning.specs.declared.walk.Decision.{Decision}
use Rattle.sefl_meaning.specs.Routes.{number_of, truth_of}
use Rattle.sefl_meaning.specs.Trees.{Copies, copies}
use Rattle.term_values.specs.TermValues.{terms}
use Rattle.code_frames.specs.declared.frame.Question.{Question}
use Rattle.code_frames.specs.declared.frame.Question.TheVariants as questions
use Rattle.code_frames.specs.Frames.{asking_of}
use Rattle.sym_state.specs.Symbolic.{Symbolic, decided, with_decision}
use Rattle.exact_records.specs.Records.{SymTree}
use Rattle.exact_records.specs.Points.{copy_at}
use Rattle.path_exec.specs.declared.engine.Offer.{Offer}
use Rattle.path_exec.specs.declared.engine.Offer.TheVariants.{If, Constrain}
use Rattle.symbolic_engine.specs.declared.stage.Stage.{Stage}
use Rattle.symbolic_engine.specs.declared.stage.Wait.{Wait}
use Rattle.symbolic_engine.specs.declared.stage.Wait.TheVariants.{Asked, Forked}
use Rattle.symbolic_engine.specs.Origins.{progress_in}
use Rattle.symbolic_engine.specs.Stages.{onward_of, side_tree, stage_tree}

-- there is a copy of this number
pub record IsCopyOf (count : ℕ) (d : Decision) : Type 0 where
  pub number : ℕ
  pub is : number_of d ≡ Some number
  pub below : number < count

-- it waits for the decision
abbrev pub IsAwaited : Wait → Decision → Type 0
IsAwaited (Asked running question test frames) d = (truth : Bool) × (truth_of (asking_of question) d ≡ Some truth)
IsAwaited (Forked node hops ports) d = IsCopyOf (length ports.now) d

-- the second state is the first behind the decision
abbrev pub IsNoted : Wait → Symbolic → Decision → Symbolic → Type 0
IsNoted (Asked running question test frames) x d y = (formula : Formula) × (view formula ≡ view test) × (y ≡ decided x formula d)
IsNoted (Forked node hops ports) x d y = y ≡ with_decision x d

abbrev pub copy_of : Copies LinearTerm FormulaTree → Option ℕ → Option SymTree
copy_of branches None = None
copy_of branches (Some number) = copy_at branches number

module _ (net : Network) where
  -- what comes behind the decision
  abbrev pub tree_behind : Wait → Symbolic → ℕ → Decision → Option SymTree
  tree_behind (Asked running question test frames) x begun d =
      option_map (λ truth. side_tree net running question (reverse frames.items) truth x begun) (truth_of (asking_of question) d)
  tree_behind (Forked node hops ports) x begun d =
      copy_of (copies (terms x.unknowns) net (onward_of net x.unknowns hops) node ports.now (progress_in x begun)) (number_of d)

  -- the stage is that behind the decision, whatever is carried
  abbrev pub IsStageBehind : Wait → Decision → Stage → Type 0
  IsStageBehind wait d stage = (x : Symbolic) (begun : ℕ) → tree_behind wait x begun d ≡ Some (stage_tree net stage x begun)

-- what a question offers
abbrev pub offer_of : Question → Offer
offer_of (questions.If iterations site first other) = If
offer_of (questions.Constrain site) = Constrain
