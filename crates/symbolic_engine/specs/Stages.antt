-- What comes where a run goes on, and where it waits.
use Rattle.std.specs.Prelude.{ℕ, Bool, true, false, List, reverse, Option, option_map}
use Rattle.sn_width.specs.declared.ids.NodeId.{NodeId}
use Rattle.lin_term.specs.Terms.{LinearTerm}
use Rattle.path_formula.specs.Formulas.{FormulaTree}
use Rattle.path_formula.specs.TypeTests.{is_typed}
use Rattle.path_formula.specs.View.{view}
use Rattle.sefl_syntax.specs.declared.net.Side.{Side}
use Rattle.sefl_syntax.specs.declared.net.Side.TheVariants.{Inward, Outward}
use Rattle.net_check.specs.Network.{Network}
use Rattle.sefl_meaning.specs.declared.walk.End.TheVariants.{Cut as CutShort}
use Rattle.sefl_meaning.specs.Network.{link_of}
use Rattle.sefl_meaning.specs.Runs.{Exit, Progress}
use Rattle.sefl_meaning.specs.Trees.{Onward, copies, crossed, enter, leave, over, passed, splits, tests, then_tree}
use Rattle.term_values.specs.TermValues.{terms}
use Rattle.code_frames.specs.declared.frame.Exit.{Exit as Left}
use Rattle.code_frames.specs.declared.frame.Frame.{Frame}
use Rattle.code_frames.specs.declared.frame.Question.{Question}
use Rattle.code_frames.specs.Frames.{asking_of, course_behind, course_left, exit_of}
use Rattle.sym_state.specs.Symbolic.{Symbolic}
use Rattle.exact_records.specs.Records.{SymTree}
use Rattle.symbolic_engine.specs.declared.stage.Running.{Running}
use Rattle.symbolic_engine.specs.declared.stage.Stage.{Stage}
use Rattle.symbolic_engine.specs.declared.stage.Stage.TheVariants.{Entering, Leaving, Inside, Cut}
use Rattle.symbolic_engine.specs.declared.stage.Wait.{Wait}
use Rattle.symbolic_engine.specs.declared.stage.Wait.TheVariants.{Asked, Forked}
use Rattle.symbolic_engine.specs.Origins.{progress_in}

-- the formula that is waited for is one of the state's symbols; of copies there is none
abbrev pub has_typed_test : Symbolic → Wait → Bool
has_typed_test x (Asked running question test frames) = is_typed x.condition.widths (view test)
has_typed_test x (Forked node hops ports) = true

-- the exit that an answer gave, if it gave one
abbrev pub left_seen : Option Left → Option Exit
left_seen left = option_map exit_of left

module _ (net : Network) where
  -- from input ports, with this many unknown fields and this many hops left
  abbrev pub onward_of : ℕ → ℕ → Onward LinearTerm FormulaTree
  onward_of unknowns hops = enter (terms unknowns) net hops

  -- from a port, with this many hops left; at an output port those behind its link
  abbrev pub from_port : ℕ → Side → ℕ → Onward LinearTerm FormulaTree
  from_port unknowns Inward hops = onward_of unknowns hops
  from_port unknowns Outward hops = leave (terms unknowns) net (onward_of unknowns hops)

  abbrev pub behind_side : ℕ → NodeId → ℕ → ℕ → Side → Exit → Progress LinearTerm → SymTree
  behind_side unknowns node port hops Inward exit p = passed (terms unknowns) net (onward_of unknowns hops) node exit p
  behind_side unknowns node port hops Outward exit p = crossed (terms unknowns) net (onward_of unknowns hops) (link_of net node port) exit p

  -- behind the code of a port
  abbrev pub behind_running : ℕ → Running → Exit → Progress LinearTerm → SymTree
  behind_running unknowns running = behind_side unknowns running.node running.port running.hops running.side

  -- in the code of a port: what is left of it, or the exit that it has come to, and then what is behind it
  abbrev pub inside_tree : Running → Option Left → List Frame → Symbolic → ℕ → SymTree
  inside_tree running left frames x begun =
      then_tree (course_left (terms x.unknowns) net running.node left frames (progress_in x begun)) (behind_running x.unknowns running)

  -- what comes where the test of the question has this truth
  abbrev pub side_tree : Running → Question → List Frame → Bool → Symbolic → ℕ → SymTree
  side_tree running question frames holds x begun =
      then_tree (course_behind (terms x.unknowns) net running.node question holds frames (progress_in x begun)) (behind_running x.unknowns running)

  -- what comes at a stage
  abbrev pub stage_tree : Stage → Symbolic → ℕ → SymTree
  stage_tree (Entering node port hops) x begun = onward_of x.unknowns hops node port (progress_in x begun)
  stage_tree (Leaving node port hops) x begun = leave (terms x.unknowns) net (onward_of x.unknowns hops) node port (progress_in x begun)
  stage_tree (Inside running left frames) x begun = inside_tree running left (reverse frames.items) x begun
  stage_tree Cut x begun = over (progress_in x begun) CutShort

  -- the node where it waits
  abbrev pub wait_tree : Wait → Symbolic → ℕ → SymTree
  wait_tree (Asked running question test frames) x begun =
      tests (asking_of question) (progress_in x begun) (view test)
      (side_tree running question (reverse frames.items) true x begun) (side_tree running question (reverse frames.items) false x begun)
  wait_tree (Forked node hops ports) x begun =
      splits (progress_in x begun) (copies (terms x.unknowns) net (onward_of x.unknowns hops) node ports.now (progress_in x begun))
