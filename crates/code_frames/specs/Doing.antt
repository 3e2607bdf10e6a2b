-- What an instruction does, before the frames that are left.
use Rattle.std.specs.Prelude.{◌≡◌, ℕ, true, false, List, Option, None, Some, Result, Ok, Err}
use Rattle.sn_width.specs.declared.faults.StepFault.{StepFault}
use Rattle.sn_width.specs.declared.faults.StepFault.TheVariants as faults
use Rattle.sn_width.specs.declared.ids.NodeId.{NodeId}
use Rattle.net_check.specs.Network.{Network, network}
use Rattle.sefl_meaning.specs.declared.walk.Failure.TheVariants as failures
use Rattle.sefl_meaning.specs.Carried.{Scene}
use Rattle.sefl_meaning.specs.Values.{Values}
use Rattle.sefl_meaning.specs.Runs.{off, go, forked, failed}
use Rattle.sefl_meaning.specs.Courses.{ends, asks}
use Rattle.code_frames.specs.declared.frame.Frame.{Frame}
use Rattle.code_frames.specs.declared.frame.Move.{Move}
use Rattle.code_frames.specs.declared.frame.Move.TheVariants as moves
use Rattle.code_frames.specs.declared.instrs.Done.{Done}
use Rattle.code_frames.specs.declared.instrs.Done.TheVariants.{On, Runs, Go, Forked, Failed, Asked}
use Rattle.code_frames.specs.declared.instrs.Point.{Point}
use Rattle.code_frames.specs.Frames.{Part, WaitsFor, asking_of, branch_of, course_after, course_frames, of_frame, scene_in}
use Rattle.code_frames.specs.Weights.{frame_weight, question_weight}

abbrev pub scene_of_point : Point → Scene
scene_of_point point = scene_in (network point.net.now) point.node point.iterations

module _ {V F T : Type 0} (o : Values V F) (net : Network) (node : NodeId) (truth : T → F) where
  abbrev pub course_of : Done T → Part V F
  course_of On p = ends p off
  course_of (Runs frame) p = of_frame o net node frame p
  course_of (Go port) p = ends p (go port)
  course_of (Forked ports) p = ends p (forked ports.now)
  course_of (Failed failure site) p = ends p (failed failure site)
  course_of (Asked question test) p =
      asks (asking_of question) p (truth test) (branch_of o net node question true p) (branch_of o net node question false p)

  -- the run goes on with the frames, or has come to a move
  abbrev pub course_on : Option (Move T) → List Frame → Part V F
  course_on None frames p = course_frames o net node frames p
  course_on (Some move) frames p = course_after o net node truth move frames p

module _ {T : Type 0} where
  -- what a step comes to that was taken, or refused, at a site
  abbrev pub Settles : Result (Unit {0}) StepFault → ℕ → Done T → Type 0
  Settles (Ok taken) site done = done ≡ On
  Settles (Err (faults.Layout fault)) site done = done ≡ Failed (failures.Layout fault) site
  Settles (Err faults.NoMemory) site done = ⊥

  -- a test that it asks has the property
  abbrev pub AsksFor : (T → Type 0) → Done T → Type 0
  AsksFor Fit On = Unit {0}
  AsksFor Fit (Runs frame) = Unit {0}
  AsksFor Fit (Go port) = Unit {0}
  AsksFor Fit (Forked ports) = Unit {0}
  AsksFor Fit (Failed failure site) = Unit {0}
  AsksFor Fit (Asked question test) = Fit test

  abbrev pub WaitsIfFor : (T → Type 0) → Option (Move T) → Type 0
  WaitsIfFor Fit None = Unit {0}
  WaitsIfFor Fit (Some move) = WaitsFor Fit move

module _ {T : Type 0} (net : Network) where
  -- of what it puts on the frames, or may put there
  abbrev pub done_weight : Done T → ℕ
  done_weight On = 0
  done_weight (Runs frame) = frame_weight net frame
  done_weight (Go port) = 0
  done_weight (Forked ports) = 0
  done_weight (Failed failure site) = 0
  done_weight (Asked question test) = question_weight net question

  abbrev pub waiting_weight : Option (Move T) → ℕ
  waiting_weight None = 0
  waiting_weight (Some (moves.Ended exit)) = 0
  waiting_weight (Some (moves.Asked question test)) = question_weight net question
