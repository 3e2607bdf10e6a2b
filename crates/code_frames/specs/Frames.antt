-- The course of code that is still to run, as frames.
use Rattle.std.specs.Prelude.{◌≡◌, ◌+◌, ℕ, suc, Bool, true, false, List, [], ◌∷◌, Option, None, Some}
use Rattle.sn_width.specs.declared.ids.NodeId.{NodeId}
use Rattle.sefl_syntax.specs.Trees.{CodeTree}
use Rattle.sefl_syntax.specs.Views.{code_tree}
use Rattle.sefl_meaning.specs.declared.walk.Iteration.{Iteration}
use Rattle.sefl_meaning.specs.declared.walk.Failure.TheVariants.{Constraint}
use Rattle.sefl_meaning.specs.Network.{Network, code_size}
use Rattle.sefl_meaning.specs.Values.{Values}
use Rattle.sefl_meaning.specs.Carried.{Carried, Scene, Key}
use Rattle.sefl_meaning.specs.Runs as runs
use Rattle.sefl_meaning.specs.Runs.{off, go, forked, failed, in_iteration}
use Rattle.sefl_meaning.specs.Courses.{Asking, at_if, at_constrain, Progress, Course, ends, asks, after, course_code, course_iterations}
use Rattle.code_frames.specs.declared.frame.Frame.{Frame}
use Rattle.code_frames.specs.declared.frame.Frame.TheVariants.{Code, Iterations}
use Rattle.code_frames.specs.declared.frame.Exit.{Exit}
use Rattle.code_frames.specs.declared.frame.Exit.TheVariants.{Off, Go, Forked, Failed}
use Rattle.code_frames.specs.declared.frame.Question.{Question}
use Rattle.code_frames.specs.declared.frame.Question.TheVariants.{If, Constrain}
use Rattle.code_frames.specs.declared.frame.Move.{Move}
use Rattle.code_frames.specs.declared.frame.Move.TheVariants.{Ended, Asked}

abbrev pub exit_of : Exit → runs.Exit
exit_of Off = off
exit_of (Go port) = go port
exit_of (Forked ports) = forked ports.now
exit_of (Failed failure site) = failed failure site

abbrev pub asking_of : Question → Asking
asking_of (If iterations site first other) = at_if
asking_of (Constrain site) = at_constrain

-- what is carried, behind these choices and this many instructions
abbrev pub progress_at : {V : Type 0} → Carried V → List ℕ → ℕ → Progress V
progress_at s choices begun = record { state = s; choices = choices; begun = begun }

-- in these iterations of Fors, the innermost first
abbrev pub scene_in : Network → NodeId → List Iteration → Scene
scene_in net node iterations = record { net = net; node = node; iterations = iterations }

-- what is still to run, whatever is carried
abbrev pub Part : Type 0 → Type 0 → Type 0
Part V F = Progress V → Course V F

module _ {V F : Type 0} (o : Values V F) (net : Network) (node : NodeId) where
  -- code in these iterations; its first instruction has the site
  abbrev pub of_code : List Iteration → ℕ → CodeTree → Part V F
  of_code iterations site code p = course_code o (scene_in net node iterations) site code p

  -- the body of a For, once for each of these keys
  abbrev pub of_iterations : List Iteration → List ℕ → ℕ → CodeTree → List Key → Part V F
  of_iterations iterations var site body keys p =
      course_iterations (λ key q. course_code o (in_iteration (scene_in net node iterations) var key) site body q) keys p

  abbrev pub of_frame : Frame → Part V F
  of_frame (Code iterations site code) = of_code iterations site (code_tree code.now)
  of_frame (Iterations iterations var site body keys) = of_iterations iterations var.now site (code_tree body.now) keys

  -- the first frame, and then the others
  abbrev pub course_frames : List Frame → Part V F
  course_frames [] p = ends p off
  course_frames (frame ∷ frames) p = after (of_frame frame p) (course_frames frames)

  -- what the asking instruction runs where its test has this truth
  abbrev pub branch_of : Question → Bool → Part V F
  branch_of (If iterations site first other) true p = of_code iterations (suc site) (code_tree first.now) p
  branch_of (If iterations site first other) false p =
      of_code iterations (suc site + code_size (code_tree first.now)) (code_tree other.now) p
  branch_of (Constrain site) true p = ends p off
  branch_of (Constrain site) false p = ends p (failed Constraint site)

  -- and then the frames
  abbrev pub course_behind : Question → Bool → List Frame → Part V F
  course_behind question holds frames p = after (branch_of question holds p) (course_frames frames)

  -- what a move says, with the frames that are left
  abbrev pub course_after : {T : Type 0} → (T → F) → Move T → List Frame → Part V F
  course_after truth (Ended exit) frames p = ends p (exit_of exit)
  course_after truth (Asked question test) frames p =
      asks (asking_of question) p (truth test) (course_behind question true frames p) (course_behind question false frames p)

  -- at an answer: an end, or the frames that are left
  abbrev pub course_left : Option Exit → List Frame → Part V F
  course_left None frames p = course_frames frames p
  course_left (Some exit) frames p = ends p (exit_of exit)

-- where the run waits, its test has the property
abbrev pub WaitsFor : {T : Type 0} → (T → Type 0) → Move T → Type 0
WaitsFor Fit (Ended exit) = Unit {0}
WaitsFor Fit (Asked question test) = Fit test

-- from what is carried on, where this many instructions have begun
abbrev pub from : {V F : Type 0} → Part V F → Carried V → List ℕ → ℕ → Course V F
from part s choices begun = part (progress_at s choices begun)

-- The counter has risen, and whatever had begun before, the course of the whole is that of what is left, with as many more as it rose.
pub record GoesOn {C : Type 0} (old new : ℕ) (whole left : ℕ → C) : Type 0 where
  pub taken : ℕ
  pub counted : new ≡ old + taken
  pub same : (begun : ℕ) → left (begun + taken) ≡ whole begun
