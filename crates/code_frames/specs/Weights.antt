-- A number that falls with each step of the run of code, whatever is carried.
use Rattle.std.specs.Prelude.{ℕ, ◌+◌, ◌*◌, ◌<◌, List, [], ◌∷◌, length}
use Rattle.sefl_syntax.specs.Trees.{InstrTree, CodeTree, allocate, deallocate, assign, assign_any, create_tag, set_tag, destroy_tag, constrain, fail, branch, each, forward, fork, block, no_op, no_code, instr_and}
use Rattle.sefl_syntax.specs.Views.{code_tree}
use Rattle.net_check.specs.Network.{Network, names_found}
use Rattle.code_frames.specs.declared.frame.Frame.{Frame}
use Rattle.code_frames.specs.declared.frame.Frame.TheVariants.{Code, Iterations}
use Rattle.code_frames.specs.declared.frame.Question.{Question}
use Rattle.code_frames.specs.declared.frame.Question.TheVariants.{If, Constrain}
use Rattle.code_frames.specs.declared.frame.Move.{Move}
use Rattle.code_frames.specs.declared.frame.Move.TheVariants.{Ended, Asked}

-- of this many iterations, where the body has this weight
abbrev pub iterations_weight : ℕ → ℕ → ℕ
iterations_weight iterations body = 1 + iterations * (1 + body)

module _ (net : Network) where
  abbrev mutual
    -- a For has at most two iterations for each name that its pattern finds: a global and a local
    pub instr_weight : InstrTree → ℕ
    instr_weight (branch test first other) = 1 + code_weight first + code_weight other
    instr_weight (each var pattern body) = 1 + iterations_weight (2 * length (names_found net pattern)) (code_weight body)
    instr_weight (block body) = 1 + code_weight body
    instr_weight (allocate target) = 1
    instr_weight (deallocate target) = 1
    instr_weight (assign target value) = 1
    instr_weight (assign_any target) = 1
    instr_weight (create_tag name addr) = 1
    instr_weight (set_tag name addr) = 1
    instr_weight (destroy_tag name) = 1
    instr_weight (constrain test) = 1
    instr_weight (fail text) = 1
    instr_weight (forward port) = 1
    instr_weight (fork ports) = 1
    instr_weight no_op = 1

    pub code_weight : CodeTree → ℕ
    code_weight no_code = 1
    code_weight (instr_and i is) = instr_weight i + code_weight is

  abbrev pub frame_weight : Frame → ℕ
  frame_weight (Code iterations site code) = code_weight (code_tree code.now)
  frame_weight (Iterations iterations var site body keys) = iterations_weight (length keys) (code_weight (code_tree body.now))

  abbrev pub frames_weight : List Frame → ℕ
  frames_weight [] = 0
  frames_weight (frame ∷ frames) = frame_weight frame + frames_weight frames

  -- of what a question may put on the frames
  abbrev pub question_weight : Question → ℕ
  question_weight (If iterations site first other) = code_weight (code_tree first.now) + code_weight (code_tree other.now)
  question_weight (Constrain site) = 0

  -- where it asks, what is left and what the question may put on it are less than what was there
  abbrev pub IsBelow : {T : Type 0} → Move T → ℕ → ℕ → Type 0
  IsBelow (Ended exit) new old = Unit {0}
  IsBelow (Asked question test) new old = question_weight question + new < old
