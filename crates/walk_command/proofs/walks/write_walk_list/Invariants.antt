use Rattle.std.proofs.Common.{◌≡◌, ◌++◌, map, drop}
use Rattle.net_check.specs.Network.{network}
use Rattle.sefl_meaning.specs.View.{trail_of}
use Rattle.run_text.specs.Tokens.{tokens_of, ending}
use Rattle.run_text.specs.Forms.{list}
use Rattle.walk_command.specs.WalkTexts.{walk_data}
use Rattle.walk_command.proofs.walks.write_walk_list.Given as goal

-- what was written, and what is left, is the whole
abbrev pub invariant-loop-walk : goal.invariant-loop-walk
invariant-loop-walk l = l.out ++ ending (map (walk_data (network l.net)) (map trail_of (drop l.walk-index l.walks))) ≡ l.fn.out ++ tokens_of (list (map (walk_data (network l.net)) (map trail_of l.walks)))
