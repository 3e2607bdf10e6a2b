use Rattle.std.proofs.Common.{◌≡◌, ◌++◌, drop}
use Rattle.kept_texts.proofs.list.KeptList.follow.Given as goal

-- what was followed, and what is left, is the whole
abbrev pub invariant-loop-member : goal.invariant-loop-member
invariant-loop-member g l = l.self ++ drop l.member-index l.rest ≡ l.list
