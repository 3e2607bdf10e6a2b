use Rattle.std.proofs.Common.{◌≡◌, take}
use Rattle.code_frames.proofs.frame.copied.Given as goal

-- those so far
abbrev pub invariant-loop-frame : goal.invariant-loop-frame
invariant-loop-frame l = l.copy.items ≡ take l.frame-index l.frames
