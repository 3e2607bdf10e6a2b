use Rattle.std.proofs.Common.{◌≡◌, ◌++◌, drop, string_bytes}
use Rattle.sefl_syntax.specs.TermText.{more_ranges_text, ranges_text}
use Rattle.sefl_syntax.proofs.cond.write_ranges.Given as goal

-- what is written, and the text of what is left, are the whole
abbrev pub invariant-loop-range : goal.invariant-loop-range
invariant-loop-range l =
    string_bytes l.out ++ more_ranges_text (drop l.range-index l.rest) ≡ string_bytes l.fn.out ++ ranges_text l.ranges
