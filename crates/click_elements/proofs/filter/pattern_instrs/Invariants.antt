use Rattle.std.proofs.Common.{◌≡◌, ◌++◌, map, drop}
use Rattle.sefl_syntax.specs.Views.{instr_tree}
use Rattle.click_elements.specs.Classes.{seen_pattern}
use Rattle.click_elements.specs.Codes.{pattern_instrs}
use Rattle.click_elements.proofs.filter.pattern_instrs.Given as goal

abbrev pub invariant-loop-port : goal.invariant-loop-port
invariant-loop-port l =
    map instr_tree l.code.items ++ pattern_instrs l.port (map seen_pattern (drop l.port l.patterns))
    ≡ pattern_instrs 0 (map seen_pattern l.patterns)
