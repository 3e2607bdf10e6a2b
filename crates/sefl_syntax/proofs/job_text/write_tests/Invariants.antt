use Rattle.std.proofs.Common.{◌≡◌, ◌++◌, drop, map, string_bytes}
use Rattle.std.specs.List.{flat_map}
use Rattle.sefl_syntax.specs.JobText.{where_line}
use Rattle.sefl_syntax.specs.Views.{cond_tree}
use Rattle.sefl_syntax.proofs.job_text.write_tests.Given as goal

-- what is written, and the text of what is left, are the whole
abbrev pub invariant-loop-test : goal.invariant-loop-test
invariant-loop-test l =
    string_bytes l.out ++ flat_map where_line (map cond_tree (drop l.test-index l.tests)) ≡ string_bytes l.fn.out ++ flat_map where_line (map cond_tree l.tests)
