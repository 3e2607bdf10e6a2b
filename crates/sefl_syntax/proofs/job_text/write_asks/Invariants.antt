use Rattle.std.proofs.Common.{◌≡◌, ◌++◌, drop, map, string_bytes}
use Rattle.std.specs.List.{flat_map}
use Rattle.sefl_syntax.specs.JobText.{ask_text}
use Rattle.sefl_syntax.specs.Views.{ask_tree}
use Rattle.sefl_syntax.proofs.job_text.write_asks.Given as goal

-- what is written, and the text of what is left, are the whole
abbrev pub invariant-loop-ask : goal.invariant-loop-ask
invariant-loop-ask l =
    string_bytes l.out ++ flat_map ask_text (map ask_tree (drop l.ask-index l.asks)) ≡ string_bytes l.fn.out ++ flat_map ask_text (map ask_tree l.asks)
