use Rattle.std.proofs.Common.{◌≡◌, ◌-◌, map}
use Rattle.sefl_syntax.specs.Views.{ask_tree}
use Rattle.sefl_builder.specs.Reading.{many, added}
use Rattle.sefl_builder.specs.Nets.{goes_ask, ask, asks}
use Rattle.sefl_builder.proofs.ask.read_asks.Given as goal

-- what was read, and what is still to be read, are the whole
abbrev pub invariant-loop : goal.invariant-loop
invariant-loop l = added (map ask_tree l.found.items) (many goes_ask ask (l.end - l.counter) l.words) ≡ asks l.fn.words
