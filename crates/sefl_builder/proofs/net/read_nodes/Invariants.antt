use Rattle.std.proofs.Common.{◌≡◌, ◌-◌, map}
use Rattle.sefl_syntax.specs.Views.{decl_tree}
use Rattle.sefl_builder.specs.Reading.{many, added}
use Rattle.sefl_builder.specs.Nets.{goes_decl, decl, nodes}
use Rattle.sefl_builder.proofs.net.read_nodes.Given as goal

-- what was read, and what is still to be read, are the whole
abbrev pub invariant-loop : goal.invariant-loop
invariant-loop l = added (map decl_tree l.found.items) (many goes_decl (decl l.version) (l.end - l.counter) l.words) ≡ nodes l.version l.fn.words
