use Rattle.std.proofs.Common.{◌≡◌, ◌-◌}
use Rattle.sefl_builder.specs.Reading.{many, added}
use Rattle.sefl_builder.specs.Nets.{goes_link, link, links}
use Rattle.sefl_builder.proofs.net.read_links.Given as goal

-- what was read, and what is still to be read, are the whole
abbrev pub invariant-loop : goal.invariant-loop
invariant-loop l = added l.found.items (many goes_link link (l.end - l.counter) l.words) ≡ links l.fn.words
