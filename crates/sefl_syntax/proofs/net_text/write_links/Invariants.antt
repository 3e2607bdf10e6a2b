use Rattle.std.proofs.Common.{◌≡◌, ◌++◌, drop, string_bytes}
use Rattle.std.specs.List.{flat_map}
use Rattle.sefl_syntax.specs.NetText.{link_text}
use Rattle.sefl_syntax.proofs.net_text.write_links.Given as goal

-- what is written, and the text of what is left, are the whole
abbrev pub invariant-loop-link : goal.invariant-loop-link
invariant-loop-link l =
    string_bytes l.out ++ flat_map link_text (drop l.link-index l.links) ≡ string_bytes l.fn.out ++ flat_map link_text l.links
