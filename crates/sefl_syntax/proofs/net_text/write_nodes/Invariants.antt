use Rattle.std.proofs.Common.{◌≡◌, ◌++◌, drop, map, string_bytes}
use Rattle.std.specs.List.{flat_map}
use Rattle.sefl_syntax.specs.NetText.{decl_text}
use Rattle.sefl_syntax.specs.Views.{decl_tree}
use Rattle.sefl_syntax.proofs.net_text.write_nodes.Given as goal

-- what is written, and the text of what is left, are the whole
abbrev pub invariant-loop-node : goal.invariant-loop-node
invariant-loop-node l =
    string_bytes l.out ++ flat_map decl_text (map decl_tree (drop l.node-index l.nodes)) ≡ string_bytes l.fn.out ++ flat_map decl_text (map decl_tree l.nodes)
