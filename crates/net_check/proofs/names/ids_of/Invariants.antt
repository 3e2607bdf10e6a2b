use Rattle.std.proofs.Common.{◌≡◌, ℕ, List, map, drop}
use Rattle.std.specs.List.{position_from}
use Rattle.std.specs.Option.{option_or}
use Rattle.sefl_syntax.specs.Views.{decl_tree}
use Rattle.net_check.specs.Lookups.{position_at}
use Rattle.net_check.specs.Places.{has_name}
use Rattle.net_check.proofs.names.ids_of.Given as goal

-- what is entered, or else found among what is left, is what is found in the whole
abbrev pub invariant-loop-number : goal.invariant-loop-number
invariant-loop-number l = (name : List ℕ)
    → option_or (position_at l.ids.entries name) (position_from (has_name name) l.number (map decl_tree (drop l.number l.nodes)))
    ≡ position_from (has_name name) 0 (map decl_tree l.nodes)
