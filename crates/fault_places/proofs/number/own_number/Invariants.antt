use Rattle.std.proofs.Common.{◌≡◌, map, drop}
use Rattle.sefl_syntax.specs.Views.{decl_tree}
use Rattle.fault_places.specs.Numbers.{number_from, own_number}
use Rattle.fault_places.proofs.number.own_number.Given as goal

abbrev pub invariant-loop-index : goal.invariant-loop-index
invariant-loop-index l =
    number_from l.site l.number l.begin (map decl_tree (drop l.index l.own)) (map decl_tree (drop l.index l.filled))
    ≡ own_number l.site (map decl_tree l.own) (map decl_tree l.filled)
