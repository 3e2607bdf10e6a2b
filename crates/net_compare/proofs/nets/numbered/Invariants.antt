use Rattle.std.proofs.Common.{◌≡◌, ◌++◌, drop, map}
use Rattle.net_compare.specs.Clashing.{numbered_path, shifted}
use Rattle.net_compare.specs.Saying.{seen_path}
use Rattle.net_compare.proofs.nets.numbered.Given as goal

-- with those that are left there are all of the left net
abbrev pub invariant-loop-path : goal.invariant-loop-path
invariant-loop-path l = map numbered_path l.both.items ++ map seen_path (drop l.path-index l.lefts) ≡ map seen_path l.lefts

-- and then those of the right one
abbrev pub invariant-loop-path-2 : goal.invariant-loop-path-2
invariant-loop-path-2 l =
    map numbered_path l.both.items ++ map (shifted l.shift) (map seen_path (drop l.path-index l.rights))
    ≡ map seen_path l.lefts ++ map (shifted l.shift) (map seen_path l.rights)
