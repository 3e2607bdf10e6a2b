use Rattle.std.proofs.Common.{drop, map}
use Rattle.std.specs.List.{AllByRecursion}
use Rattle.net_compare.specs.Clashing.{IsWithin}
use Rattle.net_compare.specs.Saying.{seen_path}
use Rattle.net_compare.proofs.clashes.are_within.Given as goal

-- all are within where those that are left are, and the other way
abbrev pub invariant-loop-path : goal.invariant-loop-path
invariant-loop-path l = record {
  all : AllByRecursion (IsWithin l.longest.widths) (map seen_path (drop l.path-index l.paths)) → AllByRecursion (IsWithin l.longest.widths) (map seen_path l.paths);
  rest : AllByRecursion (IsWithin l.longest.widths) (map seen_path l.paths) → AllByRecursion (IsWithin l.longest.widths) (map seen_path (drop l.path-index l.paths));
}
