use Rattle.std.proofs.Common.{◌≡◌, ◌++◌, drop, length, map}
use Rattle.std.specs.List.{AllByRecursion}
use Rattle.net_check.specs.Network.{entry, network}
use Rattle.exact_records.specs.View.{record_trees}
use Rattle.path_questions.specs.Formulas.{explored}
use Rattle.compare_meaning.specs.Paths.{delivered_from}
use Rattle.net_compare.specs.Delivering.{AreStatesOf}
use Rattle.net_compare.specs.Facings.{IsSound}
use Rattle.net_compare.specs.Saying.{seen_path}
use Rattle.net_compare.proofs.deliveries.deliveries_of.Given as goal

-- with those of the records that are left, numbered on, there are those of all; the states behind those of the paths so far are theirs
abbrev pub invariant-loop-record : goal.invariant-loop-record
invariant-loop-record l = record {
  paths : map seen_path l.list.items
      ++ delivered_from (network l.net) (explored (network l.net) (entry l.injection) l.hops) l.number (record_trees (drop l.record-index l.records))
      ≡ delivered_from (network l.net) (explored (network l.net) (entry l.injection) l.hops) 0 (record_trees l.records);
  sound : AllByRecursion IsSound l.list.items;
  states : AreStatesOf (explored (network l.net) (entry l.injection) l.hops) (record_trees (drop l.record-index l.records)) (drop (length l.list.items) l.states);
}
