use Rattle.std.proofs.Common.{◌≡◌, drop}
use Rattle.std.specs.List.{list_all}
use Rattle.path_cond.specs.Conditions.{entry_holds}
use Rattle.path_cond.proofs.domain.all_hold.Given as goal

abbrev pub invariant-loop-pick : goal.invariant-loop-pick
invariant-loop-pick l = list_all (entry_holds l.values) l.entries ≡ list_all (entry_holds l.values) (drop l.pick l.entries)
