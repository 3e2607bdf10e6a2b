use Rattle.std.proofs.Common.{◌≡◌, ◌++◌, map, reverse, length}
use Rattle.refutation_check.specs.Agenda.{alternative_with}
use Rattle.refutation_check.proofs.agenda.Agenda.push_cases.Given as goal

-- the cases that are left, before the alternatives so far
abbrev pub invariant-loop-case : goal.invariant-loop-case
invariant-loop-case l = record {
  all : map (alternative_with l.kept) l.initial.cases.items ++ reverse l.initial.self.alternatives.items
      ≡ map (alternative_with l.kept) l.cases.items ++ reverse l.self.alternatives.items;
  gathered : l.self.gathered ≡ l.initial.self.gathered;
}

abbrev pub decreases-loop-case : goal.decreases-loop-case
decreases-loop-case l = length l.cases.items
