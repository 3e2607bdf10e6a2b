use Rattle.std.proofs.Common.{ℕ, List, ◌++◌, drop}
use Rattle.sn_edge.specs.Told.{PatternsKept}
use Rattle.sn_width.specs.declared.ids.NameId.{NameId}
use Rattle.pattern_answers.specs.Answers.{lists_of}
use Rattle.pattern_answers.specs.Asking.{IsStep, AsksAll, AsksToRefusal}
use Rattle.pattern_answers.proofs.answers.ask_patterns.Given as goal

-- however the patterns that are left are answered, all are answered so behind what was found; and so they are refused
abbrev pub invariant-loop-index : goal.invariant-loop-index
invariant-loop-index g l =
    let told = g.P.Patterns.told in
    let step = IsStep told g.P.Patterns.find_gives in
    record {
      kept : PatternsKept (told l.fn.patterns) (told l.patterns);
      asks : (lists : List (List NameId)) (t : _) → AsksAll step l.names.metas l.patterns (drop l.index l.names.patterns) lists t
          → AsksAll step l.names.metas l.fn.patterns l.names.patterns (lists_of l.lists.items ++ lists) t;
      refuses : (site : ℕ) (t : _) → AsksToRefusal step l.names.metas l.patterns (drop l.index l.names.patterns) site t
          → AsksToRefusal step l.names.metas l.fn.patterns l.names.patterns site t;
    }
