use Rattle.std.proofs.Common.{List, ◌++◌, drop}
use Rattle.sn_edge.specs.Told.{PatternsKept}
use Rattle.sn_width.specs.declared.ids.NameId.{NameId}
use Rattle.pattern_answers.specs.Asking.{IsStep, AsksNames, IsRefused}
use Rattle.pattern_answers.proofs.answers.ask_names.Given as goal

-- however the names that are left are answered, all are answered so behind what was found; and so they are refused
abbrev pub invariant-loop-id : goal.invariant-loop-id
invariant-loop-id g l =
    let told = g.P.Patterns.told in
    let step = IsStep told g.P.Patterns.find_gives in
    record {
      kept : PatternsKept (told l.fn.patterns) (told l.patterns);
      asks : (ids : List NameId) (t : _) → AsksNames step l.pattern l.patterns l.id (drop l.id l.names.metas) ids t
          → AsksNames step l.pattern l.fn.patterns 0 l.names.metas (l.ids.items ++ ids) t;
      refuses : (t : _) → IsRefused step l.pattern l.patterns (drop l.id l.names.metas) t → IsRefused step l.pattern l.fn.patterns l.names.metas t;
    }
