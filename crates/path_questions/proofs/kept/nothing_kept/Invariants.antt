use Rattle.std.proofs.Common.{◌≡◌, length}
use Rattle.std.specs.List.{AllByRecursion}
use Rattle.path_questions.specs.Known.{IsNothing}
use Rattle.path_questions.proofs.kept.nothing_kept.Given as goal

-- as many as were counted so far, and nothing of each
abbrev pub invariant-loop : goal.invariant-loop
invariant-loop l =
    record {
      counted : length l.kept.items ≡ l.counter;
      open' : AllByRecursion IsNothing l.kept.items;
    }
