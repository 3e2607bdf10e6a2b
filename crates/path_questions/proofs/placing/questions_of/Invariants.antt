use Rattle.std.proofs.Common.{◌≡◌, map, take}
use Rattle.sefl_syntax.specs.Views.{ask_tree}
use Rattle.net_check.specs.Network.{entry, network}
use Rattle.path_questions.specs.Asked.{AreAsked}
use Rattle.path_questions.proofs.placing.questions_of.Given as goal

-- the first words ask the questions so far
abbrev pub invariant-loop-ask : goal.invariant-loop-ask
invariant-loop-ask l =
    record {
      counted : l.number ≡ l.ask-index;
      asked : AreAsked (network l.net) (entry l.injection) (take l.ask-index (map ask_tree l.asks)) l.questions.items;
    }
