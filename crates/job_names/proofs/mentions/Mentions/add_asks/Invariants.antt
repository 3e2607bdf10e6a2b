use Rattle.std.proofs.Common.{◌≡◌, drop, fold, map}
use Rattle.sefl_syntax.specs.Views.{ask_tree}
use Rattle.job_names.specs.Lent.{noted_by}
use Rattle.job_names.specs.Noted.{noted_ask}
use Rattle.job_names.proofs.mentions.Mentions.add_asks.Given as goal

abbrev pub invariant-loop-ask : goal.invariant-loop-ask
invariant-loop-ask l = fold noted_ask (noted_by l.self) (map ask_tree (drop l.ask-index l.asks)) ≡ fold noted_ask (noted_by l.fn.self) (map ask_tree l.asks)
