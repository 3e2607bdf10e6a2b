use Rattle.net_check.specs.Network.{entry, network}
use Rattle.path_questions.specs.Formulas.{explored}
use Rattle.net_compare.proofs.exploring.explore.Given as goal

-- what this call explores
abbrev pub ghosts-gather : goal.ghosts-gather
ghosts-gather g a = record { start = explored (network a.net.now) (entry a.injection.now) a.hops }
