use Rattle.net_check.specs.Network.{network}
use Rattle.replay_command.proofs.replay.text_of_report.Given as goal

-- the net of the job
abbrev pub ghosts-text_of_printed : goal.ghosts-text_of_printed
ghosts-text_of_printed a = record { net = network a.net.now }
