use Rattle.net_check.specs.Network.{network}
use Rattle.path_report.proofs.printed.read_printed.Given as goal

-- the net of the report
abbrev pub ghosts-printed_report : goal.ghosts-printed_report
ghosts-printed_report a = record { net = network a.net.now }
