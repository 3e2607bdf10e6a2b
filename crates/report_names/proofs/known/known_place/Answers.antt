use Rattle.std.proofs.Common.{sym, ◌∙◌}
use Rattle.net_check.specs.Network.{network}
use Rattle.report_names.proofs.Placing.{place_shows, own_place}
use Rattle.report_names.proofs.known.known_place.Goals as goal

pub returns-clause-text : goal.returns-clause-text
returns-clause-text c = place_shows c.positions_have_names.ensures.some (network c.args.net.now) c.args.text.now c.in-Some.place (sym (sym c.in-Some.is ∙ c.in_ok-place.ensures))

pub returns-clause-own : goal.returns-clause-own
returns-clause-own c = own_place c.positions_have_names.ensures.some (network c.args.net.now) c.args.text.now c.in-Some.place (sym (sym c.in-Some.is ∙ c.in_ok-place.ensures))
