use Rattle.std.proofs.Common.{sym, ap, ◌∙◌}
use Rattle.net_check.specs.Network.{network, tag_number}
use Rattle.std.specs.Prelude.{option_map}
use Rattle.report_names.proofs.Found.{tag_is, own_tag}
use Rattle.report_names.proofs.known.known_tag.Goals as goal

pub returns-clause-name : goal.returns-clause-name
returns-clause-name c =
    tag_is (network c.args.net.now) c.args.text.now c.in-Some.tag (sym (ap (option_map tag_number) (sym c.in-Some.is) ∙ c.in_ok-tag.ensures))

pub returns-clause-own : goal.returns-clause-own
returns-clause-own c =
    own_tag (network c.args.net.now) c.args.text.now c.in-Some.tag (sym (ap (option_map tag_number) (sym c.in-Some.is) ∙ c.in_ok-tag.ensures))
