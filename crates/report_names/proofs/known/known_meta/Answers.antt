use Rattle.std.proofs.Common.{sym, ap, ◌∙◌}
use Rattle.net_check.specs.Network.{network, name_number}
use Rattle.std.specs.Prelude.{option_map}
use Rattle.report_names.proofs.Found.{meta_is, own_name}
use Rattle.report_names.proofs.known.known_meta.Goals as goal

pub returns-clause-name : goal.returns-clause-name
returns-clause-name c =
    meta_is (network c.args.net.now) c.args.text.now c.in-Some.name (sym (ap (option_map name_number) (sym c.in-Some.is) ∙ c.in_ok-name.ensures))

pub returns-clause-own : goal.returns-clause-own
returns-clause-own c =
    own_name (network c.args.net.now) c.args.text.now c.in-Some.name (sym (ap (option_map name_number) (sym c.in-Some.is) ∙ c.in_ok-name.ensures))
