use Rattle.std.proofs.Common.{map}
use Rattle.click_elements.specs.Classes.{seen_rule}
use Rattle.click_elements.specs.Codes.{drop_instr, rule_instr}
use Rattle.click_elements.proofs.Codes.{ended}
use Rattle.click_elements.proofs.filter.ip_filter_code.Goals as goal

pub returns : goal.returns
returns c =
    ended _ _ (map rule_instr (map seen_rule c.args.rules.now)) _ drop_instr c.in_ok-add.ensures c.in_ok-code.ensures c.in_ok-dropped.ensures
