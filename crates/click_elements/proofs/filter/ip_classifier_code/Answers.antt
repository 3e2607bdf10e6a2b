use Rattle.std.proofs.Common.{map}
use Rattle.click_elements.specs.Classes.{seen_pattern}
use Rattle.click_elements.specs.Codes.{drop_instr, pattern_instrs}
use Rattle.click_elements.proofs.Codes.{ended}
use Rattle.click_elements.proofs.filter.ip_classifier_code.Goals as goal

pub returns : goal.returns
returns c =
    ended _ _ (pattern_instrs 0 (map seen_pattern c.args.patterns.now)) _ drop_instr c.in_ok-add.ensures c.in_ok-code.ensures c.in_ok-dropped.ensures
