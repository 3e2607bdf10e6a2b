use Rattle.std.proofs.Common.{◌≡◌, Some, codes, rules}
use Rattle.serde_json.specs.Data.{string}
use Rattle.serde_json.specs.Find.{at, as_str}
use Rattle.serde_json.specs.View.{view}
use Rattle.net_check.specs.Network.{network}
use Rattle.path_report.proofs.Deciding.{no_step}
use Rattle.path_report.proofs.Rows.{empty_row, domain_row, cycle_row}
use Rattle.path_report.proofs.decoder.Decoder.step.Goals as goal

pub empty-requires-clause-form : goal.empty-requires-clause-form
empty-requires-clause-form c =
    let word : at 0 (view c.args.value.now) ≡ Some (string (codes "empty")) = search rules in
    empty_row (network c.args.self.now.net.now) (view c.args.value.now) c.requires word

pub domain-requires-clause-form : goal.domain-requires-clause-form
domain-requires-clause-form c =
    let word : at 0 (view c.args.value.now) ≡ Some (string (codes "domain")) = search rules in
    domain_row (network c.args.self.now.net.now) (view c.args.value.now) c.requires word

pub circle-requires-clause-form : goal.circle-requires-clause-form
circle-requires-clause-form c =
    let word : at 0 (view c.args.value.now) ≡ Some (string (codes "cycle")) = search rules in
    cycle_row (network c.args.self.now.net.now) (view c.args.value.now) c.requires word

pub unreachable-requires-in_default-word : goal.unreachable-requires-in_default-word
unreachable-requires-in_default-word c =
    let is : as_str (view c.item.result.now) ≡ Some c.in-Some.word.now = search rules in
    no_step (network c.args.self.now.net.now) (view c.args.value.now) (view c.item.result.now) c.requires c.item.ensures c.in-Some.word.now is
    c.in_default-word.not-empty c.in_default-word.not-domain c.in_default-word.not-split c.in_default-word.not-cycle
