use Rattle.std.proofs.Common.{◌≡◌, Some, None, rules, sym, ap, ◌∙◌}
use Rattle.serde_json.specs.View.{view}
use Rattle.net_check.specs.Network.{network}
use Rattle.serde_json.specs.Data.{string}
use Rattle.serde_json.specs.Find.{as_str}
use Rattle.run_text.specs.Forms.{owner_data}
use Rattle.path_report.proofs.Atoms.{owner_null}
use Rattle.path_report.proofs.Lists.{text_at}
use Rattle.path_report.proofs.decoder.Decoder.owner.Goals as goal

pub returns-in_ok-known_node-in-Some-clause-shown : goal.returns-in_ok-known_node-in-Some-clause-shown
unfolding owner_data
returns-in_ok-known_node-in-Some-clause-shown c =
    let is : as_str (view c.args.value.now) ≡ Some c.in-Some.text.now = search rules in
    ap string c.in_ok-known_node-in-Some.ensures.name ∙ sym (text_at (view c.args.value.now) c.in-Some.text.now is)

pub returns-in-None-clause-shown : goal.returns-in-None-clause-shown
unfolding owner_data
returns-in-None-clause-shown c =
    let is : as_str (view c.args.value.now) ≡ None = search rules in
    owner_null (network c.args.self.now.net.now) (view c.args.value.now) c.requires is
