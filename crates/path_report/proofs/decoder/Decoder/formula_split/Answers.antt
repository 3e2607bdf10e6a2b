use Rattle.std.proofs.Common.{◌≡◌, [], rules}
use Rattle.serde_json.specs.View.{view}
use Rattle.net_check.specs.Network.{network}
use Rattle.path_report.proofs.Splits.{formula_shown}
use Rattle.path_report.proofs.decoder.Decoder.formula_split.Goals as goal

pub returns-clause-shown : goal.returns-clause-shown
returns-clause-shown c =
    let none : c.from_vec-way.result ≡ [] = search rules in
    formula_shown (network c.args.self.now.net.now) (view c.args.value.now) (view c.item.result.now) c.requires.form c.requires.word c.item.ensures c.id-pick.result c.from_vec-way.result c.id-pick.ensures none
