use Rattle.std.proofs.Common.{◌≡◌, Some, None, rules}
use Rattle.serde_json.specs.Find.{at}
use Rattle.serde_json.specs.View.{view}
use Rattle.net_check.specs.Network.{network}
use Rattle.path_report.proofs.Rows.{formula_row, member_row}
use Rattle.path_report.proofs.decoder.Decoder.split.Goals as goal

pub member_split-requires-clause-form : goal.member_split-requires-clause-form
member_split-requires-clause-form c =
    let is : at 2 (view c.args.value.now) ≡ Some (view c.in-Some.field-0.now) = search rules in
    member_row (network c.args.self.now.net.now) (view c.args.value.now) (view c.in-Some.field-0.now) c.requires.form c.requires.word is

pub formula_split-requires-clause-form : goal.formula_split-requires-clause-form
formula_split-requires-clause-form c =
    let is : at 2 (view c.args.value.now) ≡ None = search rules in
    formula_row (network c.args.self.now.net.now) (view c.args.value.now) c.requires.form c.requires.word is
