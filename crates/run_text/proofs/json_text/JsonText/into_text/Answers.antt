use Rattle.std.proofs.Common.{◌≡◌, string_bytes, ap, ◌∙◌, rules}
use Rattle.json.specs.Print.{print}
use Rattle.serde_json.proofs.Texts.{print-outline}
use Rattle.run_text.proofs.json_text.JsonText.into_text.Goals as goal

pub returns : goal.returns
returns c d is =
    let text : string_bytes c.in-Ok.text ≡ c.bytes_of.result.items = search rules in
    text ∙ c.bytes_of.ensures.text ∙ ap print c.self.view_is ∙ ap print is ∙ print-outline d
