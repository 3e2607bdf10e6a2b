use Rattle.std.proofs.Common.{◌∙◌, bytes_eq}
use Rattle.cell_values.proofs.Ids.{past_the_last}
use Rattle.cell_values.proofs.scene.Scene.tag_id.Goals as goal

pub returns-in-None : goal.returns-in-None
returns-in-None c =
    let e = past_the_last (bytes_eq c.args.name.now) c.args.self.now.net.now.names.tags c.in-None.ensures in
    let same = c.tag_count.ensures ∙ e in
    λ j. record { 0 = same j }
