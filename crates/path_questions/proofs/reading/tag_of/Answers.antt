use Rattle.std.proofs.Common.{◌∙◌, bytes_eq}
use Rattle.path_questions.proofs.IdLemmas.{past_the_last}
use Rattle.path_questions.proofs.reading.tag_of.Goals as goal

pub returns-in-None : goal.returns-in-None
returns-in-None c =
    let same = c.tag_count.ensures ∙ past_the_last (bytes_eq c.args.name.now) c.args.net.now.names.tags c.in-None.ensures in
    λ j. record { 0 = same j }
