use Rattle.std.proofs.Common.{◌∙◌, bytes_eq}
use Rattle.path_questions.proofs.IdLemmas.{past_the_last}
use Rattle.path_questions.proofs.reading.name_of.Goals as goal

pub returns-in-None : goal.returns-in-None
returns-in-None c =
    let same = c.name_count.ensures ∙ past_the_last (bytes_eq c.args.name.now) c.args.net.now.names.metas c.in-None.ensures in
    λ j. record { 0 = same j }
