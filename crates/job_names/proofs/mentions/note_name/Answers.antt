use Rattle.std.proofs.Common.{◌∙◌, ap}
use Rattle.job_names.specs.Lent.{lent_names}
use Rattle.job_names.proofs.Sets.{lent_insert}
use Rattle.job_names.proofs.mentions.note_name.Goals as goal

pub returns : goal.returns
returns c = ap lent_names c.in_ok-insert.ensures.keys ∙ lent_insert c.args.names.now.keys c.args.name
