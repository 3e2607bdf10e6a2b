use Rattle.model_command.proofs.OnceLemmas.{models_once}
use Rattle.model_command.proofs.laws.models_have_one_outcome.Goals as goal

pub returns : goal.returns
returns c kind style name bytes = models_once kind style name bytes c.files_have_one_node.ensures.one c.files_have_one_node.ensures.good
