use Rattle.click_model.proofs.NameLemmas.{name_text}
use Rattle.click_model.proofs.declare.name_of.Goals as goal

pub unreachable-requires : goal.unreachable-requires
unreachable-requires c = c.in_default.ensures.cases.0 (name_text c.args.word.now c.requires)
