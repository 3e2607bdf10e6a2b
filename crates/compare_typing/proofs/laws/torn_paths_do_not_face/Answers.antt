use Rattle.compare_typing.proofs.Following.{torn_are_apart}
use Rattle.compare_typing.proofs.laws.torn_paths_do_not_face.Goals as goal

pub returns : goal.returns
returns c = torn_are_apart
