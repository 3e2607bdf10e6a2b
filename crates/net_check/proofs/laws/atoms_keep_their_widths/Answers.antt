use Rattle.net_check.proofs.AtomLemmas.{item_atoms_keep}
use Rattle.net_check.proofs.laws.atoms_keep_their_widths.Goals as goal

pub returns : goal.returns
returns c = item_atoms_keep
