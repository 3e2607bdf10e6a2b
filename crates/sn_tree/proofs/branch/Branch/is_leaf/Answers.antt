use Rattle.sn_tree.proofs.Around.{some_has_pairs}
use Rattle.sn_tree.proofs.branch.Branch.is_leaf.Goals as goal

pub returns-clause-pairs : goal.returns-clause-pairs
returns-clause-pairs g c = ((λ h. cc), (λ e. absurd (some_has_pairs c.args.self.now c.self.inside.node c.in-Some.node c.self.view_is c.in-Some.is e)))
