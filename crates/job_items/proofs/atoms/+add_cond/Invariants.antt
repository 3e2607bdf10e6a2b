use Rattle.std.proofs.Common.{◌≡◌, ◌++◌, drop}
use Rattle.sefl_syntax.specs.Views.{cond_trees}
use Rattle.job_items.specs.Atoms.{conds_atoms}
use Rattle.job_items.proofs.atoms.+add_cond.Given as goal

-- the atoms so far, and those of what is left, are the whole
abbrev pub invariant-add_conds-loop-member : goal.invariant-add_conds-loop-member
invariant-add_conds-loop-member l =
    l.atoms.items ++ conds_atoms (cond_trees (drop l.member-index l.conds)) ≡ l.fn.atoms.items ++ conds_atoms (cond_trees l.conds)
