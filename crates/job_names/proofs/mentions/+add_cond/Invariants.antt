use Rattle.std.proofs.Common.{◌≡◌, drop}
use Rattle.sefl_syntax.specs.Views.{cond_trees}
use Rattle.job_names.specs.Lent.{noted_by}
use Rattle.job_names.specs.Noted.{noted_conds}
use Rattle.job_names.proofs.mentions.+add_cond.Given as goal

abbrev pub invariant-add_conds-loop-member : goal.invariant-add_conds-loop-member
invariant-add_conds-loop-member l =
    noted_conds (noted_by l.mentions) (cond_trees (drop l.member-index l.conds)) ≡ noted_conds (noted_by l.fn.mentions) (cond_trees l.conds)
