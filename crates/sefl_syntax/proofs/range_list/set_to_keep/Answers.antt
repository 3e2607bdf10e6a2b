use Rattle.std.proofs.Common.{◌∙◌}
use Rattle.sefl_syntax.proofs.SetLemmas.{own_width}
use Rattle.sefl_syntax.proofs.range_list.set_to_keep.Goals as goal

pub returns : goal.returns
returns c =
    own_width c.args.width c.args.listed.now c.in_ok-set-2.set.value (c.in_ok-set-2.ensures.ok ∙ c.in_ok-set.ensures)
