use Rattle.sefl_syntax.proofs.SetLemmas.{fits_up_to, said_by_the_set}
use Rattle.sefl_syntax.proofs.range_list.is_within.Goals as goal

pub returns : goal.returns
returns c =
    let set = c.args.set.now in
    said_by_the_set c.the_set_of_a_test.ensures.members c.args.listed.now set c.args.number c.has.result c.requires
    (fits_up_to set.width c.width.result c.max.result c.args.number c.width.ensures.value c.max.ensures.value c.if-number-max.false) c.has.ensures
