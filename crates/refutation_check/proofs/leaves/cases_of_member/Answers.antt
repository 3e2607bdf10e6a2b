use Rattle.std.proofs.Common.{sym}
use Rattle.path_cond.specs.Conditions.{Entry}
use Rattle.path_formula.specs.Members.{Member}
use Rattle.path_formula.specs.View.{view}
use Rattle.refutation_check.proofs.Stepping.{split_answer}
use Rattle.refutation_check.proofs.leaves.cases_of_member.Goals as goal

pub returns-in-Some-member_at : goal.returns-in-Some-member_at
returns-in-Some-member_at c =
    let e : Entry = (c.in-Some.formula.now, c.in-Some.holds) in
    let m : Member = (view c.in-Some-member_at.member.now, c.in-Some-member_at.holds) in
    split_answer c.args.cond.now c.args.pick c.args.way.now e m c.args.room (sym c.in-Some.ensures) (sym c.in-Some-member_at.ensures)
    c.cases_of_formula.result c.cases_of_formula.ensures
