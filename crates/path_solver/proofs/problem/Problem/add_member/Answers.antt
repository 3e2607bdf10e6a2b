use Rattle.std.proofs.Common.{sym}
use Rattle.path_cond.specs.Conditions.{Entry}
use Rattle.path_formula.specs.Members.{Member}
use Rattle.path_formula.specs.View.{view}
use Rattle.path_solver.proofs.Gathering.{member_splits}
use Rattle.path_solver.proofs.problem.Problem.add_member.Goals as goal

pub listed_cases-requires : goal.listed_cases-requires
listed_cases-requires c =
    let e : Entry = (c.in-Some.formula.now, c.in-Some.holds) in
    let m : Member = (view c.in-Some-member_at.member.now, c.in-Some-member_at.holds) in
    member_splits c.facts.ensures c.args.cond.now c.args.pick c.args.way c.as_slice.result.now e m c.formulas_are_typed.ensures c.requires.member
    (sym c.in-Some.ensures) (sym c.in-Some-member_at.ensures)
