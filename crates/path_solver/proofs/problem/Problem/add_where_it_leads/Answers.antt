use Rattle.std.proofs.Common.{List, ℕ, subst, rules}
use Rattle.std.specs.Prelude.{IsTrue}
use Rattle.path_solver.specs.Origins.{IsMemberAt}
use Rattle.path_solver.proofs.Gathering.{problem_push}
use Rattle.path_solver.proofs.problem.Problem.add_where_it_leads.Goals as goal

pub add_member-requires-clause-member : goal.add_member-requires-clause-member
add_member-requires-clause-member c =
    let yes : IsTrue c.leads.result = search rules in
    subst (λ (way : List ℕ). IsMemberAt c.args.cond.now c.args.pick way) c.as_slice.ensures (c.leads.ensures yes)

pub returns : goal.returns
returns c =
    let yes : IsTrue c.leads.result = search rules in
    let is = subst (λ (way : List ℕ). IsMemberAt c.args.cond.now c.args.pick way) c.as_slice.ensures (c.leads.ensures yes) in
    problem_push c.args.cond.now c.args.pick c.args.way c.args.self.now c.add_member.new.self is
    c.in_ok-add_member.ensures.steps c.in_ok-add_member.ensures.choices c.requires.problem
