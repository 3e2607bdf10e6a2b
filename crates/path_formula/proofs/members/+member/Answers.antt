use Rattle.std.proofs.Common.{sym, ap, ◌∙◌}
use Rattle.path_formula.specs.Members.{member_among}
use Rattle.path_formula.specs.View.{views}
use Rattle.path_formula.proofs.MemberLemmas.{part_among, no_part_among}
use Rattle.path_formula.proofs.members.+member.Goals as goal

pub part_at-returns-in-None : goal.part_at-returns-in-None
part_at-returns-in-None t c =
    let here = ap (λ fs. member_among (views fs) c.args.holds c.args.number c.args.way.now) c.deref.ensures.value in
    sym (sym here ∙ no_part_among c.deref.result.now c.args.holds c.args.number c.args.way.now c.in-None.ensures.lookup.3)

pub part_at-returns-in-Some : goal.part_at-returns-in-Some
part_at-returns-in-Some t c =
    let here = ap (λ fs. member_among (views fs) c.args.holds c.args.number c.args.way.now) c.deref.ensures.value in
    let part = c.in-Some.part.now in
    c.member_at.ensures
    ∙ sym (sym here ∙ part_among c.deref.result.now c.args.holds c.args.number c.args.way.now part c.in-Some.ensures.lookup.3.0 c.in-Some.ensures.lookup.1)
