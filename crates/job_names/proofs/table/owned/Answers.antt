use Rattle.std.proofs.Common.{◌≡◌, rules, sym, subst}
use Rattle.std.specs.Cmp.Lexicographic.{slice_cmp}
use Rattle.std.specs.List.Sorted.{IsStrictlySortedBy}
use Rattle.std.specs.Map.Iter.{deref}
use Rattle.std.specs.Ordering.{nat_cmp}
use Rattle.std.proofs.lemmas.Map.Iter.{rest_more}
use Rattle.job_names.specs.Lent.{lent_names}
use Rattle.job_names.proofs.Sets.{copied, lent_ascend}
use Rattle.job_names.proofs.table.owned.Goals as goal

pub loop-name-preserved : goal.loop-name-preserved
loop-name-preserved c =
    copied c.args.names.now.keys c.loop-name.copies.items c.push.new.self.items c.in_ok-copy.copy c.in-Some.name.now
    c.loop-name.name-iterator c.next.new.self c.loop-name.invariant
    (rest_more deref _ _ _ c.in-Some.name c.in-Some.is c.next.ensures.steps) c.in_ok-copy.ensures.cases c.in_ok-push.ensures.items

pub returns-clause-ascend : goal.returns-clause-ascend
returns-clause-ascend c =
    let all : c.loop-name.copies.items ≡ lent_names c.args.names.now.keys = search rules in
    subst (IsStrictlySortedBy (slice_cmp nat_cmp)) (sym all) (lent_ascend c.args.names.now.keys c.iter-name-items.ensures.ordered)
