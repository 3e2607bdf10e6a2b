use Rattle.std.proofs.Common.{◌≡◌, [], reverse, rules, subst}
use Rattle.net_check.specs.Network.{network}
use Rattle.concrete_run.specs.Answers.{SeekAnswer}
use Rattle.concrete_run.specs.Pending.{Sought, walks_of}
use Rattle.concrete_run.proofs.Searching.{none_sought, popped}
use Rattle.concrete_run.proofs.walks.search.Goals as goal

pub returns : goal.returns
returns g c =
    let net = network c.args.net.now in
    let empty : reverse c.loop-next.work.items ≡ [] = search rules in
    none_sought net c.args.decisions.now (reverse c.loop-next.work.items) (walks_of net c.args.pending) empty c.loop-next.invariant

pub loop-next-preserved : goal.loop-next-preserved
loop-next-preserved g c =
    let net = network c.args.net.now in
    let ds = c.args.decisions.now in
    let all = walks_of net c.args.pending in
    let first = popped c.loop-next.work.items c.pop.new.self.items c.in-Some.next c.in-Some.ensures.items in
    subst (SeekAnswer net ds (reverse c.seek.new.work.items) all) c.in_default-2.is
    (c.in_ok-walk.ensures.sought all (subst (λ l. Sought net ds l all) first c.loop-next.invariant))
