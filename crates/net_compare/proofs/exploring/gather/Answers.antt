use Rattle.std.proofs.Common.{◌≡◌, false, refl, sym, subst, rules}
use Rattle.net_check.specs.Network.{entry, network}
use Rattle.sn_width.specs.declared.memory.NoMemory.{NoMemory}
use Rattle.exact_records.specs.View.{record_trees}
use Rattle.net_compare.specs.Delivering.{AreStatesOf}
use Rattle.net_compare.proofs.StateLemmas.{all_gathered, takes_own}
use Rattle.net_compare.proofs.exploring.gather.Goals as goal

pub observe-requires-clause-takes : goal.observe-requires-clause-takes
observe-requires-clause-takes g c = λ item own.
    takes_own (network c.args.net.now) (entry c.args.injection.now) c.args.hops c.args.limit g.M.Mark.start c.requires.start item own

pub returns-clause-exact : goal.returns-clause-exact
returns-clause-exact g c =
    let out = c.observe.new.out in
    let fine : out.failed ≡ false = search rules in
    (all_gathered (network c.args.net.now) (entry c.args.injection.now) c.args.hops c.args.limit NoMemory g.M.Mark.start _ out.gathered out.failed (λ items h. h) fine refl _ _ _
    c.in_ok-_ended.ensures.observed).0

pub returns-clause-states : goal.returns-clause-states
returns-clause-states g c =
    let out = c.observe.new.out in
    let fine : out.failed ≡ false = search rules in
    subst (λ start. AreStatesOf start (record_trees out.gathered.records.items) out.gathered.states.items) c.requires.start
    (all_gathered (network c.args.net.now) (entry c.args.injection.now) c.args.hops c.args.limit NoMemory g.M.Mark.start _ out.gathered out.failed (λ items h. h) fine refl _ _ _
    c.in_ok-_ended.ensures.observed).1
