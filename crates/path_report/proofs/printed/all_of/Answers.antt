use Rattle.std.proofs.Common.{◌≡◌, [], refl, sym, subst, rules}
use Rattle.path_report.specs.Printed.{IsNext}
use Rattle.path_report.proofs.PrintedLemmas.{AreRead, goes_on, none_read}
use Rattle.path_report.proofs.printed.all_of.Goals as goal

pub loop-items-init : goal.loop-items-init
loop-items-init g c =
    let net = g.N.OfNet.net in
    let none : c.new-items.result.items ≡ [] = search rules in
    subst (λ items. AreRead net c.args.records.now.left items c.args.records.now) (sym none)
    (none_read net c.args.records.now.left c.args.records.now c.requires refl)

pub loop-items-preserved : goal.loop-items-preserved
loop-items-preserved g c =
    let net = g.N.OfNet.net in
    let one = subst (λ found. IsNext net c.loop-items.records found c.next.new.self) c.in-Some.is c.in_ok-item.ensures in
    goes_on net c.args.records.now.left c.loop-items.items.items c.push.new.self.items c.loop-items.records c.in-Some.item c.next.new.self
    c.in_ok-push.ensures.items c.loop-items.invariant one
