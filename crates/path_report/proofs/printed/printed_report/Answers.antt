use Rattle.std.proofs.Common.{[]}
use Rattle.path_report.specs.Printed.{BeginsWithAll, IsOpened}
use Rattle.path_report.proofs.PrintedLemmas.{printed}
use Rattle.path_report.proofs.printed.printed_report.Goals as goal

pub returns-in-Some-2 : goal.returns-in-Some-2
returns-in-Some-2 g c =
    let net = g.N.OfNet.net in
    let opened : IsOpened net c.args.bytes.now c.in-Some.frame c.in-Some.records = rw c.in-Some.is at c.in_ok-frame.ensures in
    let all : BeginsWithAll net c.in-Some-2.records.items c.in-Some.records.left [] = rw c.in-Some-2.is at c.in_ok-records.ensures in
    printed c.pieces_join.ensures net c.args.bytes.now c.in-Some.frame c.in-Some.records c.in-Some-2.records opened all
