use Rattle.std.proofs.Common.{◌≡◌, ◌∙◌, ◌++◌, ap, sym, subst}
use Rattle.net_check.specs.Network.{Network, network}
use Rattle.path_report.specs.Printed.{IsFrame, Reading}
use Rattle.path_report.proofs.printed.open_text.Goals as goal

pub returns-in-Some-2 : goal.returns-in-Some-2
returns-in-Some-2 g c =
    let head = c.in-Some.head.now in
    let tail = c.in-Some.tail.now in
    let cut : c.args.bytes.now ≡ head ++ (c.in-Some.text.now ++ tail) = c.in-Some.ensures in
    let framed : IsFrame (network c.args.net.now) head tail c.in-Some-2.frame = rw c.in-Some-2.is at c.in_ok-frame.ensures in record {
      utf8 = c.requires.utf8;
      head = head;
      tail = tail;
      cut = cut ∙ ap (λ (r : Reading). head ++ (r.left ++ tail)) (sym c.new.ensures);
      framed = subst (λ (net : Network). IsFrame net head tail c.in-Some-2.frame) c.requires.net framed;
      first = ap (λ (r : Reading). r.later) c.new.ensures;
    }
