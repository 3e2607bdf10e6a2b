use Rattle.std.proofs.Common.{◌≡◌, ◌+◌, ◌++◌, ◌≤◌, length, take, arith, length-append, length-take, length-take-le}
use Rattle.std.proofs.KnownBytes.{Consumes-trans}
use Rattle.sn_edge.proofs.transfer.read_whole.Goals as goal

pub returns-then-count-room-clause-too_big : goal.returns-then-count-room-clause-too_big
returns-then-count-room-clause-too_big g c =
    let front = c.loop-bytes.bytes.items in
    let count = c.in-Ok.count in
    let part = take count c.read.new.buf in
    let given : count ≤ length c.read.new.buf = c.in-Ok.ensures.bound.0 in
    let asked : length c.read.new.buf ≤ c.min.result + 1 =
    omega (arith, c.read.auto.buf, length-take (c.min.result + 1) c.loop-bytes.chunk) in
    let both : length (front ++ part) ≡ c.args.limit + 1 =
    omega (arith, length-append front part, length-take-le count c.read.new.buf given) in
    (front ++ part, both, Consumes-trans _ _ _ _ _ c.loop-bytes.invariant.consumed c.in-Ok.ensures.bytes.0)
