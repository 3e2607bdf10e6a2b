use Rattle.std.proofs.Common.{rules, ◌≡◌, ◌+◌, ◌*◌, ◌++◌, arith}
use Rattle.job_gen.specs.Grown.{link_to}
use Rattle.job_gen.proofs.Parts.{links_more}
use Rattle.job_gen.proofs.job.links_of.Goals as goal

pub loop-number-preserved : goal.loop-number-preserved
loop-number-preserved c =
    let n = c.loop-number.number in
    let boxes = c.args.boxes in
    let left : c.add_link.new.links.items ≡ c.loop-number.links.items ++ link_to boxes n 0 (2 * n + 1) = search rules in
    let right : c.add_link-in-loop-number.new.links.items ≡ c.add_link.new.links.items ++ link_to boxes n 1 (2 * n + 1 + 1) = search rules in
    links_more boxes n (2 * n + 1) c.loop-number.links.items c.add_link.new.links.items c.add_link-in-loop-number.new.links.items c.loop-number.invariant (omega arith) left right
