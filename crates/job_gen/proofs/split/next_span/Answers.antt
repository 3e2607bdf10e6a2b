use Rattle.std.proofs.Common.{rules, ◌∙◌, sym, ap, ◌<◌, ◌-◌, ◌/◌, length, arith}
use Rattle.job_gen.specs.Splits.{part}
use Rattle.job_gen.proofs.Known.{known_split, known_within, next_is}
use Rattle.job_gen.proofs.split.next_span.Goals as goal

pub part-requires : goal.part-requires
part-requires c =
    let some : 0 < length c.args.splits.now = search rules in
    let below : (length c.args.splits.now - 1) / 2 < length c.args.splits.now = omega (arith, some) in
    known_within c.args.seed c.args.splits.now ((length c.args.splits.now - 1) / 2) _ c.requires below

pub returns : goal.returns
returns c =
    let n = length c.args.splits.now in
    let some : 0 < n = search rules in
    let below : (n - 1) / 2 < n = omega (arith, some) in
    c.part.ensures ∙ (ap (part n) (known_split c.args.seed c.args.splits.now ((n - 1) / 2) _ c.requires below) ∙ sym (next_is c.args.seed n some))
