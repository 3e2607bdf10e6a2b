use Rattle.std.proofs.Common.{rules, ◌≡◌, ◌∙◌, sym, ap, subst, ◌+◌, suc, ◌/◌, List, ◌∷◌, [], ◌++◌, length, arith}
use Rattle.job_gen.specs.declared.split.Split.{Split}
use Rattle.job_gen.specs.Splits.{next, span_of, split_at, state}
use Rattle.job_gen.proofs.Known.{AreSplits, first_are, one_more, span_fits}
use Rattle.job_gen.proofs.split.splits.Goals as goal

pub next_span-span-requires : goal.next_span-span-requires
next_span-span-requires c = subst (AreSplits c.args.seed) (sym c.deref.ensures.value) (first_are c.args.seed c.loop.counter c.loop.splits.items c.loop.invariant.0)

pub split_at-requires : goal.split_at-requires
split_at-requires c = span_fits c.args.seed (length c.deref.result.now) c.next_span-span.result c.next_span-span.ensures

pub loop-preserved : goal.loop-preserved
loop-preserved c =
    let at : c.next-x.result ≡ state c.args.seed (suc c.loop.counter) = c.next-x.ensures ∙ ap next c.loop.invariant.1 in
    let e : suc c.loop.counter ≡ c.loop.counter + 1 = omega arith in
    let span : c.next_span-span.result ≡ span_of c.args.seed (length c.loop.splits.items) = c.next_span-span.ensures ∙ ap (λ (xs : List Split). span_of c.args.seed (length xs)) c.deref.ensures.value in
    let more = one_more c.args.seed c.loop.counter c.next-x.result c.loop.splits.items c.next_span-span.result c.loop.invariant.0 at span in
    let pushed : c.push.new.self.items ≡ c.loop.splits.items ++ split_at (c.next-x.result / 8589934592) c.next_span-span.result ∷ [] = search rules in
    (pushed ∙ more, at ∙ ap (state c.args.seed) e)
