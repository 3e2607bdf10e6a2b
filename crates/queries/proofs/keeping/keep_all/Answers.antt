use Rattle.std.proofs.Common.{◌≤◌, ◌∙◌, length, refl, ap, slice_index_or, arith}
use Rattle.queries.proofs.Every.{partly_all, partly_next, partly_none, set_keeps}
use Rattle.queries.proofs.keeping.keep_all.Goals as goal

pub loop-i-init : goal.loop-i-init
loop-i-init c = record { one_each = refl; keeps = λ items x e s h. partly_none _ _ c.args.questions.now c.args.kept.now h }

pub loop-i-preserved : goal.loop-i-preserved
loop-i-preserved c =
    record {
      one_each = set_keeps c.loop-i.kept c.loop-i.i c.keep.new.kept ∙ c.loop-i.invariant.one_each;
      keeps = λ items x e s h.
          partly_next _ _ c.loop-i.i c.args.questions.now c.loop-i.kept c.index-questions-i.result (slice_index_or c.loop-i.kept c.loop-i.i c.index-kept-i.result) c.keep.new.kept c.loop-i-test.true
          c.index-questions-i.is (ap (λ k. slice_index_or c.loop-i.kept c.loop-i.i k) c.index-kept-i.is) (λ k. c.in_ok-keep.ensures items x e s k) (c.loop-i.invariant.keeps items x e s h);
    }

pub returns-clause-keeps : goal.returns-clause-keeps
returns-clause-keeps c = λ items x e s h.
    partly_all _ _ c.loop-i.i c.args.questions.now c.loop-i.kept
    (let f = c.loop-i-test.false in let past : length c.args.questions.now ≤ c.loop-i.i = omega (arith, f) in past)
    (c.loop-i.invariant.keeps items x e s h)
