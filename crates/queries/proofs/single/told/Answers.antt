use Rattle.std.proofs.Common.{◌∙◌, ◌+◌, ◌≤◌, [], length, take, refl, sym, ap, subst, arith, List}
use Rattle.path_records.specs.declared.records.Record.{Record}
use Rattle.exact_records.specs.View.{record_trees}
use Rattle.path_questions.specs.Telling.{IsKept, left_open, saying}
use Rattle.path_questions.specs.Asked.{question_seen}
use Rattle.path_questions.specs.Deciding.{entry_of, net_of}
use Rattle.queries.specs.Holding.{IsKeptOf}
use Rattle.queries.proofs.OneLemmas.{count_so_far, next_told, nothing_told, taken_all}
use Rattle.queries.proofs.single.told.Goals as goal

pub loop-record-init : goal.loop-record-init
loop-record-init c =
    let net = net_of c.args.subject.now in
    let i = entry_of c.args.subject.now in
    let hops = c.args.subject.now.hops in
    let q = question_seen c.args.question.now in
    record {
      counted = refl;
      told = subst (λ ns. IsKept (saying net i hops q) [] (left_open ns)) (sym c.new.ensures.items) (nothing_told net i hops q);
    }

pub loop-record-preserved : goal.loop-record-preserved
loop-record-preserved c =
    let net = net_of c.args.subject.now in
    let i = entry_of c.args.subject.now in
    let hops = c.args.subject.now.hops in
    let q = question_seen c.args.question.now in
    let records = c.args.records.now in
    let n = c.loop-record.record-index in
    let x = c.record-item.result in
    record {
      counted = c.in-Some.ensures.1 ∙ ap (λ m. m + 1) c.loop-record.invariant.counted;
      told = next_told net i hops q records n x c.loop-record-test.true c.record-item.is _
          (c.in_ok-keep_one.ensures (record_trees (take n records))
          (c.loop-record.invariant.counted ∙ sym (count_so_far records n c.loop-record-test.true)) c.loop-record.invariant.told);
    }

pub returns : goal.returns
returns c =
    let records = c.args.records.now in
    let n = c.loop-record.record-index in
    let f = c.loop-record-test.false in
    let past : length records ≤ n = omega (arith, f) in
    subst (λ (rs : List Record). IsKeptOf (net_of c.args.subject.now) (entry_of c.args.subject.now) c.args.subject.now.hops (record_trees rs) (question_seen c.args.question.now) c.loop-record.kept)
    (taken_all n records past) c.loop-record.invariant.told
