use Rattle.std.proofs.Common.{◌∙◌, sym}
use Rattle.path_questions.specs.Asked.{question_seen}
use Rattle.path_questions.specs.Deciding.{entry_of, net_of}
use Rattle.queries.proofs.KeepLemmas.{hit_stays, noted_so}
use Rattle.queries.proofs.keeping.keep.Goals as goal

pub returns-then-is_found : goal.returns-then-is_found
returns-then-is_found c = λ items x e s h.
    hit_stays (net_of c.args.subject.now) (entry_of c.args.subject.now) c.args.subject.now.hops (question_seen c.args.question.now) items x
    c.args.kept.now (sym c.is_found.ensures ∙ c.if-is_found.true) h

pub returns : goal.returns
returns c =
    noted_so (net_of c.args.subject.now) (entry_of c.args.subject.now) c.args.subject.now.hops (question_seen c.args.question.now) c.take_in.result
    c.verdicts_on_trees_are_exact.ensures c.args.number c.args.seen.now c.in_ok-judged.judged c.in_ok-judged.ensures c.args.kept.now c.take_in.new.kept
    (sym c.is_found.ensures ∙ c.if-is_found.false) c.take_in.ensures
