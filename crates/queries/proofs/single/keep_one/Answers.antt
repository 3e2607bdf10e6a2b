use Rattle.exact_records.specs.View.{record_tree}
use Rattle.path_questions.specs.Asked.{question_seen}
use Rattle.path_questions.specs.Deciding.{entry_of, net_of}
use Rattle.queries.proofs.KeepLemmas.{of_record}
use Rattle.queries.proofs.single.keep_one.Goals as goal

pub returns : goal.returns
returns c =
    of_record (net_of c.args.subject.now) (entry_of c.args.subject.now) c.args.subject.now.hops (question_seen c.args.question.now) c.keep.result c.args.number
    c.in_ok-seen.seen (record_tree c.args.item.now) c.in_ok-seen.ensures.seen c.args.kept.now c.keep.new.kept c.keep.ensures
