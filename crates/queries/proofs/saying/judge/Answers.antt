use Rattle.std.proofs.Common.{subst}
use Rattle.path_questions.specs.Asked.{question_seen}
use Rattle.path_questions.specs.Deciding.{entry_of, net_of}
use Rattle.queries.specs.Judged.{IsWellSeen}
use Rattle.queries.proofs.Telling.{path_says}
use Rattle.queries.proofs.saying.judge.Goals as goal

pub returns-in-Path : goal.returns-in-Path
returns-in-Path c =
    let net = net_of c.args.subject.now in
    let i = entry_of c.args.subject.now in
    let hops = c.args.subject.now.hops in
    path_says net i hops (question_seen c.args.question.now) c.judge_path.result c.in-Path.run' c.in-Path.stops c.args.seen.now c.in-Path.is
    (subst (IsWellSeen net i hops) c.in-Path.is c.requires.path).0 c.judge_path.ensures
