use Rattle.std.proofs.Common.{◌∙◌}
use Rattle.path_questions.specs.Deciding.{entry_of, net_of}
use Rattle.loop_check.proofs.Found.{cut_answer}
use Rattle.loop_check.proofs.finding.found_of.Goals as goal

pub returns-in_ok-answer-in-Cut : goal.returns-in_ok-answer-in-Cut
returns-in_ok-answer-in-Cut c =
    let s = c.args.subject.now in
    cut_answer (net_of s) (entry_of s) s.hops c.args.found.now c.in-Path.state c.in-Path.end c.in-Path.verdict c.in-Path.is c.in-Cut.is
    c.args.decisions.now c.deref.result.now (c.deref.ensures.value ∙ c.in_ok-places-in-Cut.ensures) c.in_ok-answer-in-Cut.answer c.in_ok-answer-in-Cut.ensures
