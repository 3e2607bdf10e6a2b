use Rattle.std.proofs.Common.{◌≡◌, ◌∙◌, false, length, map, ap, refl, sym, subst, rules}
use Rattle.sn_width.specs.declared.memory.NoMemory.{NoMemory}
use Rattle.queries.specs.Answers.{answer_seen, replies_of}
use Rattle.ask_command.specs.Answering.{AreAnswers, ending_of}
use Rattle.ask_command.proofs.AnswerLemmas.{answers_of_own, nothing_is}
use Rattle.ask_command.proofs.answering.answer_with.Goals as goal

pub observe-requires-clause-stands : goal.observe-requires-clause-stands
observe-requires-clause-stands g c =
    let m = g.M.Mark in
    let kept = c.in_ok-kept.kept.items in
    let count : c.len.result ≡ length c.args.questions.items = search rules in
    record {
      net_is = c.requires.net;
      entry_is = c.requires.entry;
      hops_is = c.requires.hops;
      questions_are = c.requires.questions;
      counted = λ fine. refl;
      tells = λ fine. nothing_is m.net m.entry m.hops m.questions kept
          (ap length (sym c.requires.questions) ∙ (sym count ∙ sym c.in_ok-kept.ensures.one_each)) c.in_ok-kept.ensures.open;
    }

pub returns : goal.returns
returns g c =
    let m = g.M.Mark in
    let out = c.observe.new.out in
    let fine : out.failed ≡ false = search rules in
    let found = answers_of_own NoMemory m.net _ m.entry _ m.hops _ c.args.limit (c.kept_outcomes_are_right.ensures m.net m.entry m.hops)
    c.requires.net c.requires.entry c.requires.hops m.questions _ out.subject out.questions.items out.kept.items out.count out.failed
    (λ items h. h) fine refl _ _ _ c.in_ok-ended.ensures.observed in
    let replies : map answer_seen c.in_ok-answers.answers.items ≡ replies_of out.questions.items out.kept.items =
    subst (λ qs. map answer_seen c.in_ok-answers.answers.items ≡ replies_of qs out.kept.items) c.deref.ensures.value c.in_ok-answers.ensures in
    subst (λ ending. AreAnswers m.hops c.args.limit m.net m.entry m.questions ending (map answer_seen c.in_ok-answers.answers.items)) (sym c.ending_of.ensures)
    (subst (AreAnswers m.hops c.args.limit m.net m.entry m.questions (ending_of c.in_ok-ended.ended)) (sym replies) found)
