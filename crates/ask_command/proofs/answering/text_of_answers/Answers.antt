use Rattle.std.proofs.Common.{◌∙◌, map, ap, sym, subst}
use Rattle.net_check.specs.Network.{entry, network}
use Rattle.sefl_syntax.specs.Views.{ask_tree}
use Rattle.path_questions.specs.Asked.{AreAsked, IsBadAsk, question_seen}
use Rattle.queries.specs.Answers.{answer_seen}
use Rattle.ask_command.specs.Asks.{IsAskRefusal}
use Rattle.ask_command.specs.Texts.{answers_text}
use Rattle.ask_command.proofs.AnswerLemmas.{asked_all, bad_ask, own_of}
use Rattle.ask_command.proofs.Further.{hold_beyond}
use Rattle.ask_command.proofs.answering.text_of_answers.Goals as goal

pub returns-in-Err-clause-refused : goal.returns-in-Err-clause-refused
returns-in-Err-clause-refused c =
    let net = network c.args.job.now.net in
    let i = entry c.args.job.now.injection in
    let asks = map ask_tree c.args.job.now.asks.items in
    let bad = c.in-Err.bad in
    let h = subst (λ xs. IsBadAsk net i (map ask_tree xs) bad.number bad.fault) c.deref.ensures.value c.in-Err.ensures.refused in
    subst (IsAskRefusal net i asks) (sym c.fault_of.ensures) (bad_ask net i asks bad.number bad.fault h)

pub answer_with-requires-clause-own : goal.answer_with-requires-clause-own
answer_with-requires-clause-own c =
    let net = network c.args.job.now.net in
    let i = entry c.args.job.now.injection in
    let asks = map ask_tree c.args.job.now.asks.items in
    let qs = c.in-Ok.questions.items in
    own_of net i asks qs (subst (λ xs. AreAsked net i (map ask_tree xs) qs) c.deref.ensures.value c.in-Ok.ensures.asked)

pub returns-clause-text : goal.returns-clause-text
returns-clause-text c =
    let net = network c.args.job.now.net in
    let i = entry c.args.job.now.injection in
    let asks = map ask_tree c.args.job.now.asks.items in
    let qs = c.in-Ok.questions.items in
    let are = c.in_ok-ending.ensures in
    record {
      questions = map question_seen qs;
      asked = asked_all net i asks qs (subst (λ xs. AreAsked net i (map ask_tree xs) qs) c.deref.ensures.value c.in-Ok.ensures.asked);
      records = are.records;
      exact = are.exact;
      ends = are.ends;
      replies = map answer_seen c.in_ok-ending.answers.items;
      right = are.right;
      beyond = hold_beyond net i c.args.hops c.args.limit are.records (map question_seen qs) (map answer_seen c.in_ok-ending.answers.items)
          (c.uncut_records_go_beyond.ensures net i c.args.hops) (c.right_answers_go_beyond.ensures net i c.args.hops) are.exact are.right;
      line = c.in_ok-text.ensures ∙ ap (λ xs. answers_text (map answer_seen xs)) c.deref-2.ensures.value;
    }
