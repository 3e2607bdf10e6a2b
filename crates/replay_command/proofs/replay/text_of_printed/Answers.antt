use Rattle.std.proofs.Common.{◌≡◌, [], IfErr, IfOk, refl, string_bytes, subst}
use Rattle.net_check.specs.Network.{entry, network}
use Rattle.path_report.specs.Printed.{IsOpened}
use Rattle.replay_command.specs.Replays.{CountsCome, NoCountsCome, choices_of}
use Rattle.replay_command.proofs.ComesLemmas.{read_refused, read_text, set_again}
use Rattle.replay_command.proofs.replay.text_of_printed.Goals as goal

pub returns-in-Ok-clause-text : goal.returns-in-Ok-clause-text
returns-in-Ok-clause-text g c =
    let net = network c.args.net.now in
    let i = entry c.args.injection.now in
    let opened : IsOpened g.N.OfNet.net c.args.bytes.now c.in-Some.frame c.in-Some.records = rw c.in-Some.is at c.in_ok-frame.ensures in
    let over : c.confirm_given-answer.new.supply.records.left ≡ [] = c.is_over.ensures c.if-not-is_over.false in
    subst (λ r. IfOk r (λ whole. CountsCome net i c.args.bytes.now (string_bytes whole))) c.in-Ok.is
    (read_text _ c.confirm_given-answer.new.supply (λ s. s.records) g.N.OfNet.net net c.requires.net i c.in-Some.frame
    (entry c.set_choices.new.self)
    (set_again c.args.injection.now c.set_choices.new.self c.choices_of.result (choices_of c.in-Some.frame.cases) c.set_choices.ensures c.choices_of.ensures)
    c.confirm_given-answer.result c.confirm_given-answer.ensures c.printed_records_are_read.ensures c.args.bytes.now c.requires.short opened over
    c.text_of_answer.result c.text_of_answer.ensures)

pub returns-clause-refused : goal.returns-clause-refused
returns-clause-refused g c =
    let net = network c.args.net.now in
    let i = entry c.args.injection.now in
    let opened : IsOpened g.N.OfNet.net c.args.bytes.now c.in-Some.frame c.in-Some.records = rw c.in-Some.is at c.in_ok-frame.ensures in
    let over : c.confirm_given-answer.new.supply.records.left ≡ [] = c.is_over.ensures c.if-not-is_over.false in
    subst (λ r. IfErr r (NoCountsCome net i c.args.bytes.now)) c.in-Err.is
    (read_refused _ c.confirm_given-answer.new.supply (λ s. s.records) g.N.OfNet.net net c.requires.net i c.in-Some.frame
    (entry c.set_choices.new.self)
    (set_again c.args.injection.now c.set_choices.new.self c.choices_of.result (choices_of c.in-Some.frame.cases) c.set_choices.ensures c.choices_of.ensures)
    c.confirm_given-answer.result c.confirm_given-answer.ensures c.printed_records_are_read.ensures c.args.bytes.now c.requires.short opened over
    c.text_of_answer.result c.text_of_answer.ensures)

pub returns-in_err-frame-clause-kept : goal.returns-in_err-frame-clause-kept
returns-in_err-frame-clause-kept g c = (c.args.injection.now.most_choices, refl)

pub returns-in_default-clause-kept : goal.returns-in_default-clause-kept
returns-in_default-clause-kept g c = (c.args.injection.now.most_choices, refl)
