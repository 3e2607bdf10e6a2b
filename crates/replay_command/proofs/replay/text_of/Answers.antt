use Rattle.std.proofs.Common.{map, subst, string_bytes}
use Rattle.std.proofs.lemmas.Result.{err_from_is_err_and}
use Rattle.sefl_syntax.specs.Views.{ask_tree}
use Rattle.net_check.specs.Network.{entry, network}
use Rattle.replay_command.specs.Replays.{CountsCome, NoCountsCome}
use Rattle.replay_command.proofs.ComesLemmas.{counts_come, none_come}
use Rattle.replay_command.proofs.replay.text_of.Goals as goal

pub returns-in_err-text-clause-refused : goal.returns-in_err-text-clause-refused
returns-in_err-text-clause-refused c =
    let job = c.args.job.now in
    let net = network job.net in
    let i = entry job.injection in
    let p = err_from_is_err_and c.from_residual.result c.from_residual.ensures.1 in
    let why = c.in_err-text.ensures.refused in
    rw (p.1, p.2) (none_come net i (map ask_tree job.asks.items) c.args.bytes.now c.in_err-text.field-0.0 why)

pub returns-clause-text : goal.returns-clause-text
returns-clause-text c =
    let job = c.args.job.now in
    let net = network job.net in
    let i = entry job.injection in
    let whole = string_bytes c.in_ok-text.text in
    counts_come net i (map ask_tree job.asks.items) c.args.bytes.now whole c.in_ok-text.ensures.text
