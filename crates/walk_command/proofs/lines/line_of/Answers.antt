use Rattle.std.proofs.Common.{refl, string_bytes}
use Rattle.std.proofs.lemmas.Result.{IfOk-weaker}
use Rattle.net_check.specs.Network.{entry, network}
use Rattle.command_edge.specs.Puts.{text}
use Rattle.command_edge.specs.declared.ending.Ending.TheVariants.{Done}
use Rattle.walk_command.specs.Lines.{IsLineOf, TellsRefusal}
use Rattle.walk_command.proofs.LineLemmas.{refused_line}
use Rattle.walk_command.proofs.lines.line_of.Goals as goal

pub returns-in-Ok : goal.returns-in-Ok
returns-in-Ok c = record { outcome = text Done (string_bytes c.in-Ok.text); comes = c.in-Ok.ensures.text; is = refl }

pub returns-in-Err : goal.returns-in-Err
returns-in-Err c =
    let net = network c.args.job.now.net in
    let i = entry c.args.job.now.injection in
    IfOk-weaker c.line_of_refusal.result (λ t. TellsRefusal c.in-Err.fault (string_bytes t))
    (λ t. IsLineOf c.args.hops c.args.limit net i c.args.bytes.now (string_bytes t))
    (λ t tells. refused_line c.args.hops c.args.limit net i c.args.bytes.now (string_bytes t) c.in-Err.fault c.in-Err.ensures.refused tells)
    c.line_of_refusal.ensures
