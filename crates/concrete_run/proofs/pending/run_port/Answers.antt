use Rattle.std.proofs.Common.{◌∙◌}
use Rattle.std.proofs.lemmas.Result.{IfOk-weaker}
use Rattle.net_check.specs.Network.{network}
use Rattle.sefl_meaning.specs.Carried.{scene_at}
use Rattle.sefl_meaning.specs.Runs.{noting, run_code}
use Rattle.packet_run.specs.Packets.{progress_of}
use Rattle.concrete_run.proofs.pending.run_port.Goals as goal

pub returns-clause-run : goal.returns-clause-run
returns-clause-run g c =
    let net = network c.args.net.now in
    let old = c.args.packet.now in
    IfOk-weaker c.run_code.result _ _
    (λ exit runs. (
      runs.0,
      runs.1
          ∙ (λ i. noting old.decisions.items (run_code old.numbers.numbers.now old.numbers.unknowns (scene_at net c.args.node) (c.in_ok-site.ensures i) (c.code_of-code.ensures i) (progress_of old))),
    ))
    c.run_code.ensures.run
