use Rattle.command_runs.proofs.ReadLemmas.{read_fails}
use Rattle.command_runs.proofs.job.read.Goals as goal

pub returns-in-Err-clause-fails : goal.returns-in-Err-clause-fails
returns-in-Err-clause-fails c =
    read_fails c.args.bytes.now c.in-Err.fault c.fault_of_reading.result c.fault_of_reading.ensures c.in-Err.ensures.answer c.in-Err.ensures.only
