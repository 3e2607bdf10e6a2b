use Rattle.caller_edge.proofs.Gathering.{if_none, not_file}
use Rattle.caller_edge.proofs.lists.next_file.Goals as goal

pub returns-in_err-file-clause-none : goal.returns-in_err-file-clause-none
returns-in_err-file-clause-none c =
    if_none _ _ (not_file c.args.bytes.now c.in_ok-name.name.now c.in_ok-name.behind.now c.in_ok-name.ensures.some c.in_err-file.ensures.none)
