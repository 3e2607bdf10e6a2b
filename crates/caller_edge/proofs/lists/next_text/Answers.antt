use Rattle.caller_edge.proofs.Gathering.{not_text}
use Rattle.caller_edge.proofs.lists.next_text.Goals as goal

pub returns-in-Err-clause-none : goal.returns-in-Err-clause-none
returns-in-Err-clause-none c = not_text c.args.bytes.now c.in_ok-part.part.now c.in_ok-part.left.now c.in_ok-part.ensures.some c.in-Err.ensures.cases.0
