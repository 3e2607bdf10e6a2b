use Rattle.std.proofs.Common.{arith}
use Rattle.report_names.proofs.Halves.{cut_at}
use Rattle.report_names.proofs.places.at_point.Goals as goal

pub returns : goal.returns
returns c = cut_at 46 c.args.text.now c.split_once.result c.split_once.ensures.cases (omega arith)
