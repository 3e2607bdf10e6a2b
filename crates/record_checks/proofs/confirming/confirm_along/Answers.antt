use Rattle.exact_records.specs.View.{record_trees}
use Rattle.record_checks.proofs.OneAnswer.{confirmed_back}
use Rattle.record_checks.proofs.Parts.{parts_make_it}
use Rattle.record_checks.proofs.confirming.confirm_along.Goals as goal

pub returns-clause-back : goal.returns-clause-back
returns-clause-back g c =
    let s = g.G.Guide.start in
    confirmed_back s (parts_make_it s) (record_trees c.args.records.now) c.confirm_each.result c.confirm_each.ensures
