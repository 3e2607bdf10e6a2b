use Rattle.std.proofs.Common.{rules, ◌≡◌, ◌≤◌, ◌∙◌, ap, length, take, drop}
use Rattle.fault_places.specs.declared.excerpt.TheConstants.{MOST_SHOWN}
use Rattle.fault_places.proofs.Lists.{all_taken}
use Rattle.fault_places.proofs.excerpt.window.Goals as goal

pub returns-then-rest-le-MOST_SHOWN : goal.returns-then-rest-le-MOST_SHOWN
returns-then-rest-le-MOST_SHOWN c =
    let left : c.split_at.result.1.now ≡ drop c.args.first c.args.line.now = cc in
    let short : length c.split_at.result.1.now ≤ MOST_SHOWN = search rules in
    all_taken MOST_SHOWN c.split_at.result.1.now short ∙ ap (take MOST_SHOWN) left
