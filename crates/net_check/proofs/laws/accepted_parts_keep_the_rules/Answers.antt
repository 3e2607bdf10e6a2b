use Rattle.std.proofs.Common.{subst, sym}
use Rattle.std.specs.List.{AllByRecursion}
use Rattle.job_items.specs.Items.{net_items}
use Rattle.net_check.specs.Keeping.{KeepsRules, line_items}
use Rattle.net_check.proofs.SoundLemmas.{items_keep_rules, of_lines, of_net}
use Rattle.net_check.proofs.laws.accepted_parts_keep_the_rules.Goals as goal

pub returns-clause-net : goal.returns-clause-net
returns-clause-net c = λ net (j, sound, is).
    subst (λ own. AllByRecursion KeepsRules (net_items own)) (sym is.own) (of_net KeepsRules j (items_keep_rules j sound))

pub returns-clause-injection : goal.returns-clause-injection
returns-clause-injection c = λ i (j, sound, is).
    subst (λ own. AllByRecursion KeepsRules (line_items own)) (sym is.own) (of_lines KeepsRules j (items_keep_rules j sound))
