use Rattle.std.proofs.Common.{subst, sym}
use Rattle.std.specs.List.{AllByRecursion}
use Rattle.job_items.specs.Items.{net_items}
use Rattle.job_names.specs.Names.{names_of}
use Rattle.net_check.specs.Keeping.{HasNamesOf, line_items}
use Rattle.net_check.proofs.NameLemmas.{job_names_known}
use Rattle.net_check.proofs.SoundLemmas.{of_lines, of_net}
use Rattle.net_check.proofs.laws.names_are_known.Goals as goal

pub returns-clause-net : goal.returns-clause-net
returns-clause-net c = λ net (j, sound, is).
    subst (λ own. AllByRecursion (HasNamesOf net.names) (net_items own)) (sym is.own)
    (subst (λ names. AllByRecursion (HasNamesOf names) (net_items j.net)) (sym is.names)
    (of_net (HasNamesOf (names_of j)) j (job_names_known j c.sets_ascend.ensures.members)))

pub returns-clause-injection : goal.returns-clause-injection
returns-clause-injection c = λ net i (j, sound, is, own).
    subst (λ x. AllByRecursion (HasNamesOf net.names) (line_items x)) (sym own.own)
    (subst (λ names. AllByRecursion (HasNamesOf names) (line_items j.injection)) (sym is.names)
    (of_lines (HasNamesOf (names_of j)) j (job_names_known j c.sets_ascend.ensures.members)))
