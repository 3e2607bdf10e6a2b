use Rattle.std.proofs.Common.{◌∙◌, ap, subst, sym}
use Rattle.std.specs.Prelude.{option_map, slice_get}
use Rattle.std.proofs.lemmas.Option.{slice_get-map}
use Rattle.sefl_syntax.specs.Views.{ask_tree}
use Rattle.job_items.specs.Items.{ask_item}
use Rattle.job_names.specs.Names.{names_of}
use Rattle.net_check.specs.Keeping.{HasNamesOf, KeepsRules}
use Rattle.net_check.proofs.AtomLemmas.{item_atoms_keep}
use Rattle.net_check.proofs.NameLemmas.{job_names_known}
use Rattle.net_check.proofs.SoundLemmas.{items_keep_rules, of_ask}
use Rattle.net_check.proofs.laws.questions_keep_the_rules.Goals as goal

pub returns-clause-told : goal.returns-clause-told
returns-clause-told c = λ j a is index ask at.
    (j, is.sound, is.net, is.injection.0, (index, ap (λ asks. slice_get asks index) (sym is.asks) ∙ slice_get-map ask_tree a.asks.items index ∙ ap (option_map ask_tree) at))

pub returns-clause-rules : goal.returns-clause-rules
returns-clause-rules c = λ net i ask (j, sound, is, own, (index, at)). of_ask KeepsRules j (items_keep_rules j sound) index ask at

pub returns-clause-widths : goal.returns-clause-widths
returns-clause-widths c = λ net i ask (j, sound, is, own, (index, at)).
    item_atoms_keep (ask_item ask) (of_ask KeepsRules j (items_keep_rules j sound) index ask at)

pub returns-clause-names : goal.returns-clause-names
returns-clause-names c = λ net i ask (j, sound, is, own, (index, at)).
    subst (λ names. HasNamesOf names (ask_item ask)) (sym is.names)
    (of_ask (HasNamesOf (names_of j)) j (job_names_known j c.sets_ascend.ensures.members) index ask at)
