use Rattle.std.proofs.lemmas.Result.{IfOk-weaker}
use Rattle.click_text.proofs.NameLemmas.{names_are_names}
use Rattle.click_text.proofs.statement.read_items.Goals as goal

pub returns-clause-names : goal.returns-clause-names
returns-clause-names c = IfOk-weaker c.all_items.result _ _ (λ items is. names_are_names c.args.bytes.now items.items is) c.all_items.ensures.items
