use Rattle.std.proofs.Common.{sym, ◌∙◌}
use Rattle.job_names.proofs.Indexing.{entered, kept}
use Rattle.job_names.proofs.patterns.enter.Goals as goal

pub returns-then-contains_key : goal.returns-then-contains_key
returns-then-contains_key c = kept c.args.indexes.now.entries c.args.pattern.now c.args.index (sym c.contains_key.ensures ∙ c.if-contains_key.true)

pub returns : goal.returns
returns c =
    entered c.args.indexes.now.entries c.args.pattern.now c.args.index c.insert.new.self.entries c.in_ok-own.own c.in_ok-own.ensures.cases
    (sym c.contains_key.ensures ∙ c.if-contains_key.false) c.in_ok-insert.ensures.updates.0
