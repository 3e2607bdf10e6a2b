use Rattle.std.proofs.Common.{sym, ◌∙◌}
use Rattle.job_names.proofs.Sets.{kept_first, noted_first}
use Rattle.job_names.proofs.survey.note_pattern.Goals as goal

pub returns-then-contains_key : goal.returns-then-contains_key
returns-then-contains_key c =
    kept_first c.args.patterns.now.entries c.args.pattern.now c.args.site (sym c.contains_key.ensures ∙ c.if-contains_key.true)

pub returns : goal.returns
returns c =
    noted_first c.args.patterns.now.entries c.insert.new.self.entries c.in_ok-pattern.pattern c.args.pattern.now c.args.site
    c.in_ok-pattern.ensures.cases (sym c.contains_key.ensures ∙ c.if-contains_key.false) c.in_ok-insert.ensures.entries
