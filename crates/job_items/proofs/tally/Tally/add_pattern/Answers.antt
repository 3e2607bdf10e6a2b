use Rattle.std.proofs.Common.{◌≡◌, ◌∙◌, ap}
use Rattle.job_items.specs.Rules.{with_text}
use Rattle.job_items.specs.Progress.{lent_texts}
use Rattle.job_items.proofs.Texts.{lent_insert}
use Rattle.job_items.proofs.tally.Tally.add_pattern.Goals as goal

pub returns : goal.returns
returns c =
    let added : lent_texts c.insert.new.self.keys ≡ with_text (lent_texts c.args.self.now.patterns.keys) c.args.pattern.now
    = ap lent_texts c.in_ok-insert.ensures.keys ∙ lent_insert c.args.self.now.patterns.keys c.args.pattern in
    cc
