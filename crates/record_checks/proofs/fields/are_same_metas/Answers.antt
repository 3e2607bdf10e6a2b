use Rattle.std.proofs.Common.{◌≡◌, ◌∙◌, false, rules, sym}
use Rattle.metadata_scopes.specs.Scopes.{lent_meta}
use Rattle.path_records.specs.Shown.{held_meta}
use Rattle.record_checks.proofs.Same.{no_yes, other_members}
use Rattle.record_checks.proofs.fields.are_same_metas.Goals as goal

pub returns-then-not-is_same_meta : goal.returns-then-not-is_same_meta
returns-then-not-is_same_meta c =
    let no : c.is_same_meta.result ≡ false = search rules in
    other_members lent_meta held_meta c.args.first.now c.args.second.now c.loop-place.place c.index-first-place.result c.index-second-place.result c.loop-place-test.true
    c.index-first-place.is c.index-second-place.is (λ e. no_yes (sym no ∙ c.is_same_meta.ensures.1 e))
