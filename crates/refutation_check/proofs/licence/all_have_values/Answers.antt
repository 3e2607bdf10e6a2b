use Rattle.std.proofs.Common.{◌≡◌, ℕ, ◌<◌, true, false, length, IsTrue, sym, ◌∙◌, rules}
use Rattle.sn_width.specs.declared.ids.SymId.{SymId}
use Rattle.refutation_check.specs.Decisions.{is_possible}
use Rattle.refutation_check.proofs.Testing.{next_symbol}
use Rattle.refutation_check.proofs.Walking.{answer_no, false_yes}
use Rattle.refutation_check.proofs.licence.all_have_values.Goals as goal

pub returns-then-not-branch : goal.returns-then-not-branch
returns-then-not-branch c =
    let cond = c.args.cond.now in
    let no : c.in_ok-has_value.field-0 ≡ false = search rules in
    let known : c.loop-symbol.symbol < length cond.widths = search rules in
    answer_no ((s : SymId) → s.0 < length cond.widths → (value : ℕ) × (is_possible cond s value ≡ true))
    (λ all. false_yes (sym no ∙ c.in_ok-has_value.ensures.1 (all record { 0 = c.loop-symbol.symbol } known)))

pub loop-symbol-preserved : goal.loop-symbol-preserved
loop-symbol-preserved c =
    let cond = c.args.cond.now in
    let yes : IsTrue c.in_ok-has_value.field-0 = search rules in
    next_symbol (λ s. (value : ℕ) × (is_possible cond s value ≡ true)) c.loop-symbol.symbol c.loop-symbol.invariant (c.in_ok-has_value.ensures.0 yes)
