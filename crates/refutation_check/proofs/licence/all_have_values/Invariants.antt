use Rattle.std.proofs.Common.{◌≡◌, ℕ, ◌<◌, true}
use Rattle.sn_width.specs.declared.ids.SymId.{SymId}
use Rattle.refutation_check.specs.Decisions.{is_possible}
use Rattle.refutation_check.proofs.licence.all_have_values.Given as goal

-- the symbols so far have a value
abbrev pub invariant-loop-symbol : goal.invariant-loop-symbol
invariant-loop-symbol l = (s : SymId) → s.0 < l.symbol → (value : ℕ) × (is_possible l.cond s value ≡ true)
