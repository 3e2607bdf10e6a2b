-- The number of unknown fields.
use Rattle.std.proofs.Common.{◌≡◌, refl, ap, ℕ, suc, List, [], ◌∷◌, ◌++◌, length, Option, None, Some, cond, filter}
use Rattle.std.specs.Prelude.{is_none}
use Rattle.sefl_syntax.specs.declared.job.RawField.{RawField}
use Rattle.job_items.specs.AtomRules.{width_of}
use Rattle.net_check.specs.Network.{is_unknown, unknown_widths, width_unless}

pub unknown_fields : (fields : List RawField) → length (filter is_unknown fields) ≡ length (unknown_widths fields)
unknown_fields [] = refl
unknown_fields (f ∷ fields) = by f.value (unknown_fields fields)
  where
    others : List RawField
    others = filter is_unknown fields

    by : (value : Option ℕ) → length others ≡ length (unknown_widths fields)
        → length (cond (is_none value) (f ∷ others) others) ≡ length (width_unless value (width_of f.target) ++ unknown_widths fields)
    by None same = ap suc same
    by (Some n) same = same
