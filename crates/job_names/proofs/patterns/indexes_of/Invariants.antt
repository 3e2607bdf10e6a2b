use Rattle.std.proofs.Common.{◌≡◌, ℕ, List, bytes_eq, drop}
use Rattle.std.specs.List.{position_from}
use Rattle.std.specs.Map.{keys_of}
use Rattle.std.specs.Option.{option_or}
use Rattle.job_names.specs.Tables.{at_text}
use Rattle.job_names.proofs.patterns.indexes_of.Given as goal

-- what is entered, or else found among what is left, is what is found in the whole
abbrev pub invariant-loop-index : goal.invariant-loop-index
invariant-loop-index l = (text : List ℕ)
    → option_or (at_text l.indexes.entries text) (position_from (bytes_eq text) l.index (keys_of (drop l.index l.rows)))
    ≡ position_from (bytes_eq text) 0 (keys_of l.rows)
