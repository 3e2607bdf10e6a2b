-- What a split shows, by the length of its way.
use Rattle.std.proofs.Common.{◌≡◌, ◌≤◌, ℕ, List, [], ◌∷◌, length, Result, arith}
use Rattle.std.specs.Prelude.{codes}
use Rattle.json.specs.Token.{Token}
use Rattle.run_text.specs.Tokens.{Gains}
use Rattle.record_text.specs.Records.{numbered_data, member_split_data, split_data}

module _ {E : Type 0} (pick : ℕ) (r : Result (Unit {0}) E) (old new : List Token) where
  pub of_formula : (way : List ℕ) → length way ≡ 0 → Gains (numbered_data (codes "split") pick) r old new → Gains (split_data pick way) r old new
  of_formula [] none h = h
  of_formula (number ∷ way) none h = absurd (omega arith)

  pub of_member : (way : List ℕ) → 1 ≤ length way → Gains (member_split_data pick way) r old new → Gains (split_data pick way) r old new
  of_member [] some h = absurd (omega arith)
  of_member (number ∷ way) some h = h
