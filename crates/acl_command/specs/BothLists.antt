-- What a command writes of the bytes of two filter lists' files.
use Rattle.std.specs.Prelude.{ℕ, ◌≡◌, ◌⊎◌, List, [], ◌∷◌, Option, Some, Ok}
use Rattle.acl_rules.specs.declared.rule.Rule.{Rule}
use Rattle.acl_model.specs.Rules.{rules_of}
use Rattle.command_runs.specs.Inputs.{Given, some_bytes}
use Rattle.command_edge.specs.Puts.{Outcome, text, refused}
use Rattle.command_edge.specs.declared.ending.Ending.TheVariants.{Done}
use Rattle.command_edge.specs.declared.fault.OwnFault.TheVariants.{BadTable}
use Rattle.acl_command.specs.Lists.{bad_line}

module _ (IsText : List Rule → List Rule → List ℕ → Type 0) (left right : List ℕ) where
  -- a bad line of the first file; or that has a list, and the second one a bad line
  abbrev pub IsFirstBad : List ℕ → List ℕ → List ℕ → ℕ × ℕ → Type 0
  IsFirstBad bytes others name place =
      ((name ≡ left) × (bad_line (rules_of bytes) ≡ Some place))
      ⊎ ((rules : List Rule) × (rules_of bytes ≡ Ok rules) × (name ≡ right) × (bad_line (rules_of others) ≡ Some place))

  -- a text of the rules of both files, or the first line that is bad
  abbrev pub OutcomeOfBoth : List ℕ → List ℕ → Outcome → Type 0
  OutcomeOfBoth bytes others (text ending whole) =
      (ending ≡ Done) × (one : List Rule) × (other : List Rule) × (rules_of bytes ≡ Ok one) × (rules_of others ≡ Ok other) × IsText one other whole
  OutcomeOfBoth bytes others (refused (BadTable name line kind)) = IsFirstBad bytes others name (line, kind)
  OutcomeOfBoth bytes others _ = ⊥

  -- the command on files with these names
  abbrev pub ListsCome : List Given → Outcome → Type 0
  ListsCome (some_bytes bytes ∷ some_bytes others ∷ []) outcome = OutcomeOfBoth bytes others outcome
  ListsCome _ outcome = ⊥
