-- What a command comes to, by the bytes of its file.
use Rattle.std.proofs.Common.{◌≡◌, refl, ℕ, List, [], ◌∷◌, Ok}
use Rattle.acl_rules.specs.declared.rule.Rule.{Rule}
use Rattle.acl_model.specs.Rules.{rules_of}
use Rattle.command_runs.specs.Inputs.{some_bytes}
use Rattle.command_runs.specs.Runs.{IsRefusal}
use Rattle.command_edge.specs.Puts.{text}
use Rattle.command_edge.specs.declared.ending.Ending.TheVariants.{Done}
use Rattle.command_edge.specs.declared.fault.OwnFault.{OwnFault}
use Rattle.command_edge.specs.declared.fault.OwnFault.TheVariants.{BadTable, NoMemory}
use Rattle.acl_command.specs.Lists.{IsBadFile, ListComes}

module _ (IsText : List Rule → List ℕ → Type 0) (name bytes : List ℕ) where
  pub no_list : (fault : OwnFault) → IsBadFile name bytes fault → IsRefusal (ListComes IsText name (some_bytes bytes ∷ [])) fault
  no_list (BadTable own line kind) h = h
  no_list NoMemory h = tt
  no_list fault h = absurd h

  pub list_comes : (rules : List Rule) (whole : List ℕ) → rules_of bytes ≡ Ok rules → IsText rules whole
      → ListComes IsText name (some_bytes bytes ∷ []) (text Done whole)
  list_comes rules whole is same = (refl, rules, is, same)
