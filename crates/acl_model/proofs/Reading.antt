-- No line of a filter list contradicts another.
use Rattle.std.proofs.Common.{◌≡◌, ℕ, suc, Bool, true, false, nat_lt, if◌then◌else◌, List, [], ◌∷◌, ◌++◌, length, Result, Ok, Err}
use Rattle.table_lines.specs.declared.fault.TableFault.{TableFault}
use Rattle.table_lines.specs.declared.fault.TableFault.TheVariants.{Conflict, Limit}
use Rattle.table_lines.specs.Reading.{and_then, read_from}
use Rattle.acl_rules.specs.declared.rule.Rule.{Rule}
use Rattle.acl_model.specs.declared.content.Content.{Content}
use Rattle.acl_model.specs.declared.content.Content.TheVariants.{Skipped, Bad, Rule as a_rule}
use Rattle.acl_model.specs.Contents.{content_of}
use Rattle.acl_model.specs.Rules.{said, step}

module _ (line earlier : ℕ) where
  added_no : (b : Bool) (rules : List Rule) (at : ℕ) → ◌≡◌ {A = Result (List Rule) TableFault} (if b then Ok rules else Err (Limit at)) (Err (Conflict line earlier)) → ⊥
  added_no true rules at is = cc
  added_no false rules at is = cc

  said_no : (rules : List Rule) (at : ℕ) (content : Content) → said rules at content ≡ Err (Conflict line earlier) → ⊥
  said_no rules at Skipped is = cc
  said_no rules at Bad is = cc
  said_no rules at (a_rule rule) is = added_no (nat_lt (length rules) 1024) (rules ++ rule ∷ []) at is

  pub no_conflict : (rules : List Rule) (at : ℕ) (lines : List (List ℕ)) → read_from step at rules lines ≡ Err (Conflict line earlier) → ⊥
  no_conflict rules at [] is = cc
  no_conflict rules at (text ∷ lines) is =
      by (step rules at text) (said_no rules at (content_of text)) (λ s. no_conflict s (suc at) lines) is
    where
      by : (r : Result (List Rule) TableFault) → (r ≡ Err (Conflict line earlier) → ⊥)
          → ((s : List Rule) → read_from step (suc at) s lines ≡ Err (Conflict line earlier) → ⊥)
          → and_then r (λ s. read_from step (suc at) s lines) ≡ Err (Conflict line earlier) → ⊥
      by (Ok s) none later is = later s is
      by (Err fault) none later is = none is
