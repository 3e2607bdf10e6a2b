-- What a line of a filter list's file says.
use Rattle.std.specs.Prelude.{ℕ, Bool, true, false, bytes_eq, codes, if◌then◌else◌, List, [], ◌∷◌, Option, None, Some, option_map}
use Rattle.std.specs.List.{list_all}
use Rattle.table_lines.specs.Addresses.{if_some}
use Rattle.table_lines.specs.Words.{is_ascii_byte, before_comment, words}
use Rattle.acl_rules.specs.declared.rule.Rule.{Rule}
use Rattle.acl_rules.specs.Covers.{IsRule}
use Rattle.acl_model.specs.declared.content.Content.{Content}
use Rattle.acl_model.specs.declared.content.Content.TheVariants.{Skipped, Bad, Rule as a_rule}
use Rattle.acl_model.specs.Fields.{addresses_of, ports_of, protocol_of}

abbrev pub action_of : List ℕ → Option Bool
action_of word = if bytes_eq word (codes "permit") then Some true else (if bytes_eq word (codes "deny") then Some false else None)

-- whether it permits, and then its five fields
abbrev pub rule_of : List ℕ → List ℕ → List ℕ → List ℕ → List ℕ → List ℕ → Option Rule
rule_of action protocol source destination «from» to =
    if_some (action_of action) (λ permits. if_some (protocol_of protocol) (λ p. if_some (addresses_of source) (λ s.
    if_some (addresses_of destination) (λ d. if_some (ports_of «from») (λ f. option_map
    (λ t. record { permits = permits; ranges = p ∷ s ∷ d ∷ f ∷ t ∷ [] }) (ports_of to))))))

abbrev pub rule_or_bad : Option Rule → Content
rule_or_bad None = Bad
rule_or_bad (Some rule) = a_rule rule

abbrev pub words_say : List (List ℕ) → Content
words_say [] = Skipped
words_say (action ∷ protocol ∷ source ∷ destination ∷ «from» ∷ to ∷ []) = rule_or_bad (rule_of action protocol source destination «from» to)
words_say (word ∷ later) = Bad

-- a byte that is no ASCII character makes its line bad, in a comment too
abbrev pub content_of : List ℕ → Content
content_of line = if list_all is_ascii_byte line then words_say (words (before_comment line)) else Bad

-- a rule that a line says is one
abbrev pub IsFine : Content → Type 0
IsFine Skipped = Unit {0}
IsFine Bad = Unit {0}
IsFine (a_rule rule) = IsRule rule
