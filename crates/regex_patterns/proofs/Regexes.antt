-- What a compiled pattern finds, in the words of its text.
use Rattle.std.proofs.Common.{◌≡◌, ℕ, ◌<◌, ◌≤◌, List, length, Option, None, Some, false, true, get_or, IsSomeAnd, is_some}
use Rattle.std.specs.Option.{option_map_or}
use Rattle.std.specs.Str.{chars}
use Rattle.regex.specs.Patterns.{Re, SameCaptures, Reads, find_str, default_config}
use Rattle.regex.specs.Strings.{regex_pattern, regex_source, regex_names}
use Rattle.regex.specs.declared.string.regex.Regex.{Regex}
use Rattle.regex.proofs.ForCallers.{is_match_alike}
use Rattle.regex_syntax.specs.Brackets.{Nested}
use Rattle.regex_syntax.specs.Grammar.{Names, group_count, read}
use Rattle.regex_patterns.specs.Found.{IsPattern, IsByDefault, finds_match}

weaker : {A : Type 0} (o : Option A) {P Q : A → Type 0} → ((x : A) → P x → Q x) → IsSomeAnd o P → IsSomeAnd o Q
weaker None f p = p
weaker (Some x) f p = f x p

-- a compiled pattern is one
pub pattern_of_compiled : (regex : Regex) → IsByDefault regex → IsPattern (regex_source regex)
unfolding Reads
pattern_of_compiled regex by =
    weaker (read default_config (chars (regex_source regex))) (λ _ p. p.0) (rw by.is_default at by.is_read)

same_match : (o : Option (Nested Re × Names)) (most : ℕ) (re : Re) (name : List ℕ) (names : Names) → ((k : ℕ) → get_or name k 0 < 256) →
    IsSomeAnd o (λ (tree, found). (tree.depth ≤ most) × SameCaptures re tree.value × (names ≡ found) × (group_count re ≤ length names)) →
    is_some (find_str re name 0) ≡ option_map_or (λ (tree, _). is_some (find_str tree.value name 0)) o false
same_match None most re name names bytes p = absurd p
same_match (Some found) most re name names bytes p = is_match_alike p.1 name bytes true 0

-- and it matches as the tree does that its text is read as
pub match_of_compiled : (regex : Regex) → IsByDefault regex → (name : List ℕ) → ((k : ℕ) → get_or name k 0 < 256) →
    is_some (find_str (regex_pattern regex) name 0) ≡ finds_match (regex_source regex) name
unfolding Reads
match_of_compiled regex by name bytes =
    same_match (read default_config (chars (regex_source regex))) default_config.nest_limit (regex_pattern regex) name (regex_names regex) bytes
    (rw by.is_default at by.is_read)
