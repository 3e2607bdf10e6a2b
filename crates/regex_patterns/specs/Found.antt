-- Patterns by the crate `regex`.
use Rattle.std.specs.Prelude.{ℕ, ◌+◌, ◌≡◌, ◌≤◌, List, Bool, true, false, IsTrue, IsFalse, IsSomeAnd, is_some, Result, Ok, Err}
use Rattle.std.specs.declared.alloc.AllocError.{AllocError}
use Rattle.std.specs.Option.{option_map_or}
use Rattle.std.specs.Str.{chars}
use Rattle.regex.specs.Patterns.{find_str, default_config}
use Rattle.regex.specs.Strings.{regex_config, IsReadFromSource}
use Rattle.regex.specs.declared.string.regex.Regex.{Regex}
use Rattle.regex_syntax.specs.Grammar.{read}
use Rattle.sn_edge.specs.declared.patterns.Found.{Found}
use Rattle.sn_edge.specs.declared.patterns.Found.TheVariants.{Yes, No, Bad, NoMemory}

-- the text is a pattern by the grammar of `regex`, within its limit on nesting
abbrev pub IsPattern : List ℕ → Type 0
IsPattern text = IsSomeAnd (read default_config (chars text)) (λ (re, _). re.depth ≤ default_config.nest_limit)

-- whether the text is a pattern that has a match anywhere in the name
abbrev pub finds_match : List ℕ → List ℕ → Bool
finds_match text name = option_map_or (λ (re, _). is_some (find_str re.value name 0)) (read default_config (chars text)) false

-- the regex was read from its text under the options that hold where none is set
pub record IsByDefault (regex : Regex) : Type 0 where
  pub is_default : regex_config regex ≡ default_config
  pub is_read : IsReadFromSource regex

-- Yes and No come only of a pattern. Bad is left open, since `regex` refuses a pattern that grows too large.
abbrev pub IsFoundByRegex : List ℕ → List ℕ → Found → Type 0
IsFoundByRegex text name Yes = IsPattern text × IsTrue (finds_match text name)
IsFoundByRegex text name No = IsPattern text × IsFalse (finds_match text name)
IsFoundByRegex text name Bad = Unit {0}
IsFoundByRegex text name NoMemory = Unit {0}

-- the count of refusals after a search that answers so
abbrev pub refusals_after : ℕ → Found → ℕ
refusals_after refusals Yes = refusals
refusals_after refusals No = refusals
refusals_after refusals Bad = refusals + 1
refusals_after refusals NoMemory = refusals

-- the answer of a search that found a match or none, or had no memory
abbrev pub search_answer : Result Bool AllocError → Found
search_answer (Ok true) = Yes
search_answer (Ok false) = No
search_answer (Err error) = NoMemory
