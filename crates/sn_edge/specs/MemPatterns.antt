-- Patterns by a table.
use Rattle.std.specs.Prelude.{ℕ, ◌+◌, ◌^◌, ◌-◌, ◌≡◌, List, String, Bool, false, ◌&&◌, IsTrue, IsFalse, option_map, unwrap_or, string_bytes}
use Rattle.std.specs.List.{find, list_any}
use Rattle.std.specs.Str.{bytes_eq}
use Rattle.sn_edge.specs.declared.patterns.Found.{Found}
use Rattle.sn_edge.specs.declared.patterns.Found.TheVariants.{Yes, No, Bad, NoMemory}

-- the rows, each a pattern, a name and whether it is found, the bad patterns, and how often one was refused
pub record PatternTable : Type 0 where
  pub rows : List (List ℕ × List ℕ × Bool)
  pub bad : List (List ℕ)
  pub refusals : ℕ

-- a row with its texts as bytes
abbrev pub row_of : {A B : Type 0} → String A × String B × Bool → List ℕ × List ℕ × Bool
row_of (pattern, name, found) = (string_bytes pattern, string_bytes name, found)

-- what the first row for the pair says, and else false
abbrev pub finds_by : List (List ℕ × List ℕ × Bool) → List ℕ → List ℕ → Bool
finds_by rows pattern name =
    unwrap_or (option_map (λ row. row.2) (find (λ row. bytes_eq row.0 pattern && bytes_eq row.1 name) rows)) false

-- whether the text is in the list
abbrev pub is_listed : List (List ℕ) → List ℕ → Bool
is_listed texts text = list_any (λ own. bytes_eq own text) texts

-- A bad pattern is refused, while the count has room; else the table answers.
abbrev pub IsFoundBy : PatternTable → List ℕ → List ℕ → Found → Type 0
IsFoundBy table pattern name Yes = IsFalse (is_listed table.bad pattern) × IsTrue (finds_by table.rows pattern name)
IsFoundBy table pattern name No = IsFalse (is_listed table.bad pattern) × IsFalse (finds_by table.rows pattern name)
IsFoundBy table pattern name Bad = IsTrue (is_listed table.bad pattern)
IsFoundBy table pattern name NoMemory = IsTrue (is_listed table.bad pattern) × (table.refusals ≡ 2 ^ 64 - 1)

-- a refusal is counted, and nothing else changes
abbrev pub after_find : PatternTable → Found → PatternTable
after_find old Yes = old
after_find old No = old
after_find old Bad = record old { refusals = old.refusals + 1 }
after_find old NoMemory = old
