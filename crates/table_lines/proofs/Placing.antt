-- A row of a key that no earlier row has.
use Rattle.std.proofs.Common.{◌≡◌, ◌∙◌, sym, ap, ℕ, ◌+◌, ◌<◌, if◌then◌else◌, List, [], ◌∷◌, ◌++◌, None, Ok, Err}
use Rattle.std.proofs.lemmas.Bool.{lt-ltb}
use Rattle.std.specs.Map.{lookup}
use Rattle.table_lines.specs.declared.fault.TableFault.TheVariants.{Limit}
use Rattle.table_lines.specs.declared.entries.Seen.{Seen}
use Rattle.table_lines.specs.Rows.{Key, State, is_key, limit_of, placed}

pub place_new : (s : State) (line : ℕ) (key : Key) (port : ℕ) (rows : List (Key × Seen)) → lookup (is_key key) s.rows ≡ None → s.count < limit_of s.kind
    → rows ≡ s.rows ++ (key, record { line = line; port = port }) ∷ []
    → placed s line key port (lookup (is_key key) s.rows) ≡ Ok (record s { rows = rows; count = s.count + 1 })
place_new s line key port rows none less is =
    ap (placed s line key port) none
    ∙ (λ i. if lt-ltb s.count (limit_of s.kind) less i then Ok (record s { rows = sym is i; count = s.count + 1 }) else Err (Limit line))
