-- The lines of a file.
use Rattle.std.specs.Prelude.{ℕ, ◌+◌, ◌-◌, ◌==◌, if◌then◌else◌, List, [], ◌∷◌, take, drop, Option, None, Some, option_map}
use Rattle.std.specs.List.{prefix_len}
use Rattle.sefl_lex.specs.Bytes.{is_line_byte}

-- how many bytes `lines` lines take with their ends, behind `count` bytes
abbrev pub skipped : ℕ → ℕ → List ℕ → Option ℕ
skipped lines count [] = if lines == 0 then Some count else None
skipped lines count (c ∷ rest) =
    if lines == 0 then Some count else skipped (if c == 10 then lines - 1 else lines) (count + 1) rest

-- the bytes before the first line's end
abbrev pub first_line : List ℕ → List ℕ
first_line bytes = take (prefix_len is_line_byte bytes) bytes

-- the line of this number, from 1
abbrev pub line_of : ℕ → List ℕ → Option (List ℕ)
line_of number bytes = if number == 0 then None else option_map (λ n. first_line (drop n bytes)) (skipped (number - 1) 0 bytes)
