-- Where comments and arguments end.
use Rattle.std.specs.Prelude.{ℕ, ◌+◌, ◌==◌, Bool, true, false, if◌then◌else◌, List, [], ◌∷◌, Option, None, Some}
use Rattle.click_text.specs.declared.comment.Mode.{Mode}
use Rattle.click_text.specs.declared.comment.Mode.TheVariants.{Plain, Slash, Line, Block, Star}

-- behind one byte more: two slashes begin a comment to the end of the line, a slash and an asterisk one up to an asterisk and a slash
abbrev pub mode_behind : Mode → ℕ → Mode
mode_behind Plain c = if c == 47 then Slash else Plain
mode_behind Slash c = if c == 47 then Line else (if c == 42 then Block else Plain)
mode_behind Line c = if c == 10 then Plain else Line
mode_behind Block c = if c == 42 then Star else Block
mode_behind Star c = if c == 47 then Plain else (if c == 42 then Star else Block)

abbrev pub is_plain : Mode → Bool
is_plain Plain = true
is_plain Slash = false
is_plain Line = false
is_plain Block = false
is_plain Star = false

-- a parenthesis closes arguments unless it stands in a comment
abbrev pub closes : Mode → ℕ → Bool
closes Plain c = c == 41
closes Slash c = c == 41
closes Line c = false
closes Block c = false
closes Star c = false

-- how many bytes there are up to the end of a comment, behind this many bytes of it; one that is not closed takes them all
abbrev pub comment_end : Mode → ℕ → List ℕ → ℕ
comment_end mode count [] = count
comment_end mode count (c ∷ rest) =
    if is_plain (mode_behind mode c) then count + 1 else comment_end (mode_behind mode c) (count + 1) rest

-- how many bytes there are up to the parenthesis that closes arguments, behind this many bytes of them
abbrev pub arguments_end : Mode → ℕ → List ℕ → Option ℕ
arguments_end mode count [] = None
arguments_end mode count (c ∷ rest) =
    if closes mode c then Some (count + 1) else arguments_end (mode_behind mode c) (count + 1) rest

-- the number of the line behind bytes that begin in a line
abbrev pub line_behind : ℕ → List ℕ → ℕ
line_behind line [] = line
line_behind line (c ∷ rest) = line_behind (if c == 10 then line + 1 else line) rest
