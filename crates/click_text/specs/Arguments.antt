-- The text of arguments without its comments, with spaces as its only blanks.
use Rattle.std.specs.Prelude.{ℕ, ◌-◌, ◌==◌, ◌||◌, if◌then◌else◌, List, [], ◌∷◌, ◌++◌, take, drop, length}
use Rattle.sefl_lex.specs.Bytes.{is_blank}
use Rattle.click_text.specs.declared.comment.Mode.{Mode}
use Rattle.click_text.specs.declared.comment.Mode.TheVariants.{Plain, Slash, Line, Block, Star}
use Rattle.click_text.specs.Comments.{mode_behind}

-- without the parentheses
abbrev pub inside : List ℕ → List ℕ
inside arguments = take (length arguments - 2) (drop 1 arguments)

-- a space for each blank
abbrev pub spaced : ℕ → ℕ
spaced c = if is_blank c then 32 else c

-- what is known of the text with one byte more: a slash waits for the byte behind it, and a comment is one space
abbrev pub put_behind : Mode → ℕ → List ℕ
put_behind Plain c = if c == 47 then [] else spaced c ∷ []
put_behind Slash c = if c == 47 || c == 42 then 32 ∷ [] else 47 ∷ spaced c ∷ []
put_behind Line c = []
put_behind Block c = []
put_behind Star c = []

-- and at its end
abbrev pub put_last : Mode → List ℕ
put_last Plain = []
put_last Slash = 47 ∷ []
put_last Line = []
put_last Block = []
put_last Star = []

-- behind what is known so far
abbrev pub without_comments : Mode → List ℕ → List ℕ → List ℕ
without_comments mode text [] = text ++ put_last mode
without_comments mode text (c ∷ rest) = without_comments (mode_behind mode c) (text ++ put_behind mode c) rest

abbrev pub arguments_text : List ℕ → List ℕ
arguments_text arguments = without_comments Plain [] (inside arguments)
