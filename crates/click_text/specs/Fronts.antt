-- What stands at the front of a configuration's text: a blank, a comment or a token.
use Rattle.std.specs.Prelude.{ℕ, ◌+◌, ◌==◌, ◌&&◌, nat_lt, if◌then◌else◌, List, [], ◌∷◌, length, Option, None, Some}
use Rattle.std.specs.List.{prefix_len}
use Rattle.sefl_lex.specs.Bytes.{is_blank, is_name_start, is_decimal, is_name_byte, begins}
use Rattle.click_text.specs.declared.comment.Mode.TheVariants.{Plain, Line, Block}
use Rattle.click_text.specs.declared.token.TokenKind.{TokenKind}
use Rattle.click_text.specs.declared.token.TokenKind.TheVariants.{Name, Number, Arrow, Colons, OpenPort, ClosePort, Semicolon, Arguments, OpenArguments, Stray}
use Rattle.click_text.specs.declared.front.Front.{Front}
use Rattle.click_text.specs.Comments.{comment_end, arguments_end}

-- a blank or a comment, with this many bytes behind its first one
abbrev pub gap : ℕ → Front
gap more = record { token = None; more = more }

abbrev pub word : TokenKind → ℕ → Front
word kind more = record { token = Some kind; more = more }

-- a name has at most 64 bytes
abbrev pub name_front : List ℕ → Front
name_front rest =
    let more = prefix_len is_name_byte rest in if nat_lt more 64 then word Name more else word Stray 0

-- behind a slash
abbrev pub slash_front : List ℕ → Front
slash_front [] = word Stray 0
slash_front (c ∷ inside) =
    if c == 47 then gap (comment_end Line 0 inside + 1)
    else (if c == 42 then gap (comment_end Block 0 inside + 1) else word Stray 0)

abbrev pub closed_front : Option ℕ → ℕ → Front
closed_front (Some more) all = word Arguments more
closed_front None all = word OpenArguments all

-- behind a parenthesis that opens
abbrev pub arguments_front : List ℕ → Front
arguments_front rest = closed_front (arguments_end Plain 0 rest) (length rest)

-- the sign of one byte: [ ] ;
abbrev pub single : ℕ → TokenKind
single c = if c == 91 then OpenPort else (if c == 93 then ClosePort else (if c == 59 then Semicolon else Stray))

-- a sign of two bytes, -> or ::, or of one
abbrev pub sign_front : ℕ → List ℕ → Front
sign_front c rest =
    if c == 45 && begins (λ d. d == 62) rest then word Arrow 1
    else (if c == 58 && begins (λ d. d == 58) rest then word Colons 1 else word (single c) 0)

abbrev pub front_of : ℕ → List ℕ → Front
front_of c rest =
    if is_blank c then gap 0
    else (if is_name_start c then name_front rest
    else (if is_decimal c then word Number (prefix_len is_name_byte rest)
    else (if c == 47 then slash_front rest
    else (if c == 40 then arguments_front rest
    else sign_front c rest))))
