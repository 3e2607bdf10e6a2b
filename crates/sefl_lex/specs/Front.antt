-- What stands at the front of a text, computed.
use Rattle.std.specs.Prelude.{ℕ, ◌+◌, ◌==◌, nat_le, List, [], ◌∷◌, take, drop, if◌then◌else◌}
use Rattle.std.specs.List.{prefix_len}
use Rattle.sefl_lex.specs.declared.token.TokenKind.TheVariants.{Name, Number, Text, Sign}
use Rattle.sefl_lex.specs.declared.front.Front.{Front}
use Rattle.sefl_lex.specs.declared.front.Front.TheVariants.{Gap, Word, Stray, LongName, NoNumber, NoText}
use Rattle.sefl_lex.specs.Bytes.{is_blank, is_name_start, is_decimal, is_name_byte, is_text_byte, is_line_byte, is_single, is_pair, begins}
use Rattle.sefl_lex.specs.Words.{is_number, begins_comment}

-- the front of a text that begins with a letter or an underscore
abbrev pub name_front : List ℕ → Front
name_front bytes =
    let count = prefix_len is_name_byte bytes in if nat_le count 64 then Word Name count else LongName

-- of one that begins with a digit
abbrev pub number_front : List ℕ → Front
number_front bytes =
    let count = prefix_len is_name_byte bytes in
    if is_number (take count bytes) then Word Number count else NoNumber

-- of one that begins with a quote, which these bytes follow
abbrev pub text_front : List ℕ → Front
text_front rest =
    let count = prefix_len is_text_byte rest in
    if begins (λ c. c == 34) (drop count rest) then Word Text (count + 2) else NoText

-- of one that begins with another byte
abbrev pub sign_front : ℕ → List ℕ → Front
sign_front first rest =
    if begins (is_pair first) rest then Word Sign 2 else (if is_single first then Word Sign 1 else Stray)

abbrev pub front_of : List ℕ → Front
front_of [] = Stray
front_of (first ∷ rest) =
    if is_blank first then Gap 1
    else (if begins_comment (first ∷ rest) then Gap (prefix_len is_line_byte (first ∷ rest))
    else (if is_name_start first then name_front (first ∷ rest)
    else (if is_decimal first then number_front (first ∷ rest)
    else (if first == 34 then text_front rest
    else sign_front first rest))))
