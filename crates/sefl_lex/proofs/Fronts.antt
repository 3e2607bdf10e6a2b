-- What stands at the front of a text is what is computed of it.
use Rattle.std.specs.Prelude.{nat_le, nat_lt, ◌==◌}
use Rattle.std.proofs.Common.{◌≡◌, ℕ, suc, ◌+◌, ◌≤◌, ◌<◌, Bool, true, false, cond, List, [], ◌∷◌, ◌++◌, length, take, drop, get_or, refl, sym, ap, ◌∙◌, subst, arith, rules, ◌&&◌, ◌||◌, tests, ⊎_elim, append_assoc, length-append}
use Rattle.std.specs.List.{list_all, prefix_len}
use Rattle.std.proofs.lemmas.Bool.Decides.{nat_tests}
use Rattle.std.proofs.lemmas.Bool.{eqb-true}
use Rattle.std.proofs.lemmas.List.{take_more, take-append-drop}
use Rattle.std.proofs.Math.Seq.{take-append_seam, drop-append_seam}
use Rattle.sefl_lex.specs.declared.token.TokenKind.{TokenKind}
use Rattle.sefl_lex.specs.declared.token.TokenKind.TheVariants.{Name, Number, Text, Sign}
use Rattle.sefl_lex.specs.declared.front.Front.{Front}
use Rattle.sefl_lex.specs.declared.front.Front.TheVariants.{Gap, Word, Stray, LongName, NoNumber, NoText}
use Rattle.sefl_lex.specs.Bytes.{is_blank, is_name_start, is_decimal, is_name_byte, is_text_byte, is_line_byte, is_single, is_pair, begins, IsRun}
use Rattle.sefl_lex.specs.Words.{is_name, is_number, is_digit, are_digits, have_value, IsText, IsToken, begins_comment, is_blank_word, IsStray, IsLongName, IsNoNumber, IsNoText}
use Rattle.sefl_lex.specs.Reads.{IsGap}
use Rattle.sefl_lex.specs.Front.{front_of, name_front, number_front, text_front, sign_front}
use Rattle.sefl_lex.proofs.Runs.{prefix_len-run, prefix_len-passes, prefix_len-goes_on, passes_up_to, front_stops, begins_at, all_weaker}
use Rattle.sefl_lex.proofs.Classes.{no_comment, name_start_apart, decimal_apart, single_apart, pair_apart, decimal_byte, digit_decimal, digit_byte}

-- the front goes by the class of the first byte

pub front-name : (c : ℕ) (rest : List ℕ) → is_name_start c ≡ true → front_of (c ∷ rest) ≡ name_front (c ∷ rest)
front-name c rest start =
    let apart = name_start_apart c start in
    let slash = no_comment c rest apart.1 in
    let blank = apart.0 in
    rw (blank, slash, start)

pub front-decimal : (c : ℕ) (rest : List ℕ) → is_decimal c ≡ true → front_of (c ∷ rest) ≡ number_front (c ∷ rest)
front-decimal c rest start =
    let apart = decimal_apart c start in
    let slash = no_comment c rest apart.1 in
    let blank = apart.0 in
    let name = apart.2 in
    rw (blank, slash, name, start)

pub front-quote : (rest : List ℕ) → front_of (34 ∷ rest) ≡ text_front rest
front-quote rest =
    let slash = no_comment 34 rest (λ e. omega arith) in
    rw slash

pub front-sign : (c : ℕ) (rest : List ℕ) → (is_blank c ≡ false) × (c ≡ 47 → ⊥) × (is_name_start c ≡ false) × (is_decimal c ≡ false) × (c ≡ 34 → ⊥) → front_of (c ∷ rest) ≡ sign_front c rest
front-sign c rest apart =
    let slash = no_comment c rest apart.1 in
    let blank = apart.0 in
    let name = apart.2 in
    let decimal = apart.3 in
    let quote : (c == 34) ≡ false = search (rules, tests) in
    rw (blank, slash, name, decimal, quote)

-- gaps

comment_front : (word rest : List ℕ) → begins_comment word ≡ true → IsRun is_line_byte word rest → front_of (word ++ rest) ≡ Gap (length word)
comment_front [] rest begun run = cc
comment_front (a ∷ []) rest begun run = cc
comment_front (a ∷ b ∷ word) rest begun run =
    let blank : is_blank a ≡ false = grind (arith, nat_tests) in
    let count = prefix_len-run is_line_byte (a ∷ b ∷ word) rest run.0 run.1 in
    rw (blank, begun) (ap Gap count)

comment_not_empty : (word : List ℕ) → begins_comment word ≡ true → 0 < length word
comment_not_empty [] begun = cc
comment_not_empty (a ∷ word) begun = omega arith

blank_front : (word rest : List ℕ) → is_blank_word word ≡ true → front_of (word ++ rest) ≡ Gap (length word)
blank_front [] rest blank = cc
blank_front (c ∷ []) rest blank = rw blank
blank_front (_ ∷ _ ∷ _) rest blank = cc

blank_not_empty : (word : List ℕ) → is_blank_word word ≡ true → 0 < length word
blank_not_empty [] blank = cc
blank_not_empty (c ∷ word) blank = omega arith

pub gap-front : (word rest : List ℕ) → IsGap word rest → front_of (word ++ rest) ≡ Gap (length word)
gap-front word rest is_gap =
    ⊎_elim (λ blank. blank_front word rest blank) (λ comment. comment_front word rest comment.0 comment.1) is_gap

pub gap_not_empty : (word rest : List ℕ) → IsGap word rest → 0 < length word
gap_not_empty word rest is_gap =
    ⊎_elim (λ blank. blank_not_empty word blank) (λ comment. comment_not_empty word comment.0) is_gap

-- tokens

pub both : (a b : Bool) → (a && b) ≡ true → (a ≡ true) × (b ≡ true)
both true b h = (refl, h)
both false b h = cc

name-front : (word rest : List ℕ) → is_name word ≡ true → begins is_name_byte rest ≡ false → front_of (word ++ rest) ≡ Word Name (length word)
name-front [] rest name longest = cc
name-front (c ∷ word) rest name longest =
    let parts = both (is_name_start c && list_all is_name_byte (c ∷ word)) (nat_le (length (c ∷ word)) 64) name in
    let bytes = both (is_name_start c) (list_all is_name_byte (c ∷ word)) parts.0 in
    let count = prefix_len-run is_name_byte (c ∷ word) rest bytes.1 longest in
    let short = parts.1 in
    front-name c (word ++ rest) bytes.0 ∙ rw (count, short)

-- a number begins with a digit, and has letters and digits alone
number_in_base : (base : ℕ) (digits : List ℕ) → are_digits base digits ≡ true → list_all (is_digit base) digits ≡ true
unfolding are_digits have_value
number_in_base base digits h =
    let parts = both (nat_lt 0 (length digits)) (have_value base digits) h in
    (both (list_all (is_digit base) digits) _ parts.1).0

number_not_empty : is_number [] ≡ true → ⊥
unfolding is_number are_digits
number_not_empty number = cc

hexadecimal_bytes : (a b : ℕ) → (a == 48 && b == 120) ≡ true → (is_decimal a ≡ true) × (is_name_byte a ≡ true) × (is_name_byte b ≡ true)
hexadecimal_bytes a b h = (grind (arith, nat_tests), grind (arith, nat_tests), grind (arith, nat_tests))

pub number_bytes : (word : List ℕ) → is_number word ≡ true → (begins is_decimal word ≡ true) × (list_all is_name_byte word ≡ true)
unfolding is_number
number_bytes [] number = absurd (number_not_empty number)
number_bytes (c ∷ []) number =
    let digits = number_in_base 10 (c ∷ []) number in
    let digit = both (is_digit 10 c) true digits in
    let decimal = digit_decimal c digit.0 in
    let byte = decimal_byte c decimal in
    (decimal, rw byte)
number_bytes (a ∷ b ∷ word) number =
    elim (a == 48 && b == 120) as (λ v. (a == 48 && b == 120) ≡ v → are_digits (cond v 16 10) (cond v (drop 2 (a ∷ b ∷ word)) (a ∷ b ∷ word)) ≡ true → (is_decimal a ≡ true) × (list_all is_name_byte (a ∷ b ∷ word) ≡ true)) [
      | true ↦ λ e h.
          let first = hexadecimal_bytes a b e in
          let first_byte = first.1 in
          let second_byte = first.2 in
          let digits = number_in_base 16 word h in
          (first.0, rw (first_byte, second_byte) (all_weaker (is_digit 16) is_name_byte digit_byte word digits))
      | false ↦ λ e h.
          let digits = number_in_base 10 (a ∷ b ∷ word) h in
          let first = both (is_digit 10 a) (list_all (is_digit 10) (b ∷ word)) digits in
          (digit_decimal a first.0, all_weaker (is_digit 10) is_name_byte (λ c d. decimal_byte c (digit_decimal c d)) (a ∷ b ∷ word) digits)
    ] refl number

pub number-front : (word rest : List ℕ) → is_number word ≡ true → begins is_name_byte rest ≡ false → front_of (word ++ rest) ≡ Word Number (length word)
number-front [] rest number longest = absurd (number_not_empty number)
number-front (c ∷ word) rest number longest =
    let bytes = number_bytes (c ∷ word) number in
    let count = prefix_len-run is_name_byte (c ∷ word) rest bytes.1 longest in
    let seam = take-append_seam (c ∷ word) rest in
    front-decimal c (word ++ rest) bytes.0 ∙ rw (count, seam, number)

pub text-front : (word rest : List ℕ) → IsText word → front_of (word ++ rest) ≡ Word Text (length word)
text-front word rest (body, all, is) =
    let inner : (body ++ 34 ∷ []) ++ rest ≡ body ++ 34 ∷ rest = append_assoc body (34 ∷ []) rest in
    let count = prefix_len-run is_text_byte body (34 ∷ rest) all refl in
    let seam = drop-append_seam body (34 ∷ rest) in
    rw (is, inner) (front-quote (body ++ 34 ∷ rest) ∙ rw (count, seam) (ap (Word Text) (omega (arith, length-append body (34 ∷ [])))))

sign-front : (word rest : List ℕ) → IsToken Sign word rest → front_of (word ++ rest) ≡ Word Sign (length word)
sign-front [] rest token = cc
sign-front (a ∷ []) [] token = front-sign a [] (single_apart a token.0) ∙ (let single = token.0 in rw single)
sign-front (a ∷ []) (b ∷ rest) token =
    let single = token.0 in
    front-sign a (b ∷ rest) (single_apart a token.0) ∙
    elim (is_pair a b) as (λ v. is_pair a b ≡ v → cond v (Word Sign 2) (cond (is_single a) (Word Sign 1) Stray) ≡ Word Sign 1) [
      | true ↦ λ e. let none = token.1 (b ∷ []) rest refl e in cc
      | false ↦ λ e. rw single
    ] refl
sign-front (a ∷ b ∷ []) rest token =
    let pair = token.0 in
    front-sign a (b ∷ rest) (pair_apart a b token.0) ∙ rw pair
sign-front (a ∷ b ∷ c ∷ word) rest token = cc

pub token-front : (kind : TokenKind) (word rest : List ℕ) → IsToken kind word rest → front_of (word ++ rest) ≡ Word kind (length word)
token-front Name word rest token = name-front word rest token.0 token.1
token-front Number word rest token = number-front word rest token.0 token.1
token-front Text word rest token = text-front word rest token.0
token-front Sign word rest token = sign-front word rest token

pub token_not_empty : (kind : TokenKind) (word rest : List ℕ) → IsToken kind word rest → 0 < length word
token_not_empty Name [] rest token = cc
token_not_empty Number [] rest token = absurd (number_not_empty token.0)
token_not_empty Text [] rest token = let is = token.0.2 in cc
token_not_empty Sign [] rest token = cc
token_not_empty kind (c ∷ word) rest token = omega arith

-- faults

either : (a b : Bool) → (a || b) ≡ false → (a ≡ false) × (b ≡ false)
either true b h = cc
either false b h = (refl, h)

pub stray-front : (bytes : List ℕ) → IsStray bytes → front_of bytes ≡ Stray
stray-front [] stray = absurd stray
stray-front (c ∷ rest) stray =
    let blank = stray.0 in
    let slash = stray.1 in
    let name = stray.2 in
    let decimal = stray.3 in
    let quote = stray.4 in
    let signs = either (is_single c) (begins (is_pair c) rest) stray.5 in
    let single = signs.0 in
    let pair = signs.1 in
    rw (blank, slash, name, decimal, quote, pair, single)

pub long_name-front : (bytes : List ℕ) → IsLongName bytes → front_of bytes ≡ LongName
long_name-front bytes ([], rest, is, name, size, goes_on) = cc
long_name-front bytes (c ∷ word, rest, is, name, size, goes_on) =
    let parts = both (is_name_start c && list_all is_name_byte (c ∷ word)) (nat_le (length (c ∷ word)) 64) name in
    let first = both (is_name_start c) (list_all is_name_byte (c ∷ word)) parts.0 in
    let count = prefix_len-passes is_name_byte (c ∷ word) rest first.1 in
    let more = prefix_len-goes_on is_name_byte rest goes_on in
    let long : nat_le (prefix_len is_name_byte (c ∷ (word ++ rest))) 64 ≡ false = grind (arith, nat_tests) in
    rw is (front-name c (word ++ rest) first.0 ∙ rw long)

pub by_test : (P : Front → Type 0) (b : Bool) (x y : Front) → (b ≡ true → P x) → (b ≡ false → P y) → P (cond b x y)
by_test P true x y f g = f refl
by_test P false x y f g = g refl

-- the longest front of letters and digits, where the first is a digit, stands as a number if it is one
pub number_taken : (bytes : List ℕ) → is_number (take (prefix_len is_name_byte bytes) bytes) ≡ true → IsToken Number (take (prefix_len is_name_byte bytes) bytes) (drop (prefix_len is_name_byte bytes) bytes)
number_taken bytes number = (number, front_stops is_name_byte bytes)

pub no_number-front : (bytes : List ℕ) → IsNoNumber bytes → front_of bytes ≡ NoNumber
no_number-front [] none = cc
no_number-front (c ∷ rest) none =
    let bytes = c ∷ rest in
    let count = prefix_len is_name_byte bytes in
    front-decimal c rest none.0 ∙ by_test (λ f. f ≡ NoNumber) (is_number (take count bytes)) (Word Number count) NoNumber
    (λ number. absurd (none.1 (take count bytes) (drop count bytes) (sym (take-append-drop count bytes)) (number_taken bytes number)))
    (λ other. refl)

-- the longest front of text bytes and the quote that follows it are a text
pub text_taken : (rest : List ℕ) → begins (λ c. c == 34) (drop (prefix_len is_text_byte rest) rest) ≡ true → (prefix_len is_text_byte rest + 2 ≤ length (34 ∷ rest)) × IsText (take (prefix_len is_text_byte rest + 2) (34 ∷ rest))
text_taken rest closes =
    let count = prefix_len is_text_byte rest in
    let there = begins_at (λ c. c == 34) rest count closes in
    let quote : get_or rest count 0 ≡ 34 = eqb-true (get_or rest count 0) 34 there.1 in
    let body = take count rest in
    let all = passes_up_to is_text_byte rest count (omega arith) in
    let inside : take (count + 1) rest ≡ body ++ 34 ∷ [] = take_more rest count 0 there.0 ∙ rw quote in
    let whole : take (count + 2) (34 ∷ rest) ≡ 34 ∷ (body ++ 34 ∷ []) = ap (λ n. take n (34 ∷ rest)) (let e : count + 2 ≡ suc (count + 1) = omega arith in e) ∙ ap (λ l. 34 ∷ l) inside in
    (omega (arith, there.0), (body, all, whole))

no_text-after_quote : (rest : List ℕ) → IsNoText (34 ∷ rest) → front_of (34 ∷ rest) ≡ NoText
no_text-after_quote rest none =
    let count = prefix_len is_text_byte rest in
    front-quote rest ∙ by_test (λ f. f ≡ NoText) (begins (λ d. d == 34) (drop count rest)) (Word Text (count + 2)) NoText
    (λ closes. let text = text_taken rest closes in absurd (none.1 (take (count + 2) (34 ∷ rest)) (drop (count + 2) (34 ∷ rest)) (sym (take-append-drop (count + 2) (34 ∷ rest))) text.1))
    (λ other. refl)

pub no_text-front : (bytes : List ℕ) → IsNoText bytes → front_of bytes ≡ NoText
no_text-front [] none = cc
no_text-front (c ∷ rest) none =
    let quote : c ≡ 34 = eqb-true c 34 none.0 in
    subst (λ (d : ℕ). front_of (d ∷ rest) ≡ NoText) (sym quote)
    (no_text-after_quote rest (subst (λ (d : ℕ). IsNoText (d ∷ rest)) quote none))
