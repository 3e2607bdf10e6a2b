-- Texts without comments, cut into words.
use Rattle.std.proofs.Common.{◌≡◌, ℕ, ◌+◌, ◌-◌, ◌^◌, ◌<◌, ◌&&◌, nat_lt, IsTrue, true, false, List, [], ◌∷◌, ◌++◌, take, drop, length, decimal, Ok, inl, refl, sym, ap, ◌∙◌, subst, true≢false, arith, length-append}
use Rattle.std.proofs.Math.Seq.{take-append_seam, drop-append_seam}
use Rattle.std.proofs.lemmas.List.{append_assoc}
use Rattle.std.proofs.lemmas.Bool.Decides.{nat_tests}
use Rattle.std.proofs.lemmas.Fmt.{decimal_is_IsNumeral_wide}
use Rattle.std.specs.List.{list_all}
use Rattle.std.specs.Str.Parse.{AllDigits, IsNumeral, digits_value}
use Rattle.sefl_lex.specs.Bytes.{is_blank, is_decimal, is_single, is_pair, begins}
use Rattle.sefl_lex.specs.Words.{IsToken, is_sign, is_number, are_digits, have_value, is_digit, is_hexadecimal, value_of}
use Rattle.sefl_lex.specs.Reads.{Reads, none, gap, token, token_at}
use Rattle.sefl_lex.specs.declared.token.Token.{Token}
use Rattle.sefl_lex.specs.declared.token.TokenKind.{TokenKind}
use Rattle.sefl_lex.specs.declared.token.TokenKind.TheVariants as kind
use Rattle.sefl_grammar.specs.Word.{Word}
use Rattle.sefl_grammar.specs.Words.{words_of}
use Rattle.sefl_grammar.proofs.Runs.{and_true}
use Rattle.sefl_grammar.proofs.Leaves.{number_begins}

-- the bytes are blanks and these words
pub data Cut : List ℕ → List Word → Type 0 where
  nothing_left : Cut [] []
  blank : {words : List Word} (c : ℕ) (rest : List ℕ) → is_blank c ≡ true → Cut rest words → Cut (c ∷ rest) words
  word : {words : List Word} (k : TokenKind) (text rest : List ℕ) → IsToken k text rest → Cut rest words → Cut (text ++ rest) (record { kind = k; text = text } ∷ words)

-- the tokens of bytes that stand behind others, and their words
pub record Lexed (at : ℕ) (front bytes : List ℕ) (words : List Word) : Type 0 where
  pub tokens : List Token
  pub reads : Reads at bytes (Ok tokens)
  pub are : words_of (front ++ bytes) tokens ≡ words

first_word : (front text rest : List ℕ) (at : ℕ) → length front ≡ at → take (at + length text - at) (drop at (front ++ (text ++ rest))) ≡ text
first_word front text rest at is =
    let tail : drop at (front ++ (text ++ rest)) ≡ text ++ rest = (λ i. drop (sym is i) (front ++ (text ++ rest))) ∙ drop-append_seam front (text ++ rest) in
    let count : at + length text - at ≡ length text = omega arith in
    (λ i. take (count i) (tail i)) ∙ take-append_seam text rest

lexed_blank : (at : ℕ) (front : List ℕ) (c : ℕ) (rest : List ℕ) (words : List Word) → is_blank c ≡ true → Lexed (at + 1) (front ++ c ∷ []) rest words → Lexed at front (c ∷ rest) words
lexed_blank at front c rest words is l = record {
  tokens = l.tokens;
  reads = gap (c ∷ []) rest (c ∷ rest) refl (inl is) l.reads;
  are = ap (λ x. words_of x l.tokens) (sym (append_assoc front (c ∷ []) rest)) ∙ l.are;
}

lexed_word : (at : ℕ) (front : List ℕ) (k : TokenKind) (text rest : List ℕ) (words : List Word) → length front ≡ at → IsToken k text rest → Lexed (at + length text) (front ++ text) rest words
    → Lexed at front (text ++ rest) (record { kind = k; text = text } ∷ words)
lexed_word at front k text rest words is t l = record {
  tokens = token_at k at text ∷ l.tokens;
  reads = token k text rest (text ++ rest) refl t l.reads;
  are = λ i. record { kind = k; text = first_word front text rest at is i } ∷ (ap (λ x. words_of x l.tokens) (sym (append_assoc front text rest)) ∙ l.are) i;
}

pub lexed : (bytes : List ℕ) (words : List Word) → Cut bytes words → (at : ℕ) (front : List ℕ) → length front ≡ at → Lexed at front bytes words
lexed bytes words nothing_left at front is = record { tokens = []; reads = none; are = refl }
lexed bytes words (blank c rest b cut) at front is =
    let size = length-append front (c ∷ []) in
    lexed_blank at front c rest words b (lexed rest words cut (at + 1) (front ++ c ∷ []) (omega (arith, size, is)))
lexed bytes words' (word {words} k text rest t cut) at front is =
    let size = length-append front text in
    lexed_word at front k text rest words is t (lexed rest words cut (at + length text) (front ++ text) (omega (arith, size, is)))

-- a sign that no longer one begins with
pub alone : (c : ℕ) (rest : List ℕ) → is_single c ≡ true → ((d : ℕ) → is_pair c d ≡ false) → IsToken kind.Sign (c ∷ []) rest
alone c rest single none' = (single, by)
  where
    by : (more later : List ℕ) → rest ≡ more ++ later → IsTrue (is_sign (c ∷ more)) → more ≡ []
    by [] later e h = refl
    by (d ∷ []) later e h = absurd (true≢false (sym h ∙ none' d))
    by (d ∷ x ∷ more) later e h = absurd (true≢false (sym h))

-- a sign of two bytes
pub pair : (c d : ℕ) (rest : List ℕ) → is_pair c d ≡ true → IsToken kind.Sign (c ∷ d ∷ []) rest
pair c d rest is = (is, by)
  where
    by : (more later : List ℕ) → rest ≡ more ++ later → IsTrue (is_sign (c ∷ d ∷ more)) → more ≡ []
    by [] later e h = refl
    by (x ∷ more) later e h = absurd (true≢false (sym h))

-- a sign, where the byte that follows makes no longer one of it
pub apart : (c d : ℕ) (rest : List ℕ) → is_single c ≡ true → is_pair c d ≡ false → IsToken kind.Sign (c ∷ []) (d ∷ rest)
apart c d rest single none' = (single, by)
  where
    by : (more later : List ℕ) → d ∷ rest ≡ more ++ later → IsTrue (is_sign (c ∷ more)) → more ≡ []
    by [] later e h = refl
    by (x ∷ []) later e h = absurd (true≢false (sym h ∙ ap (is_pair c) (sym (ap first e)) ∙ none'))
      where
        first : List ℕ → ℕ
        first [] = 0
        first (y ∷ ys) = y
    by (x ∷ y ∷ more) later e h = absurd (true≢false (sym h))

all_digits : (ds : List ℕ) → AllDigits 10 ds → list_all (is_digit 10) ds ≡ true
all_digits [] all = refl
all_digits (c ∷ ds) all = let first = all.0 in rw (all_digits ds all.1) (grind (arith, nat_tests))

not_hexadecimal : (ds : List ℕ) → AllDigits 10 ds → is_hexadecimal ds ≡ false
not_hexadecimal [] all = refl
not_hexadecimal (a ∷ []) all = refl
not_hexadecimal (a ∷ b ∷ ds) all = let second = all.1.0 in grind (arith, nat_tests)

less_yes : (a b : ℕ) → a < b → nat_lt a b ≡ true
less_yes a b h = grind (arith, nat_tests)

digits_number : (ds : List ℕ) → IsNumeral 10 ds → digits_value 10 ds < 2 ^ 128 → is_number ds ≡ true
unfolding is_number are_digits have_value
digits_number ds is less =
    let some : nat_lt 0 (length ds) ≡ true = less_yes 0 (length ds) is.0 in
    let small : nat_lt (digits_value 10 ds) (2 ^ 128) ≡ true = less_yes (digits_value 10 ds) (2 ^ 128) less in
    rw (not_hexadecimal ds is.1) (and_true (nat_lt 0 (length ds)) (list_all (is_digit 10) ds && nat_lt (digits_value 10 ds) (2 ^ 128)) some (and_true (list_all (is_digit 10) ds) (nat_lt (digits_value 10 ds) (2 ^ 128)) (all_digits ds is.1) small))

digits_valued : (ds : List ℕ) → IsNumeral 10 ds → value_of ds ≡ digits_value 10 ds
unfolding value_of
digits_valued ds is = rw (not_hexadecimal ds is.1) refl

-- a number in decimal
pub record DecimalIs (n : ℕ) : Type 0 where
  pub number : is_number (decimal n) ≡ true
  pub value : value_of (decimal n) ≡ n
  pub begins_digit : begins is_decimal (decimal n) ≡ true

pub decimal_number : (n : ℕ) → n < 2 ^ 128 → DecimalIs n
decimal_number n less =
    let wide : n < 10 ^ 64 = omega (arith, less) in
    let is = decimal_is_IsNumeral_wide n wide in
    let number' = digits_number (decimal n) is.0 (subst (λ m. m < 2 ^ 128) (sym is.1) less) in
    record { number = number'; value = digits_valued (decimal n) is.0 ∙ is.1; begins_digit = number_begins (decimal n) number' }
