-- What is computed of a text's front stands there.
use Rattle.std.specs.Prelude.{nat_le, ◌==◌}
use Rattle.std.proofs.Common.{◌≡◌, ℕ, suc, zero, ◌+◌, ◌≤◌, ◌<◌, Bool, true, false, cond, List, [], ◌∷◌, ◌++◌, length, take, drop, refl, sym, ap, ◌∙◌, subst, arith, rules, ◌&&◌, tests, inl, inr}
use Rattle.std.specs.List.{list_all, prefix_len}
use Rattle.std.proofs.lemmas.Bool.{eqb-true, leb-true}
use Rattle.std.proofs.lemmas.Bool.Decides.{nat_tests}
use Rattle.std.proofs.lemmas.List.{take-append-drop, length-take-le}
use Rattle.std.proofs.lemmas.List.Sums.{prefix_len-le-length}
use Rattle.sefl_lex.specs.declared.token.TokenKind.TheVariants.{Name, Number, Text, Sign}
use Rattle.sefl_lex.specs.declared.front.Front.{Front}
use Rattle.sefl_lex.specs.declared.front.Front.TheVariants.{Gap, Word, Stray, LongName, NoNumber, NoText}
use Rattle.sefl_lex.specs.Bytes.{is_blank, is_name_start, is_decimal, is_name_byte, is_text_byte, is_line_byte, is_single, is_pair, begins}
use Rattle.sefl_lex.specs.Words.{is_name, is_number, is_sign, begins_comment, IsToken, IsStray, IsLongName, IsNoNumber, IsNoText}
use Rattle.sefl_lex.specs.Reads.{IsGap}
use Rattle.sefl_lex.specs.Front.{front_of, name_front, number_front, text_front, sign_front}
use Rattle.sefl_lex.proofs.Runs.{passes_up_to, begins_up_to, front_stops}
use Rattle.sefl_lex.proofs.Classes.{name_start_byte}
use Rattle.sefl_lex.proofs.Fronts.{front-decimal, front-quote, number-front, text-front, number_taken, text_taken, by_test}

-- what a computed front says of the bytes
unfoldable pub Stands : List ℕ → Front → Type 0
Stands bytes (Gap count) = (count ≤ length bytes) × IsGap (take count bytes) (drop count bytes)
Stands bytes (Word kind count) = (count ≤ length bytes) × IsToken kind (take count bytes) (drop count bytes)
Stands bytes Stray = IsStray bytes
Stands bytes LongName = IsLongName bytes
Stands bytes NoNumber = IsNoNumber bytes
Stands bytes NoText = IsNoText bytes

together : (a b : Bool) → a ≡ true → b ≡ true → (a && b) ≡ true
together true b p q = q
together false b p q = cc

blank_stands : (c : ℕ) (rest : List ℕ) → is_blank c ≡ true → Stands (c ∷ rest) (Gap 1)
unfolding Stands
blank_stands c rest blank = (omega arith, inl blank)

comment_stands : (bytes : List ℕ) → begins_comment bytes ≡ true → Stands bytes (Gap (prefix_len is_line_byte bytes))
unfolding Stands
comment_stands [] begun = cc
comment_stands (a ∷ []) begun = cc
comment_stands (a ∷ b ∷ rest) begun =
    let bytes = a ∷ b ∷ rest in
    let count = prefix_len is_line_byte bytes in
    let first : is_line_byte a ≡ true = grind (arith, nat_tests) in
    let second : is_line_byte b ≡ true = grind (arith, nat_tests) in
    let two : count ≡ suc (suc (prefix_len is_line_byte rest)) = rw (first, second) (omega arith) in
    let taken : begins_comment (take count bytes) ≡ true = rw two begun in
    (prefix_len-le-length is_line_byte bytes, inr (taken, (passes_up_to is_line_byte bytes count (omega arith), front_stops is_line_byte bytes)))

name_taken : (c n : ℕ) (rest : List ℕ) → is_name_start c ≡ true → 0 < n → n ≤ prefix_len is_name_byte (c ∷ rest) → n ≤ 64 → is_name (take n (c ∷ rest)) ≡ true
name_taken c zero rest start positive within short = absurd (omega arith)
name_taken c (suc k) rest start positive within short =
    let all = passes_up_to is_name_byte (c ∷ rest) (suc k) within in
    let size : length (take (suc k) (c ∷ rest)) ≡ suc k = length-take-le (suc k) (c ∷ rest) (omega (arith, prefix_len-le-length is_name_byte (c ∷ rest))) in
    let small : nat_le (length (take (suc k) (c ∷ rest))) 64 ≡ true = rw size (search (rules, tests)) in
    together (is_name_start c && list_all is_name_byte (take (suc k) (c ∷ rest))) (nat_le (length (take (suc k) (c ∷ rest))) 64)
    (together (is_name_start c) (list_all is_name_byte (take (suc k) (c ∷ rest))) start all) small

name_stands : (c : ℕ) (rest : List ℕ) → is_name_start c ≡ true → Stands (c ∷ rest) (name_front (c ∷ rest))
unfolding Stands
name_stands c rest start =
    let bytes = c ∷ rest in
    let count = prefix_len is_name_byte bytes in
    let within = prefix_len-le-length is_name_byte bytes in
    let byte = name_start_byte c start in
    let positive : 0 < count = rw byte (omega arith) in
    by_test (Stands bytes) (nat_le count 64) (Word Name count) LongName
    (λ short.
    let most = leb-true count 64 short in
    (within, (name_taken c count rest start positive (omega arith) most, front_stops is_name_byte bytes)))
    (λ long.
    let more : 64 < count = search (rules, tests) in
    (take 64 bytes, drop 64 bytes, sym (take-append-drop 64 bytes), name_taken c 64 rest start (omega arith) (omega arith) (omega arith), length-take-le 64 bytes (omega (arith, within)), begins_up_to is_name_byte bytes 64 more))

number_stands : (c : ℕ) (rest : List ℕ) → is_decimal c ≡ true → Stands (c ∷ rest) (number_front (c ∷ rest))
unfolding Stands
number_stands c rest start =
    let bytes = c ∷ rest in
    let count = prefix_len is_name_byte bytes in
    by_test (Stands bytes) (is_number (take count bytes)) (Word Number count) NoNumber
    (λ number. (prefix_len-le-length is_name_byte bytes, number_taken bytes number))
    (λ other. (
      start,
      λ word after is token.
          let found : front_of bytes ≡ Word Number (length word) = ap front_of is ∙ number-front word after token.0 token.1 in
          let missed : front_of bytes ≡ NoNumber = front-decimal c rest start ∙ rw other in
          let clash = sym found ∙ missed in
          cc,
    ))

text_stands : (rest : List ℕ) → Stands (34 ∷ rest) (text_front rest)
unfolding Stands
text_stands rest =
    let bytes = 34 ∷ rest in
    let count = prefix_len is_text_byte rest in
    by_test (Stands bytes) (begins (λ c. c == 34) (drop count rest)) (Word Text (count + 2)) NoText
    (λ closes. let text = text_taken rest closes in (text.0, (text.1, tt)))
    (λ other. (
      refl,
      λ word after is text.
          let found : front_of bytes ≡ Word Text (length word) = ap front_of is ∙ text-front word after text in
          let missed : front_of bytes ≡ NoText = front-quote rest ∙ rw other in
          let clash = sym found ∙ missed in
          cc,
    ))

pair_longest : (a b : ℕ) (more : List ℕ) → is_sign (a ∷ b ∷ more) ≡ true → more ≡ []
pair_longest a b [] sign = refl
pair_longest a b (c ∷ more) sign = cc

single_longest : (a : ℕ) (rest more later : List ℕ) → begins (is_pair a) rest ≡ false → rest ≡ more ++ later → is_sign (a ∷ more) ≡ true → more ≡ []
single_longest a rest [] later alone is sign = refl
single_longest a rest (b ∷ []) later alone is sign =
    let none : is_pair a b ≡ false = rw is at alone in
    cc
single_longest a rest (b ∷ c ∷ more) later alone is sign = cc

pair_stands : (c : ℕ) (rest : List ℕ) → begins (is_pair c) rest ≡ true → Stands (c ∷ rest) (Word Sign 2)
unfolding Stands
pair_stands c [] pair = cc
pair_stands c (d ∷ rest) pair = (omega arith, (pair, λ more later is sign. pair_longest c d more sign))

sign_stands : (c : ℕ) (rest : List ℕ) → is_blank c ≡ false → begins_comment (c ∷ rest) ≡ false → is_name_start c ≡ false → is_decimal c ≡ false → (c == 34) ≡ false → Stands (c ∷ rest) (sign_front c rest)
unfolding Stands
sign_stands c rest blank comment name decimal quote =
    by_test (Stands (c ∷ rest)) (begins (is_pair c) rest) (Word Sign 2) (cond (is_single c) (Word Sign 1) Stray)
    (λ pair. pair_stands c rest pair)
    (λ alone. by_test (Stands (c ∷ rest)) (is_single c) (Word Sign 1) Stray
    (λ single. (omega arith, (single, λ more later is sign. single_longest c rest more later alone is sign)))
    (λ none. (blank, comment, name, decimal, quote, rw none alone)))

quote_stands : (c : ℕ) (rest : List ℕ) → (c == 34) ≡ true → Stands (c ∷ rest) (text_front rest)
quote_stands c rest quote =
    subst (λ (d : ℕ). Stands (d ∷ rest) (text_front rest)) (sym (eqb-true c 34 quote)) (text_stands rest)

pub stands : (c : ℕ) (rest : List ℕ) → Stands (c ∷ rest) (front_of (c ∷ rest))
stands c rest =
    by_test (Stands (c ∷ rest)) (is_blank c) (Gap 1) _ (blank_stands c rest)
    (λ blank. by_test (Stands (c ∷ rest)) (begins_comment (c ∷ rest)) (Gap (prefix_len is_line_byte (c ∷ rest))) _ (comment_stands (c ∷ rest))
    (λ comment. by_test (Stands (c ∷ rest)) (is_name_start c) (name_front (c ∷ rest)) _ (name_stands c rest)
    (λ name. by_test (Stands (c ∷ rest)) (is_decimal c) (number_front (c ∷ rest)) _ (number_stands c rest)
    (λ decimal. by_test (Stands (c ∷ rest)) (c == 34) (text_front rest) _ (quote_stands c rest)
    (λ quote. sign_stands c rest blank comment name decimal quote)))))
