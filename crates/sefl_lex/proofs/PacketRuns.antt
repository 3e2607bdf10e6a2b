-- The first word of bytes.
use Rattle.std.proofs.Common.{◌≡◌, ℕ, suc, ◌<◌, true, false, List, [], ◌∷◌, length, take, drop, refl, sym, ap, ◌∙◌, arith}
use Rattle.std.specs.Prelude.{Bool, not}
use Rattle.std.specs.List.{prefix_len}
use Rattle.sefl_lex.specs.Bytes.{is_blank, begins}
use Rattle.sefl_lex.specs.Packets.{is_word_byte, with_first, words}

run_more : (test : ℕ → Bool) (c : ℕ) (rest : List ℕ) → test c ≡ true → prefix_len test (c ∷ rest) ≡ suc (prefix_len test rest)
run_more test c rest passes = rw passes (omega arith)

run_none : (test : ℕ → Bool) (c : ℕ) (rest : List ℕ) → test c ≡ false → prefix_len test (c ∷ rest) ≡ 0
run_none test c rest fails = rw fails refl

-- what is left behind a run
abbrev left : (ℕ → Bool) → List ℕ → List ℕ
left test bytes = drop (prefix_len test bytes) bytes

left_more : (test : ℕ → Bool) (c : ℕ) (rest : List ℕ) → test c ≡ true → left test (c ∷ rest) ≡ left test rest
left_more test c rest passes = ap (λ n. drop n (c ∷ rest)) (run_more test c rest passes)

left_none : (test : ℕ → Bool) (c : ℕ) (rest : List ℕ) → test c ≡ false → left test (c ∷ rest) ≡ c ∷ rest
left_none test c rest fails = ap (λ n. drop n (c ∷ rest)) (run_none test c rest fails)

-- blanks before the words change nothing
blank_word : (c : ℕ) (rest : List ℕ) → is_blank c ≡ true → words (c ∷ rest) ≡ words rest
blank_word c rest is = rw is refl

behind_blanks_by : (c : ℕ) (rest : List ℕ) (b : Bool) → is_blank c ≡ b → words rest ≡ words (left is_blank rest) → words (c ∷ rest) ≡ words (left is_blank (c ∷ rest))
behind_blanks_by c rest true is same = blank_word c rest is ∙ same ∙ ap words (sym (left_more is_blank c rest is))
behind_blanks_by c rest false is same = ap words (sym (left_none is_blank c rest is))

pub behind_blanks : (bytes : List ℕ) → words bytes ≡ words (drop (prefix_len is_blank bytes) bytes)
behind_blanks [] = refl
behind_blanks (c ∷ rest) = behind_blanks_by c rest (is_blank c) refl (behind_blanks rest)

-- what is left behind the blanks begins with none
no_blank_by : (c : ℕ) (rest : List ℕ) (b : Bool) → is_blank c ≡ b → begins is_blank (left is_blank rest) ≡ false → begins is_blank (left is_blank (c ∷ rest)) ≡ false
no_blank_by c rest true is none = ap (begins is_blank) (left_more is_blank c rest is) ∙ none
no_blank_by c rest false is none = ap (begins is_blank) (left_none is_blank c rest is) ∙ is

pub no_blank : (bytes : List ℕ) → begins is_blank (drop (prefix_len is_blank bytes) bytes) ≡ false
no_blank [] = refl
no_blank (c ∷ rest) = no_blank_by c rest (is_blank c) refl (no_blank rest)

abbrev front : List ℕ → List ℕ
front bytes = take (prefix_len is_word_byte bytes) bytes

front_more : (c : ℕ) (rest : List ℕ) → is_blank c ≡ false → front (c ∷ rest) ≡ c ∷ front rest
front_more c rest word = ap (λ n. take n (c ∷ rest)) (run_more is_word_byte c rest (ap not word))

front_none : (c : ℕ) (rest : List ℕ) → is_blank c ≡ true → front (c ∷ rest) ≡ []
front_none c rest blank = ap (λ n. take n (c ∷ rest)) (run_none is_word_byte c rest (ap not blank))

words_more : (c d : ℕ) (rest : List ℕ) → is_blank c ≡ false → is_blank d ≡ false → words (c ∷ d ∷ rest) ≡ with_first c (words (d ∷ rest))
words_more c d rest word more = rw (word, more) refl

words_last : (c d : ℕ) (rest : List ℕ) → is_blank c ≡ false → is_blank d ≡ true → words (c ∷ d ∷ rest) ≡ (c ∷ []) ∷ words (d ∷ rest)
words_last c d rest word blank = rw (word, blank) refl

-- the longest run of bytes other than blanks is the first word
abbrev Front : List ℕ → Type 0
Front bytes = words bytes ≡ front bytes ∷ words (left is_word_byte bytes)

run_by : (c d : ℕ) (rest : List ℕ) (b : Bool) → is_blank c ≡ false → is_blank d ≡ b → (is_blank d ≡ false → Front (d ∷ rest)) → Front (c ∷ d ∷ rest)
run_by c d rest true word blank later =
    let run = front_more c (d ∷ rest) word ∙ ap (λ w. c ∷ w) (front_none d rest blank) in
    let behind = left_more is_word_byte c (d ∷ rest) (ap not word) ∙ left_none is_word_byte d rest (ap not blank) in
    words_last c d rest word blank ∙ (λ i. sym run i ∷ words (sym behind i))
run_by c d rest false word more later =
    let run = front_more c (d ∷ rest) word in
    let behind = left_more is_word_byte c (d ∷ rest) (ap not word) in
    words_more c d rest word more ∙ ap (with_first c) (later more) ∙ (λ i. sym run i ∷ words (sym behind i))

run_is_word : (c : ℕ) (rest : List ℕ) → is_blank c ≡ false → Front (c ∷ rest)
run_is_word c [] word =
    let run = front_more c [] word in
    let behind = left_more is_word_byte c [] (ap not word) in
    (rw word refl) ∙ (λ i. sym run i ∷ words (sym behind i))
run_is_word c (d ∷ rest) word = run_by c d rest (is_blank d) word refl (run_is_word d rest)

pub first_word : (bytes : List ℕ) → 0 < length bytes → begins is_blank bytes ≡ false → words bytes ≡ take (prefix_len is_word_byte bytes) bytes ∷ words (drop (prefix_len is_word_byte bytes) bytes)
first_word [] some none = absurd (omega arith)
first_word (c ∷ rest) some none = run_is_word c rest none

pub run_not_empty : (bytes : List ℕ) → 0 < length bytes → begins is_blank bytes ≡ false → 0 < prefix_len is_word_byte bytes
run_not_empty [] some none = absurd (omega arith)
run_not_empty (c ∷ rest) some none = omega (arith, run_more is_word_byte c rest (ap not none))
