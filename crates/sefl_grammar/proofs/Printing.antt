-- Texts that are read as what they print.
use Rattle.std.proofs.Common.{◌≡◌, ℕ, ◌-◌, ◌^◌, nat_lt, take, length, length-append, ◌<◌, ◌≤◌, true, false, List, [], ◌∷◌, ◌++◌, codes, decimal, refl, sym, ap, ◌∙◌, subst, true≢false, arith}
use Rattle.std.proofs.lemmas.List.{append_assoc}
use Rattle.std.proofs.lemmas.Bool.{and_parts}
use Rattle.std.proofs.lemmas.Bool.Decides.{nat_tests}
use Rattle.std.proofs.Math.Seq.{take-append_seam}
use Rattle.std.specs.Str.Parse.{digits_value}
use Rattle.std.specs.List.{list_all}
use Rattle.sefl_lex.specs.Bytes.{is_blank, is_name_byte, is_decimal, is_single, is_pair, is_text_byte, begins}
use Rattle.sefl_lex.specs.Words.{IsToken, IsWord, IsText, is_name, is_number, are_digits, have_value, is_digit, base_of, digits_of, value_of}
use Rattle.sefl_lex.specs.declared.token.TokenKind.{TokenKind}
use Rattle.sefl_lex.specs.declared.token.TokenKind.TheVariants as kind
use Rattle.sefl_grammar.specs.Word.{Word, AreWords, Placed, bare, AreShallow}
use Rattle.sefl_grammar.specs.Grammar.{Spelling, ◌⨾◌, one, key, name, number, number_in, text}
use Rattle.sefl_grammar.proofs.Cut.{Cut, blank, word, alone, apart, decimal_number}

-- a part, at a nesting
abbrev pub Part : Type 1
Part = List Placed → List Placed → Type 0

-- what may follow a name or a number
abbrev pub Apart : List ℕ → Type 0
Apart rest = begins is_name_byte rest ≡ false

-- the text before the rest, read as the part before what the rest is read as
pub record Printed (text rest : List ℕ) (p : Part) (after : List Placed) : Type 0 where
  pub before : List Placed
  pub cut : Cut (text ++ rest) (bare before)
  pub spelled : p before after
  pub shallow : AreShallow after → AreShallow before

-- the text is read as the part, whatever follows
abbrev pub Prints : List ℕ → Part → Type 0
Prints text p = (rest : List ℕ) (after : List Placed) → Apart rest → Cut rest (bare after) → Printed text rest p after

-- a text that goes on with no name or number, where what follows it does not
abbrev pub Off : List ℕ → Type 0
Off text = (rest : List ℕ) → Apart rest → Apart (text ++ rest)

-- one text, then the other
pub both : (t u : List ℕ) (p q : Spelling) (d : ℕ) → Prints t (p d) → Prints u (q d) → Off u → Prints (t ++ u) ((p ⨾ q) d)
both t u p q d first second off rest after ok cut =
    let y = second rest after ok cut in
    let x = first (u ++ rest) y.before (off rest ok) y.cut in
    record {
      before = x.before;
      cut = subst (λ b. Cut b (bare x.before)) (sym (append_assoc t u rest)) x.cut;
      spelled = (y.before, x.spelled, y.spelled);
      shallow = λ s. x.shallow (y.shallow s);
    }

-- the same text
pub same_text : (t u : List ℕ) (p : Part) → Prints u p → t ≡ u → Prints t p
same_text t u p h e = subst (λ x. Prints x p) (sym e) h

-- the same part
pub same_part : (t : List ℕ) (p q : Part) → Prints t p → ((before after : List Placed) → p before after → q before after) → Prints t q
same_part t p q h f rest after ok cut = let x = h rest after ok cut in record { before = x.before; cut = x.cut; spelled = f x.before after x.spelled; shallow = x.shallow }

-- no text
pub no_text : (p : Part) → ((before after : List Placed) → before ≡ after → p before after) → Prints [] p
no_text p h rest after ok cut = record { before = after; cut = cut; spelled = h after after refl; shallow = λ s. s }

-- a blank before a text
pub spaced : (c : ℕ) (t : List ℕ) (p : Part) → is_blank c ≡ true → Prints t p → Prints (c ∷ t) p
spaced c t p is h rest after ok cut =
    let x = h rest after ok cut in
    record { before = x.before; cut = blank c (t ++ rest) is x.cut; spelled = x.spelled; shallow = x.shallow }

-- a blank behind a text
pub ended : (c : ℕ) (t : List ℕ) (p : Part) → is_blank c ≡ true → Apart (c ∷ []) → Prints t p → Prints (t ++ c ∷ []) p
ended c t p is off h rest after ok cut =
    let x = h (c ∷ rest) after off (blank c rest is cut) in
    record { before = x.before; cut = subst (λ b. Cut b (bare x.before)) (sym (append_assoc t (c ∷ []) rest)) x.cut; spelled = x.spelled; shallow = x.shallow }

-- a word before a text
pub worded : (k : TokenKind) (w t : List ℕ) (d : ℕ) (is : Word → Type 0) (q : Spelling) → d ≤ 64 → is (record { kind = k; text = w }) → ((rest : List ℕ) → Apart rest → IsToken k w (t ++ rest)) → Prints t (q d) → Prints (w ++ t) ((one is ⨾ q) d)
worded k w t d is q low here token' h rest after ok cut =
    let x = h rest after ok cut in
    record {
      before = record { word = record { kind = k; text = w }; depth = d } ∷ x.before;
      cut = subst (λ b. Cut b (record { kind = k; text = w } ∷ bare x.before)) (sym (append_assoc w t rest)) (word k w (t ++ rest) (token' rest ok) x.cut);
      spelled = (x.before, (record { kind = k; text = w }, here, refl), x.spelled);
      shallow = λ s. (low, x.shallow s);
    }

-- a word alone
pub single : (k : TokenKind) (w : List ℕ) (d : ℕ) (is : Word → Type 0) → d ≤ 64 → is (record { kind = k; text = w }) → ((rest : List ℕ) → Apart rest → IsToken k w rest) → Prints w (one is d)
single k w d is low here token' rest after ok cut = record {
  before = record { word = record { kind = k; text = w }; depth = d } ∷ after;
  cut = word k w rest (token' rest ok) cut;
  spelled = (record { kind = k; text = w }, here, refl);
  shallow = λ s. (low, s);
}

-- a sign that begins no longer one, before a text
pub signed_text : (c : ℕ) (t : List ℕ) (d : ℕ) (q : Spelling) → d ≤ 64 → is_single c ≡ true → ((e : ℕ) → is_pair c e ≡ false) → Prints t (q d) → Prints (c ∷ t) ((key (c ∷ []) ⨾ q) d)
signed_text c t d q low is none' h = worded kind.Sign (c ∷ []) t d (λ w. w.text ≡ c ∷ []) q low refl (λ rest ok. alone c (t ++ rest) is none') h

pub sign_alone : (c : ℕ) (d : ℕ) → d ≤ 64 → is_single c ≡ true → ((e : ℕ) → is_pair c e ≡ false) → Prints (c ∷ []) (key (c ∷ []) d)
sign_alone c d low is none' = single kind.Sign (c ∷ []) d (λ w. w.text ≡ c ∷ []) low refl (λ rest ok. alone c rest is none')

-- a name
pub prints_name : (n : List ℕ) (d : ℕ) → d ≤ 64 → is_name n ≡ true → Prints n (name n d)
prints_name n d low is = single kind.Name n d (λ w. (w.kind ≡ kind.Name) × (w.text ≡ n)) low (refl, refl) (λ rest ok. (is, ok))

-- a word of the language
pub prints_key : (n : List ℕ) (d : ℕ) → d ≤ 64 → is_name n ≡ true → Prints n (key n d)
prints_key n d low is = single kind.Name n d (λ w. w.text ≡ n) low refl (λ rest ok. (is, ok))

-- a word of the language, and a blank, before a text
pub keyed : (n t : List ℕ) (d : ℕ) (q : Spelling) → d ≤ 64 → is_name n ≡ true → Prints t (q d) → Prints (n ++ 32 ∷ t) ((key n ⨾ q) d)
keyed n t d q low is h = worded kind.Name n (32 ∷ t) d (λ w. w.text ≡ n) q low refl (λ rest ok. (is, refl)) (spaced 32 t (q d) refl h)

-- a number
pub prints_number : (n : ℕ) (d : ℕ) → d ≤ 64 → n < 2 ^ 128 → Prints (decimal n) (number n d)
prints_number n d low less =
    let is = decimal_number n less in
    single kind.Number (decimal n) d (λ w. (w.kind ≡ kind.Number) × (value_of w.text ≡ n)) low (refl, is.value) (λ rest ok. (is.number, ok))

-- a text in its quotes
pub prints_text : (body : List ℕ) (d : ℕ) → d ≤ 64 → list_all is_text_byte body ≡ true → Prints (codes "\"" ++ body ++ codes "\"") (text body d)
prints_text body d low is =
    single kind.Text (codes "\"" ++ body ++ codes "\"") d (λ w. (w.kind ≡ kind.Text) × (w.text ≡ codes "\"" ++ body ++ codes "\"")) low (refl, refl) (λ rest ok. ((body, is, refl), tt))

-- the words and the nesting that stand
pub record Good (placed : List Placed) : Type 0 where
  pub words : AreWords (bare placed)
  pub shallow : AreShallow placed

-- a part that prints as this text at its nesting or less, and what stands behind it
pub record Fits (text : List ℕ) (p : Spelling) (d : ℕ) (after : List Placed) : Type 0 where
  pub prints : (e : ℕ) → e ≤ d → Prints text (p e)
  pub good : Good after

-- the first word of a part that stands
pub record Head (test : Word → Type 0) (d : ℕ) (b a : List Placed) : Type 0 where
  pub word : Word
  pub is : test word
  pub lexed : IsWord word.kind word.text
  pub low : d ≤ 64
  pub good : Good a

pub head : (is : Word → Type 0) (d : ℕ) (b a : List Placed) → one is d b a → Good b → Head is d b a
head is d b a (w, h, e) good =
    let words : AreWords (bare (record { word = w; depth = d } ∷ a)) = subst (λ x. AreWords (bare x)) e good.words in
    let shallow : AreShallow (record { word = w; depth = d } ∷ a) = subst AreShallow e good.shallow in
    record { word = w; is = h; lexed = words.0; low = shallow.0; good = record { words = words.1; shallow = shallow.1 } }

pub lower : (e d : ℕ) → e ≤ d → d ≤ 64 → e ≤ 64
lower e d h k = omega (arith, h, k)

-- the longest texts are cut from the right
pub assoc3 : (a b c : List ℕ) → a ++ b ++ c ≡ a ++ (b ++ c)
assoc3 a b c = append_assoc a b c

pub assoc4 : (a b c d : List ℕ) → a ++ b ++ c ++ d ≡ a ++ (b ++ (c ++ d))
assoc4 a b c d = append_assoc (a ++ b) c d ∙ assoc3 a b (c ++ d)

pub assoc5 : (a b c d e : List ℕ) → a ++ b ++ c ++ d ++ e ≡ a ++ (b ++ (c ++ (d ++ e)))
assoc5 a b c d e = append_assoc (a ++ b ++ c) d e ∙ assoc4 a b c (d ++ e)

pub assoc6 : (a b c d e f : List ℕ) → a ++ b ++ c ++ d ++ e ++ f ≡ a ++ (b ++ (c ++ (d ++ (e ++ f))))
assoc6 a b c d e f = append_assoc (a ++ b ++ c ++ d) e f ∙ assoc5 a b c d (e ++ f)

pub assoc7 : (a b c d e f g : List ℕ) → a ++ b ++ c ++ d ++ e ++ f ++ g ≡ a ++ (b ++ (c ++ (d ++ (e ++ (f ++ g)))))
assoc7 a b c d e f g = append_assoc (a ++ b ++ c ++ d ++ e) f g ∙ assoc6 a b c d e (f ++ g)

pub assoc8 : (a b c d e f g h : List ℕ) → a ++ b ++ c ++ d ++ e ++ f ++ g ++ h ≡ a ++ (b ++ (c ++ (d ++ (e ++ (f ++ (g ++ h))))))
assoc8 a b c d e f g h = append_assoc (a ++ b ++ c ++ d ++ e ++ f) g h ∙ assoc7 a b c d e f (g ++ h)

pub assoc9 : (a b c d e f g h i : List ℕ) → a ++ b ++ c ++ d ++ e ++ f ++ g ++ h ++ i ≡ a ++ (b ++ (c ++ (d ++ (e ++ (f ++ (g ++ (h ++ i)))))))
assoc9 a b c d e f g h i = append_assoc (a ++ b ++ c ++ d ++ e ++ f ++ g) h i ∙ assoc8 a b c d e f g (h ++ i)

-- a part that stands prints as its text
pub fits_name : (n : List ℕ) (d : ℕ) (b a : List Placed) → name n d b a → Good b → Fits n (name n) d a
fits_name n d b a is good =
    let h = head (λ w. (w.kind ≡ kind.Name) × (w.text ≡ n)) d b a is good in
    let valid : is_name n ≡ true = subst (λ t. is_name t ≡ true) h.is.1 (subst (λ k. IsWord k h.word.text) h.is.0 h.lexed) in
    record { prints = λ e low. prints_name n e (lower e d low h.low) valid; good = h.good }

less_than : (a b : ℕ) → nat_lt a b ≡ true → a < b
less_than a b h = grind (arith, nat_tests)

number_small : (t : List ℕ) → is_number t ≡ true → value_of t < 2 ^ 128
unfolding is_number are_digits have_value value_of
number_small t h =
    let small : nat_lt (digits_value (base_of t) (digits_of t)) (2 ^ 128) ≡ true =
    (and_parts (list_all (is_digit (base_of t)) (digits_of t)) (nat_lt (digits_value (base_of t) (digits_of t)) (2 ^ 128)) (and_parts (nat_lt 0 (length (digits_of t))) _ h).1).1 in
    less_than (digits_value (base_of t) (digits_of t)) (2 ^ 128) small

pub number_fits : (n : ℕ) (d : ℕ) (b a : List Placed) → number n d b a → Good b → n < 2 ^ 128
number_fits n d b a is good =
    let h = head (λ w. (w.kind ≡ kind.Number) × (value_of w.text ≡ n)) d b a is good in
    subst (λ m. m < 2 ^ 128) h.is.1 (number_small h.word.text (subst (λ k. IsWord k h.word.text) h.is.0 h.lexed))

pub fits_number : (n : ℕ) (d : ℕ) (b a : List Placed) → number n d b a → Good b → Fits (decimal n) (number n) d a
fits_number n d b a is good =
    let h = head (λ w. (w.kind ≡ kind.Number) × (value_of w.text ≡ n)) d b a is good in
    let small = number_fits n d b a is good in
    record { prints = λ e low. prints_number n e (lower e d low h.low) small; good = h.good }

pub fits_number_in : (least most n : ℕ) (d : ℕ) (b a : List Placed) → number_in least most n d b a → Good b → Fits (decimal n) (number_in least most n) d a
fits_number_in least most n d b a (low, high, is) good =
    let f = fits_number n d b a is good in
    record { prints = λ e h. same_part (decimal n) (number n e) (number_in least most n e) (f.prints e h) (λ x y s. (low, high, s)); good = f.good }

without_last : (x : List ℕ) → take (length (x ++ 34 ∷ []) - 1) (x ++ 34 ∷ []) ≡ x
without_last x =
    let count : length (x ++ 34 ∷ []) - 1 ≡ length x = let size = length-append x (34 ∷ []) in omega (arith, size) in
    (λ i. take (count i) (x ++ 34 ∷ [])) ∙ take-append_seam x (34 ∷ [])

quoted_body : (t body : List ℕ) → t ≡ codes "\"" ++ body ++ codes "\"" → IsText t → list_all is_text_byte body ≡ true
quoted_body t body same (inner, all, is) = subst (λ x. list_all is_text_byte x ≡ true) (unquoted inner body (sym is ∙ same)) all
  where
    without_first : List ℕ → List ℕ
    without_first [] = []
    without_first (c ∷ rest) = rest

    unquoted : (x y : List ℕ) → 34 ∷ (x ++ 34 ∷ []) ≡ 34 ∷ (y ++ 34 ∷ []) → x ≡ y
    unquoted x y e = sym (without_last x) ∙ ap (λ z. take (length z - 1) z) (ap without_first e) ∙ without_last y

pub fits_text : (body : List ℕ) (d : ℕ) (b a : List Placed) → text body d b a → Good b → Fits (codes "\"" ++ body ++ codes "\"") (text body) d a
fits_text body d b a is good =
    let h = head (λ w. (w.kind ≡ kind.Text) × (w.text ≡ codes "\"" ++ body ++ codes "\"")) d b a is good in
    let valid = quoted_body h.word.text body h.is.1 (subst (λ k. IsWord k h.word.text) h.is.0 h.lexed) in
    record { prints = λ e low. prints_text body e (lower e d low h.low) valid; good = h.good }

-- a word of the language that stands, and a text behind it
pub fits_keyed : (n t : List ℕ) (q : Spelling) (d : ℕ) (b m a : List Placed) → key n d b m → Good b → is_name n ≡ true → (Good m → Fits t q d a) → Fits (n ++ 32 ∷ t) (key n ⨾ q) d a
fits_keyed n t q d b m a is good valid later =
    let h = head (λ w. w.text ≡ n) d b m is good in
    let f = later h.good in
    record { prints = λ e low. keyed n t e q (lower e d low h.low) valid (f.prints e low); good = f.good }

-- a sign that stands and begins no longer one, and a text behind it
pub fits_signed : (c : ℕ) (t : List ℕ) (q : Spelling) (d : ℕ) (b m a : List Placed) → key (c ∷ []) d b m → Good b → is_single c ≡ true → ((e : ℕ) → is_pair c e ≡ false) → (Good m → Fits t q d a) → Fits (c ∷ t) (key (c ∷ []) ⨾ q) d a
fits_signed c t q d b m a is good single' none' later =
    let h = head (λ w. w.text ≡ c ∷ []) d b m is good in
    let f = later h.good in
    record { prints = λ e low. signed_text c t e q (lower e d low h.low) single' none' (f.prints e low); good = f.good }

pub fits_sign : (c : ℕ) (d : ℕ) (b a : List Placed) → key (c ∷ []) d b a → Good b → is_single c ≡ true → ((e : ℕ) → is_pair c e ≡ false) → Fits (c ∷ []) (key (c ∷ [])) d a
fits_sign c d b a is good single' none' =
    let h = head (λ w. w.text ≡ c ∷ []) d b a is good in
    record { prints = λ e low. sign_alone c e (lower e d low h.low) single' none'; good = h.good }

pub fits_key : (n : List ℕ) (d : ℕ) (b a : List Placed) → key n d b a → Good b → is_name n ≡ true → Fits n (key n) d a
fits_key n d b a is good valid =
    let h = head (λ w. w.text ≡ n) d b a is good in
    record { prints = λ e low. prints_key n e (lower e d low h.low) valid; good = h.good }

pub fits_both : (t u : List ℕ) (p q : Spelling) (d : ℕ) (m a : List Placed) → Fits t p d m → (Good m → Fits u q d a) → Off u → Fits (t ++ u) (p ⨾ q) d a
fits_both t u p q d m a f later off =
    let g = later f.good in
    record { prints = λ e low. both t u p q e (f.prints e low) (g.prints e low) off; good = g.good }

pub fits_spaced : (c : ℕ) (t : List ℕ) (p : Spelling) (d : ℕ) (a : List Placed) → is_blank c ≡ true → Fits t p d a → Fits (c ∷ t) p d a
fits_spaced c t p d a is f = record { prints = λ e low. spaced c t (p e) is (f.prints e low); good = f.good }

pub fits_ended : (c : ℕ) (t : List ℕ) (p : Spelling) (d : ℕ) (a : List Placed) → is_blank c ≡ true → Apart (c ∷ []) → Fits t p d a → Fits (t ++ c ∷ []) p d a
fits_ended c t p d a is off f = record { prints = λ e low. ended c t (p e) is off (f.prints e low); good = f.good }

pub fits_as : (t u : List ℕ) (p : Spelling) (d : ℕ) (a : List Placed) → Fits u p d a → t ≡ u → Fits t p d a
fits_as t u p d a f same = record { prints = λ e low. same_text t u (p e) (f.prints e low) same; good = f.good }

-- a sign before a number
pub before_digit : (c : ℕ) (t rest : List ℕ) → is_single c ≡ true → ((x : ℕ) → is_decimal x ≡ true → is_pair c x ≡ false) → begins is_decimal t ≡ true → IsToken kind.Sign (c ∷ []) (t ++ rest)
before_digit c [] rest single' none' h = absurd (true≢false (sym h))
before_digit c (x ∷ t) rest single' none' h = apart c x (t ++ rest) single' (none' x h)

pub fits_pointed : (c : ℕ) (n least most d : ℕ) (b m a : List Placed) → key (c ∷ []) d b m → Good b → is_single c ≡ true → ((x : ℕ) → is_decimal x ≡ true → is_pair c x ≡ false)
    → number_in least most n d m a → Fits (c ∷ decimal n) (key (c ∷ []) ⨾ number_in least most n) d a
fits_pointed c n least most d b m a is good single' none' number' =
    let h = head (λ w. w.text ≡ c ∷ []) d b m is good in
    let f = fits_number_in least most n d m a number' h.good in
    let small : n < 2 ^ 128 = number_fits n d m a number'.2 h.good in
    record {
      prints = λ e low. worded kind.Sign (c ∷ []) (decimal n) e (λ w. w.text ≡ c ∷ []) (number_in least most n) (lower e d low h.low) refl (λ rest ok. before_digit c (decimal n) rest single' none' (decimal_number n small).begins_digit) (f.prints e low);
      good = f.good;
    }
