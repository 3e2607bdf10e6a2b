-- A token begins and ends with ASCII bytes, so it is a text of its own.
use Rattle.std.proofs.Common.{◌≡◌, ℕ, suc, ◌+◌, ◌-◌, ◌≤◌, ◌<◌, true, List, [], ◌∷◌, ◌++◌, length, take, drop, get_or, refl, sym, ap, ◌∙◌, subst, arith, length-append, length-drop, append_assoc, ◌&&◌, IsUtf8}
use Rattle.std.specs.Prelude.{nat_le}
use Rattle.std.specs.List.{list_all}
use Rattle.std.specs.Str.{IsCharBoundary}
use Rattle.std.proofs.lemmas.Bool.Decides.{nat_tests}
use Rattle.std.proofs.lemmas.List.{length-take-le, get_or-take, get_or-drop, take-append-drop, drop-drop}
use Rattle.std.proofs.Math.Seq.{take-append_seam}
use Rattle.std.specs.List.{slice_range}
use Rattle.std.proofs.lemmas.List.Recursion.{and_at}
use Rattle.std.proofs.lemmas.Str.{IsCharBoundary-before_ascii, IsCharBoundary-after_ascii}
use Rattle.sefl_lex.specs.declared.token.TokenKind.{TokenKind}
use Rattle.sefl_lex.specs.declared.token.TokenKind.TheVariants.{Name, Number, Text, Sign}
use Rattle.sefl_lex.specs.declared.token.Token.{Token}
use Rattle.sefl_lex.specs.Bytes.{is_name_start, is_name_byte, is_single, is_pair, begins}
use Rattle.sefl_lex.specs.Words.{IsWord}
use Rattle.sefl_lex.specs.Reads.{IsTokenOf, word_of}
use Rattle.sefl_lex.proofs.Fronts.{both, number_bytes}

name_byte_ascii : (c : ℕ) → is_name_byte c ≡ true → c < 128
name_byte_ascii c h = grind (arith, nat_tests)

single_ascii : (c : ℕ) → is_single c ≡ true → c < 128
single_ascii c h = grind (arith, nat_tests)

pair_ascii : (c d : ℕ) → is_pair c d ≡ true → (c < 128) × (d < 128)
pair_ascii c d h = (grind (arith, nat_tests), grind (arith, nat_tests))

name_bytes_ascii : (word : List ℕ) → list_all is_name_byte word ≡ true → (i : ℕ) → i < length word → get_or word i 0 < 128
name_bytes_ascii word all i lt = name_byte_ascii (get_or word i 0) (and_at (list_all is_name_byte) is_name_byte refl (λ _ _. refl) word i 0 lt all)

get_or-seam : (body : List ℕ) → get_or (body ++ 34 ∷ []) (length body) 0 ≡ 34
get_or-seam [] = refl
get_or-seam (c ∷ body) = get_or-seam body

-- the first and the last byte are ASCII
ends_ascii : (kind : TokenKind) (word : List ℕ) → IsWord kind word → 0 < length word → (get_or word 0 0 < 128) × (get_or word (length word - 1) 0 < 128)
ends_ascii Name word name positive =
    let parts = both (begins is_name_start word && list_all is_name_byte word) (nat_le (length word) 64) name in
    let all = (both (begins is_name_start word) (list_all is_name_byte word) parts.0).1 in
    (name_bytes_ascii word all 0 positive, name_bytes_ascii word all (length word - 1) (omega arith))
ends_ascii Number word number positive =
    let all = (number_bytes word number).1 in
    (name_bytes_ascii word all 0 positive, name_bytes_ascii word all (length word - 1) (omega arith))
ends_ascii Text word (body, all, is) positive =
    let whole = 34 ∷ (body ++ 34 ∷ []) in
    let last : length whole - 1 ≡ suc (length body) = omega (arith, length-append body (34 ∷ [])) in
    let closing : get_or whole (length whole - 1) 0 ≡ 34 = ap (λ n. get_or whole n 0) last ∙ get_or-seam body in
    subst (λ (w : List ℕ). (get_or w 0 0 < 128) × (get_or w (length w - 1) 0 < 128)) (sym is)
    (omega arith, omega (arith, closing))
ends_ascii Sign [] sign positive = absurd (omega arith)
ends_ascii Sign (a ∷ []) sign positive = (single_ascii a sign, single_ascii a sign)
ends_ascii Sign (a ∷ b ∷ []) sign positive = pair_ascii a b sign
ends_ascii Sign (a ∷ b ∷ c ∷ word) sign positive = cc

-- a byte of a part of the text
get_or-part : (text : List ℕ) (from count i : ℕ) → i < count → get_or (take count (drop from text)) i 0 ≡ get_or text (from + i) 0
get_or-part text from count i lt = get_or-take count (drop from text) i 0 lt ∙ get_or-drop from text i 0

module _ (text : List ℕ) (t : Token) (is : IsTokenOf text t) where
  size : length (word_of text t) ≡ t.end - t.start
  size = length-take-le (t.end - t.start) (drop t.start text) (omega (arith, is.within, is.not_empty, length-drop t.start text))

  ends : (get_or text t.start 0 < 128) × (get_or text (t.end - 1) 0 < 128)
  ends =
      let word = word_of text t in
      let ascii = ends_ascii t.kind word is.word (omega (arith, size, is.not_empty)) in
      let start : t.start + 0 ≡ t.start = omega arith in
      let end : t.start + (length word - 1) ≡ t.end - 1 = omega (arith, size, is.not_empty) in
      let first : get_or word 0 0 ≡ get_or text t.start 0 = get_or-part text t.start (t.end - t.start) 0 (omega (arith, is.not_empty)) ∙ ap (λ n. get_or text n 0) start in
      let last : get_or word (length word - 1) 0 ≡ get_or text (t.end - 1) 0 = get_or-part text t.start (t.end - t.start) (length word - 1) (omega (arith, size, is.not_empty)) ∙ ap (λ n. get_or text n 0) end in
      (omega (arith, first, ascii.0), omega (arith, last, ascii.1))

  pub starts_character : IsCharBoundary text t.start
  starts_character = IsCharBoundary-before_ascii text t.start (omega (arith, is.within, is.not_empty)) ends.0

  pub ends_character : IsUtf8 text → IsCharBoundary text t.end
  ends_character utf8 =
      let last : t.end - 1 + 1 ≡ t.end = omega (arith, is.not_empty) in
      subst (λ (n : ℕ). IsCharBoundary text n) last (IsCharBoundary-after_ascii text (t.end - 1) utf8 (omega (arith, is.within, is.not_empty)) ends.1)

  pub body_starts_character : IsUtf8 text → IsCharBoundary text (t.start + 1)
  body_starts_character utf8 = IsCharBoundary-after_ascii text t.start utf8 (omega (arith, is.within, is.not_empty)) ends.0

  pub body_ends_character : IsCharBoundary text (t.end - 1)
  body_ends_character = IsCharBoundary-before_ascii text (t.end - 1) (omega (arith, is.within, is.not_empty)) ends.1

  -- a text has two quotes
  pub two_quotes : t.kind ≡ Text → t.start + 1 ≤ t.end - 1
  two_quotes kind_is =
      let word : IsWord Text (word_of text t) = subst (λ (k : TokenKind). IsWord k (word_of text t)) kind_is is.word in
      omega (arith, size, ap length word.2, length-append word.0 (34 ∷ []))

  -- what stands between the quotes of a text
  pub body_is : t.kind ≡ Text → word_of text t ≡ 34 ∷ (slice_range text (t.start + 1) (t.end - 1) ++ 34 ∷ [])
  body_is kind_is =
      let word : IsWord Text (word_of text t) = subst (λ (k : TokenKind). IsWord k (word_of text t)) kind_is is.word in
      let body = word.0 in
      let later = drop (t.end - t.start) (drop t.start text) in
      let from_start : drop t.start text ≡ (34 ∷ (body ++ 34 ∷ [])) ++ later = sym (take-append-drop (t.end - t.start) (drop t.start text)) ∙ ap (λ (l : List ℕ). l ++ later) word.2 in
      let from_body : drop (t.start + 1) text ≡ body ++ 34 ∷ later = sym (drop-drop 1 t.start text) ∙ ap (λ (l : List ℕ). drop 1 l) from_start ∙ append_assoc body (34 ∷ []) later in
      let count : t.end - 1 - (t.start + 1) ≡ length body = omega (arith, size, ap length word.2, length-append body (34 ∷ [])) in
      let same : slice_range text (t.start + 1) (t.end - 1) ≡ body = (λ i. take (count i) (from_body i)) ∙ take-append_seam body (34 ∷ later) in
      word.2 ∙ ap (λ (l : List ℕ). 34 ∷ (l ++ 34 ∷ [])) (sym same)
