-- The first token of a text, and those behind it.
use Rattle.std.proofs.Common.{◌≡◌, ◌∙◌, ℕ, zero, suc, ◌+◌, ◌-◌, ◌≤◌, List, [], ◌∷◌, take, drop, length, length-drop, None, Some, refl, sym, ap, arith}
use Rattle.std.proofs.lemmas.List.{length-take-le}
use Rattle.click_text.specs.declared.token.TokenKind.{TokenKind}
use Rattle.click_text.specs.declared.front.Front.{Front}
use Rattle.click_text.specs.Comments.{line_behind}
use Rattle.click_text.specs.Fronts.{front_of}
use Rattle.click_text.specs.Tokens.{with_token, tokens_in, tokens_from}

-- how many bytes there are at most does not count, once there are enough
enough : (n m line : ℕ) (bytes : List ℕ) → length bytes ≤ n → length bytes ≤ m → tokens_in n line bytes ≡ tokens_in m line bytes
enough zero zero line bytes least most = refl
enough zero (suc m) line [] least most = refl
enough zero (suc m) line (c ∷ rest) least most = absurd (omega (arith, least))
enough (suc n) zero line [] least most = refl
enough (suc n) zero line (c ∷ rest) least most = absurd (omega (arith, most))
enough (suc n) (suc m) line [] least most = refl
enough (suc n) (suc m) line (c ∷ rest) least most =
    let more = (front_of c rest).more in
    let word = take (more + 1) (c ∷ rest) in
    let size = length-drop (more + 1) (c ∷ rest) in
    ap (with_token (front_of c rest).token line word)
    (enough n m (line_behind line word) (drop (more + 1) (c ∷ rest)) (omega (arith, size, least)) (omega (arith, size, most)))

-- what stands at the front comes first
step : (line c : ℕ) (rest : List ℕ) → tokens_from line (c ∷ rest)
    ≡ with_token (front_of c rest).token line (take ((front_of c rest).more + 1) (c ∷ rest))
    (tokens_from (line_behind line (take ((front_of c rest).more + 1) (c ∷ rest))) (drop ((front_of c rest).more + 1) (c ∷ rest)))
step line c rest =
    let more = (front_of c rest).more in
    let word = take (more + 1) (c ∷ rest) in
    let behind = drop (more + 1) (c ∷ rest) in
    let size = length-drop (more + 1) (c ∷ rest) in
    ap (with_token (front_of c rest).token line word)
    (enough (length rest) (length behind) (line_behind line word) behind (omega (arith, size)) (omega arith))

module _ (line c next : ℕ) (bytes rest word behind : List ℕ) (front : Front) (is : bytes ≡ c ∷ rest) (front_is : front ≡ front_of c rest) (word_is : word ≡ take (front.more + 1) bytes) (behind_is : behind ≡ drop (front.more + 1) bytes) (next_is : next ≡ line_behind line word) where
  whole : tokens_from line bytes ≡ with_token front.token line word (tokens_from next behind)
  whole =
      let taken : take ((front_of c rest).more + 1) (c ∷ rest) ≡ word = (λ i. take ((sym front_is i).more + 1) (sym is i)) ∙ sym word_is in
      let left : drop ((front_of c rest).more + 1) (c ∷ rest) ≡ behind = (λ i. drop ((sym front_is i).more + 1) (sym is i)) ∙ sym behind_is in
      ap (tokens_from line) is ∙ step line c rest
      ∙ (λ i. with_token (sym front_is i).token line (taken i) (tokens_from (line_behind line (taken i)) (left i)))
      ∙ ap (λ n. with_token front.token line word (tokens_from n behind)) (sym next_is)

  pub gap_first : front.token ≡ None → tokens_from line bytes ≡ tokens_from next behind
  gap_first none = whole ∙ ap (λ token. with_token token line word (tokens_from next behind)) none

  pub token_first : (kind : TokenKind) → front.token ≡ Some kind → tokens_from line bytes ≡ record { kind = kind; line = line; word = word } ∷ tokens_from next behind
  token_first kind some = whole ∙ ap (λ token. with_token token line word (tokens_from next behind)) some

-- what stands at the front and what is behind it make up the whole
pub split_sizes : (more c : ℕ) (bytes rest word behind : List ℕ) → bytes ≡ c ∷ rest → more ≤ length rest → word ≡ take (more + 1) bytes → behind ≡ drop (more + 1) bytes
    → length word + length behind ≡ length bytes
split_sizes more c bytes rest word behind is within word_is behind_is =
    let size : length bytes ≡ length rest + 1 = ap length is ∙ omega arith in
    let taken : length word ≡ more + 1 = ap length word_is ∙ length-take-le (more + 1) bytes (omega (arith, size, within)) in
    let left : length behind ≡ length bytes - (more + 1) = ap length behind_is ∙ length-drop (more + 1) bytes in
    omega (arith, size, taken, left, within)
