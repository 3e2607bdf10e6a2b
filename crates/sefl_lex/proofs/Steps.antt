-- How far the reading of a text has come, and what one step keeps of it.
use Rattle.std.proofs.Common.{◌≡◌, ℕ, ◌+◌, ◌-◌, ◌≤◌, ◌<◌, List, [], ◌∷◌, ◌++◌, length, take, drop, refl, sym, ap, ◌∙◌, subst, arith, length-append, append_assoc, length-drop, inl, inr, Result, Ok, Err}
use Rattle.std.specs.Prelude.{All}
use Rattle.std.proofs.Math.ListN.{drop_of_length-le}
use Rattle.std.proofs.lemmas.List.{take-append-drop, length-take-le, drop-drop, append-nil}
use Rattle.std.proofs.lemmas.List.Elements.{All-push}
use Rattle.sefl_lex.specs.declared.token.TokenKind.{TokenKind}
use Rattle.sefl_lex.specs.declared.token.Token.{Token}
use Rattle.sefl_lex.specs.declared.fault.LexFault.{LexFault}
use Rattle.sefl_lex.specs.declared.fault.LexFault.TheVariants.{BadCharacter, BadNumber, OpenText}
use Rattle.sefl_lex.specs.declared.front.Front.{Front}
use Rattle.sefl_lex.specs.declared.front.Front.TheVariants.{Gap, Word, Stray, LongName, NoNumber, NoText}
use Rattle.sefl_lex.specs.Words.{IsWord, IsLongName}
use Rattle.sefl_lex.specs.Reads.{token_at, before, Reads, none, gap, token, fault, IsTokenOf}
use Rattle.sefl_lex.specs.Front.{front_of}
use Rattle.sefl_lex.proofs.Fronts.{gap_not_empty, token_not_empty}
use Rattle.sefl_lex.proofs.Stands.{Stands, stands}

-- the tokens found before an answer
abbrev pub joined : List Token → Result (List Token) LexFault → Result (List Token) LexFault
joined found (Ok tokens) = Ok (found ++ tokens)
joined found (Err f) = Err f

joined-none : (answer : Result (List Token) LexFault) → joined [] answer ≡ answer
joined-none (Ok tokens) = refl
joined-none (Err found) = refl

joined-before : (found : List Token) (first : Token) (answer : Result (List Token) LexFault) → joined found (before first answer) ≡ joined (found ++ first ∷ []) answer
joined-before found first (Ok tokens) = ap (λ ts. Ok ts) (sym (append_assoc found (first ∷ []) tokens))
joined-before found first (Err f) = refl

-- the tokens of the text up to the place are found: what the rest is read as is the answer after them
pub record Progress (text : List ℕ) (found : List Token) (at : ℕ) : Type 0 where
  pub within : at ≤ length text
  pub continues : (answer : Result (List Token) LexFault) → Reads at (drop at text) answer → Reads 0 text (joined found answer)
  pub spans : All (IsTokenOf text) found

pub start : (text : List ℕ) → Progress text [] 0
start text = record {
  within = omega arith;
  continues = λ answer reads. subst (λ (a : Result (List Token) LexFault). Reads 0 text a) (sym (joined-none answer)) reads;
  spans = λ k d lt. absurd (omega arith);
}

stands_in : (bytes : List ℕ) → 0 < length bytes → Stands bytes (front_of bytes)
stands_in [] positive = absurd (omega arith)
stands_in (c ∷ rest) positive = stands c rest

pub stands_at : (text : List ℕ) (at : ℕ) (rest : List ℕ) (front : Front) → at < length text → rest ≡ drop at text → front ≡ front_of rest → Stands (drop at text) front
stands_at text at rest front lt rest_is front_is =
    subst (λ (f : Front). Stands (drop at text) f) (sym (front_is ∙ ap front_of rest_is))
    (stands_in (drop at text) (omega (arith, length-drop at text)))

-- the reading of what follows the first bytes of the rest
follows : (text : List ℕ) (at count : ℕ) (answer : Result (List Token) LexFault) → count ≤ length (drop at text) → Reads (at + count) (drop (at + count) text) answer → Reads (at + length (take count (drop at text))) (drop count (drop at text)) answer
follows text at count answer within reads =
    let size : length (take count (drop at text)) ≡ count = length-take-le count (drop at text) within in
    subst (λ (n : ℕ). Reads (at + n) (drop count (drop at text)) answer) (sym size)
    (subst (λ (l : List ℕ). Reads (at + count) l answer) (sym (drop-drop count at text)) reads)

gap_inside : {text : List ℕ} {found : List Token} {at : ℕ} (count : ℕ) → Progress text found at → Stands (drop at text) (Gap count) → Progress text found (at + count)
unfolding Stands
gap_inside {text} {found} {at} count progress s = record {
  within = omega (arith, s.0, length-drop at text, progress.within);
  continues = λ answer reads.
      progress.continues answer (gap (take count (drop at text)) (drop count (drop at text)) (drop at text) (sym (take-append-drop count (drop at text))) s.1 (follows text at count answer s.0 reads));
  spans = progress.spans;
}

token_inside : {text : List ℕ} {found : List Token} {at : ℕ} (kind : TokenKind) (count : ℕ) → Progress text found at → Stands (drop at text) (Word kind count) → Progress text (found ++ record { kind = kind; start = at; end = at + count } ∷ []) (at + count)
unfolding Stands
token_inside {text} {found} {at} kind count progress s =
    let rest = drop at text in
    let size : length (take count rest) ≡ count = length-take-le count rest s.0 in
    let positive = token_not_empty kind (take count rest) (drop count rest) s.1 in
    let this : Token = record { kind = kind; start = at; end = at + count } in
    let less : at + count - at ≡ count = omega arith in
    record {
      within = omega (arith, s.0, length-drop at text, progress.within);
      continues = λ answer reads.
          let whole = progress.continues (before (token_at kind at (take count rest)) answer) (token kind (take count rest) (drop count rest) rest (sym (take-append-drop count rest)) s.1 (follows text at count answer s.0 reads)) in
          let same : token_at kind at (take count rest) ≡ this = λ i. record { kind = kind; start = at; end = at + size i } in
          subst (λ (a : Result (List Token) LexFault). Reads 0 text a) (ap (λ t. joined found (before t answer)) same ∙ joined-before found this answer) whole;
      spans = All-push (IsTokenOf text) found this progress.spans (record {
        not_empty = omega (arith, positive, size);
        within = omega (arith, s.0, length-drop at text, progress.within);
        word = subst (λ (n : ℕ). IsWord kind (take n rest)) (sym less) s.1.0;
      });
    }

long_name_size : (bytes : List ℕ) → IsLongName bytes → 64 ≤ length bytes
long_name_size bytes (word, rest, is, name, size, goes_on) = omega (arith, ap length is, length-append word rest, size)

-- the rest of the text begins at the place, and this stands at its front
module _ {text : List ℕ} {found : List Token} {at : ℕ} (rest : List ℕ) (progress : Progress text found at) (lt : at < length text) (rest_is : rest ≡ drop at text) where
  pub gap_step : (count : ℕ) → Gap count ≡ front_of rest → Progress text found (at + count)
  gap_step count is = gap_inside count progress (stands_at text at rest (Gap count) lt rest_is is)

  pub token_step : (kind : TokenKind) (count : ℕ) → Word kind count ≡ front_of rest → Progress text (found ++ record { kind = kind; start = at; end = at + count } ∷ []) (at + count)
  token_step kind count is = token_inside kind count progress (stands_at text at rest (Word kind count) lt rest_is is)

  pub gap_moves : (count : ℕ) → Gap count ≡ front_of rest → 0 < count
  unfolding Stands
  gap_moves count is =
      let s = stands_at text at rest (Gap count) lt rest_is is in
      omega (arith, gap_not_empty (take count (drop at text)) (drop count (drop at text)) s.1, length-take-le count (drop at text) s.0)

  pub token_moves : (kind : TokenKind) (count : ℕ) → Word kind count ≡ front_of rest → 0 < count
  unfolding Stands
  token_moves kind count is =
      let s = stands_at text at rest (Word kind count) lt rest_is is in
      omega (arith, token_not_empty kind (take count (drop at text)) (drop count (drop at text)) s.1, length-take-le count (drop at text) s.0)

  pub stray_step : Stray ≡ front_of rest → Reads 0 text (Err (BadCharacter at))
  unfolding Stands
  stray_step is = progress.continues (Err (BadCharacter at)) (fault (drop at text) (BadCharacter at) (inl (refl, stands_at text at rest Stray lt rest_is is)))

  pub long_name_step : LongName ≡ front_of rest → Reads 0 text (Err (BadCharacter (at + 64)))
  unfolding Stands
  long_name_step is = progress.continues (Err (BadCharacter (at + 64))) (fault (drop at text) (BadCharacter (at + 64)) (inr (refl, stands_at text at rest LongName lt rest_is is)))

  pub long_name_within : LongName ≡ front_of rest → at + 64 ≤ length text
  unfolding Stands
  long_name_within is = omega (arith, long_name_size (drop at text) (stands_at text at rest LongName lt rest_is is), length-drop at text)

  pub no_number_step : NoNumber ≡ front_of rest → Reads 0 text (Err (BadNumber at))
  unfolding Stands
  no_number_step is = progress.continues (Err (BadNumber at)) (fault (drop at text) (BadNumber at) (refl, stands_at text at rest NoNumber lt rest_is is))

  pub no_text_step : NoText ≡ front_of rest → Reads 0 text (Err (OpenText at))
  unfolding Stands
  no_text_step is = progress.continues (Err (OpenText at)) (fault (drop at text) (OpenText at) (refl, stands_at text at rest NoText lt rest_is is))

-- at the end of the text all tokens are found
pub end_step : {text : List ℕ} {found : List Token} {at : ℕ} → Progress text found at → length text ≤ at → Reads 0 text (Ok found)
end_step {text} {found} {at} progress past =
    let rest : drop at text ≡ [] = drop_of_length-le text past in
    subst (λ (ts : List Token). Reads 0 text (Ok ts)) (append-nil found)
    (progress.continues (Ok []) (subst (λ (l : List ℕ). Reads at l (Ok [])) (sym rest) none))
