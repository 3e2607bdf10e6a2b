-- A text is read as one answer alone.
use Rattle.std.proofs.Common.{◌≡◌, ℕ, ◌+◌, ◌<◌, List, [], ◌++◌, length, take, drop, refl, sym, ap, ◌∙◌, subst, arith, inl, inr, ⊎_elim, length-append, Option, Some, None, Result, Ok, Err}
use Rattle.std.proofs.Math.Seq.{take-append_seam, drop-append_seam}
use Rattle.sefl_lex.specs.declared.token.TokenKind.{TokenKind}
use Rattle.sefl_lex.specs.declared.token.Token.{Token}
use Rattle.sefl_lex.specs.declared.fault.LexFault.{LexFault}
use Rattle.sefl_lex.specs.declared.fault.LexFault.TheVariants.{BadCharacter, BadNumber, OpenText, NoMemory}
use Rattle.sefl_lex.specs.declared.front.Front.{Front}
use Rattle.sefl_lex.specs.declared.front.Front.TheVariants.{Gap, Word, Stray, LongName, NoNumber, NoText}
use Rattle.sefl_lex.specs.Words.{IsToken}
use Rattle.sefl_lex.specs.Reads.{IsGap, IsFault, token_at, before, Reads, none, gap, token, fault}
use Rattle.sefl_lex.specs.Front.{front_of}
use Rattle.sefl_lex.proofs.Fronts.{gap-front, gap_not_empty, token-front, token_not_empty, stray-front, long_name-front, no_number-front, no_text-front}

abbrev Answer : Type 0
Answer = Result (List Token) LexFault

-- two splits of one list, with first parts of one length, are one
split_same : (word rest word' rest' : List ℕ) → word ++ rest ≡ word' ++ rest' → length word ≡ length word' → (word ≡ word') × (rest ≡ rest')
split_same word rest word' rest' same size = (
  sym (take-append_seam word rest) ∙ (λ i. take (size i) (same i)) ∙ take-append_seam word' rest',
  sym (drop-append_seam word rest) ∙ (λ i. drop (size i) (same i)) ∙ drop-append_seam word' rest',
)

-- the fault of a front
abbrev fault_of : ℕ → Front → Option LexFault
fault_of at (Gap _) = None
fault_of at (Word _ _) = None
fault_of at Stray = Some (BadCharacter at)
fault_of at LongName = Some (BadCharacter (at + 64))
fault_of at NoNumber = Some (BadNumber at)
fault_of at NoText = Some (OpenText at)

fault-front : (at : ℕ) (bytes : List ℕ) (found : LexFault) → IsFault at bytes found → fault_of at (front_of bytes) ≡ Some found
fault-front at bytes (BadCharacter place) is =
    ⊎_elim
    (λ stray. ap (fault_of at) (stray-front bytes stray.1) ∙ ap (λ p. Some (BadCharacter p)) (sym stray.0))
    (λ long. ap (fault_of at) (long_name-front bytes long.1) ∙ ap (λ p. Some (BadCharacter p)) (sym long.0)) is
fault-front at bytes (BadNumber place) is = ap (fault_of at) (no_number-front bytes is.1) ∙ ap (λ p. Some (BadNumber p)) (sym is.0)
fault-front at bytes (OpenText place) is = ap (fault_of at) (no_text-front bytes is.1) ∙ ap (λ p. Some (OpenText p)) (sym is.0)
fault-front at bytes NoMemory is = absurd is

-- the empty text has no fault
no_fault-empty : (at : ℕ) (found : LexFault) → IsFault at [] found → ⊥
no_fault-empty at (BadCharacter place) (inl stray) = stray.1
no_fault-empty at (BadCharacter place) (inr (_, (word, rest, is, name, size, goes_on))) = omega (arith, ap length is, length-append word rest)
no_fault-empty at (BadNumber place) is = let begun = is.1.0 in cc
no_fault-empty at (OpenText place) is = let begun = is.1.0 in cc
no_fault-empty at NoMemory is = is

-- a part that is not empty does not begin the empty text
no_part-empty : (word rest : List ℕ) → [] ≡ word ++ rest → 0 < length word → ⊥
no_part-empty word rest is positive = omega (arith, ap length is, length-append word rest)

abbrev gap_front_at : (word rest bytes : List ℕ) → bytes ≡ word ++ rest → IsGap word rest → front_of bytes ≡ Gap (length word)
gap_front_at word rest bytes is g = ap front_of is ∙ gap-front word rest g

abbrev token_front_at : (kind : TokenKind) (word rest bytes : List ℕ) → bytes ≡ word ++ rest → IsToken kind word rest → front_of bytes ≡ Word kind (length word)
token_front_at kind word rest bytes is t = ap front_of is ∙ token-front kind word rest t

after_gap : {at : ℕ} {answer : Answer} {bytes : List ℕ} (word rest : List ℕ) → bytes ≡ word ++ rest → IsGap word rest → Reads at bytes answer → Reads (at + length word) rest answer
after_gap word rest is g none = absurd (no_part-empty word rest is (gap_not_empty word rest g))
after_gap {at} {answer} word rest is g (gap word' rest' bytes is' g' reads) =
    let fronts = sym (gap_front_at word rest bytes is g) ∙ gap_front_at word' rest' bytes is' g' in
    let size : length word ≡ length word' = cc in
    let same = split_same word rest word' rest' (sym is ∙ is') size in
    subst (λ (l : List ℕ). Reads (at + length word) l answer) (sym same.1) (subst (λ (n : ℕ). Reads (at + n) rest' answer) (sym size) reads)
after_gap word rest is g (token kind word' rest' bytes is' t' reads) =
    let fronts = sym (gap_front_at word rest bytes is g) ∙ token_front_at kind word' rest' bytes is' t' in
    absurd cc
after_gap {at} word rest is g (fault bytes found f) =
    let fronts = sym (ap (fault_of at) (gap_front_at word rest bytes is g)) ∙ fault-front at bytes found f in
    absurd cc

after_token : {at : ℕ} {answer : Answer} {bytes : List ℕ} (kind : TokenKind) (word rest : List ℕ) → bytes ≡ word ++ rest → IsToken kind word rest → Reads at bytes answer → (after : Answer) × (answer ≡ before (token_at kind at word) after) × Reads (at + length word) rest after
after_token kind word rest is t none = absurd (no_part-empty word rest is (token_not_empty kind word rest t))
after_token kind word rest is t (gap word' rest' bytes is' g' reads) =
    let fronts = sym (token_front_at kind word rest bytes is t) ∙ gap_front_at word' rest' bytes is' g' in
    absurd cc
after_token {at} kind word rest is t (token {answer = after} kind' word' rest' bytes is' t' reads) =
    let fronts = sym (token_front_at kind word rest bytes is t) ∙ token_front_at kind' word' rest' bytes is' t' in
    let size : length word ≡ length word' = cc in
    let kinds : kind ≡ kind' = cc in
    let same = split_same word rest word' rest' (sym is ∙ is') size in (
      after,
      (λ i. before (token_at (sym kinds i) at (sym same.0 i)) after),
      subst (λ (l : List ℕ). Reads (at + length word) l after) (sym same.1) (subst (λ (n : ℕ). Reads (at + n) rest' after) (sym size) reads),
    )
after_token {at} kind word rest is t (fault bytes found f) =
    let fronts = sym (ap (fault_of at) (token_front_at kind word rest bytes is t)) ∙ fault-front at bytes found f in
    absurd cc

after_fault : {at : ℕ} {answer : Answer} {bytes : List ℕ} (found : LexFault) → IsFault at bytes found → Reads at bytes answer → answer ≡ Err found
after_fault {at} found f none = absurd (no_fault-empty at found f)
after_fault {at} found f (gap word rest bytes is g reads) =
    let fronts = sym (ap (fault_of at) (gap_front_at word rest bytes is g)) ∙ fault-front at bytes found f in
    absurd cc
after_fault {at} found f (token kind word rest bytes is t reads) =
    let fronts = sym (ap (fault_of at) (token_front_at kind word rest bytes is t)) ∙ fault-front at bytes found f in
    absurd cc
after_fault {at} found f (fault bytes found' f') =
    let fronts = sym (fault-front at bytes found f) ∙ fault-front at bytes found' f' in
    cc

after_end : {at : ℕ} {answer : Answer} {bytes : List ℕ} → bytes ≡ [] → Reads at bytes answer → answer ≡ Ok []
after_end is none = refl
after_end is (gap word rest bytes is' g reads) = absurd (no_part-empty word rest (sym is ∙ is') (gap_not_empty word rest g))
after_end is (token kind word rest bytes is' t reads) = absurd (no_part-empty word rest (sym is ∙ is') (token_not_empty kind word rest t))
after_end {at} is (fault bytes found f) = absurd (no_fault-empty at found (subst (λ (l : List ℕ). IsFault at l found) is f))

-- one answer alone
pub one_answer : {at : ℕ} {bytes : List ℕ} {answer other : Answer} → Reads at bytes answer → Reads at bytes other → answer ≡ other
one_answer none second = sym (after_end refl second)
one_answer (gap word rest bytes is g reads) second = one_answer reads (after_gap word rest is g second)
one_answer {at} (token kind word rest bytes is t reads) second =
    let after = after_token kind word rest is t second in
    ap (before (token_at kind at word)) (one_answer reads after.2) ∙ sym after.1
one_answer (fault bytes found f) second = sym (after_fault found f second)
