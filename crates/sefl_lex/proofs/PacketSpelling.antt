-- Words that are numbers, and the numbers of a file's words.
use Rattle.std.proofs.Common.{◌≡◌, ◌≢◌, ℕ, true, false, List, [], ◌∷◌, ◌++◌, refl, sym, ap, ◌∙◌, append_assoc, append-nil, Option, Some, None, Result, Ok, Err, IfErr}
use Rattle.std.specs.Prelude.{Bool, option_map}
use Rattle.std.specs.Result.{IsErrAnd}
use Rattle.sefl_lex.specs.declared.token.TokenKind.TheVariants.{Number}
use Rattle.sefl_lex.specs.declared.token.Token.{Token}
use Rattle.sefl_lex.specs.declared.fault.LexFault.{LexFault}
use Rattle.sefl_lex.specs.Words.{is_number, value_of}
use Rattle.sefl_lex.specs.Reads.{IsReadAs, token_at, token, none}
use Rattle.sefl_lex.specs.declared.fault.LexFault.TheVariants.{NoMemory}
use Rattle.sefl_lex.specs.declared.packet_fault.PacketFault.{PacketFault}
use Rattle.sefl_lex.specs.declared.packet_fault.PacketFault.TheVariants.{NotNumbers}
use Rattle.sefl_lex.specs.PacketFaults.{packet_fault}
use Rattle.sefl_lex.specs.Packets.{numbers_of, packet_of, words}

-- a number is read as one token
number_reads : (word : List ℕ) → is_number word ≡ true → IsReadAs word (Ok (token_at Number 0 word ∷ []))
number_reads word number = token Number word [] word (sym (append-nil word)) (number, refl) none

-- a text that is read as something else is no number
not_number_by : (word : List ℕ) (answer : Result (List Token) LexFault) (b : Bool) → is_number word ≡ b →
    ((other : Result (List Token) LexFault) → IsReadAs word other → other ≡ answer) →
    (Ok (token_at Number 0 word ∷ []) ≡ answer → ⊥) → is_number word ≡ false
not_number_by word answer true number only other = absurd (other (only (Ok (token_at Number 0 word ∷ [])) (number_reads word number)))
not_number_by word answer false number only other = number

pub not_number : (word : List ℕ) (answer : Result (List Token) LexFault) →
    ((other : Result (List Token) LexFault) → IsReadAs word other → other ≡ answer) →
    (Ok (token_at Number 0 word ∷ []) ≡ answer → ⊥) → is_number word ≡ false
not_number word answer only other = not_number_by word answer (is_number word) refl only other

-- a fault other than want of memory
not_memory : (lex : LexFault) → packet_fault lex ≡ NotNumbers → lex ≢ NoMemory
not_memory lex says is = let memory = ap packet_fault is in absurd cc

err_and : {A E : Type 0} (r : Result A E) (P Q : E → Type 0) → IsErrAnd r Q → ((e : E) → Q e → P e) → IfErr r P
err_and (Ok x) P Q is weaker = tt
err_and (Err e) P Q is weaker = weaker e is

pub fault_says : {A : Type 0} (word text : List ℕ) (lex : LexFault) (r : Result A PacketFault) → text ≡ word →
    (lex ≢ NoMemory → (other : Result (List Token) LexFault) → IsReadAs text other → other ≡ Err lex) →
    IsErrAnd r (λ fault. fault ≡ packet_fault lex) → IfErr r (λ fault. fault ≡ NotNumbers → is_number word ≡ false)
fault_says word text lex r same only is =
    err_and r (λ fault. fault ≡ NotNumbers → is_number word ≡ false) (λ fault. fault ≡ packet_fault lex) is
    (λ fault made says. ap is_number (sym same) ∙ not_number text (Err lex) (only (not_memory lex (sym made ∙ says))) (λ bad. cc))

-- ---- what was found so far, before what is left

abbrev pub found_before : List ℕ → Option (List ℕ) → Option (List ℕ)
found_before found left = option_map (λ later. found ++ later) left

pub nothing_before : (left : Option (List ℕ)) → left ≡ found_before [] left
nothing_before None = refl
nothing_before (Some later) = refl

one_more : (found : List ℕ) (value : ℕ) (left : Option (List ℕ)) →
    found_before found (option_map (λ values. value ∷ values) left) ≡ found_before (found ++ value ∷ []) left
one_more found value None = refl
one_more found value (Some later) = ap Some (sym (append_assoc found (value ∷ []) later))

pub number_step : (found word rest behind : List ℕ) → words rest ≡ word ∷ words behind → is_number word ≡ true →
    found_before found (packet_of rest) ≡ found_before (found ++ value_of word ∷ []) (packet_of behind)
number_step found word rest behind first number =
    ap (λ (ws : List (List ℕ)). found_before found (numbers_of ws)) first
    ∙ rw number (one_more found (value_of word) (packet_of behind))

pub bad_word : (found word rest behind : List ℕ) → words rest ≡ word ∷ words behind → is_number word ≡ false →
    found_before found (packet_of rest) ≡ None
bad_word found word rest behind first number =
    ap (λ (ws : List (List ℕ)). found_before found (numbers_of ws)) first ∙ rw number refl

pub no_word : (found rest : List ℕ) → words rest ≡ [] → found_before found (packet_of rest) ≡ Some found
no_word found rest first =
    ap (λ (ws : List (List ℕ)). found_before found (numbers_of ws)) first ∙ ap Some (append-nil found)
