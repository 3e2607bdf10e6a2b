-- Pieces of a text.
use Rattle.std.specs.Prelude.{ℕ, List, ◌++◌, ◌≡◌, Option, None, Some, refl}
use Rattle.std.specs.Io.KnownBytes.{append_known}
use Rattle.std.proofs.Common.{append_assoc, ap, sym, ◌∙◌}

-- the whole begins with the part
abbrev pub IsPrefix : List ℕ → List ℕ → Type 0
IsPrefix part whole = (rest : List ℕ) × (part ++ rest ≡ whole)

-- a prefix of what follows, behind what stands before it
pub IsPrefix-behind : (first part second : List ℕ) → IsPrefix part second → IsPrefix (first ++ part) (first ++ second)
IsPrefix-behind first part second (rest, is) = (rest, append_assoc first part rest ∙ ap (λ xs. first ++ xs) is)

-- a prefix of the first of two pieces is one of both
pub IsPrefix-append : (part first second : List ℕ) → IsPrefix part first → IsPrefix part (first ++ second)
IsPrefix-append part first second (rest, is) = (rest ++ second, sym (append_assoc part rest second) ∙ ap (λ xs. xs ++ second) is)

-- known bytes that grow twice
pub append_known-append : (known : Option (List ℕ)) (first second : List ℕ) →
    append_known (append_known known first) second ≡ append_known known (first ++ second)
append_known-append None first second = refl
append_known-append (Some xs) first second = ap Some (append_assoc xs first second)
