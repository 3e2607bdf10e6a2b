-- The parts of a term, written from a place on.
use Rattle.std.proofs.Common.{◌≡◌, ◌+◌, ℕ, zero, suc, List, [], ◌∷◌, ◌++◌, map, drop, Some, None, refl, sym, ap, ◌∙◌, add-one, append_assoc}
use Rattle.std.specs.Prelude.{slice_get}
use Rattle.json.specs.Token.{Token, end_array}
use Rattle.lin_term.specs.Terms.{Part}
use Rattle.run_text.specs.Tokens.{tokens_of, ending, Puts, Adds}
use Rattle.run_text.specs.Forms.{term_part_data, term_parts_data, list}

next : (xs : List Part) (i : ℕ) (x : Part) → slice_get xs i ≡ Some x → drop i xs ≡ x ∷ drop (suc i) xs
next [] i x e = cc
next (y ∷ xs) zero x e = let is : y ≡ x = cc in ap (λ z. z ∷ xs) is
next (y ∷ xs) (suc i) x e = next xs i x e

none : (xs : List Part) (i : ℕ) → slice_get xs i ≡ None → drop i xs ≡ []
none [] zero e = refl
none [] (suc i) e = refl
none (y ∷ xs) zero e = cc
none (y ∷ xs) (suc i) e = none xs i e

-- one part more is written
pub part_written : (out new whole : List Token) (parts : List Part) (i n : ℕ) (p : Part) → slice_get parts i ≡ Some p → n ≡ i + 1 → Adds (term_part_data p) out new →
    out ++ ending (map term_part_data (drop i parts)) ≡ whole → new ++ ending (map term_part_data (drop n parts)) ≡ whole
part_written out new whole parts i n p e moved h rest =
    let left : drop i parts ≡ p ∷ drop n parts = next parts i p e ∙ ap (λ k. p ∷ drop k parts) (sym (moved ∙ add-one i)) in
    ap (λ s. s ++ ending (map term_part_data (drop n parts))) h.tokens
    ∙ append_assoc out (tokens_of (term_part_data p)) (ending (map term_part_data (drop n parts)))
    ∙ ap (λ ps. out ++ ending (map term_part_data ps)) (sym left)
    ∙ rest

-- all parts are written
pub parts_written : (old out new : List Token) (parts : List Part) (i : ℕ) → slice_get parts i ≡ None →
    out ++ ending (map term_part_data (drop i parts)) ≡ old ++ tokens_of (list (map term_part_data parts)) → Puts end_array out new → Adds (term_parts_data parts) old new
unfolding term_parts_data
parts_written old out new parts i e rest h = record { tokens = h.tokens ∙ ap (λ ps. out ++ ending (map term_part_data ps)) (sym (none parts i e)) ∙ rest }
