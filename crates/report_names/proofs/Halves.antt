-- A text, cut at the first byte of a kind.
use denote.Ref.{Bor}
use Rattle.std.proofs.Common.{◌≡◌, ◌≢◌, ◌<◌, ◌==◌, ℕ, suc, List, [], ◌∷◌, ◌++◌, length, get_or, true, false, Option, Some, None, refl, sym, ap, ◌∙◌, arith}
use Rattle.std.specs.Prelude.{option_map, MatchOption}
use Rattle.std.proofs.lemmas.Bool.Decides.{nat_tests}
use Rattle.std.proofs.lemmas.Str.Pattern.{IsSplitOnceResult, split_parts}
use Rattle.report_names.specs.Names.{halves}

-- the two parts
abbrev pub parts_of : Option (Bor (List ℕ) × Bor (List ℕ)) → Option (List ℕ × List ℕ)
parts_of = option_map (λ (p : Bor (List ℕ) × Bor (List ℕ)). (p.0.now, p.1.now))

unlike : (b c : ℕ) → b ≢ c → (b == c) ≡ false
unlike b c h = grind (arith, nat_tests)

alike : (c : ℕ) → (c == c) ≡ true
alike c = grind (arith, nat_tests)

pub uncut : (c : ℕ) (bs : List ℕ) → ((i : ℕ) → i < length bs → get_or bs i 0 ≢ c) → halves c bs ≡ None
uncut c [] none = refl
uncut c (b ∷ bs) none = rw (unlike b c (none 0 (omega arith)), uncut c bs (λ i h. none (suc i) (omega arith))) refl

pub cut : (c : ℕ) (xs ys : List ℕ) → ((i : ℕ) → i < length xs → get_or xs i 0 ≢ c) → halves c (xs ++ c ∷ ys) ≡ Some (xs, ys)
cut c [] ys none = rw (alike c) refl
cut c (x ∷ xs) ys none = rw (unlike x c (none 0 (omega arith)), cut c xs ys (λ i h. none (suc i) (omega arith))) refl

by_parts : (c : ℕ) (bs : List ℕ) (r : Option (Bor (List ℕ) × Bor (List ℕ))) →
    MatchOption r ((i : ℕ) → i < length bs → get_or bs i 0 ≢ c) (λ x. (bs ≡ x.0.now ++ (c ∷ x.1.now)) × ((i : ℕ) → i < length x.0.now → get_or x.0.now i 0 ≢ c)) →
    parts_of r ≡ halves c bs
by_parts c bs None h = sym (uncut c bs h)
by_parts c bs (Some x) h = sym (ap (halves c) h.0 ∙ cut c x.0.now x.1.now h.1)

pub cut_at : (c : ℕ) (bs : List ℕ) (r : Option (Bor (List ℕ) × Bor (List ℕ))) → IsSplitOnceResult c bs r → c < 128 → parts_of r ≡ halves c bs
cut_at c bs r h small = by_parts c bs r (split_parts c bs r h small)
