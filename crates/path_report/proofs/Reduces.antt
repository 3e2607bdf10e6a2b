-- What a set cell shows is a reduced term.
use Rattle.std.proofs.Common.{◌≡◌, ◌^◌, ◌-◌, ◌<◌, ◌≤◌, ℕ, suc, List, [], ◌∷◌, map, Bool, true, false, Option, Some, None, nat_lt, refl, sym, ap, ◌∙◌, subst, arith}
use Rattle.std.specs.Prelude.{IsSome, ◌&&◌, decimal, nat_le, if◌then◌else◌, unwrap_or}
use Rattle.std.specs.List.{AllByRecursion}
use Rattle.std.specs.Str.Parse.{digits_value}
use Rattle.std.proofs.lemmas.Bool.Decides.{nat_tests}
use Rattle.std.proofs.lemmas.Fmt.{decimal_is_IsNumeral_wide}
use Rattle.std.proofs.lemmas.Nat.{pow_pos}
use Rattle.serde_json.specs.Data.{Data, string, array, item}
use Rattle.serde_json.specs.Find.{at}
use Rattle.serde_json.specs.View.{items_of}
use Rattle.lin_term.specs.Terms.{Part, IsReduced, AscendsFrom, CoefficientsFit}
use Rattle.net_check.specs.Network.{Network}
use Rattle.report_shape.specs.declared.part.Part.{Part as ShapePart}
use Rattle.report_shape.specs.Numbers.{is_large, large_of}
use Rattle.report_shape.specs.Reduced.{number_in, greatest, is_behind, term_fits, ascends, is_reduced}
use Rattle.run_text.specs.Forms.{list, count, value_data, term_part_data, term_parts_data}
use Rattle.report_forms.specs.Fits.{PartFits}
use Rattle.path_report.specs.Having.{IsRow, IsTermPart}
use Rattle.path_report.proofs.Holding.{both}

from : (a b : ℕ) → nat_lt a b ≡ false → b ≤ a
from a b h = grind (arith, nat_tests)

below : (a b : ℕ) → nat_lt a b ≡ true → a < b
below a b h = grind (arith, nat_tests)

up_to : (a b : ℕ) → nat_le a b ≡ true → a ≤ b
up_to a b h = grind (arith, nat_tests)

-- the digits of a large number are large
abbrev pub HasDigits : Type 0
HasDigits = (n : ℕ) → 2 ^ 64 ≤ n → n < 2 ^ 128 → is_large (decimal n) ≡ true

large_back : (s : List ℕ) (n : ℕ) → is_large s ≡ true → digits_value 10 s ≡ n → large_of s ≡ Some n
large_back s n h e = rw (h, e) refl

number_back : HasDigits → (n : ℕ) (b : Bool) → nat_lt n (2 ^ 64) ≡ b → n < 2 ^ 128 → number_in (if b then count n else string (decimal n)) ≡ n
number_back digits n true e h = refl
number_back digits n false e h =
    ap (λ o. unwrap_or o 0) (large_back (decimal n) n (digits n (from n (2 ^ 64) e) h) (decimal_is_IsNumeral_wide n (omega arith)).1)

value_in : HasDigits → (n : ℕ) → n < 2 ^ 128 → number_in (value_data n) ≡ n
value_in digits n h = number_back digits n (nat_lt n (2 ^ 64)) refl h

greatest_is : (w : ℕ) (b : Bool) → nat_lt w 128 ≡ b → w ≤ 128 → (if b then 2 ^ w - 1 else 2 ^ 128 - 1) ≡ 2 ^ w - 1
greatest_is w true e h = refl
greatest_is w false e h = let is : w ≡ 128 = omega (arith, from w 128 e) in ap (λ n. 2 ^ n - 1) (sym is)

-- a number that is at most the greatest is of the width
of_width : (w n : ℕ) → w ≤ 128 → nat_le n (greatest w) ≡ true → n < 2 ^ w
of_width w n h e =
    let most : n ≤ 2 ^ w - 1 = subst (λ k. n ≤ k) (greatest_is w (nat_lt w 128) refl h) (up_to n (greatest w) e) in
    let some : 1 ≤ 2 ^ w = pow_pos w in
    omega (arith, most, some)

-- the next symbol is at least this one
abbrev Least : Option ℕ → ℕ
Least None = 0
Least (Some last) = suc last

behind : (last : Option ℕ) (s : ℕ) → is_behind last s ≡ true → Least last ≤ s
behind None s h = omega arith
behind (Some last) s h = let low = below last s h in omega (arith, low)

record Ascending (w : ℕ) (n : ℕ) (ps : List Part) : Type 0 where
  fit : CoefficientsFit w ps
  up : AscendsFrom n ps

ascending : HasDigits → (w : ℕ) → w ≤ 128 → (last : Option ℕ) (ps : List Part) → AllByRecursion IsTermPart ps → ascends last (greatest w) (items_of (map term_part_data ps)) ≡ true → Ascending w (Least last) ps
ascending digits w h last [] all e = record { fit = tt; up = tt }
ascending digits w h last (p ∷ ps) all e =
    let c : number_in (value_data p.1) ≡ p.1 = value_in digits p.1 all.0.1 in
    let two = both (term_fits last (greatest w) p.0.0 (number_in (value_data p.1))) (ascends (Some p.0.0) (greatest w) (items_of (map term_part_data ps))) e in
    let first = both (is_behind last p.0.0) (nat_lt 0 (number_in (value_data p.1)) && nat_le (number_in (value_data p.1)) (greatest w)) two.0 in
    let second = both (nat_lt 0 (number_in (value_data p.1))) (nat_le (number_in (value_data p.1)) (greatest w)) first.1 in
    let some = below 0 p.1 (subst (λ k. nat_lt 0 k ≡ true) c second.0) in
    let within = of_width w p.1 h (subst (λ k. nat_le k (greatest w) ≡ true) c second.1) in
    let rest = ascending digits w h (Some p.0.0) ps all.1 two.1 in
    record { fit = ((some, within), rest.fit); up = (behind last p.0.0 first.0, rest.up) }

pub reduced_is : HasDigits → (w c : ℕ) (ps : List Part) → w ≤ 128 → c < 2 ^ 128 → AllByRecursion IsTermPart ps →
    is_reduced (list (count w ∷ value_data c ∷ term_parts_data ps ∷ [])) ≡ true → IsReduced (record { width = w; constant = c; parts = ps })
unfolding term_parts_data
reduced_is digits w c ps h low all e =
    let is : number_in (value_data c) ≡ c = value_in digits c low in
    let two = both (nat_le (number_in (value_data c)) (greatest w)) (ascends None (greatest w) (items_of (map term_part_data ps))) e in
    let up = ascending digits w h None ps all two.1 in
    record { constant = of_width w c h (subst (λ k. nat_le k (greatest w) ≡ true) is two.0); coefficients = up.fit; ascending = up.up }

pub symbols_fit : (ps : List Part) → AllByRecursion IsTermPart ps → AllByRecursion PartFits ps
symbols_fit [] h = tt
symbols_fit (p ∷ ps) h = (h.0.0, symbols_fit ps h.1)

-- ---- the row of a set cell

module _ (net : Network) (p q r : ShapePart) (d a b e : Data) (row : IsRow net (p ∷ q ∷ r ∷ []) d) (first : Some a ≡ at 0 d) (second : Some b ≡ at 1 d) (third : Some e ≡ at 2 d) where
  three : d ≡ list (row.parts.value ∷ row.parts.next.value ∷ row.parts.next.next.value ∷ [])
  three =
      row.is ∙ ap array (row.parts.is ∙ ap (item row.parts.value) (row.parts.next.is ∙ ap (item row.parts.next.value)
      (row.parts.next.next.is ∙ ap (item row.parts.next.next.value) row.parts.next.next.next)))

  -- a row of three items is the list of them
  pub row_of_three : d ≡ list (a ∷ b ∷ e ∷ [])
  row_of_three =
      let x : row.parts.value ≡ a = let k = ap (at 0) three in cc in
      let y : row.parts.next.value ≡ b = let k = ap (at 1) three in cc in
      let z : row.parts.next.next.value ≡ e = let k = ap (at 2) three in cc in
      three ∙ ap (λ k. list (k ∷ row.parts.next.value ∷ row.parts.next.next.value ∷ [])) x ∙ ap (λ k. list (a ∷ k ∷ row.parts.next.next.value ∷ [])) y ∙ ap (λ k. list (a ∷ b ∷ k ∷ [])) z

  module _ (w c : ℕ) (ps : List Part) (width : count w ≡ a) (constant : value_data c ≡ b) (terms : term_parts_data ps ≡ e) where
    pub set_is : d ≡ list (count w ∷ value_data c ∷ term_parts_data ps ∷ [])
    set_is = row_of_three ∙ ap (λ k. list (k ∷ b ∷ e ∷ [])) (sym width) ∙ ap (λ k. list (count w ∷ k ∷ e ∷ [])) (sym constant) ∙ ap (λ k. list (count w ∷ value_data c ∷ k ∷ [])) (sym terms)

    pub set_reduced : HasDigits → w ≤ 128 → c < 2 ^ 128 → AllByRecursion IsTermPart ps → is_reduced d ≡ true → IsReduced (record { width = w; constant = c; parts = ps })
    set_reduced digits most low all h = reduced_is digits w c ps most low all (subst (λ k. is_reduced k ≡ true) set_is h)

pub no_some : {A : Type 0} (r : Option A) → IsSome r → r ≡ None → ⊥
no_some None h e = cc
no_some (Some x) h e = cc
