-- What a value holds, and what the program finds in it.
use denote.Ref.{Bor}
use Rattle.std.proofs.Common.{◌≡◌, ◌≤◌, ℕ, zero, suc, List, [], ◌∷◌, length, drop, map, get_or, nat_eq, false, Some, refl, sym, ap, ◌∙◌, arith}
use Rattle.std.specs.Prelude.{codes, Ok}
use Rattle.std.proofs.lemmas.Bool.Decides.{nat_tests}
use Rattle.serde_json.specs.Data.{no_members}
use Rattle.serde_json.specs.Find.{as_str}
use Rattle.serde_json.specs.Events.{items_len}
use Rattle.serde_json.specs.View.{view, items_view}
use Rattle.serde_json.specs.declared.value.Value.{Value}
use Rattle.serde_json.proofs.Views.{items_len-items_view}
use Rattle.report_shape.specs.declared.part.Part.{Part}
use Rattle.report_shape.specs.Forms.{same}
use Rattle.report_shape.specs.Held.{field_of}
use Rattle.report_shape.specs.Faults.{keys_are, decided_by, one_or_more_parts, row_named, row_by_head}

pub count_items : (vs : List Value) → items_len (items_view vs) ≡ length vs
count_items vs = items_len-items_view vs

pub one_or_more_of_these : (p : Part) (vs : List Value) → 1 ≤ length vs → Ok (same p) ≡ one_or_more_parts p (items_view vs)
one_or_more_of_these p [] some = absurd (omega arith)
one_or_more_of_these p (v ∷ vs) some = refl

zero_apart : (n : ℕ) → false ≡ nat_eq 0 (suc n)
zero_apart n = grind (arith, nat_tests)

both_next : (n m : ℕ) → nat_eq n m ≡ nat_eq (suc n) (suc m)
both_next n m = grind (arith, nat_tests)

pub keys_end : (fs : List (Bor (List ℕ) × Part)) (n : ℕ) → n ≤ length fs → keys_are (map field_of (drop n fs)) no_members ≡ nat_eq n (length fs)
keys_end [] zero h = grind (arith, nat_tests)
keys_end [] (suc n) h = absurd (omega arith)
keys_end (f ∷ fs) zero h = zero_apart (length fs)
keys_end (f ∷ fs) (suc n) h = keys_end fs n (omega arith) ∙ both_next n (length fs)

pub head_named : (hs : List (List ℕ × ℕ × List Part)) (vs : List Value) (v : Value) (s : List ℕ) → 1 ≤ length vs → v ≡ get_or vs 0 v → Some s ≡ as_str (view v) →
    row_by_head hs (items_view vs) ≡ row_named hs s (length vs)
head_named hs [] v s some is e = absurd (omega arith)
head_named hs (x ∷ xs) v s some is e =
    ap (λ o. decided_by (codes "0") o (λ s. row_named hs s (suc (items_len (items_view xs))))) (ap (λ u. as_str (view u)) (sym is) ∙ sym e)
    ∙ ap (row_named hs s) (ap suc (count_items xs))
