-- Maps and sets that ascend by names are searched as lists are.
use Rattle.std.proofs.Common.{◌≡◌, ◌∙◌, refl, ap, ap₂, arith, ℕ, cond, ◌==◌, ◌&&◌, ◌||◌, List, [], ◌∷◌, Some}
use Rattle.std.specs.Prelude.{bytes_eq, nat_eq}
use Rattle.std.specs.List.{list_any}
use Rattle.std.specs.Map.{lookup}
use Rattle.std.specs.declared.cmp.Ordering.{Ordering}
use Rattle.std.specs.declared.cmp.Ordering.TheVariants.{Less, Equal, Greater}
use Rattle.std.specs.Ordering.{nat_cmp, is_eq, ordering_then}
use Rattle.std.specs.Cmp.Lexicographic.{slice_cmp}
use Rattle.std.specs.BTreeMap.{is_at}
use Rattle.std.proofs.lemmas.Bool.Decides.{nat_tests}
use Rattle.std.proofs.lemmas.Map.Text.{is_eq-slice_cmp}
use Rattle.click_model.specs.Connections.{Output, is_output, output_cmp}

pub at_name : {X : Type 0} (name : List ℕ) (entries : List (List ℕ × X)) → lookup (is_at (slice_cmp nat_cmp name)) entries ≡ lookup (bytes_eq name) entries
at_name name [] = refl
at_name name (e ∷ es) = ap₂ (λ here rest. cond here (Some e.1) rest) (is_eq-slice_cmp name e.0) (at_name name es)

at_output : (a b : Output) → is_eq (output_cmp a b) ≡ is_output a b
at_output a b =
    is_eq_then (slice_cmp nat_cmp a.0 b.0) (nat_cmp a.1 b.1)
    ∙ ap₂ (λ p q. p && q) (is_eq-slice_cmp a.0 b.0) (is_eq_number a.1 b.1)
  where
    is_eq_then : (o p : Ordering) → is_eq (ordering_then o p) ≡ is_eq o && is_eq p
    is_eq_then Less p = refl
    is_eq_then Equal p = refl
    is_eq_then Greater p = refl

    is_eq_number : (m n : ℕ) → is_eq (nat_cmp m n) ≡ nat_eq m n
    is_eq_number m n = grind (arith, nat_tests)

pub among_outputs : (output : Output) (used : List Output) → list_any (is_at (output_cmp output)) used ≡ list_any (is_output output) used
among_outputs output [] = refl
among_outputs output (o ∷ os) = ap₂ (λ here rest. here || rest) (at_output output o) (among_outputs output os)
