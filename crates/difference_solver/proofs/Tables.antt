use Rattle.std.proofs.Common.{◌≡◌, ◌≢◌, ℕ, ◌+◌, ◌*◌, ◌≤◌, ◌<◌, List, length, Option, Some, None, get_or, set, ap, sym, ◌∙◌, inl, inr, arith}
use Rattle.std.proofs.lemmas.Grind.{common_steps}
use Rattle.std.proofs.lemmas.List.{get_or_read, get_or-set_other, get_or-set_same}
use Rattle.std.proofs.lemmas.Nat.{same_from_place}
use Rattle.std.proofs.lemmas.Bool.{cases_lt}
use Rattle.difference_solver.specs.Table.{entry}
use Rattle.difference_solver.specs.declared.table.Table.{Table}
use Rattle.difference_solver.specs.declared.table.Kept.{Kept}

pub entry_at : (t : Table) (p q : ℕ) → q ≤ t.count → entry t p q ≡ get_or t.entries.items (p * (t.count + 1) + q) None
unfolding entry
entry_at t p q h = grind (arith, common_steps)

pub entry_past : (t : Table) (p q : ℕ) → t.count < q → entry t p q ≡ None
unfolding entry
entry_past t p q h = grind (arith, common_steps)

-- what `entries[place]` reads
pub entry_read : (t : Table) (p q place : ℕ) (r : Option Kept) → q ≤ t.count → place ≡ p * (t.count + 1) + q → place < length t.entries.items → r ≡ get_or t.entries.items place r → r ≡ entry t p q
entry_read t p q place r h e within is =
    get_or_read t.entries.items place r within is None ∙ ap (λ i. get_or t.entries.items i None) e ∙ sym (entry_at t p q h)

pub entry_written : (s t : Table) (p q place : ℕ) (x : Kept) → q ≤ s.count → place ≡ p * (s.count + 1) + q → place < length s.entries.items → t.count ≡ s.count → t.entries.items ≡ set s.entries.items place (Some x) → entry t p q ≡ Some x
entry_written s t p q place x h e within counts items =
    entry_at t p q (omega arith)
    ∙ ap (λ (c : ℕ). get_or t.entries.items (p * (c + 1) + q) None) counts
    ∙ ap (λ i. get_or t.entries.items i None) (sym e)
    ∙ ap (λ (l : List (Option Kept)). get_or l place None) items
    ∙ get_or-set_same s.entries.items place (Some x) None within

pub entry_elsewhere : (s t : Table) (p q place : ℕ) (x : Kept) → q ≤ s.count → place ≡ p * (s.count + 1) + q → t.count ≡ s.count → t.entries.items ≡ set s.entries.items place (Some x) → (a b : ℕ) → (a ≡ p → b ≢ q) → entry t a b ≡ entry s a b
entry_elsewhere s t p q place x h e counts items a b other =
    elim (cases_lt s.count b) [
      | inl high ↦ entry_past t a b (omega arith) ∙ sym (entry_past s a b high)
      | inr low ↦
          let apart : a * (s.count + 1) + b ≢ place = λ at. let two = same_from_place a b p q (s.count + 1) (omega arith) (omega arith) (at ∙ e) in other two.0 two.1 in
          entry_at t a b (omega arith)
          ∙ ap (λ (c : ℕ). get_or t.entries.items (a * (c + 1) + b) None) counts
          ∙ ap (λ (l : List (Option Kept)). get_or l (a * (s.count + 1) + b) None) items
          ∙ get_or-set_other s.entries.items place (a * (s.count + 1) + b) (Some x) None apart
          ∙ sym (entry_at s a b low)
    ]
