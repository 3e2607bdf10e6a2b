-- The atoms of items that keep the rules.
use Rattle.std.proofs.Common.{◌≡◌, refl, ℕ, ◌≤◌, ◌<◌, ◌^◌, Bool, true, false, ◌||◌, ◌&&◌, ◌==◌, nat_lt, List, [], ◌∷◌, arith}
use Rattle.std.specs.List.{AllByRecursion, list_all, list_any}
use Rattle.std.proofs.lemmas.Bool.{eqb-true, ltb-false, not-false, true≢false}
use Rattle.std.proofs.lemmas.Nat.{pow_pos}
use Rattle.sn_width.specs.Width.{FitsWidth, max_value}
use Rattle.job_items.specs.Atoms.{Atom}
use Rattle.job_items.specs.AtomRules.{atom_width, width_of, exceeds, end_exceeds, is_mixed, is_too_wide, is_reversed}
use Rattle.job_items.specs.Items.{Item}
use Rattle.job_items.specs.Rules.{item_atoms, tests_at_other_width}
use Rattle.net_check.specs.Keeping.{KeepsRules, KeepsWidth}

left_false : (a b : Bool) → (a || b) ≡ false → a ≡ false
left_false true b h = h
left_false false b h = refl

right_false : (a b : Bool) → (a || b) ≡ false → b ≡ false
right_false true b h = absurd (true≢false h)
right_false false b h = h

left_true : (a b : Bool) → (a && b) ≡ true → a ≡ true
left_true true b h = refl
left_true false b h = h

right_true : (a b : Bool) → (a && b) ≡ true → b ≡ true
right_true true b h = h
right_true false true h = refl
right_true false false h = h

any_fails : {X : Type 0} (p : X → Bool) (xs : List X) → list_any p xs ≡ false → AllByRecursion (λ x. p x ≡ false) xs
any_fails p [] h = tt
any_fails p (x ∷ xs) h = (left_false (p x) (list_any p xs) h, any_fails p xs (right_false (p x) (list_any p xs) h))

all_pass : {X : Type 0} (p : X → Bool) (xs : List X) → list_all p xs ≡ true → AllByRecursion (λ x. p x ≡ true) xs
all_pass p [] h = tt
all_pass p (x ∷ xs) h = (left_true (p x) (list_all p xs) h, all_pass p xs (right_true (p x) (list_all p xs) h))

so_all : {X : Type 0} (P Q : X → Type 0) → ((x : X) → P x → Q x) → (xs : List X) → AllByRecursion P xs → AllByRecursion Q xs
so_all P Q f [] h = tt
so_all P Q f (x ∷ xs) h = (f x h.0, so_all P Q f xs h.1)

both_all : {X : Type 0} (P Q : X → Type 0) (xs : List X) → AllByRecursion P xs → AllByRecursion Q xs → AllByRecursion (λ x. P x × Q x) xs
both_all P Q [] h k = tt
both_all P Q (x ∷ xs) h k = ((h.0, k.0), both_all P Q xs h.1 k.1)

not_above : (width number : ℕ) → exceeds width number ≡ false → FitsWidth width number
not_above width number h =
    let most : number ≤ max_value width = ltb-false (max_value width) number h in
    let some : 0 < 2 ^ width = pow_pos width in
    omega (arith, most, some)

atom_keeps : (a : Atom) → is_mixed a ≡ false → is_too_wide a ≡ false → is_reversed a ≡ false → KeepsWidth a
atom_keeps a mixed wide reversed =
    let w = atom_width a in
    record {
      reads = so_all _ _ (λ target h. eqb-true (width_of target) w h) a.reads (all_pass (λ target. width_of target == w) a.reads (not-false _ mixed));
      constants = so_all _ _ (λ n h. not_above w n h) a.constants (any_fails (exceeds w) a.constants (left_false (list_any (exceeds w) a.constants) _ wide));
      ranges = so_all _ _
          (λ range h. (ltb-false range.1 range.0 h.0, not_above w range.1 (right_false (exceeds w range.0) (exceeds w range.1) h.1))) a.ranges
          (both_all (λ range. nat_lt range.1 range.0 ≡ false) (λ range. end_exceeds w range ≡ false) a.ranges
          (any_fails (λ range. nat_lt range.1 range.0) a.ranges reversed)
          (any_fails (end_exceeds w) a.ranges (right_false (list_any (exceeds w) a.constants) (list_any (end_exceeds w) a.ranges) wide)));
    }

atoms_keep : (atoms : List Atom) → AllByRecursion (λ a. is_mixed a ≡ false) atoms → AllByRecursion (λ a. is_too_wide a ≡ false) atoms
    → AllByRecursion (λ a. is_reversed a ≡ false) atoms → AllByRecursion KeepsWidth atoms
atoms_keep [] mixed wide reversed = tt
atoms_keep (a ∷ atoms) mixed wide reversed = (atom_keeps a mixed.0 wide.0 reversed.0, atoms_keep atoms mixed.1 wide.1 reversed.1)

pub item_atoms_keep : (item : Item) → KeepsRules item → AllByRecursion KeepsWidth (item_atoms item)
item_atoms_keep item keeps =
    atoms_keep (item_atoms item)
    (any_fails is_mixed (item_atoms item) (left_false (list_any is_mixed (item_atoms item)) (tests_at_other_width item) keeps.one_width))
    (any_fails is_too_wide (item_atoms item) keeps.fits)
    (any_fails is_reversed (item_atoms item) keeps.in_order)
