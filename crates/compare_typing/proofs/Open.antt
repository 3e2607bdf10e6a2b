-- A condition that has candidates is not refuted.
use Rattle.std.proofs.Common.{◌≡◌, ℕ, zero, suc, ◌+◌, ◌^◌, ◌<◌, inl, inr, Bool, true, false, true≢false, not, cond, ◌&&◌, ◌||◌, nat_lt, List, [], ◌∷◌, length, refl, sym, ap, ◌∙◌, Option, Some, None, slice_get, slice_index, arith}
use Rattle.std.proofs.lemmas.Bool.{eqb-true}
use Rattle.std.proofs.lemmas.Bool.Decides.{nat_tests}
use Rattle.std.specs.List.{list_all, position_from}
use Rattle.sn_width.specs.declared.ids.SymId.{SymId}
use Rattle.sn_ranges.specs.Ranges.{fits_width}
use Rattle.path_formula.specs.Formulas.{FormulaTree, truth_at}
use Rattle.path_formula.specs.Kinds.{kind_of}
use Rattle.path_formula.specs.Solutions.{agrees, alone}
use Rattle.path_formula.specs.declared.kinds.Kind.{Kind}
use Rattle.path_formula.specs.declared.kinds.Kind.TheVariants.{Constant, Simple, Inside, Outside}
use Rattle.path_cond.specs.Seen.{entry_holds, in_domain, is_broken, is_broken_kind, is_entry_on, is_simple_on, itself, meets}
use Rattle.refutation_check.specs.Seen.{AreCandidates, IsRefuted, holds_unless_outside, is_outside, is_outside_kind}
use Rattle.exact_records.specs.Records.{SymCondition}
use Rattle.compare_typing.specs.Selecting.{CandidatesLeaveOpen}

-- what the laws below say of constant and of simple formulas
pub record TruthLaws : Type 0 where
  pub constant : (f : FormulaTree) (truth : Bool) (values : List ℕ) → kind_of f ≡ Constant truth → truth_at f values ≡ truth
  pub alone' : (f : FormulaTree) (s : SymId) (values : List ℕ) → kind_of f ≡ Simple s → truth_at f values ≡ truth_at f (alone s (slice_index values s.0))

pub both : (a b : Bool) → a ≡ true → b ≡ true → (a && b) ≡ true
both a b h k = λ i. h i && k i

pub left_of : (a b : Bool) → (a && b) ≡ true → a ≡ true
left_of true b h = refl
left_of false b h = h

pub right_of : (a b : Bool) → (a && b) ≡ true → b ≡ true
right_of true b h = h
right_of false b h = absurd (true≢false (sym h))

-- a formula of this kind that is not outside is satisfied
inner_holds : (e : FormulaTree × Bool) (values : List ℕ) (k : Kind) → kind_of e.0 ≡ k → is_outside_kind k ≡ false
    → holds_unless_outside itself values e ≡ true → entry_holds itself values e ≡ true
inner_holds e values k is inner h = by (is_outside itself e) (entry_holds itself values e) (ap is_outside_kind is ∙ inner) h
  where
    by : (a b : Bool) → a ≡ false → (a || b) ≡ true → b ≡ true
    by true b e h = absurd (true≢false e)
    by false b e h = h

module _ (laws : TruthLaws) where
  -- ---- constant formulas

  truth_of_not : (b : Bool) → not b ≡ true → b ≡ false
  truth_of_not true h = absurd (true≢false (sym h))
  truth_of_not false h = refl

  not_broken : (values : List ℕ) (e : FormulaTree × Bool) (k : Kind) → kind_of e.0 ≡ k → holds_unless_outside itself values e ≡ true
      → is_broken_kind e.1 k ≡ true → ⊥
  not_broken values e (Constant truth) kind h broken =
      let holds = inner_holds e values (Constant truth) kind refl h in
      let same : agrees e.1 (truth_at e.0 values) ≡ agrees e.1 truth = ap (agrees e.1) (laws.constant e.0 truth values kind) in
      true≢false (sym holds ∙ (same ∙ truth_of_not (agrees e.1 truth) broken))
  not_broken values e (Simple s) kind h broken = true≢false (sym broken)
  not_broken values e Inside kind h broken = true≢false (sym broken)
  not_broken values e Outside kind h broken = true≢false (sym broken)

  none_by : (values : List ℕ) (e : FormulaTree × Bool) (first pick : ℕ) (rest : Option ℕ) → holds_unless_outside itself values e ≡ true
      → (rest ≡ Some pick → ⊥) → (b : Bool) → is_broken itself e ≡ b → cond b (Some first) rest ≡ Some pick → ⊥
  none_by values e first pick rest h later true broken is = not_broken values e (kind_of e.0) refl h broken
  none_by values e first pick rest h later false whole is = later is

  none_broken : (values : List ℕ) (first pick : ℕ) (es : List (FormulaTree × Bool)) → list_all (holds_unless_outside itself values) es ≡ true
      → position_from (is_broken itself) first es ≡ Some pick → ⊥
  none_broken values first pick [] h is = let bad : None ≡ Some pick = is in cc
  none_broken values first pick (e ∷ es) h is =
      none_by values e first pick (position_from (is_broken itself) (first + 1) es)
      (left_of (holds_unless_outside itself values e) (list_all (holds_unless_outside itself values) es) h)
      (λ k. none_broken values (first + 1) pick es (right_of (holds_unless_outside itself values e) (list_all (holds_unless_outside itself values) es) h) k)
      (is_broken itself e) refl is

  -- ---- simple formulas

  simple_kind : (s : SymId) (k : Kind) → is_simple_on s k ≡ true → k ≡ Simple s
  simple_kind s (Constant truth) h = absurd (true≢false (sym h))
  simple_kind s (Simple r) h = let same : r.0 ≡ s.0 = eqb-true r.0 s.0 h in ap (λ (n : ℕ). Simple (record { 0 = n })) same
  simple_kind s Inside h = absurd (true≢false (sym h))
  simple_kind s Outside h = absurd (true≢false (sym h))

  module _ (values : List ℕ) (s : SymId) where
    meets_by : (e : FormulaTree × Bool) → holds_unless_outside itself values e ≡ true → (b : Bool) → is_entry_on itself s e ≡ b
        → cond b (entry_holds itself (alone s (slice_index values s.0)) e) true ≡ true
    meets_by e h true on =
        let kind : kind_of e.0 ≡ Simple s = simple_kind s (kind_of e.0) on in
        ap (agrees e.1) (sym (laws.alone' e.0 s values kind)) ∙ inner_holds e values (Simple s) kind refl h
    meets_by e h false on = refl

    all_meet : (es : List (FormulaTree × Bool)) → list_all (holds_unless_outside itself values) es ≡ true
        → list_all (meets itself s (alone s (slice_index values s.0))) es ≡ true
    all_meet [] h = refl
    all_meet (e ∷ es) h =
        both (meets itself s (alone s (slice_index values s.0)) e) (list_all (meets itself s (alone s (slice_index values s.0))) es)
        (meets_by e (left_of (holds_unless_outside itself values e) (list_all (holds_unless_outside itself values) es) h) (is_entry_on itself s e) refl)
        (all_meet es (right_of (holds_unless_outside itself values e) (list_all (holds_unless_outside itself values) es) h))

  get_at : (xs : List ℕ) (i : ℕ) → i < length xs → slice_get xs i ≡ Some (slice_index xs i)
  get_at [] i less = absurd (omega (arith, less))
  get_at (y ∷ xs) zero less = refl
  get_at (y ∷ xs) (suc i) less = get_at xs i (omega (arith, less))

  below_is : (v limit : ℕ) → v < limit → nat_lt v limit ≡ true
  below_is v limit h = grind (arith, nat_tests)

  -- ---- refuted conditions

  pub candidates_leave_open : CandidatesLeaveOpen
  candidates_leave_open c values h (inl (inl broken)) = none_broken values 0 broken.pick c.entries h.satisfied broken.first
  candidates_leave_open c values h (inl (inr empty)) =
      let s = empty.symbol in
      let value = slice_index values s.0 in
      let width = slice_index c.widths s.0 in
      let fits : fits_width width value ≡ true = below_is value (2 ^ width) (h.fitting.fit s.0 width (get_at c.widths s.0 empty.known)) in
      let inside : in_domain itself s c value ≡ true = all_meet values s c.entries h.satisfied in
      true≢false (sym (both (fits_width width value) (in_domain itself s c value) fits inside) ∙ empty.no_value value)
  candidates_leave_open c values h (inr by_cases) = by_cases.no_candidates values h
