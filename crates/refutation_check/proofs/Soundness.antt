-- What is accepted refutes.
use Rattle.std.proofs.Common.{◌≡◌, ℕ, zero, suc, ◌<◌, ◌^◌, ℤ, pos, ◌+ℤ◌, ◌-ℤ◌, ◌≤ℤ◌, Bool, true, false, cond, ◌&&◌, ◌||◌, List, [], ◌∷◌, ◌++◌, length, Option, Some, None, refl, sym, ap, ap₂, ◌∙◌, subst, arith}
use Rattle.std.specs.Prelude.{slice_get, slice_index, int_le}
use Rattle.std.specs.List.{list_all}
use Rattle.std.proofs.lemmas.Bool.{eqb-true, lt-ltb}
use Rattle.std.proofs.lemmas.Bool.Decides.{nat_tests}
use Rattle.std.proofs.lemmas.Int.{ints}
use Rattle.std.proofs.lemmas.List.Folds.{list_any-append}
use Rattle.sn_width.specs.Width.{FitsWidth}
use Rattle.sn_width.specs.declared.ids.SymId.{SymId}
use Rattle.sn_ranges.specs.Ranges.{fits_width}
use Rattle.path_formula.specs.Formulas.{FormulaTree, truth_at}
use Rattle.path_formula.specs.Kinds.{kind_of}
use Rattle.path_formula.specs.Solutions.{agrees, alone}
use Rattle.path_formula.specs.Typed.{IsTyped}
use Rattle.path_formula.specs.declared.kinds.Kind.{Kind}
use Rattle.path_formula.specs.declared.kinds.Kind.TheVariants.{Constant, Simple, Inside, Outside}
use Rattle.path_cond.specs.Seen.{ConditionOf, AllTyped, entry_holds, holds_at, in_domain, is_entry_on, is_simple_on, meets}
use Rattle.path_formula.specs.Bounds.{Case, AreValues, number, is_met, is_case_met, is_one_met}
use Rattle.path_formula.specs.Cases.{cases_of, single_cases, with_bounds}
use Rattle.path_formula.specs.Members.{Member, member_of}
use Rattle.path_formula.specs.Splits.{CanSplit}
use Rattle.path_formula.specs.declared.sym_bound.SymBound.{SymBound}
use Rattle.path_cond.specs.Choices.{passes, is_simple_pick, pick_holds, are_simple_picks, meets_picks}
use Rattle.refutation_check.specs.Seen.{IsUnmeetable, Leaves, Refutes, IsAccepted}
use Rattle.refutation_check.specs.Cycles.{IsWalk, at_most_of, total, IsNegativeCycle}
use Rattle.refutation_check.specs.declared.steps.Refute.{Refute}
use Rattle.refutation_check.specs.declared.steps.Refute.TheVariants.{Empty, Domain, Split, Cycle}
use Rattle.refutation_check.proofs.Reducing.{reduced, reduced_fit, reduced_holds}

-- the laws of lower crates, as they are handed on
pub record Laws : Type 0 where
  pub alone_is : (f : FormulaTree) (s : SymId) (values : List ℕ) → kind_of f ≡ Simple s → truth_at f values ≡ truth_at f (alone s (slice_index values s.0))
  pub range_is : (s : SymId) (w : ℕ) (test : ℕ → Bool) (values : List ℕ) → FitsWidth w (slice_index values s.0) → is_one_met values (single_cases s w test) ≡ test (slice_index values s.0)
  pub case_is : (f : FormulaTree) (holds : Bool) (widths values : List ℕ) → CanSplit f → IsTyped widths f → AreValues widths values → is_one_met values (cases_of f holds) ≡ agrees holds (truth_at f values)
  pub member_is : (f : FormulaTree) (holds : Bool) (way : List ℕ) (m : Member) (values : List ℕ) → member_of f holds way ≡ Some m → agrees holds (truth_at f values) ≡ true → agrees m.1 (truth_at m.0 values) ≡ true
  pub member_typed : (f : FormulaTree) (holds : Bool) (way : List ℕ) (m : Member) (widths : List ℕ) → member_of f holds way ≡ Some m → IsTyped widths f → IsTyped widths m.0
  pub more_is : (bounds : Case) (cases : List Case) (values : List ℕ) → is_one_met values (with_bounds cases bounds) ≡ (is_case_met values bounds && is_one_met values cases)

and_left : (a b : Bool) → (a && b) ≡ true → a ≡ true
and_left true b h = refl
and_left false b h = h

and_right : (a b : Bool) → (a && b) ≡ true → b ≡ true
and_right true b h = h
and_right false b h = cc

both : (a b : Bool) → a ≡ true → b ≡ true → (a && b) ≡ true
both a b ha hb = ap₂ ◌&&◌ ha hb

not_both : (b : Bool) → b ≡ true → b ≡ false → ⊥
not_both b h k = cc

-- what passes at each place passes at one
passes_at : {E : Type 0} (p : E → Bool) (es : List E) (i : ℕ) (e : E) → slice_get es i ≡ Some e → list_all p es ≡ true → p e ≡ true
passes_at p [] i e is h = cc
passes_at p (d ∷ es) zero e is h = let same : d ≡ e = cc in ap p (sym same) ∙ and_left (p d) (list_all p es) h
passes_at p (d ∷ es) (suc i) e is h = passes_at p es i e is (and_right (p d) (list_all p es) h)

typed_at : {X : Type 0} (tree : X → FormulaTree) (widths : List ℕ) (es : List (X × Bool)) (pick : ℕ) (e : X × Bool) → AllTyped tree widths es → slice_get es pick ≡ Some e → IsTyped widths (tree e.0)
typed_at tree widths [] pick e typed is = cc
typed_at {X} tree widths (d ∷ es) zero e typed is = let same : d ≡ e = cc in subst (λ (x : X × Bool). IsTyped widths (tree x.0)) same typed.0
typed_at tree widths (d ∷ es) (suc pick) e typed is = typed_at tree widths es pick e typed.1 is

kind_simple : (s : SymId) (k : Kind) → is_simple_on s k ≡ true → k ≡ Simple s
kind_simple s (Constant b) h = cc
kind_simple s (Simple r) h = let same : r.0 ≡ s.0 = eqb-true r.0 s.0 h in λ i. Simple (record { 0 = same i })
kind_simple s Inside h = cc
kind_simple s Outside h = cc

width_at : (widths : List ℕ) (i : ℕ) → i < length widths → slice_get widths i ≡ Some (slice_index widths i)
width_at [] i lt = absurd (omega arith)
width_at (w ∷ widths) zero lt = refl
width_at (w ∷ widths) (suc i) lt = width_at widths i (omega arith)

-- Walks

met_at_most : (m n : ℤ) (b : ℤ) → int_le (m -ℤ n) b ≡ true → (m -ℤ n) ≤ℤ b
met_at_most m n b h = grind (arith, ints, nat_tests)

met_bound : (values : List ℕ) (g : Case) (i : ℕ) (b : SymBound) → slice_get g i ≡ Some b → is_case_met values g ≡ true → is_met values b ≡ true
met_bound values [] i b is h = cc
met_bound values (d ∷ g) zero b is h = let same : d ≡ b = cc in subst (λ (x : SymBound). is_met values x ≡ true) same (and_left (is_met values d) (is_case_met values g) h)
met_bound values (d ∷ g) (suc i) b is h = met_bound values g i b is (and_right (is_met values d) (is_case_met values g) h)

none_less : (x : ℤ) → (x -ℤ x) ≤ℤ pos 0
none_less x = omega (arith, ints)

add_up : (x y z a t : ℤ) → (x -ℤ y) ≤ℤ a → (y -ℤ z) ≤ℤ t → (x -ℤ z) ≤ℤ (a +ℤ t)
add_up x y z a t h k = omega (arith, ints)

-- the first number less the last is at most the sum of the bounds between them
walk_sum : (values : List ℕ) (g : Case) → is_case_met values g ≡ true → (from : Option SymId) (numbers : List ℕ) (to : Option SymId) → IsWalk g from numbers to
    → (number values from -ℤ number values to) ≤ℤ total g numbers
walk_sum values g met from [] to w = subst (λ o. (number values from -ℤ number values o) ≤ℤ pos 0) w (none_less (number values from))
walk_sum values g met from (i ∷ numbers) to w =
    let b = w.0 in
    let first : (number values b.plus -ℤ number values b.minus) ≤ℤ b.at_most = met_at_most (number values b.plus) (number values b.minus) b.at_most (met_bound values g i b w.1 met) in
    let whole = add_up (number values b.plus) (number values b.minus) (number values to) b.at_most (total g numbers) first (walk_sum values g met b.minus numbers to w.3) in
    let sum : b.at_most +ℤ total g numbers ≡ at_most_of (slice_get g i) +ℤ total g numbers = ap (λ o. at_most_of o +ℤ total g numbers) (sym w.1) in
    subst (λ (z : ℤ). (number values from -ℤ number values to) ≤ℤ z) sum (subst (λ o. (number values o -ℤ number values to) ≤ℤ (b.at_most +ℤ total g numbers)) w.2 whole)

no_cycle : (values : List ℕ) (g : Case) (numbers : List ℕ) → is_case_met values g ≡ true → IsNegativeCycle g numbers → ⊥
no_cycle values g numbers met cycle =
    let least = walk_sum values g met cycle.start numbers cycle.start cycle.closed in
    omega (arith, ints, least, cycle.negative)

pass_by : (a o r : Bool) → (a ≡ true → o ≡ true) → ((a && o) || r) ≡ false → (a || r) ≡ false
pass_by true true r h e = e
pass_by true false r h e = absurd (not_both false (h refl) refl)
pass_by false o r h e = e

is_false : (b : Bool) → (b ≡ true → ⊥) → b ≡ false
is_false true h = absurd (h refl)
is_false false h = refl

module _ {X : Type 0} (tree : X → FormulaTree) (laws : Laws) (c : ConditionOf X) (typed : AllTyped tree c.widths c.entries) (values : List ℕ) (fit : AreValues c.widths values) (holds : holds_at tree c values ≡ true) where
  -- a simple formula that holds, holds of its symbol's value alone
  alone_holds : (s : SymId) (e : X × Bool) → is_entry_on tree s e ≡ true → entry_holds tree values e ≡ true → entry_holds tree (alone s (slice_index values s.0)) e ≡ true
  alone_holds s e on h = ap (agrees e.1) (sym (laws.alone_is (tree e.0) s values (kind_simple s (kind_of (tree e.0)) on))) ∙ h

  pick_true : (s : SymId) (o : Option (X × Bool)) → ((e : X × Bool) → o ≡ Some e → entry_holds tree values e ≡ true) → passes (is_entry_on tree s) o ≡ true → passes (entry_holds tree (alone s (slice_index values s.0))) o ≡ true
  pick_true s None all on = on
  pick_true s (Some e) all on = alone_holds s e on (all e refl)

  picks_true : (s : SymId) (picks : List ℕ) → are_simple_picks tree s c picks ≡ true → meets_picks tree s c picks (slice_index values s.0) ≡ true
  picks_true s [] on = refl
  picks_true s (pick ∷ picks) on =
      both (pick_holds tree c (alone s (slice_index values s.0)) pick) (meets_picks tree s c picks (slice_index values s.0))
      (pick_true s (slice_get c.entries pick) (λ e is. passes_at (entry_holds tree values) c.entries pick e is holds) (and_left (is_simple_pick tree s c pick) (are_simple_picks tree s c picks) on))
      (picks_true s picks (and_right (is_simple_pick tree s c pick) (are_simple_picks tree s c picks) on))

  value_fits : (s : SymId) → s.0 < length c.widths → FitsWidth (slice_index c.widths s.0) (slice_index values s.0)
  value_fits s known = fit s.0 (slice_index c.widths s.0) (width_at c.widths s.0 known)

  no_empty : (s : SymId) (picks : List ℕ) → IsUnmeetable tree c s picks → ⊥
  no_empty s picks h =
      let w = slice_index c.widths s.0 in
      let x = slice_index values s.0 in
      not_both (fits_width w x && meets_picks tree s c picks x) (both (fits_width w x) (meets_picks tree s c picks x) (lt-ltb x (2 ^ w) (value_fits s h.known)) (picks_true s picks h.simple)) (h.no_value x)

  meets_by : (s : SymId) (e : X × Bool) (on : Bool) → is_entry_on tree s e ≡ on → entry_holds tree values e ≡ true → cond on (entry_holds tree (alone s (slice_index values s.0)) e) true ≡ true
  meets_by s e true is h = alone_holds s e is h
  meets_by s e false is h = refl

  domain_by : (s : SymId) (entries : List (X × Bool)) → list_all (entry_holds tree values) entries ≡ true → list_all (meets tree s (alone s (slice_index values s.0))) entries ≡ true
  domain_by s [] h = refl
  domain_by s (e ∷ entries) h =
      both (meets tree s (alone s (slice_index values s.0)) e) (list_all (meets tree s (alone s (slice_index values s.0))) entries)
      (meets_by s e (is_entry_on tree s e) refl (and_left (entry_holds tree values e) (list_all (entry_holds tree values) entries) h))
      (domain_by s entries (and_right (entry_holds tree values e) (list_all (entry_holds tree values) entries) h))

  -- values that meet the gathered bounds meet those of a case that the step leaves
  step_sound : (g : Case) (step : Refute) (cases : List Case) → Leaves tree c g step cases → is_case_met values g ≡ true → is_one_met values cases ≡ true
  step_sound g (Empty s picks) cases h met = absurd (no_empty s picks h.0)
  step_sound g (Domain s) cases h met =
      ap (is_one_met values) h.1 ∙ laws.range_is s (slice_index c.widths s.0) (in_domain tree s c) values (value_fits s h.0.known) ∙ domain_by s c.entries holds
  step_sound g (Split pick way) cases h met =
      let typed_member = laws.member_typed (tree h.entry.0) h.entry.1 way h.member c.widths h.leads (typed_at tree c.widths c.entries pick h.entry typed h.at) in
      ap (is_one_met values) h.cases_are ∙ laws.case_is h.member.0 h.member.1 c.widths values h.splits typed_member fit
      ∙ laws.member_is (tree h.entry.0) h.entry.1 way h.member values h.leads (passes_at (entry_holds tree values) c.entries pick h.entry h.at holds)
  step_sound g (Cycle bounds) cases h met = absurd (no_cycle values g bounds met h.0)

  refutes_sound : (steps : List Refute) (alternatives : List Case) → Refutes tree c alternatives steps → is_one_met values alternatives ≡ false
  refutes_sound [] [] h = refl
  refutes_sound [] (g ∷ alternatives) h = absurd h
  refutes_sound (step ∷ steps) [] h = absurd h
  refutes_sound (step ∷ steps) (g ∷ alternatives) h =
      let cases = h.0 in
      let later = refutes_sound steps (with_bounds cases g ++ alternatives) h.2 in
      let split : is_one_met values (with_bounds cases g ++ alternatives) ≡ ((is_case_met values g && is_one_met values cases) || is_one_met values alternatives) =
      list_any-append (is_case_met values) (with_bounds cases g) alternatives ∙ ap (λ b. b || is_one_met values alternatives) (laws.more_is g cases values) in
      pass_by (is_case_met values g) (is_one_met values cases) (is_one_met values alternatives) (step_sound g step cases h.1) (sym split ∙ later)

  accepted_never : (steps : List Refute) → IsAccepted tree c steps → ⊥
  accepted_never steps h = not_both true refl (refutes_sound steps ([] ∷ []) h)

-- no values make a condition true for which a refutation is accepted
pub accepted_refutes : {X : Type 0} (tree : X → FormulaTree) (laws : Laws) (c : ConditionOf X) (steps : List Refute) (values : List ℕ) → AllTyped tree c.widths c.entries → IsAccepted tree c steps → holds_at tree c values ≡ false
accepted_refutes tree laws c steps values typed h =
    is_false (holds_at tree c values)
    (λ true_at. accepted_never tree laws c typed (reduced c.widths values) (reduced_fit c.widths values) (reduced_holds tree c values typed ∙ true_at) steps h)
