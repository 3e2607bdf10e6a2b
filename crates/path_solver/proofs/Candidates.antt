-- Values that satisfy every formula that is not outside.
use Rattle.std.proofs.Common.{◌≡◌, ℕ, zero, suc, ◌+◌, ◌^◌, ◌<◌, pos, Bool, true, false, cond, ◌&&◌, ◌||◌, nat_eq, List, [], ◌∷◌, map, length, Option, Some, None, refl, sym, ap, subst, ◌∙◌, arith, inl, inr}
use Rattle.std.specs.Prelude.{slice_get, slice_index, ◌-ℤ◌, neg_ℤ, int_le}
use Rattle.std.specs.List.{position_from}
use Rattle.std.proofs.lemmas.Bool.{eqb-true, eq-eqb, lt-ltb, ltb-true}
use Rattle.std.proofs.lemmas.Int.{ints}
use Rattle.sn_width.specs.Width.{FitsWidth}
use Rattle.sn_width.specs.declared.ids.SymId.{SymId}
use Rattle.sn_ranges.specs.Ranges.{Range, fits_width}
use Rattle.path_formula.specs.Formulas.{FormulaTree}
use Rattle.path_formula.specs.Kinds.{kind_of}
use Rattle.path_formula.specs.Solutions.{agrees, alone}
use Rattle.path_formula.specs.View.{view}
use Rattle.path_formula.specs.declared.kinds.Kind.{Kind}
use Rattle.path_formula.specs.declared.kinds.Kind.TheVariants.{Constant, Simple, Inside, Outside}
use Rattle.path_cond.specs.Seen as seen
use Rattle.path_cond.specs.Seen.{ConditionOf}
use Rattle.path_cond.specs.Conditions.{Condition, Entry, AllTyped, entry_holds, in_domain, is_simple_on, is_entry_on, meets, is_broken, is_broken_kind, first_broken, is_possible}
use Rattle.path_formula.specs.Bounds.{AreValues, is_one_met, is_case_met}
use Rattle.path_formula.specs.Cases.{range_case}
use Rattle.sn_ranges.specs.Sets.{ranges_where}
use Rattle.path_cond.specs.Coupled.{is_inside_kind, is_inside}
use Rattle.path_cond.specs.Counts.{domain_cases}
use Rattle.refutation_check.specs.Seen as any
use Rattle.refutation_check.specs.Least.{AreCandidates, is_outside_kind, is_outside, holds_unless_outside}
use Rattle.path_solver.specs.Origins.{cases_from, IsOrigin, origins_of}
use Rattle.refutation_check.specs.declared.steps.Refute.{Refute}
use Rattle.refutation_check.specs.declared.steps.Refute.TheVariants.{Empty, Domain, Split, Cycle}
use Rattle.path_solver.proofs.Atoms.{or_cases}
use Rattle.path_solver.proofs.Bridge.{MeetCases, cases_there, inside_case_met}
use Rattle.path_solver.specs.Laws.{Facts}
use Rattle.path_solver.proofs.Entries.{at_all, all_at, typed_at, entry_splits, listed_narrow, get_at, index_at, known_at}
use Rattle.path_solver.proofs.Goodness.{AreUnder, ranges_under}
use Rattle.path_solver.proofs.Numbering.{and_both, and_left, and_right}

simple_kind : (s : SymId) (k : Kind) → is_simple_on s k ≡ true → k ≡ Simple s
simple_kind s (Constant truth) h = absurd (cc)
simple_kind s (Simple r) h = let same : r.0 ≡ s.0 = eqb-true r.0 s.0 h in ap (λ (n : ℕ). Simple (record { 0 = n })) same
simple_kind s Inside h = absurd (cc)
simple_kind s Outside h = absurd (cc)

pub not_outside : {X : Type 0} (tree : X → FormulaTree) (e : X × Bool) (values : List ℕ) (k : Kind) → kind_of (tree e.0) ≡ k
    → is_outside_kind k ≡ false → any.holds_unless_outside tree values e ≡ true → seen.entry_holds tree values e ≡ true
not_outside tree e values k is inner h =
    drop_outside (any.is_outside tree e) (seen.entry_holds tree values e) (ap is_outside_kind is ∙ inner) h
  where
    drop_outside : (a b : Bool) → a ≡ false → (a || b) ≡ true → b ≡ true
    drop_outside true b e h = absurd (cc)
    drop_outside false b e h = h

inside_is : (k : Kind) → is_inside_kind k ≡ true → is_outside_kind k ≡ false
inside_is (Constant truth) h = refl
inside_is (Simple s) h = refl
inside_is Inside h = refl
inside_is Outside h = absurd (cc)

module _ {X : Type 0} (tree : X → FormulaTree) (facts : Facts) where
  meets_by : (s : SymId) (x : List ℕ) (e : X × Bool) (b : Bool) → seen.is_entry_on tree s e ≡ b
      → any.holds_unless_outside tree x e ≡ true → cond b (seen.entry_holds tree (alone s (slice_index x s.0)) e) true ≡ true
  meets_by s x e true on h =
      let kind : kind_of (tree e.0) ≡ Simple s = simple_kind s (kind_of (tree e.0)) on in
      ap (agrees e.1) (sym (facts.simple_alone (tree e.0) s x kind)) ∙ not_outside tree e x (Simple s) kind refl h
  meets_by s x e false on h = refl

  -- the value of a symbol meets its simple formulas
  pub candidate_in_domain : (c : ConditionOf X) (x : List ℕ) (s : SymId) → any.AreCandidates tree c x
      → seen.in_domain tree s c (slice_index x s.0) ≡ true
  candidate_in_domain c x s h =
      all_at (seen.meets tree s (alone s (slice_index x s.0))) c.entries
      (λ i e is. meets_by s x e (seen.is_entry_on tree s e) refl (at_all (any.holds_unless_outside tree x) c.entries i e h.satisfied is))

-- the values meet one of the cases of each choice
pub candidate_meets : Facts → (cond : Condition) (x : List ℕ) (o : Refute) → AllTyped cond.widths cond.entries
    → AreCandidates cond x → IsOrigin cond o → is_one_met x (cases_from cond o) ≡ true
candidate_meets facts cond x (Empty s picks) typed h origin = absurd origin
candidate_meets facts cond x (Domain s) typed h origin =
    let narrow = listed_narrow facts cond s typed origin in
    let fits : FitsWidth (slice_index cond.widths s.0) (slice_index x s.0) =
    subst (λ (w : ℕ). FitsWidth w (slice_index x s.0)) (sym (index_at cond.widths s.0 narrow.width narrow.at))
    (h.fitting.fit s.0 narrow.width narrow.at) in
    facts.ranges_are_test s (slice_index cond.widths s.0) (in_domain s cond) x fits ∙ candidate_in_domain view facts cond x s h
candidate_meets facts cond x (Cycle bounds) typed h origin = absurd origin
candidate_meets facts cond x (Split pick way) typed h origin =
    let e = origin.entry in
    let holds : entry_holds x e ≡ true =
    not_outside view e x (kind_of (view e.0)) refl (inside_is (kind_of (view e.0)) origin.inside)
    (at_all (holds_unless_outside x) cond.entries pick e h.satisfied origin.at) in
    let m = origin.member in
    let splits = facts.member_splits (view e.0) e.1 way m origin.leads (entry_splits facts cond pick e typed origin.at origin.inside) in
    let typed_member = facts.member_typed (view e.0) e.1 way m cond.widths origin.leads (typed_at cond.widths cond.entries pick e typed origin.at) in
    ap (is_one_met x) (cases_there cond pick way origin) ∙ facts.cases_are_truth m.0 m.1 cond.widths x splits typed_member h.fitting.fit
    ∙ facts.member_truth (view e.0) e.1 way m x origin.leads holds

value_under : (x : List ℕ) (s : SymId) (ranges : List Range) (limit : ℕ) → AreUnder limit ranges
    → is_one_met x (map (range_case s) ranges) ≡ true → slice_index x s.0 < limit
value_under x s [] limit under h = absurd (cc)
value_under x s (r ∷ ranges) limit under h =
    elim (or_cases (is_case_met x (range_case s r)) (is_one_met x (map (range_case s) ranges)) h) [
      | inl here ↦
          let rest =
          and_right (int_le (pos 0 -ℤ pos (slice_index x s.0)) (neg_ℤ (pos r.0)))
          (int_le (pos (slice_index x s.0) -ℤ pos 0) (pos r.1) && true) here in
          let last = and_left (int_le (pos (slice_index x s.0) -ℤ pos 0) (pos r.1)) true rest in
          lt_moved (slice_index x s.0) r.1 limit last under.1
      | inr later ↦ value_under x s ranges limit under.2 later
    ]
  where
    lt_moved : (v n limit : ℕ) → int_le (pos v -ℤ pos 0) (pos n) ≡ true → n < limit → v < limit
    lt_moved v n limit h lt = grind (arith, ints)

pub met_is_possible : Facts → (cond : Condition) (x : List ℕ) (s : SymId) → is_one_met x (domain_cases cond s) ≡ true
    → is_possible cond s (slice_index x s.0) ≡ true
met_is_possible facts cond x s h =
    let fits : FitsWidth (slice_index cond.widths s.0) (slice_index x s.0) =
    value_under x s (ranges_where (slice_index cond.widths s.0) (in_domain s cond)) (2 ^ slice_index cond.widths s.0)
    (ranges_under (slice_index cond.widths s.0) (in_domain s cond)) h in
    and_both (fits_width (slice_index cond.widths s.0) (slice_index x s.0)) (in_domain s cond (slice_index x s.0))
    (lt-ltb (slice_index x s.0) (2 ^ slice_index cond.widths s.0) fits)
    (sym (facts.ranges_are_test s (slice_index cond.widths s.0) (in_domain s cond) x fits) ∙ h)

-- no formula is a broken constant one
pub unbroken_at : (i : ℕ) (entries : List Entry) (k : ℕ) (e : Entry) → position_from is_broken i entries ≡ None
    → slice_get entries k ≡ Some e → is_broken e ≡ false
unbroken_at i [] k e h is = absurd (cc)
unbroken_at i (d ∷ entries) zero e h is =
    let same : d ≡ e = cc in ap is_broken (sym same)
    ∙ first_unbroken (is_broken d) (position_from is_broken (i + 1) entries) i h
  where
    first_unbroken : (b : Bool) (rest : Option ℕ) (n : ℕ) → cond b (Some n) rest ≡ None → b ≡ false
    first_unbroken true rest n h = absurd (cc)
    first_unbroken false rest n h = refl
unbroken_at i (d ∷ entries) (suc k) e h is =
    unbroken_at (i + 1) entries k e (rest_unbroken (is_broken d) (position_from is_broken (i + 1) entries) i h) is
  where
    rest_unbroken : (b : Bool) (rest : Option ℕ) (n : ℕ) → cond b (Some n) rest ≡ None → rest ≡ None
    rest_unbroken true rest n h = absurd (cc)
    rest_unbroken false rest n h = h

when_true : (b c : Bool) → b ≡ true → cond b c true ≡ true → c ≡ true
when_true true c e h = h
when_true false c e h = absurd (cc)

constant_holds : (holds truth : Bool) → is_broken_kind holds (Constant truth) ≡ false → agrees holds truth ≡ true
constant_holds true true h = refl
constant_holds true false h = absurd (cc)
constant_holds false true h = absurd (cc)
constant_holds false false h = refl

or_true : (a b : Bool) → b ≡ true → (a || b) ≡ true
or_true true b h = refl
or_true false b h = h

-- the value of a candidate is possible
pub candidate_possible : Facts → (c : Condition) (values : List ℕ) (s : SymId) → AreCandidates c values → s.0 < length c.widths
    → is_possible c s (slice_index values s.0) ≡ true
candidate_possible facts c values s h known =
    let value = slice_index values s.0 in
    let width = slice_index c.widths s.0 in
    and_both (fits_width width value) (in_domain s c value) (lt-ltb value (2 ^ width) (h.fitting.fit s.0 width (get_at c.widths s.0 known)))
    (candidate_in_domain view facts c values s h)

-- each symbol has a possible value
abbrev pub ArePossible : Condition → List ℕ → Type 0
ArePossible cond x = (s : SymId) → s.0 < length cond.widths → is_possible cond s (slice_index x s.0) ≡ true

pub possible_fit : (cond : Condition) (x : List ℕ) → ArePossible cond x → AreValues cond.widths x
possible_fit cond x h = λ symbol width is.
    subst (λ (w : ℕ). FitsWidth w (slice_index x symbol)) (index_at cond.widths symbol width is)
    (ltb-true (slice_index x symbol) (2 ^ slice_index cond.widths symbol)
    (and_left (fits_width (slice_index cond.widths symbol) (slice_index x symbol)) (in_domain (record { 0 = symbol }) cond (slice_index x symbol))
    (h (record { 0 = symbol }) (known_at cond.widths symbol width is))))

entry_satisfied : Facts → (cond : Condition) (x : List ℕ) (pick : ℕ) (e : Entry) (k : Kind)
    → AllTyped cond.widths cond.entries → first_broken cond ≡ None → ArePossible cond x
    → MeetCases cond x (origins_of cond)
    → slice_get cond.entries pick ≡ Some e → kind_of (view e.0) ≡ k → holds_unless_outside x e ≡ true
entry_satisfied facts cond x pick e (Constant truth) typed none possible met is kind =
    let unbroken : is_broken_kind e.1 (Constant truth) ≡ false =
    ap (is_broken_kind e.1) (sym kind) ∙ unbroken_at 0 cond.entries pick e none is in
    or_true (is_outside e) (entry_holds x e)
    (ap (agrees e.1) (facts.constant_truth (view e.0) truth x kind) ∙ constant_holds e.1 truth unbroken)
entry_satisfied facts cond x pick e (Simple s) typed none possible met is kind =
    let known = facts.simple_known (view e.0) s cond.widths kind (typed_at cond.widths cond.entries pick e typed is) in
    let value = slice_index x s.0 in
    let meets_all = and_right (fits_width (slice_index cond.widths s.0) value) (in_domain s cond value) (possible s (known_at cond.widths s.0 known.0 known.1)) in
    let met' = at_all (λ (d : Entry). meets s (alone s value) d) cond.entries pick e meets_all is in
    let on : is_entry_on s e ≡ true = ap (is_simple_on s) kind ∙ on_itself s.0 in
    or_true (is_outside e) (entry_holds x e)
    (ap (agrees e.1) (facts.simple_alone (view e.0) s x kind)
    ∙ when_true (is_entry_on s e) (entry_holds (alone s (slice_index x s.0)) e) on met')
  where
    on_itself : (n : ℕ) → nat_eq n n ≡ true
    on_itself n = eq-eqb n n refl
entry_satisfied facts cond x pick e Inside typed none possible met is kind =
    let inside : is_inside e ≡ true = ap is_inside_kind kind in
    or_true (is_outside e) (entry_holds x e)
    (sym (facts.cases_are_truth (view e.0) e.1 cond.widths x (entry_splits facts cond pick e typed is inside)
    (typed_at cond.widths cond.entries pick e typed is) (possible_fit cond x possible))
    ∙ inside_case_met cond x pick e met is inside)
entry_satisfied facts cond x pick e Outside typed none possible met is kind =
    or_first (is_outside e) (entry_holds x e) (ap is_outside_kind kind)
  where
    or_first : (a b : Bool) → a ≡ true → (a || b) ≡ true
    or_first true b h = refl
    or_first false b h = absurd (cc)

-- possible values that meet one of the cases of each choice
pub met_candidate : Facts → (cond : Condition) (x : List ℕ) → AllTyped cond.widths cond.entries
    → first_broken cond ≡ None → length x ≡ length cond.widths → ArePossible cond x → MeetCases cond x (origins_of cond)
    → AreCandidates cond x
met_candidate facts cond x typed none one_each possible met =
    record {
      fitting = record { one_each = one_each; fit = possible_fit cond x possible };
      satisfied =
          all_at (holds_unless_outside x) cond.entries
          (λ i e is. entry_satisfied facts cond x i e (kind_of (view e.0)) typed none possible met is refl);
    }
