-- What the constant and the simple formulas of a condition decide.
use Rattle.std.proofs.Common.{◌≡◌, ℕ, suc, ◌+◌, Bool, true, false, cond, not, ◌&&◌, ◌||◌, List, [], ◌∷◌, Option, Some, None, refl, sym, ap, ap₂, ◌∙◌, arith, inl, inr}
use Rattle.std.specs.Prelude.{slice_get, slice_index}
use Rattle.std.specs.List.{list_all, list_any, position_from}
use Rattle.std.proofs.lemmas.List.Folds.{list_all-append}
use Rattle.std.proofs.Math.Pow.{pow_mono}
use Rattle.sn_width.specs.declared.ids.SymId.{SymId}
use Rattle.sn_ranges.specs.Ranges.{fits_width}
use Rattle.path_formula.specs.Atoms.{comparison_kind, membership_kind}
use Rattle.path_formula.specs.Formulas.{FormulaTree, always, compared, belongs, all_of, any_of, opposite, Formulas, no_formulas, formula, truth_at}
use Rattle.path_formula.specs.Kinds.{Atom, is_constant_kind, is_constant, atoms_of, atoms_among, kind_unless_constant, only_symbol, is_hard}
use Rattle.path_formula.specs.Solutions.{agrees, alone}
use Rattle.path_formula.specs.View.{view}
use Rattle.path_formula.specs.declared.atom.AtomKind.{AtomKind}
use Rattle.path_formula.specs.declared.atom.AtomKind.TheVariants.{Constant as OneTruth, Single, Pair, Outside as Hard}
use Rattle.path_formula.specs.declared.kinds.Kind.TheVariants.{Constant}
use Rattle.path_cond.specs.Conditions.{Condition, Entry, AllTyped, first_broken, is_broken, is_broken_kind}
use Rattle.interval_solver.specs.Verdicts.{AreLeastValues, IsFirstWithoutValue}
use Rattle.path_formula.specs.Typed.{IsTyped}
use Rattle.path_cond.specs.Conditions.{entry_holds, is_entry_on, meets, picks_from, simple_picks}
use Rattle.path_formula.specs.Bounds.{Case, AreValues, is_one_met, is_case_met}
use Rattle.path_formula.specs.Cases.{cases_of}
use Rattle.path_formula.specs.Splits.{AtomCanSplit, CanSplit, EachCanSplit}
use Rattle.path_formula.specs.declared.sym_bound.SymBound.{SymBound}
use Rattle.path_cond.specs.Coupled.{occurs_in, occurs_among, stands_in}
use Rattle.path_cond.specs.Picks.{passes, is_simple_pick, are_simple_picks, meets_picks}
use Rattle.refutation_check.specs.Accepted.{IsAccepted}
use Rattle.refutation_check.specs.Decisions.{IsRefuted, IsSimplyOpen}
use Rattle.refutation_check.specs.declared.steps.Refute.TheVariants.{Empty, Split}
use Rattle.path_solver.specs.Bounds.{Passes, HasSymbol, AreBetween, EachAreBetween}
use Rattle.path_solver.specs.Laws.{Facts}
use Rattle.path_solver.proofs.Atoms.{or_cases, cases_between}
use Rattle.path_solver.proofs.Entries.{typed_at}
use Rattle.path_solver.proofs.Numbering.{and_both, and_left, and_right}
use Rattle.path_solver.proofs.Solved.{AreLeasts}

-- the least values of the domains
pub leasts_of : (cond : Condition) (leasts : List ℕ) → AreLeastValues cond leasts → AreLeasts cond leasts
leasts_of cond leasts h =
    record {
      one_each = h.count_is;
      possible = λ s known. (h.each s known).possible;
      least = λ s value known p. (h.each s known).least value p;
    }

-- An entry at a place
pub record IsBrokenAt (entries : List Entry) (first pick : ℕ) : Type 0 where
  pub place : ℕ
  pub entry : Entry
  pub at : slice_get entries place ≡ Some entry
  pub broken : is_broken entry ≡ true
  pub is : pick ≡ first + place

broken_by : (entries : List Entry) (d : Entry) (first pick : ℕ) (b : Bool) → is_broken d ≡ b
    → cond b (Some first) (position_from is_broken (first + 1) entries) ≡ Some pick
    → (position_from is_broken (first + 1) entries ≡ Some pick → IsBrokenAt entries (first + 1) pick)
    → IsBrokenAt (d ∷ entries) first pick
broken_by entries d first pick true is e later =
    let same : first ≡ pick = cc in record { place = 0; entry = d; at = refl; broken = is; is = omega arith }
broken_by entries d first pick false is e later =
    let r = later e in record {
      place = suc r.place;
      entry = r.entry;
      at = r.at;
      broken = r.broken;
      is = omega (arith, r.is);
    }

pub broken_at : (entries : List Entry) (first pick : ℕ) → position_from is_broken first entries ≡ Some pick
    → IsBrokenAt entries first pick
broken_at [] first pick e = absurd (cc)
broken_at (d ∷ entries) first pick e =
    broken_by entries d first pick (is_broken d) refl e (λ g. broken_at entries (first + 1) pick g)

atom_constant : (k : AtomKind) → (is_constant_kind k && true) ≡ true → is_constant_kind k ≡ true
atom_constant OneTruth h = refl
atom_constant (Single s) h = absurd (cc)
atom_constant Pair h = absurd (cc)
atom_constant Hard h = absurd (cc)

atom_splits : (k : AtomKind) (left right : ℕ) → is_constant_kind k ≡ true → AtomCanSplit k left right
atom_splits OneTruth left right h = tt
atom_splits (Single s) left right h = absurd (cc)
atom_splits Pair left right h = absurd (cc)
atom_splits Hard left right h = absurd (cc)

none_there : (b c : Bool) → b ≡ true → cond b false c ≡ true → ⊥
none_there true c e h = cc
none_there false c e h = cc

mutual
  -- a formula of constant atoms has cases
  constants_split : (f : FormulaTree) → list_all is_constant (atoms_of f) ≡ true → CanSplit f
  constants_split (always truth) h = tt
  constants_split (compared rel left right) h =
      atom_splits (comparison_kind left right) left.width right.width (atom_constant (comparison_kind left right) h)
  constants_split (belongs term set) h =
      atom_splits (membership_kind term) term.width set.width (atom_constant (membership_kind term) h)
  constants_split (all_of fs) h = each_splits fs h
  constants_split (any_of fs) h = each_splits fs h
  constants_split (opposite f) h = constants_split f h

  each_splits : (fs : Formulas) → list_all is_constant (atoms_among fs) ≡ true → EachCanSplit fs
  each_splits no_formulas h = tt
  each_splits (formula f fs) h =
      let both : (list_all is_constant (atoms_of f) && list_all is_constant (atoms_among fs)) ≡ true =
      sym (list_all-append is_constant (atoms_of f) (atoms_among fs)) ∙ h in (
        constants_split f (and_left (list_all is_constant (atoms_of f)) (list_all is_constant (atoms_among fs)) both),
        each_splits fs (and_right (list_all is_constant (atoms_of f)) (list_all is_constant (atoms_among fs)) both),
      )

mutual
  -- and no symbol occurs in it
  constants_alone : (f : FormulaTree) (s : SymId) → list_all is_constant (atoms_of f) ≡ true → occurs_in s f ≡ true → ⊥
  constants_alone (always truth) s h o = cc
  constants_alone (compared rel left right) s h o =
      none_there (is_constant_kind (comparison_kind left right)) (stands_in s left.parts || stands_in s right.parts)
      (atom_constant (comparison_kind left right) h) o
  constants_alone (belongs term set) s h o =
      none_there (is_constant_kind (membership_kind term)) (stands_in s term.parts)
      (atom_constant (membership_kind term) h) o
  constants_alone (all_of fs) s h o = among_alone fs s h o
  constants_alone (any_of fs) s h o = among_alone fs s h o
  constants_alone (opposite f) s h o = constants_alone f s h o

  among_alone : (fs : Formulas) (s : SymId) → list_all is_constant (atoms_among fs) ≡ true → occurs_among s fs ≡ true → ⊥
  among_alone no_formulas s h o = cc
  among_alone (formula f fs) s h o =
      let both : (list_all is_constant (atoms_of f) && list_all is_constant (atoms_among fs)) ≡ true =
      sym (list_all-append is_constant (atoms_of f) (atoms_among fs)) ∙ h in
      elim (or_cases (occurs_in s f) (occurs_among s fs) o) [
        | inl here ↦ constants_alone f s
            (and_left (list_all is_constant (atoms_of f)) (list_all is_constant (atoms_among fs)) both) here
        | inr later ↦ among_alone fs s
            (and_right (list_all is_constant (atoms_of f)) (list_all is_constant (atoms_among fs)) both) later
      ]

no_bound : (b : SymBound) (plus minus : Option SymId) → Passes (λ _. false) plus → Passes (λ _. false) minus
    → HasSymbol plus minus → ⊥
no_bound b (Some s) minus p m h = cc
no_bound b None (Some s) p m h = cc
no_bound b None None p m h = h

met_at_once : (case : Case) (rest : Bool) → AreBetween (λ _. false) case → (is_case_met [] case || rest) ≡ true
met_at_once [] rest h = refl
met_at_once (b ∷ case) rest h = absurd (no_bound b b.plus b.minus h.0.plus h.0.minus h.0.some)

no_cases : (cases : List Case) → EachAreBetween (λ _. false) cases → is_one_met [] cases ≡ false → cases ≡ []
no_cases [] h e = refl
no_cases (case ∷ cases) h e = let yes = met_at_once case (is_one_met [] cases) h.0 in absurd (cc)

zero_fits : (widths : List ℕ) → AreValues widths []
zero_fits widths = λ symbol width is. pow_mono {i = 0} {j = width} (omega arith)

broken_kind : (holds : Bool) (truth : Bool) (atoms : List Atom) (b : Bool) → list_all is_constant atoms ≡ b
    → is_broken_kind holds (cond b (Constant truth) (kind_unless_constant (only_symbol atoms) (list_any is_hard atoms)))
    ≡ true
    → (list_all is_constant atoms ≡ true) × (agrees holds truth ≡ false)
broken_kind holds truth atoms true is h = (is, was_true (agrees holds truth) h)
  where
    was_true : (b : Bool) → not b ≡ true → b ≡ false
    was_true true h = absurd (cc)
    was_true false h = refl
broken_kind holds truth atoms false is h = absurd (never (only_symbol atoms) (list_any is_hard atoms) h)
  where
    never : (o : Option SymId) (b : Bool) → is_broken_kind holds (kind_unless_constant o b) ≡ true → ⊥
    never (Some s) b h = cc
    never None true h = cc
    never None false h = cc

-- a broken constant formula has no cases
constant_cases_none : Facts → (widths : List ℕ) (e : Entry) → IsTyped widths (view e.0) → is_broken e ≡ true
    → CanSplit (view e.0) × (cases_of (view e.0) e.1 ≡ [])
constant_cases_none facts widths e typed h =
    let both =
    broken_kind e.1 (truth_at (view e.0) []) (atoms_of (view e.0)) (list_all is_constant (atoms_of (view e.0))) refl
    h in
    let split = constants_split (view e.0) both.0 in (
      split,
      no_cases (cases_of (view e.0) e.1)
          (cases_between (λ _. false) (view e.0) e.1 split (λ s o. absurd (constants_alone (view e.0) s both.0 o)))
          (facts.cases_are_truth (view e.0) e.1 widths [] split typed (zero_fits widths) ∙ both.1),
    )

-- the step that refutes a condition with a broken constant formula
pub split_accepted : Facts → (cond : Condition) (pick : ℕ) → AllTyped cond.widths cond.entries
    → first_broken cond ≡ Some pick → IsAccepted cond (Split pick [] ∷ [])
split_accepted facts cond pick typed h =
    let r = broken_at cond.entries 0 pick h in
    let same : pick ≡ r.place = omega (arith, r.is) in
    let none =
    constant_cases_none facts cond.widths r.entry (typed_at cond.widths cond.entries r.place r.entry typed r.at)
    r.broken in
    ([], record { entry = r.entry; at = ap (slice_get cond.entries) same ∙ r.at; member = (view r.entry.0, r.entry.1); leads = refl; splits = none.0; cases_are = sym none.1 }, tt)

picks_by : (c : Condition) (s : SymId) (n : ℕ) (e : Entry) (es : List Entry) (b : Bool) → slice_get c.entries n ≡ Some e
    → is_entry_on s e ≡ b → are_simple_picks s c (picks_from s (suc n) es) ≡ true
    → are_simple_picks s c (cond b (n ∷ picks_from s (suc n) es) (picks_from s (suc n) es)) ≡ true
picks_by c s n e es true is on h =
    and_both (is_simple_pick s c n) (are_simple_picks s c (picks_from s (suc n) es))
    (ap (passes (is_entry_on s)) is ∙ on) h
picks_by c s n e es false is on h = h

meets_by : (c : Condition) (s : SymId) (v n : ℕ) (e : Entry) (es : List Entry) (b : Bool)
    → slice_get c.entries n ≡ Some e → meets_picks s c (picks_from s (suc n) es) v ≡ list_all (meets s (alone s v)) es
    → meets_picks s c (cond b (n ∷ picks_from s (suc n) es) (picks_from s (suc n) es)) v
    ≡ (cond b (entry_holds (alone s v) e) true && list_all (meets s (alone s v)) es)
meets_by c s v n e es true is h = ap₂ (λ x y. x && y) (ap (passes (entry_holds (alone s v))) is) h
meets_by c s v n e es false is h = h

shift : (n i : ℕ) → suc n + i ≡ n + suc i
shift n i = omega arith

none_added : (n : ℕ) → n ≡ n + 0
none_added n = omega arith

simple_from : (c : Condition) (s : SymId) (n : ℕ) (es : List Entry)
    → ((i : ℕ) → slice_get c.entries (n + i) ≡ slice_get es i) → are_simple_picks s c (picks_from s n es) ≡ true
simple_from c s n [] h = refl
simple_from c s n (e ∷ es) h =
    picks_by c s n e es (is_entry_on s e) (ap (slice_get c.entries) (none_added n) ∙ h 0) refl
    (simple_from c s (suc n) es (λ i. ap (slice_get c.entries) (shift n i) ∙ h (suc i)))

meets_from : (c : Condition) (s : SymId) (v n : ℕ) (es : List Entry)
    → ((i : ℕ) → slice_get c.entries (n + i) ≡ slice_get es i)
    → meets_picks s c (picks_from s n es) v ≡ list_all (meets s (alone s v)) es
meets_from c s v n [] h = refl
meets_from c s v n (e ∷ es) h =
    meets_by c s v n e es (is_entry_on s e) (ap (slice_get c.entries) (none_added n) ∙ h 0)
    (meets_from c s v (suc n) es (λ i. ap (slice_get c.entries) (shift n i) ∙ h (suc i)))

-- the step that refutes a condition with a symbol that has no possible value
pub empty_accepted : (cond : Condition) (s : SymId) → IsFirstWithoutValue cond s
    → IsAccepted cond (Empty s (simple_picks s cond) ∷ [])
empty_accepted cond s h = (
  [],
  (
    record {
      known = h.known;
      simple = simple_from cond s 0 cond.entries (λ i. ap (slice_get cond.entries) (zero_first i));
      no_value =
          λ v. ap (λ (b : Bool). fits_width (slice_index cond.widths s.0) v && b)
          (meets_from cond s v 0 cond.entries (λ i. ap (slice_get cond.entries) (zero_first i)))
          ∙ h.no_value v;
    },
    refl,
  ),
  tt,
)
  where
    zero_first : (i : ℕ) → 0 + i ≡ i
    zero_first i = omega arith

pub broken_refuted : (cond : Condition) (pick : ℕ) → first_broken cond ≡ Some pick → IsRefuted cond
broken_refuted cond pick h = inl (inl record { pick = pick; first = h })

pub empty_refuted : (cond : Condition) (s : SymId) → IsFirstWithoutValue cond s → IsRefuted cond
empty_refuted cond s h = inl (inr record { symbol = s; known = h.known; no_value = h.no_value })

-- each symbol has a possible value
pub simply_open : (cond : Condition) (leasts : List ℕ) → first_broken cond ≡ None → AreLeastValues cond leasts → IsSimplyOpen cond
simply_open cond leasts none h =
    record {
      unbroken = none;
      possible = λ s known. (slice_index leasts s.0, (h.each s known).possible);
    }
