-- The steps of a search are the steps of a refutation of the condition.
use Rattle.std.proofs.Common.{◌≡◌, ℕ, zero, suc, ◌<◌, ℤ, pos, ◌+ℤ◌, List, [], ◌∷◌, ◌++◌, map, length, get_or, Option, Some, refl, sym, ap, subst, ◌∙◌, arith}
use Rattle.std.specs.Prelude.{slice_get, ◌<ℤ◌}
use Rattle.std.proofs.lemmas.Int.{ints}
use Rattle.std.proofs.lemmas.List.{map-append, length-map}
use Rattle.sn_width.specs.declared.ids.SymId.{SymId}
use Rattle.difference_solver.specs.Cycle as Integers
use Rattle.difference_solver.specs.declared.bound.Bound.{Bound}
use Rattle.path_cond.specs.Conditions.{Condition, AllTyped}
use Rattle.path_formula.specs.Bounds.{Case}
use Rattle.path_formula.specs.Cases.{with_bounds}
use Rattle.path_formula.specs.View.{view}
use Rattle.path_formula.specs.declared.sym_bound.SymBound.{SymBound}
use Rattle.difference_solver.specs.Choices.{cases_at, with_each}
use Rattle.difference_solver.specs.Steps as Search
use Rattle.difference_solver.specs.declared.choice.Step.{Step}
use Rattle.difference_solver.specs.declared.choice.Step.TheVariants.{Split as SplitStep, Cycle as CycleStep}
use Rattle.path_cond.specs.Coupled.{coupled_symbols}
use Rattle.refutation_check.specs.Accepted.{Leaves, Refutes, IsAccepted}
use Rattle.refutation_check.specs.Cycles.{IsWalk, at_most_of, total, IsNegativeCycle}
use Rattle.path_solver.specs.Bounds.{Passes, AreBetween, EachAreBetween}
use Rattle.path_solver.specs.Origins.{cases_from, IsOrigin, AreOrigins, whole, choices_from, refute_from}
use Rattle.path_solver.specs.Unknowns.{is_listed, unknown_of, bound_of, case_of, choice_of}
use Rattle.refutation_check.specs.declared.steps.Refute.{Refute}
use Rattle.refutation_check.specs.declared.steps.Refute.TheVariants.{Empty, Domain, Split, Cycle}
use Rattle.path_solver.proofs.Bridge.{cases_there, origin_between}
use Rattle.path_solver.specs.Laws.{Facts}
use Rattle.path_solver.proofs.Entries.{listed_narrow, entry_splits, index_at, known_at}
use Rattle.path_solver.proofs.Goodness.{each_append, each_with}
use Rattle.path_solver.proofs.Numbering.{unknowns_apart}

-- a bound of a case, by its bound between unknowns
pub record IsBoundAt (symbols : List SymId) (case : Case) (i : ℕ) (b : Bound) : Type 0 where
  pub bound : SymBound
  pub at : slice_get case i ≡ Some bound
  pub is : bound_of symbols bound ≡ b
  pub plus : Passes (is_listed symbols) bound.plus
  pub minus : Passes (is_listed symbols) bound.minus

bound_at : (symbols : List SymId) (case : Case) (i : ℕ) (b : Bound) → AreBetween (is_listed symbols) case
    → slice_get (case_of symbols case) i ≡ Some b → IsBoundAt symbols case i b
bound_at symbols [] i b h e = absurd (cc)
bound_at symbols (d ∷ case) zero b h e =
    let same : bound_of symbols d ≡ b = cc in
    record { bound = d; at = refl; is = same; plus = h.0.plus; minus = h.0.minus }
bound_at symbols (d ∷ case) (suc i) b h e =
    let r = bound_at symbols case i b h.1 e in record { bound = r.bound; at = r.at; is = r.is; plus = r.plus; minus = r.minus }

walk_back : (symbols : List SymId) (case : Case) (o e : Option SymId) (indices : List ℕ)
    → AreBetween (is_listed symbols) case → Passes (is_listed symbols) o → Passes (is_listed symbols) e
    → Integers.IsWalk (case_of symbols case) (unknown_of symbols o) indices (unknown_of symbols e) → IsWalk case o indices e
walk_back symbols case o e [] between h g w = unknowns_apart symbols o e h g w
walk_back symbols case o e (i ∷ indices) between h g (b, at, plus, rest) =
    let r = bound_at symbols case i b between at in
    let first : unknown_of symbols r.bound.plus ≡ unknown_of symbols o = ap (λ (x : Bound). x.plus) r.is ∙ plus in
    let next =
    subst (λ (x : Bound). Integers.IsWalk (case_of symbols case) x.minus indices (unknown_of symbols e)) (sym r.is)
    rest in (
      r.bound,
      r.at,
      unknowns_apart symbols r.bound.plus o r.plus h first,
      walk_back symbols case r.bound.minus e indices between r.minus g next,
    )

at_most_same : (symbols : List SymId) (case : Case) (i : ℕ)
    → Integers.at_most_of (slice_get (case_of symbols case) i) ≡ at_most_of (slice_get case i)
at_most_same symbols [] i = refl
at_most_same symbols (d ∷ case) zero = refl
at_most_same symbols (d ∷ case) (suc i) = at_most_same symbols case i

total_same : (symbols : List SymId) (case : Case) (indices : List ℕ)
    → Integers.total (case_of symbols case) indices ≡ total case indices
total_same symbols case [] = refl
total_same symbols case (i ∷ indices) =
    ap (λ (z : ℤ). z +ℤ Integers.total (case_of symbols case) indices) (at_most_same symbols case i)
    ∙ ap (λ (z : ℤ). at_most_of (slice_get case i) +ℤ z) (total_same symbols case indices)

cycle_from : (symbols : List SymId) (case : Case) (start : ℕ) (indices : List ℕ) → AreBetween (is_listed symbols) case
    → Integers.IsWalk (case_of symbols case) start indices start
    → Integers.total (case_of symbols case) indices <ℤ pos 0 → IsNegativeCycle case indices
cycle_from symbols case start [] between w negative = absurd (omega (arith, ints))
cycle_from symbols case start (i ∷ indices) between (b, at, plus, rest) negative =
    let r = bound_at symbols case i b between at in
    let first : unknown_of symbols r.bound.plus ≡ start = ap (λ (x : Bound). x.plus) r.is ∙ plus in
    let whole : Integers.IsWalk (case_of symbols case) start (i ∷ indices) start = (b, at, plus, rest) in
    record {
      start = r.bound.plus;
      closed = walk_back symbols case r.bound.plus r.bound.plus (i ∷ indices) between r.plus r.plus
          (subst (λ (n : ℕ). Integers.IsWalk (case_of symbols case) n (i ∷ indices) n) (sym first) whole);
      negative = subst (λ (z : ℤ). z <ℤ pos 0) (total_same symbols case (i ∷ indices)) negative;
    }

-- a cycle between unknowns is one between symbols
pub cycle_back : (symbols : List SymId) (case : Case) (indices : List ℕ) → AreBetween (is_listed symbols) case
    → Integers.IsNegativeCycle (case_of symbols case) indices → IsNegativeCycle case indices
cycle_back symbols case indices between h = cycle_from symbols case h.start indices between h.closed h.negative

with_same : (symbols : List SymId) (bounds : Case) (cases : List Case)
    → with_each (case_of symbols bounds) (choice_of symbols cases) ≡ choice_of symbols (with_bounds cases bounds)
with_same symbols bounds [] = refl
with_same symbols bounds (case ∷ cases) =
    ap (λ (c : List Bound). c ∷ with_each (case_of symbols bounds) (choice_of symbols cases))
    (sym (map-append (bound_of symbols) bounds case))
    ∙ ap (λ (cs : List (List Bound)). case_of symbols (bounds ++ case) ∷ cs) (with_same symbols bounds cases)

choice_there : (cond : Condition) (origins : List Refute) (k : ℕ) → k < length origins
    → cases_at (choices_from cond origins) k
    ≡ choice_of (coupled_symbols cond) (cases_from cond (get_or origins k (whole 0)))
choice_there cond [] k lt = absurd (omega arith)
choice_there cond (o ∷ origins) zero lt = refl
choice_there cond (o ∷ origins) (suc k) lt = choice_there cond origins k (omega arith)

origin_there : (cond : Condition) (origins : List Refute) (k : ℕ) → AreOrigins cond origins → k < length origins
    → IsOrigin cond (get_or origins k (whole 0))
origin_there cond [] k are lt = absurd (omega arith)
origin_there cond (o ∷ origins) zero are lt = are.0
origin_there cond (o ∷ origins) (suc k) are lt = origin_there cond origins k are.1 (omega arith)

-- the step of a choice leaves its cases
origin_leaves : Facts → (cond : Condition) (gathered : Case) (o : Refute) → AllTyped cond.widths cond.entries
    → IsOrigin cond o → Leaves cond gathered o (cases_from cond o)
origin_leaves facts cond gathered (Empty s picks) typed h = absurd h
origin_leaves facts cond gathered (Domain s) typed h =
    let narrow = listed_narrow facts cond s typed h in (
      record {
        known = known_at cond.widths s.0 narrow.width narrow.at;
        narrow = omega (arith, index_at cond.widths s.0 narrow.width narrow.at, narrow.narrow);
      },
      refl,
    )
origin_leaves facts cond gathered (Split pick way) typed h =
    record {
      entry = h.entry;
      at = h.at;
      member = h.member;
      leads = h.leads;
      splits = facts.member_splits (view h.entry.0) h.entry.1 way h.member h.leads (entry_splits facts cond pick h.entry typed h.at h.inside);
      cases_are = cases_there cond pick way h;
    }
origin_leaves facts cond gathered (Cycle bounds) typed h = absurd h

-- what refutes the choices refutes the condition
refutes_back : Facts → (cond : Condition) (origins : List Refute) → AreOrigins cond origins → (left : List Case) (steps : List Step) → AllTyped cond.widths cond.entries
    → EachAreBetween (is_listed (coupled_symbols cond)) left
    → Search.Refutes (choices_from cond origins) (choice_of (coupled_symbols cond) left) steps
    → Refutes cond left (map (refute_from origins) steps)
refutes_back facts cond origins are [] [] typed between h = tt
refutes_back facts cond origins are [] (step ∷ steps) typed between h = absurd h
refutes_back facts cond origins are (g ∷ left) [] typed between h = absurd h
refutes_back facts cond origins are (g ∷ left) (SplitStep choice ∷ steps) typed between h =
    let lt : choice < length origins =
    omega (
      arith,
      h.0,
      length-map origins
          (λ (o : Refute). choice_of (coupled_symbols cond) (cases_from cond o)),
    ) in
    let o : Refute = get_or origins choice (whole 0) in
    let is : IsOrigin cond o = origin_there cond origins choice are lt in
    let cases : List Case = cases_from cond o in
    let more : EachAreBetween (is_listed (coupled_symbols cond)) (with_bounds cases g ++ left) =
    each_append (is_listed (coupled_symbols cond)) (with_bounds cases g) left
    (each_with (is_listed (coupled_symbols cond)) cases g between.0 (origin_between facts cond o typed is)) between.1 in
    let same : with_each (case_of (coupled_symbols cond) g) (cases_at (choices_from cond origins) choice) ++
    choice_of (coupled_symbols cond) left ≡ choice_of (coupled_symbols cond) (with_bounds cases g ++ left) =
    ap (λ (cs : List (List Bound)). with_each (case_of (coupled_symbols cond) g) cs ++ choice_of (coupled_symbols cond)
    left) (choice_there cond origins choice lt)
    ∙ ap (λ (cs : List (List Bound)). cs ++ choice_of (coupled_symbols cond) left) (with_same (coupled_symbols cond) g cases)
    ∙ sym (map-append (case_of (coupled_symbols cond)) (with_bounds cases g) left) in (
      cases,
      origin_leaves facts cond g o typed is,
      refutes_back facts cond origins are (with_bounds cases g ++ left) steps typed more
          (subst (λ (cs : List (List Bound)). Search.Refutes (choices_from cond origins) cs steps) same h.1),
    )
refutes_back facts cond origins are (g ∷ left) (CycleStep around ∷ steps) typed between h = (
  [],
  (cycle_back (coupled_symbols cond) g around.items between.0 h.0, refl),
  refutes_back facts cond origins are left steps typed between.1 h.1,
)

-- steps that refute the choices are accepted for the condition
pub accepted : Facts → (cond : Condition) (origins : List Refute) → AreOrigins cond origins → (steps : List Step) → AllTyped cond.widths cond.entries
    → Search.Refutes (choices_from cond origins) ([] ∷ []) steps
    → IsAccepted cond (map (refute_from origins) steps)
accepted facts cond origins are steps typed h = refutes_back facts cond origins are ([] ∷ []) steps typed (tt, tt) h

-- each choice that is split is one of the first `count`
abbrev pub SplitsWithin : ℕ → List Step → Type 0
SplitsWithin count [] = Unit {0}
SplitsWithin count (SplitStep choice ∷ steps) = (choice < count) × SplitsWithin count steps
SplitsWithin count (CycleStep around ∷ steps) = SplitsWithin count steps

pub splits_within : (choices : List (List (List Bound))) (left : List (List Bound)) (steps : List Step)
    → Search.Refutes choices left steps → SplitsWithin (length choices) steps
splits_within choices [] [] h = tt
splits_within choices [] (step ∷ steps) h = absurd h
splits_within choices (g ∷ left) [] h = absurd h
splits_within choices (g ∷ left) (SplitStep choice ∷ steps) h =
    (h.0, splits_within choices (with_each g (cases_at choices choice) ++ left) steps h.1)
splits_within choices (g ∷ left) (CycleStep around ∷ steps) h = splits_within choices left steps h.1
