-- States of runs, and the points where they stand.
use Rattle.std.proofs.Common.{◌≡◌, ℕ, zero, suc, ◌≤◌, true, List, [], ◌∷◌, ◌++◌, drop, length, map, take, Some, refl, sym, ap, ◌∙◌, append_assoc, arith}
use Rattle.std.proofs.lemmas.List.{append-nil, length-map, map-append, reverse-append, take-append-drop, take-append-le, drop-append-le, take_all}
use Rattle.refutation_check.specs.Longer.{condition_of}
use Rattle.sn_width.specs.declared.ids.NodeId.{NodeId}
use Rattle.lin_term.specs.Terms.{LinearTerm}
use Rattle.path_formula.specs.declared.formula.Formula.{Formula}
use Rattle.path_formula.specs.View.{view}
use Rattle.path_cond.specs.Conditions.{Entry}
use Rattle.path_cond.specs.Seen.{entry_seen}
use Rattle.net_check.specs.Network.{Network}
use Rattle.sefl_meaning.specs.declared.walk.Decision.{Decision}
use Rattle.sefl_meaning.specs.declared.walk.Place.{Place}
use Rattle.sefl_meaning.specs.Runs.{Progress}
use Rattle.sefl_meaning.specs.Start.{progress_of}
use Rattle.sefl_meaning.specs.Trees.{arrives}
use Rattle.sym_state.specs.Beginning.{MustBeTrue, trees_of}
use Rattle.sym_state.specs.Symbolic.{Rest, Symbolic, choices_of, decided, polarity, rest_of, with_decision, with_place}
use Rattle.exact_records.specs.Records.{SymStart, SymTree, injection_tests}
use Rattle.exact_records.specs.Points.{Point, condition_at}
use Rattle.path_exec.specs.declared.engine.Moved.{Moved}
use Rattle.path_exec.specs.declared.engine.Moved.TheVariants.{Arrived, Stopped}
use Rattle.path_exec.specs.declared.engine.Next.TheVariants.{AtEnd, AtNode}
use Rattle.path_exec.specs.Location.{point_at}
use Rattle.path_exec.specs.Moves.{GoesOn, IsMove, Reaches, StopsAt}
use Rattle.path_exec.specs.Views.{Views}
use Rattle.symbolic_engine.specs.Origins.{IsFirstState, IsRunOf, condition_seen, entries_seen, location_of, progress_in}
use Rattle.symbolic_engine.proofs.Growing.{Grown, grown_then}

pub some_same : {A : Type 0} {x y : A} → Some x ≡ Some y → x ≡ y
some_same e = cc e

-- ---- states

-- the symbols are the unknown fields and the choices
pub all_widths : (s : SymStart) (x : Symbolic) → IsRunOf s x → x.condition.widths ≡ s.unknowns ++ choices_of x
all_widths s x run =
    sym (take-append-drop x.unknowns x.condition.widths) ∙ ap (λ l. l ++ choices_of x) run.fields

-- the formulas are the tests of the injection and those behind
pub all_tests : (s : SymStart) (x : Symbolic) → IsRunOf s x → injection_tests s ++ drop (length s.tests) (entries_seen x) ≡ entries_seen x
all_tests s x run =
    ap (λ l. l ++ drop (length s.tests) (entries_seen x)) (sym run.tests) ∙ take-append-drop (length s.tests) (entries_seen x)

-- so the condition where it stands is that of the state
pub condition_here : (s : SymStart) (x : Symbolic) (tree : ℕ → SymTree) (begun : ℕ) → IsRunOf s x
    → condition_at s (point_at begun (location_of s x tree)) ≡ condition_seen x
condition_here s x tree begun run =
    let most = sym run.most_choices in
    let tests = all_tests s x run in
    λ j. condition_of (most j) x.condition.widths (tests j)

few : {A : Type 0} (n : ℕ) (xs : List A) → length (take n xs) ≡ n → n ≤ length xs
few zero xs e = omega arith
few (suc n) [] e = absurd (omega (arith, e))
few (suc n) (x ∷ xs) e = let h = few n xs (omega (arith, e)) in omega (arith, h)

-- there are at least as many formulas as the injection has tests
pub tests_within : (s : SymStart) (x : Symbolic) → IsRunOf s x → length s.tests ≤ length (entries_seen x)
tests_within s x run =
    few (length s.tests) (entries_seen x) (ap length run.tests ∙ length-map s.tests (λ f. (f, true)))

-- what an instruction leaves is of the run still
pub run_on : (s : SymStart) (x y : Symbolic) → rest_of y ≡ rest_of x → IsRunOf s x → IsRunOf s y
run_on s x y same run = record {
  unknowns = ap (λ (r : Rest). r.unknowns) same ∙ run.unknowns;
  fields = ap (λ (r : Rest). r.fields) same ∙ run.fields;
  tests = ap (λ (r : Rest). take (length s.tests) (map (entry_seen view) r.entries)) same ∙ run.tests;
  most_choices = ap (λ (r : Rest). r.most_choices) same ∙ run.most_choices;
}

-- what an instruction leaves has the same tests, and symbols behind those that were there
pub tests_same : (s : SymStart) (x y : Symbolic) → rest_of y ≡ rest_of x
    → drop (length s.tests) (entries_seen y) ≡ drop (length s.tests) (entries_seen x)
tests_same s x y same = ap (λ (r : Rest). drop (length s.tests) (map (entry_seen view) r.entries)) same

pub wider_by : (s : SymStart) (x y : Symbolic) → rest_of y ≡ rest_of x → IsRunOf s x → Grown (choices_of x) (choices_of y)
    → Grown x.condition.widths y.condition.widths
wider_by s x y same run grown = (
  grown.0,
  all_widths s y (run_on s x y same run) ∙ ap (λ l. s.unknowns ++ l) grown.1 ∙ sym (append_assoc s.unknowns (choices_of x) grown.0)
      ∙ ap (λ l. l ++ grown.0) (sym (all_widths s x run)),
)

pub run_placed : (s : SymStart) (x : Symbolic) (place : Place) → IsRunOf s x → IsRunOf s (with_place x place)
run_placed s x place run =
    record { unknowns = run.unknowns; fields = run.fields; tests = run.tests; most_choices = run.most_choices }

pub run_copied : (s : SymStart) (x : Symbolic) (d : Decision) → IsRunOf s x → IsRunOf s (with_decision x d)
run_copied s x d run =
    record { unknowns = run.unknowns; fields = run.fields; tests = run.tests; most_choices = run.most_choices }

-- a decision's formula stands behind the others
entries_more : (x : Symbolic) (formula : Formula) (d : Decision)
    → entries_seen (decided x formula d) ≡ entries_seen x ++ (view formula, polarity d) ∷ []
entries_more x formula d = map-append (entry_seen view) x.condition.entries ((formula, polarity d) ∷ [])

pub run_decided : (s : SymStart) (x : Symbolic) (formula : Formula) (d : Decision) → IsRunOf s x → IsRunOf s (decided x formula d)
run_decided s x formula d run = record {
  unknowns = run.unknowns;
  fields = run.fields;
  tests = ap (take (length s.tests)) (entries_more x formula d)
      ∙ take-append-le (length s.tests) (entries_seen x) ((view formula, polarity d) ∷ []) (tests_within s x run) ∙ run.tests;
  most_choices = run.most_choices;
}

pub tests_decided : (s : SymStart) (x : Symbolic) (formula : Formula) (d : Decision) → IsRunOf s x
    → drop (length s.tests) (entries_seen (decided x formula d)) ≡ drop (length s.tests) (entries_seen x) ++ (view formula, polarity d) ∷ []
tests_decided s x formula d run =
    ap (drop (length s.tests)) (entries_more x formula d)
    ∙ drop-append-le (length s.tests) (entries_seen x) ((view formula, polarity d) ∷ []) (tests_within s x run)

-- ---- the first state

true_tests : (entries : List Entry) → MustBeTrue entries → map (entry_seen view) entries ≡ map (λ f. (f, true)) (trees_of entries)
true_tests [] h = refl
true_tests (entry ∷ entries) h = λ i. (view entry.0, h.0 i) ∷ true_tests entries h.1 i

-- behind all of a list there is nothing
none_behind : {A : Type 0} (n : ℕ) (xs : List A) → length xs ≤ n → drop n xs ≡ []
none_behind zero [] h = refl
none_behind (suc n) [] h = refl
none_behind zero (y ∷ ys) h = absurd (omega (arith, h))
none_behind (suc n) (y ∷ ys) h = none_behind n ys (omega (arith, h))

module _ (s : SymStart) (net : Network) (hops : ℕ) (node : NodeId) (port : ℕ) (x : Symbolic) (first : IsFirstState s net hops node port x) where
  first_entries : entries_seen x ≡ injection_tests s
  first_entries = true_tests x.condition.entries first.true_tests ∙ ap (map (λ f. (f, true))) (sym first.tests)

  count_of_tests : length (entries_seen x) ≡ length s.tests
  count_of_tests = ap length first_entries ∙ length-map s.tests (λ f. (f, true))

  pub first_run : IsRunOf s x
  first_run = record {
    unknowns = first.fields ∙ ap length (sym first.unknowns);
    fields = take_all x.unknowns x.condition.widths (let e = first.fields in omega (arith, e)) ∙ sym first.unknowns;
    tests = take_all (length s.tests) (entries_seen x) (let e = count_of_tests in omega (arith, e)) ∙ first_entries;
    most_choices = sym first.most_choices;
  }

  pub no_tests : drop (length s.tests) (entries_seen x) ≡ []
  no_tests = none_behind (length s.tests) (entries_seen x) (let e = count_of_tests in omega (arith, e))

  pub no_choices : choices_of x ≡ []
  no_choices = none_behind x.unknowns x.condition.widths (let e = first.fields in omega (arith, e))

-- ---- moves

goes_then : (a b c : Point) → b.decisions ≡ a.decisions → b.tests ≡ a.tests → Grown a.widths b.widths → GoesOn b c → GoesOn a c
goes_then a b c ds ts ws on =
    let grown = grown_then a.widths b.widths c.widths ws (on.more, on.grown) in
    record { decisions = on.decisions ∙ ds; tests = on.tests ∙ ts; more = grown.0; grown = grown.1 }

module _ {P O N D T : Type 0} (x : Views P O N D T) where
  stop_from : (a b c : Point) (count : ℕ) → b.decisions ≡ a.decisions → b.tests ≡ a.tests → b.places ≡ a.places
      → Grown a.widths b.widths → b.tree ≡ a.tree → StopsAt x.start count b c → StopsAt x.start count a c
  stop_from a b c count ds ts ps ws tree stop = record {
    goes = goes_then a b c ds ts ws stop.goes;
    tree = stop.tree ∙ tree;
    places = stop.places ∙ ps;
    widths = stop.widths;
    begun = stop.begun;
  }

  -- what comes from a point comes from one before it, where nothing was decided or arrived at between
  pub move_from : (a b : Point) (count : ℕ) (moved : Moved P O N) → b.decisions ≡ a.decisions → b.tests ≡ a.tests → b.places ≡ a.places
      → Grown a.widths b.widths → b.tree ≡ a.tree → IsMove x b count moved → IsMove x a count moved
  move_from a b count (Arrived place) ds ts ps ws tree move = record {
    goes = goes_then a b (point_at count (x.place_at place)) ds ts ws move.goes;
    port = move.port;
    progress = move.progress;
    is = sym tree ∙ move.is;
    carries = move.carries;
    places = move.places ∙ ap (λ l. l ++ move.port ∷ []) ps;
    widths = move.widths;
  }
  move_from a b count (Stopped (AtEnd over)) ds ts ps ws tree move = (stop_from a b (point_at count (x.over_at over)) count ds ts ps ws tree move.0, move.1)
  move_from a b count (Stopped (AtNode node offer)) ds ts ps ws tree move = (stop_from a b (point_at count (x.node_at node)) count ds ts ps ws tree move.0, move.1)

-- a state that waits or is over, behind `count` instructions
pub stops_here : (s : SymStart) (x : Symbolic) (tree : ℕ → SymTree) (count : ℕ) → IsRunOf s x → progress_of (tree count) ≡ progress_in x count
    → StopsAt s count (point_at count (location_of s x tree)) (point_at count (location_of s x tree))
stops_here s x tree count run at = record {
  goes = record { decisions = refl; tests = refl; more = []; grown = sym (append-nil x.condition.widths) };
  tree = refl;
  places = refl;
  widths = all_widths s x run ∙ ap (λ (p : Progress LinearTerm). s.unknowns ++ p.choices) (sym at);
  begun = ap (λ (p : Progress LinearTerm). p.begun) at;
}

-- arrived at one port more
pub reaches_here : (s : SymStart) (x : Symbolic) (place : Place) (tree next : ℕ → SymTree) (count : ℕ) → IsRunOf s x
    → tree count ≡ arrives place (progress_in x count) (next count)
    → Reaches s (point_at count (location_of s x tree)) (point_at count (location_of s (with_place x place) next)) x.carried
reaches_here s x place tree next count run is = record {
  goes = record { decisions = refl; tests = refl; more = []; grown = sym (append-nil x.condition.widths) };
  port = place;
  progress = progress_in x count;
  is = is;
  carries = refl;
  places = reverse-append (place ∷ []) x.places;
  widths = all_widths s x run;
}
