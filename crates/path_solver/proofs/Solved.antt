-- The least integers that meet one case of each choice are the least values.
use Rattle.std.proofs.Common.{◌≡◌, ℕ, zero, suc, ◌+◌, ◌-◌, ◌<◌, ◌≤◌, ℤ, pos, negsuc, ◌+ℤ◌, Bool, true, false, List, [], ◌∷◌, ◌++◌, map, drop, length, Some, None, refl, sym, ap, subst, ◌∙◌, arith, inl, inr}
use Rattle.std.specs.Prelude.{slice_get, slice_index, neg_ℤ, ◌≤ℤ◌, All}
use Rattle.std.proofs.lemmas.Int.{ints}
use Rattle.std.proofs.lemmas.List.{length-map}
use Rattle.std.proofs.lemmas.List.Elements.{All-cons, All-head, All-nil}
use Rattle.sn_width.specs.declared.ids.SymId.{SymId}
use Rattle.sn_ranges.specs.Ranges.{Range}
use Rattle.difference_solver.specs.Bound.{number, Meets, IsInRange}
use Rattle.path_cond.specs.Conditions.{Condition, AllTyped, in_domain, first_broken, is_possible}
use Rattle.path_formula.specs.Bounds.{Case}
use Rattle.path_formula.specs.Cases.{range_case}
use Rattle.sn_ranges.specs.Sets.{ranges_where}
use Rattle.difference_solver.specs.Choices.{MeetsOne, MeetsEach, IsMet, IsUnmet, IsUpTo, HasBelow, EachHasBelow, OneHasBelow, AreBelow, AreInRange}
use Rattle.difference_solver.specs.Choices as Search
use Rattle.path_cond.specs.Coupled.{is_coupled, coupled_symbols}
use Rattle.path_cond.specs.Counts.{domain_cases}
use Rattle.refutation_check.specs.Least.{AreCandidates, AreLeast, HasNoCandidates, is_at_most}
use Rattle.path_solver.specs.Bounds.{AreBetween, EachAreBetween}
use Rattle.path_solver.specs.Origins.{cases_from, AreOrigins, formula_origins, behind_domains, origins_of, choices_from}
use Rattle.path_solver.specs.Unknowns.{is_listed, unknown_of, bound_of, case_of, choice_of}
use Rattle.path_solver.specs.Values.{value_of, with_integers, integers_of}
use Rattle.refutation_check.specs.declared.steps.Refute.{Refute}
use Rattle.refutation_check.specs.declared.steps.Refute.TheVariants.{Domain}
use Rattle.path_solver.proofs.Ascending.{AreNatural, integers_back, with_integers-length, with_integers-other, ordered, listed_is_from}
use Rattle.path_solver.proofs.Bridge.{MeetCases, all_formulas_are, behind_are, origins_are, origin_between, each_from, each_to, meet_all, coupled_range_met}
use Rattle.path_solver.proofs.Candidates.{ArePossible, candidate_possible, candidate_meets, met_is_possible, met_candidate}
use Rattle.path_solver.specs.Laws.{Facts}
use Rattle.path_solver.proofs.Numbering.{unknown_high}
use Rattle.path_solver.proofs.Places.{unknown_at, place_of}

range_choice_met : (cond : Condition) (v : List ℤ) (symbols : List SymId) (rest : List Refute) (i : ℕ) (s : SymId)
    → MeetsEach v (choices_from cond (map Domain symbols ++ rest)) → slice_get symbols i ≡ Some s
    → MeetsOne v (choice_of (coupled_symbols cond) (domain_cases cond s))
range_choice_met cond v [] rest i s h e = absurd (cc)
range_choice_met cond v (r ∷ symbols) rest zero s h e =
    let same : r ≡ s = cc in subst (λ (q : SymId). MeetsOne v (choice_of (coupled_symbols cond) (domain_cases cond q)))
    same h.0
range_choice_met cond v (r ∷ symbols) rest (suc i) s h e = range_choice_met cond v symbols rest i s h.1 e

not_negative : (z n : ℤ) (r : ℕ) → n ≡ pos 0 → n ≤ℤ (z +ℤ neg_ℤ (pos r)) → pos 0 ≤ℤ z
not_negative z n r first h = omega (arith, ints)

natural_met : (v : List ℤ) (symbols : List SymId) (s : SymId) (ranges : List Range) → number v 0 ≡ pos 0
    → MeetsOne v (choice_of symbols (map (range_case s) ranges)) → pos 0 ≤ℤ number v (unknown_of symbols (Some s))
natural_met v symbols s [] first h = absurd h
natural_met v symbols s (r ∷ ranges) first h =
    elim h [
      | inl met ↦ not_negative (number v (unknown_of symbols (Some s))) (number v 0) r.0 first
          (All-head (Meets v) (record { plus = 0; minus = unknown_of symbols (Some s); at_most = neg_ℤ (pos r.0) })
          (record { plus = unknown_of symbols (Some s); minus = 0; at_most = pos r.1 } ∷ []) met)
      | inr later ↦ natural_met v symbols s ranges first later
    ]

as_value : (z : ℤ) → pos 0 ≤ℤ z → z ≡ pos (value_of z)
as_value (pos n) h = refl
as_value (negsuc n) h = absurd (omega (arith, ints))

natural_all : (vs : List ℤ) → ((i : ℕ) (z : ℤ) → slice_get vs i ≡ Some z → pos 0 ≤ℤ z) → AreNatural vs
natural_all [] h = tt
natural_all (z ∷ vs) h = (as_value z (h 0 z refl), natural_all vs (λ i y e. h (suc i) y e))

pub number_there : (vs : List ℤ) (i : ℕ) (z : ℤ) → slice_get vs i ≡ Some z → number vs i ≡ z
number_there [] i z e = absurd (cc)
number_there (y ∷ vs) zero z e = cc
number_there (y ∷ vs) (suc i) z e = number_there vs i z e

place_within : {X : Type 0} (xs : List X) (i : ℕ) (x : X) → slice_get xs i ≡ Some x → i < length xs
place_within [] i x e = absurd (cc)
place_within (y ∷ xs) zero x e = omega arith
place_within (y ∷ xs) (suc i) x e = omega (arith, place_within xs i x e)

pub natural_at : (cond : Condition) (members : List Refute) (z0 : ℤ) (vs : List ℤ) (i : ℕ) (z : ℤ) → length vs ≡ length (coupled_symbols cond)
    → z0 ≡ pos 0 → MeetsEach (z0 ∷ vs) (choices_from cond (behind_domains cond members)) → slice_get vs i ≡ Some z → pos 0 ≤ℤ z
natural_at cond members z0 vs i z same first met is =
    let (s, at) = place_of (coupled_symbols cond) i (omega (arith, same, place_within vs i z is)) in
    let choice = range_choice_met cond (z0 ∷ vs) (coupled_symbols cond) members i s met at in
    let up =
    natural_met (z0 ∷ vs) (coupled_symbols cond) s (ranges_where (slice_index cond.widths s.0) (in_domain s cond))
    first choice in
    let unknown : unknown_of (coupled_symbols cond) (Some s) ≡ 1 + i = unknown_at (is_coupled cond) (length cond.widths) i s at in
    let next : 1 + i ≡ suc i = omega arith in
    subst (λ (y : ℤ). pos 0 ≤ℤ y) (ap (number (z0 ∷ vs)) (unknown ∙ next) ∙ number_there vs i z is) up

-- the integers are the values of the coupled symbols
pub are_values : (cond : Condition) (members : List Refute) (leasts : List ℕ) (v : List ℤ) → length leasts ≡ length cond.widths
    → IsMet (length (coupled_symbols cond)) (choices_from cond (behind_domains cond members)) v
    → v ≡ pos 0 ∷ integers_of (with_integers leasts (coupled_symbols cond) (drop 1 v)) (coupled_symbols cond)
are_values cond members leasts [] one_each h = let l = h.one_each in absurd (omega arith)
are_values cond members leasts (z0 ∷ vs) one_each h =
    let l = h.one_each in
    let same : length vs ≡ length (coupled_symbols cond) = omega arith in
    let natural = natural_all vs (λ i z e. natural_at cond members z0 vs i z same h.first h.met e) in
    ap (λ (z : ℤ). z ∷ vs) h.first
    ∙ ap (λ (zs : List ℤ). pos 0 ∷ zs)
    (sym (integers_back (is_coupled cond) 0 (length cond.widths) leasts vs (omega arith) natural same))

-- the least possible value of each symbol
pub record AreLeasts (cond : Condition) (leasts : List ℕ) : Type 0 where
  pub one_each : length leasts ≡ length cond.widths
  pub possible : ArePossible cond leasts
  pub least : (s : SymId) (value : ℕ) → s.0 < length cond.widths → is_possible cond s value ≡ true → slice_index leasts s.0 ≤ value

possible_by : Facts → (cond : Condition) (leasts : List ℕ) (zs : List ℤ) (s : SymId) (b : Bool)
    → is_listed (coupled_symbols cond) s ≡ b → s.0 < length cond.widths → AreLeasts cond leasts
    → MeetCases cond (with_integers leasts (coupled_symbols cond) zs) (origins_of cond)
    → is_possible cond s (slice_index (with_integers leasts (coupled_symbols cond) zs) s.0) ≡ true
possible_by facts cond leasts zs s true is known h met =
    met_is_possible facts cond (with_integers leasts (coupled_symbols cond) zs) s
    (coupled_range_met cond (with_integers leasts (coupled_symbols cond) zs) s met is)
possible_by facts cond leasts zs s false is known h met =
    subst (λ (n : ℕ). is_possible cond s n ≡ true) (sym (with_integers-other leasts (coupled_symbols cond) zs s.0 is))
    (h.possible s known)

uncoupled : (cond : Condition) (s : SymId) (b : Bool) → is_listed (coupled_symbols cond) s ≡ b
    → is_coupled cond s ≡ false → b ≡ false
uncoupled cond s true h not = let yes = (listed_is_from (is_coupled cond) 0 (length cond.widths) s h).passes in absurd (cc)
uncoupled cond s false h not = refl

pub candidate_is_met : Facts → (cond : Condition) (origins : List Refute) (x : List ℕ) → AllTyped cond.widths cond.entries
    → AreOrigins cond origins → AreCandidates cond x
    → IsMet (length (coupled_symbols cond)) (choices_from cond origins) (pos 0 ∷ integers_of x (coupled_symbols cond))
candidate_is_met facts cond origins x typed are h =
    record {
      one_each = omega (arith, length-map (coupled_symbols cond) (λ (s : SymId). pos (slice_index x s.0)));
      first = refl;
      met =
          each_from facts cond x origins typed are
          (meet_all cond x origins are (λ o is. candidate_meets facts cond x o typed h is));
    }

up_to_rest : (vs ws : List ℤ) → IsUpTo (pos 0 ∷ vs) (pos 0 ∷ ws) → IsUpTo vs ws
up_to_rest vs ws h = elim h [ inl lt ↦ absurd (omega (arith, ints, lt)) | inr e ↦ e.1 ]

uncoupled_listed : (cond : Condition) (s : SymId) → is_coupled cond s ≡ false → is_listed (coupled_symbols cond) s ≡ false
uncoupled_listed cond s not = uncoupled cond s (is_listed (coupled_symbols cond) s) refl not

-- the first integers that meet one case of each of these choices give values that are first of all that satisfy every formula that is
-- not outside
pub first_of_candidates : Facts → (cond : Condition) (members : List Refute) (leasts : List ℕ) (v : List ℤ) → AllTyped cond.widths cond.entries
    → AreOrigins cond members → AreLeasts cond leasts
    → Search.IsLeast (length (coupled_symbols cond)) (choices_from cond (behind_domains cond members)) v
    → (x : List ℕ) → AreCandidates cond x → is_at_most (with_integers leasts (coupled_symbols cond) (drop 1 v)) x ≡ true
first_of_candidates facts cond members leasts v typed are h is =
    let w : List ℕ = with_integers leasts (coupled_symbols cond) (drop 1 v) in
    let same : v ≡ pos 0 ∷ integers_of w (coupled_symbols cond) = are_values cond members leasts v h.one_each is.met in
    let one_each : length w ≡ length cond.widths = with_integers-length leasts (coupled_symbols cond) (drop 1 v) ∙ h.one_each in
    λ x candidate.
    ordered (is_coupled cond) (length cond.widths) w x one_each candidate.fitting.one_each
    (up_to_rest (integers_of w (coupled_symbols cond)) (integers_of x (coupled_symbols cond))
    (subst (λ (zs : List ℤ). IsUpTo zs (pos 0 ∷ integers_of x (coupled_symbols cond))) same
    (is.least (pos 0 ∷ integers_of x (coupled_symbols cond))
    (candidate_is_met facts cond (behind_domains cond members) x typed (behind_are cond members are) candidate))))
    (λ s known not.
    subst (λ (n : ℕ). n ≤ slice_index x s.0)
    (sym (with_integers-other leasts (coupled_symbols cond) (drop 1 v) s.0 (uncoupled_listed cond s not)))
    (h.least s (slice_index x s.0) known
    (candidate_possible facts cond x s candidate known)))

-- they are the least, if they satisfy every formula that is not outside
pub least_if_candidates : Facts → (cond : Condition) (members : List Refute) (leasts : List ℕ) (v : List ℤ) → AllTyped cond.widths cond.entries
    → AreOrigins cond members → AreLeasts cond leasts
    → Search.IsLeast (length (coupled_symbols cond)) (choices_from cond (behind_domains cond members)) v
    → AreCandidates cond (with_integers leasts (coupled_symbols cond) (drop 1 v)) → AreLeast cond (with_integers leasts (coupled_symbols cond) (drop 1 v))
least_if_candidates facts cond members leasts v typed are h is candidates =
    record { candidates = candidates; first = first_of_candidates facts cond members leasts v typed are h is }

-- the first integers that meet one case of each choice give the first values that satisfy every formula that is not outside
pub solved_least : Facts → (cond : Condition) (leasts : List ℕ) (v : List ℤ) → AllTyped cond.widths cond.entries
    → first_broken cond ≡ None → AreLeasts cond leasts
    → Search.IsLeast (length (coupled_symbols cond)) (choices_from cond (origins_of cond)) v
    → AreLeast cond (with_integers leasts (coupled_symbols cond) (drop 1 v))
solved_least facts cond leasts v typed none h is =
    let members : List Refute = formula_origins 0 cond.entries in
    let w : List ℕ = with_integers leasts (coupled_symbols cond) (drop 1 v) in
    let same : v ≡ pos 0 ∷ integers_of w (coupled_symbols cond) = are_values cond members leasts v h.one_each is.met in
    let met : MeetCases cond w (origins_of cond) =
    each_to facts cond w (origins_of cond) typed (origins_are cond)
    (subst (λ (zs : List ℤ). MeetsEach zs (choices_from cond (origins_of cond))) same is.met.met) in
    let one_each : length w ≡ length cond.widths = with_integers-length leasts (coupled_symbols cond) (drop 1 v) ∙ h.one_each in
    least_if_candidates facts cond members leasts v typed (all_formulas_are cond) h is
    (met_candidate facts cond w typed none one_each
    (λ s known. possible_by facts cond leasts (drop 1 v) s (is_listed (coupled_symbols cond) s) refl known h met)
    met)

pub unmet_none : Facts → (cond : Condition) (origins : List Refute) → AllTyped cond.widths cond.entries → AreOrigins cond origins
    → IsUnmet (length (coupled_symbols cond)) (choices_from cond origins) → HasNoCandidates cond
unmet_none facts cond origins typed are h =
    λ x candidate. h (pos 0 ∷ integers_of x (coupled_symbols cond)) (candidate_is_met facts cond origins x typed are candidate)

case_in_range : (symbols : List SymId) (case : Case) → AreBetween (is_listed symbols) case
    → All (IsInRange (length symbols)) (case_of symbols case)
case_in_range symbols [] h = All-nil (IsInRange (length symbols))
case_in_range symbols (b ∷ case) h =
    All-cons (IsInRange (length symbols)) (bound_of symbols b) (case_of symbols case)
    (record {
      plus = unknown_high symbols b.plus;
      minus = unknown_high symbols b.minus;
      at_least = h.0.at_least;
      at_most = h.0.at_most;
    })
    (case_in_range symbols case h.1)

choice_in_range : (symbols : List SymId) (cases : List Case) → EachAreBetween (is_listed symbols) cases
    → All (All (IsInRange (length symbols))) (choice_of symbols cases)
choice_in_range symbols [] h = All-nil (All (IsInRange (length symbols)))
choice_in_range symbols (case ∷ cases) h =
    All-cons (All (IsInRange (length symbols))) (case_of symbols case) (choice_of symbols cases)
    (case_in_range symbols case h.0) (choice_in_range symbols cases h.1)

pub choices_in_range : Facts → (cond : Condition) (origins : List Refute) → AllTyped cond.widths cond.entries
    → AreOrigins cond origins → AreInRange (length (coupled_symbols cond)) (choices_from cond origins)
choices_in_range facts cond [] typed are = All-nil (All (All (IsInRange (length (coupled_symbols cond)))))
choices_in_range facts cond (o ∷ origins) typed are =
    All-cons (All (All (IsInRange (length (coupled_symbols cond)))))
    (choice_of (coupled_symbols cond) (cases_from cond o)) (choices_from cond origins)
    (choice_in_range (coupled_symbols cond) (cases_from cond o) (origin_between facts cond o typed are.0))
    (choices_in_range facts cond origins typed are.1)

each_below : (symbols : List SymId) (s : SymId) (u : ℕ) (ranges : List Range) → unknown_of symbols (Some s) ≡ u
    → EachHasBelow u (choice_of symbols (map (range_case s) ranges))
each_below symbols s u [] e = tt
each_below symbols s u (r ∷ ranges) e = (
  (
    record { plus = 0; minus = unknown_of symbols (Some s); at_most = neg_ℤ (pos r.0) },
    (0, omega arith, refl),
    refl,
    e,
  ),
  each_below symbols s u ranges e,
)

one_below : (cond : Condition) (symbols : List SymId) (rest : List Refute) (i : ℕ) (s : SymId) (u : ℕ)
    → slice_get symbols i ≡ Some s → unknown_of (coupled_symbols cond) (Some s) ≡ u
    → OneHasBelow u (choices_from cond (map Domain symbols ++ rest))
one_below cond [] rest i s u e is = absurd (cc)
one_below cond (r ∷ symbols) rest zero s u e is =
    let same : r ≡ s = cc in
    inl (each_below (coupled_symbols cond) r u (ranges_where (slice_index cond.widths r.0) (in_domain r cond))
    (ap (λ (q : SymId). unknown_of (coupled_symbols cond) (Some q)) same ∙ is))
one_below cond (r ∷ symbols) rest (suc i) s u e is = inr (one_below cond symbols rest i s u e is)

below_at : (cond : Condition) (members : List Refute) (i : ℕ) → i < length (coupled_symbols cond)
    → OneHasBelow (1 + i) (choices_from cond (behind_domains cond members))
below_at cond members i within =
    let (s, at) = place_of (coupled_symbols cond) i within in
    one_below cond (coupled_symbols cond) members i s (1 + i) at
    (unknown_at (is_coupled cond) (length cond.widths) i s at)

pub are_below : (cond : Condition) (members : List Refute) → AreBelow (length (coupled_symbols cond)) (choices_from cond (behind_domains cond members))
are_below cond members = λ u above within.
    let e : 1 + (u - 1) ≡ u = omega arith in
    subst (λ (n : ℕ). OneHasBelow n (choices_from cond (behind_domains cond members))) e (below_at cond members (u - 1) (omega arith))
