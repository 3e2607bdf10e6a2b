-- Values of a condition, and integers of its coupled symbols.
use Rattle.std.proofs.Common.{◌≡◌, ℕ, zero, suc, ◌+◌, ◌≤◌, pos, Bool, true, false, cond, ◌||◌, nat_eq, List, [], ◌∷◌, ◌++◌, map, Option, Some, refl, sym, ap, subst, ◌∙◌, arith, inl, inr}
use Rattle.std.specs.Prelude.{slice_get, slice_index}
use Rattle.std.proofs.lemmas.Bool.{eqb-true, eq-eqb}
use Rattle.sn_width.specs.declared.ids.SymId.{SymId}
use Rattle.path_formula.specs.View.{view}
use Rattle.path_cond.specs.Conditions.{Condition, Entry, AllTyped, in_domain}
use Rattle.path_formula.specs.Bounds.{Case, is_one_met}
use Rattle.path_formula.specs.Cases.{cases_of}
use Rattle.difference_solver.specs.Choices.{MeetsEach}
use Rattle.path_cond.specs.Coupled.{is_inside, coupled_symbols}
use Rattle.path_cond.specs.Counts.{domain_cases}
use Rattle.path_solver.specs.Bounds.{EachAreBetween}
use Rattle.path_solver.specs.Origins.{member_cases, entry_cases, cases_from, IsMemberAt, IsOrigin, AreOrigins, whole, formula_origins, behind_domains, origins_of, choices_from}
use Rattle.path_solver.specs.Unknowns.{is_listed}
use Rattle.path_solver.specs.Values.{integers_of}
use Rattle.refutation_check.specs.declared.steps.Refute.{Refute}
use Rattle.refutation_check.specs.declared.steps.Refute.TheVariants.{Empty, Domain, Split, Cycle}
use Rattle.path_solver.proofs.Atoms.{cases_between, member_among, or_cases, or_right}
use Rattle.path_solver.specs.Laws.{Facts}
use Rattle.path_solver.proofs.Entries.{entry_splits, occurs_listed, listed_narrow, index_at}
use Rattle.path_solver.proofs.Goodness.{single_between}
use Rattle.path_solver.proofs.Numbering.{one_to, one_from}

pub origins_append : (cond : Condition) (xs ys : List Refute) → AreOrigins cond xs → AreOrigins cond ys → AreOrigins cond (xs ++ ys)
origins_append cond [] ys h g = g
origins_append cond (o ∷ xs) ys h g = (h.0, origins_append cond xs ys h.1 g)

symbols_are : (cond : Condition) (symbols : List SymId)
    → ((s : SymId) → is_listed symbols s ≡ true → is_listed (coupled_symbols cond) s ≡ true)
    → AreOrigins cond (map Domain symbols)
symbols_are cond [] h = tt
symbols_are cond (s ∷ symbols) h = (
  h s (ap (λ (b : Bool). b || is_listed symbols s) (eq-eqb s.0 s.0 refl)),
  symbols_are cond symbols (λ t g. h t (or_right (nat_eq s.0 t.0) (is_listed symbols t) g)),
)

formula_by : (c : Condition) (pick : ℕ) (e : Entry) (rest : List Refute) (b : Bool) → slice_get c.entries pick ≡ Some e
    → is_inside e ≡ b → AreOrigins c rest → AreOrigins c (cond b (whole pick ∷ rest) rest)
formula_by c pick e rest true is inside h = (record { entry = e; at = is; inside = inside; member = (view e.0, e.1); leads = refl }, h)
formula_by c pick e rest false is inside h = h

formulas_are : (cond : Condition) (pick : ℕ) (entries : List Entry)
    → ((i : ℕ) → slice_get cond.entries (pick + i) ≡ slice_get entries i)
    → AreOrigins cond (formula_origins pick entries)
formulas_are cond pick [] h = tt
formulas_are cond pick (e ∷ entries) h =
    formula_by cond pick e (formula_origins (suc pick) entries) (is_inside e)
    (ap (slice_get cond.entries) (same pick) ∙ h 0) refl
    (formulas_are cond (suc pick) entries (λ i. ap (slice_get cond.entries) (next pick i) ∙ h (suc i)))
  where
    same : (p : ℕ) → p ≡ p + 0
    same p = omega arith

    next : (p i : ℕ) → suc p + i ≡ p + suc i
    next p i = omega arith

pub all_formulas_are : (cond : Condition) → AreOrigins cond (formula_origins 0 cond.entries)
all_formulas_are cond = formulas_are cond 0 cond.entries (λ i. ap (slice_get cond.entries) (none i))
  where
    none : (i : ℕ) → 0 + i ≡ i
    none i = omega arith

-- the domains of the coupled symbols, and such choices
pub behind_are : (cond : Condition) (members : List Refute) → AreOrigins cond members → AreOrigins cond (behind_domains cond members)
behind_are cond members h =
    origins_append cond (map Domain (coupled_symbols cond)) members (symbols_are cond (coupled_symbols cond) (λ s h. h)) h

pub origins_are : (cond : Condition) → AreOrigins cond (origins_of cond)
origins_are cond = behind_are cond (formula_origins 0 cond.entries) (all_formulas_are cond)

-- the cases of a member are those that its step leaves
pub cases_there : (cond : Condition) (pick : ℕ) (way : List ℕ) (h : IsMemberAt cond pick way) → cases_from cond (Split pick way) ≡ cases_of h.member.0 h.member.1
cases_there cond pick way h = ap (λ (o : Option Entry). entry_cases o way) h.at ∙ ap member_cases h.leads

-- the cases of a choice are between coupled symbols
pub origin_between : Facts → (cond : Condition) (o : Refute) → AllTyped cond.widths cond.entries → IsOrigin cond o
    → EachAreBetween (is_listed (coupled_symbols cond)) (cases_from cond o)
origin_between facts cond (Empty s picks) typed h = absurd h
origin_between facts cond (Domain s) typed h =
    let narrow = listed_narrow facts cond s typed h in
    let width : slice_index cond.widths s.0 ≤ 64 =
    omega (arith, index_at cond.widths s.0 narrow.width narrow.at, narrow.narrow) in
    single_between (is_listed (coupled_symbols cond)) s (slice_index cond.widths s.0) (in_domain s cond) width h
origin_between facts cond (Split pick way) typed h =
    subst (λ (cs : List Case). EachAreBetween (is_listed (coupled_symbols cond)) cs) (sym (cases_there cond pick way h))
    (cases_between (is_listed (coupled_symbols cond)) h.member.0 h.member.1
    (facts.member_splits (view h.entry.0) h.entry.1 way h.member h.leads (entry_splits facts cond pick h.entry typed h.at h.inside))
    (member_among (is_listed (coupled_symbols cond)) (view h.entry.0) h.entry.1 way h.member h.leads
    (λ s occurs. occurs_listed facts cond pick h.entry s typed h.at h.inside occurs)))
origin_between facts cond (Cycle bounds) typed h = absurd h

-- the values meet one of the cases of each choice
abbrev pub MeetCases : Condition → List ℕ → List Refute → Type 0
MeetCases cond x [] = Unit {0}
MeetCases cond x (o ∷ origins) = (is_one_met x (cases_from cond o) ≡ true) × MeetCases cond x origins

pub each_from : Facts → (cond : Condition) (x : List ℕ) (origins : List Refute) → AllTyped cond.widths cond.entries
    → AreOrigins cond origins → MeetCases cond x origins
    → MeetsEach (pos 0 ∷ integers_of x (coupled_symbols cond)) (choices_from cond origins)
each_from facts cond x [] typed are h = tt
each_from facts cond x (o ∷ origins) typed are h = (
  one_from x (coupled_symbols cond) (cases_from cond o) (origin_between facts cond o typed are.0) h.0,
  each_from facts cond x origins typed are.1 h.1,
)

pub each_to : Facts → (cond : Condition) (x : List ℕ) (origins : List Refute) → AllTyped cond.widths cond.entries
    → AreOrigins cond origins → MeetsEach (pos 0 ∷ integers_of x (coupled_symbols cond)) (choices_from cond origins)
    → MeetCases cond x origins
each_to facts cond x [] typed are h = tt
each_to facts cond x (o ∷ origins) typed are h = (
  one_to x (coupled_symbols cond) (cases_from cond o) (origin_between facts cond o typed are.0) h.0,
  each_to facts cond x origins typed are.1 h.1,
)

-- Look-ups in what is met

meet_right : (cond : Condition) (x : List ℕ) (os ps : List Refute) → MeetCases cond x (os ++ ps) → MeetCases cond x ps
meet_right cond x [] ps h = h
meet_right cond x (o ∷ os) ps h = meet_right cond x os ps h.1

range_met : (cond : Condition) (x : List ℕ) (symbols : List SymId) (rest : List Refute) (s : SymId)
    → MeetCases cond x (map Domain symbols ++ rest) → is_listed symbols s ≡ true
    → is_one_met x (domain_cases cond s) ≡ true
range_met cond x [] rest s h listed = absurd (cc)
range_met cond x (r ∷ symbols) rest s h listed =
    elim (or_cases (nat_eq r.0 s.0) (is_listed symbols s) listed) [
      | inl here ↦ let same : r.0 ≡ s.0 = eqb-true r.0 s.0 here in
          subst (λ (n : ℕ). is_one_met x (domain_cases cond (record { 0 = n })) ≡ true) same h.0
      | inr later ↦ range_met cond x symbols rest s h.1 later
    ]

chosen_met : (c : Condition) (x : List ℕ) (pick : ℕ) (rest : List Refute) (b : Bool)
    → MeetCases c x (cond b (whole pick ∷ rest) rest) → MeetCases c x rest
chosen_met c x pick rest true h = h.1
chosen_met c x pick rest false h = h

here_met : (c : Condition) (x : List ℕ) (pick : ℕ) (rest : List Refute) (b : Bool) → b ≡ true
    → MeetCases c x (cond b (whole pick ∷ rest) rest) → is_one_met x (cases_from c (whole pick)) ≡ true
here_met c x pick rest true e h = h.0
here_met c x pick rest false e h = absurd (cc)

formula_met : (cond : Condition) (x : List ℕ) (pick : ℕ) (entries : List Entry) (i : ℕ) (e : Entry)
    → MeetCases cond x (formula_origins pick entries) → slice_get entries i ≡ Some e → is_inside e ≡ true
    → is_one_met x (cases_from cond (whole (pick + i))) ≡ true
formula_met cond x pick [] i e h is inside = absurd (cc)
formula_met cond x pick (d ∷ entries) zero e h is inside =
    let same : d ≡ e = cc in
    let here = here_met cond x pick (formula_origins (suc pick) entries) (is_inside d) (ap is_inside same ∙ inside) h in
    let p : pick ≡ pick + 0 = omega arith in
    subst (λ (n : ℕ). is_one_met x (cases_from cond (whole n)) ≡ true) p here
formula_met cond x pick (d ∷ entries) (suc i) e h is inside =
    let p : suc pick + i ≡ pick + suc i = omega arith in
    subst (λ (n : ℕ). is_one_met x (cases_from cond (whole n)) ≡ true) p
    (formula_met cond x (suc pick) entries i e
    (chosen_met cond x pick (formula_origins (suc pick) entries) (is_inside d) h) is inside)

-- the values meet one of the ranges of each coupled symbol's domain
pub coupled_range_met : (cond : Condition) (x : List ℕ) (s : SymId) → MeetCases cond x (origins_of cond)
    → is_listed (coupled_symbols cond) s ≡ true → is_one_met x (domain_cases cond s) ≡ true
coupled_range_met cond x s h listed = range_met cond x (coupled_symbols cond) (formula_origins 0 cond.entries) s h listed

-- the values meet one of the cases of each inside formula
pub inside_case_met : (cond : Condition) (x : List ℕ) (pick : ℕ) (e : Entry) → MeetCases cond x (origins_of cond)
    → slice_get cond.entries pick ≡ Some e → is_inside e ≡ true → is_one_met x (cases_of (view e.0) e.1) ≡ true
inside_case_met cond x pick e h is inside =
    let met =
    formula_met cond x 0 cond.entries pick e
    (meet_right cond x (map Domain (coupled_symbols cond)) (formula_origins 0 cond.entries) h) is inside in
    let p : 0 + pick ≡ pick = omega arith in
    subst (λ (o : Option Entry). is_one_met x (entry_cases o []) ≡ true) (ap (slice_get cond.entries) p ∙ is) met

pub meet_all : (cond : Condition) (x : List ℕ) (origins : List Refute) → AreOrigins cond origins
    → ((o : Refute) → IsOrigin cond o → is_one_met x (cases_from cond o) ≡ true) → MeetCases cond x origins
meet_all cond x [] are h = tt
meet_all cond x (o ∷ origins) are h = (h o are.0, meet_all cond x origins are.1 h)
