-- Choices that are gathered one by one.
use Rattle.std.proofs.Common.{◌≡◌, ℕ, zero, suc, ◌+◌, ◌<◌, ◌≤◌, Bool, true, false, cond, ◌&&◌, nat_eq, List, [], ◌∷◌, ◌++◌, map, take, length, get_or, Option, Some, None, refl, sym, ap, subst, ◌∙◌, arith, append_assoc, append-nil}
use Rattle.std.specs.List.{list_all}
use Rattle.std.specs.Prelude.{slice_get}
use Rattle.std.proofs.lemmas.List.{map_push, map_more, take_all}
use Rattle.std.proofs.lemmas.Bool.{eq-eqb}
use Rattle.sn_width.specs.declared.ids.SymId.{SymId}
use Rattle.difference_solver.specs.Choices.{lists_of, cases_of}
use Rattle.difference_solver.specs.declared.choice.Choice.{Choice}
use Rattle.path_cond.specs.Conditions.{Condition, Entry, AllTyped}
use Rattle.path_formula.specs.Bounds.{Case}
use Rattle.path_cond.specs.Summaries.{inside_picks, picks_where}
use Rattle.path_cond.specs.Coupled.{coupled_symbols, is_inside}
use Rattle.path_cond.specs.Picks.{passes, is_inside_pick, are_inside_picks}
use Rattle.path_formula.specs.Members.{Member, member_of}
use Rattle.path_formula.specs.Splits.{CanSplit}
use Rattle.path_formula.specs.View.{view}
use Rattle.path_solver.specs.Laws.{Facts}
use Rattle.path_solver.proofs.Entries.{entry_splits}
use Rattle.path_solver.specs.Origins.{cases_from, choices_from, IsMemberAt, whole, formula_origins}
use Rattle.path_solver.specs.Problems.{AreChoices, AreGiven, IsProblem}
use Rattle.path_solver.specs.Unknowns.{is_listed, choice_of}
use Rattle.refutation_check.specs.declared.steps.Refute.{Refute}
use Rattle.refutation_check.specs.declared.steps.Refute.TheVariants.{Domain, Split}
use Rattle.path_solver.specs.declared.problem.Problem.{Problem}
use Rattle.path_solver.proofs.Atoms.{or_left, or_right}
use Rattle.path_solver.proofs.Bridge.{origins_append}

and_first : (a b : Bool) → (a && b) ≡ true → a ≡ true
and_first true b h = refl
and_first false b h = cc

and_second : (a b : Bool) → (a && b) ≡ true → b ≡ true
and_second true b h = h
and_second false b h = cc

all_get : (p : ℕ → Bool) (xs : List ℕ) (i : ℕ) → list_all p xs ≡ true → i < length xs → p (get_or xs i 0) ≡ true
all_get p [] i h lt = absurd (omega arith)
all_get p (x ∷ xs) zero h lt = and_first (p x) (list_all p xs) h
all_get p (x ∷ xs) (suc i) h lt = all_get p xs i (and_second (p x) (list_all p xs) h) (omega arith)

-- the choices with one more
pub choices_push : (cond : Condition) (o : Refute) (old new : Problem) (choice : Choice) (cases : List Case)
    → cases_of choice ≡ choice_of (coupled_symbols cond) cases → cases ≡ cases_from cond o
    → new.steps.items ≡ old.steps.items ++ o ∷ [] → new.choices.items ≡ old.choices.items ++ choice ∷ []
    → AreChoices cond old → AreChoices cond new
choices_push cond o old new choice cases renamed from more_steps more_choices h =
    ap lists_of more_choices ∙ map_push cases_of old.choices.items choice ∙ ap (λ xs. xs ++ cases_of choice ∷ []) h
    ∙ ap (λ x. choices_from cond old.steps.items ++ x ∷ []) (renamed ∙ ap (choice_of (coupled_symbols cond)) from)
    ∙ sym (ap (choices_from cond) more_steps ∙ map_push (λ (p : Refute). choice_of (coupled_symbols cond) (cases_from cond p)) old.steps.items o)

-- the members with one more
pub given_push : (cond : Condition) (members : List Refute) (pick : ℕ) (way : List ℕ) (old new : Problem) → IsMemberAt cond pick way
    → new.steps.items ≡ old.steps.items ++ Split pick way ∷ [] → (AreChoices cond old → AreChoices cond new)
    → AreGiven cond members old → AreGiven cond (members ++ Split pick way ∷ []) new
given_push cond members pick way old new is more choices h =
    record {
      are = origins_append cond members (Split pick way ∷ []) h.are (is, tt);
      steps_are = more ∙ ap (λ (os : List Refute). os ++ Split pick way ∷ []) h.steps_are
          ∙ append_assoc (map Domain (coupled_symbols cond)) members (Split pick way ∷ []);
      choices_are = choices h.choices_are;
    }

pub problem_push : (cond : Condition) (pick : ℕ) (way : List ℕ) (old new : Problem) → IsMemberAt cond pick way
    → new.steps.items ≡ old.steps.items ++ Split pick way ∷ [] → (AreChoices cond old → AreChoices cond new)
    → IsProblem cond old → IsProblem cond new
problem_push cond pick way old new is more choices (members, h) = (members ++ Split pick way ∷ [], given_push cond members pick way old new is more choices h)

member_inside : (cond : Condition) (pick : ℕ) (way : List ℕ) (e : Entry) → IsMemberAt cond pick way → slice_get cond.entries pick ≡ Some e → is_inside e ≡ true
member_inside cond pick way e h at =
    let there = h.at in
    let same : e ≡ h.entry = cc in
    ap is_inside same ∙ h.inside

-- a member of an inside formula has cases
pub member_splits : Facts → (cond : Condition) (pick : ℕ) (way seen : List ℕ) (e : Entry) (m : Member) → AllTyped cond.widths cond.entries → IsMemberAt cond pick way
    → slice_get cond.entries pick ≡ Some e → member_of (view e.0) e.1 seen ≡ Some m → CanSplit m.0
member_splits facts cond pick way seen e m typed h at leads =
    facts.member_splits (view e.0) e.1 seen m leads (entry_splits facts cond pick e typed at (member_inside cond pick way e h at))

pub member_there : (cond : Condition) (pick : ℕ) (way : List ℕ) (e : Entry) (m : Member) → slice_get cond.entries pick ≡ Some e → is_inside_pick cond pick ≡ true
    → member_of (view e.0) e.1 way ≡ Some m → IsMemberAt cond pick way
member_there cond pick way e m at inside leads =
    record { entry = e; at = at; inside = ap (passes is_inside) (sym at) ∙ inside; member = m; leads = leads }

-- a formula is a member of itself
found_member : (cond : Condition) (pick : ℕ) (o : Option Entry) → slice_get cond.entries pick ≡ o → passes is_inside o ≡ true → IsMemberAt cond pick []
found_member cond pick None at h = absurd (cc)
found_member cond pick (Some e) at h = record { entry = e; at = at; inside = h; member = (view e.0, e.1); leads = refl }

pub whole_member : (cond : Condition) (pick : ℕ) → is_inside_pick cond pick ≡ true → IsMemberAt cond pick []
whole_member cond pick h = found_member cond pick (slice_get cond.entries pick) refl h

pub listed_get : (symbols : List SymId) (i : ℕ) (s : SymId) → i < length symbols → s ≡ get_or symbols i s
    → is_listed symbols s ≡ true
listed_get [] i s lt e = absurd (omega arith)
listed_get (r ∷ symbols) zero s lt e =
    or_left (nat_eq r.0 s.0) (is_listed symbols s) (eq-eqb r.0 s.0 (sym (ap (λ (q : SymId). q.0) e)))
listed_get (r ∷ symbols) (suc i) s lt e = or_right (nat_eq r.0 s.0) (is_listed symbols s) (listed_get symbols i s (omega arith) e)

-- the domain of one symbol more
pub domain_pushed : (symbols : List SymId) (i : ℕ) (d : SymId) (old new : List Refute) → i < length symbols → old ≡ map Domain (take i symbols)
    → new ≡ old ++ Domain (get_or symbols i d) ∷ [] → new ≡ map Domain (take (i + 1) symbols)
domain_pushed symbols i d old new lt is pushed =
    pushed ∙ ap (λ os. os ++ Domain (get_or symbols i d) ∷ []) is ∙ sym (map_more Domain symbols i d lt)

cases_by : (b : Bool) (pick : ℕ) (picks : List ℕ) (rest : List Refute) → map whole picks ≡ rest
    → map whole (cond b (pick ∷ picks) picks) ≡ cond b (whole pick ∷ rest) rest
cases_by true pick picks rest h = ap (λ os. whole pick ∷ os) h
cases_by false pick picks rest h = h

cases_from_pick : (pick : ℕ) (entries : List Entry) → map whole (picks_where is_inside pick entries) ≡ formula_origins pick entries
cases_from_pick pick [] = refl
cases_from_pick pick (e ∷ entries) =
    cases_by (is_inside e) pick (picks_where is_inside (suc pick) entries) (formula_origins (suc pick) entries) (cases_from_pick (suc pick) entries)

-- the members that are the formulas of all picks of inside formulas
pub whole_problem : (c : Condition) (picks : List ℕ) (i : ℕ) (p : Problem) → length picks ≤ i → picks ≡ inside_picks c
    → AreGiven c (map whole (take i picks)) p → AreGiven c (formula_origins 0 c.entries) p
whole_problem c picks i p le is h =
    subst (λ (os : List Refute). AreGiven c os p) (ap (map whole) (take_all i picks le ∙ is) ∙ cases_from_pick 0 c.entries) h

-- one inside formula more
pub next_formula : (c : Condition) (picks : List ℕ) (i : ℕ) (p : Problem) → i < length picks
    → AreGiven c (map whole (take i picks) ++ whole (get_or picks i 0) ∷ []) p → AreGiven c (map whole (take (i + 1) picks)) p
next_formula c picks i p lt h = subst (λ (os : List Refute). AreGiven c os p) (sym (map_more whole picks i 0 lt)) h

-- the domains of all coupled symbols, and nothing else
pub domains_given : (c : Condition) (symbols : List SymId) (i : ℕ) (p : Problem) → length symbols ≤ i → symbols ≡ coupled_symbols c
    → p.steps.items ≡ map Domain (take i symbols) → AreChoices c p → AreGiven c [] p
domains_given c symbols i p le is steps choices =
    record {
      are = tt;
      steps_are = steps ∙ ap (λ (ss : List SymId). map Domain ss) (take_all i symbols le ∙ is) ∙ sym (append-nil (map Domain (coupled_symbols c)));
      choices_are = choices;
    }

-- each of the picks is of an inside formula
pub inside_at : (c : Condition) (picks : List ℕ) (i : ℕ) → are_inside_picks c picks ≡ true → i < length picks → is_inside_pick c (get_or picks i 0) ≡ true
inside_at c picks i all lt = all_get (is_inside_pick c) picks i all lt
