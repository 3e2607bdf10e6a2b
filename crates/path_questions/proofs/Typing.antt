-- The formulas of a question are over the symbols of the path.
use Rattle.std.proofs.Common.{◌≡◌, ℕ, zero, suc, ◌+◌, inl, inr, Bool, true, false, List, [], ◌∷◌, ◌++◌, length, length-append, refl, sym, ap, subst, ◌∙◌, append_assoc, arith, Option, Some, None, option_map, Result, Ok, Err, IfOk, if◌then◌else◌}
use Rattle.std.proofs.lemmas.List.{append-nil}
use Rattle.std.specs.List.{AllByRecursion}
use Rattle.sn_width.specs.declared.faults.LayoutFault.{LayoutFault}
use Rattle.sn_width.specs.declared.rel.Rel.{Rel}
use Rattle.sn_width.specs.declared.rel.Rel.TheVariants.{Ne}
use Rattle.lin_term.specs.Terms.{LinearTerm}
use Rattle.sn_ranges.specs.Ranges.{is_member}
use Rattle.sn_ranges.specs.Sets.{set_of}
use Rattle.path_formula.specs.Formulas as formulas
use Rattle.path_formula.specs.Formulas.{FormulaTree}
use Rattle.path_formula.specs.Typed.{IsTyped, AreTyped, TermIsTyped}
use Rattle.path_formula.specs.View.{formulas_of}
use Rattle.sefl_syntax.specs.declared.job.RawField.{RawField}
use Rattle.sefl_syntax.specs.declared.reference.Target.{Target}
use Rattle.sefl_syntax.specs.Trees.{ExprTree, reading, CondTree, always, compare, member, all_of, any_of, negation, CondTrees, no_conds, cond_and}
use Rattle.cell_stacks.specs.Outcome.{and_then, on_ok}
use Rattle.job_items.specs.Atoms.{comparison, membership}
use Rattle.job_items.specs.AtomRules.{atom_width, width_of}
use Rattle.net_check.specs.Network.{width_unless}
use Rattle.sefl_meaning.specs.declared.walk.Decision.{Decision}
use Rattle.sefl_meaning.specs.declared.walk.End.{End}
use Rattle.sefl_meaning.specs.declared.walk.End.TheVariants.{Stopped, Delivered, Failed, Cut}
use Rattle.sefl_meaning.specs.declared.walk.Place.{Place}
use Rattle.sefl_meaning.specs.Network.{Network, Entry}
use Rattle.sefl_meaning.specs.Carried.{Carried, Scene, read_at, scene_at}
use Rattle.sefl_meaning.specs.Courses.{Progress}
use Rattle.sefl_meaning.specs.Injected.{field_value, injected, unknown_count, unknown_width, unknown_widths}
use Rattle.sefl_meaning.specs.Routes.{Route, route, copy_route, waiting, arriving, taking, truth_of, number_of, by_truth, by_number}
use Rattle.sefl_meaning.specs.Runs.{starting}
use Rattle.sefl_meaning.specs.Start.{progress_of, start_from, tests_in, tree_from, widths_on}
use Rattle.sefl_meaning.specs.Terms.{truth_in, truths_in, value_in}
use Rattle.sefl_meaning.specs.Trees.{Tree, over, arrives, tests, splits, Copies, no_copies, copy_and}
use Rattle.sefl_meaning.specs.Valued.{CarriedFits, EachTyped, Fits, ProgressTyped, TreeTyped}
use Rattle.term_values.specs.Fits.{term_fits, typed_fits}
use Rattle.term_values.specs.TermValues.{terms}
use Rattle.exact_records.specs.Packets.{IsExplored}
use Rattle.exact_records.specs.Records.{Leads, SymRoute, SymStart}
use Rattle.path_questions.specs.Below.{Typing}
use Rattle.path_questions.specs.Formulas.{asked_left, asked_on, formula_at, held_or}
use Rattle.path_questions.specs.Placing.{IsFieldFrom}
use Rattle.path_questions.specs.Questions.{Field, Question, reach, invariant, visible, asked, ends_at, if_delivered, same_place, states_at}
use Rattle.path_questions.specs.Sentences.{injected_value}
use Rattle.path_questions.specs.Laws.{IsOfInjection}
use Rattle.path_questions.proofs.Growing.{Grows, RouteGrows, FoundGrows, TreeGrows, enter_grows, route_grows}
use Rattle.path_questions.proofs.Lists.{all_weaker, all_both}

-- ---- answers

abbrev or_else : {A : Type 0} → A → Result A LayoutFault → A
or_else default (Ok x) = x
or_else default (Err fault) = default

no_error : {A C : Type 0} (fault : LayoutFault) (x : A) → Err fault ≡ Ok x → C
no_error fault x is = absurd (clash (Err fault) is refl)
  where
    clash : (r : Result _ LayoutFault) → r ≡ Ok x → r ≡ Err fault → ⊥
    clash r h k = cc

then_keeps : {A B : Type 0} (P : A → Type 0) (Q : B → Type 0) (r : Result A LayoutFault) (next : A → Result B LayoutFault)
    → IfOk r P → ((x : A) → P x → IfOk (next x) Q) → IfOk (and_then r next) Q
then_keeps P Q (Ok x) next h k = k x h
then_keeps P Q (Err e) next h k = tt

on_ok_keeps : {A B : Type 0} (P : A → Type 0) (Q : B → Type 0) (f : A → B) (r : Result A LayoutFault)
    → IfOk r P → ((x : A) → P x → Q (f x)) → IfOk (on_ok f r) Q
on_ok_keeps P Q f (Ok x) h k = k x h
on_ok_keeps P Q f (Err e) h k = tt

held_keeps : (P : FormulaTree → Type 0) (faulty : FormulaTree) (r : Result FormulaTree LayoutFault) → P faulty → IfOk r P → P (held_or faulty r)
held_keeps P faulty (Ok f) h k = k
held_keeps P faulty (Err fault) h k = h

-- ---- what a start comes of

module _ (net : Network) (i : Entry) (hops : ℕ) (start : SymStart) where
  record Begun : Type 0 where
    pub carried : Carried LinearTerm
    pub carries : injected (terms (unknown_count i)) (scene_at net i.node) i.own ≡ Ok carried
    pub unknowns : start.unknowns ≡ unknown_widths i.own.fields
    pub tree : start.tree ≡ tree_from (terms (unknown_count i)) net i hops carried

  abbrev started : Carried LinearTerm → List FormulaTree → SymStart
  started c fs = record { unknowns = unknown_widths i.own.fields; tests = fs; tree = tree_from (terms (unknown_count i)) net i hops c; most_choices = i.most_choices }

  begun_with : (c : Carried LinearTerm) → injected (terms (unknown_count i)) (scene_at net i.node) i.own ≡ Ok c
      → (fs : Result (List FormulaTree) LayoutFault) → on_ok (started c) fs ≡ Ok start → Begun
  begun_with c e (Err fault) k = no_error fault start k
  begun_with c e (Ok fs) k = record {
    carried = c;
    carries = e;
    unknowns = ap (λ (r : Result SymStart LayoutFault). (or_else start r).unknowns) (sym k);
    tree = ap (λ (r : Result SymStart LayoutFault). (or_else start r).tree) (sym k);
  }

  begun_by : (r : Result (Carried LinearTerm) LayoutFault) → injected (terms (unknown_count i)) (scene_at net i.node) i.own ≡ r
      → and_then r (start_from (terms (unknown_count i)) net i hops) ≡ Ok start → Begun
  begun_by (Err fault) e k = no_error fault start k
  begun_by (Ok c) e k = begun_with c e (tests_in (terms (unknown_count i)) (scene_at net i.node) i.own.tests c) k

  begun : IsExplored net i hops start → Begun
  begun is = begun_by (injected (terms (unknown_count i)) (scene_at net i.node) i.own) refl is

-- ---- routes

module _ {V F : Type 0} (fits : List ℕ → ℕ → V → Bool) (unknowns : List ℕ) where
  record RouteTyped (r : Route V F) : Type 0 where
    pub whole : ProgressTyped fits unknowns (progress_of r.left)
    pub arrivals : AllByRecursion (λ (a : Place × Progress V). ProgressTyped fits unknowns a.1) r.arrivals

  abbrev FoundTyped : Option (Route V F) → Type 0
  FoundTyped None = Unit {0}
  FoundTyped (Some r) = RouteTyped r

  arriving_typed : (place : Place) (p : Progress V) (r : Option (Route V F)) → ProgressTyped fits unknowns p → FoundTyped r → FoundTyped (option_map (arriving place p) r)
  arriving_typed place p None h k = tt
  arriving_typed place p (Some r) h k = record { whole = k.whole; arrivals = (h, k.arrivals) }

  taking_typed : (test : F) (truth : Bool) (r : Option (Route V F)) → FoundTyped r → FoundTyped (option_map (taking test truth) r)
  taking_typed test truth None k = tt
  taking_typed test truth (Some r) k = record { whole = k.whole; arrivals = k.arrivals }

  truth_typed_route : (answer : Option Bool) (test : F) (held broken : Option (Route V F)) → FoundTyped held → FoundTyped broken → FoundTyped (by_truth answer test held broken)
  truth_typed_route None test held broken h k = tt
  truth_typed_route (Some true) test held broken h k = taking_typed test true held h
  truth_typed_route (Some false) test held broken h k = taking_typed test false broken k

  number_typed : (number : Option ℕ) (copy : ℕ → Option (Route V F)) → ((n : ℕ) → FoundTyped (copy n)) → FoundTyped (by_number number copy)
  number_typed None copy k = tt
  number_typed (Some n) copy k = k n

  waiting_typed : (t : Tree V F) → ProgressTyped fits unknowns (progress_of t) → FoundTyped (Some (waiting t))
  waiting_typed t h = record { whole = h; arrivals = tt }

  mutual
    route_typed : (t : Tree V F) (ds : List Decision) → TreeTyped fits unknowns t → FoundTyped (route t ds)
    route_typed (over p end') [] h = waiting_typed (over p end') h
    route_typed (over p end') (d ∷ ds) h = tt
    route_typed (arrives place p t) ds h = arriving_typed place p (route t ds) h.0 (route_typed t ds h.1)
    route_typed (tests asking p test held broken) [] h = waiting_typed (tests asking p test held broken) h.0
    route_typed (tests asking p test held broken) (d ∷ ds) h =
        truth_typed_route (truth_of asking d) test (route held ds) (route broken ds) (route_typed held ds h.1) (route_typed broken ds h.2)
    route_typed (splits p branches) [] h = waiting_typed (splits p branches) h.0
    route_typed (splits p branches) (d ∷ ds) h =
        number_typed (number_of d) (λ n. copy_route branches n ds) (λ n. copies_typed branches n ds h.1)

    copies_typed : (branches : Copies V F) (n : ℕ) (ds : List Decision) → EachTyped fits unknowns branches → FoundTyped (copy_route branches n ds)
    copies_typed no_copies n ds h = tt
    copies_typed (copy_and t branches) zero ds h = route_typed t ds h.0
    copies_typed (copy_and t branches) (suc n) ds h = copies_typed branches n ds h.1

-- ---- the states of a question

module _ {V : Type 0} (P : Carried V → Type 0) where
  picked_all : (b : Bool) (s : Carried V) (more : List (Carried V)) → P s → AllByRecursion P more → AllByRecursion P (if b then s ∷ more else more)
  picked_all true s more h k = (h, k)
  picked_all false s more h k = k

  pub states_all : (place : Place) (arrivals : List (Place × Progress V)) → AllByRecursion (λ (a : Place × Progress V). P a.1.state) arrivals
      → AllByRecursion P (states_at place arrivals)
  states_all place [] h = tt
  states_all place (a ∷ arrivals) h = picked_all (same_place place a.0) a.1.state (states_at place arrivals) h.0 (states_all place arrivals h.1)

  delivered_all : (end' : End) (states : List (Carried V)) → AllByRecursion P states → AllByRecursion P (if_delivered end' states)
  delivered_all Delivered states h = h
  delivered_all Stopped states h = tt
  delivered_all (Failed failure site) states h = tt
  delivered_all Cut states h = tt

  asked_all : (q : Question) (arrivals : List (Place × Progress V)) (end' : End) (p : Progress V)
      → AllByRecursion (λ (a : Place × Progress V). P a.1.state) arrivals → P p.state → AllByRecursion P (asked q arrivals end' p)
  asked_all (reach place test) arrivals end' p h k = states_all place arrivals h
  asked_all (invariant place field) arrivals end' p h k =
      delivered_all end' _ (picked_all (ends_at place false arrivals) p.state [] k tt)
  asked_all (visible place field) arrivals end' p h k = states_all place arrivals h

  left_all : {F : Type 0} (q : Question) (arrivals : List (Place × Progress V)) (t : Tree V F)
      → AllByRecursion (λ (a : Place × Progress V). P a.1.state) arrivals → P (progress_of t).state → AllByRecursion P (asked_left q arrivals t)
  left_all q arrivals (over p end') h k = asked_all q arrivals end' p h k
  left_all q arrivals (arrives place p t) h k = tt
  left_all q arrivals (tests asking p test held broken) h k = tt
  left_all q arrivals (splits p branches) h k = tt

-- ---- what is typed stays so with more symbols

module _ (i : Entry) (typing : Typing i) where
  abbrev unknown_fields : List ℕ
  unknown_fields = unknown_widths i.own.fields

  term_wider : (widths more : List ℕ) (w : ℕ) (t : LinearTerm) → Fits (typed_fits widths) w t → Fits (typed_fits (widths ++ more)) w t
  term_wider widths [] w t h = subst (λ ws. Fits (typed_fits ws) w t) (sym (append-nil widths)) h
  term_wider widths (m ∷ more) w t h =
      subst (λ ws. Fits (typed_fits ws) w t) (append_assoc widths (m ∷ []) more)
      (term_wider (widths ++ m ∷ []) more w t (typing.symbols.wider widths m w t h))

  carried_wider : (widths more : List ℕ) (s : Carried LinearTerm) → CarriedFits (typed_fits widths) s → CarriedFits (typed_fits (widths ++ more)) s
  carried_wider widths more s h =
      typing.weaker (typed_fits widths) (typed_fits (widths ++ more)) s (λ w t fit. term_wider widths more w t fit) h

  -- what is carried at a port is over the symbols at the end
  grown_typed : (whole : Progress LinearTerm) (p : Progress LinearTerm) → ProgressTyped typed_fits unknown_fields p → Grows p.choices whole
      → CarriedFits (typed_fits (unknown_fields ++ whole.choices)) p.state
  grown_typed whole p h k =
      subst (λ ws. CarriedFits (typed_fits ws) p.state)
      (append_assoc unknown_fields p.choices k.0 ∙ ap (λ cs. unknown_fields ++ cs) (sym k.1))
      (carried_wider (unknown_fields ++ p.choices) k.0 p.state h)

  states_typed : (q : Question) (r : SymRoute) → RouteTyped typed_fits unknown_fields r → RouteGrows [] r
      → AllByRecursion (CarriedFits (typed_fits (unknown_fields ++ (progress_of r.left).choices))) (asked_on q r)
  states_typed q r h k =
      left_all (CarriedFits (typed_fits (unknown_fields ++ (progress_of r.left).choices))) q r.arrivals r.left
      (all_both _ _ _ r.arrivals (λ a typed grows. grown_typed (progress_of r.left) a.1 typed grows) h.arrivals k.arrivals) h.whole

  -- ---- the start

  carried_typed : (net : Network) (c : Carried LinearTerm) → injected (terms (unknown_count i)) (scene_at net i.node) i.own ≡ Ok c
      → CarriedFits (typed_fits (unknown_fields ++ [])) c
  carried_typed net c e =
      subst (λ ws. CarriedFits (typed_fits ws) c) (sym (append-nil unknown_fields))
      (subst (λ r. IfOk r (CarriedFits (typed_fits unknown_fields))) e (typing.injection (scene_at net i.node)))

  module _ (net : Network) (hops : ℕ) (start : SymStart) (is : IsExplored net i hops start) where
    tree_typed : TreeTyped typed_fits unknown_fields start.tree
    tree_typed =
        let b = begun net i hops start is in
        subst (TreeTyped typed_fits unknown_fields) (sym b.tree)
        (typing.trees net hops i.own.port i.node (starting b.carried) (carried_typed net b.carried b.carries))

    tree_grows : TreeGrows [] start.tree
    tree_grows =
        let b = begun net i hops start is in
        subst (TreeGrows []) (sym b.tree) (enter_grows (terms (unknown_count i)) net hops i.node i.own.port (starting b.carried))

    -- each state that a question speaks of is over the symbols of its path
    pub asked_typed : (q : Question) (ds : List Decision) (way : SymRoute) → Leads start ds way
        → AllByRecursion (CarriedFits (typed_fits (widths_on start way))) (asked_on q way)
    asked_typed q ds way leads =
        subst (λ ws. AllByRecursion (CarriedFits (typed_fits (ws ++ (progress_of way.left).choices))) (asked_on q way)) (sym (begun net i hops start is).unknowns)
        (states_typed q way
        (subst (FoundTyped typed_fits unknown_fields) leads (route_typed typed_fits unknown_fields start.tree ds tree_typed))
        (subst (FoundGrows []) leads (route_grows [] start.tree ds tree_grows)))

    pub asked_fits : (q : Question) (ds : List Decision) (way : SymRoute) → Leads start ds way → AllByRecursion (CarriedFits term_fits) (asked_on q way)
    asked_fits q ds way leads =
        all_weaker _ _ (asked_on q way)
        (λ s h. typing.weaker (typed_fits (widths_on start way)) term_fits s (λ w t fit. ((typing.typed (widths_on start way) w t).0 fit).0) h)
        (asked_typed q ds way leads)

    -- ---- formulas

    unknowns_are : start.unknowns ≡ unknown_fields
    unknowns_are = (begun net i hops start is).unknowns

  -- the injected value is over the unknown fields
  value_typed : (before later : List ℕ) (target : Target) (number : ℕ) (given : Option ℕ) → number ≡ length before
      → Fits (typed_fits (before ++ (width_unless given (width_of target) ++ later))) (width_of target)
      (field_value (terms (unknown_count i)) (width_of target) number given)
  value_typed before later target number None e =
      let w = width_of target in
      subst (λ n. Fits (typed_fits (before ++ (w ∷ [] ++ later))) w ((terms (unknown_count i)).unknown w n)) (sym e)
      (subst (λ ws. Fits (typed_fits ws) w ((terms (unknown_count i)).unknown w (length before))) (append_assoc before (w ∷ []) later)
      (term_wider (before ++ w ∷ []) later w ((terms (unknown_count i)).unknown w (length before)) (typing.symbols.unknown before w)))
  value_typed before later target number (Some n) e = (typing.symbols.sums (before ++ later)).constant (width_of target) n

  field_typed : (before : List ℕ) (target : Target) (fs : List RawField) (number : ℕ) (field : Field) → number ≡ length before
      → IsFieldFrom number target fs field
      → Fits (typed_fits (before ++ unknown_widths fs)) (width_of field.target) (injected_value (terms (unknown_count i)) field)
  field_typed before target [] number field e h = absurd h
  field_typed before target (f ∷ fs) number field e (inl h) =
      subst (λ (x : Field). Fits (typed_fits (before ++ (unknown_width f ++ unknown_widths fs))) (width_of x.target) (injected_value (terms (unknown_count i)) x)) (sym h.1)
      (subst (λ (t : Target). Fits (typed_fits (before ++ (width_unless f.value (width_of f.target) ++ unknown_widths fs))) (width_of t)
      (field_value (terms (unknown_count i)) (width_of t) number f.value)) h.0
      (value_typed before (unknown_widths fs) f.target number f.value e))
  field_typed before target (f ∷ fs) number field e (inr h) =
      subst (λ ws. Fits (typed_fits ws) (width_of field.target) (injected_value (terms (unknown_count i)) field)) (append_assoc before (unknown_width f) (unknown_widths fs))
      (field_typed (before ++ unknown_width f) target fs (number + length (unknown_width f)) field
      (omega (arith, length-append before (unknown_width f), e)) h.1)

  -- ---- formulas over these symbols

  module _ (widths : List ℕ) where
    width_is : (w : ℕ) (t : LinearTerm) → Fits (typed_fits widths) w t → t.width ≡ w
    width_is w t h = ((typing.fits w t).0 ((typing.typed widths w t).0 h).0).0

    term_typed : (w : ℕ) (t : LinearTerm) → Fits (typed_fits widths) w t → TermIsTyped widths t
    term_typed w t h = ((typing.typed widths w t).0 h).1

    comparison_typed : (w : ℕ) (rel : Rel) (a b : LinearTerm) → Fits (typed_fits widths) w a → Fits (typed_fits widths) w b
        → IsTyped widths (formulas.compared rel a b)
    comparison_typed w rel a b ha hb = (width_is w a ha ∙ sym (width_is w b hb), term_typed w a ha, term_typed w b hb)

    are_typed : (fs : List FormulaTree) → AllByRecursion (IsTyped widths) fs → AreTyped widths (formulas_of fs)
    are_typed [] h = tt
    are_typed (f ∷ fs) h = (h.0, are_typed fs h.1)

    module _ (at : Scene) (s : Carried LinearTerm) (fit : CarriedFits (typed_fits widths) s) where
      values : (w : ℕ) (e : ExprTree) → IfOk (value_in (terms (unknown_count i)) at w e s) (Fits (typed_fits widths) w)
      values w e = typing.values widths at w e s fit

      mutual
        truth_typed : (test : CondTree) → IfOk (truth_in (terms (unknown_count i)) at test s) (IsTyped widths)
        truth_typed always = tt
        truth_typed (compare rel left right) =
            let w : ℕ = atom_width (comparison left right) in
            then_keeps (Fits (typed_fits widths) w) (IsTyped widths) (value_in (terms (unknown_count i)) at w left s)
            (λ a. on_ok (formulas.compared rel a) (value_in (terms (unknown_count i)) at w right s)) (values w left)
            (λ a ha. on_ok_keeps (Fits (typed_fits widths) w) (IsTyped widths) (formulas.compared rel a) (value_in (terms (unknown_count i)) at w right s) (values w right)
            (λ b hb. comparison_typed w rel a b ha hb))
        truth_typed (member value ranges) =
            let w : ℕ = atom_width (membership value ranges) in
            on_ok_keeps (Fits (typed_fits widths) w) (IsTyped widths) (λ a. formulas.belongs a (set_of w (is_member ranges))) (value_in (terms (unknown_count i)) at w value s)
            (values w value) (λ a ha. (width_is w a ha, term_typed w a ha))
        truth_typed (all_of conds) =
            on_ok_keeps (AllByRecursion (IsTyped widths)) (IsTyped widths) (λ fs. formulas.all_of (formulas_of fs)) (truths_in (terms (unknown_count i)) at conds s)
            (truths_typed conds) (λ fs h. are_typed fs h)
        truth_typed (any_of conds) =
            on_ok_keeps (AllByRecursion (IsTyped widths)) (IsTyped widths) (λ fs. formulas.any_of (formulas_of fs)) (truths_in (terms (unknown_count i)) at conds s)
            (truths_typed conds) (λ fs h. are_typed fs h)
        truth_typed (negation c) =
            on_ok_keeps (IsTyped widths) (IsTyped widths) formulas.opposite (truth_in (terms (unknown_count i)) at c s) (truth_typed c) (λ f h. h)

        truths_typed : (conds : CondTrees) → IfOk (truths_in (terms (unknown_count i)) at conds s) (AllByRecursion (IsTyped widths))
        truths_typed no_conds = tt
        truths_typed (cond_and c conds) =
            then_keeps (IsTyped widths) (AllByRecursion (IsTyped widths)) (truth_in (terms (unknown_count i)) at c s) (λ f. on_ok (λ fs. f ∷ fs) (truths_in (terms (unknown_count i)) at conds s))
            (truth_typed c)
            (λ f h. on_ok_keeps (AllByRecursion (IsTyped widths)) (AllByRecursion (IsTyped widths)) (λ fs. f ∷ fs) (truths_in (terms (unknown_count i)) at conds s)
            (truths_typed conds) (λ fs hs. (h, hs)))

      differs_typed : (field : Field) → Fits (typed_fits widths) (width_of field.target) (injected_value (terms (unknown_count i)) field)
          → IsTyped widths (held_or (formulas.always true) (on_ok (λ a. formulas.compared Ne a (injected_value (terms (unknown_count i)) field))
          (read_at at (width_of field.target) field.target s)))
      differs_typed field h =
          held_keeps (IsTyped widths) (formulas.always true)
          (on_ok (λ a. formulas.compared Ne a (injected_value (terms (unknown_count i)) field)) (read_at at (width_of field.target) field.target s)) tt
          (on_ok_keeps (Fits (typed_fits widths) (width_of field.target)) (IsTyped widths) (λ a. formulas.compared Ne a (injected_value (terms (unknown_count i)) field))
          (read_at at (width_of field.target) field.target s) (values (width_of field.target) (reading field.target))
          (λ a ha. comparison_typed (width_of field.target) Ne a (injected_value (terms (unknown_count i)) field) ha h))

  module _ (net : Network) (hops : ℕ) (start : SymStart) (is : IsExplored net i hops start) (way : SymRoute) where
    abbrev whole : List ℕ
    whole = widths_on start way

    value_there : (target : Target) (field : Field) → IsFieldFrom 0 target i.own.fields field
        → Fits (typed_fits whole) (width_of field.target) (injected_value (terms (unknown_count i)) field)
    value_there target field h =
        subst (λ ws. Fits (typed_fits (ws ++ (progress_of way.left).choices)) (width_of field.target) (injected_value (terms (unknown_count i)) field))
        (sym (unknowns_are net hops start is))
        (term_wider unknown_fields (progress_of way.left).choices (width_of field.target) (injected_value (terms (unknown_count i)) field)
        (field_typed [] target i.own.fields 0 field refl h))

    formula_typed : (q : Question) → IsOfInjection net i q → (s : Carried LinearTerm) → CarriedFits (typed_fits whole) s → IsTyped whole (formula_at (terms (unknown_count i)) net q s)
    formula_typed (reach place test) own s fit =
        held_keeps (IsTyped whole) (formulas.opposite (formulas.always true)) (truth_in (terms (unknown_count i)) (scene_at net place.node) test s) tt
        (truth_typed whole (scene_at net place.node) s fit test)
    formula_typed (invariant place field) own s fit = differs_typed whole (scene_at net place.node) s fit field (value_there own.0 field own.1)
    formula_typed (visible place field) own s fit = differs_typed whole (scene_at net place.node) s fit field (value_there own.0 field own.1)

    pub formulas_typed : (q : Question) → IsOfInjection net i q → (ds : List Decision) → Leads start ds way
        → AllByRecursion (λ s. IsTyped whole (formula_at (terms (unknown_count i)) net q s)) (asked_on q way)
    formulas_typed q own ds leads = all_weaker _ _ (asked_on q way) (λ s fit. formula_typed q own s fit) (asked_typed net hops start is q ds way leads)
