-- The states and the formulas of a question, at a packet.
use Rattle.std.proofs.Common.{◌≡◌, ℕ, Bool, true, false, not, List, [], ◌∷◌, map, refl, sym, ap, ◌∙◌, Option, Some, None, Result, Ok, Err, IfOk, if◌then◌else◌}
use Rattle.sn_width.specs.declared.faults.LayoutFault.{LayoutFault}
use Rattle.sn_width.specs.declared.ids.NodeId.{NodeId}
use Rattle.sn_width.specs.declared.rel.Rel.TheVariants.{Ne}
use Rattle.lin_term.specs.Terms.{LinearTerm}
use Rattle.sefl_syntax.specs.Trees.{reading}
use Rattle.cell_stacks.specs.Outcome.{on_ok}
use Rattle.job_items.specs.AtomRules.{width_of}
use Rattle.sefl_meaning.specs.declared.walk.End.{End}
use Rattle.sefl_meaning.specs.declared.walk.End.TheVariants.{Stopped, Delivered, Failed, Cut}
use Rattle.sefl_meaning.specs.declared.walk.Place.{Place}
use Rattle.sefl_meaning.specs.Values.{numbers}
use Rattle.sefl_meaning.specs.Network.{Network, Entry}
use Rattle.sefl_meaning.specs.Carried.{Carried, carried_valued, read_at, scene_at}
use Rattle.sefl_meaning.specs.Courses.{Progress}
use Rattle.sefl_meaning.specs.Injected.{field_value, unknown_count}
use Rattle.sefl_meaning.specs.Terms.{truth_in}
use Rattle.sefl_meaning.specs.Valued.{CarriedFits, Fits, progress_valued}
use Rattle.term_values.specs.Fits.{term_fits}
use Rattle.term_values.specs.TermValues.{terms}
use Rattle.path_questions.specs.Below.{Valuing, term_at, truth_of}
use Rattle.path_questions.specs.Formulas.{differs, formula_at, held_or}
use Rattle.path_questions.specs.Questions.{Field, Question, reach, invariant, visible, asked, ends_at, if_delivered, same_place, states_at}
use Rattle.path_questions.specs.Sentences.{injected_value}

picked : {A B : Type 0} (h : A → B) (b : Bool) (x : A) (xs : List A) (us : List B) → us ≡ map h xs
    → (if b then h x ∷ us else us) ≡ map h (if b then x ∷ xs else xs)
picked h true x xs us e = ap (λ zs. h x ∷ zs) e
picked h false x xs us e = e

module _ {V W : Type 0} (f : V → W) where
  abbrev pub arrival_valued : Place × Progress V → Place × Progress W
  arrival_valued a = (a.0, progress_valued f a.1)

  states_valued : (place : Place) (arrivals : List (Place × Progress V))
      → states_at place (map arrival_valued arrivals) ≡ map (carried_valued f) (states_at place arrivals)
  states_valued place [] = refl
  states_valued place (a ∷ arrivals) =
      picked (carried_valued f) (same_place place a.0) a.1.state (states_at place arrivals) (states_at place (map arrival_valued arrivals)) (states_valued place arrivals)

  ends_valued : (place : Place) (before : Bool) (arrivals : List (Place × Progress V)) → ends_at place before (map arrival_valued arrivals) ≡ ends_at place before arrivals
  ends_valued place before [] = refl
  ends_valued place before (a ∷ arrivals) = ends_valued place (same_place place a.0) arrivals

  delivered_valued : (end' : End) (us : List (Carried W)) (states : List (Carried V)) → us ≡ map (carried_valued f) states
      → if_delivered end' us ≡ map (carried_valued f) (if_delivered end' states)
  delivered_valued Delivered us states e = e
  delivered_valued Stopped us states e = refl
  delivered_valued (Failed failure site) us states e = refl
  delivered_valued Cut us states e = refl

  pub asked_valued : (q : Question) (arrivals : List (Place × Progress V)) (end' : End) (last : Progress V)
      → asked q (map arrival_valued arrivals) end' (progress_valued f last) ≡ map (carried_valued f) (asked q arrivals end' last)
  asked_valued (reach place test) arrivals end' last = states_valued place arrivals
  asked_valued (invariant place field) arrivals end' last =
      delivered_valued end' _ _
      (ap (λ (b : Bool). if b then carried_valued f last.state ∷ [] else []) (ends_valued place false arrivals)
      ∙ picked (carried_valued f) (ends_at place false arrivals) last.state [] [] refl)
  asked_valued (visible place field) arrivals end' last = states_valued place arrivals

-- ---- formulas

held_valued : {F : Type 0} (g : F → Bool) (faulty : F) (x : Bool) → g faulty ≡ x → (r : Result F LayoutFault) → g (held_or faulty r) ≡ held_or x (on_ok g r)
held_valued g faulty x e (Ok f) = refl
held_valued g faulty x e (Err fault) = e

module _ (net : Network) (i : Entry) (below : Valuing i) (v : List ℕ) where
  given_valued : (w n : ℕ) (given : Option ℕ) → term_at v (field_value (terms (unknown_count i)) w n given) ≡ field_value (numbers v (unknown_count i)) w n given
  given_valued w n None = (below.respects v).unknown w n
  given_valued w n (Some m) = (below.respects v).constant w m

  given_fits : (w n : ℕ) (given : Option ℕ) → Fits term_fits w (field_value (terms (unknown_count i)) w n given)
  given_fits w n None = (below.respects v).keeps.unknown w n
  given_fits w n (Some m) = (below.respects v).keeps.constant w m

  compared_valued : (w : ℕ) (b : LinearTerm) (c : ℕ) → term_at v b ≡ c → Fits term_fits w b → (r : Result LinearTerm LayoutFault) → IfOk r (Fits term_fits w)
      → truth_of v (held_or (terms (unknown_count i)).always (on_ok (λ a. (terms (unknown_count i)).compare w Ne a b) r))
      ≡ held_or true (on_ok (λ a. (numbers v (unknown_count i)).compare w Ne a c) (on_ok (term_at v) r))
  compared_valued w b c e h (Ok a) k =
      (below.respects v).compare w Ne a b k h ∙ ap (λ z. (numbers v (unknown_count i)).compare w Ne (term_at v a) z) e
  compared_valued w b c e h (Err fault) k = (below.respects v).always

  differs_valued : (node : NodeId) (field : Field) (s : Carried LinearTerm) → CarriedFits term_fits s
      → truth_of v (differs (terms (unknown_count i)) net node field s) ≡ differs (numbers v (unknown_count i)) net node field (carried_valued (term_at v) s)
  differs_valued node field s fit =
      let at = scene_at net node in
      let w = width_of field.target in
      compared_valued w (injected_value (terms (unknown_count i)) field) (injected_value (numbers v (unknown_count i)) field)
      (given_valued w field.number field.given) (given_fits w field.number field.given) (read_at at w field.target s) (below.kept at w (reading field.target) s fit)
      ∙ ap (λ r. held_or true (on_ok (λ a. (numbers v (unknown_count i)).compare w Ne a (injected_value (numbers v (unknown_count i)) field)) r))
      (sym (below.values v at w (reading field.target) s fit))

  -- a formula is, at a packet, what the question says of the numbers
  pub formula_valued : (q : Question) (s : Carried LinearTerm) → CarriedFits term_fits s
      → truth_of v (formula_at (terms (unknown_count i)) net q s) ≡ formula_at (numbers v (unknown_count i)) net q (carried_valued (term_at v) s)
  formula_valued (reach place test) s fit =
      held_valued (truth_of v) ((terms (unknown_count i)).negation (terms (unknown_count i)).always) false
      ((below.respects v).negation (terms (unknown_count i)).always ∙ ap not (below.respects v).always) (truth_in (terms (unknown_count i)) (scene_at net place.node) test s)
      ∙ ap (held_or false) (sym (below.truths v (scene_at net place.node) test s fit))
  formula_valued (invariant place field) s fit = differs_valued place.node field s fit
  formula_valued (visible place field) s fit = differs_valued place.node field s fit
