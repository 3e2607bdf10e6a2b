-- Trails that are led along decisions.
use Rattle.std.proofs.Common.{◌≡◌, ◌≢◌, Bool, true, false, ℕ, zero, suc, ◌+◌, ◌-◌, ◌<◌, ◌≤◌, List, [], ◌∷◌, ◌++◌, length, take, get_or, refl, sym, ap, subst, ◌∙◌, append_assoc, arith}
use Rattle.std.proofs.lemmas.List.{append-nil, get_or_at, get_or_default, length-append, length-map, length-take-le, map-append, take_more}
use Rattle.sefl_meaning.specs.declared.walk.Decision.{Decision}
use Rattle.sefl_meaning.specs.declared.walk.Decision.TheVariants.{Then}
use Rattle.sefl_meaning.specs.Order.{BeginsWith}
use Rattle.exact_records.specs.Records.{SymStart, unexplored}
use Rattle.record_checks.specs.Checks.{broken_unless}
use Rattle.record_checks.specs.Parts.{IsJudged}
use Rattle.record_checks.specs.Stops.{LeadsTo, Stop}
use Rattle.record_checks.specs.Trails.{AreLed, IsLedAlong, IsTrail, decisions_of, last_stop, taken, top_of}
use Rattle.record_checks.specs.declared.part.Part.TheVariants.{NotTaken}
use Rattle.record_checks.specs.declared.trail.Step.{Step}
use Rattle.record_checks.specs.declared.trail.Trail.{Trail}

module _ {S : Type 0} where
  pub last_pushed : (first : S) (xs : List (Step S)) (step : Step S) → last_stop first (xs ++ step ∷ []) ≡ step.stop
  last_pushed first [] step = refl
  last_pushed first (x ∷ xs) step = last_pushed x.stop xs step

  -- the last one of a list that is not empty
  pub last_at : (first : S) (xs : List (Step S)) (step : Step S) → 0 < length xs → get_or xs (length xs - 1) step ≡ step → last_stop first xs ≡ step.stop
  last_at first [] step some e = absurd (omega (arith, some))
  last_at first (x ∷ []) step some e = ap (λ (y : Step S). y.stop) e
  last_at first (x ∷ y ∷ xs) step some e =
      let less : suc (suc (length xs)) - 1 ≡ suc (suc (length xs) - 1) = omega arith in
      last_at x.stop (y ∷ xs) step (omega arith) (ap (λ (n : ℕ). get_or (x ∷ y ∷ xs) n step) (sym less) ∙ e)

module _ {S : Type 0} (s : SymStart) (seen : S → Stop) where
  pub led_take : (ds : List Decision) (n : ℕ) (xs : List (Step S)) → AreLed s seen ds xs → AreLed s seen ds (take n xs)
  led_take ds zero xs h = tt
  led_take ds (suc n) [] h = tt
  led_take ds (suc n) (x ∷ xs) h = (h.0, led_take (ds ++ x.decision ∷ []) n xs h.1)

  led_push : (ds : List Decision) (xs : List (Step S)) (step : Step S) → AreLed s seen ds xs
      → LeadsTo s ((ds ++ taken xs) ++ step.decision ∷ []) (seen step.stop) → AreLed s seen ds (xs ++ step ∷ [])
  led_push ds [] step h l = (subst (λ (es : List Decision). LeadsTo s (es ++ step.decision ∷ []) (seen step.stop)) (append-nil ds) l, tt)
  led_push ds (x ∷ xs) step h l = (
    h.0,
    led_push (ds ++ x.decision ∷ []) xs step h.1
        (subst (λ (es : List Decision). LeadsTo s (es ++ step.decision ∷ []) (seen step.stop)) (sym (append_assoc ds (x.decision ∷ []) (taken xs))) l),
  )

  led_top : (ds : List Decision) (first : S) (xs : List (Step S)) → LeadsTo s ds (seen first) → AreLed s seen ds xs
      → LeadsTo s (ds ++ taken xs) (seen (last_stop first xs))
  led_top ds first [] l h = subst (λ (es : List Decision). LeadsTo s es (seen first)) (sym (append-nil ds)) l
  led_top ds first (x ∷ xs) l h =
      subst (λ (es : List Decision). LeadsTo s es (seen (last_stop x.stop xs))) (append_assoc ds (x.decision ∷ []) (taken xs))
      (led_top (ds ++ x.decision ∷ []) x.stop xs h.0 h.1)

  -- the decisions of a trail lead to its top
  pub top_led : (trail : Trail S) → IsTrail s seen trail → LeadsTo s (decisions_of trail) (seen (top_of trail))
  top_led trail h = led_top [] trail.first trail.steps.items h.first h.steps

  pub trail_cut : (old new : Trail S) (n : ℕ) → new.first ≡ old.first → new.steps.items ≡ take n old.steps.items → IsTrail s seen old → IsTrail s seen new
  trail_cut old new n first steps h = record {
    first = subst (λ (x : S). LeadsTo s [] (seen x)) (sym first) h.first;
    steps = subst (AreLed s seen []) (sym steps) (led_take [] n old.steps.items h.steps);
  }

  pub trail_more : (old new : Trail S) (step : Step S) → new.first ≡ old.first → new.steps.items ≡ old.steps.items ++ step ∷ []
      → LeadsTo s (decisions_of old ++ step.decision ∷ []) (seen step.stop) → IsTrail s seen old → IsTrail s seen new
  trail_more old new step first steps l h = record {
    first = subst (λ (x : S). LeadsTo s [] (seen x)) (sym first) h.first;
    steps = subst (AreLed s seen []) (sym steps) (led_push [] old.steps.items step h.steps l);
  }

-- the second list begins with the first
abbrev pub BeginsIn : {A : Type 0} → List A → List A → Type 0
BeginsIn {A} xs ds = (rest : List A) × (xs ++ rest ≡ ds)

module _ {A : Type 0} where
  -- a list that begins another goes on with that one's next member
  pub begins_more : (xs ds : List A) (d : A) → BeginsIn xs ds → length xs < length ds → d ≡ get_or ds (length xs) d → BeginsIn (xs ++ d ∷ []) ds
  begins_more xs ds d ([], e) less same = absurd (let l = ap length (sym (append-nil xs) ∙ e) in omega (arith, l, less))
  begins_more xs ds d (r ∷ rest, e) less same =
      let is : d ≡ r = same ∙ (ap (λ (zs : List A). get_or zs (length xs) d) (sym e) ∙ get_or_at xs r rest d (length xs) refl) in
      (rest, append_assoc xs (d ∷ []) rest ∙ (ap (λ (x : A). xs ++ x ∷ rest) is ∙ e))

  pub begins_short : (xs ds : List A) → BeginsIn xs ds → length xs ≤ length ds
  begins_short xs ds (rest, e) = let l = sym (length-append xs rest) ∙ ap length e in omega (arith, l)

  pub begins_all : (xs ds : List A) → BeginsIn xs ds → length ds ≤ length xs → xs ≡ ds
  begins_all xs ds ([], e) long = sym (append-nil xs) ∙ e
  begins_all xs ds (r ∷ rest, e) long = absurd (let l = sym (length-append xs (r ∷ rest)) ∙ ap length e in omega (arith, l, long))

module _ {S : Type 0} where
  taken_pushed : (xs : List (Step S)) (x : Step S) → taken (xs ++ x ∷ []) ≡ taken xs ++ x.decision ∷ []
  taken_pushed xs x = map-append (λ (step : Step S). step.decision) xs (x ∷ [])

  taken_length : (xs : List (Step S)) → length (taken xs) ≡ length xs
  taken_length xs = length-map xs (λ (step : Step S). step.decision)

  -- one step more takes the next decision
  pub shared_more : (steps : List (Step S)) (ds : List Decision) (k i : ℕ) (x : Step S) → k ≡ i → i < length steps → x ≡ get_or steps i x → k ≢ length ds
      → x.decision ≡ get_or ds k Then → BeginsWith (taken (take k steps)) ds → BeginsWith (taken (take (k + 1) steps)) ds
  shared_more steps ds k i x counted less at other same h =
      let xs = taken (take k steps) in
      let long : length xs ≡ k = taken_length (take k steps) ∙ length-take-le k steps (omega (arith, less, counted)) in
      let short = begins_short xs ds h in
      let room : length xs < length ds = omega (arith, long, short, other) in
      let here : x.decision ≡ get_or ds (length xs) x.decision =
      same ∙ (ap (λ (n : ℕ). get_or ds n Then) (sym long) ∙ get_or_default ds (length xs) Then x.decision room) in
      let there : x ≡ get_or steps k x = subst (λ (n : ℕ). x ≡ get_or steps n x) (sym counted) at in
      let more : taken (take (k + 1) steps) ≡ xs ++ x.decision ∷ [] =
      ap taken (take_more steps k x (omega (arith, less, counted)))
      ∙ (taken_pushed (take k steps) (get_or steps k x) ∙ ap (λ (y : Step S). xs ++ y.decision ∷ []) (sym there)) in
      subst (λ (zs : List Decision). BeginsWith zs ds) (sym more) (begins_more xs ds x.decision h room here)

  -- the trail goes on with the next decision
  pub next_along : (trail : Trail S) (ds : List Decision) (at : ℕ) → BeginsWith (decisions_of trail) ds → length trail.steps.items ≡ at → at < length ds
      → BeginsWith (decisions_of trail ++ get_or ds at Then ∷ []) ds
  next_along trail ds at h counted less =
      let xs = decisions_of trail in
      let long : length xs ≡ at = taken_length trail.steps.items ∙ counted in
      let room : length xs < length ds = omega (arith, long, less) in
      begins_more xs ds (get_or ds at Then) h room (ap (λ (n : ℕ). get_or ds n Then) (sym long) ∙ get_or_default ds (length xs) Then (get_or ds at Then) room)

  pub steps_along : (old new : Trail S) (step : Step S) (ds : List Decision) → new.steps.items ≡ old.steps.items ++ step ∷ []
      → BeginsWith (decisions_of old ++ step.decision ∷ []) ds → BeginsWith (decisions_of new) ds
  steps_along old new step ds items h =
      subst (λ (zs : List Decision). BeginsWith zs ds) (sym (ap taken items ∙ taken_pushed old.steps.items step)) h

-- decisions that were not tried are open exactly where the trail leads along them
pub unexplored_judged : {S : Type 0} (s : SymStart) (seen : S → Stop) (ds : List Decision) (trail : Trail S) (b : Bool) → IsTrail s seen trail → IsLedAlong s seen ds trail b
    → IsJudged s (unexplored ds) (broken_unless b NotTaken)
unexplored_judged s seen ds trail true h led =
    let l = subst (λ (es : List Decision). LeadsTo s es (seen (top_of trail))) led (top_led s seen trail h) in
    (l.way, l.leads)
unexplored_judged s seen ds trail false h led = led
