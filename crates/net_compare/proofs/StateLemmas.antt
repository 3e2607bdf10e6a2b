-- The states of delivered paths, one after another.
use Rattle.std.proofs.Common.{◌≡◌, ◌∙◌, ◌≤◌, ◌<◌, ◌+◌, ℕ, zero, suc, Bool, true, false, true≢false, List, [], ◌∷◌, ◌++◌, arith, drop, map, refl, sym, ap, subst, Option, None, Some, Result, Ok, slice_get}
use Rattle.std.proofs.lemmas.List.{map-append}
use Rattle.net_check.specs.Network.{Network, Entry}
use Rattle.path_records.specs.declared.records.Record.{Record}
use Rattle.refutation_check.specs.declared.outcome.Verdict.{Verdict}
use Rattle.sefl_meaning.specs.declared.walk.Decision.{Decision}
use Rattle.sefl_meaning.specs.declared.walk.End.{End}
use Rattle.sefl_meaning.specs.declared.walk.End.TheVariants.{Stopped, Delivered, Failed, Cut}
use Rattle.exact_records.specs.Packets.{AreExactFor, IsExplored}
use Rattle.exact_records.specs.Records.{RecordTree, SymStart, path, pruned, unexplored}
use Rattle.exact_records.specs.View.{record_tree, record_trees}
use Rattle.path_exec.specs.declared.exploration.Ended.{Ended}
use Rattle.path_exec.specs.declared.exploration.Ended.TheVariants as ended
use Rattle.path_exec.specs.Handing.{Handed, handed}
use Rattle.path_exec.specs.Receiving.{Receiving}
use Rattle.path_questions.specs.Formulas.{explored, no_start, start_or}
use Rattle.sym_state.specs.Symbolic.{Symbolic}
use Rattle.symbolic_engine.specs.declared.found.Found.{Found}
use Rattle.symbolic_engine.specs.declared.found.Found.TheVariants.{Path, Pruned, Unexplored}
use Rattle.symbolic_engine.specs.declared.guiding.Led.{Led}
use Rattle.symbolic_engine.specs.Exploring.{IsHandedBy, ObservedFor}
use Rattle.symbolic_engine.specs.Finds.{found_tree, handed_tree}
use Rattle.symbolic_engine.specs.Leading.{IsHanded, LeadsThere}
use Rattle.compare_meaning.specs.Paths.{DeliveredPath, delivered}
use Rattle.net_compare.specs.declared.exploring.Explored.{Explored}
use Rattle.net_compare.specs.Delivering.{AreGathered, AreLed, AreStatesOf, IsOneMore, LeadsBy, LeadsToState, along_if, delivered_along, delivered_decisions, state_if, state_in, with_first, with_last}

-- ---- what is left of a list

abbrev first_of : {A : Type 0} → List A → Option A
first_of [] = None
first_of (x ∷ xs) = Some x

abbrev rest_of : {A : Type 0} → List A → List A
rest_of [] = []
rest_of (x ∷ xs) = xs

got_first : {A : Type 0} (xs : List A) (n : ℕ) → slice_get xs n ≡ first_of (drop n xs)
got_first [] zero = refl
got_first [] (suc n) = refl
got_first (x ∷ xs) zero = refl
got_first (x ∷ xs) (suc n) = got_first xs n

dropped_suc : {A : Type 0} (xs : List A) (n : ℕ) → drop (suc n) xs ≡ rest_of (drop n xs)
dropped_suc [] zero = refl
dropped_suc [] (suc n) = refl
dropped_suc (x ∷ xs) zero = refl
dropped_suc (x ∷ xs) (suc n) = dropped_suc xs n

dropped_more : {A : Type 0} (xs : List A) (n : ℕ) → drop (n + 1) xs ≡ rest_of (drop n xs)
dropped_more xs n = let more : n + 1 ≡ suc n = omega arith in ap (λ k. drop k xs) more ∙ dropped_suc xs n

-- ---- the states that are left

module _ (start : SymStart) where
  led_first : (o : Option (List Decision)) (dss : List (List Decision)) (xs : List Symbolic) → AreLed start (with_first o dss) xs → LeadsBy start o (first_of xs)
  led_first None dss xs h = tt
  led_first (Some ds) dss [] h = h
  led_first (Some ds) dss (x ∷ xs) h = h.0

  led_rest : (ds : List Decision) (dss : List (List Decision)) (xs : List Symbolic) → AreLed start (ds ∷ dss) xs → AreLed start dss (rest_of xs)
  led_rest ds dss [] h = absurd h
  led_rest ds dss (x ∷ xs) h = h.1

  module _ (r : RecordTree) (rs : List RecordTree) (xs : List Symbolic) (n : ℕ) (h : AreStatesOf start (r ∷ rs) (drop n xs)) where
    -- the state at the place is that of the next record, if that is a delivered path
    pub state_here : LeadsBy start (delivered_along r) (slice_get xs n)
    state_here = subst (LeadsBy start (delivered_along r)) (sym (got_first xs n)) (led_first (delivered_along r) (delivered_decisions rs) (drop n xs) h)

    pub states_past : delivered_along r ≡ None → AreStatesOf start rs (drop n xs)
    states_past none = subst (λ o. AreLed start (with_first o (delivered_decisions rs)) (drop n xs)) none h

    pub states_next : (ds : List Decision) → delivered_along r ≡ Some ds → AreStatesOf start rs (drop (n + 1) xs)
    states_next ds some =
        subst (AreLed start (delivered_decisions rs)) (sym (dropped_more xs n))
        (led_rest ds (delivered_decisions rs) (drop n xs) (subst (λ o. AreLed start (with_first o (delivered_decisions rs)) (drop n xs)) some h))

-- a record is a delivered path exactly where it has decisions of one
pub none_along : (net : Network) (start : SymStart) (number : ℕ) (r : RecordTree) → delivered net start number r ≡ None → delivered_along r ≡ None
none_along net start number (path ds places Delivered fields verdict) e = absurd (cc)
none_along net start number (path ds places Stopped fields verdict) e = refl
none_along net start number (path ds places (Failed failure site) fields verdict) e = refl
none_along net start number (path ds places Cut fields verdict) e = refl
none_along net start number (pruned ds before refutation) e = refl
none_along net start number (unexplored ds) e = refl

pub some_along : (net : Network) (start : SymStart) (number : ℕ) (r : RecordTree) (p : DeliveredPath) → delivered net start number r ≡ Some p
    → (ds : List Decision) × (delivered_along r ≡ Some ds)
some_along net start number (path ds places Delivered fields verdict) p e = (ds, refl)
some_along net start number (path ds places Stopped fields verdict) p e = absurd (cc)
some_along net start number (path ds places (Failed failure site) fields verdict) p e = absurd (cc)
some_along net start number (path ds places Cut fields verdict) p e = absurd (cc)
some_along net start number (pruned ds before refutation) p e = absurd (cc)
some_along net start number (unexplored ds) p e = absurd (cc)

-- ---- one record more

first_last : (o p : Option (List Decision)) (dss : List (List Decision)) → with_first o (with_last dss p) ≡ with_last (with_first o dss) p
first_last None p dss = refl
first_last (Some ds) None dss = refl
first_last (Some ds) (Some es) dss = refl

last_first : (o : Option (List Decision)) → with_first o [] ≡ with_last [] o
last_first None = refl
last_first (Some ds) = refl

decisions_append : (rs : List RecordTree) (r : RecordTree) → delivered_decisions (rs ++ r ∷ []) ≡ with_last (delivered_decisions rs) (delivered_along r)
decisions_append [] r = last_first (delivered_along r)
decisions_append (x ∷ rs) r = ap (with_first (delivered_along x)) (decisions_append rs r) ∙ first_last (delivered_along x) (delivered_along r) (delivered_decisions rs)

module _ (start : SymStart) where
  led_append : (dss : List (List Decision)) (xs : List Symbolic) (ds : List Decision) (x : Symbolic) → AreLed start dss xs → LeadsToState start ds x
      → AreLed start (dss ++ ds ∷ []) (xs ++ x ∷ [])
  led_append [] [] ds x h k = (k, tt)
  led_append [] (y ∷ xs) ds x h k = absurd h
  led_append (es ∷ dss) [] ds x h k = absurd h
  led_append (es ∷ dss) (y ∷ xs) ds x h k = (h.0, led_append dss xs ds x h.1 k)

  led_there : (ds : List Decision) (led : Led) → LeadsThere start ds led → LeadsToState start ds led.state
  led_there ds led h = record { way = h.way; leads = h.leads; carries = h.carries; condition = h.condition }

  more_by : (dss : List (List Decision)) (xs : List Symbolic) (ds : List Decision) (x : Symbolic) (how : End) → AreLed start dss xs → LeadsToState start ds x
      → AreLed start (with_last dss (along_if how ds)) (with_last xs (state_if how x))
  more_by dss xs ds x Delivered h k = led_append dss xs ds x h k
  more_by dss xs ds x Stopped h k = h
  more_by dss xs ds x (Failed failure site) h k = h
  more_by dss xs ds x Cut h k = h

  led_more : (dss : List (List Decision)) (xs : List Symbolic) (ds : List Decision) (found : Found) → AreLed start dss xs → IsHanded start (handed ds found)
      → AreLed start (with_last dss (delivered_along (found_tree found ds))) (with_last xs (state_in found))
  led_more dss xs ds (Path x how verdict) h item = more_by dss xs ds x how h (led_there ds _ item.leads)
  led_more dss xs ds (Pruned before refutation) h item = h
  led_more dss xs ds Unexplored h item = h

  pub one_gathered : (found : Found) (ds : List Decision) (old new : Explored) (failed after : Bool) (xs : List RecordTree) → failed ≡ false → IsHanded start (handed ds found)
      → IsOneMore found ds old new → AreGathered start old failed xs → AreGathered start new after (xs ++ found_tree found ds ∷ [])
  one_gathered found ds old new failed after xs fine item one h fine' =
      let before = h fine in
      let t = found_tree found ds in (
        one.records ∙ ap (λ zs. zs ++ t ∷ []) before.0,
        subst (λ dss. AreLed start dss new.states.items) (sym (decisions_append xs t))
            (subst (AreLed start (with_last (delivered_decisions xs) (delivered_along t))) (sym one.states)
            (led_more (delivered_decisions xs) old.states.items ds found before.1 item)),
      )

  -- where memory has ended nothing is said
  pub none_gathered : (e : Explored) (failed : Bool) (xs : List RecordTree) → failed ≡ true → AreGathered start e failed xs
  none_gathered e failed xs ended fine = absurd (true≢false (sym ended ∙ fine))

-- ---- the whole exploration

module _ (net : Network) (i : Entry) (hops limit : ℕ) where
  pub takes_own : (start : SymStart) → start ≡ explored net i hops → (item : Handed Found) → IsHandedBy net i hops item → IsHanded start item
  takes_own start is item h = subst (λ s. IsHanded s item) (sym (ap (start_or no_start) h.explored) ∙ sym is) h.holds

  pub all_gathered : (E : Type 0) (start : SymStart) (m : Receiving (Handed Found)) (e : Explored) (failed : Bool)
      → ((items : List (Handed Found)) → m.StandsFor items → AreGathered start e failed (map handed_tree items)) → failed ≡ false → m.stops ≡ 0
      → (before after : ℕ) (how : Ended) → ObservedFor net i hops {E = E} limit 0 m before after (Ok how)
      → AreExactFor net i hops limit (record_trees e.records.items) × AreStatesOf start (record_trees e.records.items) e.states.items
  all_gathered E start m e failed stands fine none before after ended.Whole h =
      let s = stands h.items h.stands fine in
      (subst (AreExactFor net i hops limit) (sym s.0) h.exact, subst (λ xs. AreStatesOf start xs e.states.items) (sym s.0) s.1)
  all_gathered E start m e failed stands fine none before after ended.Partial h =
      let s = stands h.items h.stands fine in
      (subst (AreExactFor net i hops limit) (sym s.0) h.exact, subst (λ xs. AreStatesOf start xs e.states.items) (sym s.0) s.1)
  all_gathered E start m e failed stands fine none before after ended.Stopped h =
      let bad : ⊥ = (let c = h.cause in omega (arith, c, none)) in absurd bad
