-- Records that are made of what is handed over.
use Rattle.std.proofs.Common.{◌≡◌, ℕ, ◌+◌, ◌≤◌, ◌<◌, inl, inr, List, [], ◌∷◌, ◌++◌, map, Result, Ok, Err, refl, sym, ap, subst, ◌∙◌}
use Rattle.std.specs.List.{AllByRecursion}
use Rattle.std.proofs.lemmas.List.{map-append, same_from_push}
use Rattle.sefl_meaning.specs.Network.{Network, Entry}
use Rattle.path_records.specs.declared.records.Record.{Record}
use Rattle.exact_records.specs.Exact.{IsTried, IsUnexplored, SomeOne}
use Rattle.exact_records.specs.Packets.{AreExactFor, AreExactSoFarFor, AreExactUpToFor}
use Rattle.exact_records.specs.Records.{RecordTree}
use Rattle.exact_records.specs.View.{record_tree, record_trees}
use Rattle.exact_records.specs.Work.{work_of}
use Rattle.exact_records.proofs.Lists.{last_of}
use Rattle.path_exec.specs.declared.exploration.Ended.{Ended}
use Rattle.path_exec.specs.declared.exploration.Ended.TheVariants.{Whole, Partial, Stopped}
use Rattle.path_exec.specs.declared.receiver.Took.{Took}
use Rattle.path_exec.specs.declared.receiver.Took.TheVariants.{More, Stop, NoMemory}
use Rattle.path_exec.specs.Handing.{Handed, handed}
use Rattle.path_exec.specs.Receiving.{IsSame, Receiving, TookAs}
use Rattle.symbolic_engine.specs.declared.found.Found.{Found}
use Rattle.symbolic_engine.specs.declared.found.Found.TheVariants.{Unexplored}
use Rattle.symbolic_engine.specs.Exploring.{EndsStoppedFor, ExploredFor, ObservedFor}
use Rattle.symbolic_engine.specs.Finds.{handed_tree}
use Rattle.symbolic_engine.specs.Recorded.{ByRecords, recording_of}

abbrev Trees : List (Handed Found) → List RecordTree
Trees items = map handed_tree items

-- ---- one record more

pub one_recorded : (Are AreMore : List Record → Type 0) (made : Record) (item : Handed Found) → record_tree made ≡ handed_tree item
    → ((records : List Record) → Are records → AreMore (records ++ made ∷ []))
    → (items : List (Handed Found)) → ByRecords Are items → ByRecords AreMore (items ++ item ∷ [])
one_recorded Are AreMore made item is more items h = record {
  records = h.records ++ made ∷ [];
  same = map-append record_tree h.records (made ∷ [])
      ∙ ((λ k. h.same k ++ is k ∷ []) ∙ sym (map-append handed_tree items (item ∷ [])));
  are = more h.records h.are;
}

pub took_recorded : (m n : Receiving Record) (known name after : ℕ) (made : Record) (item : Handed Found) → record_tree made ≡ handed_tree item → IsSame m n → (answer : Took)
    → TookAs m n made answer → TookAs (recording_of m known name) (recording_of n known after) item answer
took_recorded m n known name after made item is same More took = one_recorded _ _ made item is (λ rs h. (took rs h.0, same.target ∙ h.1))
took_recorded m n known name after made item is same Stop took = (took.0, one_recorded _ _ made item is (λ rs h. (took.1 rs h.0, same.target ∙ h.1)))
took_recorded m n known name after made item is same NoMemory took =
    λ items h. record { records = h.records; same = h.same; are = (took h.records h.are.0, same.target ∙ h.are.1) }

-- ---- how an exploration ends

module _ (net : Network) (i : Entry) (hops limit before after : ℕ) where
  abbrev Whole' : List RecordTree → Type 0
  Whole' xs = (exact : AreExactFor net i hops limit xs) × AllByRecursion IsTried xs × (after ≤ before + work_of exact.start xs)

  abbrev Partial' : List RecordTree → Type 0
  Partial' xs = (exact : AreExactFor net i hops limit xs) × SomeOne IsUnexplored xs × (after ≤ before + work_of exact.start xs)

  abbrev UpTo' : List RecordTree → RecordTree → Type 0
  UpTo' xs x = (exact : AreExactUpToFor net i hops limit xs x) × (after ≤ before + work_of exact.start (xs ++ x ∷ []))

  stopped_by : (m : Receiving Record) (stops : ℕ) (xs : List RecordTree) (x : RecordTree) (front : List Record) (last : Record)
      → record_trees front ++ record_tree last ∷ [] ≡ xs ++ x ∷ [] → UpTo' xs x → m.StoppedIn (front ++ last ∷ []) → stops < m.stops
      → EndsStoppedFor net i hops limit stops m before after
  stopped_by m stops xs x front last e exact stopped cause =
      let (fronts, ends) = same_from_push (record_trees front) xs (record_tree last) x e in
      let t = subst (λ ys. UpTo' ys (record_tree last)) (sym fronts) (subst (UpTo' xs) (sym ends) exact) in
      record {
        items = front;
        last = last;
        stopped = stopped;
        exact = t.0;
        cause = cause;
        spent = subst (λ ys. after ≤ before + work_of t.0.start ys) (sym (map-append record_tree front (last ∷ []))) t.1;
      }

  no_end : (xs : List RecordTree) (x : RecordTree) → [] ≡ xs ++ x ∷ [] → ⊥
  no_end [] x e = cc
  no_end (y ∷ xs) x e = let bad : [] ≡ y ∷ (xs ++ x ∷ []) = e in cc

  -- what is observed, where each list of records that the observer stands for is one of a receiver
  module _ (o : Receiving (Handed Found)) (m : Receiving Record) (stands : (items : List (Handed Found)) → o.StandsFor items → ByRecords m.StandsFor items)
      (stopped : (items : List (Handed Found)) → o.StoppedIn items → ByRecords m.StoppedIn items) (same : o.stops ≡ m.stops) where
    pub recorded_for : {E : Type 0} (stops : ℕ) (r : Result Ended E) → ObservedFor net i hops limit stops o before after r → ExploredFor net i hops limit stops m before after r
    recorded_for stops (Ok Whole) h =
        let k = stands h.items h.stands in
        let t = subst Whole' (sym k.same) (h.exact, h.tried, h.spent) in
        record { items = k.records; stands = k.are; exact = t.0; tried = t.1; spent = t.2 }
    recorded_for stops (Ok Partial) h =
        let k = stands h.items h.stands in
        let t = subst Partial' (sym k.same) (h.exact, h.untried, h.spent) in
        record { items = k.records; stands = k.are; exact = t.0; untried = t.1; spent = t.2 }
    recorded_for stops (Ok Stopped) h =
        let k = stopped (h.items ++ h.last ∷ []) h.stopped in
        let trees : Trees (h.items ++ h.last ∷ []) ≡ Trees h.items ++ handed_tree h.last ∷ [] = map-append handed_tree h.items (h.last ∷ []) in
        let exact : UpTo' (Trees h.items) (handed_tree h.last) = (h.exact, subst (λ ys. after ≤ before + work_of h.exact.start ys) trees h.spent) in
        let cause : stops < m.stops = subst (λ n. stops < n) same h.cause in
        elim (last_of k.records) [
          | inl none ↦ absurd (no_end (Trees h.items) (handed_tree h.last) (ap record_trees (sym none) ∙ (k.same ∙ trees)))
          | inr q ↦ stopped_by m stops (Trees h.items) (handed_tree h.last) q.0 q.1
              (sym (map-append record_tree q.0 (q.1 ∷ [])) ∙ (ap record_trees (sym q.2) ∙ (k.same ∙ trees))) exact (subst m.StoppedIn q.2 k.are) cause
        ]
    recorded_for stops (Err e) h =
        let k = stands h.items h.stands in
        record { items = k.records; stands = k.are; exact = subst (AreExactSoFarFor net i hops limit) (sym k.same) h.exact }

  -- ---- where records are made for a receiver of them
  module _ (m : Receiving Record) (known name : ℕ) where
    made_for : (Are : List Record → Type 0) (items : List (Handed Found)) → ByRecords (λ rs. Are rs × (m.target ≡ known)) items → ByRecords Are items
    made_for Are items h = record { records = h.records; same = h.same; are = h.are.0 }

    pub recording_for : {E : Type 0} (stops : ℕ) (r : Result Ended E) → ObservedFor net i hops limit stops (recording_of m known name) before after r
        → ExploredFor net i hops limit stops m before after r
    recording_for stops r h = recorded_for (recording_of m known name) m (made_for m.StandsFor) (made_for m.StoppedIn) refl stops r h

    -- the receiver puts the records into what it put them into before
    pub target_still : {E : Type 0} (stops : ℕ) (r : Result Ended E) → ObservedFor net i hops limit stops (recording_of m known name) before after r → m.target ≡ known
    target_still stops (Ok Whole) h = h.stands.are.1
    target_still stops (Ok Partial) h = h.stands.are.1
    target_still stops (Ok Stopped) h = h.stopped.are.1
    target_still stops (Err e) h = h.stands.are.1

-- and is the same still
pub same_recorded : (m n : Receiving Record) (known name after : ℕ) → m.target ≡ known → n.target ≡ known → IsSame (recording_of m known name) (recording_of n known after)
    → ((made : Record) → m.Takes made) → IsSame m n
same_recorded m n known name after old new same all = record {
  target = new ∙ sym old;
  stops = same.stops;
  takes = λ made t. same.takes (handed [] Unexplored) all made;
}
