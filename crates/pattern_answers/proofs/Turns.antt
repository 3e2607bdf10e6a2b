-- The turns of the loops that ask.
use Rattle.std.proofs.Common.{◌≡◌, ℕ, suc, ◌+◌, ◌≤◌, Bool, true, false, List, [], ◌∷◌, ◌++◌, length, drop, Some, Vec, Global, slice_get, sym, ◌∙◌, ap, subst, add-one, drop-cons, append_assoc}
use Rattle.std.proofs.lemmas.List.{append-nil, map-append, drop_all}
use Rattle.std.proofs.lemmas.Option.{slice_get_within, get_or_from_slice_get}
use Rattle.sn_width.specs.declared.ids.NameId.{NameId}
use Rattle.sn_edge.specs.declared.patterns.Found.{Found}
use Rattle.sn_edge.specs.declared.patterns.Found.TheVariants.{Bad}
use Rattle.pattern_answers.specs.Answers.{found_as, with_found, lists_of}
use Rattle.pattern_answers.specs.Asking.{id_of, AsksNames, no_names, finds, misses, IsRefused, refused, found_before, missed_before, AsksAll, no_patterns, asks, AsksToRefusal, refused_here, refused_later}

drop_at : {A : Type 0} (xs : List A) (i : ℕ) (x : A) → slice_get xs i ≡ Some x → drop i xs ≡ x ∷ drop (i + 1) xs
drop_at {A} xs i x at =
    let within = slice_get_within xs i x at in
    let cut : drop i xs ≡ x ∷ drop (suc i) xs = drop-cons xs i x within ∙ ap (λ (y : A). y ∷ drop (suc i) xs) (get_or_from_slice_get xs i x x at) in
    rw add-one cut

module _ {S : Type 0} (step : S → List ℕ → List ℕ → Found → S → Type 0) where
  -- a name is asked for, and then the others
  asks_first : (pattern : List ℕ) (s m t : S) (id : ℕ) (name : List ℕ) (rest : List (List ℕ)) (ids : List NameId) (found : List NameId) (is_found : Bool)
      → step s pattern name (found_as (Some is_found)) m → AsksNames step pattern m (id + 1) rest ids t
      → (all : List (List ℕ)) (start : S)
      → ((more : List NameId) (u : S) → AsksNames step pattern s id (name ∷ rest) more u → AsksNames step pattern start 0 all (found ++ more) u)
      → AsksNames step pattern start 0 all (with_found is_found (id_of id) found ++ ids) t
  asks_first pattern s m t id name rest ids found true now later all start before =
      let P : List NameId → Type 0 = λ l. AsksNames step pattern start 0 all l t in
      subst P (sym (append_assoc found (id_of id ∷ []) ids)) (before (id_of id ∷ ids) t (finds s m t id name rest ids now later))
  asks_first pattern s m t id name rest ids found false now later all start before =
      before ids t (misses s m t id name rest ids now later)

  pub asks_on : (pattern : List ℕ) (s m start : S) (id : ℕ) (name : List ℕ) (all : List (List ℕ)) (old new : List NameId) (is_found : Bool)
      → slice_get all id ≡ Some name → new ≡ with_found is_found (id_of id) old → step s pattern name (found_as (Some is_found)) m
      → ((more : List NameId) (u : S) → AsksNames step pattern s id (drop id all) more u → AsksNames step pattern start 0 all (old ++ more) u)
      → (ids : List NameId) (t : S) → AsksNames step pattern m (id + 1) (drop (id + 1) all) ids t → AsksNames step pattern start 0 all (new ++ ids) t
  asks_on pattern s m start id name all old new is_found at made now before ids t later =
      let P : List NameId → Type 0 = λ l. AsksNames step pattern start 0 all (l ++ ids) t in
      subst P (sym made) (asks_first pattern s m t id name (drop (id + 1) all) ids old is_found now later all start
      (λ more u h. let Q : List (List ℕ) → Type 0 = λ l. AsksNames step pattern s id l more u in before more u (subst Q (sym (drop_at all id name at)) h)))

  refuses_later : (pattern : List ℕ) (s m t : S) (name : List ℕ) (rest : List (List ℕ)) (is_found : Bool)
      → step s pattern name (found_as (Some is_found)) m → IsRefused step pattern m rest t → IsRefused step pattern s (name ∷ rest) t
  refuses_later pattern s m t name rest true now later = found_before s m t name rest now later
  refuses_later pattern s m t name rest false now later = missed_before s m t name rest now later

  pub refuses_on : (pattern : List ℕ) (s m start : S) (id : ℕ) (name : List ℕ) (all : List (List ℕ)) (is_found : Bool)
      → slice_get all id ≡ Some name → step s pattern name (found_as (Some is_found)) m
      → ((u : S) → IsRefused step pattern s (drop id all) u → IsRefused step pattern start all u)
      → (t : S) → IsRefused step pattern m (drop (id + 1) all) t → IsRefused step pattern start all t
  refuses_on pattern s m start id name all is_found at now before t later =
      let Q : List (List ℕ) → Type 0 = λ l. IsRefused step pattern s l t in
      before t (subst Q (sym (drop_at all id name at)) (refuses_later pattern s m t name (drop (id + 1) all) is_found now later))

  pub asks_end : (pattern : List ℕ) (s start : S) (id : ℕ) (all : List (List ℕ)) (found : List NameId) → length all ≤ id
      → ((more : List NameId) (u : S) → AsksNames step pattern s id (drop id all) more u → AsksNames step pattern start 0 all (found ++ more) u)
      → AsksNames step pattern start 0 all found s
  asks_end pattern s start id all found past before =
      let P : List NameId → Type 0 = λ l. AsksNames step pattern start 0 all l s in
      let Q : List (List ℕ) → Type 0 = λ l. AsksNames step pattern s id l [] s in
      subst P (append-nil found) (before [] s (subst Q (sym (drop_all id all past)) (no_names s id)))

  pub refuses_end : (pattern : List ℕ) (s t start : S) (id : ℕ) (name : List ℕ) (all : List (List ℕ))
      → slice_get all id ≡ Some name → step s pattern name Bad t
      → ((u : S) → IsRefused step pattern s (drop id all) u → IsRefused step pattern start all u) → IsRefused step pattern start all t
  refuses_end pattern s t start id name all at now before =
      let Q : List (List ℕ) → Type 0 = λ l. IsRefused step pattern s l t in
      before t (subst Q (sym (drop_at all id name at)) (refused s t name (drop (id + 1) all) now))

  -- the same of patterns

  pub asks_all_on : (names : List (List ℕ)) (s m start : S) (index : ℕ) (pattern : List ℕ × ℕ) (all : List (List ℕ × ℕ)) (old new : List (Vec NameId Global)) (ids : Vec NameId Global)
      → slice_get all index ≡ Some pattern → new ≡ old ++ ids ∷ [] → AsksNames step pattern.0 s 0 names ids.items m
      → ((more : List (List NameId)) (u : S) → AsksAll step names s (drop index all) more u → AsksAll step names start all (lists_of old ++ more) u)
      → (lists : List (List NameId)) (t : S) → AsksAll step names m (drop (index + 1) all) lists t → AsksAll step names start all (lists_of new ++ lists) t
  asks_all_on names s m start index pattern all old new ids at made now before lists t later =
      let P : List (List NameId) → Type 0 = λ l. AsksAll step names start all l t in
      let Q : List (List ℕ × ℕ) → Type 0 = λ l. AsksAll step names s l (ids.items ∷ lists) t in
      let shape : lists_of old ++ ids.items ∷ lists ≡ lists_of new ++ lists
      = sym (append_assoc (lists_of old) (ids.items ∷ []) lists)
      ∙ sym (ap (λ l. lists_of l ++ lists) made ∙ ap (λ l. l ++ lists) (map-append (λ v. v.items) old (ids ∷ []))) in
      subst P shape (before (ids.items ∷ lists) t (subst Q (sym (drop_at all index pattern at)) (asks s m t pattern (drop (index + 1) all) ids.items lists now later)))

  pub refuses_all_on : (names : List (List ℕ)) (s m start : S) (index : ℕ) (pattern : List ℕ × ℕ) (all : List (List ℕ × ℕ)) (ids : List NameId)
      → slice_get all index ≡ Some pattern → AsksNames step pattern.0 s 0 names ids m
      → ((site : ℕ) (u : S) → AsksToRefusal step names s (drop index all) site u → AsksToRefusal step names start all site u)
      → (site : ℕ) (t : S) → AsksToRefusal step names m (drop (index + 1) all) site t → AsksToRefusal step names start all site t
  refuses_all_on names s m start index pattern all ids at now before site t later =
      let Q : List (List ℕ × ℕ) → Type 0 = λ l. AsksToRefusal step names s l site t in
      before site t (subst Q (sym (drop_at all index pattern at)) (refused_later s m t pattern (drop (index + 1) all) ids site now later))

  pub asks_all_end : (names : List (List ℕ)) (s start : S) (index : ℕ) (all : List (List ℕ × ℕ)) (lists : List (List NameId)) → length all ≤ index
      → ((more : List (List NameId)) (u : S) → AsksAll step names s (drop index all) more u → AsksAll step names start all (lists ++ more) u)
      → AsksAll step names start all lists s
  asks_all_end names s start index all lists past before =
      let P : List (List NameId) → Type 0 = λ l. AsksAll step names start all l s in
      let Q : List (List ℕ × ℕ) → Type 0 = λ l. AsksAll step names s l [] s in
      subst P (append-nil lists) (before [] s (subst Q (sym (drop_all index all past)) (no_patterns s)))

  pub refuses_all_end : (names : List (List ℕ)) (s t start : S) (index : ℕ) (pattern : List ℕ × ℕ) (all : List (List ℕ × ℕ))
      → slice_get all index ≡ Some pattern → IsRefused step pattern.0 s names t
      → ((site : ℕ) (u : S) → AsksToRefusal step names s (drop index all) site u → AsksToRefusal step names start all site u)
      → AsksToRefusal step names start all pattern.1 t
  refuses_all_end names s t start index pattern all at now before =
      let Q : List (List ℕ × ℕ) → Type 0 = λ l. AsksToRefusal step names s l pattern.1 t in
      before pattern.1 t (subst Q (sym (drop_at all index pattern at)) (refused_here s t pattern (drop (index + 1) all) now))
