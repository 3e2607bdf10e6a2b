-- What follows of answers where the object tells what it answers.
use Rattle.std.proofs.Common.{◌≡◌, ℕ, ◌+◌, ◌<◌, Bool, true, false, if◌then◌else◌, List, [], ◌∷◌, map, Some, None, Result, Ok, Err, IfOk, refl, sym, ◌∙◌, ap, arith}
use Rattle.sn_width.specs.declared.ids.NameId.{NameId}
use Rattle.sn_edge.specs.Told.{PatternsKept, PatternsTold}
use Rattle.sn_edge.specs.declared.patterns.Found.{Found}
use Rattle.pattern_answers.specs.declared.answers.PatternAnswers.{PatternAnswers}
use Rattle.pattern_answers.specs.declared.answers.PatternAnswers.TheVariants.{Answered, Refused}
use Rattle.pattern_answers.specs.Answers.{AnswersAll, IfAnswered, OnRefused, refused_site}
use Rattle.pattern_answers.specs.Asking.{IsStep, id_of, AsksNames, no_names, finds, misses, IsRefused, refused, found_before, missed_before, AsksAll, no_patterns, asks, AsksToRefusal, refused_here, refused_later}
use Rattle.pattern_answers.specs.Told.{ids_from, first_bad, bad_site}

-- what follows of an Ok
pub if_ok : {A E : Type 0} {P Q : A → Type 0} (r : Result A E) → ((x : A) → P x → Q x) → IfOk r P → IfOk r Q
if_ok (Ok x) f h = f x h
if_ok (Err e) f h = h

not_true : (b : Bool) → (b ≡ true → ⊥) → b ≡ false
not_true true h = absurd (h refl)
not_true false h = refl

-- a fact where there is a name
abbrev pub IfNamed : List (List ℕ) → Type 0 → Type 0
IfNamed [] P = Unit {0}
IfNamed (name ∷ names) P = P

abbrev pub AreNamed : List (List ℕ) → Type 0
AreNamed [] = ⊥
AreNamed (name ∷ names) = Unit {0}

named : (names : List (List ℕ)) {P : Type 0} → P → IfNamed names P
named [] p = tt
named (name ∷ names) p = p

both_named : (names : List (List ℕ)) {P Q R : Type 0} → IfNamed names P → IfNamed names Q → (P → Q → R) → IfNamed names R
both_named [] p q f = tt
both_named (name ∷ names) p q f = f p q

at_named : (names : List (List ℕ)) {P : Type 0} → AreNamed names → IfNamed names P → P
at_named [] h p = absurd h
at_named (name ∷ names) h p = p

module _ {S : Type 0} (told : S → PatternsTold) (gives : S → List ℕ → List ℕ → Found → S → Type 0) where
  kept_names : (pattern : List ℕ) (s : S) (id : ℕ) (names : List (List ℕ)) (ids : List NameId) (t : S)
      → AsksNames (IsStep told gives) pattern s id names ids t
      → PatternsKept (told s) (told t)
  kept_names pattern s id names ids t (no_names u k) = record { matches = refl; bad = refl; refusals = omega arith }
  kept_names pattern s id names ids t (finds u m v k name others rest step later) =
      let h = kept_names pattern m (k + 1) others rest v later in
      record { matches = h.matches ∙ step.kept.matches; bad = h.bad ∙ step.kept.bad; refusals = omega (arith, h.refusals, step.kept.refusals) }
  kept_names pattern s id names ids t (misses u m v k name others rest step later) =
      let h = kept_names pattern m (k + 1) others rest v later in
      record { matches = h.matches ∙ step.kept.matches; bad = h.bad ∙ step.kept.bad; refusals = omega (arith, h.refusals, step.kept.refusals) }

  -- the ids are those of the names that the pattern finds
  told_names : (pattern : List ℕ) (s : S) (id : ℕ) (names : List (List ℕ)) (ids : List NameId) (t : S)
      → AsksNames (IsStep told gives) pattern s id names ids t
      → (f : List ℕ → List ℕ → Bool) → (told s).matches ≡ Some f → ids ≡ ids_from id (f pattern) names
  told_names pattern s id names ids t (no_names u k) f e = refl
  told_names pattern s id names ids t (finds u m v k name others rest step later) f e =
      ap (λ l. id_of k ∷ l) (told_names pattern m (k + 1) others rest v later f (step.kept.matches ∙ e))
      ∙ sym (ap (λ b. if b then (id_of k ∷ ids_from (k + 1) (f pattern) others) else ids_from (k + 1) (f pattern) others) (step.yes f e))
  told_names pattern s id names ids t (misses u m v k name others rest step later) f e =
      told_names pattern m (k + 1) others rest v later f (step.kept.matches ∙ e)
      ∙ sym (ap (λ b. if b then (id_of k ∷ ids_from (k + 1) (f pattern) others) else ids_from (k + 1) (f pattern) others) (step.no f e))

  told_all : (names : List (List ℕ)) (s : S) (patterns : List (List ℕ × ℕ)) (lists : List (List NameId)) (t : S)
      → AsksAll (IsStep told gives) names s patterns lists t
      → (f : List ℕ → List ℕ → Bool) → (told s).matches ≡ Some f → lists ≡ map (λ pattern. ids_from 0 (f pattern.0) names) patterns
  told_all names s patterns lists t (no_patterns u) f e = refl
  told_all names s patterns lists t (asks u m v pattern others ids rest now later) f e =
      let kept = kept_names pattern.0 u 0 names ids m now in
      ap (λ l. l ∷ rest) (told_names pattern.0 u 0 names ids m now f e)
      ∙ ap (λ l. ids_from 0 (f pattern.0) names ∷ l) (told_all names m others rest v later f (kept.matches ∙ e))

  -- a pattern that answers is not bad
  good_names : (pattern : List ℕ) (s : S) (id : ℕ) (names : List (List ℕ)) (ids : List NameId) (t : S)
      → AsksNames (IsStep told gives) pattern s id names ids t
      → (b : List ℕ → Bool) → (told s).bad ≡ Some b → IfNamed names (b pattern ≡ false)
  good_names pattern s id names ids t (no_names u k) b e = tt
  good_names pattern s id names ids t (finds u m v k name others rest step later) b e = not_true (b pattern) (step.at_bad b e)
  good_names pattern s id names ids t (misses u m v k name others rest step later) b e = not_true (b pattern) (step.at_bad b e)

  -- one that is refused is bad
  bad_names : (pattern : List ℕ) (s : S) (names : List (List ℕ)) (t : S)
      → IsRefused (IsStep told gives) pattern s names t
      → (b : List ℕ → Bool) → (told s).bad ≡ Some b → b pattern ≡ true
  bad_names pattern s names t (refused u v name others step) b e = step.bad b e
  bad_names pattern s names t (found_before u m v name others step later) b e = bad_names pattern m others v later b (step.kept.bad ∙ e)
  bad_names pattern s names t (missed_before u m v name others step later) b e = bad_names pattern m others v later b (step.kept.bad ∙ e)

  -- and was asked for a name
  refused_named : (pattern : List ℕ) (s : S) (names : List (List ℕ)) (t : S)
      → IsRefused (IsStep told gives) pattern s names t → AreNamed names
  refused_named pattern s names t (refused u v name others step) = tt
  refused_named pattern s names t (found_before u m v name others step later) = tt
  refused_named pattern s names t (missed_before u m v name others step later) = tt

  -- and raised the count
  raised_names : (pattern : List ℕ) (s : S) (names : List (List ℕ)) (t : S)
      → IsRefused (IsStep told gives) pattern s names t → (told s).refusals < (told t).refusals
  raised_names pattern s names t (refused u v name others step) = step.refused
  raised_names pattern s names t (found_before u m v name others step later) =
      omega (arith, raised_names pattern m others v later, step.kept.refusals)
  raised_names pattern s names t (missed_before u m v name others step later) =
      omega (arith, raised_names pattern m others v later, step.kept.refusals)

  good_all : (names : List (List ℕ)) (s : S) (patterns : List (List ℕ × ℕ)) (lists : List (List NameId)) (t : S)
      → AsksAll (IsStep told gives) names s patterns lists t
      → (b : List ℕ → Bool) → (told s).bad ≡ Some b → IfNamed names (first_bad b patterns ≡ None)
  good_all names s patterns lists t (no_patterns u) b e = named names refl
  good_all names s patterns lists t (asks u m v pattern others ids rest now later) b e =
      let kept = kept_names pattern.0 u 0 names ids m now in
      both_named names (good_names pattern.0 u 0 names ids m now b e) (good_all names m others rest v later b (kept.bad ∙ e))
      (λ (good : b pattern.0 ≡ false) (none : first_bad b others ≡ None).
      ap (λ x. if x then Some pattern.1 else first_bad b others) good ∙ none)

  bad_to_refusal : (names : List (List ℕ)) (s : S) (patterns : List (List ℕ × ℕ)) (site : ℕ) (t : S)
      → AsksToRefusal (IsStep told gives) names s patterns site t
      → (b : List ℕ → Bool) → (told s).bad ≡ Some b → AreNamed names × (first_bad b patterns ≡ Some site)
  bad_to_refusal names s patterns site t (refused_here u v pattern others now) b e = (
    refused_named pattern.0 u names v now,
    ap (λ x. if x then Some pattern.1 else first_bad b others) (bad_names pattern.0 u names v now b e),
  )
  bad_to_refusal names s patterns site t (refused_later u m v pattern others ids place now later) b e =
      let kept = kept_names pattern.0 u 0 names ids m now in
      let rest = bad_to_refusal names m others place v later b (kept.bad ∙ e) in (
        rest.0,
        ap (λ x. if x then Some pattern.1 else first_bad b others) (at_named names rest.0 (good_names pattern.0 u 0 names ids m now b e)) ∙ rest.1,
      )

  raised_to_refusal : (names : List (List ℕ)) (s : S) (patterns : List (List ℕ × ℕ)) (site : ℕ) (t : S)
      → AsksToRefusal (IsStep told gives) names s patterns site t → (told s).refusals < (told t).refusals
  raised_to_refusal names s patterns site t (refused_here u v pattern others now) = raised_names pattern.0 u names v now
  raised_to_refusal names s patterns site t (refused_later u m v pattern others ids place now later) =
      let kept = kept_names pattern.0 u 0 names ids m now in
      omega (arith, kept.refusals, raised_to_refusal names m others place v later)

  pub raised : (names : List (List ℕ)) (patterns : List (List ℕ × ℕ)) (s : S) (answers : PatternAnswers) (t : S)
      → AnswersAll (IsStep told gives) names patterns s answers t → OnRefused answers ((told s).refusals < (told t).refusals)
  raised names patterns s (Answered lists) t h = tt
  raised names patterns s (Refused site) t h = raised_to_refusal names s patterns site t h

  pub told_found : (names : List (List ℕ)) (patterns : List (List ℕ × ℕ)) (s : S) (answers : PatternAnswers) (t : S)
      → AnswersAll (IsStep told gives) names patterns s answers t → (f : List ℕ → List ℕ → Bool) → (told s).matches ≡ Some f
      → IfAnswered answers (λ lists. lists ≡ map (λ pattern. ids_from 0 (f pattern.0) names) patterns)
  told_found names patterns s (Answered lists) t h f e = told_all names s patterns (map (λ ids. ids.items) lists.items) t h f e
  told_found names patterns s (Refused site) t h f e = tt

  pub told_bad : (names : List (List ℕ)) (patterns : List (List ℕ × ℕ)) (s : S) (answers : PatternAnswers) (t : S)
      → AnswersAll (IsStep told gives) names patterns s answers t → (b : List ℕ → Bool) → (told s).bad ≡ Some b
      → refused_site answers ≡ bad_site b names patterns
  told_bad [] patterns s (Answered lists) t h b e = refl
  told_bad (name ∷ names) patterns s (Answered lists) t h b e =
      sym (good_all (name ∷ names) s patterns (map (λ ids. ids.items) lists.items) t h b e)
  told_bad [] patterns s (Refused site) t h b e = let no : ⊥ = (bad_to_refusal [] s patterns site t h b e).0 in absurd no
  told_bad (name ∷ names) patterns s (Refused site) t h b e = sym (bad_to_refusal (name ∷ names) s patterns site t h b e).1
