-- What the answers of patterns say of an acceptance.
use Rattle.std.proofs.Common.{◌≡◌, ◌∙◌, sym, ap, refl, ℕ, suc, ◌+◌, ◌≤◌, List, [], ◌∷◌, length, Option, Some, Err, arith}
use Rattle.std.specs.List.{AllByRecursion}
use Rattle.sn_width.specs.declared.ids.NameId.{NameId}
use Rattle.sn_edge.specs.declared.patterns.Found.{Found}
use Rattle.net_check.specs.declared.fault.AcceptFault.{AcceptFault}
use Rattle.net_check.specs.declared.fault.AcceptFault.TheVariants.{Refused, NoMemory}
use Rattle.net_check.specs.Acceptance.{IsBadPattern, IsByPatterns}
use Rattle.net_check.specs.Sound.{AreIds, AreIdsFrom}
use Rattle.pattern_answers.specs.Asking.{AsksAll, no_patterns, asks, AsksNames, no_names, finds, misses}

pub asked_length : {S : Type 0} (step : S → List ℕ → List ℕ → Found → S → Type 0) (names : List (List ℕ)) (s t : S) (patterns : List (List ℕ × ℕ)) (lists : List (List NameId))
    → AsksAll step names s patterns lists t → length lists ≡ length patterns
asked_length step names s t patterns lists (no_patterns u) = refl
asked_length step names s t patterns lists (asks u m v pattern others ids rest now later) = ap suc (asked_length step names m v others rest later)

from_less : (count first more : ℕ) (ids : List NameId) → first ≤ more → AreIdsFrom count more ids → AreIdsFrom count first ids
from_less count first more [] le h = tt
from_less count first more (id ∷ ids) le h = (omega (arith, le, h.0), h.1, h.2)

-- asked for names whose ids begin at a number, a pattern finds ids from there on, below their end
names_ascend : {S : Type 0} (step : S → List ℕ → List ℕ → Found → S → Type 0) (pattern : List ℕ) (s t : S) (id count : ℕ) (names : List (List ℕ)) (ids : List NameId)
    → AsksNames step pattern s id names ids t → count ≡ id + length names → AreIdsFrom count id ids
names_ascend step pattern s t id count names ids (no_names u i) end = tt
names_ascend step pattern s t id count names ids (finds u m v i name others rest now later) end = (
  omega arith,
  omega (arith, end),
  from_less count (suc id) (id + 1) rest (omega arith)
      (names_ascend step pattern m v (id + 1) count others rest later (omega (arith, end))),
)
names_ascend step pattern s t id count names ids (misses u m v i name others rest now later) end =
    from_less count id (id + 1) rest (omega arith) (names_ascend step pattern m v (id + 1) count others rest later (omega (arith, end)))

pub asked_ascend : {S : Type 0} (step : S → List ℕ → List ℕ → Found → S → Type 0) (names : List (List ℕ)) (s t : S) (patterns : List (List ℕ × ℕ)) (lists : List (List NameId))
    → AsksAll step names s patterns lists t → AllByRecursion (AreIds (length names)) lists
asked_ascend step names s t patterns lists (no_patterns u) = tt
asked_ascend step names s t patterns lists (asks u m v pattern others ids rest now later) =
    (names_ascend step pattern.0 u m 0 (length names) names ids now (omega arith), asked_ascend step names m v others rest later)

pub by_pattern : (bad : Option ℕ) (number : ℕ) (fault : AcceptFault) → bad ≡ Some number → IsBadPattern number fault → IsByPatterns bad (Err fault)
by_pattern bad number (Refused site rule) is (at, same) = (is ∙ ap Some (sym at), same)
by_pattern bad number NoMemory is told = tt
