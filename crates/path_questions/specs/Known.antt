-- What is known of a question.
use Rattle.std.specs.Prelude.{◌≡◌, Bool, false, true, []}
use Rattle.path_questions.specs.Telling.{Outcome, found, left_open}
use Rattle.path_questions.specs.declared.kept.Kept.{Kept}
use Rattle.path_questions.specs.declared.kept.Kept.TheVariants.{Found, LeftOpen}

-- the hit, or the records that leave it open
abbrev pub outcome_seen : Kept → Outcome
outcome_seen (Found number values) = found number values
outcome_seen (LeftOpen numbers) = left_open numbers.items

-- the question has its hit
abbrev pub is_found : Kept → Bool
is_found (Found number values) = true
is_found (LeftOpen numbers) = false

abbrev pub IsNothing : Kept → Type 0
IsNothing (Found number values) = ⊥
IsNothing (LeftOpen numbers) = numbers.items ≡ []
