-- Answers and counts whose numbers have texts of their own.
use Rattle.std.specs.Prelude.{ℕ, ◌<◌, ◌^◌, List, [], ◌∷◌, Option, None, Some}
use Rattle.std.specs.List.{AllByRecursion}
use Rattle.report_forms.specs.Fits.{Fit128}
use Rattle.queries.specs.Answers.{Reply, yes, no, unknown}
use Rattle.record_checks.specs.declared.counts.Confirmed.{Confirmed}
use Rattle.grow_command.specs.declared.counts.Counts.{Counts}

abbrev pub AllBelow : ℕ → List ℕ → Type 0
AllBelow most = AllByRecursion (λ n. n < most)

abbrev pub Fit64 : List ℕ → Type 0
Fit64 = AllBelow (2 ^ 64)

abbrev pub number_of_hit : Option (ℕ × List ℕ) → List ℕ
number_of_hit None = []
number_of_hit (Some hit) = hit.0 ∷ []

abbrev pub values_of_hit : Option (ℕ × List ℕ) → List ℕ
values_of_hit None = []
values_of_hit (Some hit) = hit.1

-- the numbers of the records that an answer names
abbrev pub numbers_of : Reply → List ℕ
numbers_of (yes hit) = number_of_hit hit
numbers_of (no hit) = number_of_hit hit
numbers_of (unknown numbers) = numbers

-- the numbers of the packet that shows it
abbrev pub values_of : Reply → List ℕ
values_of (yes hit) = values_of_hit hit
values_of (no hit) = values_of_hit hit
values_of (unknown numbers) = []

-- the numbers of records have 64 bits, and those of a packet 128
abbrev pub ReplyFits : Reply → Type 0
ReplyFits reply = Fit64 (numbers_of reply) × Fit128 (values_of reply)

abbrev pub AllFit : List Reply → Type 0
AllFit = AllByRecursion ReplyFits

-- each of the counts has 64 bits
pub record CountsFit (c : Counts) : Type 0 where
  pub stopped : c.stopped < 2 ^ 64
  pub delivered : c.delivered < 2 ^ 64
  pub failed : c.failed < 2 ^ 64
  pub cut : c.cut < 2 ^ 64
  pub sat : c.sat < 2 ^ 64
  pub undecided : c.undecided < 2 ^ 64
  pub pruned : c.pruned < 2 ^ 64
  pub unexplored : c.unexplored < 2 ^ 64

-- the seed, the number of boxes and the counts have 64 bits
pub record SummaryFits (seed boxes : ℕ) (counts : Counts) : Type 0 where
  pub low_seed : seed < 2 ^ 64
  pub few_boxes : boxes < 2 ^ 64
  pub counted : CountsFit counts

pub record ConfirmedFits (c : Confirmed) : Type 0 where
  pub sat : c.sat < 2 ^ 64
  pub undecided : c.undecided < 2 ^ 64
  pub pruned : c.pruned < 2 ^ 64
  pub unexplored : c.unexplored < 2 ^ 64
