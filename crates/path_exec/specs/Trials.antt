-- Places whose condition was decided, and records of paths.
use Rattle.std.specs.Prelude.{ℕ, ◌≡◌, length}
use Rattle.lin_term.specs.Terms.{LinearTerm}
use Rattle.path_cond.specs.Seen.{AllTyped, itself}
use Rattle.refutation_check.specs.declared.outcome.Verdict.{Verdict}
use Rattle.sefl_meaning.specs.declared.walk.End.{End}
use Rattle.sefl_meaning.specs.Courses.{Progress}
use Rattle.sefl_meaning.specs.Trees.{over}
use Rattle.sefl_meaning.specs.Fields.{fields_of}
use Rattle.exact_records.specs.Records.{IsFoundRefuted, IsVerdictOn, path}
use Rattle.exact_records.specs.Points.{Point, condition_at, filled_verdict}
use Rattle.path_exec.specs.declared.engine.Tried.{Tried}
use Rattle.path_exec.specs.declared.engine.Tried.TheVariants.{Open, Refuted}
use Rattle.path_exec.specs.Location.{point_at}
use Rattle.path_exec.specs.Views.{IsMade, Views}

module _ {P O N D T : Type 0} (x : Views P O N D T) where
  -- the place stands there, and the finding is the verdict on its condition
  pub record IsOpenAt (begun : ℕ) (c : Point) (place : P) (finding : D) : Type 0 where
    pub stands : point_at begun (x.place_at place) ≡ c
    pub typed : AllTyped itself c.widths (condition_at x.start c).entries
    pub verdict : IsVerdictOn (condition_at x.start c) (x.verdict_of finding)

  -- the condition there was decided
  abbrev pub IsTrial : ℕ → Point → Tried P D → Type 0
  IsTrial begun c (Open place finding) = IsOpenAt begun c place finding
  IsTrial begun c (Refuted refutation) = IsFoundRefuted (condition_at x.start c) refutation

  -- the record of the path that is over there: the verdict has a value for each symbol
  abbrev pub IsPathOf : Point → Verdict → T → Type 0
  IsPathOf a verdict made = (p : Progress LinearTerm) (end' : End) → a.tree ≡ over p end'
      → IsMade x (path a.decisions a.places end' (fields_of p.state) (filled_verdict (length a.widths) verdict)) made
