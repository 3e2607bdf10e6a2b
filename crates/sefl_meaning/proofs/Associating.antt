-- One run or course after another, and a third one after both.
use Rattle.std.proofs.Common.{◌≡◌, ℕ, List, refl, append_assoc}
use Rattle.sefl_meaning.specs.declared.walk.Decision.{Decision}
use Rattle.sefl_meaning.specs.Runs.{Exit, off, go, forked, failed, Ran, noting, then_next, then_run}
use Rattle.sefl_meaning.specs.Courses.{Progress, Course, ends, asks, off_or, after}

noted_first : (exit : Exit) (ds : List Decision) (r : Ran) (next : Progress ℕ → Ran) →
    then_next exit (noting ds r) next ≡ noting ds (then_next exit r next)
noted_first off ds r next = λ i.
    record (next r.progress) { decisions = append_assoc ds r.decisions (next r.progress).decisions i }
noted_first (go port) ds r next = refl
noted_first (forked ports) ds r next = refl
noted_first (failed failure site) ds r next = refl

by_exit : (exit : Exit) (ds : List Decision) (p : Progress ℕ) (first second : Progress ℕ → Ran) →
    then_run (then_run (record { decisions = ds; progress = p; exit = exit }) first) second
    ≡ then_run (record { decisions = ds; progress = p; exit = exit }) (λ q. then_run (first q) second)
by_exit off ds p first second = noted_first (first p).exit ds (first p) second
by_exit (go port) ds p first second = refl
by_exit (forked ports) ds p first second = refl
by_exit (failed failure site) ds p first second = refl

pub runs_associate : (r : Ran) (first second : Progress ℕ → Ran) →
    then_run (then_run r first) second ≡ then_run r (λ p. then_run (first p) second)
runs_associate r first second = by_exit r.exit r.decisions r.progress first second

module _ {V F : Type 0} where
  off_associates : (exit : Exit) (p : Progress V) (first second : Progress V → Course V F) →
      after (off_or exit p first) second ≡ off_or exit p (λ q. after (first q) second)
  off_associates off p first second = refl
  off_associates (go port) p first second = refl
  off_associates (forked ports) p first second = refl
  off_associates (failed failure site) p first second = refl

  pub courses_associate : (c : Course V F) (first second : Progress V → Course V F) →
      after (after c first) second ≡ after c (λ q. after (first q) second)
  courses_associate (ends p exit) first second = off_associates exit p first second
  courses_associate (asks asking p test held broken) first second = λ i.
      asks asking p test (courses_associate held first second i) (courses_associate broken first second i)
