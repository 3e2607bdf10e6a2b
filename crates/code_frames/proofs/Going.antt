-- The counter while a run goes on.
use Rattle.std.proofs.Common.{◌≡◌, ℕ, suc, ◌+◌, ap, ◌∙◌, arith}
use Rattle.code_frames.specs.Frames.{GoesOn}

module _ {C : Type 0} where
  -- nothing began
  pub stands : (old new : ℕ) (whole left : ℕ → C) → new ≡ old → ((begun : ℕ) → left begun ≡ whole begun) → GoesOn old new whole left
  stands old new whole left still same = record {
    taken = 0;
    counted = omega (arith, still);
    same = λ begun. ap left (none begun) ∙ same begun;
  }
    where
      none : (begun : ℕ) → begun + 0 ≡ begun
      none begun = omega arith

  -- one instruction began
  pub begins : (old new : ℕ) (whole left : ℕ → C) → new ≡ old + 1 → ((begun : ℕ) → left (suc begun) ≡ whole begun) → GoesOn old new whole left
  begins old new whole left one same = record {
    taken = 1;
    counted = one;
    same = λ begun. ap left (more begun) ∙ same begun;
  }
    where
      more : (begun : ℕ) → begun + 1 ≡ suc begun
      more begun = omega arith

  -- one part of the run, and then another
  pub both : (old mid new : ℕ) (whole here left : ℕ → C) → GoesOn old mid whole here → GoesOn mid new here left → GoesOn old new whole left
  both old mid new whole here left first second = record {
    taken = first.taken + second.taken;
    counted = omega (arith, first.counted, second.counted);
    same = λ begun. ap left (apart begun) ∙ second.same (begun + first.taken) ∙ first.same begun;
  }
    where
      apart : (begun : ℕ) → begun + (first.taken + second.taken) ≡ begun + first.taken + second.taken
      apart begun = omega arith
