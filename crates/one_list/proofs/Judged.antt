-- A condition has one verdict.
use Rattle.std.proofs.Common.{◌≡◌, ◌∙◌, ℕ, List, sym, ap, arith}
use Rattle.path_cond.specs.Seen.{itself}
use Rattle.refutation_check.specs.Seen.{IsMetBy, IsRefuted, IsUndecidedBy, first_broken_outside}
use Rattle.refutation_check.specs.declared.outcome.Cause.{Cause}
use Rattle.refutation_check.specs.declared.outcome.Cause.TheVariants.{Outside, Cases, Coupled}
use Rattle.refutation_check.specs.declared.outcome.Verdict.{Verdict}
use Rattle.refutation_check.specs.declared.outcome.Verdict.TheVariants.{Sat, Undecided}
use Rattle.path_solver.specs.Judged.{AreExact}
use Rattle.path_solver.proofs.Words.{same_least}
use Rattle.exact_records.specs.Records.{IsVerdictOn, SymCondition}
use Rattle.exact_records.proofs.Arriving.{some_same}

module _ (verdicts : AreExact itself) (c : SymCondition) where
  pub verdict_open : (verdict : Verdict) → IsVerdictOn c verdict → IsRefuted itself c → ⊥
  verdict_open (Sat values) h k = verdicts.not_met c values k h
  verdict_open (Undecided cause) h k = verdicts.not_undecided c cause k h

  pub one_values : (vs ws : List ℕ) → IsMetBy itself c vs → IsMetBy itself c ws → vs ≡ ws
  one_values vs ws h k = same_least itself c vs ws h.least k.least

  one_cause : (a b : Cause) → IsUndecidedBy itself c a → IsUndecidedBy itself c b → a ≡ b
  one_cause (Outside pick vs) (Outside other ws) h k =
      let values = same_least itself c vs ws h.least k.least in
      let picks = some_same (sym h.broken_is ∙ (ap (first_broken_outside itself c) values ∙ k.broken_is)) in
      λ i. Outside (picks i) (values i)
  one_cause (Outside pick vs) (Cases m) h k = absurd (omega (arith, h.within.choices, k.1.many))
  one_cause (Outside pick vs) (Coupled m) h k = absurd (omega (arith, h.within.coupled, k.many))
  one_cause (Cases n) (Outside other ws) h k = absurd (omega (arith, k.within.choices, h.1.many))
  one_cause (Cases n) (Cases m) h k = ap (λ (x : ℕ). Cases x) (h.1.is ∙ sym k.1.is)
  one_cause (Cases n) (Coupled m) h k = absurd (omega (arith, h.0, k.many))
  one_cause (Coupled n) (Outside other ws) h k = absurd (omega (arith, k.within.coupled, h.many))
  one_cause (Coupled n) (Cases m) h k = absurd (omega (arith, k.0, h.many))
  one_cause (Coupled n) (Coupled m) h k = ap (λ (x : ℕ). Coupled x) (h.is ∙ sym k.is)

  pub one_verdict : (a b : Verdict) → IsVerdictOn c a → IsVerdictOn c b → a ≡ b
  one_verdict (Sat vs) (Sat ws) h k = ap (λ (xs : List ℕ). Sat xs) (one_values vs ws h k)
  one_verdict (Sat vs) (Undecided b) h k = absurd (verdicts.not_both c b vs k h)
  one_verdict (Undecided a) (Sat ws) h k = absurd (verdicts.not_both c a ws h k)
  one_verdict (Undecided a) (Undecided b) h k = ap (λ (x : Cause). Undecided x) (one_cause a b h k)
