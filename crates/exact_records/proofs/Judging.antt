-- Verdicts on conditions: what they say, and that they stay where symbols come that no formula has.
use Rattle.std.proofs.Common.{◌≡◌, ℕ, suc, ◌-◌, List, [], ◌∷◌, ◌++◌, length, refl, sym, ap, subst, ◌∙◌, append_assoc, length-append, arith, Some}
use Rattle.std.specs.Prelude.{replicate}
use Rattle.path_formula.specs.Typed.{AreValues}
use Rattle.path_cond.specs.Seen.{AllTyped, itself}
use Rattle.refutation_check.specs.Longer.{condition_of, with_widths, zeros}
use Rattle.refutation_check.specs.Seen.{IsMetBy, IsRefuted, IsUndecidedBy}
use Rattle.refutation_check.specs.declared.outcome.Cause.{Cause}
use Rattle.refutation_check.specs.declared.outcome.Cause.TheVariants.{Outside, Cases, Coupled}
use Rattle.refutation_check.specs.declared.outcome.Verdict.{Verdict}
use Rattle.refutation_check.specs.declared.outcome.Verdict.TheVariants.{Sat, Undecided}
use Rattle.sefl_meaning.specs.Injected.{FitWidths}
use Rattle.exact_records.specs.Below.{Facts}
use Rattle.exact_records.specs.Records.{IsVerdictOn, MayPrecede, Satisfy, SymCondition, SymStart, injection_tests}
use Rattle.exact_records.specs.Points.{Arrives, IsBefore, IsKnown, Point, condition_at, filled, filled_cause, filled_verdict}
use Rattle.exact_records.proofs.Lists.{append_nil}

-- values that fit the front of the widths
fits_front : (us more vs : List ℕ) → AreValues (us ++ more) vs → length vs ≡ length (us ++ more) → FitWidths us vs
fits_front [] more vs h e = tt
fits_front (u ∷ us) more [] h e = let bad : 0 ≡ suc (length (us ++ more)) = e in omega (arith, bad)
fits_front (u ∷ us) more (v ∷ vs) h e =
    let rest : suc (length vs) ≡ suc (length (us ++ more)) = e in
    (h 0 u refl, fits_front us more vs (λ s w k. h (suc s) w k) (omega (arith, rest)))

zeros_are : (ws : List ℕ) → zeros ws ≡ replicate (length ws) 0
zeros_are [] = refl
zeros_are (w ∷ ws) = ap (λ zs. 0 ∷ zs) (zeros_are ws)

filled_is : (first more values : List ℕ) → length values ≡ length first → values ++ zeros more ≡ filled (length (first ++ more)) values
filled_is first more values e =
    let sum = length-append first more in
    let left : length more ≡ length (first ++ more) - length values = omega (arith, e, sum) in
    ap (λ zs. values ++ zs) (zeros_are more ∙ ap (λ (n : ℕ). replicate n 0) left)

-- the condition, with its last symbols apart
pub wider : (c : SymCondition) (verdict : Verdict) (h : IsKnown c verdict) → c ≡ with_widths (condition_of c.most_choices h.first c.entries) h.more
wider c verdict h = λ i. record c { widths = h.widths i }

module _ (facts : Facts) where
  -- ---- what a verdict says

  pub verdict_open : (c : SymCondition) (verdict : Verdict) → IsVerdictOn c verdict → IsRefuted itself c → ⊥
  verdict_open c (Sat values) h k = facts.verdicts.not_met c values k h
  verdict_open c (Undecided cause) h k = facts.verdicts.not_undecided c cause k h

  pub known_open : (c : SymCondition) (verdict : Verdict) → IsKnown c verdict → IsRefuted itself c → ⊥
  known_open c verdict h k =
      verdict_open (condition_of c.most_choices h.first c.entries) verdict h.is
      ((facts.widen.refuted (condition_of c.most_choices h.first c.entries) h.more h.typed).0 (subst (IsRefuted itself) (wider c verdict h) k))

  pub met_satisfies : (c : SymCondition) (values : List ℕ) → IsMetBy itself c values → Satisfy values c
  met_satisfies c values h = (facts.verdicts.met_is_true c values h).1

  pub met_fits : (c : SymCondition) (unknowns more values : List ℕ) → c.widths ≡ unknowns ++ more → IsMetBy itself c values → FitWidths unknowns values
  met_fits c unknowns more values e h =
      let fitting = (facts.verdicts.met_is_true c values h).0 in
      fits_front unknowns more values (subst (λ ws. AreValues ws values) e fitting.fit) (fitting.one_each ∙ ap length e)

  pub verdict_precedes : (c : SymCondition) (verdict : Verdict) → IsVerdictOn c verdict → MayPrecede c verdict
  verdict_precedes c (Sat values) h = met_satisfies c values h
  verdict_precedes c (Undecided cause) h = facts.verdicts.licensed c cause h

  -- ---- with zeros

  wider_undecided : (first more : List ℕ) (c : SymCondition) (cause : Cause) → AllTyped itself first c.entries
      → IsUndecidedBy itself (condition_of c.most_choices first c.entries) cause
      → IsUndecidedBy itself (with_widths (condition_of c.most_choices first c.entries) more) (filled_cause (length (first ++ more)) cause)
  wider_undecided first more c (Outside pick values) typed h =
      subst (λ vs. IsUndecidedBy itself (with_widths (condition_of c.most_choices first c.entries) more) (Outside pick vs))
      (filled_is first more values h.least.candidates.fitting.one_each)
      (facts.widen.undecided (condition_of c.most_choices first c.entries) more (Outside pick values) typed h)
  wider_undecided first more c (Cases number) typed h = facts.widen.undecided (condition_of c.most_choices first c.entries) more (Cases number) typed h
  wider_undecided first more c (Coupled number) typed h = facts.widen.undecided (condition_of c.most_choices first c.entries) more (Coupled number) typed h

  wider_verdict : (first more : List ℕ) (c : SymCondition) (verdict : Verdict) → AllTyped itself first c.entries
      → IsVerdictOn (condition_of c.most_choices first c.entries) verdict
      → IsVerdictOn (with_widths (condition_of c.most_choices first c.entries) more) (filled_verdict (length (first ++ more)) verdict)
  wider_verdict first more c (Sat values) typed h =
      subst (IsMetBy itself (with_widths (condition_of c.most_choices first c.entries) more))
      (filled_is first more values (facts.verdicts.met_is_true (condition_of c.most_choices first c.entries) values h).0.one_each)
      (facts.widen.met (condition_of c.most_choices first c.entries) more values typed h)
  wider_verdict first more c (Undecided cause) typed h = wider_undecided first more c cause typed h

  pub known_written : (c : SymCondition) (verdict : Verdict) → IsKnown c verdict → IsVerdictOn c (filled_verdict (length c.widths) verdict)
  known_written c verdict h =
      subst (λ d. IsVerdictOn d (filled_verdict (length c.widths) verdict)) (sym (wider c verdict h))
      (subst (λ (n : ℕ). IsVerdictOn (with_widths (condition_of c.most_choices h.first c.entries) h.more) (filled_verdict n verdict)) (ap length (sym h.widths))
      (wider_verdict h.first h.more c verdict h.typed h.is))

-- a verdict that was just given
pub just_known : (c : SymCondition) (verdict : Verdict) → AllTyped itself c.widths c.entries → IsVerdictOn c verdict → IsKnown c verdict
just_known c verdict typed h = record { first = c.widths; more = []; widths = sym (append_nil c.widths); typed = typed; is = h }

module _ (s : SymStart) where
  -- it is still known at the next node
  pub known_next : (a b : Point) (verdict : Verdict) → Arrives s a b → IsKnown (condition_at s a) verdict → IsKnown (condition_at s b) verdict
  known_next a b verdict n h = record {
    first = h.first;
    more = h.more ++ n.more;
    widths = n.grown ∙ (ap (λ ws. ws ++ n.more) h.widths ∙ append_assoc h.first h.more n.more);
    typed = subst (λ us. AllTyped itself h.first (injection_tests s ++ us)) (sym n.tests) h.typed;
    is = subst (λ us. IsVerdictOn (condition_of s.most_choices h.first (injection_tests s ++ us)) verdict) (sym n.tests) h.is;
  }

  pub before_written : (facts : Facts) (a : Point) (verdict : Verdict) → IsBefore s a (Some verdict) (Some (filled_verdict (length a.widths) verdict))
  before_written facts a verdict = λ b.
      subst (λ ws. IsVerdictOn (condition_at s b.parent) (filled_verdict (length ws) verdict)) (ap (λ (x : Point). x.widths) (sym b.is))
      (known_written facts (condition_at s b.parent) verdict b.known)
