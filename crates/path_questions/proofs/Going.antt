-- What conditions say, one after another.
use Rattle.std.proofs.Common.{◌≡◌, ℕ, zero, suc, ◌≤◌, inl, inr, Bool, true, false, true≢false, List, [], ◌∷◌, length, drop, refl, sym, arith}
use Rattle.std.specs.List.{AllByRecursion}
use Rattle.path_cond.specs.Seen.{itself}
use Rattle.path_solver.specs.Judged.{AreExact}
use Rattle.exact_records.specs.Exact.{SomeOne}
use Rattle.exact_records.specs.Records.{SymCondition}
use Rattle.path_questions.specs.Telling.{FirstMet, HasRefutation, IsUndecided, IsUnmet}
use Rattle.path_questions.specs.declared.judging.Judged.{Judged}
use Rattle.path_questions.specs.declared.judging.Judged.TheVariants.{Hit, Open, RuledOut}
use Rattle.path_questions.specs.Deciding.{IsJudged, Says, is_hit, open_with}

-- whatever is said by the conditions that are left, all say
pub record Goes (all rest : List SymCondition) (open' : Bool) : Type 0 where
  pub met : (values : List ℕ) → FirstMet rest values → FirstMet all values
  pub unmet : AllByRecursion IsUnmet rest → AllByRecursion IsUnmet all
  pub later : SomeOne IsUndecided rest → SomeOne IsUndecided all
  pub now : open' ≡ true → SomeOne IsUndecided all
  pub out : open' ≡ false → AllByRecursion HasRefutation rest → AllByRecursion HasRefutation all

pub goes_first : (all : List SymCondition) → Goes all all false
goes_first all = record {
  met = λ values h. h;
  unmet = λ h. h;
  later = λ h. h;
  now = λ e. absurd (true≢false (sym e));
  out = λ e h. h;
}

module _ (verdicts : AreExact itself) (all rest : List SymCondition) (c : SymCondition) (open' : Bool) (g : Goes all (c ∷ rest) open') where
  goes_undecided : IsUndecided c → Goes all rest true
  goes_undecided h =
      let no : IsUnmet c = λ values m. verdicts.not_both c h.0 values h.1 m in
      record {
        met = λ values k. g.met values (inr (no, k));
        unmet = λ k. g.unmet (no, k);
        later = λ k. g.later (inr k);
        now = λ e. g.later (inl h);
        out = λ e. absurd (true≢false e);
      }

  goes_refuted : HasRefutation c → Goes all rest open'
  goes_refuted h =
      let no : IsUnmet c = λ values m. verdicts.not_met c values h.0 m in
      record {
        met = λ values k. g.met values (inr (no, k));
        unmet = λ k. g.unmet (no, k);
        later = λ k. g.later (inr k);
        now = g.now;
        out = λ e k. g.out e (h, k);
      }

  -- past a condition that is not met
  pub goes_past : (judged : Judged) → Says c judged → is_hit judged ≡ false → Goes all rest (open_with open' judged)
  goes_past (Hit values) h e = absurd (true≢false e)
  goes_past Open h e = goes_undecided h
  goes_past RuledOut h e = goes_refuted h

  -- at one that is
  pub met_now : (judged : Judged) → Says c judged → is_hit judged ≡ true → IsJudged all judged
  met_now (Hit values) h e = g.met values (inl h)
  met_now Open h e = absurd (true≢false (sym e))
  met_now RuledOut h e = absurd (true≢false (sym e))

pub judged_open : (all : List SymCondition) (open' : Bool) → Goes all [] open' → open' ≡ true → IsJudged all Open
judged_open all open' g e = (g.unmet tt, g.now e)

pub judged_out : (all : List SymCondition) (open' : Bool) → Goes all [] open' → open' ≡ false → IsJudged all RuledOut
judged_out all open' g e = g.out e tt

pub dropped : {A : Type 0} (n : ℕ) (xs : List A) → length xs ≤ n → drop n xs ≡ []
dropped zero [] h = refl
dropped (suc n) [] h = refl
dropped zero (x ∷ xs) h = let bad : ⊥ = omega (arith, h) in absurd bad
dropped (suc n) (x ∷ xs) h = dropped n xs (let less : length xs ≤ n = omega (arith, h) in less)
