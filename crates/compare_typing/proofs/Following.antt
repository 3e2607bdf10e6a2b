-- What formulas that follow from a condition say of it.
use Rattle.std.proofs.Common.{◌≡◌, ℕ, zero, suc, ◌*◌, ◌-◌, ◌^◌, ◌≤◌, min, inl, inr, Bool, true, false, true≢false, not, ◌&&◌, ◌||◌, List, [], ◌∷◌, ◌++◌, length, refl, sym, ap, subst, ◌∙◌, if◌then◌else◌, arith}
use Rattle.std.specs.List.{AllByRecursion, list_all}
use Rattle.sn_width.specs.declared.ids.SymId.{SymId}
use Rattle.path_formula.specs.Formulas.{FormulaTree, truth_at}
use Rattle.path_formula.specs.Solutions.{agrees}
use Rattle.path_cond.specs.Seen.{entry_holds, holds_at, itself, tried}
use Rattle.path_cond.specs.Choices.{choice_count, formula_choices, is_coupled, range_choices}
use Rattle.path_cond.specs.Occurring.{symbol_at, symbols_from}
use Rattle.refutation_check.specs.Seen.{AreCandidates, AreFitting, AreLeast, IsWithinLimits, holds_unless_outside, is_outside, most_coupled}
use Rattle.sefl_meaning.specs.Order.{Has}
use Rattle.exact_records.specs.Records.{SymCondition}
use Rattle.compare_meaning.specs.Facing.{IsImpossible, joined}
use Rattle.compare_meaning.specs.Paths.{DeliveredPath}
use Rattle.compare_typing.specs.Selecting.{FewAreWithin, Follows, IsTorn, LeastOfSome, SomeRefuteAll, TornAreApart}
use Rattle.compare_typing.proofs.Open.{both, left_of, right_of}

has_pass : {A : Type 0} (p : A → Bool) (xs : List A) (x : A) → list_all p xs ≡ true → Has xs x → p x ≡ true
has_pass p [] x h k = absurd k
has_pass p (y ∷ ys) x h (inl e) = subst (λ z. p z ≡ true) e (left_of (p y) (list_all p ys) h)
has_pass p (y ∷ ys) x h (inr k) = has_pass p ys x (right_of (p y) (list_all p ys) h) k

has_first : {A : Type 0} (xs ys : List A) (x : A) → Has xs x → Has (xs ++ ys) x
has_first [] ys x h = absurd h
has_first (z ∷ xs) ys x (inl e) = inl e
has_first (z ∷ xs) ys x (inr h) = inr (has_first xs ys x h)

has_later : {A : Type 0} (xs ys : List A) (x : A) → Has ys x → Has (xs ++ ys) x
has_later [] ys x h = h
has_later (z ∷ xs) ys x h = inr (has_later xs ys x h)

not_outside : (a b : Bool) → a ≡ false → (a || b) ≡ true → b ≡ true
not_outside true b e h = absurd (true≢false e)
not_outside false b e h = h

unless_outside : (a b : Bool) → b ≡ true → (a || b) ≡ true
unless_outside true b h = refl
unless_outside false b h = h

-- ---- formulas that follow

-- one of them, if it is not outside
pub one_follows : (es : List (FormulaTree × Bool)) (e : FormulaTree × Bool) → Has es e → is_outside itself e ≡ false → Follows es e
one_follows es e has inner = record {
  holds = λ values h. not_outside (is_outside itself e) (entry_holds itself values e) inner (has_pass (holds_unless_outside itself values) es e h has);
}

module _ (values : List ℕ) where
  some_hold : (es some : List (FormulaTree × Bool)) → AllByRecursion (Follows es) some → list_all (holds_unless_outside itself values) es ≡ true
      → list_all (entry_holds itself values) some ≡ true
  some_hold es [] h k = refl
  some_hold es (e ∷ rest) h k = both (entry_holds itself values e) (list_all (entry_holds itself values) rest) (h.0.holds values k) (some_hold es rest h.1 k)

  all_unless_outside : (es : List (FormulaTree × Bool)) → list_all (entry_holds itself values) es ≡ true → list_all (holds_unless_outside itself values) es ≡ true
  all_unless_outside [] h = refl
  all_unless_outside (e ∷ es) h =
      both (holds_unless_outside itself values e) (list_all (holds_unless_outside itself values) es)
      (unless_outside (is_outside itself e) (entry_holds itself values e) (left_of (entry_holds itself values e) (list_all (entry_holds itself values) es) h))
      (all_unless_outside es (right_of (entry_holds itself values e) (list_all (entry_holds itself values) es) h))

  never_by : (c : SymCondition) (some : List (FormulaTree × Bool)) → AllByRecursion (Follows c.entries) some → list_all (entry_holds itself values) some ≡ false
      → (b : Bool) → holds_at itself c values ≡ b → b ≡ false
  never_by c some follow fails true h = absurd (true≢false (sym (some_hold c.entries some follow (all_unless_outside c.entries h)) ∙ fails))
  never_by c some follow fails false h = refl

pub some_refute_all : SomeRefuteAll
some_refute_all c some within follow fails = record {
  refuted = inr (record {
    within = within;
    no_candidates = λ values h. true≢false (sym (some_hold values c.entries some follow h.satisfied) ∙ fails values);
  });
  never = λ values. never_by values c some follow (fails values) (holds_at itself c values) refl;
}

-- ---- their least values

-- what satisfies the whole satisfies them
fewer_candidates : (c d : SymCondition) (values : List ℕ) → d.widths ≡ c.widths → AllByRecursion (Follows c.entries) d.entries → AreCandidates itself c values
    → AreCandidates itself d values
fewer_candidates c d values widths follow h = record {
  fitting = subst (λ ws. AreFitting ws values) (sym widths) h.fitting;
  satisfied = all_unless_outside values d.entries (some_hold values c.entries d.entries follow h.satisfied);
}

pub least_of_some : LeastOfSome
least_of_some c d values widths follow least all = record {
  candidates = record { fitting = subst (λ ws. AreFitting ws values) widths least.candidates.fitting; satisfied = all };
  first = λ others h. least.first others (fewer_candidates c d others widths follow h);
}

-- ---- one formula with both truths

both_truths : (holds truth : Bool) → (agrees holds truth && (agrees (not holds) truth && true)) ≡ false
both_truths true true = refl
both_truths true false = refl
both_truths false true = refl
both_truths false false = refl

pub torn_are_apart : TornAreApart
torn_are_apart p q within torn =
    let e = torn.entry in
    let turned : FormulaTree × Bool = (e.0, not e.1) in
    let own = one_follows (joined p q).entries e (has_first p.condition.entries q.condition.entries e torn.own) torn.inner in
    let others = one_follows (joined p q).entries turned (has_later p.condition.entries q.condition.entries turned torn.others) torn.inner in
    some_refute_all (joined p q) (e ∷ turned ∷ []) within (own, (others, tt)) (λ values. both_truths e.1 (truth_at e.0 values))

-- ---- few symbols

under : (a b k : ℕ) → b ≤ k → min a b ≤ k
under a b k h = omega (arith, h)

no_more : (test : SymId → Bool) (place count : ℕ) → length (symbols_from test place count) ≤ count
no_more test place zero = omega arith
no_more test place (suc count) = by (test (symbol_at place)) (no_more test (suc place) count)
  where
    by : (b : Bool) → length (symbols_from test (suc place) count) ≤ count
        → length (if b then symbol_at place ∷ symbols_from test (suc place) count else symbols_from test (suc place) count) ≤ suc count
    by true h = omega (arith, h)
    by false h = omega (arith, h)

at_most : (a b k : ℕ) → a ≤ b → b ≤ k → a ≤ k
at_most a b k h g = omega (arith, h, g)

pub few_are_within : FewAreWithin
few_are_within c few all = record {
  coupled = at_most (length (symbols_from (is_coupled itself c) 0 (length c.widths))) (length c.widths) most_coupled (no_more (is_coupled itself c) 0 (length c.widths)) few;
  choices = under (formula_choices itself c * range_choices itself c) (2 ^ 64 - 1) (tried c.most_choices) all;
}
