-- Terms that are compared one pair after another.
use denote.Ref.{Bor}
use Rattle.std.proofs.Common.{◌≡◌, ◌∙◌, ◌+◌, ◌<◌, ◌≤◌, ◌⊎◌, ℕ, true, false, true≢false, inl, inr, List, [], ◌∷◌, ◌++◌, length, map, drop, get_or, min, Option, None, Some, IfSome, Result, IfOk, refl, sym, ap, subst, arith}
use Rattle.std.proofs.lemmas.List.{drop_all, drop_more, length-map, map-append}
use Rattle.std.specs.List.{AllByRecursion}
use Rattle.lin_term.specs.Terms.{LinearTerm}
use Rattle.path_formula.specs.Formulas.{FormulaTree}
use Rattle.path_formula.specs.View.{view}
use Rattle.path_formula.specs.declared.formula.Formula.{Formula}
use Rattle.path_cond.specs.Conditions.{Condition, Entry}
use Rattle.path_cond.specs.Seen.{AllTyped, entry_seen, seen}
use Rattle.path_solver.specs.Bases.{IsBaseOf}
use Rattle.path_solver.specs.Decisions.{IsDecisionOn}
use Rattle.path_solver.specs.declared.base.Base.{Base}
use Rattle.path_solver.specs.declared.decision.Decided.{Decided}
use Rattle.path_solver.specs.declared.decision.Decided.TheVariants.{Sat, Unsat, Undecided}
use Rattle.refutation_check.specs.Longer.{with_entries}
use Rattle.refutation_check.specs.Trees.{IsJudgedByTrees}
use Rattle.exact_records.specs.Records.{SymCondition, with_test}
use Rattle.loop_meaning.specs.Visits.{IsRuledOut, difference, paired}
use Rattle.loop_check.specs.declared.differing.Differing.{Differing}
use Rattle.loop_check.specs.declared.differing.Differing.TheVariants.{Never, With, Open}
use Rattle.loop_check.specs.Lists.{terms_of}
use Rattle.loop_check.specs.Telling.{FirstTells, Tells, is_never, told_by}
use Rattle.loop_check.proofs.Same.{mapped_at}

-- ---- one decision

-- what a decision tells, over the trees of the formulas
pub over_trees : (c : Condition) → IsJudgedByTrees view c → AllTyped view c.widths c.entries → (d : Decided) → IsDecisionOn c d → Tells (seen view c) (told_by d)
over_trees c judged typed (Sat values) h = (judged.met values).0 h
over_trees c judged typed (Unsat refutation) h = (
  judged.refuted.0 h.0,
  (refutation, record { accepted = (judged.accepted refutation).0 h.1; typed = judged.typed.0 typed }),
)
over_trees c judged typed (Undecided cause) h = (judged.undecided cause).0 h

-- the longer condition, as trees
pub tells_with : {E : Type 0} (condition longer : Condition) (f : Formula) → longer ≡ record condition { entries = condition.entries ++ (f, true) ∷ [] }
    → (tree : FormulaTree) → view f ≡ tree → (r : Result Differing E) → IfOk r (Tells (seen view longer)) → IfOk r (Tells (with_test (seen view condition) tree true))
tells_with condition longer f is tree e r h =
    subst (λ (c : SymCondition). IfOk r (Tells c))
    (ap (seen view) is
    ∙ ((λ j. record { widths = condition.widths; entries = map-append (entry_seen view) condition.entries ((f, true) ∷ []) j; most_choices = condition.most_choices })
    ∙ ap (λ t. with_test (seen view condition) t true) e)) h

-- a base of the condition is one of the longer condition
pub base_longer : ((cond : Condition) (b : Base) (more : List Entry) → IsBaseOf cond b → IsBaseOf (with_entries cond more) b)
    → (cond longer : Condition) (e : Entry) → longer ≡ record cond { entries = cond.entries ++ e ∷ [] } → (o : Option (Bor Base))
    → IfSome o (λ b. IsBaseOf cond b.now) → IfSome o (λ b. IsBaseOf longer b.now)
base_longer law cond longer e is None h = h
base_longer law cond longer e is (Some b) h = subst (λ (c : Condition). IsBaseOf c b.now) (sym is) (law cond b.now (e ∷ []) h)

pub never_is : (c : SymCondition) (d : Differing) → is_never d ≡ true → Tells c d → IsRuledOut c
never_is c Never e h = h
never_is c (With values) e h = absurd (true≢false (sym e))
never_is c (Open cause) e h = absurd (true≢false (sym e))

-- ---- pair after pair

abbrev Pair : Type 0
Pair = LinearTerm × LinearTerm

module _ (c : SymCondition) (p : Pair) (ps : List Pair) where
  past_pair : (d : Differing) → IsRuledOut (difference c p) → FirstTells (map (difference c) ps) d → FirstTells (map (difference c) (p ∷ ps)) d
  past_pair Never out h = (out, h)
  past_pair (With values) out h = inr (out, h)
  past_pair (Open cause) out h = inr (out, h)

  at_pair : (d : Differing) → is_never d ≡ false → Tells (difference c p) d → FirstTells (map (difference c) (p ∷ ps)) d
  at_pair Never e h = absurd (true≢false e)
  at_pair (With values) e h = inl h
  at_pair (Open cause) e h = inl h

none_paired : {A : Type 0} (xs : List A) → paired xs [] ≡ []
none_paired [] = refl
none_paired (x ∷ xs) = refl

-- what is told of the pairs from this place on is told of all
abbrev pub Goes : SymCondition → List (Bor LinearTerm) → List (Bor LinearTerm) → ℕ → Type 0
Goes c xs ys k =
    (d : Differing) → FirstTells (map (difference c) (paired (drop k (terms_of xs)) (drop k (terms_of ys)))) d
    → FirstTells (map (difference c) (paired (terms_of xs) (terms_of ys))) d

module _ (c : SymCondition) (xs ys : List (Bor LinearTerm)) (k : ℕ) where
  module _ (a b : Bor LinearTerm) (less_a : k < length xs) (less_b : k < length ys) (at_a : a ≡ get_or xs k a) (at_b : b ≡ get_or ys k b) where
    term_there : (zs : List (Bor LinearTerm)) (z : Bor LinearTerm) → k < length zs → z ≡ get_or zs k z
        → drop k (terms_of zs) ≡ z.now ∷ drop (k + 1) (terms_of zs)
    term_there zs z less at =
        drop_more (terms_of zs) k z.now (let l = length-map zs (λ (x : Bor LinearTerm). x.now) in omega (arith, less, l))
        ∙ ap (λ t. t ∷ drop (k + 1) (terms_of zs)) (sym (mapped_at (λ (x : Bor LinearTerm). x.now) zs k z) ∙ ap (λ (x : Bor LinearTerm). x.now) (sym at))

    here : paired (drop k (terms_of xs)) (drop k (terms_of ys)) ≡ (a.now, b.now) ∷ paired (drop (k + 1) (terms_of xs)) (drop (k + 1) (terms_of ys))
    here = λ i. paired (term_there xs a less_a at_a i) (term_there ys b less_b at_b i)

    pub here_is : (P : Pair → Type 0) → AllByRecursion P (paired (drop k (terms_of xs)) (drop k (terms_of ys))) → P (a.now, b.now)
    here_is P h = (subst (AllByRecursion P) here h).0

    pub next_are : (P : Pair → Type 0) → AllByRecursion P (paired (drop k (terms_of xs)) (drop k (terms_of ys)))
        → AllByRecursion P (paired (drop (k + 1) (terms_of xs)) (drop (k + 1) (terms_of ys)))
    next_are P h = (subst (AllByRecursion P) here h).1

    pub goes_past : Goes c xs ys k → IsRuledOut (difference c (a.now, b.now)) → Goes c xs ys (k + 1)
    goes_past g out d h =
        g d (subst (λ (ps : List Pair). FirstTells (map (difference c) ps) d) (sym here)
        (past_pair c (a.now, b.now) (paired (drop (k + 1) (terms_of xs)) (drop (k + 1) (terms_of ys))) d out h))

    pub tells_here : Goes c xs ys k → (d : Differing) → is_never d ≡ false → Tells (difference c (a.now, b.now)) d
        → FirstTells (map (difference c) (paired (terms_of xs) (terms_of ys))) d
    tells_here g d e h =
        g d (subst (λ (ps : List Pair). FirstTells (map (difference c) ps) d) (sym here)
        (at_pair c (a.now, b.now) (paired (drop (k + 1) (terms_of xs)) (drop (k + 1) (terms_of ys))) d e h))

  pub none_tells : Goes c xs ys k → min (length xs) (length ys) ≤ k → FirstTells (map (difference c) (paired (terms_of xs) (terms_of ys))) Never
  none_tells g past = g Never (subst (λ (ps : List Pair). AllByRecursion IsRuledOut (map (difference c) ps)) (sym (none_left (at_end (length xs) (length ys) past))) tt)
    where
      at_end : (n m : ℕ) → min n m ≤ k → (n ≤ k) ⊎ (m ≤ k)
      at_end n m h = grind arith

      none_left : (length xs ≤ k) ⊎ (length ys ≤ k) → paired (drop k (terms_of xs)) (drop k (terms_of ys)) ≡ []
      none_left (inl h) =
          ap (λ zs. paired zs (drop k (terms_of ys))) (drop_all k (terms_of xs) (let l = length-map xs (λ (x : Bor LinearTerm). x.now) in omega (arith, h, l)))
      none_left (inr h) =
          ap (λ zs. paired (drop k (terms_of xs)) zs) (drop_all k (terms_of ys) (let l = length-map ys (λ (x : Bor LinearTerm). x.now) in omega (arith, h, l)))
          ∙ none_paired (drop k (terms_of xs))
