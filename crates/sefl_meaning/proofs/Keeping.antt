-- What operations keep, expressions and conditions keep.
use Rattle.std.proofs.Common.{ℕ, ◌≤◌, Bool, ◌∷◌, Result, Ok, Err, IfOk}
use Rattle.std.specs.List.{AllByRecursion}
use Rattle.sn_width.specs.declared.rel.Rel.{Rel}
use Rattle.sefl_syntax.specs.declared.expr.Sign.{Sign}
use Rattle.sefl_syntax.specs.declared.expr.Sign.TheVariants.{Plus, Minus}
use Rattle.sefl_syntax.specs.Trees.{ExprTree, constant, reading, sum, SummandTrees, no_summands, summand, CondTree, always, compare, member, all_of, any_of, negation, CondTrees, no_conds, cond_and}
use Rattle.cell_stacks.specs.Outcome.{and_then, on_ok}
use Rattle.job_items.specs.Atoms.{comparison, membership, cond_atoms, conds_atoms}
use Rattle.job_items.specs.AtomRules.{atom_width}
use Rattle.sefl_meaning.specs.Values.{Values}
use Rattle.sefl_meaning.specs.Carried.{Carried, Scene}
use Rattle.sefl_meaning.specs.Terms.{joined, value_in, sum_in, compared, truth_in, truths_in}
use Rattle.sefl_meaning.specs.Valued.{Fits, IsGood, KeepsSums, KeepsTests, CarriedFits, HasSomeWidth}
use Rattle.sefl_meaning.specs.Laws.{StateLaws}
use Rattle.sefl_meaning.proofs.AllLemmas.{all_first, all_later}
use Rattle.sefl_meaning.proofs.Fitting.{of_function}
use Rattle.sefl_meaning.proofs.Tracks.{read_tracks}

pub of_step : {A B E : Type 0} (P : A → Type 0) (Q : B → Type 0) (r : Result A E) (next : A → Result B E) →
    IfOk r P → ((x : A) → P x → IfOk (next x) Q) → IfOk (and_then r next) Q
of_step P Q (Ok x) next h k = k x h
of_step P Q (Err e) next h k = tt

module _ {V F : Type 0} (fits : ℕ → V → Bool) (o : Values V F) (keeps : KeepsSums fits o)
    (laws : StateLaws (λ (x : V). x)) (at : Scene) where
  joined_kept : (w : ℕ) (sign : Sign) (a b : V) → Fits fits w a → Fits fits w b → Fits fits w (joined o w sign a b)
  joined_kept w Plus a b ha hb = keeps.plus w a b ha hb
  joined_kept w Minus a b ha hb = keeps.minus w a b ha hb

  mutual
    pub value_kept : (w : ℕ) (e : ExprTree) (s : Carried V) → CarriedFits fits s → IfOk (value_in o at w e s) (Fits fits w)
    value_kept w (constant n) s h = keeps.constant w n
    value_kept w (reading target) s h = (read_tracks fits (λ x. x) laws at w target s h).has
    value_kept w (sum first rest) s h =
        of_step (Fits fits w) (Fits fits w) (value_in o at w first s) (λ a. sum_in o at w a rest s) (value_kept w first s h)
        (λ a ha. sum_kept w a rest s ha h)

    sum_kept : (w : ℕ) (a : V) (rest : SummandTrees) (s : Carried V) → Fits fits w a → CarriedFits fits s →
        IfOk (sum_in o at w a rest s) (Fits fits w)
    sum_kept w a no_summands s ha h = ha
    sum_kept w a (summand sign e rest) s ha h =
        of_step (Fits fits w) (Fits fits w) (value_in o at w e s) (λ b. sum_in o at w (joined o w sign a b) rest s)
        (value_kept w e s h) (λ b hb. sum_kept w (joined o w sign a b) rest s (joined_kept w sign a b ha hb) h)

module _ {V F : Type 0} (fits : ℕ → V → Bool) (good : F → Bool) (o : Values V F) (keeps : KeepsTests fits good o)
    (laws : StateLaws (λ (x : V). x)) (at : Scene) where
  compared_kept : (w : ℕ) (rel : Rel) (left right : ExprTree) (s : Carried V) → 1 ≤ w → CarriedFits fits s →
      IfOk (compared o at w rel left right s) (IsGood good)
  compared_kept w rel left right s some h =
      of_step (Fits fits w) (IsGood good) (value_in o at w left s) (λ a. on_ok (o.compare w rel a) (value_in o at w right s))
      (value_kept fits o keeps.sums laws at w left s h)
      (λ a ha. of_function (Fits fits w) (IsGood good) (o.compare w rel a) (value_in o at w right s)
      (value_kept fits o keeps.sums laws at w right s h) (λ b hb. keeps.compare w rel a b some ha hb))

  mutual
    pub truth_kept : (test : CondTree) (s : Carried V) → AllByRecursion HasSomeWidth (cond_atoms test) → CarriedFits fits s →
        IfOk (truth_in o at test s) (IsGood good)
    truth_kept always s some h = keeps.always
    truth_kept (compare rel left right) s some h =
        compared_kept (atom_width (comparison left right)) rel left right s some.0 h
    truth_kept (member value ranges) s some h =
        let w : ℕ = atom_width (membership value ranges) in
        of_function (Fits fits w) (IsGood good) (λ a. o.member w a ranges) (value_in o at w value s)
        (value_kept fits o keeps.sums laws at w value s h) (λ a ha. keeps.member w a ranges some.0 ha)
    truth_kept (all_of conds) s some h =
        of_function (AllByRecursion (IsGood good)) (IsGood good) o.all_of (truths_in o at conds s) (truths_kept conds s some h) keeps.all_of
    truth_kept (any_of conds) s some h =
        of_function (AllByRecursion (IsGood good)) (IsGood good) o.any_of (truths_in o at conds s) (truths_kept conds s some h) keeps.any_of
    truth_kept (negation c) s some h =
        of_function (IsGood good) (IsGood good) o.negation (truth_in o at c s) (truth_kept c s some h) keeps.negation

    truths_kept : (conds : CondTrees) (s : Carried V) → AllByRecursion HasSomeWidth (conds_atoms conds) → CarriedFits fits s →
        IfOk (truths_in o at conds s) (AllByRecursion (IsGood good))
    truths_kept no_conds s some h = tt
    truths_kept (cond_and c conds) s some h =
        of_step (IsGood good) (AllByRecursion (IsGood good)) (truth_in o at c s) (λ t. on_ok (λ ts. t ∷ ts) (truths_in o at conds s))
        (truth_kept c s (all_first HasSomeWidth (cond_atoms c) (conds_atoms conds) some) h)
        (λ t ht. of_function (AllByRecursion (IsGood good)) (AllByRecursion (IsGood good)) (λ ts. t ∷ ts) (truths_in o at conds s)
        (truths_kept conds s (all_later HasSomeWidth (cond_atoms c) (conds_atoms conds) some) h) (λ ts hts. (ht, hts)))
