-- What the states of a question say, one after another.
use Rattle.std.proofs.Common.{◌≡◌, ℕ, ◌+◌, ◌<◌, Bool, true, false, List, ◌∷◌, length, drop, get_or, sym, ap, subst}
use Rattle.std.specs.List.{AllByRecursion}
use Rattle.path_cond.specs.Seen.{itself}
use Rattle.path_solver.specs.Judged.{AreExact}
use Rattle.net_check.specs.Network.{Network, Entry}
use Rattle.exact_records.specs.Records.{SymCondition, with_test}
use Rattle.sym_state.specs.Symbolic.{Symbolic}
use Rattle.path_questions.specs.Formulas.{formula_of}
use Rattle.path_questions.specs.Questions.{Question}
use Rattle.path_questions.specs.declared.judging.Judged.{Judged}
use Rattle.path_questions.specs.Deciding.{IsJudged, Says, conditions_with, is_hit, open_with}
use Rattle.path_questions.proofs.FieldLemmas.{next_is}
use Rattle.path_questions.proofs.Going.{Goes, goes_past, met_now}

module _ {A : Type 0} (P : A → Type 0) (xs : List A) (n : ℕ) (x : A) (less : n < length xs) (is : x ≡ get_or xs n x) (h : AllByRecursion P (drop n xs)) where
  pub typed_here : P x
  typed_here = (subst (AllByRecursion P) (next_is xs n x less is) h).0

  pub typed_next : AllByRecursion P (drop (n + 1) xs)
  typed_next = (subst (AllByRecursion P) (next_is xs n x less is) h).1

module _ (verdicts : AreExact itself) (net : Network) (i : Entry) (hops : ℕ) (q : Question) (c : SymCondition) (states : List Symbolic) (n : ℕ) (x : Symbolic)
    (less : n < length states) (is : x ≡ get_or states n x) (open' : Bool)
    (g : Goes (conditions_with net i hops q c states) (conditions_with net i hops q c (drop n states)) open') where
  abbrev all : List SymCondition
  all = conditions_with net i hops q c states

  abbrev rest : List SymCondition
  rest = conditions_with net i hops q c (drop (n + 1) states)

  -- with the formula of this state
  abbrev own : SymCondition
  own = with_test c (formula_of net i hops q x.carried) true

  here : Goes all (own ∷ rest) open'
  here = subst (λ cs. Goes all cs open') (ap (conditions_with net i hops q c) (next_is states n x less is)) g

  pub past_state : (judged : Judged) → Says own judged → is_hit judged ≡ false → (now : Bool) → now ≡ open_with open' judged → Goes all rest now
  past_state judged says none now e = subst (Goes all rest) (sym e) (goes_past verdicts all rest own open' here judged says none)

  pub met_at_state : (judged : Judged) → Says own judged → is_hit judged ≡ true → IsJudged all judged
  met_at_state judged says hit = met_now verdicts all rest own open' here judged says hit
