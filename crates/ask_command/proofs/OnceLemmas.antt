-- A question that is refused is told alone.
use Rattle.std.proofs.Common.{◌≡◌, ◌∙◌, refl, sym, ap, subst, inl, inr, ℕ, suc, ◌+◌, List, [], ◌∷◌, ◌++◌, length}
use Rattle.sefl_syntax.specs.declared.job.RawField.{RawField}
use Rattle.sefl_syntax.specs.declared.net.Side.{Side}
use Rattle.sefl_syntax.specs.declared.net.Side.TheVariants.{Inward, Outward}
use Rattle.sefl_syntax.specs.declared.reference.Target.{Target}
use Rattle.sefl_syntax.specs.Trees as trees
use Rattle.sefl_syntax.specs.Trees.{AskTree}
use Rattle.net_check.specs.Network.{Network, Entry, unknown_width}
use Rattle.path_questions.specs.Placing.{Asks, HasNoField, IsFieldFrom, IsMisplaced, IsNotInjected}
use Rattle.path_questions.specs.Questions.{Field, Question, reach, invariant, visible}
use Rattle.command_edge.specs.Puts.{Outcome, text, refused}
use Rattle.command_edge.specs.declared.fault.OwnFault.{OwnFault}
use Rattle.command_edge.specs.declared.fault.OwnFault.TheVariants.{BadAsk}
use Rattle.ask_command.specs.Asks.{AllAsk, AnswersOf, IsBadBy, IsFirstBad}

abbrev IsOutward : Side → Type 0
IsOutward Outward = Unit {0}
IsOutward Inward = ⊥

apart : (side : Side) → side ≡ Outward → side ≡ Inward → ⊥
apart side out inside = subst IsOutward (sym out ∙ inside) tt

not_there : (number : ℕ) (target : Target) (fs : List RawField) (field : Field) → IsFieldFrom number target fs field → HasNoField target fs → ⊥
not_there number target [] field h none = absurd h
not_there number target (f ∷ fs) field (inl h) none = none.0 h.0
not_there number target (f ∷ fs) field (inr h) none = not_there (number + length (unknown_width f)) target fs field h.1 none.1

abbrev first_or : AskTree → List AskTree → AskTree
first_or other [] = other
first_or other (ask ∷ asks) = ask

abbrev rest_of : List AskTree → List AskTree
rest_of [] = []
rest_of (ask ∷ asks) = asks

module _ (net : Network) (i : Entry) where
  -- ---- words that ask a question are not refused

  is_placed : (ask : AskTree) (q : Question) → Asks net i ask q → IsMisplaced net i ask → ⊥
  is_placed (trees.reach raw test) (reach place own) h none = none place h.0
  is_placed (trees.reach raw test) (invariant place field) h none = absurd h
  is_placed (trees.reach raw test) (visible place field) h none = absurd h
  is_placed (trees.invariant target raw) (reach place own) h none = absurd h
  is_placed (trees.invariant target raw) (invariant place field) h (inl none) = none place h.0
  is_placed (trees.invariant target raw) (invariant place field) h (inr inside) = apart raw.side h.1 inside
  is_placed (trees.invariant target raw) (visible place field) h none = absurd h
  is_placed (trees.visible target raw) (reach place own) h none = absurd h
  is_placed (trees.visible target raw) (invariant place field) h none = absurd h
  is_placed (trees.visible target raw) (visible place field) h none = none place h.0

  is_injected : (ask : AskTree) (q : Question) → Asks net i ask q → IsNotInjected net i ask → ⊥
  is_injected (trees.reach raw test) (reach place own) h none = absurd none
  is_injected (trees.reach raw test) (invariant place field) h none = absurd h
  is_injected (trees.reach raw test) (visible place field) h none = absurd h
  is_injected (trees.invariant target raw) (reach place own) h none = absurd h
  is_injected (trees.invariant target raw) (invariant place field) h none = not_there 0 target i.own.fields field h.2 none
  is_injected (trees.invariant target raw) (visible place field) h none = absurd h
  is_injected (trees.visible target raw) (reach place own) h none = absurd h
  is_injected (trees.visible target raw) (invariant place field) h none = absurd h
  is_injected (trees.visible target raw) (visible place field) h none = not_there 0 target i.own.fields field h.1 none

  is_good : (kind : ℕ) (ask : AskTree) (q : Question) → Asks net i ask q → IsBadBy net i kind ask → ⊥
  is_good kind ask q h (inl bad) = is_placed ask q h bad.1
  is_good kind ask q h (inr bad) = is_injected ask q h bad.2

  all_good : (front : List AskTree) (bad : AskTree) (rest : List AskTree) (kind : ℕ) (qs : List Question) → AllAsk net i (front ++ bad ∷ rest) qs → IsBadBy net i kind bad → ⊥
  all_good [] bad rest kind [] h is_bad = absurd h
  all_good [] bad rest kind (q ∷ qs) h is_bad = is_good kind bad q h.0 is_bad
  all_good (ask ∷ front) bad rest kind [] h is_bad = absurd h
  all_good (ask ∷ front) bad rest kind (q ∷ qs) h is_bad = all_good front bad rest kind qs h.1 is_bad

  -- ---- they are refused by one kind, and the first is one

  one_kind : (a b : ℕ) (ask : AskTree) → IsBadBy net i a ask → IsBadBy net i b ask → a ≡ b
  one_kind a b ask (inl x) (inl y) = x.0 ∙ sym y.0
  one_kind a b ask (inl x) (inr y) = absurd (y.1 x.1)
  one_kind a b ask (inr x) (inl y) = absurd (x.1 y.1)
  one_kind a b ask (inr x) (inr y) = x.0 ∙ sym y.0

  module _ (k l : ℕ) (bad other_bad : AskTree) (is_bad : IsBadBy net i k bad) (is_other : IsBadBy net i l other_bad) where
    one_first : (front other rest more : List AskTree) (qs rs : List Question) → front ++ bad ∷ rest ≡ other ++ other_bad ∷ more
        → AllAsk net i front qs → AllAsk net i other rs → (length front ≡ length other) × (k ≡ l)
    one_first [] [] rest more qs rs e a b = (refl, one_kind k l other_bad (subst (IsBadBy net i k) (ap (first_or bad) e) is_bad) is_other)
    one_first [] (ask ∷ other) rest more qs [] e a b = absurd b
    one_first [] (ask ∷ other) rest more qs (r ∷ rs) e a b = absurd (is_good k ask r b.0 (subst (IsBadBy net i k) (ap (first_or bad) e) is_bad))
    one_first (ask ∷ front) [] rest more [] rs e a b = absurd a
    one_first (ask ∷ front) [] rest more (q ∷ qs) rs e a b = absurd (is_good l ask q a.0 (subst (IsBadBy net i l) (sym (ap (first_or other_bad) e)) is_other))
    one_first (ask ∷ front) (own ∷ other) rest more [] rs e a b = absurd a
    one_first (ask ∷ front) (own ∷ other) rest more (q ∷ qs) [] e a b = absurd b
    one_first (ask ∷ front) (own ∷ other) rest more (q ∷ qs) (r ∷ rs) e a b =
        let later = one_first front other rest more qs rs (ap rest_of e) a.1 b.1 in (ap suc later.0, later.1)

  told_once : (asks : List AskTree) (n m k l : ℕ) → IsFirstBad net i asks n k → IsFirstBad net i asks m l → (n ≡ m) × (k ≡ l)
  told_once asks n m k l x y =
      let same = one_first k l x.bad y.bad x.fault y.fault x.front y.front x.rest y.rest x.questions y.questions (sym x.is ∙ y.is) x.good y.good in
      (x.numbered ∙ (same.0 ∙ sym y.numbered), same.1)

-- what a refused question comes to is its refusal
pub refused_alone : (hops limit : ℕ) (net : Network) (i : Entry) (asks : List AskTree) (fault : OwnFault) (other : Outcome)
    → AnswersOf hops limit net i asks (refused fault) → AnswersOf hops limit net i asks other → other ≡ refused fault
refused_alone hops limit net i asks (BadAsk number kind) (text ending whole) bad h =
    absurd (all_good net i bad.front bad.bad bad.rest kind h.questions (subst (λ xs. AllAsk net i xs h.questions) bad.is h.asked) bad.fault)
refused_alone hops limit net i asks (BadAsk number kind) (refused (BadAsk own rule)) bad h =
    let same = told_once net i asks own number rule kind h bad in λ j. refused (BadAsk (same.0 j) (same.1 j))
refused_alone hops limit net i asks (BadAsk number kind) (refused fault) bad h = absurd h
refused_alone hops limit net i asks fault other bad h = absurd bad
