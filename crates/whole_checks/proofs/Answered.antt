-- What is answered of records.
use Rattle.std.proofs.Common.{◌≡◌, ◌∙◌, ℕ, suc, inl, inr, List, [], ◌∷◌, Option, None, Some, Ok, Err, sym, ap, subst}
use Rattle.std.specs.List.{AllByRecursion}
use Rattle.sefl_meaning.specs.declared.walk.Decision.{Decision}
use Rattle.exact_records.specs.Records.{HasMeaning, RecordTree, SymStart, decisions_of}
use Rattle.record_checks.specs.Counts.{counts_of, with_record}
use Rattle.record_checks.specs.Parts.{PartsMakeTheMeaning}
use Rattle.record_checks.specs.declared.counts.Confirmed.{Confirmed}
use Rattle.record_checks.specs.declared.part.Part.{Part}
use Rattle.whole_checks.specs.Chains.{IsChainBehind}
use Rattle.whole_checks.specs.Confirming.{Answer, AreWhole, ConfirmsBehind, HaveOneAnswer}
use Rattle.whole_checks.specs.declared.fault.WholeFault.{WholeFault}
use Rattle.whole_checks.specs.declared.fault.WholeFault.TheVariants.{NotConfirmed, NotWhole}

not_fault : {C : Type 0} (counts : Confirmed) (fault : WholeFault) → ◌≡◌ {A = Answer} (Ok counts) (Err fault) → C
not_fault counts fault e = absurd (clash e)
  where
    clash : ◌≡◌ {A = Answer} (Ok counts) (Err fault) → ⊥
    clash e = cc

module _ (s : SymStart) where
  one_behind : PartsMakeTheMeaning s → (xs : List RecordTree) (before : Option (List Decision)) (number : ℕ) (counts : Confirmed) (a b : Answer)
      → ConfirmsBehind s before number counts xs a → ConfirmsBehind s before number counts xs b → a ≡ b
  one_behind laws [] before number counts a b (inl h) (inl k) = h.1 ∙ sym k.1
  one_behind laws [] before number counts a b (inl h) (inr k) = absurd (k.0 h.0)
  one_behind laws [] before number counts a b (inr h) (inl k) = absurd (h.0 k.0)
  one_behind laws [] before number counts a b (inr h) (inr k) = h.1 ∙ sym k.1
  one_behind laws (x ∷ xs) before number counts a b (inl h) (inl k) =
      h.2 ∙ (ap (λ (part : Part). answer_of part) (laws.one h.0 k.0 x h.1 k.1) ∙ sym k.2)
    where
      answer_of : Part → Answer
      answer_of part = Err (NotConfirmed number part)
  one_behind laws (x ∷ xs) before number counts a b (inl h) (inr (inl k)) = absurd (laws.broken h.0 x h.1 k.0)
  one_behind laws (x ∷ xs) before number counts a b (inl h) (inr (inr k)) = absurd (laws.broken h.0 x h.1 k.0)
  one_behind laws (x ∷ xs) before number counts a b (inr (inl h)) (inl k) = absurd (laws.broken k.0 x k.1 h.0)
  one_behind laws (x ∷ xs) before number counts a b (inr (inl h)) (inr (inl k)) = h.2 ∙ sym k.2
  one_behind laws (x ∷ xs) before number counts a b (inr (inl h)) (inr (inr k)) = absurd (h.1 k.1)
  one_behind laws (x ∷ xs) before number counts a b (inr (inr h)) (inl k) = absurd (laws.broken k.0 x k.1 h.0)
  one_behind laws (x ∷ xs) before number counts a b (inr (inr h)) (inr (inl k)) = absurd (k.1 h.1)
  one_behind laws (x ∷ xs) before number counts a b (inr (inr h)) (inr (inr k)) =
      one_behind laws xs (Some (decisions_of x)) (suc number) (with_record x counts) a b h.2 k.2

  pub one_answer : PartsMakeTheMeaning s → (xs : List RecordTree) → HaveOneAnswer s xs
  one_answer laws xs a b h k = one_behind laws xs None 0 (counts_of []) a b h k

  whole_behind : (xs : List RecordTree) (before : Option (List Decision)) (number : ℕ) (counts all : Confirmed) → ConfirmsBehind s before number counts xs (Ok all)
      → AllByRecursion (HasMeaning s) xs × IsChainBehind s before xs
  whole_behind [] before number counts all (inl h) = (tt, h.0)
  whole_behind [] before number counts all (inr h) = not_fault all (NotWhole number) h.1
  whole_behind (x ∷ xs) before number counts all (inl h) = not_fault all (NotConfirmed number h.0) h.2
  whole_behind (x ∷ xs) before number counts all (inr (inl h)) = not_fault all (NotWhole number) h.2
  whole_behind (x ∷ xs) before number counts all (inr (inr h)) =
      let rest = whole_behind xs (Some (decisions_of x)) (suc number) (with_record x counts) all h.2 in
      ((h.0, rest.0), (h.1, rest.1))

  pub are_whole : (xs : List RecordTree) → AreWhole s xs
  are_whole xs counts h = whole_behind xs None 0 (counts_of []) counts h
