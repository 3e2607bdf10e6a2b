-- Records that are confirmed one after another.
use Rattle.std.proofs.Common.{◌≡◌, ◌∙◌, ◌<◌, ◌≤◌, ◌+◌, ℕ, suc, inl, inr, List, [], ◌∷◌, Option, None, Some, Ok, Err, drop, get_or, length, refl, sym, ap, subst, arith}
use Rattle.std.proofs.lemmas.List.{drop_all, drop_more}
use Rattle.sefl_meaning.specs.declared.walk.Decision.{Decision}
use Rattle.path_records.specs.declared.records.Record.{Record}
use Rattle.exact_records.specs.Records.{HasMeaning, RecordTree, SymStart, decisions_of}
use Rattle.exact_records.specs.View.{record_tree, record_trees}
use Rattle.record_checks.specs.Confirming.{ConfirmsNext}
use Rattle.record_checks.specs.Counts.{counts_of, with_record}
use Rattle.record_checks.specs.declared.counts.Confirmed.{Confirmed}
use Rattle.record_checks.specs.declared.fault.ReplayFault.{ReplayFault}
use Rattle.record_checks.specs.declared.fault.ReplayFault.TheVariants.{NotConfirmed as IsBrokenAt, NoMemory as NoReplay}
use Rattle.whole_checks.specs.Chains.{Ends, Joins}
use Rattle.whole_checks.specs.Confirming.{Answer, ConfirmsBehind, ConfirmsWhole, fault_of}
use Rattle.whole_checks.specs.Settling.{IsJoined, IsNotJoined, decisions_before}
use Rattle.whole_checks.specs.declared.fault.WholeFault.{WholeFault}
use Rattle.whole_checks.specs.declared.fault.WholeFault.TheVariants.{NotConfirmed, NotWhole, NoMemory}
use Rattle.whole_checks.specs.declared.joining.Before.{Before}

pub tree_left : (xs : List Record) (n : ℕ) (x : Record) → n < length xs → x ≡ get_or xs n x → record_trees (drop n xs) ≡ record_tree x ∷ record_trees (drop (n + 1) xs)
tree_left xs n x less is = ap record_trees (drop_more xs n x less ∙ ap (λ y. y ∷ drop (n + 1) xs) (sym is))

module _ (s : SymStart) (xs : List Record) (n : ℕ) (before : Option (List Decision)) (number : ℕ) (counts : Confirmed)
    (whole : (answer : Answer) → ConfirmsBehind s before number counts (record_trees (drop n xs)) answer → ConfirmsBehind s None 0 (counts_of []) (record_trees xs) answer) where
  -- the records are over
  pub ended : length xs ≤ n → Ends s before → ConfirmsWhole s (record_trees xs) (Ok counts)
  ended past ends = inr (whole (Ok counts) (subst (λ ts. ConfirmsBehind s before number counts ts (Ok counts)) (sym (ap record_trees (drop_all n xs past))) (inl (ends, refl))))

  pub not_ended : length xs ≤ n → (Ends s before → ⊥) → ConfirmsWhole s (record_trees xs) (Err (NotWhole number))
  not_ended past ends =
      inr (whole (Err (NotWhole number))
      (subst (λ ts. ConfirmsBehind s before number counts ts (Err (NotWhole number))) (sym (ap record_trees (drop_all n xs past))) (inr (ends, refl))))

  module _ (x : Record) (tree : record_trees (drop n xs) ≡ record_tree x ∷ record_trees (drop (n + 1) xs)) where
    here : (answer : Answer) → ConfirmsBehind s before number counts (record_tree x ∷ record_trees (drop (n + 1) xs)) answer → ConfirmsBehind s None 0 (counts_of []) (record_trees xs) answer
    here answer h = whole answer (subst (λ ts. ConfirmsBehind s before number counts ts answer) (sym tree) h)

    -- one has not its meaning
    pub next_refused : (fault : ReplayFault) → ConfirmsNext s (record_tree x) number counts (Err fault) → ConfirmsWhole s (record_trees xs) (Err (fault_of fault))
    next_refused (IsBrokenAt at part) h = inr (here (Err (NotConfirmed at part)) (inl (part, h.1, ap (λ k. Err (NotConfirmed k part)) h.0)))
    next_refused NoReplay h = inl refl

    module _ (meaning : HasMeaning s (record_tree x)) where
      -- or does not come next
      pub not_joined : (b : Option Before) → decisions_before b ≡ before → (fault : WholeFault) → IsNotJoined s b (record_tree x) number fault
          → ConfirmsWhole s (record_trees xs) (Err fault)
      not_joined b same (NotConfirmed at part) h = absurd h
      not_joined b same (NotWhole at) h =
          inr (here (Err (NotWhole at)) (inr (inl (meaning, subst (λ o. Joins s o (record_tree x) → ⊥) same h.0, ap (λ k. Err (NotWhole k)) h.1))))
      not_joined b same NoMemory h = inl refl

      -- the rest
      pub joined_next : (b : Option Before) → decisions_before b ≡ before → (now : Before) → IsJoined s b (record_tree x) now → (more : Confirmed) → more ≡ with_record (record_tree x) counts
          → (answer : Answer) → ConfirmsBehind s (Some now.decisions.now) (number + 1) more (record_trees (drop (n + 1) xs)) answer
          → ConfirmsBehind s None 0 (counts_of []) (record_trees xs) answer
      joined_next b same now joined more is answer h =
          let up : number + 1 ≡ suc number = omega arith in
          here answer (inr (inr (
            meaning,
            subst (λ o. Joins s o (record_tree x)) same joined.joins,
            subst (λ ds. ConfirmsBehind s (Some ds) (suc number) (with_record (record_tree x) counts) (record_trees (drop (n + 1) xs)) answer) joined.same
                (subst (λ k. ConfirmsBehind s (Some now.decisions.now) k (with_record (record_tree x) counts) (record_trees (drop (n + 1) xs)) answer) up
                (subst (λ cs. ConfirmsBehind s (Some now.decisions.now) (number + 1) cs (record_trees (drop (n + 1) xs)) answer) is h)),
          )))
