-- One record more, for one question.
use Rattle.std.proofs.Common.{◌≡◌, ℕ, true, false, true≢false, List, [], ◌∷◌, ◌++◌, length, sym, subst, Result, Ok, Err, IfOk}
use Rattle.path_cond.specs.Seen.{itself}
use Rattle.path_solver.specs.Judged.{AreExact}
use Rattle.net_check.specs.Network.{Network, Entry}
use Rattle.exact_records.specs.Records.{RecordTree}
use Rattle.path_questions.specs.Questions.{Question}
use Rattle.path_questions.specs.Telling.{IsKept, left_open, saying}
use Rattle.path_questions.specs.Known.{is_found, outcome_seen}
use Rattle.path_questions.specs.declared.judging.Judged.{Judged}
use Rattle.path_questions.specs.declared.judging.Judged.TheVariants.{Hit, Open, RuledOut}
use Rattle.path_questions.specs.declared.kept.Kept.{Kept}
use Rattle.path_questions.specs.declared.kept.Kept.TheVariants.{Found, LeftOpen}
use Rattle.queries.specs.Holding.{IsKeptOf, outcome_with}
use Rattle.queries.specs.Judged.{IsSaid, IsSeenOf, SaysOf}
use Rattle.queries.specs.declared.seen.Seen.{Seen}
use Rattle.queries.proofs.KeptLemmas.{hit_comes, open_comes, out_comes, stays_found}
use Rattle.queries.proofs.Telling.{none_where_out}

module _ (net : Network) (i : Entry) (hops : ℕ) (q : Question) where
  -- a hit stays
  pub hit_stays : (items : List RecordTree) (x : RecordTree) (kept : Kept) → is_found kept ≡ true → IsKeptOf net i hops items q kept
      → IsKeptOf net i hops (items ++ x ∷ []) q kept
  hit_stays items x (Found n values) e h = stays_found (saying net i hops q) items x n values h
  hit_stays items x (LeftOpen ns) e h = absurd (true≢false (sym e))

  next_outcome : AreExact itself → (items : List RecordTree) (x : RecordTree) (number : ℕ) → number ≡ length items → (ns : List ℕ)
      → IsKept (saying net i hops q) items (left_open ns) → (judged : Judged) → IsSaid net i hops q x judged
      → IsKept (saying net i hops q) (items ++ x ∷ []) (outcome_with number judged (left_open ns))
  next_outcome verdicts items x number counted ns h (Hit values) s = hit_comes (saying net i hops q) items x number ns values counted h s
  next_outcome verdicts items x number counted ns h Open s = open_comes (saying net i hops q) items x number ns counted h s
  next_outcome verdicts items x number counted ns h RuledOut s =
      out_comes (saying net i hops q) items x ns (none_where_out net i hops q verdicts x s) h s

  next_kept : AreExact itself → (items : List RecordTree) (x : RecordTree) (number : ℕ) → number ≡ length items → (old new : Kept) → is_found old ≡ false
      → IsKeptOf net i hops items q old → (judged : Judged) → IsSaid net i hops q x judged → outcome_seen new ≡ outcome_with number judged (outcome_seen old)
      → IsKeptOf net i hops (items ++ x ∷ []) q new
  next_kept verdicts items x number counted (Found n values) new e h judged s is = absurd (true≢false e)
  next_kept verdicts items x number counted (LeftOpen ns) new e h judged s is =
      subst (IsKept (saying net i hops q) (items ++ x ∷ [])) (sym is) (next_outcome verdicts items x number counted ns.items h judged s)

  -- what is noted of a record is kept
  pub noted_so : {A E : Type 0} (r : Result A E) → AreExact itself → (number : ℕ) (seen : Seen) (judged : Judged) → SaysOf net i hops q seen judged → (old new : Kept)
      → is_found old ≡ false → IfOk r (λ done. outcome_seen new ≡ outcome_with number judged (outcome_seen old))
      → IfOk r (λ done. (items : List RecordTree) (x : RecordTree) → number ≡ length items → IsSeenOf net i hops x seen
      → IsKeptOf net i hops items q old → IsKeptOf net i hops (items ++ x ∷ []) q new)
  noted_so (Ok done) verdicts number seen judged says old new e is = λ items x counted s h.
      next_kept verdicts items x number counted old new e h judged (says x s) is
  noted_so (Err error) verdicts number seen judged says old new e is = tt

  -- of the record that was seen
  pub of_record : {A E : Type 0} (r : Result A E) (number : ℕ) (seen : Seen) (x : RecordTree) → IsSeenOf net i hops x seen → (old new : Kept)
      → IfOk r (λ done. (items : List RecordTree) (y : RecordTree) → number ≡ length items → IsSeenOf net i hops y seen
      → IsKeptOf net i hops items q old → IsKeptOf net i hops (items ++ y ∷ []) q new)
      → IfOk r (λ done. (items : List RecordTree) → number ≡ length items → IsKeptOf net i hops items q old → IsKeptOf net i hops (items ++ x ∷ []) q new)
  of_record (Ok done) number seen x s old new f = λ items counted h. f items x counted s h
  of_record (Err error) number seen x s old new f = tt
