-- Questions that have their hit.
use Rattle.std.proofs.Common.{◌≡◌, ◌∙◌, ◌+◌, ℕ, true, List, [], ◌∷◌, ◌++◌, length, length-append, ap, sym, true≢false}
use Rattle.std.specs.List.{list_all}
use Rattle.net_check.specs.Network.{Network, Entry}
use Rattle.exact_records.specs.Records.{RecordTree}
use Rattle.path_questions.specs.Telling.{saying}
use Rattle.path_questions.specs.Asked.{question_seen}
use Rattle.path_questions.specs.Known.{is_found}
use Rattle.path_questions.specs.declared.kept.Kept.{Kept}
use Rattle.path_questions.specs.declared.kept.Kept.TheVariants.{Found, LeftOpen}
use Rattle.path_questions.specs.declared.question.Question as code
use Rattle.queries.specs.Holding.{AreKept}
use Rattle.queries.proofs.KeptLemmas.{stays_found}

module _ (net : Network) (i : Entry) (hops : ℕ) where
  -- where each question has its hit, one record more changes nothing
  pub all_stay : (rs : List RecordTree) (r : RecordTree) (qs : List code.Question) (ks : List Kept) → list_all is_found ks ≡ true → AreKept net i hops rs qs ks
      → AreKept net i hops (rs ++ r ∷ []) qs ks
  all_stay rs r [] [] f h = tt
  all_stay rs r [] (k ∷ ks) f h = absurd h
  all_stay rs r (q ∷ qs) [] f h = absurd h
  all_stay rs r (q ∷ qs) (Found n values ∷ ks) f h =
      (stays_found (saying net i hops (question_seen q)) rs r n values h.0, all_stay rs r qs ks f h.1)
  all_stay rs r (q ∷ qs) (LeftOpen numbers ∷ ks) f h = absurd (true≢false (sym f))

-- one record more counts one more
pub one_longer : {A : Type 0} (items : List A) (item : A) (count next : ℕ) → count ≡ length items → next ≡ count + 1 → next ≡ length (items ++ item ∷ [])
one_longer items item count next counted more =
    more ∙ ap (λ n. n + 1) counted ∙ sym (length-append items (item ∷ []))
