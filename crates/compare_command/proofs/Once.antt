-- A comparison of two jobs has one outcome.
use Rattle.std.proofs.Common.{◌≡◌, ◌∙◌, ◌⊎◌, ℕ, suc, inl, inr, List, [], ◌∷◌, ◌++◌, if◌then◌else◌, length, map, Bool, true, false, Some, refl, sym, ap, subst}
use Rattle.net_check.specs.Network.{Network, Entry}
use Rattle.path_questions.specs.Formulas.{explored}
use Rattle.exact_records.specs.Packets.{AreExactFor}
use Rattle.exact_records.specs.Records.{RecordTree, SymStart, path, pruned, unexplored}
use Rattle.one_list.specs.Same.{AreAlike, RecordsAreOne, without_refutation}
use Rattle.compare_meaning.specs.Clashes.{IsFirstClash, both_paths}
use Rattle.compare_meaning.specs.Comparing.{IsComparison}
use Rattle.compare_meaning.specs.Laws.{ComparisonIsOne, FirstClashIsOne}
use Rattle.compare_meaning.specs.Paths.{DeliveredPath, Half, delivered, delivered_from, paths_of, with_one}
use Rattle.net_compare.specs.Halves.{half_of}
use Rattle.command_edge.specs.Puts.{Outcome, text, refused}
use Rattle.command_edge.specs.declared.ending.Ending.{Ending}
use Rattle.command_edge.specs.declared.ending.Ending.TheVariants.{Done, Partial}
use Rattle.command_edge.specs.declared.fault.OwnFault.TheVariants.{BadCompare}
use Rattle.explore_command.specs.Explores.{IsEnding}
use Rattle.compare_command.specs.Compares.{AreFoundFor, ComparesTo, EndsSo, IsLeftOut, IsNotCompared, IsTextOf, OfBoth, cut_count, cuts_of, is_cut}
use Rattle.compare_command.specs.Texts.{compared_text}

-- ---- delivered paths see no refutation

module _ (net : Network) (start : SymStart) where
  seen : (number : ℕ) (x : RecordTree) → delivered net start number (without_refutation x) ≡ delivered net start number x
  seen number (path ds places end' fields verdict) = refl
  seen number (pruned ds before refutation) = refl
  seen number (unexplored ds) = refl

  all_seen : (number : ℕ) (xs : List RecordTree) → delivered_from net start number (map without_refutation xs) ≡ delivered_from net start number xs
  all_seen number [] = refl
  all_seen number (x ∷ xs) = λ j. with_one (seen number x j) (all_seen (suc number) xs j)

  same_paths : (number : ℕ) (xs ys : List RecordTree) → AreAlike xs ys → delivered_from net start number xs ≡ delivered_from net start number ys
  same_paths number xs ys alike = sym (all_seen number xs) ∙ (ap (delivered_from net start number) alike ∙ all_seen number ys)

count_seen : (xs : List RecordTree) → length (map without_refutation xs) ≡ length xs
count_seen [] = refl
count_seen (x ∷ xs) = ap suc (count_seen xs)

same_count : (xs ys : List RecordTree) → AreAlike xs ys → length xs ≡ length ys
same_count xs ys alike = sym (count_seen xs) ∙ (ap length alike ∙ count_seen ys)

-- ---- so does the number of paths that are cut

cut_seen : (x : RecordTree) → is_cut (without_refutation x) ≡ is_cut x
cut_seen (path ds places end' fields verdict) = refl
cut_seen (pruned ds before refutation) = refl
cut_seen (unexplored ds) = refl

cuts_seen : (xs : List RecordTree) → cut_count (map without_refutation xs) ≡ cut_count xs
cuts_seen [] = refl
cuts_seen (x ∷ xs) = λ j. if cut_seen x j then suc (cuts_seen xs j) else cuts_seen xs j

same_cuts : (xs ys : List RecordTree) → AreAlike xs ys → cut_count xs ≡ cut_count ys
same_cuts xs ys alike = sym (cuts_seen xs) ∙ (ap cut_count alike ∙ cuts_seen ys)

both_cuts : (counts : Bool) (ls ms rs qs : List RecordTree) → AreAlike ls ms → AreAlike rs qs → cuts_of counts ls rs ≡ cuts_of counts ms qs
both_cuts true ls ms rs qs lefts rights = let left = same_cuts ls ms lefts in let right = same_cuts rs qs rights in λ j. Some (left j, right j)
both_cuts false ls ms rs qs lefts rights = refl

-- ---- two outcomes

-- all explorations of a job end alike
abbrev EndAlike : Type 0
EndAlike = (hops limit : ℕ) (net : Network) (i : Entry) (rs qs : List RecordTree) (a b : Ending) → AreExactFor net i hops limit rs
    → AreExactFor net i hops limit qs → IsEnding a rs → IsEnding b qs → a ≡ b

done_partial : Done ≡ Partial → ⊥
done_partial e = cc e

module _ (alike : EndAlike) (records : (net : Network) (i : Entry) (hops : ℕ) → RecordsAreOne net i hops) (comparison : ComparisonIsOne) (clash : FirstClashIsOne)
    (hops limit : ℕ) (ln : Network) (li : Entry) (rn : Network) (ri : Entry) where
  abbrev Whole : (Half → Half → Type 0) → Type 0
  Whole Fact = OfBoth hops limit ln li rn ri Fact

  -- an exploration that leaves something out is none that leaves nothing out
  not_both : (net : Network) (i : Entry) (rs : List RecordTree) → AreFoundFor hops limit net i Done rs → EndsSo hops limit net i Partial → ⊥
  not_both net i rs h (qs, k) = done_partial (alike hops limit net i rs qs Done Partial h.exact k.exact h.ends k.ends)

  not_left_out : {Fact : Half → Half → Type 0} → Whole Fact → IsLeftOut hops limit ln li rn ri → ⊥
  not_left_out h out = by out.some
    where
      by : EndsSo hops limit ln li Partial ⊎ (EndsSo hops limit ln li Done × EndsSo hops limit rn ri Partial) → ⊥
      by (inl left) = not_both ln li h.lefts h.left left
      by (inr both) = not_both rn ri h.rights h.right both.1

  module _ {Fact Other : Half → Half → Type 0} (h : Whole Fact) (k : Whole Other) where
    lefts : AreAlike h.lefts k.lefts
    lefts = records ln li hops limit h.lefts k.lefts h.left.exact k.left.exact

    rights : AreAlike h.rights k.rights
    rights = records rn ri hops limit h.rights k.rights h.right.exact k.right.exact

    same_left : paths_of (half_of hops ln li h.lefts) ≡ paths_of (half_of hops ln li k.lefts)
    same_left = same_paths ln (explored ln li hops) 0 h.lefts k.lefts lefts

    same_right : paths_of (half_of hops rn ri h.rights) ≡ paths_of (half_of hops rn ri k.rights)
    same_right = same_paths rn (explored rn ri hops) 0 h.rights k.rights rights

    behind : delivered_from rn (explored rn ri hops) (length h.lefts) h.rights ≡ delivered_from rn (explored rn ri hops) (length k.lefts) k.rights
    behind =
        ap (λ (n : ℕ). delivered_from rn (explored rn ri hops) n h.rights) (same_count h.lefts k.lefts lefts)
        ∙ same_paths rn (explored rn ri hops) (length k.lefts) h.rights k.rights rights

    same_both : both_paths (half_of hops ln li h.lefts) (half_of hops rn ri h.rights) ≡ both_paths (half_of hops ln li k.lefts) (half_of hops rn ri k.rights)
    same_both = λ j. same_left j ++ behind j

  one_text : (counts : Bool) (whole line : List ℕ) → Whole (IsTextOf hops limit ln li rn ri counts whole) → Whole (IsTextOf hops limit ln li rn ri counts line)
      → whole ≡ line
  one_text counts whole line h k =
      let its : IsComparison (paths_of (half_of hops ln li h.lefts)) (paths_of (half_of hops rn ri h.rights)) k.fact.0 =
      subst (λ (ls : List DeliveredPath). IsComparison ls (paths_of (half_of hops rn ri h.rights)) k.fact.0) (sym (same_left h k))
      (subst (λ (rs : List DeliveredPath). IsComparison (paths_of (half_of hops ln li k.lefts)) rs k.fact.0) (sym (same_right h k)) k.fact.1.is) in
      let same = comparison (paths_of (half_of hops ln li h.lefts)) (paths_of (half_of hops rn ri h.rights)) h.fact.0 k.fact.0 h.fact.1.is its in
      let cuts : cuts_of counts h.lefts h.rights ≡ cuts_of counts k.lefts k.rights = both_cuts counts h.lefts k.lefts h.rights k.rights (lefts h k) (rights h k) in
      h.fact.2 ∙ ((λ j. compared_text (cuts j) (same j)) ∙ sym k.fact.2)

  text_or_not : (counts : Bool) (whole : List ℕ) (kind one other : ℕ) → Whole (IsTextOf hops limit ln li rn ri counts whole) → IsNotCompared hops limit ln li rn ri kind one other → ⊥
  text_or_not counts whole kind one other h (inl k) = k.3 h.fact.1.own
  text_or_not counts whole kind one other h (inr k) =
      clash.not_none (both_paths (half_of hops ln li h.lefts) (half_of hops rn ri h.rights)) one other h.fact.1.fits
      (subst (λ (ps : List DeliveredPath). IsFirstClash ps one other) (sym (same_both h k.2)) k.2.fact)

  partial_or_not : (kind one other : ℕ) → IsLeftOut hops limit ln li rn ri → IsNotCompared hops limit ln li rn ri kind one other → ⊥
  partial_or_not kind one other out (inl k) = k.3 out.own
  partial_or_not kind one other out (inr k) = not_left_out k.2 out

  same_refusal : (kind one other also its another : ℕ) → kind ≡ also → one ≡ its → other ≡ another
      → ◌≡◌ {A = Outcome} (refused (BadCompare kind one other)) (refused (BadCompare also its another))
  same_refusal kind one other also its another kinds ones others = λ j. refused (BadCompare (kinds j) (ones j) (others j))

  one_refusal : (kind one other also its another : ℕ) → IsNotCompared hops limit ln li rn ri kind one other
      → IsNotCompared hops limit ln li rn ri also its another → ◌≡◌ {A = Outcome} (refused (BadCompare kind one other)) (refused (BadCompare also its another))
  one_refusal kind one other also its another (inl h) (inl k) = same_refusal kind one other also its another (h.0 ∙ sym k.0) (h.1 ∙ sym k.1) (h.2 ∙ sym k.2)
  one_refusal kind one other also its another (inl h) (inr k) = absurd (h.3 k.1)
  one_refusal kind one other also its another (inr h) (inl k) = absurd (k.3 h.1)
  one_refusal kind one other also its another (inr h) (inr k) =
      let same = clash.one (both_paths (half_of hops ln li h.2.lefts) (half_of hops rn ri h.2.rights)) one other its another h.2.fact
      (subst (λ (ps : List DeliveredPath). IsFirstClash ps its another) (sym (same_both h.2 k.2)) k.2.fact) in
      same_refusal kind one other also its another (h.0 ∙ sym k.0) same.0 same.1

  pub compared_once : (counts : Bool) (a b : Outcome) → ComparesTo hops limit ln li rn ri counts a → ComparesTo hops limit ln li rn ri counts b → a ≡ b
  compared_once counts (text Done whole) (text Done line) h k = ap (text Done) (one_text counts whole line h k)
  compared_once counts (text Done whole) (text Partial line) h k = absurd (not_left_out h k.0)
  compared_once counts (text Done whole) (refused (BadCompare kind one other)) h k = absurd (text_or_not counts whole kind one other h k)
  compared_once counts (text Done whole) (refused fault) h k = absurd k
  compared_once counts (text Partial whole) (text Done line) h k = absurd (not_left_out k h.0)
  compared_once counts (text Partial whole) (text Partial line) h k = ap (text Partial) (h.1 ∙ sym k.1)
  compared_once counts (text Partial whole) (refused (BadCompare kind one other)) h k = absurd (partial_or_not kind one other h.0 k)
  compared_once counts (text Partial whole) (refused fault) h k = absurd k
  compared_once counts (refused (BadCompare kind one other)) (text Done line) h k = absurd (text_or_not counts line kind one other k h)
  compared_once counts (refused (BadCompare kind one other)) (text Partial line) h k = absurd (partial_or_not kind one other k.0 h)
  compared_once counts (refused (BadCompare kind one other)) (refused (BadCompare also its another)) h k = one_refusal kind one other also its another h k
  compared_once counts (refused (BadCompare kind one other)) (refused fault) h k = absurd k
  compared_once counts (refused fault) b h k = absurd h
