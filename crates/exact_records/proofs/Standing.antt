-- Each step keeps that the records and the obligations stand for the whole.
use Rattle.std.proofs.Common.{◌≡◌, ℕ, suc, ◌+◌, ◌<◌, ◌≤◌, inl, inr, true, false, List, [], ◌∷◌, ◌++◌, length, refl, sym, ap, subst, ◌∙◌, arith, Option, Some, None}
use Rattle.std.specs.List.{AllByRecursion}
use Rattle.lin_term.specs.Terms.{LinearTerm}
use Rattle.path_formula.specs.Formulas.{FormulaTree}
use Rattle.path_cond.specs.Seen.{AllTyped, itself}
use Rattle.refutation_check.specs.declared.outcome.Verdict.{Verdict}
use Rattle.refutation_check.specs.declared.steps.Refute.{Refute}
use Rattle.sefl_meaning.specs.declared.walk.Decision.{Decision}
use Rattle.sefl_meaning.specs.declared.walk.Decision.TheVariants.{Copy}
use Rattle.sefl_meaning.specs.declared.walk.End.{End}
use Rattle.sefl_meaning.specs.Courses.{Asking, Progress}
use Rattle.sefl_meaning.specs.Trees.{over, tests, splits, Copies, no_copies, copy_and}
use Rattle.sefl_meaning.specs.Fields.{fields_of}
use Rattle.exact_records.specs.Below.{Facts}
use Rattle.exact_records.specs.Records.{IsFoundRefuted, IsVerdictOn, RecordTree, SymStart, SymTree, path, pruned, unexplored}
use Rattle.exact_records.specs.Exact.{IsGood, IsTried, IsUnrefuted, IsWithin}
use Rattle.exact_records.specs.Shapes.{Continues, Covers, IsPathAt, SideOf}
use Rattle.exact_records.specs.Points.{Arrives, IsBefore, IsKnown, IsPending, Known, Point, Stands, Obligation, condition_at, copy_at, copy_obligations, decided, first_point, node_of, piece_of, pieces_of, side_obligations, to_decide}
use Rattle.exact_records.specs.Laws.{StepsStand}
use Rattle.exact_records.proofs.Lists.{all_append}
use Rattle.exact_records.proofs.Within.{none_within, within_left, within_made}
use Rattle.exact_records.proofs.Arriving.{IsWaiting, waits_next}
use Rattle.exact_records.proofs.Judging.{just_known, known_next}
use Rattle.exact_records.proofs.Steps.{copy_pends, path_is_good, pruned_is_good, side_pends, start_pends, unexplored_is_good}
use Rattle.exact_records.proofs.Continuing.{all_copies, both_sides, continue_made, continue_opened, continue_start, copies_cover, covers_node, sides_cover}

module _ (facts : Facts) (s : SymStart) where
  abbrev Pending : Obligation → Type 0
  Pending obligation = IsPending s obligation.0 obligation.1

  begins : (limit : ℕ) → Stands s limit [] ((first_point s, to_decide None) ∷ [])
  begins limit = record { continues = continue_start s.tree limit; good = tt; pending = (start_pends s, tt); within = none_within limit }

  decides : (limit : ℕ) (done : List RecordTree) (a : Point) (before : Option Verdict) (verdict : Verdict) (rest : List Obligation)
      → AllTyped itself a.widths (condition_at s a).entries → IsVerdictOn (condition_at s a) verdict
      → Stands s limit done ((a, to_decide before) ∷ rest) → Stands s limit done ((a, decided verdict) ∷ rest)
  decides limit done a before verdict rest typed is h = record {
    continues = h.continues;
    good = h.good;
    pending = (record { at = h.pending.0.at; unrefuted = h.pending.0.unrefuted; found = just_known (condition_at s a) verdict typed is }, h.pending.1);
    within = h.within;
  }

  made : (limit : ℕ) (done : List RecordTree) (a : Point) (known : Known) (x : RecordTree) (rest : List Obligation)
      → SideOf a.tree a.decisions (x ∷ []) → (length done < limit → IsTried x) → IsGood s x → (IsWithin limit done → IsWithin limit (done ++ x ∷ []))
      → Stands s limit done ((a, known) ∷ rest) → Stands s limit (done ++ x ∷ []) rest
  made limit done a known x rest side tried good within h = record {
    continues = continue_made s.tree limit done (piece_of a) (pieces_of rest) x side tried h.continues;
    good = all_append _ done (x ∷ []) h.good (good, tt);
    pending = h.pending.1;
    within = within h.within;
  }

  prunes : (limit : ℕ) (done : List RecordTree) (a : Point) (before written : Option Verdict) (refutation : List Refute) (rest : List Obligation)
      → length done < limit → IsBefore s a before written → IsFoundRefuted (condition_at s a) refutation
      → Stands s limit done ((a, to_decide before) ∷ rest) → Stands s limit (done ++ pruned a.decisions written refutation ∷ []) rest
  prunes limit done a before written refutation rest below is refuted h =
      made limit done a (to_decide before) (pruned a.decisions written refutation) rest
      (inl (record { it = pruned a.decisions written refutation; is = refl; has = refl })) (λ b k. k)
      (pruned_is_good facts s a before written refutation h.pending.0 is refuted)
      (within_made limit done (pruned a.decisions written refutation) below (λ k. k)) h

  over_covers : (t u : SymTree) (p : Progress LinearTerm) (end' : End) (ds : List Decision) (x : RecordTree) → u ≡ node_of t → u ≡ over p end' → IsPathAt ds x → Covers t ds (x ∷ [])
  over_covers t u p end' ds x e k h =
      covers_node t ds (x ∷ []) (subst (λ z. Covers z ds (x ∷ [])) (sym k ∙ e) (record { it = x; is = refl; has = h }))

  unrefuted_next : (a b : Point) → Arrives s a b → IsUnrefuted s a.decisions → IsUnrefuted s b.decisions
  unrefuted_next a b n h = subst (IsUnrefuted s) (sym n.decisions) h

  ends : (limit : ℕ) (done : List RecordTree) (a b : Point) (verdict written : Verdict) (p : Progress LinearTerm) (end' : End) (rest : List Obligation)
      → length done < limit → Arrives s a b → b.tree ≡ over p end' → IsVerdictOn (condition_at s b) written
      → Stands s limit done ((a, decided verdict) ∷ rest) → Stands s limit (done ++ path b.decisions b.places end' (fields_of p.state) written ∷ []) rest
  ends limit done a b verdict written p end' rest below n e is h =
      let x : RecordTree = path b.decisions b.places end' (fields_of p.state) written in
      made limit done a (decided verdict) x rest
      (inr (λ k. k, over_covers a.tree b.tree p end' a.decisions x n.tree e n.decisions)) (λ b k. k)
      (path_is_good facts s b p end' written (waits_next s a b h.pending.0.at n) e (unrefuted_next a b n h.pending.0.unrefuted) is)
      (within_made limit done x below (λ k. k)) h

  asks : (limit : ℕ) (done : List RecordTree) (a b : Point) (verdict : Verdict) (asking : Asking) (p : Progress LinearTerm) (test : FormulaTree)
      (held broken : SymTree) (rest : List Obligation) → length done < limit → Arrives s a b → b.tree ≡ tests asking p test held broken
      → Stands s limit done ((a, decided verdict) ∷ rest) → Stands s limit done (side_obligations b verdict asking test held broken ++ rest)
  asks limit done a b verdict asking p test held broken rest below n e h =
      let w = waits_next s a b h.pending.0.at n in
      let un = unrefuted_next a b n h.pending.0.unrefuted in
      let known = known_next s a b verdict n h.pending.0.found in
      record {
        continues = continue_opened s.tree limit done (piece_of a) (both_sides b.decisions asking held broken) (pieces_of rest)
            (λ rs c. covers_node a.tree a.decisions rs (subst (λ z. Covers z a.decisions rs) (sym e ∙ n.tree) (subst (λ ds. Covers (tests asking p test held broken) ds rs) n.decisions (sides_cover b.decisions asking p test held broken rs c))))
            below h.continues;
        good = h.good;
        pending = (side_pends facts s b verdict asking p test held broken true w e un known, (side_pends facts s b verdict asking p test held broken false w e un known, h.pending.1));
        within = h.within;
      }

  copy_pieces : (b : Point) (verdict : Verdict) (number : ℕ) (branches : Copies LinearTerm FormulaTree) (rest : List Obligation)
      → pieces_of (copy_obligations b verdict number branches ++ rest) ≡ all_copies b.decisions number branches ++ pieces_of rest
  copy_pieces b verdict number no_copies rest = refl
  copy_pieces b verdict number (copy_and t branches) rest = ap (λ ps. record { decisions = b.decisions ++ Copy number ∷ []; tree = t } ∷ ps) (copy_pieces b verdict (suc number) branches rest)

  copies_pend : (b : Point) (verdict : Verdict) (p : Progress LinearTerm) (branches : Copies LinearTerm FormulaTree) (first : ℕ) (more : Copies LinearTerm FormulaTree)
      → ((n : ℕ) (t : SymTree) → copy_at more n ≡ Some t → copy_at branches (first + n) ≡ Some t) → IsWaiting s b → b.tree ≡ splits p branches → IsUnrefuted s b.decisions
      → IsKnown (condition_at s b) verdict → AllByRecursion Pending (copy_obligations b verdict first more)
  copies_pend b verdict p branches first no_copies same w e un known = tt
  copies_pend b verdict p branches first (copy_and t more) same w e un known = (
    copy_pends facts s b verdict p branches first t w e (subst (λ (n : ℕ). copy_at branches n ≡ Some t) (omega arith) (same 0 t refl)) un known,
    copies_pend b verdict p branches (suc first) more (λ n u k. subst (λ (m : ℕ). copy_at branches m ≡ Some u) (omega arith) (same (suc n) u k)) w e un known,
  )

  forks : (limit : ℕ) (done : List RecordTree) (a b : Point) (verdict : Verdict) (p : Progress LinearTerm) (branches : Copies LinearTerm FormulaTree)
      (rest : List Obligation) → length done < limit → Arrives s a b → b.tree ≡ splits p branches
      → Stands s limit done ((a, decided verdict) ∷ rest) → Stands s limit done (copy_obligations b verdict 0 branches ++ rest)
  forks limit done a b verdict p branches rest below n e h =
      let w = waits_next s a b h.pending.0.at n in
      let un = unrefuted_next a b n h.pending.0.unrefuted in
      let known = known_next s a b verdict n h.pending.0.found in
      record {
        continues = subst (Continues s.tree limit done) (sym (copy_pieces b verdict 0 branches rest))
            (continue_opened s.tree limit done (piece_of a) (all_copies b.decisions 0 branches) (pieces_of rest)
            (λ rs c. covers_node a.tree a.decisions rs (subst (λ z. Covers z a.decisions rs) (sym e ∙ n.tree) (subst (λ ds. Covers (splits p branches) ds rs) n.decisions (copies_cover branches b.decisions 0 rs c))))
            below h.continues);
        good = h.good;
        pending = all_append Pending (copy_obligations b verdict 0 branches) rest (copies_pend b verdict p branches 0 branches (λ m t k. subst (λ (i : ℕ). copy_at branches i ≡ Some t) (omega arith) k) w e un known) h.pending.1;
        within = h.within;
      }

  leaves : (limit : ℕ) (done : List RecordTree) (a : Point) (known : Known) (rest : List Obligation) → limit ≤ length done
      → Stands s limit done ((a, known) ∷ rest) → Stands s limit (done ++ unexplored a.decisions ∷ []) rest
  leaves limit done a known rest above h =
      made limit done a known (unexplored a.decisions) rest (inl (record { it = unexplored a.decisions; is = refl; has = refl })) (λ b. absurd (omega (arith, b, above)))
      (unexplored_is_good facts s a h.pending.0.at h.pending.0.unrefuted)
      (within_left limit done (unexplored a.decisions) above tt) h

  pub steps_stand : StepsStand s
  steps_stand = record { begins = begins; decides = decides; prunes = prunes; ends = ends; asks = asks; forks = forks; leaves = leaves }
