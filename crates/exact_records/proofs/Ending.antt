-- Records that stand are exact so far, and exact where nothing is left.
use Rattle.std.proofs.Common.{◌≡◌, ℕ, ◌≤◌, inl, inr, List, [], ◌∷◌, ◌++◌, length, refl, subst}
use Rattle.std.specs.List.{AllByRecursion}
use Rattle.sefl_meaning.specs.Order.{Parts}
use Rattle.sefl_meaning.specs.Routes.{Splits}
use Rattle.exact_records.specs.Below.{Facts}
use Rattle.exact_records.specs.Records.{RecordTree, SymStart, decisions_of}
use Rattle.exact_records.specs.Exact.{AreExact, AreExactSoFar, AreExactUpTo, IsTried, IsUnexplored}
use Rattle.exact_records.specs.Shapes.{SideOf}
use Rattle.exact_records.specs.Points.{Stands, Obligation, piece_of, pieces_of}
use Rattle.exact_records.specs.Laws.{StandingIsExact}
use Rattle.exact_records.proofs.Lists.{append_nil, last_of}
use Rattle.exact_records.proofs.Continuing.{exact_apart, exact_so_far, exact_whole}
use Rattle.exact_records.proofs.Cutting.{exact_cut}

module _ (facts : Facts) (s : SymStart) (copies : Splits s.tree) where
  up_to : (limit : ℕ) (done : List RecordTree) (last : RecordTree) (obligations : List Obligation) → Stands s limit (done ++ last ∷ []) obligations → AreExactUpTo s limit done last
  up_to limit done last obligations h = exact_so_far facts s limit done last (pieces_of obligations) copies h.continues h.good h.within

  so_far : (limit : ℕ) (done : List RecordTree) (obligations : List Obligation) → Stands s limit done obligations → AreExactSoFar s limit done
  so_far limit done obligations h = record {
    is = elim (last_of done) [
      | inl e ↦ inl e
      | inr k ↦ inr (k.0, k.1, k.2, up_to limit k.0 k.1 obligations (subst (λ rs. Stands s limit rs obligations) k.2 h))
    ];
  }

  whole : (limit : ℕ) (done : List RecordTree) → Stands s limit done [] → AllByRecursion IsTried done → length done ≤ limit → AreExact s limit done
  whole limit done h tried count = exact_whole facts s limit done copies h.continues h.good tried count

  partial : (limit : ℕ) (done : List RecordTree) (last : RecordTree) (left : List RecordTree) → Stands s limit ((done ++ last ∷ []) ++ left) []
      → AllByRecursion IsTried (done ++ last ∷ []) → length (done ++ last ∷ []) ≡ limit → AllByRecursion IsUnexplored left → (left ≡ [] → ⊥)
      → AreExact s limit ((done ++ last ∷ []) ++ left)
  partial limit done last left h tried count untried some =
      exact_cut facts s limit done last left copies
      (subst (SideOf s.tree []) (append_nil ((done ++ last ∷ []) ++ left)) (h.continues.goes_on [] refl (λ b. tt))) h.good tried count untried some

  apart : (limit : ℕ) (done : List RecordTree) (last : RecordTree) (obligation : Obligation) (obligations : List Obligation)
      → Stands s limit (done ++ last ∷ []) (obligation ∷ obligations) → Parts (decisions_of last) obligation.0.decisions
  apart limit done last obligation obligations h = exact_apart facts s limit done last (piece_of obligation.0) (pieces_of obligations) h.continues

  pub standing_is_exact : StandingIsExact s
  standing_is_exact = record { so_far = so_far; up_to = up_to; whole = whole; partial = partial; apart = apart }
