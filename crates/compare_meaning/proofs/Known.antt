-- What is known of a comparison is the comparison.
use Rattle.std.proofs.Common.{ℕ, inl, inr, true, false, List, [], ◌∷◌}
use Rattle.std.specs.List.{AllByRecursion}
use Rattle.path_cond.specs.Seen.{itself}
use Rattle.refutation_check.specs.Seen.{IsRefuted}
use Rattle.exact_records.specs.Records.{SymCondition}
use Rattle.compare_meaning.specs.Comparing.{AreUndecided, IsFirstMet, IsOutAt, IsUndecidedAt, IsUnmetAt, same, other, unknown}
use Rattle.compare_meaning.specs.Facing.{AreFacingBy, Faces, IsApart, IsImpossible, IsKnownMiss, IsMiss}
use Rattle.compare_meaning.specs.Laws.{KnownIsComparison}
use Rattle.compare_meaning.specs.Paths.{DeliveredPath}
use Rattle.compare_meaning.proofs.Lists.{all_weaker}

not_facing : (p q : DeliveredPath) → IsApart p q → Faces p q → ⊥
not_facing p q (inl k) f = k f.exit
not_facing p q (inr (inl k)) f = k f.layout
not_facing p q (inr (inr k)) f = f.open' k.refuted

facing_so : (p : DeliveredPath) (qs fs : List DeliveredPath) → AreFacingBy (IsApart p) p qs fs → AreFacingBy (λ q. Faces p q → ⊥) p qs fs
facing_so p [] fs h = h
facing_so p (q ∷ qs) fs (inl h) = inl (h.0, h.1, h.2, facing_so p qs h.1 h.3)
facing_so p (q ∷ qs) fs (inr h) = inr (not_facing p q h.0, facing_so p qs fs h.1)

miss_so : (p : DeliveredPath) (qs : List DeliveredPath) (c : SymCondition) → IsKnownMiss p qs c → IsMiss p qs c
miss_so p qs c h = record {
  facing = h.facing;
  are_facing = facing_so p qs h.facing h.are_facing;
  formulas = h.formulas;
  are_formulas = h.are_formulas;
  widths = h.widths;
  entries = h.entries;
  most_choices = h.most_choices;
}

module _ (qs : List DeliveredPath) where
  undecided_so : (p : DeliveredPath) → IsUndecidedAt IsKnownMiss IsImpossible qs p → IsUndecidedAt IsMiss (IsRefuted itself) qs p
  undecided_so p h = (h.0, miss_so p qs h.0 h.1, h.2)

  out_so : (p : DeliveredPath) → IsOutAt IsKnownMiss IsImpossible qs p → IsOutAt IsMiss (IsRefuted itself) qs p
  out_so p h = (h.0, miss_so p qs h.0 h.1, h.2.refuted)

  unmet_so : (p : DeliveredPath) → IsUnmetAt IsKnownMiss IsImpossible qs p → IsUnmetAt IsMiss (IsRefuted itself) qs p
  unmet_so p (inl h) = inl (undecided_so p h)
  unmet_so p (inr h) = inr (out_so p h)

  first_so : (ps : List DeliveredPath) (number : ℕ) (values : List ℕ) → IsFirstMet IsKnownMiss IsImpossible qs ps number values
      → IsFirstMet IsMiss (IsRefuted itself) qs ps number values
  first_so [] number values h = h
  first_so (p ∷ ps) number values (inl h) = inl (h.0, (h.1.0, miss_so p qs h.1.0 h.1.1, h.1.2))
  first_so (p ∷ ps) number values (inr h) = inr (unmet_so p h.0, first_so ps number values h.1)

  all_undecided_so : (ps : List DeliveredPath) (ns : List ℕ) → AreUndecided IsKnownMiss IsImpossible qs ps ns → AreUndecided IsMiss (IsRefuted itself) qs ps ns
  all_undecided_so [] ns h = h
  all_undecided_so (p ∷ ps) ns (inl h) = inl (undecided_so p h.0, h.1, h.2, all_undecided_so ps h.1 h.3)
  all_undecided_so (p ∷ ps) ns (inr h) = inr (out_so p h.0, all_undecided_so ps ns h.1)

  all_out_so : (ps : List DeliveredPath) → AllByRecursion (IsOutAt IsKnownMiss IsImpossible qs) ps → AllByRecursion (IsOutAt IsMiss (IsRefuted itself) qs) ps
  all_out_so ps h = all_weaker _ _ ps out_so h

  all_unmet_so : (ps : List DeliveredPath) → AllByRecursion (IsUnmetAt IsKnownMiss IsImpossible qs) ps → AllByRecursion (IsUnmetAt IsMiss (IsRefuted itself) qs) ps
  all_unmet_so ps h = all_weaker _ _ ps unmet_so h

pub known_is_comparison : KnownIsComparison
known_is_comparison ls rs same h = (all_out_so rs ls h.0, all_out_so ls rs h.1)
known_is_comparison ls rs (other true number values) h = first_so rs ls number values h
known_is_comparison ls rs (other false number values) h = (all_unmet_so rs ls h.0, first_so ls rs number values h.1)
known_is_comparison ls rs (unknown ns ms) h = (all_undecided_so rs ls ns h.0, all_undecided_so ls rs ms h.1, h.2)
