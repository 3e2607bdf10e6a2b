-- Counts of records, one after another.
use Rattle.std.proofs.Common.{◌≡◌, ℕ, suc, ◌+◌, ◌≤◌, Bool, true, false, List, [], ◌∷◌, refl, ◌∙◌, arith}
use Rattle.exact_records.specs.Records.{RecordTree}
use Rattle.record_checks.specs.Counts.{AreAtMost, AreCountedSo, count_where, counts_of, is_pruned, is_sat, is_undecided, is_unexplored, one_more, with_record}
use Rattle.record_checks.specs.declared.counts.Confirmed.{Confirmed}

-- the counts of nothing
abbrev pub no_counts : Confirmed
no_counts = record { sat = 0; undecided = 0; pruned = 0; unexplored = 0 }

moved_one : (b : Bool) (n m : ℕ) → one_more b n + m ≡ n + one_more b m
moved_one true n m = omega arith
moved_one false n m = refl

raised_one : (b : Bool) (n most : ℕ) → n ≤ most → one_more b n ≤ suc most
raised_one true n most h = omega (arith, h)
raised_one false n most h = omega (arith, h)

pub counts_begin : (whole : List RecordTree) → AreCountedSo no_counts whole whole
counts_begin whole =
    let none : (n : ℕ) → 0 + n ≡ n = λ n. omega arith in
    record {
      sat = none (count_where is_sat whole);
      undecided = none (count_where is_undecided whole);
      pruned = none (count_where is_pruned whole);
      unexplored = none (count_where is_unexplored whole);
    }

pub counts_more : (c : Confirmed) (x : RecordTree) (left whole : List RecordTree) → AreCountedSo c (x ∷ left) whole → AreCountedSo (with_record x c) left whole
counts_more c x left whole h = record {
  sat = moved_one (is_sat x) c.sat (count_where is_sat left) ∙ h.sat;
  undecided = moved_one (is_undecided x) c.undecided (count_where is_undecided left) ∙ h.undecided;
  pruned = moved_one (is_pruned x) c.pruned (count_where is_pruned left) ∙ h.pruned;
  unexplored = moved_one (is_unexplored x) c.unexplored (count_where is_unexplored left) ∙ h.unexplored;
}

pub counts_end : (c : Confirmed) (whole : List RecordTree) → AreCountedSo c [] whole → c ≡ counts_of whole
counts_end c whole h =
    let zeros : (n : ℕ) → n ≡ n + 0 = λ n. omega arith in
    λ i. record {
      sat = (zeros c.sat ∙ h.sat) i;
      undecided = (zeros c.undecided ∙ h.undecided) i;
      pruned = (zeros c.pruned ∙ h.pruned) i;
      unexplored = (zeros c.unexplored ∙ h.unexplored) i;
    }

pub counts_raised : (c : Confirmed) (x : RecordTree) (most : ℕ) → AreAtMost most c → AreAtMost (suc most) (with_record x c)
counts_raised c x most h = record {
  sat = raised_one (is_sat x) c.sat most h.sat;
  undecided = raised_one (is_undecided x) c.undecided most h.undecided;
  pruned = raised_one (is_pruned x) c.pruned most h.pruned;
  unexplored = raised_one (is_unexplored x) c.unexplored most h.unexplored;
}

pub at_most_more : (c : Confirmed) (few many : ℕ) → few ≤ many → AreAtMost few c → AreAtMost many c
at_most_more c few many l h = record {
  sat = let a = h.sat in omega (arith, l, a);
  undecided = let a = h.undecided in omega (arith, l, a);
  pruned = let a = h.pruned in omega (arith, l, a);
  unexplored = let a = h.unexplored in omega (arith, l, a);
}
