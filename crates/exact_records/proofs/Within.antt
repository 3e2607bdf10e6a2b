-- Records within a limit.
use Rattle.std.proofs.Common.{◌≡◌, ℕ, ◌+◌, ◌<◌, ◌≤◌, ◌⊎◌, inl, inr, List, [], ◌∷◌, ◌++◌, length, refl, sym, ap, subst, ◌∙◌, append_assoc, length-append, arith}
use Rattle.std.specs.List.{AllByRecursion}
use Rattle.exact_records.specs.Records.{RecordTree}
use Rattle.exact_records.specs.Exact.{IsTried, IsUnexplored, IsWithin}
use Rattle.exact_records.proofs.Lists.{all_append, append_nil}

pub none_within : (limit : ℕ) → IsWithin limit []
none_within limit = record { done = []; left = []; joined = refl; tried = tt; count = omega arith; untried = tt; met = inl refl }

joined_length : (rs : List RecordTree) (done left : List RecordTree) → rs ≡ done ++ left → length rs ≡ length done + length left
joined_length rs done left e = ap length e ∙ length-append done left

-- below the limit all were tried
all_tried : (limit : ℕ) (rs : List RecordTree) → length rs < limit → IsWithin limit rs → AllByRecursion IsTried rs
all_tried limit rs below h =
    elim h.met [
      | inl none ↦
          subst (AllByRecursion IsTried) (sym (h.joined ∙ (ap (λ (zs : List RecordTree). h.done ++ zs) none ∙ append_nil h.done))) h.tried
      | inr met ↦ absurd (let l = joined_length rs h.done h.left h.joined in omega (arith, l, met, below))
    ]

-- a record behind fewer than the limit
pub within_made : (limit : ℕ) (rs : List RecordTree) (x : RecordTree) → length rs < limit → IsTried x → IsWithin limit rs → IsWithin limit (rs ++ x ∷ [])
within_made limit rs x below tried h = record {
  done = rs ++ x ∷ [];
  left = [];
  joined = sym (append_nil (rs ++ x ∷ []));
  tried = all_append IsTried rs (x ∷ []) (all_tried limit rs below h) (tried, tt);
  count = let l : length (rs ++ x ∷ []) ≡ length rs + 1 = length-append rs (x ∷ []) in omega (arith, l, below);
  untried = tt;
  met = inl refl;
}

-- the tried ones of at least as many as the limit are as many
met_by : (limit : ℕ) (rs : List RecordTree) → limit ≤ length rs → (h : IsWithin limit rs) → length h.done ≡ limit
met_by limit rs above h =
    elim h.met [
      | inl none ↦
          let l = joined_length rs h.done h.left h.joined in
          let z : length h.left ≡ 0 = ap length none in
          let c = h.count in
          omega (arith, l, z, c, above)
      | inr met ↦ met
    ]

-- decisions that were not tried, at the limit
pub within_left : (limit : ℕ) (rs : List RecordTree) (x : RecordTree) → limit ≤ length rs → IsUnexplored x → IsWithin limit rs → IsWithin limit (rs ++ x ∷ [])
within_left limit rs x above untried h = record {
  done = h.done;
  left = h.left ++ x ∷ [];
  joined = ap (λ (zs : List RecordTree). zs ++ x ∷ []) h.joined ∙ append_assoc h.done h.left (x ∷ []);
  tried = h.tried;
  count = h.count;
  untried = all_append IsUnexplored h.left (x ∷ []) h.untried (untried, tt);
  met = inr (met_by limit rs above h);
}
