-- Exact records are exact so far.
use Rattle.std.proofs.Common.{◌≡◌, ◌⊎◌, inl, inr, ap, refl, sym, subst, ℕ, List, [], ◌∷◌, ◌++◌, arith}
use Rattle.std.proofs.lemmas.List.{append-nil}
use Rattle.net_check.specs.Network.{Network, Entry}
use Rattle.exact_records.specs.Exact.{IsCutOff, IsWhole, IsWithin}
use Rattle.exact_records.specs.Records.{RecordTree, SymStart}
use Rattle.exact_records.specs.Packets.{AreExactFor, AreExactSoFarFor, AreExactUpToFor}

-- a list is empty, or has a last member
last_of : {A : Type 0} (xs : List A) → (xs ≡ []) ⊎ ((ys : List A) × (y : A) × (xs ≡ ys ++ y ∷ []))
last_of [] = inl refl
last_of (x ∷ xs) =
    elim (last_of xs) [
      | inl e ↦ inr ([], x, ap (λ zs. x ∷ zs) e)
      | inr h ↦ inr (x ∷ h.0, h.1, ap (λ zs. x ∷ zs) h.2)
    ]

-- what is whole, or cut off at the limit, keeps the limit
keeps_limit : (start : SymStart) (limit : ℕ) (rs : List RecordTree) → IsWhole limit rs ⊎ IsCutOff start limit rs → IsWithin limit rs
keeps_limit start limit rs (inl h) = record {
  done = rs;
  left = [];
  joined = sym (append-nil rs);
  tried = h.tried;
  count = h.count;
  untried = tt;
  met = inl refl;
}
keeps_limit start limit rs (inr h) = record {
  done = h.done ++ h.last ∷ [];
  left = h.left;
  joined = h.joined;
  tried = h.tried;
  count = let c = h.count in omega (arith, c);
  untried = h.untried;
  met = inr h.count;
}

module _ (net : Network) (i : Entry) (hops limit : ℕ) where
  up_to_last : (done : List RecordTree) (last : RecordTree) → AreExactFor net i hops limit (done ++ last ∷ [])
      → AreExactUpToFor net i hops limit done last
  up_to_last done last h = record {
    start = h.start;
    explored = h.explored;
    exact = record {
      ascend = h.exact.ascend;
      good = h.exact.good;
      once = λ v ds takes within. h.exact.once v ds takes;
      begun = λ p c d rest some offered within. h.exact.begun p c d rest some offered tt;
      within = keeps_limit h.start limit (done ++ last ∷ []) h.exact.limited;
    };
    walks = λ v w walk within. h.walks v w walk;
    packets = h.packets;
    refuted = h.refuted;
  }

  exact_is_so_far : (rs : List RecordTree) → AreExactFor net i hops limit rs
      → (rs ≡ []) ⊎ ((done : List RecordTree) × (last : RecordTree) × (rs ≡ done ++ last ∷ []))
      → AreExactSoFarFor net i hops limit rs
  exact_is_so_far rs h (inl none) = record { is = inl none }
  exact_is_so_far rs h (inr (done, last, is)) =
      record { is = inr (done, last, is, up_to_last done last (subst (AreExactFor net i hops limit) is h)) }

  pub so_far : (rs : List RecordTree) → AreExactFor net i hops limit rs → AreExactSoFarFor net i hops limit rs
  so_far rs h = exact_is_so_far rs h (last_of rs)
