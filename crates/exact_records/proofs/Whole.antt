-- Where nothing was left out, each walk has one path.
use Rattle.std.proofs.Common.{ℕ, inl, inr, List, [], ◌∷◌, ◌∙◌}
use Rattle.std.specs.List.{AllByRecursion}
use Rattle.sefl_meaning.specs.Network.{Network, Entry}
use Rattle.sefl_meaning.specs.Order.{BeginsWith}
use Rattle.sefl_meaning.specs.Walks.{Trail}
use Rattle.exact_records.specs.Records.{RecordTree, decisions_of, path, pruned, unexplored}
use Rattle.exact_records.specs.Exact.{ExactlyOne, IsTried}
use Rattle.exact_records.specs.Packets.{Shows}
use Rattle.exact_records.specs.Whole.{IsPathOf, WalksHaveOnePath}
use Rattle.exact_records.proofs.Lists.{all_both, append_nil}

-- of two properties that each member has alike, one has one member where the other has
record Alike {A : Type 0} (P Q : A → Type 0) (x : A) : Type 0 where
  pub there : P x → Q x
  pub back : Q x → P x

none_alike : {A : Type 0} (P Q : A → Type 0) (xs : List A) → AllByRecursion (Alike P Q) xs → AllByRecursion (λ x. P x → ⊥) xs → AllByRecursion (λ x. Q x → ⊥) xs
none_alike P Q xs h k = all_both _ _ _ xs (λ x (a : Alike P Q x) (n : P x → ⊥) q. n (a.back q)) h k

one_alike : {A : Type 0} (P Q : A → Type 0) (xs : List A) → AllByRecursion (Alike P Q) xs → ExactlyOne P xs → ExactlyOne Q xs
one_alike P Q [] h k = k
one_alike P Q (x ∷ xs) h (inl k) = inl (h.0.there k.0, none_alike P Q xs h.1 k.1)
one_alike P Q (x ∷ xs) h (inr k) = inr (λ q. k.0 (h.0.back q), one_alike P Q xs h.1 k.1)

module _ (v : List ℕ) (w : Trail) where
  is_path : (x : RecordTree) → IsTried x → Shows v w x → IsPathOf v w x
  is_path (path ds places end' fields verdict) tried h = h
  is_path (pruned ds before refutation) tried h = h
  is_path (unexplored ds) tried h = tried tt

  begins_walk : (x : RecordTree) → IsPathOf v w x → BeginsWith (decisions_of x) w.decisions
  begins_walk (path ds places end' fields verdict) h = ([], append_nil ds ∙ h.0)
  begins_walk (pruned ds before refutation) h = absurd h
  begins_walk (unexplored ds) h = absurd h

  path_alike : (x : RecordTree) → IsTried x → (BeginsWith (decisions_of x) w.decisions → Shows v w x)
      → Alike (λ y. BeginsWith (decisions_of y) w.decisions) (IsPathOf v w) x
  path_alike x tried h = record { there = λ begins. is_path x tried (h begins); back = begins_walk x }

pub walks_have_one : (net : Network) (i : Entry) (hops : ℕ) → WalksHaveOnePath net i hops
walks_have_one net i hops limit rs exact tried v w walk =
    let shown = exact.walks v w walk in
    one_alike _ _ rs (all_both _ _ _ rs (path_alike v w) tried shown.shown) shown.once
