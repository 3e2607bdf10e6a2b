-- The names that are present, one after the other.
use Rattle.std.proofs.Common.{◌≡◌, ℕ, ◌+◌, ◌<◌, Bool, true, false, cond, List, [], ◌∷◌, ◌++◌, length, get_or, drop, refl, sym, ap, ◌∙◌, map, Option, append_assoc, add-one, suc, drop-cons}
use Rattle.std.specs.List.{filter}
use Rattle.sn_width.specs.declared.ids.NodeId.{NodeId}
use Rattle.sn_width.specs.declared.ids.NameId.{NameId}
use Rattle.metadata_scopes.specs.Scopes.{Metadata}
use Rattle.metadata_scopes.specs.Snapshot.{is_allocated, present_of}

-- a first element that passes a test, or does not, and then the others
mapped_next : {X Y : Type 0} (f : X → Y) (x : X) (xs : List X) (b : Bool) → map f (cond b (x ∷ xs) xs) ≡ cond b (f x ∷ []) [] ++ map f xs
mapped_next f x xs true = refl
mapped_next f x xs false = refl

module _ {V : Type 0} (owner : Option NodeId) (scopes : Metadata V) (names : List NameId) (i : ℕ) (d : NameId) (here : i < length names) where
  -- the keys from a name on: its own where it is allocated, and those after it
  from_here : (seen : Metadata V) (b : Bool) → seen ≡ scopes → b ≡ is_allocated owner (get_or names i d) seen → present_of owner (drop i names) scopes ≡ cond b ((owner, get_or names i d) ∷ []) [] ++ present_of owner (drop (i + 1) names) scopes
  from_here seen b e h =
      let name = get_or names i d in
      ap (λ (z : List NameId). present_of owner z scopes) (drop-cons names i d here)
      ∙ mapped_next (λ n. (owner, n)) name (filter (λ n. is_allocated owner n scopes) (drop (suc i) names)) (is_allocated owner name scopes)
      ∙ ap (λ b. cond b ((owner, name) ∷ []) [] ++ present_of owner (drop (suc i) names) scopes) (ap (is_allocated owner name) (sym e) ∙ sym h)
      ∙ rw add-one refl

  module _ (seen : Metadata V) (b : Bool) (same : seen ≡ scopes) (test : b ≡ is_allocated owner (get_or names i d) seen) (done keys whole : List (Option NodeId × NameId)) (so_far : done ++ present_of owner (drop i names) scopes ≡ whole) where
    pub kept_next : b ≡ true → keys ≡ done ++ (owner, get_or names i d) ∷ [] → keys ++ present_of owner (drop (i + 1) names) scopes ≡ whole
    kept_next yes_b e =
        ap (λ z. z ++ present_of owner (drop (i + 1) names) scopes) e ∙ append_assoc done ((owner, get_or names i d) ∷ []) (present_of owner (drop (i + 1) names) scopes)
        ∙ ap (λ b. done ++ (cond b ((owner, get_or names i d) ∷ []) [] ++ present_of owner (drop (i + 1) names) scopes)) (sym yes_b)
        ∙ ap (λ z. done ++ z) (sym (from_here seen b same test)) ∙ so_far

    pub left_next : b ≡ false → keys ≡ done → keys ++ present_of owner (drop (i + 1) names) scopes ≡ whole
    left_next no_b e =
        ap (λ z. z ++ present_of owner (drop (i + 1) names) scopes) e
        ∙ ap (λ b. done ++ (cond b ((owner, get_or names i d) ∷ []) [] ++ present_of owner (drop (i + 1) names) scopes)) (sym no_b)
        ∙ ap (λ z. done ++ z) (sym (from_here seen b same test)) ∙ so_far
