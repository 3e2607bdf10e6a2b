-- How much is still to run at most.
use Rattle.std.proofs.Common.{◌≡◌, ℕ, suc, ◌+◌, ◌*◌, ◌<◌, ◌≤◌, Bool, not, List, filter, length, Option, Some, None, refl, ap, ◌∙◌, arith, length-append}
use Rattle.std.proofs.lemmas.List.{length-map}
use Rattle.std.proofs.lemmas.List.Filters.{length-filter_both}
use Rattle.std.proofs.Math.Nat.{mul-le-mul_right}
use Rattle.sn_width.specs.declared.ids.NodeId.{NodeId}
use Rattle.sn_width.specs.declared.ids.NameId.{NameId}
use Rattle.metadata_scopes.specs.Scopes.{Metadata}
use Rattle.metadata_scopes.specs.Snapshot.{is_allocated, present_of, snapshot}
use Rattle.sefl_meaning.specs.Carried.{Key}
use Rattle.code_frames.specs.Weights.{iterations_weight}

length-present : {V : Type 0} (owner : Option NodeId) (names : List NameId) (scopes : Metadata V) → length (present_of owner names scopes) ≤ length names
length-present owner names scopes =
    let p : NameId → Bool = λ name. is_allocated owner name scopes in
    let key : NameId → Key = λ name. (owner, name) in
    omega (arith, length-map (filter p names) key, length-filter_both p (λ name. not (p name)) (λ name. refl) names)

-- a For has at most two iterations for each name that its pattern finds
length-snapshot : {V : Type 0} (node : NodeId) (names : List NameId) (scopes : Metadata V) → length (snapshot node names scopes) ≤ 2 * length names
length-snapshot node names scopes =
    omega (
      arith,
      length-append (present_of None names scopes) (present_of (Some node) names scopes),
      length-present None names scopes,
      length-present (Some node) names scopes,
    )

-- the iterations of a For
pub iterations_weigh : {V : Type 0} (node : NodeId) (names found : List NameId) (scopes : Metadata V) (listed keys : List Key) (body : ℕ)
    → found ≡ names → listed ≡ snapshot node found scopes → keys ≡ listed
    → iterations_weight (length keys) body < 1 + iterations_weight (2 * length names) body
iterations_weigh node names found scopes listed keys body finds are same =
    let n : length keys ≡ length (snapshot node found scopes) = ap length same ∙ ap length are in
    let m : length found ≡ length names = ap length finds in
    let few : length keys ≤ 2 * length names = omega (arith, length-snapshot node found scopes) in
    let e : length keys * (1 + body) ≤ 2 * length names * (1 + body) = mul-le-mul_right (1 + body) few in
    omega arith

-- the next iteration of a For, with those behind it
pub iteration_weighs : (iterations behind body old mid new : ℕ) → iterations ≡ suc behind → mid ≡ iterations_weight behind body + old → new ≡ body + mid → new < iterations_weight iterations body + old
iteration_weighs iterations behind body old mid new e m n =
    let times : iterations * (1 + body) ≡ (1 + body) + behind * (1 + body) = ap (λ k. k * (1 + body)) e ∙ one_more in
    omega arith
  where
    one_more : suc behind * (1 + body) ≡ (1 + body) + behind * (1 + body)
    one_more = omega arith
