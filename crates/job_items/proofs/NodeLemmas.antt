-- Nodes and outputs whose names are lent.
use denote.Ref.{Bor}
use Rattle.std.proofs.Common.{◌≡◌, ℕ, List, [], ◌∷◌, ◌++◌, refl, ap, ap₂, ◌∙◌, arith, cond, not, Bool, true, false, ◌&&◌, ◌||◌, ◌==◌, if◌then◌else◌, Some, bytes_eq}
use Rattle.std.specs.List.{list_any}
use Rattle.std.specs.declared.cmp.Ordering.{Ordering}
use Rattle.std.specs.declared.cmp.Ordering.TheVariants.{Less, Equal, Greater}
use Rattle.std.specs.Ordering.{nat_cmp, is_eq, match_ordering, ordering_then}
use Rattle.std.specs.Cmp.Lexicographic.{slice_cmp}
use Rattle.std.proofs.lemmas.Bool.Decides.{nat_tests}
use Rattle.std.proofs.lemmas.Map.Text.{is_eq-slice_cmp}
use Rattle.std.specs.Map.{lookup}
use Rattle.indexmap.specs.IndexMap.{insert_entry}
use Rattle.std.specs.BTreeMap.{is_at}
use Rattle.std.specs.BTreeSet.{insert_key}
use Rattle.job_items.specs.declared.ports.Ports.{Ports}
use Rattle.job_items.specs.Nodes.{node_named, is_same_output, output_cmp}
use Rattle.job_items.specs.LentNodes.{lent_node, lent_nodes, lent_output, lent_outputs}

pub lent_lookup_node : (entries : List (Bor (List ℕ) × Ports)) (name : List ℕ)
    → lookup (λ own. bytes_eq name own.now) entries ≡ node_named (lent_nodes entries) name
lent_lookup_node [] name = refl
lent_lookup_node (e ∷ es) name = ap (λ rest. cond (bytes_eq name e.0.now) (Some e.1) rest) (lent_lookup_node es name)

pub lent_insert_node : (entries : List (Bor (List ℕ) × Ports)) (name : Bor (List ℕ)) (ports : Ports)
    → lent_nodes (insert_entry (λ x y. bytes_eq x.now y.now) entries name ports) ≡ insert_entry bytes_eq (lent_nodes entries) name.now ports
lent_insert_node [] name ports = refl
lent_insert_node (e ∷ es) name ports =
    elim (bytes_eq name.now e.0.now) as
    (λ b. lent_nodes (if b then ((e.0, ports) ∷ es) else (e ∷ insert_entry (λ x y. bytes_eq x.now y.now) es name ports))
    ≡ (if b then ((e.0.now, ports) ∷ lent_nodes es) else (lent_node e ∷ insert_entry bytes_eq (lent_nodes es) name.now ports)))
    [ true ↦ refl | false ↦ ap (λ rest. lent_node e ∷ rest) (lent_insert_node es name ports) ]

at_same_output : (a b : List ℕ × ℕ) → is_eq (output_cmp a b) ≡ is_same_output a b
at_same_output a b =
    is_eq_then (slice_cmp nat_cmp a.0 b.0) (nat_cmp a.1 b.1)
    ∙ ap₂ (λ p q. p && q) (is_eq-slice_cmp a.0 b.0) (is_eq_number a.1 b.1)
  where
    is_eq_then : (o p : Ordering) → is_eq (ordering_then o p) ≡ is_eq o && is_eq p
    is_eq_then Less p = refl
    is_eq_then Equal p = refl
    is_eq_then Greater p = refl

    is_eq_number : (m n : ℕ) → is_eq (nat_cmp m n) ≡ (m == n)
    is_eq_number m n = grind (arith, nat_tests)

lent_has_output : (keys : List (Bor (List ℕ) × ℕ)) (key : Bor (List ℕ) × ℕ)
    → list_any (is_at (λ own. output_cmp (lent_output key) (lent_output own))) keys ≡ list_any (is_same_output (lent_output key)) (lent_outputs keys)
lent_has_output [] key = refl
lent_has_output (k ∷ ks) key = ap₂ (λ here rest. here || rest) (at_same_output (lent_output key) (lent_output k)) (lent_has_output ks key)

pub second_output : (keys : List (Bor (List ℕ) × ℕ)) (key : Bor (List ℕ) × ℕ) (first : Bool)
    → first ≡ not (list_any (is_at (λ own. output_cmp (lent_output key) (lent_output own))) keys)
    → not first ≡ list_any (is_same_output (lent_output key)) (lent_outputs keys)
second_output keys key first is =
    ap not is ∙ not_not (list_any (is_at (λ own. output_cmp (lent_output key) (lent_output own))) keys) ∙ lent_has_output keys key
  where
    not_not : (b : Bool) → not (not b) ≡ b
    not_not true = refl
    not_not false = refl

pub lent_insert_output : (keys : List (Bor (List ℕ) × ℕ)) (key : Bor (List ℕ) × ℕ)
    → lent_outputs (insert_key (λ x y. output_cmp (lent_output x) (lent_output y)) keys key) ≡ insert_key output_cmp (lent_outputs keys) (lent_output key)
lent_insert_output [] key = refl
lent_insert_output (k ∷ ks) key =
    elim (output_cmp (lent_output key) (lent_output k)) as
    (λ o. lent_outputs (match_ordering o (key ∷ k ∷ ks) (k ∷ ks) (k ∷ insert_key (λ x y. output_cmp (lent_output x) (lent_output y)) ks key))
    ≡ match_ordering o (lent_output key ∷ lent_output k ∷ lent_outputs ks) (lent_output k ∷ lent_outputs ks) (lent_output k ∷ insert_key output_cmp (lent_outputs ks) (lent_output key)))
    [ Less ↦ refl | Equal ↦ refl | Greater ↦ ap (λ rest. lent_output k ∷ rest) (lent_insert_output ks key) ]
