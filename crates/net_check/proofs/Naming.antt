-- Nodes by name, node by node.
use Rattle.std.proofs.Common.{◌≡◌, ℕ, ◌≤◌, Bool, true, false, cond, List, [], ◌∷◌, length, drop, map, Option, Some, None, bytes_eq, refl, sym, ◌∙◌, ap, ap₂, subst, position}
use Rattle.std.specs.List.{position_from}
use Rattle.std.specs.Option.{option_or, option_map, is_some}
use Rattle.std.specs.Map.{lookup}
use Rattle.std.specs.Ordering.{is_eq, nat_cmp}
use Rattle.std.specs.declared.cmp.Ordering.{Ordering}
use Rattle.std.specs.declared.cmp.Ordering.TheVariants.{Less, Equal, Greater}
use Rattle.std.specs.Cmp.Lexicographic.{slice_cmp, nat_list_eq_equiv}
use Rattle.std.proofs.lemmas.Bool.{false≢true}
use Rattle.std.proofs.lemmas.Map.Lookups.{exact_bytes}
use Rattle.std.proofs.lemmas.Map.Text.{is_eq-slice_cmp}
use Rattle.std.proofs.lemmas.Iterator.Adapters.{position_from-zero}
use Rattle.std.proofs.lemmas.List.{at_drop_all}
use Rattle.sefl_syntax.specs.Views.{decl_tree}
use Rattle.sefl_syntax.specs.declared.net.NodeDecl.{NodeDecl}
use Rattle.sn_width.specs.declared.ids.NodeId.{NodeId}
use Rattle.net_check.specs.Lookups.{number_of, position_at}
use Rattle.net_check.specs.Places.{has_name}
use Rattle.net_check.proofs.First.{enters, none_from_test, option_or-none, stays}

-- no more nodes
pub names_are_entered : (name : List ℕ) (old : Option ℕ) (nodes : List NodeDecl) (i : ℕ) → length nodes ≤ i
    → option_or old (position_from (has_name name) i (map decl_tree (drop i nodes))) ≡ position_from (has_name name) 0 (map decl_tree nodes)
    → old ≡ position (has_name name) (map decl_tree nodes)
names_are_entered name old nodes i h left =
    sym (option_or-none old)
    ∙ sym (at_drop_all (λ ds. option_or old (position_from (has_name name) i (map decl_tree ds))) nodes i h)
    ∙ left ∙ sym (position_from-zero (has_name name) (map decl_tree nodes))

-- ---- the map of the names, which compares them by their bytes

-- the id at a name
abbrev pub at_name : List (List ℕ × NodeId) → List ℕ → Option NodeId
at_name entries name = lookup (λ own. is_eq (slice_cmp nat_cmp name own)) entries

by_bytes : (entries : List (List ℕ × NodeId)) (name : List ℕ) → at_name entries name ≡ lookup (bytes_eq name) entries
by_bytes [] name = refl
by_bytes (e ∷ es) name = ap₂ (λ t rest. cond t (Some e.1) rest) (is_eq-slice_cmp name e.0) (by_bytes es name)

pub id_at : (entries : List (List ℕ × NodeId)) (name : List ℕ) → option_map number_of (at_name entries name) ≡ position_at entries name
id_at entries name = ap (option_map number_of) (by_bytes entries name)

equal_from : (o : Ordering) → is_eq o ≡ true → o ≡ Equal
equal_from Less h = absurd (false≢true h)
equal_from Equal h = refl
equal_from Greater h = absurd (false≢true h)

name_is_exact : (a b : List ℕ) → is_eq (slice_cmp nat_cmp a b) ≡ true → a ≡ b
name_is_exact a b h = exact_bytes a b (equal_from (slice_cmp nat_cmp a b) h)

mapped : (o : Option NodeId) (t : Bool) (id : NodeId) → option_map number_of (option_or o (cond t (Some id) None)) ≡ option_or (option_map number_of o) (cond t (Some id.0) None)
mapped None true id = refl
mapped None false id = refl
mapped (Some x) t id = refl

module _ (old new : List (List ℕ × NodeId)) (name : List ℕ) (id : NodeId) where
  entered_by : ((q : List ℕ) → at_name new q ≡ option_or (at_name old q) (cond (is_eq (slice_cmp nat_cmp name q)) (Some id) None))
      → (other : List ℕ) → position_at new other ≡ option_or (position_at old other) (cond (bytes_eq other name) (Some id.0) None)
  entered_by made other =
      sym (id_at new other) ∙ ap (option_map number_of) (made other) ∙ mapped (at_name old other) (is_eq (slice_cmp nat_cmp name other)) id
      ∙ ap₂ (λ o t. option_or o (cond t (Some id.0) None)) (id_at old other) (is_eq-slice_cmp name other ∙ nat_list_eq_equiv.symm name other)

  -- an id that is entered at a name without one
  pub entered : (own : List ℕ) → own ≡ name → is_some (at_name old name) ≡ false
      → ((q : List ℕ) → at_name new q ≡ cond (is_eq (slice_cmp nat_cmp own q)) (Some id) (at_name old q))
      → (other : List ℕ) → position_at new other ≡ option_or (position_at old other) (cond (bytes_eq other name) (Some id.0) None)
  entered own same none made =
      let made' : (q : List ℕ) → at_name new q ≡ cond (is_eq (slice_cmp nat_cmp name q)) (Some id) (at_name old q) =
      subst (λ n. (q : List ℕ) → at_name new q ≡ cond (is_eq (slice_cmp nat_cmp n q)) (Some id) (at_name old q)) same made in
      entered_by (enters (λ a b. is_eq (slice_cmp nat_cmp a b)) name_is_exact (at_name old) (at_name new) name id (none_from_test (at_name old name) none) made')

-- a name that has an id keeps it
pub kept : (old : List (List ℕ × NodeId)) (name : List ℕ) (id : NodeId) → is_some (at_name old name) ≡ true
    → (other : List ℕ) → position_at old other ≡ option_or (position_at old other) (cond (bytes_eq other name) (Some id.0) None)
kept old name id there = entered_by old old name id (stays (λ a b. is_eq (slice_cmp nat_cmp a b)) name_is_exact (at_name old) name id there)
