-- The values that lists show are those that are carried, and have the widths of their cells.
use Rattle.std.proofs.Common.{◌≡◌, ◌↔◌, ℕ, ℤ, List, [], ◌∷◌, ◌++◌, map, reverse, refl, sym, ap, subst, ◌∙◌, append_assoc, Option, None, Some}
use Rattle.std.proofs.lemmas.List.{append-nil, reverse-append}
use Rattle.std.specs.List.{AllByRecursion}
use Rattle.std.specs.Option.{option_map}
use Rattle.sn_width.specs.declared.rel.Rel.TheVariants.{Ne}
use Rattle.lin_term.specs.Terms.{IsReduced, LinearTerm}
use Rattle.path_formula.specs.Formulas.{compared}
use Rattle.path_formula.specs.Typed.{IsTyped, TermIsTyped}
use Rattle.cell_stacks.specs.declared.cell.Cell.{Cell}
use Rattle.cell_stacks.specs.Cells.{bottom_up, lent_stack}
use Rattle.cell_stacks.specs.Valued.{cell_valued, valued}
use Rattle.metadata_scopes.specs.Scopes.{Metadata, lent_meta, meta_of}
use Rattle.sefl_meaning.specs.Carried.{Carried}
use Rattle.sefl_meaning.specs.Valued.{CarriedFits, CellFits, Fits, HeldFits, StacksFit}
use Rattle.term_values.specs.Fits.{term_fits, typed_fits}
use Rattle.loop_meaning.specs.Visits.{layout_of, paired, value_list, values_in, values_of, values_under}
use Rattle.loop_check.specs.declared.lists.Lists.{Lists}
use Rattle.loop_check.specs.Lists.{AreListsOf, head_values, listed_values, meta_values}
use Rattle.loop_check.proofs.Layouts.{map_reverse}

-- ---- the values

module _ {V : Type 0} where
  pub all_append : (P : V → Type 0) (xs ys : List V) → AllByRecursion P xs → AllByRecursion P ys → AllByRecursion P (xs ++ ys)
  all_append P [] ys h k = k
  all_append P (x ∷ xs) ys h k = (h.0, all_append P xs ys h.1 k)

  all_reverse : (P : V → Type 0) (xs : List V) → AllByRecursion P xs → AllByRecursion P (reverse xs)
  all_reverse P [] h = tt
  all_reverse P (x ∷ xs) h =
      subst (λ (ys : List V). AllByRecursion P ys) (sym (reverse-append (x ∷ []) xs)) (all_append P (reverse xs) (x ∷ []) (all_reverse P xs h.1) (h.0, tt))

heads_listed : (heads : List (ℤ × List (Cell LinearTerm))) → head_values (map bottom_up heads) ≡ values_under heads
heads_listed [] = refl
heads_listed (head ∷ heads) = ap (λ z. values_in (reverse head.1) ++ z) (heads_listed heads)

metas_listed : (metas : Metadata LinearTerm) → meta_values (map meta_of metas) ≡ values_under metas
metas_listed [] = refl
metas_listed (meta ∷ metas) = ap (λ z. values_in (reverse meta.1) ++ z) (metas_listed metas)

-- lists of what is carried have its values
pub values_listed : (s : Carried LinearTerm) (x : Lists) → AreListsOf s x → listed_values x ≡ values_of s
values_listed s x h =
    let heads : head_values (map lent_stack x.heads.items) ≡ values_under s.layers.heads = ap head_values h.heads ∙ heads_listed s.layers.heads in
    let metas : meta_values (map lent_meta x.metas.items) ≡ values_under s.scopes = ap meta_values h.metas ∙ metas_listed s.scopes in
    λ i. heads i ++ metas i

-- ---- their widths

abbrev Laid : Cell LinearTerm → Cell (Unit {0})
Laid cell = cell_valued (λ value. tt) cell

same_first : {A : Type 0} {a b : A} {xs ys : List A} → a ∷ xs ≡ b ∷ ys → a ≡ b
same_first e = cc

same_rest : {A : Type 0} {a b : A} {xs ys : List A} → a ∷ xs ≡ b ∷ ys → xs ≡ ys
same_rest e = cc

nothing_some : {A C : Type 0} {a : A} {xs : List A} → [] ≡ a ∷ xs → C
nothing_some e = cc

-- what the tests of fitting terms say
pub record FitLaws : Type 0 where
  pub fits : (w : ℕ) (t : LinearTerm) → Fits term_fits w t ↔ ((t.width ≡ w) × IsReduced t)
  pub typed : (widths : List ℕ) (w : ℕ) (t : LinearTerm) → Fits (typed_fits widths) w t ↔ (Fits term_fits w t × TermIsTyped widths t)

module _ (laws : FitLaws) (widths : List ℕ) where
  abbrev Typed : LinearTerm × LinearTerm → Type 0
  Typed p = IsTyped widths (compared Ne p.0 p.1)

  abbrev AreTyped : List LinearTerm → List LinearTerm → Type 0
  AreTyped xs ys = AllByRecursion Typed (paired xs ys)

  width_is : (w : ℕ) (t : LinearTerm) → Fits (typed_fits widths) w t → t.width ≡ w
  width_is w t h = ((laws.fits w t).0 ((laws.typed widths w t).0 h).0).0

  pair_typed : (w u : ℕ) (a b : LinearTerm) → w ≡ u → Fits (typed_fits widths) w a → Fits (typed_fits widths) u b → Typed (a, b)
  pair_typed w u a b e h k = (
    width_is w a h ∙ (e ∙ sym (width_is u b k)),
    ((laws.typed widths w a).0 h).1,
    ((laws.typed widths u b).0 k).1,
  )

  cell_typed : (w u : ℕ) (a b : Option LinearTerm) (xs ys r q : List LinearTerm) → w ≡ u → option_map (λ value. tt {0}) a ≡ option_map (λ value. tt {0}) b
      → HeldFits (typed_fits widths) w a → HeldFits (typed_fits widths) u b → AreTyped (xs ++ r) (ys ++ q)
      → AreTyped ((value_list a ++ xs) ++ r) ((value_list b ++ ys) ++ q)
  cell_typed w u None None xs ys r q e set h k rest = rest
  cell_typed w u None (Some b) xs ys r q e set h k rest = let bad : None ≡ Some tt = set in cc
  cell_typed w u (Some a) None xs ys r q e set h k rest = let bad : Some tt ≡ None = set in cc
  cell_typed w u (Some a) (Some b) xs ys r q e set h k rest = (pair_typed w u a b e h k, rest)

  cells_typed : (xs ys : List (Cell LinearTerm)) (r q : List LinearTerm) → map Laid xs ≡ map Laid ys
      → AllByRecursion (CellFits (typed_fits widths)) xs → AllByRecursion (CellFits (typed_fits widths)) ys → AreTyped r q
      → AreTyped (values_in xs ++ r) (values_in ys ++ q)
  cells_typed [] [] r q l h k rest = rest
  cells_typed [] (y ∷ ys) r q l h k rest = nothing_some l
  cells_typed (x ∷ xs) [] r q l h k rest = nothing_some (sym l)
  cells_typed (x ∷ xs) (y ∷ ys) r q l h k rest =
      let first : Laid x ≡ Laid y = same_first l in
      cell_typed x.width y.width x.value y.value (values_in xs) (values_in ys) r q (ap (λ (c : Cell (Unit {0})). c.width) first)
      (ap (λ (c : Cell (Unit {0})). c.value) first) h.0 k.0 (cells_typed xs ys r q (same_rest l) h.1 k.1 rest)

  stacks_typed : {K : Type 0} (xs ys : List (K × List (Cell LinearTerm))) (r q : List LinearTerm) → valued (λ value. tt {0}) xs ≡ valued (λ value. tt {0}) ys
      → StacksFit (typed_fits widths) xs → StacksFit (typed_fits widths) ys → AreTyped r q
      → AreTyped (values_under xs ++ r) (values_under ys ++ q)
  stacks_typed [] [] r q l h k rest = rest
  stacks_typed [] (y ∷ ys) r q l h k rest = nothing_some l
  stacks_typed (x ∷ xs) [] r q l h k rest = nothing_some (sym l)
  stacks_typed {K} (x ∷ xs) (y ∷ ys) r q l h k rest =
      let first : (x.0, map Laid x.1) ≡ (y.0, map Laid y.1) = same_first l in
      let turned : map Laid (reverse x.1) ≡ map Laid (reverse y.1) =
      map_reverse Laid x.1 ∙ (ap (λ (p : K × List (Cell (Unit {0}))). reverse p.1) first ∙ sym (map_reverse Laid y.1)) in
      subst (λ (zs : List LinearTerm). AreTyped zs ((values_in (reverse y.1) ++ values_under ys) ++ q)) (sym (append_assoc (values_in (reverse x.1)) (values_under xs) r))
      (subst (λ (zs : List LinearTerm). AreTyped (values_in (reverse x.1) ++ (values_under xs ++ r)) zs) (sym (append_assoc (values_in (reverse y.1)) (values_under ys) q))
      (cells_typed (reverse x.1) (reverse y.1) (values_under xs ++ r) (values_under ys ++ q) turned
      (all_reverse (CellFits (typed_fits widths)) x.1 h.0) (all_reverse (CellFits (typed_fits widths)) y.1 k.0)
      (stacks_typed xs ys r q (same_rest l) h.1 k.1 rest)))

  -- the values at the same positions of the same layout have one width
  pub values_typed : (s t : Carried LinearTerm) → layout_of s ≡ layout_of t → CarriedFits (typed_fits widths) s → CarriedFits (typed_fits widths) t
      → AllByRecursion (λ p. IsTyped widths (compared Ne p.0 p.1)) (paired (values_of s) (values_of t))
  values_typed s t l h k =
      let metas : AreTyped (values_under s.scopes) (values_under t.scopes) =
      subst (λ (zs : List LinearTerm). AreTyped zs (values_under t.scopes)) (append-nil (values_under s.scopes))
      (subst (λ (zs : List LinearTerm). AreTyped (values_under s.scopes ++ []) zs) (append-nil (values_under t.scopes))
      (stacks_typed s.scopes t.scopes [] [] (ap (λ (z : Carried (Unit {0})). z.scopes) l) h.scopes k.scopes tt)) in
      stacks_typed s.layers.heads t.layers.heads (values_under s.scopes) (values_under t.scopes)
      (ap (λ (z : Carried (Unit {0})). z.layers.heads) l) h.heads k.heads metas
