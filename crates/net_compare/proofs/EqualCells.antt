-- The equalities of cells, one after another.
use Rattle.std.proofs.Common.{◌≡◌, ◌∙◌, ◌<◌, ◌≤◌, ℕ, zero, suc, ◌+◌, ℤ, Vec, Global, List, [], ◌∷◌, ◌++◌, arith, drop, get_or, length, map, min, refl, sym, ap, subst, inr, Option, Some}
use Rattle.std.proofs.lemmas.List.{append_assoc, drop_more, map-append}
use Rattle.sn_width.specs.declared.rel.Rel.TheVariants.{Eq}
use Rattle.lin_term.specs.Terms.{LinearTerm}
use Rattle.path_formula.specs.Formulas.{FormulaTree, compared}
use Rattle.path_formula.specs.View.{view}
use Rattle.path_formula.specs.declared.formula.Formula.{Formula}
use Rattle.path_records.specs.Shown.{held_head}
use Rattle.cell_stacks.specs.declared.cell.Cell.{Cell}
use Rattle.compare_meaning.specs.Facing.{AreCellEqualities, AreEqualities, IsEquality}
use Rattle.net_compare.specs.Adding.{Adds}
use Rattle.net_compare.proofs.Lacking.{append_none}

-- whatever those add that are left, with the formulas so far is what all add
abbrev pub Left : (List FormulaTree → Type 0) → (List FormulaTree → Type 0) → List Formula → List Formula → Type 0
Left Rest All start now = (fs : List FormulaTree) → Rest fs → (all : List FormulaTree) × All all × (map view start ++ all ≡ map view now ++ fs)

left_first : (All : List FormulaTree → Type 0) (start : List Formula) → Left All All start start
left_first All start fs h = (fs, h, refl)

-- one more adds these before what the rest adds
left_next : (Location Rest Next All : List FormulaTree → Type 0) → ((gs fs : List FormulaTree) → Location gs → Next fs → Rest (gs ++ fs))
    → (start before after : List Formula) → Adds Location before after → Left Rest All start before → Left Next All start after
left_next Location Rest Next All more start before after h leads fs k =
    let all = leads (h.0 ++ fs) (more h.0 fs h.1 k) in
    (all.0, all.1, all.2 ∙ (sym (append_assoc (map view before) h.0 fs) ∙ ap (λ z. z ++ fs) (sym h.2)))

left_end : (Rest All : List FormulaTree → Type 0) → Rest [] → (start now : List Formula) → Left Rest All start now → Adds All start now
left_end Rest All none start now leads = let all = leads [] none in (all.0, all.1, sym (append_none (map view now)) ∙ sym all.2)

-- ---- cells

-- that two set cells with other terms are equal
pub equality_added : (a b : Option LinearTerm) (l r : LinearTerm) → a ≡ Some l → b ≡ Some r → (l ≡ r → ⊥) → (start now : List Formula) (f : Formula)
    → view f ≡ compared Eq l r → now ≡ start ++ f ∷ [] → Adds (IsEquality a b) start now
equality_added a b l r isa isb other start now f same is = (
  compared Eq l r ∷ [],
  subst (λ x. IsEquality x b (compared Eq l r ∷ [])) (sym isa) (subst (λ y. IsEquality (Some l) y (compared Eq l r ∷ [])) (sym isb) (inr (other, refl))),
  ap (map view) is ∙ (map-append view start (f ∷ []) ∙ ap (λ t. map view start ++ t ∷ []) same),
)

abbrev pub CellsLeft : List (Cell LinearTerm) → List (Cell LinearTerm) → ℕ → List Formula → List Formula → Type 0
CellsLeft cs ds n = Left (AreCellEqualities (drop n cs) (drop n ds)) (AreCellEqualities cs ds)

no_others : (cs : List (Cell LinearTerm)) → AreCellEqualities cs [] []
no_others [] = refl
no_others (c ∷ cs) = refl

no_cells : (cs ds : List (Cell LinearTerm)) (n : ℕ) → min (length cs) (length ds) ≤ n → AreCellEqualities (drop n cs) (drop n ds) []
no_cells [] ds zero past = refl
no_cells [] ds (suc n) past = refl
no_cells (c ∷ cs) [] zero past = refl
no_cells (c ∷ cs) [] (suc n) past = no_others (drop n cs)
no_cells (c ∷ cs) (d ∷ ds) zero past = absurd (omega (arith, past))
no_cells (c ∷ cs) (d ∷ ds) (suc n) past = no_cells cs ds n (omega (arith, past))

pub cells_first : (cs ds : List (Cell LinearTerm)) (start : List Formula) → CellsLeft cs ds 0 start start
cells_first cs ds start = left_first (AreCellEqualities cs ds) start

pub cells_next : (cs ds : List (Cell LinearTerm)) (n : ℕ) (c d : Cell LinearTerm) → n < length cs → n < length ds → c ≡ get_or cs n c → d ≡ get_or ds n d
    → (start before after : List Formula) → Adds (IsEquality c.value d.value) before after → CellsLeft cs ds n start before → CellsLeft cs ds (n + 1) start after
cells_next cs ds n c d less more isc isd start before after h leads =
    let left : drop n cs ≡ c ∷ drop (n + 1) cs = drop_more cs n c less ∙ ap (λ z. z ∷ drop (n + 1) cs) (sym isc) in
    let right : drop n ds ≡ d ∷ drop (n + 1) ds = drop_more ds n d more ∙ ap (λ z. z ∷ drop (n + 1) ds) (sym isd) in
    left_next (IsEquality c.value d.value) (AreCellEqualities (drop n cs) (drop n ds)) (AreCellEqualities (drop (n + 1) cs) (drop (n + 1) ds)) (AreCellEqualities cs ds)
    (λ gs fs e k. subst (λ xs. AreCellEqualities xs (drop n ds) (gs ++ fs)) (sym left) (subst (λ ys. AreCellEqualities (c ∷ drop (n + 1) cs) ys (gs ++ fs)) (sym right) (gs, e, fs, k, refl)))
    start before after h leads

pub cells_end : (cs ds : List (Cell LinearTerm)) (n : ℕ) → min (length cs) (length ds) ≤ n → (start now : List Formula) → CellsLeft cs ds n start now
    → Adds (AreCellEqualities cs ds) start now
cells_end cs ds n past start now leads = left_end (AreCellEqualities (drop n cs) (drop n ds)) (AreCellEqualities cs ds) (no_cells cs ds n past) start now leads

-- ---- addresses

abbrev pub HeldLeft : List (ℤ × Vec (Cell LinearTerm) Global) → List (ℤ × Vec (Cell LinearTerm) Global) → ℕ → List Formula → List Formula → Type 0
HeldLeft hs ks n = Left (AreEqualities (map held_head (drop n hs)) (map held_head (drop n ks))) (AreEqualities (map held_head hs) (map held_head ks))

no_keys : (hs : List (ℤ × Vec (Cell LinearTerm) Global)) → AreEqualities (map held_head hs) [] []
no_keys [] = refl
no_keys (h ∷ hs) = refl

no_heads : (hs ks : List (ℤ × Vec (Cell LinearTerm) Global)) (n : ℕ) → min (length hs) (length ks) ≤ n → AreEqualities (map held_head (drop n hs)) (map held_head (drop n ks)) []
no_heads [] ks zero past = refl
no_heads [] ks (suc n) past = refl
no_heads (h ∷ hs) [] zero past = refl
no_heads (h ∷ hs) [] (suc n) past = no_keys (drop n hs)
no_heads (h ∷ hs) (k ∷ ks) zero past = absurd (omega (arith, past))
no_heads (h ∷ hs) (k ∷ ks) (suc n) past = no_heads hs ks n (omega (arith, past))

pub heads_first : (hs ks : List (ℤ × Vec (Cell LinearTerm) Global)) (start : List Formula) → HeldLeft hs ks 0 start start
heads_first hs ks start = left_first (AreEqualities (map held_head hs) (map held_head ks)) start

pub heads_next : (hs ks : List (ℤ × Vec (Cell LinearTerm) Global)) (n : ℕ) (h k : ℤ × Vec (Cell LinearTerm) Global) → n < length hs → n < length ks → h ≡ get_or hs n h → k ≡ get_or ks n k
    → (start before after : List Formula) → Adds (AreCellEqualities h.1.items k.1.items) before after
    → HeldLeft hs ks n start before → HeldLeft hs ks (n + 1) start after
heads_next hs ks n h k less more ish isk start before after added leads =
    let left : map held_head (drop n hs) ≡ held_head h ∷ map held_head (drop (n + 1) hs) = ap (map held_head) (drop_more hs n h less ∙ ap (λ z. z ∷ drop (n + 1) hs) (sym ish)) in
    let right : map held_head (drop n ks) ≡ held_head k ∷ map held_head (drop (n + 1) ks) = ap (map held_head) (drop_more ks n k more ∙ ap (λ z. z ∷ drop (n + 1) ks) (sym isk)) in
    left_next (AreCellEqualities h.1.items k.1.items) (AreEqualities (map held_head (drop n hs)) (map held_head (drop n ks))) (AreEqualities (map held_head (drop (n + 1) hs)) (map held_head (drop (n + 1) ks)))
    (AreEqualities (map held_head hs) (map held_head ks))
    (λ gs fs e r. subst (λ xs. AreEqualities xs (map held_head (drop n ks)) (gs ++ fs)) (sym left)
    (subst (λ ys. AreEqualities (held_head h ∷ map held_head (drop (n + 1) hs)) ys (gs ++ fs)) (sym right) (gs, e, fs, r, refl)))
    start before after added leads

pub heads_end : (hs ks : List (ℤ × Vec (Cell LinearTerm) Global)) (n : ℕ) → min (length hs) (length ks) ≤ n → (start now : List Formula) → HeldLeft hs ks n start now
    → Adds (AreEqualities (map held_head hs) (map held_head ks)) start now
heads_end hs ks n past start now leads =
    left_end (AreEqualities (map held_head (drop n hs)) (map held_head (drop n ks))) (AreEqualities (map held_head hs) (map held_head ks)) (no_heads hs ks n past) start now leads
