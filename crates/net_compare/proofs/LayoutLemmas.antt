-- Header cells that lie alike have one layout.
use Rattle.std.proofs.Common.{◌≡◌, ◌↔◌, ℤ, Bool, ℕ, List, [], ◌∷◌, arith, length, map, refl, ap, is_some}
use Rattle.lin_term.specs.Terms.{LinearTerm}
use Rattle.cell_stacks.specs.declared.cell.Cell.{Cell}
use Rattle.compare_meaning.specs.Outputs.{Heads, layout_of}
use Rattle.net_compare.specs.Layouts.{SameCells, SameHeads}

pub mapped_length : {A B : Type 0} (f : A → B) (xs : List A) → length (map f xs) ≡ length xs
mapped_length f [] = refl
mapped_length f (x ∷ xs) = let rest : length (map f xs) ≡ length xs = mapped_length f xs in omega (arith, rest)

pub as_many_cells : (cs ds : List (Cell LinearTerm)) → SameCells cs ds → length cs ≡ length ds
as_many_cells [] [] h = refl
as_many_cells [] (d ∷ ds) h = absurd h
as_many_cells (c ∷ cs) [] h = absurd h
as_many_cells (c ∷ cs) (d ∷ ds) h = let rest : length cs ≡ length ds = as_many_cells cs ds h.2 in omega (arith, rest)

pub as_many_heads : (hs ks : Heads LinearTerm) → SameHeads hs ks → length hs ≡ length ks
as_many_heads [] [] h = refl
as_many_heads [] (k ∷ ks) h = absurd h
as_many_heads (h ∷ hs) [] e = absurd e
as_many_heads (h ∷ hs) (k ∷ ks) e = let rest : length hs ≡ length ks = as_many_heads hs ks e.2 in omega (arith, rest)

abbrev cells_layout : List (Cell LinearTerm) → List (ℕ × Bool)
cells_layout cs = map (λ cell. (cell.width, is_some cell.value)) cs

cells_lie : (cs ds : List (Cell LinearTerm)) → SameCells cs ds → cells_layout cs ≡ cells_layout ds
cells_lie [] [] h = refl
cells_lie [] (d ∷ ds) h = absurd h
cells_lie (c ∷ cs) [] h = absurd h
cells_lie (c ∷ cs) (d ∷ ds) h = λ i. (h.0 i, h.1 i) ∷ cells_lie cs ds h.2 i

cells_same : (cs ds : List (Cell LinearTerm)) → cells_layout cs ≡ cells_layout ds → SameCells cs ds
cells_same [] [] e = tt
cells_same [] (d ∷ ds) e = absurd (cc)
cells_same (c ∷ cs) [] e = absurd (cc)
cells_same (c ∷ cs) (d ∷ ds) e =
    let first : (c.width, is_some c.value) ≡ (d.width, is_some d.value) = cc in
    let rest : cells_layout cs ≡ cells_layout ds = cc in
    (ap (λ (x : ℕ × Bool). x.0) first, ap (λ (x : ℕ × Bool). x.1) first, cells_same cs ds rest)

heads_lie : (hs ks : Heads LinearTerm) → SameHeads hs ks → layout_of hs ≡ layout_of ks
heads_lie [] [] e = refl
heads_lie [] (k ∷ ks) e = absurd e
heads_lie (h ∷ hs) [] e = absurd e
heads_lie (h ∷ hs) (k ∷ ks) e = λ i. (e.0 i, cells_lie h.1 k.1 e.1 i) ∷ heads_lie hs ks e.2 i

heads_same : (hs ks : Heads LinearTerm) → layout_of hs ≡ layout_of ks → SameHeads hs ks
heads_same [] [] e = tt
heads_same [] (k ∷ ks) e = absurd (cc)
heads_same (h ∷ hs) [] e = absurd (cc)
heads_same (h ∷ hs) (k ∷ ks) e =
    let first : (h.0, cells_layout h.1) ≡ (k.0, cells_layout k.1) = cc in
    let rest : layout_of hs ≡ layout_of ks = cc in
    (ap (λ (x : ℤ × List (ℕ × Bool)). x.0) first, cells_same h.1 k.1 (ap (λ (x : ℤ × List (ℕ × Bool)). x.1) first), heads_same hs ks rest)

pub same_heads_lie_alike : (hs ks : Heads LinearTerm) → SameHeads hs ks ↔ layout_of hs ≡ layout_of ks
same_heads_lie_alike hs ks = (heads_lie hs ks, heads_same hs ks)
