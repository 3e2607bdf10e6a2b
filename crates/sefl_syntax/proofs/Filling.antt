-- The nodes of a job, where one is given its code.
use Rattle.std.proofs.Common.{◌≡◌, ℕ, zero, suc, ◌<◌, List, [], ◌∷◌, length, map, true, slice_index_or, slice_set, true≢false, sym, ap, arith}
use Rattle.sefl_syntax.specs.Trees.{code}
use Rattle.sefl_syntax.specs.Filled.{is_table_in, nodes_with_code}
use Rattle.sefl_syntax.specs.Views.{decl_tree, node_tree}
use Rattle.sefl_syntax.specs.declared.net.RawNode.{RawNode}
use Rattle.sefl_syntax.specs.declared.net.NodeDecl.{NodeDecl}
use Rattle.sefl_syntax.specs.declared.net.Body.TheVariants.{Code}

pub table_within : (index : ℕ) (ds : List NodeDecl) → is_table_in index (map decl_tree ds) ≡ true → index < length ds
table_within index [] h = absurd (true≢false (sym h))
table_within zero (d ∷ ds) h = omega arith
table_within (suc index) (d ∷ ds) h = let rest = table_within index ds h in omega (arith, rest)

pub filled : (index : ℕ) (ds : List NodeDecl) (d : NodeDecl) (node : RawNode) → index < length ds → d ≡ slice_index_or ds index d
    → map decl_tree (slice_set ds index (record { name = d.name; body = Code node })) ≡ nodes_with_code index (node_tree node) (map decl_tree ds)
filled index [] d node h is = absurd (omega (arith, h))
filled zero (first ∷ ds) d node h is = ap (λ (x : NodeDecl). record { name = x.name; body = code (node_tree node) } ∷ map decl_tree ds) is
filled (suc index) (first ∷ ds) d node h is = ap (λ rest. decl_tree first ∷ rest) (filled index ds d node (omega (arith, h)) is)
