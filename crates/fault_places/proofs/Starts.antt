-- Where a search is at its end.
use Rattle.std.proofs.Common.{◌≡◌, ◌≤◌, ◌+◌, ◌-◌, ◌∙◌, refl, ap, ℕ, List, [], ◌∷◌, Some, length, map, drop}
use Rattle.std.proofs.lemmas.List.{drop_all}
use Rattle.sefl_syntax.specs.declared.net.NodeDecl.{NodeDecl}
use Rattle.sefl_syntax.specs.Trees.{DeclTree}
use Rattle.sefl_syntax.specs.Views.{decl_tree}
use Rattle.fault_places.specs.Lines.{skipped}
use Rattle.fault_places.specs.Numbers.{number_from}

pub all_skipped : (count : ℕ) (bytes : List ℕ) → skipped 0 count bytes ≡ Some count
all_skipped count [] = refl
all_skipped count (c ∷ bytes) = refl

none_left : (site number begin : ℕ) (fs : List DeclTree) → number_from site number begin [] fs ≡ number + (site - begin)
none_left site number begin [] = refl
none_left site number begin (f ∷ fs) = refl

pub no_own : (site number begin i : ℕ) (own : List NodeDecl) (fs : List DeclTree) → length own ≤ i
    → number_from site number begin (map decl_tree (drop i own)) fs ≡ number + (site - begin)
no_own site number begin i own fs past =
    ap (λ ds. number_from site number begin (map decl_tree ds) fs) (drop_all i own past) ∙ none_left site number begin fs
