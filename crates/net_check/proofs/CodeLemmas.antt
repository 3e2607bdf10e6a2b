-- The code of a port by its place among the codes of a node.
use Rattle.std.proofs.Common.{◌≡◌, ◌<◌, ◌∙◌, sym, subst, ap, ℕ, List, length, map, Some, slice_get, option_map}
use Rattle.std.proofs.lemmas.Option.{slice_get-map, slice_get_within, same_Some}
use Rattle.std.proofs.lemmas.List.{length-map}
use Rattle.sefl_syntax.specs.Trees.{PortTree}
use Rattle.sefl_syntax.specs.Views.{code_tree, port_tree}
use Rattle.sefl_syntax.specs.declared.net.PortCode.{PortCode}

pub index_within : (codes : List PortCode) (index : ℕ) (p : PortTree) → slice_get (map port_tree codes) index ≡ Some p → index < length codes
index_within codes index p at = subst (λ n. index < n) (length-map codes port_tree) (slice_get_within (map port_tree codes) index p at)

pub code_is : (codes : List PortCode) (index : ℕ) (p : PortTree) (c : PortCode) → slice_get (map port_tree codes) index ≡ Some p → slice_get codes index ≡ Some c
    → code_tree c.code.items ≡ p.code
code_is codes index p c at is = ap (λ q. q.code) (same_Some (port_tree c) p (sym (ap (option_map port_tree) is) ∙ sym (slice_get-map port_tree codes index) ∙ at))
