-- The code of a box of a job whose tables have code.
use Rattle.std.proofs.Common.{◌≡◌, ◌∙◌, refl, sym, ap, subst, ℕ, zero, suc, List, [], ◌∷◌, Some, option_map}
use Rattle.std.specs.Prelude.{find, slice_get, unwrap_or}
use Rattle.std.proofs.lemmas.Option.{none-some, same_Some}
use Rattle.sn_width.specs.declared.ids.NodeId.{NodeId}
use Rattle.sefl_syntax.specs.declared.net.Side.{Side}
use Rattle.sefl_syntax.specs.declared.net.Side.TheVariants.{Inward, Outward}
use Rattle.sefl_syntax.specs.Trees.{code, DeclTree, JobTree, NodeTree, PortTree, no_code}
use Rattle.table_nodes.specs.Exits.{code_in, is_code_of}
use Rattle.net_check.specs.Places.{codes_of_node, is_port}
use Rattle.net_check.specs.Network.{Network, code_at}
use Rattle.net_check.specs.Sound.{IsNetOf}
use Rattle.command_edge.specs.Files.{Files}
use Rattle.command_runs.specs.Tables.{AllFilled, IsCodeOf}

abbrev with_code : DeclTree → NodeTree → DeclTree
with_code d node = record { name = d.name; body = code node }

module _ (files : Files) where
  -- the code of a box stands at the place of the box
  pub filled_at : (ds filled : List DeclTree) → AllFilled files ds filled → (i : ℕ) (d : DeclTree) → slice_get ds i ≡ Some d
      → (node : NodeTree) × IsCodeOf files d.body node × (slice_get filled i ≡ Some (with_code d node))
  filled_at [] filled all i d is = absurd (none-some d is)
  filled_at (x ∷ xs) filled (node, codes, rest, all, same) zero d is =
      let one = same_Some x d is in
      (node, subst (λ (d : DeclTree). IsCodeOf files d.body node) one codes, ap (λ ds. slice_get ds 0) same ∙ ap (λ d. Some (with_code d node)) one)
  filled_at (x ∷ xs) filled (node, codes, rest, all, same) (suc i) d is =
      let later = filled_at xs rest all i d is in
      (later.0, later.1, ap (λ ds. slice_get ds (suc i)) same ∙ later.2)

same_test : (side : Side) (port : ℕ) (p : PortTree) → is_port side port p ≡ is_code_of side port p
same_test Inward port p = by p.side
  where
    by : (s : Side) → is_port Inward port (record p { side = s }) ≡ is_code_of Inward port (record p { side = s })
    by Inward = refl
    by Outward = refl
same_test Outward port p = by p.side
  where
    by : (s : Side) → is_port Outward port (record p { side = s }) ≡ is_code_of Outward port (record p { side = s })
    by Inward = refl
    by Outward = refl

-- the code of each of its ports is that of the node
pub code_is : (net : Network) (node : NodeId) (d : DeclTree) (tree : NodeTree) → slice_get net.own.nodes node.0 ≡ Some (with_code d tree)
    → (side : Side) (port : ℕ) → code_at net node side port ≡ code_in tree side port
code_is net node d tree is side port =
    ap (λ o. unwrap_or (option_map (λ (p : PortTree). p.code) (find (is_port side port) (codes_of_node o))) no_code) is
    ∙ (λ k. unwrap_or (option_map (λ (p : PortTree). p.code) (find (λ p. same_test side port p k) tree.codes)) no_code)

-- the job that is filled is the net's own
pub net_nodes : (full : JobTree) (net : Network) → IsNetOf full net → full.net.nodes ≡ net.own.nodes
net_nodes full net is = ap (λ n. n.nodes) (sym is.own)
