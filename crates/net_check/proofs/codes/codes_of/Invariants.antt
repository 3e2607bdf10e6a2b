use Rattle.std.proofs.Common.{◌≡◌, ℕ, map, cond, nat_lt, None}
use Rattle.sn_width.specs.declared.ids.NodeId.{NodeId}
use Rattle.sefl_syntax.specs.declared.net.Side.{Side}
use Rattle.sefl_syntax.specs.Views.{decl_tree}
use Rattle.net_check.specs.Lookups.{place_at}
use Rattle.net_check.specs.Places.{node_site, place_in}
use Rattle.net_check.proofs.codes.codes_of.Given as goal

-- the nodes so far are entered, and no other
abbrev pub invariant-loop-number : goal.invariant-loop-number
invariant-loop-number l = record {
  site : l.site ≡ node_site (map decl_tree l.nodes) l.number;
  entered : (other : NodeId) (side : Side) (port : ℕ) → place_at l.codes.ins.entries l.codes.outs.entries other side port
      ≡ cond (nat_lt other.0 l.number) (place_in (map decl_tree l.nodes) other.0 side port) None;
}
