use Rattle.std.proofs.Common.{rules, ◌≡◌, ◌∙◌, ◌+◌, ◌<◌, List, length, map, ap}
use Rattle.sefl_syntax.specs.declared.instr.Instr.{Instr}
use Rattle.sefl_syntax.specs.Trees.{reading, member}
use Rattle.sefl_syntax.specs.Views.{instr_tree}
use Rattle.table_nodes.specs.TableNodes.{destination, guard_instr, guarded, set_guards}
use Rattle.table_nodes.specs.Codes.{code_before}
use Rattle.table_nodes.proofs.Codes.{guard_added}
use Rattle.table_nodes.proofs.pieces.add_guard.Goals as goal

pub returns : goal.returns
returns c =
    let d = destination c.args.kind in
    let is : instr_tree c.in_ok-guard.field-0 ≡ guard_instr (member (reading d) c.args.set.now, c.args.port)
    = c.in_ok-guard.ensures ∙ ap (λ t. guard_instr (t, c.args.port)) (c.in_ok-test.ensures
    ∙ (ap (λ target. member (reading target) c.in_ok-ranges.ranges.items) c.in_ok-destination.ensures ∙ ap (member (reading d)) c.in_ok-ranges.ensures.items)) in
    let some : 0 < length c.args.set.now = search rules in
    λ sets last.
    ap (λ (code : List Instr). code_before (map instr_tree code) (guarded (set_guards d (c.args.port + 1) sets) last)) c.in_ok-push.ensures.items
    ∙ guard_added d c.args.code.now.items c.in_ok-guard.field-0 c.args.port c.args.set.now is some sets last
