use Rattle.std.proofs.Common.{◌≡◌, ◌∙◌, [], ◌∷◌, ap, map}
use Rattle.std.proofs.lemmas.Result.{IfOk-weaker}
use Rattle.sefl_syntax.specs.Views.{code_tree, instr_tree}
use Rattle.table_nodes.specs.TableNodes.{guarded, row_guard, last_of, in_code, node_with}
use Rattle.table_nodes.specs.Codes.{code_before}
use Rattle.table_nodes.proofs.Codes.{last_added, guarded_rows}
use Rattle.table_nodes.proofs.node.chain_node.Goals as goal

pub returns : goal.returns
returns c =
    let last = last_of c.args.kind c.args.ports in
    let is : code_tree c.push.new.self.items ≡ guarded (map (row_guard c.args.kind) c.args.rows.now) last
    = ap code_tree c.in_ok-push.ensures.items ∙ last_added c.in_ok-code.code.items c.in_ok-last_instr.field-0
    ∙ ap (code_before (map instr_tree c.in_ok-code.code.items)) c.in_ok-last_instr.ensures ∙ (ap (λ is. code_before is last) c.in_ok-code.ensures ∙ guarded_rows (row_guard c.args.kind) c.args.rows.now last) in
    IfOk-weaker c.one_input.result _ _ (λ node h. h ∙ ap (λ code. node_with c.args.ports (in_code code ∷ [])) is) c.one_input.ensures
