use Rattle.std.proofs.Common.{◌≡◌, ◌∙◌, sym, ap, subst, Some, arith}
use Rattle.std.specs.Prelude.{slice_get}
use Rattle.std.proofs.lemmas.List.{length-map}
use Rattle.std.proofs.lemmas.Result.{err_from_is_err_and}
use Rattle.sefl_syntax.specs.Views.{decl_tree, job_tree, node_tree}
use Rattle.sn_edge.specs.Told.{FolderKept-on}
use Rattle.command_runs.proofs.FillLemmas.{Steps, all_filled, decl_at, fails_at, given_code, had_code, table_at}
use Rattle.command_runs.proofs.table.fill_tables.Goals as goal
use Rattle.command_runs.proofs.table.fill_tables.Goals.{in-Some, in_default}

pub returns-in_err-node-clause-fails : goal.returns-in_err-node-clause-fails
returns-in_err-node-clause-fails g c =
    let own = c.loop-index.job.net.nodes.items in
    let p = err_from_is_err_and c.from_residual.result c.from_residual.ensures.1 in
    let at = decl_at c.loop-index.index own c.index.result.now (omega (arith, c.loop-index-test.true, c.len-index-end.ensures, c.loop-index.invariant.many)) c.index.ensures in
    rw (p.1, p.2) (c.loop-index.invariant.fails c.in_err-node.field-0.0 c.table_node.new.folder
    (fails_at g.F.Folder.told g.F.Folder.load_gives c.loop-index.index (job_tree c.loop-index.job).net.nodes c.in_err-node.field-0.0 (decl_tree c.index.result.now)
    c.loop-index.folder c.table_node.new.folder at c.loop-index.invariant.have c.in_err-node.ensures.fails))

pub fill-requires : goal.fill-requires
fill-requires g c =
    let own = c.loop-index.job.net.nodes.items in
    let at = decl_at c.loop-index.index own c.index.result.now (omega (arith, c.loop-index-test.true, c.len-index-end.ensures, c.loop-index.invariant.many)) c.index.ensures in
    table_at c.loop-index.index (job_tree c.loop-index.job).net.nodes (decl_tree c.index.result.now) at (rw c.in-Some.is at c.in_ok-node.ensures.table)

pub loop-index-preserved : goal.loop-index-preserved
loop-index-preserved g c =
    let told = g.F.Folder.told in
    let gives = g.F.Folder.load_gives in
    let own = c.loop-index.job.net.nodes.items in
    let d = decl_tree c.index.result.now in
    let before = c.loop-index.invariant in
    let old = c.loop-index.folder in
    let new = c.table_node.new.folder in
    let at : slice_get (job_tree c.loop-index.job).net.nodes c.loop-index.index ≡ Some d =
    decl_at c.loop-index.index own c.index.result.now (omega (arith, c.loop-index-test.true, c.len-index-end.ensures, before.many)) c.index.ensures in
    let step : Steps told gives c.loop-index.index (job_tree c.loop-index.job) (job_tree c.match-branch-2.job) old new = elim c.match-branch-2.branch [
      | in-Some w ↦ subst (λ j. Steps told gives c.loop-index.index (job_tree c.loop-index.job) j old new) (sym (ap job_tree w.job-is ∙ w.fill.ensures))
          (given_code told gives c.loop-index.index (node_tree w.in-Some.node) (job_tree c.loop-index.job) d old new at before.have
          (rw w.in-Some.is at c.in_ok-node.ensures.node))
      | in_default w ↦ subst (λ j. Steps told gives c.loop-index.index (job_tree c.loop-index.job) j old new) (sym (ap job_tree w.job-is))
          (had_code told gives c.loop-index.index (job_tree c.loop-index.job) d old new at before.have (rw w.in_default.is at c.in_ok-node.ensures.own)
          (rw w.in_default.is at c.in_ok-node.ensures.unread))
    ] in
    record {
      kept = FolderKept-on before.kept c.table_node.ensures.folder_kept;
      many = sym (length-map c.match-branch-2.job.net.nodes.items decl_tree) ∙ (step.many ∙ (length-map own decl_tree ∙ before.many));
      have = step.have;
      fills = λ full v f. before.fills full v (step.fills full v f);
      fails = λ fault v f. before.fails fault v (step.fails fault v f);
    }

pub returns-clause-filled : goal.returns-clause-filled
returns-clause-filled g c =
    let count = length-map c.loop-index.job.net.nodes.items decl_tree in
    c.loop-index.invariant.fills (job_tree c.loop-index.job) c.loop-index.folder
    (all_filled g.F.Folder.told g.F.Folder.load_gives c.loop-index.index (job_tree c.loop-index.job) c.loop-index.folder
    (omega (arith, count, c.loop-index-test.false, c.len-index-end.ensures, c.loop-index.invariant.many)) c.loop-index.invariant.have)
