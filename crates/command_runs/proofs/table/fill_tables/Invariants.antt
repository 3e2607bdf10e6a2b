use Rattle.std.proofs.Common.{◌≡◌, length, take, true}
use Rattle.sn_edge.specs.Told.{FolderKept}
use Rattle.sefl_syntax.specs.Filled.{all_code}
use Rattle.sefl_syntax.specs.Trees.{JobTree}
use Rattle.sefl_syntax.specs.Views.{job_tree}
use Rattle.command_runs.specs.Loading.{Fills, LoadsUpTo}
use Rattle.command_edge.specs.declared.fault.InputFault.{InputFault}
use Rattle.command_runs.proofs.table.fill_tables.Given as goal

-- the nodes before the index have code; what fills the job from now on fills it as it was, from the beginning, and the first that gives no node too
abbrev pub invariant-loop-index : goal.invariant-loop-index
invariant-loop-index g l =
    let told = g.F.Folder.told in
    let gives = g.F.Folder.load_gives in
    record {
      kept : FolderKept (told l.fn.folder) (told l.folder);
      many : length l.job.net.nodes.items ≡ length l.fn.job.net.nodes.items;
      have : all_code (take l.index (job_tree l.job).net.nodes) ≡ true;
      fills : (full : JobTree) (v : g.row.F.Denot) → Fills told gives l.folder (job_tree l.job) full v → Fills told gives l.fn.folder (job_tree l.fn.job) full v;
      fails : (fault : InputFault) (v : g.row.F.Denot) → LoadsUpTo told gives l.folder (job_tree l.job).net.nodes fault v
          → LoadsUpTo told gives l.fn.folder (job_tree l.fn.job).net.nodes fault v;
    }
