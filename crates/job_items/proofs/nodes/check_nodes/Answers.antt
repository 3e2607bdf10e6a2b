use Rattle.std.proofs.Common.{◌+◌, map, drop, refl, ap, sym, ◌∙◌}
use Rattle.sefl_syntax.specs.Views.{decl_tree}
use Rattle.job_items.specs.Items.{decl_items, node_items}
use Rattle.job_items.specs.LentNodes.{lent_nodes}
use Rattle.job_items.specs.Nodes.{with_node, nodes_after}
use Rattle.job_items.specs.Progress.{progress_of, outcome_from}
use Rattle.job_items.proofs.Outcomes.{follows_error, stops_in_blocks, passes_in_blocks, next_of}
use Rattle.job_items.proofs.nodes.check_nodes.Goals as goal

pub returns-in_err-check_node-clause-follows : goal.returns-in_err-check_node-clause-follows
returns-in_err-check_node-clause-follows c =
    let nodes = lent_nodes c.loop-decl.nodes.entries in
    follows_error _ c.from_residual.result c.in_err-check_node.field-0.0 (progress_of c.check_node.new.tally) c.from_residual.ensures.1
    (stops_in_blocks (λ ds. node_items nodes (map decl_tree ds)) (λ d. decl_items nodes (decl_tree d))
    (λ d ds. node_items (with_node nodes (decl_tree d)) (map decl_tree ds)) (λ d ds. refl)
    (outcome_from (progress_of c.args.tally.now) (node_items (lent_nodes c.args.nodes.now.entries) (map decl_tree c.args.decls.now)))
    (progress_of c.loop-decl.tally) c.args.decls.now c.loop-decl.decl-index c.decl-item.result c.in_err-check_node.field-0.0
    (progress_of c.check_node.new.tally) c.loop-decl-test.true c.decl-item.is c.loop-decl.invariant.follows c.in_err-check_node.ensures.follows)

pub loop-decl-preserved : goal.loop-decl-preserved
loop-decl-preserved c =
    let nodes = lent_nodes c.loop-decl.nodes.entries in
    let rest = map decl_tree (drop (c.loop-decl.decl-index + 1) c.args.decls.now) in
    record {
      follows =
          ap (λ n. outcome_from (progress_of c.check_node.new.tally) (node_items n rest)) c.in_ok-check_node.ensures.made
          ∙ passes_in_blocks (λ ds. node_items nodes (map decl_tree ds)) (λ d. decl_items nodes (decl_tree d))
          (λ d ds. node_items (with_node nodes (decl_tree d)) (map decl_tree ds)) (λ d ds. refl)
          (outcome_from (progress_of c.args.tally.now) (node_items (lent_nodes c.args.nodes.now.entries) (map decl_tree c.args.decls.now)))
          (progress_of c.loop-decl.tally) (progress_of c.check_node.new.tally) c.args.decls.now c.loop-decl.decl-index c.decl-item.result
          c.loop-decl-test.true c.decl-item.is c.loop-decl.invariant.follows c.in_ok-check_node.ensures.follows;
      made =
          ap (λ n. nodes_after n rest) c.in_ok-check_node.ensures.made
          ∙ ap (λ ds. nodes_after nodes (map decl_tree ds)) (sym (next_of c.args.decls.now c.loop-decl.decl-index c.decl-item.result c.loop-decl-test.true c.decl-item.is))
          ∙ c.loop-decl.invariant.made;
    }
