use Rattle.std.proofs.Common.{[], ◌++◌, map, ap, refl}
use Rattle.sefl_syntax.specs.Views.{net_tree, injection_tree, ask_tree}
use Rattle.job_items.specs.Items.{net_items, injection_items, ask_item}
use Rattle.job_items.specs.LentNodes.{lent_nodes}
use Rattle.job_items.specs.Nodes.{nodes_after}
use Rattle.job_items.specs.Progress.{progress_of}
use Rattle.job_items.proofs.Outcomes.{follows_error, first_stops, second_answers}
use Rattle.job_items.proofs.job.check_job.Goals as goal

pub returns-in_err-check_net : goal.returns-in_err-check_net
returns-in_err-check_net c =
    let j = c.args.job.now in
    follows_error _ c.from_residual.result c.in_err-check_net.field-0.0 (progress_of c.check_net.new.tally) c.from_residual.ensures.1
    (first_stops (progress_of c.args.tally.now) (net_items (net_tree j.net)) (net_items (net_tree j.net))
    (injection_items (nodes_after [] (net_tree j.net).nodes) (injection_tree j.injection) ++ map ask_item (map ask_tree j.asks.items)) c.in_err-check_net.field-0.0 (progress_of c.check_net.new.tally)
    (refl) c.in_err-check_net.ensures.follows)

pub returns : goal.returns
returns c =
    let j = c.args.job.now in
    second_answers (progress_of c.args.tally.now) (progress_of c.check_net.new.tally) (net_items (net_tree j.net)) (net_items (net_tree j.net))
    (injection_items (nodes_after [] (net_tree j.net).nodes) (injection_tree j.injection) ++ map ask_item (map ask_tree j.asks.items)) (injection_items (lent_nodes c.check_net.new.nodes.entries) (injection_tree j.injection) ++ map ask_item (map ask_tree j.asks.items)) c.check_packet.result (progress_of c.check_packet.new.tally)
    (refl) (ap (λ n. injection_items n (injection_tree j.injection) ++ map ask_item (map ask_tree j.asks.items)) c.in_ok-check_net.ensures.made) c.in_ok-check_net.ensures.follows c.check_packet.ensures
