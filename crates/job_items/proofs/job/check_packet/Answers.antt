use Rattle.std.proofs.Common.{map, ap, refl}
use Rattle.sefl_syntax.specs.Views.{injection_tree, ask_tree}
use Rattle.job_items.specs.Items.{injection_items, ask_item}
use Rattle.job_items.specs.LentNodes.{lent_nodes}
use Rattle.job_items.specs.Progress.{progress_of}
use Rattle.job_items.proofs.Outcomes.{follows_error, first_stops, second_answers}
use Rattle.job_items.proofs.job.check_packet.Goals as goal

pub returns-in_err-check_injection : goal.returns-in_err-check_injection
returns-in_err-check_injection c =
    let j = c.args.job.now in
    let injection = injection_items (lent_nodes c.args.nodes.now.entries) (injection_tree j.injection) in
    follows_error _ c.from_residual.result c.in_err-check_injection.field-0.0 (progress_of c.check_injection.new.tally) c.from_residual.ensures.1
    (first_stops (progress_of c.args.tally.now) (injection) (injection)
    (map ask_item (map ask_tree j.asks.items)) c.in_err-check_injection.field-0.0 (progress_of c.check_injection.new.tally)
    (refl) c.in_err-check_injection.ensures)

pub returns : goal.returns
returns c =
    let j = c.args.job.now in
    let injection = injection_items (lent_nodes c.args.nodes.now.entries) (injection_tree j.injection) in
    second_answers (progress_of c.args.tally.now) (progress_of c.check_injection.new.tally) (injection) (injection)
    (map ask_item (map ask_tree j.asks.items)) (map ask_item (map ask_tree c.deref.result.now)) c.check_asks.result (progress_of c.check_asks.new.tally)
    (refl) (ap (λ l. map ask_item (map ask_tree l)) c.deref.ensures.value) c.in_ok-check_injection.ensures c.check_asks.ensures
