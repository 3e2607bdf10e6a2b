use Rattle.std.proofs.Common.{◌∙◌, sym, ap}
use Rattle.std.proofs.lemmas.List.{length-map}
use Rattle.sefl_syntax.specs.Views.{injection_tree, job_tree, net_tree}
use Rattle.net_check.specs.Places.{node_position}
use Rattle.net_check.proofs.SoundLemmas.{injection_has_position}
use Rattle.net_check.proofs.acceptance.assemble.Goals as goal

pub of-requires : goal.of-requires
of-requires c = (
  job_tree c.args.job,
  c.requires.sound,
  record {
    own = ap (λ p. net_tree p.0) c.into_parts-net.ensures;
    names = c.requires.names;
    found = length-map c.args.found.items (λ ids. ids.items) ∙ c.requires.found;
    ids = c.requires.ids;
  },
)

pub of-injection-requires-clause-sound : goal.of-injection-requires-clause-sound
of-injection-requires-clause-sound c node at =
    let net = ap (λ n. net_tree n.raw) c.in_ok-net.ensures ∙ ap (λ p. net_tree p.0) c.into_parts-net.ensures in (
      job_tree c.args.job,
      c.requires.sound,
      record {
        own = ap (λ p. injection_tree p.1) c.into_parts-net.ensures;
        node = sym (ap (λ t. node_position t c.into_parts-net.result.1.node) net) ∙ at;
      },
    )

pub of-injection-requires-clause-named : goal.of-injection-requires-clause-named
of-injection-requires-clause-named c none =
    let net = ap (λ n. net_tree n.raw) c.in_ok-net.ensures ∙ ap (λ p. net_tree p.0) c.into_parts-net.ensures in
    let own = ap (λ p. node_position (net_tree c.args.job.net) p.1.node) c.into_parts-net.ensures in
    injection_has_position (job_tree c.args.job) c.requires.sound
    (sym (ap (λ t. node_position t c.into_parts-net.result.1.node) net ∙ own) ∙ none)
