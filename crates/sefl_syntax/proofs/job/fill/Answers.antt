use Rattle.std.proofs.Common.{map, rules}
use Rattle.sefl_syntax.proofs.Filling.{table_within, filled}
use Rattle.sefl_syntax.specs.Views.{injection_tree, ask_tree}
use Rattle.sefl_syntax.proofs.job.fill.Goals as goal

pub index_mut-requires : goal.index_mut-requires
index_mut-requires c =
    let within = table_within c.args.index c.args.job.now.net.nodes.items c.requires in
    search rules

pub returns : goal.returns
returns c =
    let within = table_within c.args.index c.args.job.now.net.nodes.items c.requires in
    let nodes = filled c.args.index c.args.job.now.net.nodes.items c.index_mut.result.now c.args.node within c.index_mut.ensures.value in
    λ i. record { net = record { nodes = nodes i; links = c.args.job.now.net.links.items }; injection = injection_tree c.args.job.now.injection; asks = map ask_tree c.args.job.now.asks.items }
