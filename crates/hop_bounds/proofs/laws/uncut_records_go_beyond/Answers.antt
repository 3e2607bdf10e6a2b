use Rattle.hop_bounds.proofs.Records.{go_beyond}
use Rattle.hop_bounds.proofs.laws.uncut_records_go_beyond.Goals as goal

pub returns : goal.returns
returns c = λ net i hops limit rs exact uncut more least.
    go_beyond c.packets_take_routes.ensures.decisions c.exact_records_show_each_walk.ensures net i hops limit rs exact uncut more least
