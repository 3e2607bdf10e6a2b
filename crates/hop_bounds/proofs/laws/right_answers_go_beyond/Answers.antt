use Rattle.hop_bounds.proofs.Answers.{right_beyond}
use Rattle.hop_bounds.proofs.laws.right_answers_go_beyond.Goals as goal

pub returns : goal.returns
returns c = λ net i hops limit rs exact uncut more least q outcome right.
    right_beyond net i hops limit rs exact uncut more least (c.uncut_records_go_beyond.ensures net i hops limit rs exact uncut more least) q outcome right
