use Rattle.kept_texts.proofs.ListLemmas.{followed}
use Rattle.kept_texts.proofs.list.KeptList.follow.Goals as goal

pub loop-member-preserved : goal.loop-member-preserved
loop-member-preserved g c = followed _ _ _ _ c.loop-member.member-index c.member-item.result c.loop-member-test.true c.member-item.is c.in_ok-add.ensures c.loop-member.invariant
