use Rattle.std.proofs.Common.{◌≡◌, drop, map}
use Rattle.serde_json.specs.View.{members_view}
use Rattle.report_shape.specs.Held.{word_of}
use Rattle.report_shape.specs.Faults.{for_word}
use Rattle.report_shape.proofs.pick.for_word.Given as goal

abbrev pub invariant-loop-word : goal.invariant-loop-word
invariant-loop-word l = for_word l.key (map word_of l.forms) l.name (members_view l.members.entries) ≡ for_word l.key (map word_of (drop l.word-index l.forms)) l.name (members_view l.members.entries)
