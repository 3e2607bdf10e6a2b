use Rattle.std.proofs.Common.{◌≡◌, drop, sym, ap, ◌∙◌}
use Rattle.std.specs.List.{prefix_len}
use Rattle.sefl_lex.specs.Bytes.{is_blank, begins}
use Rattle.sefl_lex.specs.Packets.{words}
use Rattle.sefl_lex.proofs.PacketRuns.{behind_blanks, no_blank}
use Rattle.sefl_lex.proofs.packet_words.skip_blanks.Goals as goal

pub returns-clause-words : goal.returns-clause-words
returns-clause-words c =
    let left : c.split_at.result.1.now ≡ drop (prefix_len is_blank c.args.bytes.now) c.args.bytes.now = cc in
    ap words left ∙ sym (behind_blanks c.args.bytes.now)

pub returns-clause-no_blank : goal.returns-clause-no_blank
returns-clause-no_blank c =
    let left : c.split_at.result.1.now ≡ drop (prefix_len is_blank c.args.bytes.now) c.args.bytes.now = cc in
    ap (begins is_blank) left ∙ no_blank c.args.bytes.now
