use Rattle.std.proofs.Common.{◌≡◌, ◌<◌, ◌∷◌, length, drop, take, sym, ap, ◌∙◌, arith, length-drop}
use Rattle.std.proofs.lemmas.Grind.{common_steps}
use Rattle.std.specs.List.{prefix_len}
use Rattle.sefl_lex.specs.Packets.{is_word_byte, words}
use Rattle.sefl_lex.proofs.PacketRuns.{first_word, run_not_empty}
use Rattle.sefl_lex.proofs.packet_words.next_word.Goals as goal

pub returns-clause-some : goal.returns-clause-some
returns-clause-some c =
    let some : 0 < length c.skip_blanks-rest.result.now = grind (arith, common_steps) in
    let word : c.split_at.result.0.now ≡ take (prefix_len is_word_byte c.skip_blanks-rest.result.now) c.skip_blanks-rest.result.now = cc in
    let left : c.split_at.result.1.now ≡ drop (prefix_len is_word_byte c.skip_blanks-rest.result.now) c.skip_blanks-rest.result.now = cc in
    sym c.skip_blanks-rest.ensures.words ∙ first_word c.skip_blanks-rest.result.now some c.skip_blanks-rest.ensures.no_blank
    ∙ (λ i. sym word i ∷ words (sym left i))

pub returns-clause-shorter : goal.returns-clause-shorter
returns-clause-shorter c =
    let some : 0 < length c.skip_blanks-rest.result.now = grind (arith, common_steps) in
    let positive = run_not_empty c.skip_blanks-rest.result.now some c.skip_blanks-rest.ensures.no_blank in
    omega (arith, ap length c.split_at.ensures.back, length-drop c.word_bytes.result c.skip_blanks-rest.result.now)
