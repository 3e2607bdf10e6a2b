use Rattle.std.proofs.Common.{◌≡◌, ◌∷◌, drop, take, sym, ap, ◌∙◌}
use Rattle.std.specs.List.{prefix_len}
use Rattle.walk_command.specs.Lines.{is_line_byte, lines}
use Rattle.walk_command.proofs.LineLemmas.{line_taken}
use Rattle.walk_command.proofs.lines.next_line.Goals as goal

pub returns-clause-line : goal.returns-clause-line
returns-clause-line c =
    let word : c.split_at.result.0.now ≡ take (prefix_len is_line_byte c.args.bytes.now) c.args.bytes.now = cc in
    let left : c.split_at.result.1.now ≡ drop (prefix_len is_line_byte c.args.bytes.now) c.args.bytes.now = cc in
    let rest = c.behind_feed.ensures ∙ ap (drop 1) left in
    line_taken c.args.bytes.now c.requires ∙ (λ i. sym word i ∷ lines (sym rest i))
