use Rattle.std.proofs.Common.{rules, ◌≡◌, ◌∙◌, ◌==◌, [], ◌∷◌, ◌++◌, sym, ap, arith, false}
use Rattle.table_lines.specs.Lines.{without_return}
use Rattle.table_lines.proofs.FirstLine.{returned, not_returned}
use Rattle.table_lines.proofs.lines.without_return.Goals as goal

pub returns-then-last-eq13 : goal.returns-then-last-eq13
returns-then-last-eq13 c =
    let is : c.args.line.now ≡ c.in-Some.front.now ++ c.in-Some.last.now ∷ [] = search rules in
    sym (ap without_return is ∙ ap (λ d. without_return (c.in-Some.front.now ++ d ∷ [])) c.if-last-eq13.true ∙ returned c.in-Some.front.now)

pub returns : goal.returns
returns c =
    let is : c.args.line.now ≡ c.in-Some.front.now ++ c.in-Some.last.now ∷ [] = search rules in
    let differs : (c.in-Some.last.now == 13) ≡ false = grind (arith, c.if-last-eq13.false) in
    is ∙ sym (not_returned c.in-Some.front.now c.in-Some.last.now differs) ∙ ap without_return (sym is)
