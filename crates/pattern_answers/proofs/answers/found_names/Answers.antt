use Rattle.pattern_answers.proofs.Asked.{if_ok, raised, told_found, told_bad}
use Rattle.pattern_answers.proofs.answers.found_names.Goals as goal

pub returns-clause-refused : goal.returns-clause-refused
returns-clause-refused g c =
    let p = g.P.Patterns in
    let n = c.args.names.now in
    if_ok c.ask_patterns.result
    (λ a h. raised p.told p.find_gives n.metas n.patterns c.args.patterns.now a c.ask_patterns.new.patterns h)
    c.ask_patterns.ensures.asked

pub returns-clause-found : goal.returns-clause-found
returns-clause-found g c =
    let p = g.P.Patterns in
    let n = c.args.names.now in
    if_ok c.ask_patterns.result
    (λ a h. told_found p.told p.find_gives n.metas n.patterns c.args.patterns.now a c.ask_patterns.new.patterns h)
    c.ask_patterns.ensures.asked

pub returns-clause-bad : goal.returns-clause-bad
returns-clause-bad g c =
    let p = g.P.Patterns in
    let n = c.args.names.now in
    if_ok c.ask_patterns.result
    (λ a h. told_bad p.told p.find_gives n.metas n.patterns c.args.patterns.now a c.ask_patterns.new.patterns h)
    c.ask_patterns.ensures.asked
