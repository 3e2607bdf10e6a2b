use Rattle.std.proofs.Common.{arith}
use Rattle.pattern_answers.specs.Asking.{IsStep}
use Rattle.sn_edge.specs.Told.{PatternsKept-on}
use Rattle.pattern_answers.proofs.Turns.{asks_on, refuses_on, asks_end, refuses_end}
use Rattle.pattern_answers.proofs.answers.ask_names.Goals as goal

pub returns-in_default-clause-asked : goal.returns-in_default-clause-asked
returns-in_default-clause-asked g c =
    let step = IsStep g.P.Patterns.told g.P.Patterns.find_gives in
    refuses_end step c.args.pattern.now c.loop-id.patterns c.ask.new.patterns c.args.patterns.now c.loop-id.id c.meta_name-name.result.now
    c.args.names.now.metas c.meta_name-name.ensures (rw c.in_default.is at c.in_ok-is_found.ensures.asked) c.loop-id.invariant.refuses

pub loop-id-preserved : goal.loop-id-preserved
loop-id-preserved g c =
    let step = IsStep g.P.Patterns.told g.P.Patterns.find_gives in
    let before = c.loop-id.invariant in
    let asked = rw c.in-Some.is at c.in_ok-is_found.ensures.asked in
    record {
      kept = PatternsKept-on before.kept c.ask.ensures.kept;
      asks = asks_on step c.args.pattern.now c.loop-id.patterns c.ask.new.patterns c.args.patterns.now c.loop-id.id c.meta_name-name.result.now
          c.args.names.now.metas c.loop-id.ids.items c.note.new.ids.items c.in-Some.is_found c.meta_name-name.ensures c.in_ok-note.ensures asked before.asks;
      refuses = refuses_on step c.args.pattern.now c.loop-id.patterns c.ask.new.patterns c.args.patterns.now c.loop-id.id c.meta_name-name.result.now
          c.args.names.now.metas c.in-Some.is_found c.meta_name-name.ensures asked before.refuses;
    }

pub returns-clause-asked : goal.returns-clause-asked
returns-clause-asked g c =
    let step = IsStep g.P.Patterns.told g.P.Patterns.find_gives in
    asks_end step c.args.pattern.now c.loop-id.patterns c.args.patterns.now c.loop-id.id c.args.names.now.metas c.loop-id.ids.items
    (omega (arith, c.loop-id-test.false, c.meta_count-id-end.ensures)) c.loop-id.invariant.asks
