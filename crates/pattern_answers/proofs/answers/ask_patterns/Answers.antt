use Rattle.std.proofs.Common.{ℕ, List, arith}
use Rattle.pattern_answers.specs.Answers.{lists_of}
use Rattle.pattern_answers.specs.Asking.{IsStep}
use Rattle.sn_edge.specs.Told.{PatternsKept-on}
use Rattle.pattern_answers.proofs.Turns.{asks_all_on, refuses_all_on, asks_all_end, refuses_all_end}
use Rattle.pattern_answers.proofs.answers.ask_patterns.Goals as goal

pub returns-in_default-clause-asked : goal.returns-in_default-clause-asked
returns-in_default-clause-asked g c =
    let step = IsStep g.P.Patterns.told g.P.Patterns.find_gives in
    let pattern : List ℕ × ℕ = (c.pattern-site.result.0.now, c.pattern-site.result.1) in
    refuses_all_end step c.args.names.now.metas c.loop-index.patterns c.ask_names.new.patterns c.args.patterns.now c.loop-index.index pattern
    c.args.names.now.patterns c.pattern-site.ensures (rw c.in_default.is at c.in_ok-ids.ensures.asked) c.loop-index.invariant.refuses

pub loop-index-preserved : goal.loop-index-preserved
loop-index-preserved g c =
    let step = IsStep g.P.Patterns.told g.P.Patterns.find_gives in
    let pattern : List ℕ × ℕ = (c.pattern-site.result.0.now, c.pattern-site.result.1) in
    let before = c.loop-index.invariant in
    let asked = rw c.in-Some.is at c.in_ok-ids.ensures.asked in
    record {
      kept = PatternsKept-on before.kept c.ask_names.ensures.kept;
      asks = asks_all_on step c.args.names.now.metas c.loop-index.patterns c.ask_names.new.patterns c.args.patterns.now c.loop-index.index pattern
          c.args.names.now.patterns c.loop-index.lists.items c.push.new.self.items c.in-Some.ids c.pattern-site.ensures c.in_ok-push.ensures.items asked before.asks;
      refuses = refuses_all_on step c.args.names.now.metas c.loop-index.patterns c.ask_names.new.patterns c.args.patterns.now c.loop-index.index pattern
          c.args.names.now.patterns c.in-Some.ids.items c.pattern-site.ensures asked before.refuses;
    }

pub returns-clause-asked : goal.returns-clause-asked
returns-clause-asked g c =
    let step = IsStep g.P.Patterns.told g.P.Patterns.find_gives in
    asks_all_end step c.args.names.now.metas c.loop-index.patterns c.args.patterns.now c.loop-index.index c.args.names.now.patterns
    (lists_of c.loop-index.lists.items) (omega (arith, c.loop-index-test.false, c.pattern_count-index-end.ensures)) c.loop-index.invariant.asks
