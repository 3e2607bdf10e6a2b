use Rattle.std.proofs.Common.{refl, sym, subst}
use Rattle.sn_width.specs.declared.memory.NoMemory.{NoMemory}
use Rattle.loops_command.specs.Loops.{AreLoops}
use Rattle.loops_command.proofs.FoundLemmas.{loops_of_own}
use Rattle.loops_command.proofs.searching.search_with.Goals as goal

pub observe-requires-clause-stands : goal.observe-requires-clause-stands
observe-requires-clause-stands g c = record {
  net_is = c.requires.net;
  entry_is = c.requires.entry;
  hops_is = c.requires.hops;
  counted = refl;
  finds = c.new.ensures.items;
}

pub returns : goal.returns
returns g c =
    let m = g.M.Mark in
    let out = c.observe.new.out in
    subst (λ ending. AreLoops m.hops c.args.limit m.net m.entry ending out.found.items) (sym c.ending_of.ensures)
    (loops_of_own NoMemory m.net _ m.entry _ m.hops _ c.args.limit (c.what_is_found_is_right.ensures m.net m.entry m.hops c.args.limit)
    c.requires.net c.requires.entry c.requires.hops _ out.subject out.found.items out.count
    (λ items h. h) refl _ _ _ c.in_ok-ended.ensures.observed)
