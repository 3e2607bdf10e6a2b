use Rattle.std.proofs.Common.{refl, sym, ◌∙◌}
use Rattle.sefl_meaning.specs.Trees.{copies}
use Rattle.term_values.specs.TermValues.{terms}
use Rattle.symbolic_engine.specs.declared.stage.Wait.TheVariants.{Forked}
use Rattle.symbolic_engine.specs.Origins.{progress_in}
use Rattle.symbolic_engine.specs.Stages.{onward_of, wait_tree}
use Rattle.symbolic_engine.proofs.Ports.{count_of_copies}
use Rattle.symbolic_engine.proofs.RunLemmas.{stops_here}
use Rattle.symbolic_engine.proofs.arriving.forked.Goals as goal

pub returns : goal.returns
returns g c = λ net begun.
    let x = c.args.run in
    let p = progress_in x begun in
    let ports = c.args.ports.now in (
      stops_here g.B.Origin.start x (wait_tree net (Forked c.args.node c.args.hops c.args.ports) x) begun c.is_own.ensures refl,
      record {
        progress = p;
        branches = copies (terms x.unknowns) net (onward_of net x.unknowns c.args.hops) c.args.node ports p;
        is = refl;
        counted = c.in-Ok.ensures.1 ∙ sym (count_of_copies net x.unknowns c.args.hops c.args.node ports p);
      },
    )
