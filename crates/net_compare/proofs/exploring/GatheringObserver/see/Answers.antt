use Rattle.std.proofs.Common.{[], ◌∷◌, map, subst, sym}
use Rattle.std.proofs.lemmas.List.{map-append}
use Rattle.path_exec.specs.Handing.{handed}
use Rattle.symbolic_engine.specs.Finds.{handed_tree}
use Rattle.net_compare.specs.Delivering.{AreGathered}
use Rattle.net_compare.proofs.StateLemmas.{one_gathered}
use Rattle.net_compare.proofs.exploring.GatheringObserver.see.Goals as goal

pub returns-in-Ok-clause-took : goal.returns-in-Ok-clause-took
returns-in-Ok-clause-took g c = λ items h.
    let old = c.args.self.now in
    let ds = c.args.decisions.now in
    let found = c.args.found in
    subst (AreGathered g.M.Mark.start c.add.new.self old.failed) (sym (map-append handed_tree items (handed ds found ∷ [])))
    (one_gathered g.M.Mark.start found ds old.gathered c.add.new.self old.failed old.failed (map handed_tree items) c.if-self.false c.requires c.in-Ok.ensures h)
