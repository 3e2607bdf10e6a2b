use Rattle.std.proofs.Common.{subst, sym}
use Rattle.sefl_meaning.specs.Routes.{IsOpen}
use Rattle.exact_records.specs.View.{record_tree}
use Rattle.whole_checks.proofs.Shown.{meaning_opens}
use Rattle.whole_checks.proofs.whole.joined.Goals as goal

pub settled-requires-clause-open : goal.settled-requires-clause-open
settled-requires-clause-open g c =
    let s = g.G.Guide.start in
    subst (IsOpen s.tree) (sym c.decisions_of-decisions.ensures) (meaning_opens s c.routes_compose.ensures.more (record_tree c.args.found.now) c.requires.meaning)
