use Rattle.std.proofs.Common.{◌∙◌, ap, sym}
use Rattle.std.specs.List.{list_all}
use Rattle.path_questions.specs.Deciding.{entry_of, net_of}
use Rattle.path_questions.specs.Known.{is_found}
use Rattle.symbolic_engine.specs.Finds.{found_tree}
use Rattle.queries.proofs.FoundLemmas.{all_stay, one_longer}
use Rattle.queries.proofs.asking.Asking.keep.Goals as goal

pub returns-then-are_found-clause-keeps : goal.returns-then-are_found-clause-keeps
returns-then-are_found-clause-keeps g c = λ xs counted kept.
    let x = c.args.self.now in
    let found = found_tree c.args.found c.args.decisions.now in (
      one_longer xs found x.count c.in-Some.next counted c.in-Some.ensures.1,
      all_stay (net_of x.subject) (entry_of x.subject) x.subject.hops xs found x.questions.items x.kept.items
          (ap (list_all is_found) (sym c.deref.ensures.value) ∙ (sym c.are_found.ensures ∙ c.if-are_found.true)) kept,
    )
