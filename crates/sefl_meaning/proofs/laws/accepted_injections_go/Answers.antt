use Rattle.sefl_meaning.proofs.InjectionLemmas.{injection_goes, injection_tests_go}
use Rattle.sefl_meaning.proofs.laws.accepted_injections_go.Goals as goal

pub returns-clause-carries : goal.returns-clause-carries
returns-clause-carries g c = λ o net i (j, sound, is, own) widths.
    let keeps = c.accepted_parts_keep_the_rules.ensures.injection i (j, sound, own) in
    let names = c.names_are_known.ensures.injection net i (j, sound, is, own) in
    let cells = injection_goes c.stack_laws.ensures o net i.node i.own keeps names widths in
    (cells.next, cells.goes)

pub returns-clause-tests : goal.returns-clause-tests
returns-clause-tests g c = λ o net i (j, sound, is, own) widths s goes.
    injection_tests_go c.stack_laws.ensures o net i.node i.own c.atoms_keep_their_widths.ensures
    (c.accepted_parts_keep_the_rules.ensures.injection i (j, sound, own)) (c.names_are_known.ensures.injection net i (j, sound, is, own)) widths s goes
