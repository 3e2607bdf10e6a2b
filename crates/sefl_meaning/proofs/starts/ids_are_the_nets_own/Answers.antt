use Rattle.std.proofs.Common.{length, subst}
use Rattle.std.specs.Prelude.{IfOk}
use Rattle.std.specs.List.{AllByRecursion}
use Rattle.net_check.specs.Keeping.{HasNamesOf}
use Rattle.sefl_meaning.specs.Values.{numbers}
use Rattle.sefl_meaning.specs.Network.{names_found}
use Rattle.sefl_meaning.specs.Carried.{scene_at}
use Rattle.sefl_meaning.specs.Ids.{CarriesOwn, IsOwnWalk}
use Rattle.sefl_meaning.proofs.IdLemmas.{IsOwnScene, each_code, enter_own, ids_below, injection_own, link_own, walks_own}
use Rattle.sefl_meaning.proofs.starts.ids_are_the_nets_own.Goals as goal

pub returns-clause-injection : goal.returns-clause-injection
returns-clause-injection g c = λ o net i one s is.
    let there = c.packets_enter_a_node.ensures net i one in
    let scene : IsOwnScene (scene_at net i.node) = record {
      node = there;
      iterations = tt;
      found = λ pattern. ids_below (length net.names.metas) 0 (names_found net pattern) (c.found_names_ascend.ensures net (one.0, one.1, one.2) pattern);
    } in
    (there, subst (λ r. IfOk r (CarriesOwn net)) is (injection_own o (scene_at net i.node) scene i.own (c.names_are_known.ensures.injection net i one)))

pub returns-clause-trees : goal.returns-clause-trees
returns-clause-trees g c = λ o net accepted hops port node p there h. enter_own o net (record {
  codes = each_code (HasNamesOf net.names) net (c.names_are_known.ensures.net net accepted) c.codes_have_places.ensures.none c.codes_have_places.ensures.some;
  found = λ pattern. ids_below (length net.names.metas) 0 (names_found net pattern) (c.found_names_ascend.ensures net accepted pattern);
  links = link_own net c.links_are_told.ensures.some c.positions_have_names.ensures.some;
}) hops node port p there h

pub returns-clause-walks : goal.returns-clause-walks
returns-clause-walks g c = λ net accepted v unknowns hops port node p there h.
    subst (AllByRecursion (IsOwnWalk net)) (c.runs_are_ways.ensures.walks net v unknowns hops port node p)
    (walks_own net _ (enter_own (numbers v unknowns) net (record {
      codes = each_code (HasNamesOf net.names) net (c.names_are_known.ensures.net net accepted) c.codes_have_places.ensures.none c.codes_have_places.ensures.some;
      found = λ pattern. ids_below (length net.names.metas) 0 (names_found net pattern) (c.found_names_ascend.ensures net accepted pattern);
      links = link_own net c.links_are_told.ensures.some c.positions_have_names.ensures.some;
    }) hops node port p there h))
