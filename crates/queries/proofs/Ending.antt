-- A run that arrives at a port without code, last of all, is over there as it arrived.
use Rattle.std.proofs.Common.{◌≡◌, ℕ, zero, suc, Bool, true, false, List, [], ◌∷◌, refl, sym, ap, subst, ◌∙◌, Option, None, Some, option_map, Result, Ok, Err, IfOk}
use Rattle.sn_width.specs.declared.faults.LayoutFault.{LayoutFault}
use Rattle.sn_width.specs.declared.ids.NodeId.{NodeId}
use Rattle.lin_term.specs.Terms.{LinearTerm}
use Rattle.path_formula.specs.Formulas.{FormulaTree}
use Rattle.sefl_syntax.specs.declared.net.Side.TheVariants.{Inward, Outward}
use Rattle.sefl_syntax.specs.Trees.{CodeTree, no_code}
use Rattle.net_check.specs.Network.{Network, Entry}
use Rattle.cell_stacks.specs.Outcome.{and_then, on_ok}
use Rattle.sefl_meaning.specs.declared.walk.Decision.{Decision}
use Rattle.sefl_meaning.specs.declared.walk.End.{End}
use Rattle.sefl_meaning.specs.declared.walk.Place.{Place}
use Rattle.sefl_meaning.specs.Values.{Values}
use Rattle.sefl_meaning.specs.Network.{code_of, link_of}
use Rattle.sefl_meaning.specs.Carried.{Carried, Scene, scene_at}
use Rattle.sefl_meaning.specs.Courses.{Progress, Course, ends, asks, course_code}
use Rattle.sefl_meaning.specs.Injected.{injected, unknown_count, unknown_widths}
use Rattle.sefl_meaning.specs.Runs.{Exit, off, go, forked, failed, starting}
use Rattle.sefl_meaning.specs.Routes.{Route, arriving, by_number, by_truth, copy_route, number_of, route, truth_of}
use Rattle.sefl_meaning.specs.Start.{progress_of, start_from, tests_in, tree_from}
use Rattle.sefl_meaning.specs.Trees.{Tree, over, arrives, tests, splits, Copies, no_copies, copy_and, Onward, copies, crossed, enter, leave, passed, port_course, then_tree}
use Rattle.term_values.specs.TermValues.{terms}
use Rattle.exact_records.specs.Packets.{IsExplored}
use Rattle.exact_records.specs.Records.{Leads, SymRoute, SymStart}
use Rattle.queries.specs.Paths.{IsBare}

nothing_some : {A C : Type 0} {a : A} {xs : List A} → a ∷ xs ≡ [] → C
nothing_some e = cc e

-- ---- arrivals

module _ {V : Type 0} where
  -- the last arrival is so
  abbrev pub LastIs : (Place → Progress V → Type 0) → List (Place × Progress V) → Type 0
  LastIs P [] = Unit {0}
  LastIs P (a ∷ []) = P a.0 a.1
  LastIs P (a ∷ b ∷ arrivals) = LastIs P (b ∷ arrivals)

  one_before : (P : Place → Progress V → Type 0) (place : Place) (p : Progress V) (arrivals : List (Place × Progress V)) → (arrivals ≡ [] → P place p) → LastIs P arrivals
      → LastIs P ((place, p) ∷ arrivals)
  one_before P place p [] alone last = alone refl
  one_before P place p (a ∷ arrivals) alone last = last

-- ---- trees

module _ {V F : Type 0} where
  -- it is over as it comes, or arrives at a port
  abbrev GoesStraight : Progress V → Tree V F → Type 0
  GoesStraight p (over q end') = q ≡ p
  GoesStraight p (arrives place q t) = Unit {0}
  GoesStraight p (tests asking q test held broken) = ⊥
  GoesStraight p (splits q branches) = ⊥

  module _ (net : Network) where
    abbrev mutual
      -- so it is behind each port without code
      BareGoStraight : Tree V F → Type 0
      BareGoStraight (over p end') = Unit {0}
      BareGoStraight (arrives place p t) = (IsBare net place → GoesStraight p t) × BareGoStraight t
      BareGoStraight (tests asking p test held broken) = BareGoStraight held × BareGoStraight broken
      BareGoStraight (splits p branches) = EachGoes branches

      EachGoes : Copies V F → Type 0
      EachGoes no_copies = Unit {0}
      EachGoes (copy_and t branches) = BareGoStraight t × EachGoes branches

  then_goes : (net : Network) (c : Course V F) (next : Exit → Progress V → Tree V F) → ((exit : Exit) (p : Progress V) → BareGoStraight net (next exit p))
      → BareGoStraight net (then_tree c next)
  then_goes net (ends p exit) next h = h exit p
  then_goes net (asks asking p test held broken) next h = (then_goes net held next h, then_goes net broken next h)

module _ {V F : Type 0} (o : Values V F) (net : Network) where
  -- behind no code comes what comes off its end
  no_code_goes : (at : Scene) (site : ℕ) (code : CodeTree) (p : Progress V) (next : Exit → Progress V → Tree V F) → GoesStraight p (next off p) → code ≡ no_code
      → GoesStraight p (then_tree (course_code o at site code p) next)
  no_code_goes at site code p next h none = subst (λ c. GoesStraight p (then_tree (course_code o at site c p) next)) (sym none) h

  abbrev OnwardGoes : Onward V F → Type 0
  OnwardGoes onward = (node : NodeId) (port : ℕ) (p : Progress V) → GoesStraight p (onward node port p) × BareGoStraight net (onward node port p)

  module _ (onward : Onward V F) (h : OnwardGoes onward) where
    crossed_straight : (link : Option (NodeId × ℕ)) (p : Progress V) → GoesStraight p (crossed o net onward link off p)
    crossed_straight None p = refl
    crossed_straight (Some to) p = (h to.0 to.1 p).0

    crossed_goes : (link : Option (NodeId × ℕ)) (exit : Exit) (p : Progress V) → BareGoStraight net (crossed o net onward link exit p)
    crossed_goes None off p = tt
    crossed_goes None (go port) p = tt
    crossed_goes None (forked ports) p = tt
    crossed_goes None (failed failure site) p = tt
    crossed_goes (Some to) off p = (h to.0 to.1 p).1
    crossed_goes (Some to) (go port) p = tt
    crossed_goes (Some to) (forked ports) p = tt
    crossed_goes (Some to) (failed failure site) p = tt

    leave_goes : OnwardGoes (leave o net onward)
    leave_goes node port p =
        let next = crossed o net onward (link_of net node port) in
        let code = code_of net node Outward port in (
          tt,
          (
            no_code_goes (scene_at net node) (suc code.0) code.1 p next (crossed_straight (link_of net node port) p),
            then_goes net (port_course o net node Outward port p) next (crossed_goes (link_of net node port)),
          ),
        )

    copies_go : (node : NodeId) (ports : List ℕ) (p : Progress V) → EachGoes net (copies o net onward node ports p)
    copies_go node [] p = tt
    copies_go node (port ∷ ports) p = ((leave_goes node port p).1, copies_go node ports p)

    passed_goes : (node : NodeId) (exit : Exit) (p : Progress V) → BareGoStraight net (passed o net onward node exit p)
    passed_goes node off p = tt
    passed_goes node (go port) p = (leave_goes node port p).1
    passed_goes node (forked ports) p = copies_go node ports p
    passed_goes node (failed failure site) p = tt

  enter_goes : (hops : ℕ) → OnwardGoes (enter o net hops)
  enter_goes zero node port p = (tt, ((λ bare. refl), tt))
  enter_goes (suc hops) node port p =
      let next = passed o net (enter o net hops) node in
      let code = code_of net node Inward port in (
        tt,
        (
          no_code_goes (scene_at net node) (suc code.0) code.1 p next refl,
          then_goes net (port_course o net node Inward port p) next (passed_goes (enter o net hops) (enter_goes hops) node),
        ),
      )

-- ---- routes

module _ {V F : Type 0} where
  -- where a route is over without an arrival, it is so as it came
  abbrev FoundStraight : Progress V → Option (Route V F) → Type 0
  FoundStraight p None = Unit {0}
  FoundStraight p (Some way) = (q : Progress V) (end' : End) → way.left ≡ over q end' → way.arrivals ≡ [] → q ≡ p

  arriving_straight : (p : Progress V) (place : Place) (q : Progress V) (found : Option (Route V F)) → FoundStraight p (option_map (arriving place q) found)
  arriving_straight p place q None = tt
  arriving_straight p place q (Some way) = λ r end' ended none. nothing_some none

  straight : (p : Progress V) (t : Tree V F) → GoesStraight p t → (ds : List Decision) → FoundStraight p (route t ds)
  straight p (over q end') h [] = λ r last ended none. sym (ap progress_of ended) ∙ h
  straight p (over q end') h (d ∷ ds) = tt
  straight p (arrives place q t) h ds = arriving_straight p place q (route t ds)
  straight p (tests asking q test held broken) h ds = absurd h
  straight p (splits q branches) h ds = absurd h

  module _ (net : Network) where
    -- where a route is over, and arrives last at a port without code, it is so as it arrives there
    abbrev IsOverThere : Option (Route V F) → Type 0
    IsOverThere None = Unit {0}
    IsOverThere (Some way) = (q : Progress V) (end' : End) → way.left ≡ over q end' → LastIs (λ place p. IsBare net place → p ≡ q) way.arrivals

    arriving_over : (place : Place) (p : Progress V) (found : Option (Route V F)) → (IsBare net place → FoundStraight p found) → IsOverThere found
        → IsOverThere (option_map (arriving place p) found)
    arriving_over place p None now h = tt
    arriving_over place p (Some way) now h = λ q end' ended.
        one_before (λ at r. IsBare net at → r ≡ q) place p way.arrivals (λ none bare. sym (now bare q end' ended none)) (h q end' ended)

    side_over : (truth : Option Bool) (test : F) (held broken : Option (Route V F)) → IsOverThere held → IsOverThere broken → IsOverThere (by_truth truth test held broken)
    side_over None test held broken h k = tt
    side_over (Some true) test None broken h k = tt
    side_over (Some true) test (Some way) broken h k = h
    side_over (Some false) test held None h k = tt
    side_over (Some false) test held (Some way) h k = k

    copy_over : (number : Option ℕ) (copy : ℕ → Option (Route V F)) → ((n : ℕ) → IsOverThere (copy n)) → IsOverThere (by_number number copy)
    copy_over None copy h = tt
    copy_over (Some n) copy h = h n

    mutual
      over_there : (t : Tree V F) → BareGoStraight net t → (ds : List Decision) → IsOverThere (route t ds)
      over_there (over p end') h [] = λ q last ended. tt
      over_there (over p end') h (d ∷ ds) = tt
      over_there (arrives place p t) h ds = arriving_over place p (route t ds) (λ bare. straight p t (h.0 bare) ds) (over_there t h.1 ds)
      over_there (tests asking p test held broken) h [] = λ q last ended. tt
      over_there (tests asking p test held broken) h (d ∷ ds) =
          side_over (truth_of asking d) test (route held ds) (route broken ds) (over_there held h.0 ds) (over_there broken h.1 ds)
      over_there (splits p branches) h [] = λ q last ended. tt
      over_there (splits p branches) h (d ∷ ds) = copy_over (number_of d) (λ n. copy_route branches n ds) (λ n. each_over branches h n ds)

      each_over : (branches : Copies V F) → EachGoes net branches → (n : ℕ) (ds : List Decision) → IsOverThere (copy_route branches n ds)
      each_over no_copies h n ds = tt
      each_over (copy_and t branches) h zero ds = over_there t h.0 ds
      each_over (copy_and t branches) h (suc n) ds = each_over branches h.1 n ds

-- ---- what is explored

module _ (net : Network) (i : Entry) (hops : ℕ) where
  tests_done : (s : Carried LinearTerm) (r : Result (List FormulaTree) LayoutFault)
      → IfOk {T = SymStart} (on_ok (λ fs. record { unknowns = unknown_widths i.own.fields; tests = fs; tree = tree_from (terms (unknown_count i)) net i hops s; most_choices = i.most_choices }) r) (λ start. BareGoStraight net start.tree)
  tests_done s (Ok fs) = (enter_goes (terms (unknown_count i)) net hops i.node i.own.port (starting s)).1
  tests_done s (Err fault) = tt

  begun : (r : Result (Carried LinearTerm) LayoutFault) → IfOk (and_then r (start_from (terms (unknown_count i)) net i hops)) (λ (start : SymStart). BareGoStraight net start.tree)
  begun (Ok s) = tests_done s (tests_in (terms (unknown_count i)) (scene_at net i.node) i.own.tests s)
  begun (Err fault) = tt

  explored_goes : (start : SymStart) → IsExplored net i hops start → BareGoStraight net start.tree
  explored_goes start is =
      subst (λ (r : Result SymStart LayoutFault). IfOk r (λ (s : SymStart). BareGoStraight net s.tree)) is
      (begun (injected (terms (unknown_count i)) (scene_at net i.node) i.own))

  -- where decisions lead to an end, and arrive last at a port without code, the run is over as it arrives there
  pub over_as_it_arrives : (start : SymStart) → IsExplored net i hops start → (ds : List Decision) (way : SymRoute) → Leads start ds way → (q : Progress LinearTerm) (end' : End)
      → way.left ≡ over q end' → LastIs (λ place p. IsBare net place → p ≡ q) way.arrivals
  over_as_it_arrives start is ds way leads = subst (IsOverThere net) leads (over_there net start.tree (explored_goes start is) ds)
