-- Runs and walks leave numbers that fit their widths.
use Rattle.std.proofs.Common.{ℕ, zero, suc, ◌+◌, ◌%◌, ◌^◌, Bool, true, false, List, [], ◌∷◌, map, subst, lt-ltb, Option, None, Some}
use Rattle.std.proofs.lemmas.Nat.{mod_below, pow_pos}
use Rattle.std.specs.List.{AllByRecursion}
use Rattle.sn_width.specs.declared.ids.NodeId.{NodeId}
use Rattle.sefl_syntax.specs.declared.net.Side.{Side}
use Rattle.sefl_syntax.specs.declared.net.Side.TheVariants.{Inward, Outward}
use Rattle.sefl_syntax.specs.Trees.{CodeTree}
use Rattle.sefl_meaning.specs.declared.walk.Decision.{Decision}
use Rattle.sefl_meaning.specs.declared.walk.Decision.TheVariants.{Copy}
use Rattle.sefl_meaning.specs.declared.walk.Place.{Place}
use Rattle.sefl_meaning.specs.Values.{numbers, number_at, number_fits}
use Rattle.sefl_meaning.specs.Network.{Network, code_of, link_of}
use Rattle.sefl_meaning.specs.Carried.{Scene, scene_at}
use Rattle.sefl_meaning.specs.Runs.{Exit, off, go, forked, failed, Ran, run_code}
use Rattle.sefl_meaning.specs.Courses.{Progress, Course, ends, asks, course_code}
use Rattle.sefl_meaning.specs.Walks.{Passage, Onward, by_way_of, decided, place_at, run_port, crossed, leave, copies, passed, enter}
use Rattle.sefl_meaning.specs.Taken.{taken}
use Rattle.sefl_meaning.specs.Valued.{Fits, Keeps, CarriedFits, CourseFits}
use Rattle.sefl_meaning.proofs.AllLemmas.{all_append, all_map}
use Rattle.sefl_meaning.proofs.Ways.{taken_code}

remainder_fits : (w n : ℕ) → Fits number_fits w (n % 2 ^ w)
remainder_fits w n = lt-ltb (n % 2 ^ w) (2 ^ w) (mod_below n (2 ^ w) (pow_pos w))

pub numbers_keep : (v : List ℕ) (unknowns : ℕ) → Keeps number_fits (numbers v unknowns)
numbers_keep v unknowns = record {
  constant = λ w n. remainder_fits w n;
  plus = λ w a b ha hb. remainder_fits w (a + b);
  minus = λ w a b ha hb. remainder_fits w _;
  unknown = λ w i. remainder_fits w (number_at v i);
  choice = λ w k. remainder_fits w _;
}

taken_fits : (c : Course ℕ Bool) → CourseFits number_fits c → CarriedFits number_fits (taken c).progress.state
taken_fits (ends p exit) h = h
taken_fits (asks asking p true held broken) h = taken_fits held h.0
taken_fits (asks asking p false held broken) h = taken_fits broken h.1

abbrev CoursesFit : List ℕ → ℕ → Type 0
CoursesFit v unknowns = (at : Scene) (site : ℕ) (code : CodeTree) (from : Progress ℕ) →
    CarriedFits number_fits from.state →
    CourseFits number_fits (course_code (numbers v unknowns) at site code from)

module _ (v : List ℕ) (unknowns : ℕ) (courses : CoursesFit v unknowns) where
  pub run_fits : (at : Scene) (site : ℕ) (code : CodeTree) (p : Progress ℕ) → CarriedFits number_fits p.state →
      CarriedFits number_fits (run_code v unknowns at site code p).progress.state
  run_fits at site code p h =
      subst (λ (r : Ran). CarriedFits number_fits r.progress.state) (taken_code v unknowns at site code p)
      (taken_fits (course_code (numbers v unknowns) at site code p) (courses at site code p h))

  abbrev AllFit : List Passage → Type 0
  AllFit ts = AllByRecursion (λ t. CarriedFits number_fits t.progress.state) ts

  by_way_fits : (place : Place) (p : Progress ℕ) (ts : List Passage) → AllFit ts → AllFit (map (by_way_of place p) ts)
  by_way_fits place p ts h = all_map _ _ (by_way_of place p) ts (λ t fit. fit) h

  decided_fits : (ds : List Decision) (ts : List Passage) → AllFit ts → AllFit (map (decided ds) ts)
  decided_fits ds ts h = all_map _ _ (decided ds) ts (λ t fit. fit) h

  module _ (net : Network) where
    abbrev OnwardFits : Onward → Type 0
    OnwardFits onward = (node : NodeId) (port : ℕ) (p : Progress ℕ) → CarriedFits number_fits p.state →
        AllFit (onward node port p)

    port_fits : (node : NodeId) (side : Side) (port : ℕ) (p : Progress ℕ) → CarriedFits number_fits p.state →
        CarriedFits number_fits (run_port net v unknowns node side port p).progress.state
    port_fits node side port p h =
        run_fits (scene_at net node) (suc (code_of net node side port).0)
        (code_of net node side port).1 p h

    module _ (onward : Onward) (fits : OnwardFits onward) where
      crossed_fits : (link : Option (NodeId × ℕ)) (exit : Exit) (p : Progress ℕ) → CarriedFits number_fits p.state →
          AllFit (crossed net v unknowns onward link exit p)
      crossed_fits None off p h = (h, tt)
      crossed_fits None (go port) p h = (h, tt)
      crossed_fits None (forked ports) p h = (h, tt)
      crossed_fits None (failed failure site) p h = (h, tt)
      crossed_fits (Some to) off p h = fits to.0 to.1 p h
      crossed_fits (Some to) (go port) p h = (h, tt)
      crossed_fits (Some to) (forked ports) p h = (h, tt)
      crossed_fits (Some to) (failed failure site) p h = (h, tt)

      leave_fits : OnwardFits (leave net v unknowns onward)
      leave_fits node port p h =
          let r : Ran = run_port net v unknowns node Outward port p in
          by_way_fits (place_at node Outward port) p
          (map (decided r.decisions) (crossed net v unknowns onward (link_of net node port) r.exit r.progress))
          (decided_fits r.decisions (crossed net v unknowns onward (link_of net node port) r.exit r.progress)
          (crossed_fits (link_of net node port) r.exit r.progress (port_fits node Outward port p h)))

      copies_fit : (node : NodeId) (number : ℕ) (ports : List ℕ) (p : Progress ℕ) → CarriedFits number_fits p.state →
          AllFit (copies net v unknowns onward node number ports p)
      copies_fit node number [] p h = tt
      copies_fit node number (port ∷ ports) p h =
          all_append _ (map (decided (Copy number ∷ [])) (leave net v unknowns onward node port p))
          (copies net v unknowns onward node (suc number) ports p)
          (decided_fits (Copy number ∷ []) (leave net v unknowns onward node port p) (leave_fits node port p h))
          (copies_fit node (suc number) ports p h)

      passed_fits : (node : NodeId) (exit : Exit) (p : Progress ℕ) → CarriedFits number_fits p.state →
          AllFit (passed net v unknowns onward node exit p)
      passed_fits node off p h = (h, tt)
      passed_fits node (go port) p h = leave_fits node port p h
      passed_fits node (forked ports) p h = copies_fit node 0 ports p h
      passed_fits node (failed failure site) p h = (h, tt)

    pub enter_fits : (hops : ℕ) → OnwardFits (enter net v unknowns hops)
    enter_fits zero node port p h = (h, tt)
    enter_fits (suc hops) node port p h =
        let r : Ran = run_port net v unknowns node Inward port p in
        by_way_fits (place_at node Inward port) p
        (map (decided r.decisions) (passed net v unknowns (enter net v unknowns hops) node r.exit r.progress))
        (decided_fits r.decisions (passed net v unknowns (enter net v unknowns hops) node r.exit r.progress)
        (passed_fits (enter net v unknowns hops) (enter_fits hops) node r.exit r.progress
        (port_fits node Inward port p h)))
