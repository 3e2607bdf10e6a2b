-- What a net does with values of any kind: a tree of the ports, the tests and the copies on the way.
use Rattle.std.specs.Prelude.{ℕ, zero, suc, List, [], ◌∷◌, Option, None, Some}
use Rattle.sn_width.specs.declared.ids.NodeId.{NodeId}
use Rattle.sefl_syntax.specs.declared.net.Side.{Side}
use Rattle.sefl_syntax.specs.declared.net.Side.TheVariants.{Inward, Outward}
use Rattle.sefl_meaning.specs.declared.walk.Place.{Place}
use Rattle.sefl_meaning.specs.declared.walk.End.{End}
use Rattle.sefl_meaning.specs.declared.walk.End.TheVariants.{Stopped, Delivered, Failed, Cut}
use Rattle.sefl_meaning.specs.Values.{Values}
use Rattle.sefl_meaning.specs.Network.{Network, code_of, link_of}
use Rattle.sefl_meaning.specs.Carried.{scene_at}
use Rattle.sefl_meaning.specs.Runs.{Exit, off, go, forked, failed}
use Rattle.sefl_meaning.specs.Walks.{place_at}
use Rattle.sefl_meaning.specs.Courses.{Asking, Progress, Course, ends, asks, course_code}

mutual
  -- A run is over, arrives at a port, asks whether a test holds and goes on either way, or splits into copies; each with what
  -- is carried and was counted until then.
  pub data Tree (V F : Type 0) : Type 0 where
    over : Progress V → End → Tree V F
    arrives : Place → Progress V → Tree V F → Tree V F
    tests : Asking → Progress V → F → Tree V F → Tree V F → Tree V F
    splits : Progress V → Copies V F → Tree V F

  -- the copies of a Fork, in the order of its ports
  pub data Copies (V F : Type 0) : Type 0 where
    no_copies : Copies V F
    copy_and : Tree V F → Copies V F → Copies V F

module _ {V F : Type 0} where
  -- a course, and what comes after each of its ends
  abbrev pub then_tree : Course V F → (Exit → Progress V → Tree V F) → Tree V F
  then_tree (ends p exit) next = next exit p
  then_tree (asks asking p test held broken) next = tests asking p test (then_tree held next) (then_tree broken next)

-- the tree from an input port
abbrev pub Onward : Type 0 → Type 0 → Type 0
Onward V F = NodeId → ℕ → Progress V → Tree V F

module _ {V F : Type 0} (o : Values V F) (net : Network) where
  abbrev pub port_course : NodeId → Side → ℕ → Progress V → Course V F
  port_course node side port p =
      course_code o (scene_at net node) (suc (code_of net node side port).0)
      (code_of net node side port).1 p

  abbrev pub crossed : Onward V F → Option (NodeId × ℕ) → Exit → Progress V → Tree V F
  crossed onward None off p = over p Delivered
  crossed onward (Some to) off p = onward to.0 to.1 p
  crossed onward link (failed failure site) p = over p (Failed failure (record { 0 = site }))
  crossed onward link (go port) p = over p Stopped
  crossed onward link (forked ports) p = over p Stopped

  abbrev pub leave : Onward V F → Onward V F
  leave onward node port p =
      arrives (place_at node Outward port) p
      (then_tree (port_course node Outward port p) (crossed onward (link_of net node port)))

  abbrev pub copies : Onward V F → NodeId → List ℕ → Progress V → Copies V F
  copies onward node [] p = no_copies
  copies onward node (port ∷ ports) p = copy_and (leave onward node port p) (copies onward node ports p)

  abbrev pub passed : Onward V F → NodeId → Exit → Progress V → Tree V F
  passed onward node off p = over p Stopped
  passed onward node (go port) p = leave onward node port p
  passed onward node (forked ports) p = splits p (copies onward node ports p)
  passed onward node (failed failure site) p = over p (Failed failure (record { 0 = site }))

  -- the tree from an input port, with this many hops left
  abbrev pub enter : ℕ → Onward V F
  enter zero node port p = arrives (place_at node Inward port) p (over p Cut)
  enter (suc hops) node port p =
      arrives (place_at node Inward port) p (then_tree (port_course node Inward port p) (passed (enter hops) node))
