-- The decisions of what is explored, in one list that is cut.
use Rattle.std.specs.Prelude.{◌≡◌, List, [], ◌∷◌, length, reverse, Result, Ok, Err}
use Rattle.std.specs.List.{AllByRecursion}
use Rattle.sefl_meaning.specs.declared.walk.Decision.{Decision}
use Rattle.sefl_meaning.specs.Order.{BeginsWith}
use Rattle.path_exec.specs.declared.exploration.Ran.{Ran}
use Rattle.path_exec.specs.declared.exploration.Ran.TheVariants.{Over, Met, Interrupted}
use Rattle.path_exec.specs.declared.opening.OpenNode.{OpenNode}
use Rattle.path_exec.specs.Handing.{IsNumbered}
use Rattle.path_exec.specs.Views.{Views}

module _ {P O N D T : Type 0} (x : Views P O N D T) where
  -- the decisions of the node are the first ones of the course, as many as the depth says
  pub record IsOnCourse (course : List Decision) (w : OpenNode N D) : Type 0 where
    pub depth : w.depth ≡ length (x.node_at w.node).decisions
    pub begins : BeginsWith (x.node_at w.node).decisions course

  -- these nodes, that on top first, are on the course: each on the decisions of the one above it
  abbrev pub AreAlong : List Decision → List (OpenNode N D) → Type 0
  AreAlong course [] = Unit {0}
  AreAlong course (w ∷ ws) = IsOnCourse course w × AreAlong (x.node_at w.node).decisions ws

  -- so are those on the stack, and the numbers of the decisions are of their type
  pub record AreOnCourse (course : List Decision) (open_nodes : List (OpenNode N D)) : Type 0 where
    pub numbered : AllByRecursion IsNumbered course
    pub along : AreAlong course (reverse open_nodes)

  -- where those before were, those behind are
  abbrev pub StaysOnCourse : List Decision → List (OpenNode N D) → List Decision → List (OpenNode N D) → Type 0
  StaysOnCourse before old behind new = AreOnCourse before old → AreOnCourse behind new

  -- they are, where the limit was met
  abbrev pub MetOnCourse : {E : Type 0} → List Decision → List (OpenNode N D) → Result Ran E → Type 0
  MetOnCourse course open_nodes (Ok Over) = Unit {0}
  MetOnCourse course open_nodes (Ok Met) = AreOnCourse course open_nodes
  MetOnCourse course open_nodes (Ok Interrupted) = Unit {0}
  MetOnCourse course open_nodes (Err e) = Unit {0}
