-- How far a run comes.
use Rattle.std.specs.Prelude.{ℕ, ◌≡◌, ◌+◌, List, [], ◌∷◌, ◌++◌}
use Rattle.lin_term.specs.Terms.{LinearTerm}
use Rattle.sefl_meaning.specs.declared.walk.Place.{Place}
use Rattle.sefl_meaning.specs.Carried.{Carried}
use Rattle.sefl_meaning.specs.Courses.{Progress}
use Rattle.sefl_meaning.specs.Trees.{arrives}
use Rattle.sefl_meaning.specs.Start.{progress_of}
use Rattle.exact_records.specs.Records.{SymStart}
use Rattle.exact_records.specs.Points.{Arrives, Point}
use Rattle.path_exec.specs.declared.engine.Moved.{Moved}
use Rattle.path_exec.specs.declared.engine.Moved.TheVariants.{Arrived, Stopped}
use Rattle.path_exec.specs.declared.engine.Next.{Next}
use Rattle.path_exec.specs.declared.engine.Next.TheVariants.{AtEnd, AtNode}
use Rattle.path_exec.specs.Location.{Location, point_at}
use Rattle.path_exec.specs.Views.{Views}
use Rattle.path_exec.specs.Offers.{IsNode, IsOver}

-- no decision was taken between, and more symbols may have come
pub record GoesOn (a c : Point) : Type 0 where
  pub decisions : c.decisions ≡ a.decisions
  pub tests : c.tests ≡ a.tests
  pub more : List ℕ
  pub grown : c.widths ≡ a.widths ++ more

-- the next port on the way was arrived at, where this is carried; the symbols are the unknown fields and the choices so far
pub record Reaches (s : SymStart) (a c : Point) (carried : Carried LinearTerm) : Type 0 where
  pub goes : GoesOn a c
  pub port : Place
  pub progress : Progress LinearTerm
  pub is : a.tree ≡ arrives port progress c.tree
  pub carries : progress.state ≡ carried
  pub places : c.places ≡ a.places ++ port ∷ []
  pub widths : c.widths ≡ s.unknowns ++ progress.choices

-- no port was arrived at, and then `count` instructions have begun
pub record StopsAt (s : SymStart) (count : ℕ) (a c : Point) : Type 0 where
  pub goes : GoesOn a c
  pub tree : c.tree ≡ a.tree
  pub places : c.places ≡ a.places
  pub widths : c.widths ≡ s.unknowns ++ (progress_of c.tree).choices
  pub begun : (progress_of c.tree).begun ≡ count

-- it is at the next node, or over, and then `count` instructions have begun
pub record ComesTo (s : SymStart) (count : ℕ) (a c : Point) : Type 0 where
  pub arrives : Arrives s a c
  pub begun : (progress_of c.tree).begun ≡ count

module _ {P O N D T : Type 0} (x : Views P O N D T) where
  abbrev pub IsStop : Point → ℕ → Next O N → Type 0
  IsStop a count (AtEnd over) =
      StopsAt x.start count a (point_at count (x.over_at over)) × IsOver ((x.over_at over).tree count)
  IsStop a count (AtNode node offer) =
      StopsAt x.start count a (point_at count (x.node_at node)) × IsNode offer ((x.node_at node).tree count)

  -- the run came so far, and then this many instructions have begun
  abbrev pub IsMove : Point → ℕ → Moved P O N → Type 0
  IsMove a count (Arrived place) = Reaches x.start a (point_at count (x.place_at place)) (x.carried_at place)
  IsMove a count (Stopped next) = IsStop a count next

  -- the counter rises by as many as begin, however many had begun before
  pub record Moves (h : Location) (before after : ℕ) (moved : Moved P O N) : Type 0 where
    pub raised : ℕ
    pub counted : after ≡ before + raised
    pub goes : (begun : ℕ) → IsMove (point_at begun h) (begun + raised) moved

  abbrev pub IsNext : Point → ℕ → Next O N → Type 0
  IsNext a count (AtEnd over) =
      ComesTo x.start count a (point_at count (x.over_at over)) × IsOver ((x.over_at over).tree count)
  IsNext a count (AtNode node offer) =
      ComesTo x.start count a (point_at count (x.node_at node)) × IsNode offer ((x.node_at node).tree count)

  -- the same, behind all ports on the way
  pub record Advances (h : Location) (before after : ℕ) (next : Next O N) : Type 0 where
    pub raised : ℕ
    pub counted : after ≡ before + raised
    pub goes : (begun : ℕ) → IsNext (point_at begun h) (begun + raised) next
