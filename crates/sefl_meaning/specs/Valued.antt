-- Functions from values of one kind to values of another, and what they make of states, courses and trees.
use Rattle.std.specs.Prelude.{ℕ, zero, suc, ◌≡◌, ◌≤◌, Bool, true, List, [], ◌∷◌, ◌++◌, length, map, Option, None, Some}
use Rattle.std.specs.List.{AllByRecursion}
use Rattle.sn_width.specs.declared.rel.Rel.{Rel}
use Rattle.cell_stacks.specs.declared.cell.Cell.{Cell}
use Rattle.job_items.specs.Atoms.{Atom}
use Rattle.job_items.specs.AtomRules.{atom_width}
use Rattle.sefl_meaning.specs.Values.{Values}
use Rattle.sefl_meaning.specs.Carried.{Carried, carried_valued}
use Rattle.sefl_meaning.specs.Courses.{Progress, Course, ends, asks}
use Rattle.sefl_meaning.specs.Trees.{Tree, over, arrives, tests, splits, Copies, no_copies, copy_and}

-- the value fits the width
abbrev pub Fits : {V : Type 0} → (ℕ → V → Bool) → ℕ → V → Type 0
Fits fits width value = fits width value ≡ true

-- each operation that gives a value gives one that fits its width
pub record Keeps {V F : Type 0} (fits : ℕ → V → Bool) (o : Values V F) : Type 0 where
  pub constant : (w n : ℕ) → Fits fits w (o.constant w n)
  pub plus : (w : ℕ) (a b : V) → Fits fits w a → Fits fits w b → Fits fits w (o.plus w a b)
  pub minus : (w : ℕ) (a b : V) → Fits fits w a → Fits fits w b → Fits fits w (o.minus w a b)
  pub unknown : (w i : ℕ) → Fits fits w (o.unknown w i)
  pub choice : (w k : ℕ) → Fits fits w (o.choice w k)

-- each operation of expressions gives a value that fits its width
pub record KeepsSums {V F : Type 0} (fits : ℕ → V → Bool) (o : Values V F) : Type 0 where
  pub constant : (w n : ℕ) → Fits fits w (o.constant w n)
  pub plus : (w : ℕ) (a b : V) → Fits fits w a → Fits fits w b → Fits fits w (o.plus w a b)
  pub minus : (w : ℕ) (a b : V) → Fits fits w a → Fits fits w b → Fits fits w (o.minus w a b)

abbrev pub IsGood : {F : Type 0} → (F → Bool) → F → Type 0
IsGood good t = good t ≡ true

-- the atom has a width that is not 0
abbrev pub HasSomeWidth : Atom → Type 0
HasSomeWidth a = 1 ≤ atom_width a

-- and each test of such values, of a width that is not 0, is good
pub record KeepsTests {V F : Type 0} (fits : ℕ → V → Bool) (good : F → Bool) (o : Values V F) : Type 0 where
  pub sums : KeepsSums fits o
  pub compare : (w : ℕ) (rel : Rel) (a b : V) → 1 ≤ w → Fits fits w a → Fits fits w b → IsGood good (o.compare w rel a b)
  pub member : (w : ℕ) (a : V) (ranges : List (ℕ × ℕ)) → 1 ≤ w → Fits fits w a → IsGood good (o.member w a ranges)
  pub always : IsGood good o.always
  pub all_of : (fs : List F) → AllByRecursion (IsGood good) fs → IsGood good (o.all_of fs)
  pub any_of : (fs : List F) → AllByRecursion (IsGood good) fs → IsGood good (o.any_of fs)
  pub negation : (t : F) → IsGood good t → IsGood good (o.negation t)

-- it fits, or it stands at width 0, which no accepted job has: so nothing is asked of a constant or a symbol of width 0
abbrev pub but_at_0 : {V : Type 0} → (ℕ → V → Bool) → ℕ → V → Bool
but_at_0 fits zero value = true
but_at_0 fits (suc bits) value = fits (suc bits) value

-- What fits where symbols of these widths are made so far, those of the unknown fields and then those of the choices: it
-- fits when one more is made, and a new symbol, which has the next number, fits its width.
pub record KeepsSymbols {V F : Type 0} (fits : List ℕ → ℕ → V → Bool) (unknowns : List ℕ) (o : Values V F) : Type 0 where
  pub sums : (widths : List ℕ) → KeepsSums (fits widths) o
  pub wider : (widths : List ℕ) (more w : ℕ) (value : V) → Fits (fits widths) w value →
      Fits (fits (widths ++ more ∷ [])) w value
  pub unknown : (widths : List ℕ) (w : ℕ) → Fits (fits (widths ++ w ∷ [])) w (o.unknown w (length widths))
  pub choice : (choices : List ℕ) (w : ℕ) →
      Fits (fits ((unknowns ++ choices) ++ w ∷ [])) w (o.choice w (length choices))

-- an operation and then a function of its value or truth is the function and then the operation, for values that fit
pub record Respects {V F W G : Type 0} (fits : ℕ → V → Bool) (o : Values V F) (p : Values W G) (f : V → W)
    (g : F → G) : Type 0 where
  pub keeps : Keeps fits o
  pub constant : (w n : ℕ) → f (o.constant w n) ≡ p.constant w n
  pub plus : (w : ℕ) (a b : V) → Fits fits w a → Fits fits w b → f (o.plus w a b) ≡ p.plus w (f a) (f b)
  pub minus : (w : ℕ) (a b : V) → Fits fits w a → Fits fits w b → f (o.minus w a b) ≡ p.minus w (f a) (f b)
  pub unknown : (w i : ℕ) → f (o.unknown w i) ≡ p.unknown w i
  pub choice : (w k : ℕ) → f (o.choice w k) ≡ p.choice w k
  pub compare : (w : ℕ) (rel : Rel) (a b : V) → Fits fits w a → Fits fits w b →
      g (o.compare w rel a b) ≡ p.compare w rel (f a) (f b)
  pub member : (w : ℕ) (a : V) (ranges : List (ℕ × ℕ)) → Fits fits w a →
      g (o.member w a ranges) ≡ p.member w (f a) ranges
  pub always : g o.always ≡ p.always
  pub all_of : (fs : List F) → g (o.all_of fs) ≡ p.all_of (map g fs)
  pub any_of : (fs : List F) → g (o.any_of fs) ≡ p.any_of (map g fs)
  pub negation : (t : F) → g (o.negation t) ≡ p.negation (g t)

module _ {V : Type 0} (fits : ℕ → V → Bool) where
  abbrev pub HeldFits : ℕ → Option V → Type 0
  HeldFits width None = Unit {0}
  HeldFits width (Some value) = Fits fits width value

  abbrev pub CellFits : Cell V → Type 0
  CellFits cell = HeldFits cell.width cell.value

  abbrev pub StacksFit : {K : Type 0} → List (K × List (Cell V)) → Type 0
  StacksFit stacks = AllByRecursion (λ stack. AllByRecursion CellFits stack.1) stacks

  -- each set cell holds a value that fits its width
  pub record CarriedFits (s : Carried V) : Type 0 where
    pub heads : StacksFit s.layers.heads
    pub scopes : StacksFit s.scopes

-- so it is at each end of a course
abbrev pub CourseFits : {V F : Type 0} → (ℕ → V → Bool) → Course V F → Type 0
CourseFits fits (ends p exit) = CarriedFits fits p.state
CourseFits fits (asks asking p test held broken) = CourseFits fits held × CourseFits fits broken

-- each set cell holds a value that fits its width, where symbols are the unknown fields and the choices so far
abbrev pub ProgressTyped : {V : Type 0} → (List ℕ → ℕ → V → Bool) → List ℕ → Progress V → Type 0
ProgressTyped fits unknowns p = CarriedFits (fits (unknowns ++ p.choices)) p.state

module _ {V F : Type 0} (fits : List ℕ → ℕ → V → Bool) (unknowns : List ℕ) where
  -- so it is at each test and each end of a course
  abbrev pub CourseTyped : Course V F → Type 0
  CourseTyped (ends p exit) = ProgressTyped fits unknowns p
  CourseTyped (asks asking p test held broken) = ProgressTyped fits unknowns p × CourseTyped held × CourseTyped broken

  abbrev mutual
    -- and at each node of a tree
    pub TreeTyped : Tree V F → Type 0
    TreeTyped (over p end') = ProgressTyped fits unknowns p
    TreeTyped (arrives place p t) = ProgressTyped fits unknowns p × TreeTyped t
    TreeTyped (tests asking p test held broken) = ProgressTyped fits unknowns p × TreeTyped held × TreeTyped broken
    TreeTyped (splits p copies) = ProgressTyped fits unknowns p × EachTyped copies

    pub EachTyped : Copies V F → Type 0
    EachTyped no_copies = Unit {0}
    EachTyped (copy_and t copies) = TreeTyped t × EachTyped copies

abbrev pub progress_valued : {V W : Type 0} → (V → W) → Progress V → Progress W
progress_valued f p = record { state = carried_valued f p.state; choices = p.choices; begun = p.begun }

module _ {V F W G : Type 0} (f : V → W) (g : F → G) where
  abbrev pub course_valued : Course V F → Course W G
  course_valued (ends p exit) = ends (progress_valued f p) exit
  course_valued (asks asking p test held broken) =
      asks asking (progress_valued f p) (g test) (course_valued held) (course_valued broken)

  abbrev mutual
    pub tree_valued : Tree V F → Tree W G
    tree_valued (over p end') = over (progress_valued f p) end'
    tree_valued (arrives place p t) = arrives place (progress_valued f p) (tree_valued t)
    tree_valued (tests asking p test held broken) =
        tests asking (progress_valued f p) (g test) (tree_valued held) (tree_valued broken)
    tree_valued (splits p copies) = splits (progress_valued f p) (copies_valued copies)

    pub copies_valued : Copies V F → Copies W G
    copies_valued no_copies = no_copies
    copies_valued (copy_and t copies) = copy_and (tree_valued t) (copies_valued copies)
