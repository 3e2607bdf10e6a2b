-- The decisions that a node offers, and what comes behind each.
use Rattle.std.specs.Prelude.{ℕ, zero, suc, nat_lt, ◌≡◌, Bool, true, false, List, [], ◌∷◌, Option, None, Some, option_map, if◌then◌else◌}
use Rattle.lin_term.specs.Terms.{LinearTerm}
use Rattle.path_formula.specs.Formulas.{FormulaTree}
use Rattle.refutation_check.specs.declared.outcome.Verdict.{Verdict}
use Rattle.sefl_meaning.specs.declared.walk.Decision.{Decision}
use Rattle.sefl_meaning.specs.declared.walk.Decision.TheVariants.{Then, Else, Pass, Broken, Copy}
use Rattle.sefl_meaning.specs.declared.walk.End.{End}
use Rattle.sefl_meaning.specs.Courses.{Asking, at_if, at_constrain, Progress}
use Rattle.sefl_meaning.specs.Trees.{over, arrives, tests, splits, Copies, no_copies, copy_and}
use Rattle.sefl_meaning.specs.Routes.{number_of, truth_of}
use Rattle.exact_records.specs.Records.{SymTree}
use Rattle.exact_records.specs.Points.{Known, decided, to_decide, Point, Obligation, copied, copy_at, copy_obligations, side_obligations, sided}
use Rattle.path_exec.specs.declared.engine.Offer.{Offer}
use Rattle.path_exec.specs.declared.engine.Offer.TheVariants.{If, Constrain, Fork}
use Rattle.path_exec.specs.Location.{Location, point_at}

abbrev pub copy_count : {V F : Type 0} → Copies V F → ℕ
copy_count no_copies = 0
copy_count (copy_and t branches) = suc (copy_count branches)

-- it asks whether a test holds
pub record IsAsking (asking : Asking) (t : SymTree) : Type 0 where
  pub progress : Progress LinearTerm
  pub test : FormulaTree
  pub held : SymTree
  pub broken : SymTree
  pub is : t ≡ tests asking progress test held broken

-- it splits into `count` copies
pub record IsSplit (count : ℕ) (t : SymTree) : Type 0 where
  pub progress : Progress LinearTerm
  pub branches : Copies LinearTerm FormulaTree
  pub is : t ≡ splits progress branches
  pub counted : count ≡ copy_count branches

pub record IsOver (t : SymTree) : Type 0 where
  pub progress : Progress LinearTerm
  pub end' : End
  pub is : t ≡ over progress end'

-- it is a node that waits at this instruction
abbrev pub IsNode : Offer → SymTree → Type 0
IsNode If t = IsAsking at_if t
IsNode Constrain t = IsAsking at_constrain t
IsNode (Fork copies) t = IsSplit copies t

-- how many decisions there are
abbrev pub offer_count : Offer → ℕ
offer_count If = 2
offer_count Constrain = 2
offer_count (Fork copies) = copies

-- the decision of this number, in their order
abbrev pub offer_at : Offer → ℕ → Decision
offer_at If zero = Then
offer_at If (suc n) = Else
offer_at Constrain zero = Pass
offer_at Constrain (suc n) = Broken
offer_at (Fork copies) n = Copy n

abbrev pub copied_by : Point → Copies LinearTerm FormulaTree → Option ℕ → Option Point
copied_by a branches None = None
copied_by a branches (Some n) = option_map (copied a n) (copy_at branches n)

abbrev pub next_by : SymTree → Point → Decision → Option Point
next_by (over p end') a d = None
next_by (arrives place p t) a d = None
next_by (tests asking p test held broken) a d =
    option_map (λ truth. sided a asking test truth (if truth then held else broken)) (truth_of asking d)
next_by (splits p branches) a d = copied_by a branches (number_of d)

-- the point behind a decision, where it is offered
abbrev pub next_point : Point → Decision → Option Point
next_point a d = next_by a.tree a d

-- the decision is offered there
abbrev pub IsOffered : Location → Decision → Type 0
IsOffered h d = (begun : ℕ) × (c : Point) × (next_point (point_at begun h) d ≡ Some c)

-- what is known behind a decision, where this is the verdict before it
abbrev pub known_behind : Offer → Verdict → Known
known_behind If verdict = to_decide (Some verdict)
known_behind Constrain verdict = to_decide (Some verdict)
known_behind (Fork copies) verdict = decided verdict

abbrev pub obligations_by : SymTree → Point → Verdict → List Obligation
obligations_by (over p end') b verdict = []
obligations_by (arrives place p t) b verdict = []
obligations_by (tests asking p test held broken) b verdict = side_obligations b verdict asking test held broken
obligations_by (splits p branches) b verdict = copy_obligations b verdict 0 branches

-- all but the first ones
abbrev pub skip : {A : Type 0} → ℕ → List A → List A
skip zero xs = xs
skip (suc n) [] = []
skip (suc n) (x ∷ xs) = skip n xs

-- an obligation for each decision of a node with this verdict, except the first `taken`, which were taken
abbrev pub obligations_left : Point → Verdict → ℕ → List Obligation
obligations_left b verdict taken = skip taken (obligations_by b.tree b verdict)

-- whether the decision is one of them
abbrev pub is_offered : Offer → Decision → Bool
is_offered If Then = true
is_offered If Else = true
is_offered If Pass = false
is_offered If Broken = false
is_offered If (Copy number) = false
is_offered Constrain Then = false
is_offered Constrain Else = false
is_offered Constrain Pass = true
is_offered Constrain Broken = true
is_offered Constrain (Copy number) = false
is_offered (Fork copies) Then = false
is_offered (Fork copies) Else = false
is_offered (Fork copies) Pass = false
is_offered (Fork copies) Broken = false
is_offered (Fork copies) (Copy number) = nat_lt number copies
