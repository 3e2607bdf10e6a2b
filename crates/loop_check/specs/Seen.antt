-- The visits of a port, as the states of a guided run show them.
use Rattle.std.specs.Prelude.{ℕ, ◌≡◌, ◌⊎◌, List, [], ◌∷◌, ◌++◌, length, take, Option, None, Some}
use Rattle.std.specs.List.{AllByRecursion}
use Rattle.sefl_meaning.specs.declared.walk.Place.{Place}
use Rattle.exact_records.specs.Records.{SymCondition}
use Rattle.sym_state.specs.Symbolic.{Symbolic, held_of}
use Rattle.symbolic_engine.specs.Origins.{condition_seen}
use Rattle.loop_meaning.specs.declared.answer.Why.{Why}
use Rattle.loop_meaning.specs.Answers.{Arrival}
use Rattle.loop_meaning.specs.Visits.{HasNoDiffer, IsWhy, Visit, visit_of}

-- the visit in this state differs from the last one for this cause, or for none
abbrev pub SaysOf : SymCondition → Visit → Symbolic → Option Why → Type 0
SaysOf c last x None = HasNoDiffer (held_of x) last c
SaysOf c last x (Some why) = IsWhy (held_of x) last c why

module _ (port : Place) where
  -- the arrival is at the port, and the first state is that of it; the others as said
  pub record IsSeen (a : Arrival) (Others : List Symbolic → Type 0) (states : List Symbolic) : Type 0 where
    pub at : a.0 ≡ port
    pub first : Symbolic
    pub rest : List Symbolic
    pub is : states ≡ first ∷ rest
    pub holds : held_of first ≡ visit_of a.1
    pub others : Others rest

  -- a state for each arrival at the port, in order
  abbrev pub AreSeen : List Arrival → List Symbolic → Type 0
  AreSeen [] states = states ≡ []
  AreSeen (a ∷ arrivals) states =
      IsSeen a (λ rest. AreSeen arrivals rest) states ⊎ ((a.0 ≡ port → ⊥) × AreSeen arrivals states)

  -- the last of the states is that of the last arrival, with the condition of the path, and the others are those of the earlier ones
  pub record AreSeenTo (c : SymCondition) (earlier : List Arrival) (last : Arrival) (states : List Symbolic) : Type 0 where
    pub visits : List Symbolic
    pub final : Symbolic
    pub joined : states ≡ visits ++ final ∷ []
    pub seen : AreSeen earlier visits
    pub holds : held_of final ≡ visit_of last.1
    pub condition : condition_seen final ≡ c

-- the unknown fields of the state have these widths
pub record IsFrom (fields : List ℕ) (x : Symbolic) : Type 0 where
  pub count : x.unknowns ≡ length fields
  pub widths : take x.unknowns x.condition.widths ≡ fields

-- all states begin with the same unknown fields
pub record HaveFields (states : List Symbolic) : Type 0 where
  pub fields : List ℕ
  pub all : AllByRecursion (IsFrom fields) states
