-- Paths as the code follows them, and the states of them that questions speak of.
use Rattle.std.specs.Prelude.{ℕ, ◌≡◌, Bool, true, false, List, [], ◌∷◌, ◌++◌, map, Option, None, Some, if◌then◌else◌}
use Rattle.std.specs.List.{AllByRecursion}
use Rattle.lin_term.specs.Terms.{LinearTerm}
use Rattle.sefl_syntax.specs.Trees.{no_code}
use Rattle.net_check.specs.Network.{Network, Entry, code_at}
use Rattle.sefl_meaning.specs.declared.walk.Decision.{Decision}
use Rattle.sefl_meaning.specs.declared.walk.End.{End}
use Rattle.sefl_meaning.specs.declared.walk.End.TheVariants.{Stopped, Delivered, Failed, Cut}
use Rattle.sefl_meaning.specs.declared.walk.Place.{Place}
use Rattle.sefl_meaning.specs.Courses.{Progress}
use Rattle.sefl_meaning.specs.Routes.{places_on}
use Rattle.sefl_meaning.specs.Trees.{over}
use Rattle.exact_records.specs.Packets.{IsExplored}
use Rattle.exact_records.specs.Records.{Leads, SymRoute, condition_on}
use Rattle.sym_state.specs.Symbolic.{Symbolic}
use Rattle.symbolic_engine.specs.Leading.{LeadsThere}
use Rattle.symbolic_engine.specs.Origins.{condition_seen}
use Rattle.symbolic_engine.specs.declared.guiding.Led.{Led}
use Rattle.symbolic_engine.specs.declared.guiding.Waits.{Waits}
use Rattle.symbolic_engine.specs.declared.guiding.Waits.TheVariants.{Nothing as Over, Decides as Waiting}
use Rattle.path_questions.specs.Formulas.{asked_on, conditions_on, explored}
use Rattle.path_questions.specs.Questions.{Question, same_place, states_at}
use Rattle.path_questions.specs.Deciding.{IsJudged}
use Rattle.path_questions.specs.declared.judging.Judged.{Judged}
use Rattle.queries.specs.declared.states.PathRun.{PathRun}
use Rattle.queries.specs.declared.states.Stop.{Stop}

-- how a run is over, where nothing waits
abbrev pub end_of : Waits → Option End
end_of (Over how) = Some how
end_of (Waiting offer) = None

-- decisions lead to this state, where the run is over
abbrev pub led_over : Symbolic → End → Led
led_over state how = record { state = state; waits = Over how }

-- the port is one of these
abbrev pub has_place : Place → List Place → Bool
has_place place [] = false
has_place place (p ∷ places) = if same_place place p then true else has_place place places

-- the last of the ports is this one
abbrev pub ends_with : Place → List Place → Bool
ends_with place [] = false
ends_with place (p ∷ []) = same_place place p
ends_with place (p ∷ q ∷ places) = ends_with place (q ∷ places)

-- the port is the last of these, and none before it is the port
pub record ComesLast (place : Place) (places : List Place) : Type 0 where
  pub before : List Place
  pub is : places ≡ before ++ place ∷ []
  pub sooner : has_place place before ≡ false

-- the port has no code
abbrev pub IsBare : Network → Place → Type 0
IsBare net place = code_at net place.node place.side place.port ≡ no_code

-- a run with these ports comes to the port once, last of all, and meets no code there
abbrev pub StaysAt : Network → Place → List Place → Type 0
StaysAt net place places = ComesLast place places × IsBare net place

-- a run that ends so, with these ports, is delivered at this one
abbrev pub delivered_at : End → Place → List Place → Bool
delivered_at Delivered place places = ends_with place places
delivered_at Stopped place places = false
delivered_at (Failed failure site) place places = false
delivered_at Cut place places = false

-- its state, where it is
abbrev pub state_at_end : PathRun → Place → List Symbolic
state_at_end run place = if delivered_at run.how place run.places.items then run.state ∷ [] else []

-- the states at the first of the stops at this port
abbrev pub noted_at : Place → List Stop → Option (List Symbolic)
noted_at place [] = None
noted_at place (s ∷ stops) = if same_place place s.place then Some s.states.items else noted_at place stops

module _ (net : Network) (i : Entry) (hops : ℕ) where
  -- decisions lead so
  pub record LeadsSo (ds : List Decision) (led : Led) : Type 0 where
    pub is : IsExplored net i hops (explored net i hops)
    pub there : LeadsThere (explored net i hops) ds led

  -- the path of its decisions, with its state, its end and its ports
  pub record IsPathRun (run : PathRun) : Type 0 where
    pub is : IsExplored net i hops (explored net i hops)
    pub way : SymRoute
    pub leads : Leads (explored net i hops) run.decisions.now way
    pub progress : Progress LinearTerm
    pub ended : way.left ≡ over progress run.how
    pub carries : progress.state ≡ run.state.carried
    pub places : run.places.items ≡ places_on way
    pub condition : condition_seen run.state ≡ condition_on (explored net i hops) way

  -- no question speaks of a state on the way of these decisions
  abbrev pub AsksNothing : List Decision → Type 0
  AsksNothing ds = (q : Question) (way : SymRoute) → Leads (explored net i hops) ds way → asked_on q way ≡ []

  -- the path of these decisions; none where no question speaks of their way
  abbrev pub SeesPath : List Decision → Option PathRun → Type 0
  SeesPath ds None = AsksNothing ds
  SeesPath ds (Some run) = IsPathRun run × (run.decisions.now ≡ ds)

  -- what is carried in these states is what is carried on the arrivals of these decisions at a port
  abbrev pub ArriveAt : Place → List Decision → List Symbolic → Type 0
  ArriveAt place ds states = (way : SymRoute) → Leads (explored net i hops) ds way
      → map (λ (x : Symbolic). x.carried) states ≡ states_at place way.arrivals

  abbrev pub AreNoted : List Decision → List Stop → Type 0
  AreNoted ds stops = AllByRecursion (λ (s : Stop). ArriveAt s.place ds s.states.items) stops

  -- or in the states that a question speaks of
  abbrev pub AreStatesOf : Question → List Decision → List Symbolic → Type 0
  AreStatesOf q ds states = (way : SymRoute) → Leads (explored net i hops) ds way
      → map (λ (x : Symbolic). x.carried) states ≡ asked_on q way

  -- what the conditions of a question say on the way of these decisions
  abbrev pub IsJudgedOn : Question → List Decision → Judged → Type 0
  IsJudgedOn q ds judged = (way : SymRoute) → Leads (explored net i hops) ds way → IsJudged (conditions_on net i hops q way) judged
