-- Where decisions lead, and what questions speak of there.
use Rattle.std.proofs.Common.{◌≡◌, ℕ, List, [], reverse, refl, sym, ap, subst, ◌∙◌, Some, None}
use Rattle.std.specs.Global.{Global}
use Rattle.std.specs.declared.rc.Rc.{Rc}
use Rattle.refutation_check.specs.declared.outcome.Verdict.{Verdict}
use Rattle.sefl_meaning.specs.declared.walk.Decision.{Decision}
use Rattle.sefl_meaning.specs.declared.walk.End.{End}
use Rattle.sefl_meaning.specs.declared.walk.Place.{Place}
use Rattle.lin_term.specs.Terms.{LinearTerm}
use Rattle.net_check.specs.Network.{Network, Entry}
use Rattle.sefl_meaning.specs.Courses.{Progress}
use Rattle.sefl_meaning.specs.Routes.{IsFirstClosed, route}
use Rattle.sefl_meaning.specs.Trees.{over}
use Rattle.exact_records.specs.Packets.{IsExplored}
use Rattle.exact_records.specs.Records.{Leads, SymRoute, SymStart, SymTree}
use Rattle.path_exec.specs.declared.engine.Offer.{Offer}
use Rattle.path_exec.specs.declared.engine.Offer.TheVariants.{If, Constrain, Fork}
use Rattle.path_exec.specs.Handing.{handed}
use Rattle.path_exec.specs.Offers.{IsNode}
use Rattle.symbolic_engine.specs.declared.found.Found.TheVariants.{Path}
use Rattle.symbolic_engine.specs.declared.guiding.Led.{Led}
use Rattle.symbolic_engine.specs.declared.guiding.Waits.{Waits}
use Rattle.symbolic_engine.specs.declared.guiding.Waits.TheVariants.{Nothing as Over, Decides}
use Rattle.symbolic_engine.specs.Origins.{progress_in}
use Rattle.symbolic_engine.specs.Exploring.{FollowsTo, IsHandedBy}
use Rattle.symbolic_engine.specs.Leading.{LeadsThere, WaitsAs}
use Rattle.sym_state.specs.Symbolic.{Symbolic}
use Rattle.path_questions.specs.Formulas.{asked_left, asked_on, explored, no_start, start_or}
use Rattle.path_questions.specs.Questions.{Question}
use Rattle.queries.specs.declared.states.PathRun.{PathRun}
use Rattle.queries.specs.Paths.{AsksNothing, IsPathRun, LeadsSo, end_of, led_over}

pub some_same : {A : Type 0} {x y : A} → Some x ≡ Some y → x ≡ y
some_same e = cc e

pub none_some : {A : Type 0} {x : A} → None ≡ Some x → ⊥
none_some e = cc e

module _ (net : Network) (i : Entry) (hops : ℕ) where
  pub start_is : (start : SymStart) → IsExplored net i hops start → start ≡ explored net i hops
  start_is start is = sym (ap (start_or no_start) is)

  pub is_explored : (start : SymStart) → IsExplored net i hops start → IsExplored net i hops (explored net i hops)
  is_explored start is = subst (IsExplored net i hops) (start_is start is) is

  pub same_way : (ds : List Decision) (a b : SymRoute) → Leads (explored net i hops) ds a → Leads (explored net i hops) ds b → a ≡ b
  same_way ds a b h k = some_same (sym h ∙ k)

  -- where a call follows decisions
  pub leads_so : (ds : List Decision) (led : Led) → FollowsTo net i hops (λ start. LeadsThere start ds led) → LeadsSo net i hops ds led
  leads_so ds led h = record {
    is = is_explored h.start h.explored;
    there = subst (λ s. LeadsThere s ds led) (start_is h.start h.explored) h.holds;
  }

  -- decisions that lead nowhere leave nothing to ask
  pub nowhere : ((t : SymTree) (ds : List Decision) (index : ℕ) → IsFirstClosed t ds index → route t ds ≡ None)
      → (ds : List Decision) (index : ℕ) → FollowsTo net i hops (λ start. IsFirstClosed start.tree ds index) → AsksNothing net i hops ds
  nowhere closed ds index h q way leads =
      let none : route (explored net i hops).tree ds ≡ None =
      closed (explored net i hops).tree ds index (subst (λ (s : SymStart). IsFirstClosed s.tree ds index) (start_is h.start h.explored) h.holds) in
      absurd (none_some (sym none ∙ leads))

  -- nor do decisions that lead to a node
  no_states : (q : Question) (arrivals : List (Place × Progress LinearTerm)) (offer : Offer) (t : SymTree) → IsNode offer t → asked_left q arrivals t ≡ []
  no_states q arrivals If t h = ap (asked_left q arrivals) h.is
  no_states q arrivals Constrain t h = ap (asked_left q arrivals) h.is
  no_states q arrivals (Fork copies) t h = ap (asked_left q arrivals) h.is

  waiting : (ds : List Decision) (w : Waits) (way : SymRoute) (x : Symbolic) → WaitsAs w way.left x → end_of w ≡ None → (q : Question) → asked_on q way ≡ []
  waiting ds (Over how) way x h e q = absurd (none_some (sym e))
  waiting ds (Decides offer) way x h e q = no_states q way.arrivals offer way.left h

  pub asks_nothing : (ds : List Decision) (led : Led) → LeadsSo net i hops ds led → end_of led.waits ≡ None → AsksNothing net i hops ds
  asks_nothing ds led so e q way leads =
      ap (asked_on q) (sym (same_way ds so.there.way way so.there.leads leads))
      ∙ waiting ds led.waits so.there.way led.state so.there.waits e q

  over_as : (w : Waits) (how : End) → end_of w ≡ Some how → w ≡ Over how
  over_as (Over own) how e = ap Over (some_same e)
  over_as (Decides offer) how e = absurd (none_some e)

  -- where nothing waits, the run is over
  pub over_so : (ds : List Decision) (led : Led) (how : End) → LeadsSo net i hops ds led → end_of led.waits ≡ Some how → LeadsSo net i hops ds (led_over led.state how)
  over_so ds led how so e = subst (λ (w : Waits). LeadsSo net i hops ds (record { state = led.state; waits = w })) (over_as led.waits how e) so

  -- the state of a path that is handed over is where its decisions lead
  pub handed_so : (ds : List Decision) (state : Symbolic) (how : End) (verdict : Rc Verdict Global) → IsHandedBy net i hops (handed ds (Path state how verdict))
      → LeadsSo net i hops ds (led_over state how)
  handed_so ds state how verdict h = record {
    is = is_explored h.start h.explored;
    there = subst (λ s. LeadsThere s ds (led_over state how)) (start_is h.start h.explored) h.holds.leads;
  }

  pub is_path : (run : PathRun) → LeadsSo net i hops run.decisions.now (led_over run.state run.how) → run.places.items ≡ reverse run.state.places
      → IsPathRun net i hops run
  is_path run so places = record {
    is = so.is;
    way = so.there.way;
    leads = so.there.leads;
    progress = progress_in run.state so.there.waits.0;
    ended = so.there.waits.1;
    carries = refl;
    places = places ∙ so.there.places;
    condition = so.there.condition;
  }
