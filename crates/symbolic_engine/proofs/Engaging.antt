-- What the engine's calls answer.
use Rattle.std.proofs.Common.{◌≡◌, ℕ, List, [], ◌∷◌, ◌++◌, length, reverse, Option, None, Some, IfSome, refl, sym, ap, subst, ◌∙◌}
use Rattle.std.proofs.lemmas.List.{reverse-append, reverse-reverse}
use Rattle.std.specs.Global.{Global}
use Rattle.std.specs.declared.rc.Rc.{Rc}
use Rattle.sn_tree.specs.Ends.{first}
use Rattle.sn_width.specs.declared.ids.NodeId.{NodeId}
use Rattle.lin_term.specs.Terms.{LinearTerm}
use Rattle.path_cond.specs.Conditions.{Condition, Entry}
use Rattle.path_cond.specs.Seen.{AllTyped, itself}
use Rattle.net_check.specs.Network.{Network}
use Rattle.refutation_check.specs.Longer.{with_entries}
use Rattle.refutation_check.specs.declared.outcome.Verdict.{Verdict}
use Rattle.refutation_check.specs.declared.steps.Refute.{Refute}
use Rattle.path_solver.specs.Bases.{IsBaseOf}
use Rattle.path_solver.specs.declared.base.Base.{Base}
use Rattle.sefl_meaning.specs.declared.walk.Decision.{Decision}
use Rattle.sefl_meaning.specs.declared.walk.End.{End}
use Rattle.sefl_meaning.specs.declared.walk.Place.{Place}
use Rattle.sefl_meaning.specs.Fields.{fields_of}
use Rattle.sefl_meaning.specs.Runs.{Progress}
use Rattle.sefl_meaning.specs.Trees.{enter, over}
use Rattle.term_values.specs.TermValues.{terms}
use Rattle.code_frames.specs.Frames.{progress_at}
use Rattle.sym_state.specs.Symbolic.{Symbolic}
use Rattle.exact_records.specs.Records.{IsFoundRefuted, IsVerdictOn, SymCondition, SymStart, SymTree, path, pruned}
use Rattle.exact_records.specs.Points.{IsKnown, Point, condition_at, filled_verdict, first_point}
use Rattle.path_exec.specs.Following.{IsLed}
use Rattle.path_exec.specs.Handing.{IsListed, handed}
use Rattle.path_exec.specs.Location.{EndsWith, point_at}
use Rattle.path_exec.specs.Offers.{next_point}
use Rattle.path_exec.specs.Trials.{IsOpenAt, IsPathOf}
use Rattle.path_exec.specs.Views.{IsMade}
use Rattle.symbolic_engine.specs.declared.found.Found.TheVariants.{Path, Pruned}
use Rattle.symbolic_engine.specs.declared.guiding.Waits.TheVariants.{Nothing}
use Rattle.symbolic_engine.specs.declared.origin.Origin.{Ghosts}
use Rattle.symbolic_engine.specs.declared.points.Standing.{Standing}
use Rattle.symbolic_engine.specs.declared.stage.Stage.{Stage}
use Rattle.symbolic_engine.specs.declared.stage.Stage.TheVariants.{Entering}
use Rattle.symbolic_engine.specs.declared.stage.Wait.{Wait}
use Rattle.symbolic_engine.specs.declared.stage.Wait.TheVariants.{Asked, Forked}
use Rattle.symbolic_engine.specs.Finding.{IsOpenBy}
use Rattle.symbolic_engine.specs.Leading.{LeadsThere}
use Rattle.symbolic_engine.specs.Origins.{IsFirstState, IsRunOf, condition_seen, location_of, progress_in}
use Rattle.symbolic_engine.specs.Seeing.{finished_at, standing_at, views_of, waiting_at}
use Rattle.symbolic_engine.specs.Stages.{stage_tree, wait_tree}
use Rattle.symbolic_engine.specs.Turning.{IsNoted}
use Rattle.symbolic_engine.proofs.Explored.{leads_there}
use Rattle.symbolic_engine.proofs.RunLemmas.{condition_here, no_choices, no_tests, some_same}
use Rattle.symbolic_engine.proofs.Turns.{noted_point, run_noted}

-- ---- the first place

begins : (s : SymStart) (net : Network) (hops : ℕ) (node : NodeId) (port : ℕ) (x : Symbolic) → IsFirstState s net hops node port x
    → point_at 0 (standing_at s net x (Entering node port hops)) ≡ first_point s
begins s net hops node port x own =
    let tree = ap (λ (k : List ℕ). enter (terms x.unknowns) net hops node port (progress_at x.carried k 0)) (no_choices s net hops node port x own) ∙ sym own.tree in
    λ i. record {
      decisions = reverse (own.decisions i);
      places = reverse (own.places i);
      tests = no_tests s net hops node port x own i;
      widths = sym own.unknowns i;
      tree = tree i;
    }

-- before the injection's port, in a net that is this one
pub begins_at : (s : SymStart) (net own : Network) (hops : ℕ) (node : NodeId) (port : ℕ) (x y : Symbolic) → own ≡ net → IsFirstState s own hops node port x → y ≡ x
    → point_at 0 (standing_at s net y (Entering node port hops)) ≡ first_point s
begins_at s net own hops node port x y is begun same =
    ap (λ (z : Symbolic). point_at 0 (standing_at s net z (Entering node port hops))) same
    ∙ begins s net hops node port x (subst (λ (n : Network). IsFirstState s n hops node port x) is begun)

-- ---- verdicts

module _ (s : SymStart) (net : Network) (x : Symbolic) (stage : Stage) (begun : ℕ) (c : Point) (run : IsRunOf s x)
    (stands : point_at begun (standing_at s net x stage) ≡ c) where
  condition_there : condition_at s c ≡ condition_seen x
  condition_there = ap (condition_at s) (sym stands) ∙ condition_here s x (stage_tree net stage x) begun run

  -- the verdict there is that on the state's condition
  pub open_there : {B : Type 0} {origin : Ghosts B} (place : Standing B) (verdict : Verdict) → place.run ≡ x → place.stage ≡ stage → IsOpenBy (condition_seen x) verdict
      → IsOpenAt (views_of {B = B} {origin = origin} s net) begun c place verdict
  open_there place verdict is at open' = record {
    stands = (λ i. point_at begun (standing_at s net (is i) (at i))) ∙ stands;
    typed = subst (λ (k : SymCondition). AllTyped itself k.widths k.entries) (sym condition_there) open'.typed;
    verdict = subst (λ (k : SymCondition). IsVerdictOn k verdict) (sym condition_there) open'.verdict_is;
  }

  pub refuted_there : (refutation : List Refute) → IsFoundRefuted (condition_seen x) refutation → IsFoundRefuted (condition_at s c) refutation
  refuted_there refutation h = subst (λ (k : SymCondition). IsFoundRefuted k refutation) (sym condition_there) h

-- the condition behind a decision is that of the state with it
pub refuted_behind : (s : SymStart) (net : Network) (x y : Symbolic) (wait : Wait) (d : Decision) (begun : ℕ) (c : Point) → IsRunOf s x → IsNoted wait x d y
    → next_point (point_at begun (waiting_at s net x wait)) d ≡ Some c → (refutation : List Refute) → IsFoundRefuted (condition_seen y) refutation
    → IsFoundRefuted (condition_at s c) refutation
refuted_behind s net x y wait d begun c run noted e refutation h =
    let led = noted_point s net x d y wait run noted begun c e in
    let there : condition_at s c ≡ condition_seen y =
    ap (condition_at s) (sym led.1) ∙ condition_here s y (λ n. led.0) begun (run_noted s wait x d y run noted) in
    subst (λ (k : SymCondition). IsFoundRefuted k refutation) (sym there) h

-- what is known at a node is known of the state's condition
pub known_there : (s : SymStart) (net : Network) (x : Symbolic) (wait : Wait) (verdict : Verdict) → IsRunOf s x
    → IsKnown (condition_at s (point_at 0 (waiting_at s net x wait))) verdict → IsKnown (condition_seen x) verdict
known_there s net x wait verdict run h = subst (λ (k : SymCondition). IsKnown k verdict) (condition_here s x (wait_tree net wait x) 0 run) h

-- a base at a node is one behind its decision
pub base_noted : ((cond : Condition) (b : Base) (more : List Entry) → IsBaseOf cond b → IsBaseOf (with_entries cond more) b)
    → (wait : Wait) (x : Symbolic) (d : Decision) (y : Symbolic) (b : Base) → IsNoted wait x d y → IsBaseOf x.condition b → IsBaseOf y.condition b
base_noted stays (Asked running question test frames) x d y b noted h =
    subst (λ (z : Symbolic). IsBaseOf z.condition b) (sym noted.2) (stays x.condition b _ h)
base_noted stays (Forked node hops ports) x d y b noted h = subst (λ (z : Symbolic). IsBaseOf z.condition b) (sym noted) h

-- the same where a base is known, or none
pub base_behind : ((cond : Condition) (b : Base) (more : List Entry) → IsBaseOf cond b → IsBaseOf (with_entries cond more) b)
    → (wait : Wait) (x : Symbolic) (d : Decision) (y : Symbolic) → IsNoted wait x d y → (base : Option Base)
    → IfSome base (IsBaseOf x.condition) → IfSome base (IsBaseOf y.condition)
base_behind stays wait x d y noted None h = tt
base_behind stays wait x d y noted (Some b) h = base_noted stays wait x d y b noted h

-- ---- records

over_same : (p q : Progress LinearTerm) (e f : End) → ◌≡◌ {A = SymTree} (over p e) (over q f) → (p ≡ q) × (e ≡ f)
over_same p q e f h = (cc h, cc h)

-- a path that is over where its decisions lead, with a verdict on its condition
pub path_there : {B : Type 0} {origin : Ghosts B} (s : SymStart) (net : Network) (x y : Symbolic) (how : End) (verdict : Rc Verdict Global) → y ≡ x → IsRunOf s x
    → IsListed (reverse x.decisions) → (begun : ℕ) → IsLed s (reverse x.decisions) (point_at begun (finished_at s x how))
    → IsPathOf (views_of {B = B} {origin = origin} s net) (point_at begun (finished_at s x how)) verdict.value (handed (reverse x.decisions) (Path y how verdict))
path_there s net x y how verdict is run listed begun led p end' e =
    let same = over_same (progress_in x begun) p how end' e in
    let ds = reverse x.decisions in
    record {
      is = (λ i. path ds (reverse (is i).places) how (fields_of (is i).carried) (filled_verdict (length (is i).condition.widths) verdict.value))
          ∙ (λ i. path ds (reverse x.places) (same.1 i) (fields_of (same.0 i).state) (filled_verdict (length x.condition.widths) verdict.value));
      own = record {
        listed = listed;
        leads = subst (λ (z : Symbolic). LeadsThere s ds (record { state = z; waits = Nothing how })) (sym is)
            (leads_there s ds x (λ n. over (progress_in x n) how) begun run led (Nothing how) (begun, led.left) refl);
      };
    }

-- a refuted side, with the verdict before it
pub side_there : {B : Type 0} {origin : Ghosts B} (s : SymStart) (net : Network) (x : Symbolic) (wait : Wait) (verdict : Rc Verdict Global) (count : ℕ) (refutation : List Refute)
    → count ≡ length x.condition.widths → (ds : List Decision) → IsListed ds
    → IsMade (views_of {B = B} {origin = origin} s net) (pruned ds (Some (filled_verdict (length (waiting_at s net x wait).widths) verdict.value)) refutation)
    (handed ds (Pruned (Some (record { verdict = verdict; symbols = count })) refutation))
side_there s net x wait verdict count refutation is ds listed =
    record { is = ap (λ (n : ℕ). pruned ds (Some (filled_verdict n verdict.value)) refutation) is; own = record { listed = listed; leads = tt } }

-- ---- copies of places, and where they stand

pub same_place : (s : SymStart) (net : Network) (x y : Symbolic) (stage copy : Stage) → y ≡ x
    → ((n : Network) (z : Symbolic) (begun : ℕ) → stage_tree n copy z begun ≡ stage_tree n stage z begun)
    → standing_at s net y copy ≡ standing_at s net x stage
same_place s net x y stage copy is same =
    ap (λ (z : Symbolic). standing_at s net z copy) is ∙ (λ i. location_of s x (λ begun. same net x begun i))

pub ends_first : (places : List Place) (port : Place) → first places ≡ Some port → EndsWith (reverse places) port
ends_first [] port e = absurd (cc e)
ends_first (place ∷ places) port e =
    (reverse places, reverse-append (place ∷ []) places ∙ ap (λ (q : Place). reverse places ++ q ∷ []) (some_same e))

pub first_ends : (places : List Place) (port : Place) → EndsWith (reverse places) port → first places ≡ Some port
first_ends places port h =
    ap first (sym (reverse-reverse places) ∙ ap reverse h.1 ∙ reverse-append h.0 (port ∷ []))
