-- What a decision makes of a node.
use Rattle.std.proofs.Common.{◌≡◌, ℕ, zero, suc, ◌<◌, Bool, true, false, if◌then◌else◌, List, [], ◌∷◌, ◌++◌, drop, length, reverse, Option, None, Some, Bor, slice_index_or, refl, sym, ap, subst, ◌∙◌, arith}
use Rattle.std.proofs.lemmas.List.{reverse-append}
use Rattle.std.specs.Prelude.{option_map}
use Rattle.std.specs.Global.{Vec}
use Rattle.sn_width.specs.declared.ids.NodeId.{NodeId}
use Rattle.lin_term.specs.Terms.{LinearTerm}
use Rattle.path_formula.specs.Formulas.{FormulaTree}
use Rattle.path_formula.specs.declared.formula.Formula.{Formula}
use Rattle.path_formula.specs.View.{view}
use Rattle.net_check.specs.Network.{Network}
use Rattle.sefl_meaning.specs.declared.walk.Decision.{Decision}
use Rattle.sefl_meaning.specs.declared.walk.Decision.TheVariants.{Then, Else, Pass, Broken, Copy}
use Rattle.sefl_meaning.specs.Courses.{Asking, Course, at_if, at_constrain}
use Rattle.sefl_meaning.specs.Routes.{number_of, truth_of}
use Rattle.sefl_meaning.specs.Runs.{Progress}
use Rattle.sefl_meaning.specs.Taken.{decision_at}
use Rattle.sefl_meaning.specs.Trees.{Copies, copies, leave, then_tree}
use Rattle.term_values.specs.TermValues.{terms}
use Rattle.code_frames.specs.declared.frame.Frame.{Frame}
use Rattle.code_frames.specs.declared.frame.Question.{Question}
use Rattle.code_frames.specs.declared.frame.Exit.{Exit as Left}
use Rattle.code_frames.specs.Frames.{asking_of, course_behind, course_left}
use Rattle.sym_state.specs.Symbolic.{Symbolic, decided, polarity, with_decision}
use Rattle.exact_records.specs.Records.{SymStart, SymTree}
use Rattle.exact_records.specs.Points.{Point, copied, copy_at, sided}
use Rattle.path_exec.specs.Location.{point_at}
use Rattle.path_exec.specs.Offers.{IsOffered, copied_by, next_point}
use Rattle.symbolic_engine.specs.declared.stage.Running.{Running}
use Rattle.symbolic_engine.specs.declared.stage.Stage.{Stage}
use Rattle.symbolic_engine.specs.declared.stage.Stage.TheVariants.{Leaving}
use Rattle.symbolic_engine.specs.declared.stage.Wait.{Wait}
use Rattle.symbolic_engine.specs.declared.stage.Wait.TheVariants.{Asked, Forked}
use Rattle.symbolic_engine.specs.Origins.{IsRunOf, entries_seen, location_of, progress_in}
use Rattle.symbolic_engine.specs.Stages.{behind_running, inside_tree, onward_of, side_tree, stage_tree, wait_tree}
use Rattle.symbolic_engine.specs.Turning.{IsAwaited, IsCopyOf, IsNoted, IsStageBehind, copy_of, tree_behind}
use Rattle.symbolic_engine.specs.Seeing.{standing_at, waiting_at}
use Rattle.symbolic_engine.proofs.RunLemmas.{run_copied, run_decided, some_same, tests_decided}

-- ---- decisions

-- a function of an option is there where the option is
there : {A B : Type 0} (f : A → B) (o : Option A) (y : B) → option_map f o ≡ Some y → (x : A) × (o ≡ Some x) × (f x ≡ y)
there f None y e = absurd (cc e)
there f (Some x) y e = (x, refl, cc e)

-- the decision that takes a truth gives it to the formula
taken_so : (asking : Asking) (d : Decision) (truth : Bool) → truth_of asking d ≡ Some truth → (d ≡ decision_at asking truth) × (polarity d ≡ truth)
taken_so at_if Then true e = (refl, refl)
taken_so at_if Then false e = absurd (cc e)
taken_so at_if Else true e = absurd (cc e)
taken_so at_if Else false e = (refl, refl)
taken_so at_if Pass truth e = absurd (cc e)
taken_so at_if Broken truth e = absurd (cc e)
taken_so at_if (Copy number) truth e = absurd (cc e)
taken_so at_constrain Then truth e = absurd (cc e)
taken_so at_constrain Else truth e = absurd (cc e)
taken_so at_constrain Pass true e = (refl, refl)
taken_so at_constrain Pass false e = absurd (cc e)
taken_so at_constrain Broken true e = absurd (cc e)
taken_so at_constrain Broken false e = (refl, refl)
taken_so at_constrain (Copy number) truth e = absurd (cc e)

copy_so : (d : Decision) (n : ℕ) → number_of d ≡ Some n → d ≡ Copy n
copy_so Then n e = absurd (cc e)
copy_so Else n e = absurd (cc e)
copy_so Pass n e = absurd (cc e)
copy_so Broken n e = absurd (cc e)
copy_so (Copy number) n e = cc e

-- ---- copies

module _ (net : Network) (u hops : ℕ) (node : NodeId) (p : Progress LinearTerm) where
  abbrev branches_of : List ℕ → Copies LinearTerm FormulaTree
  branches_of ports = copies (terms u) net (onward_of net u hops) node ports p

  copy_below : (ports : List ℕ) (n : ℕ) (t : SymTree) → copy_at (branches_of ports) n ≡ Some t → n < length ports
  copy_below [] n t e = absurd (cc e)
  copy_below (port ∷ ports) zero t e = omega arith
  copy_below (port ∷ ports) (suc n) t e = let h = copy_below ports n t e in omega (arith, h)

  -- the copy of this number leaves by the port of this number
  pub copy_leaves : (ports : List ℕ) (n : ℕ) → n < length ports
      → copy_at (branches_of ports) n ≡ Some (leave (terms u) net (onward_of net u hops) node (slice_index_or ports n 0) p)
  copy_leaves [] n h = absurd (omega (arith, h))
  copy_leaves (port ∷ ports) zero h = refl
  copy_leaves (port ∷ ports) (suc n) h = copy_leaves ports n (omega (arith, h))

copied_there : (a : Point) (branches : Copies LinearTerm FormulaTree) (o : Option ℕ) (c : Point) → copied_by a branches o ≡ Some c
    → (n : ℕ) × (o ≡ Some n) × ((t : SymTree) × (copy_at branches n ≡ Some t) × (copied a n t ≡ c))
copied_there a branches None c e = absurd (cc e)
copied_there a branches (Some n) c e = (n, refl, there (copied a n) (copy_at branches n) c e)

-- ---- what is offered is awaited

pub awaited : (s : SymStart) (net : Network) (x : Symbolic) (wait : Wait) (d : Decision) → IsOffered (waiting_at s net x wait) d → IsAwaited wait d
awaited s net x (Asked running question test frames) d h =
    let found = there _ (truth_of (asking_of question) d) h.1 h.2 in (found.0, found.1)
awaited s net x (Forked node hops ports) d h =
    let p : Progress LinearTerm = progress_in x h.0 in
    let found = copied_there (point_at h.0 (waiting_at s net x (Forked node hops ports))) (branches_of net x.unknowns hops node p ports.now) (number_of d) h.1 h.2 in
    record { number = found.0; is = found.1; below = copy_below net x.unknowns hops node p ports.now found.0 found.2.0 found.2.1 }

-- ---- the point behind a decision

by_either : (truth : Bool) (side : Bool → SymTree) → (if truth then side true else side false) ≡ side truth
by_either true side = refl
by_either false side = refl

module _ (s : SymStart) (net : Network) (x : Symbolic) (d : Decision) where
  -- the state with a decision's formula is at the side, whatever comes there
  side_point : (asking : Asking) (test formula : Formula) (truth : Bool) (tree : ℕ → SymTree) (t : SymTree) (begun : ℕ)
      → IsRunOf s x → view formula ≡ view test → truth_of asking d ≡ Some truth
      → point_at begun (location_of s (decided x formula d) (λ n. t)) ≡ sided (point_at begun (location_of s x tree)) asking (view test) truth t
  side_point asking test formula truth tree t begun run same takes =
      let so = taken_so asking d truth takes in
      let ds = reverse-append (d ∷ []) x.decisions ∙ ap (λ (e : Decision). reverse x.decisions ++ e ∷ []) so.0 in
      let ts = tests_decided s x formula d run ∙ (λ j. drop (length s.tests) (entries_seen x) ++ (same j, so.1 j) ∷ []) in
      λ i. record { decisions = ds i; places = reverse x.places; tests = ts i; widths = x.condition.widths; tree = t }

  copy_point : (n : ℕ) (tree : ℕ → SymTree) (t : SymTree) (begun : ℕ) → number_of d ≡ Some n
      → point_at begun (location_of s (with_decision x d) (λ m. t)) ≡ copied (point_at begun (location_of s x tree)) n t
  copy_point n tree t begun is =
      let ds = reverse-append (d ∷ []) x.decisions ∙ ap (λ (e : Decision). reverse x.decisions ++ e ∷ []) (copy_so d n is) in
      λ i. record { decisions = ds i; places = reverse x.places; tests = drop (length s.tests) (entries_seen x); widths = x.condition.widths; tree = t }

  -- the state with the decision is where the decision leads, with some tree there
  pub noted_point : (y : Symbolic) (wait : Wait) → IsRunOf s x → IsNoted wait x d y → (begun : ℕ) (c : Point)
      → next_point (point_at begun (waiting_at s net x wait)) d ≡ Some c → (t : SymTree) × (point_at begun (location_of s y (λ n. t)) ≡ c)
  noted_point y (Asked running question test frames) run noted begun c e =
      let wait = Asked running question test frames in
      let found = there _ (truth_of (asking_of question) d) c e in
      let t : SymTree = side_tree net running question (reverse frames.items) found.0 x begun in (
        t,
        ap (λ (z : Symbolic). point_at begun (location_of s z (λ n. t))) noted.2
            ∙ side_point (asking_of question) test noted.0 found.0 (wait_tree net wait x) t begun run noted.1 found.1
            ∙ ap (sided (point_at begun (waiting_at s net x wait)) (asking_of question) (view test) found.0)
            (sym (by_either found.0 (λ b. side_tree net running question (reverse frames.items) b x begun)))
            ∙ found.2,
      )
  noted_point y (Forked node hops ports) run noted begun c e =
      let wait = Forked node hops ports in
      let found = copied_there (point_at begun (waiting_at s net x wait)) (branches_of net x.unknowns hops node (progress_in x begun) ports.now) (number_of d) c e in (
        found.2.0,
        ap (λ (z : Symbolic). point_at begun (location_of s z (λ n. found.2.0))) noted
            ∙ copy_point found.0 (wait_tree net wait x) found.2.0 begun found.1 ∙ found.2.2,
      )

  -- and the stage behind the decision has that tree
  stage_point : (y : Symbolic) (wait : Wait) (stage : Stage) → IsNoted wait x d y → IsStageBehind net wait d stage → (begun : ℕ) (c : Point)
      → next_point (point_at begun (waiting_at s net x wait)) d ≡ Some c → stage_tree net stage y begun ≡ c.tree
  stage_point y (Asked running question test frames) stage noted at begun c e =
      let found = there _ (truth_of (asking_of question) d) c e in
      let z : Symbolic = decided x noted.0 d in
      let side : side_tree net running question (reverse frames.items) found.0 x begun ≡ stage_tree net stage z begun =
      some_same (ap (option_map (λ truth. side_tree net running question (reverse frames.items) truth x begun)) (sym found.1) ∙ at z begun) in
      ap (λ (w : Symbolic). stage_tree net stage w begun) noted.2 ∙ sym side
      ∙ sym (by_either found.0 (λ b. side_tree net running question (reverse frames.items) b x begun)) ∙ ap (λ (a : Point). a.tree) found.2
  stage_point y (Forked node hops ports) stage noted at begun c e =
      let branches = branches_of net x.unknowns hops node (progress_in x begun) ports.now in
      let found = copied_there (point_at begun (waiting_at s net x (Forked node hops ports))) branches (number_of d) c e in
      let z : Symbolic = with_decision x d in
      let side : found.2.0 ≡ stage_tree net stage z begun = some_same (sym found.2.1 ∙ ap (copy_of branches) (sym found.1) ∙ at z begun) in
      ap (λ (w : Symbolic). stage_tree net stage w begun) noted ∙ sym side ∙ ap (λ (a : Point). a.tree) found.2.2

  -- so the stage is where the decision leads
  pub behind_point : (y : Symbolic) (wait : Wait) (stage : Stage) → IsRunOf s x → IsNoted wait x d y → IsStageBehind net wait d stage → (begun : ℕ) (c : Point)
      → next_point (point_at begun (waiting_at s net x wait)) d ≡ Some c → point_at begun (standing_at s net y stage) ≡ c
  behind_point y wait stage run noted at begun c e =
      let led = noted_point y wait run noted begun c e in
      let tree : stage_tree net stage y begun ≡ led.0 = stage_point y wait stage noted at begun c e ∙ sym (ap (λ (a : Point). a.tree) led.1) in
      (λ i. point_at begun (location_of s y (λ n. tree i))) ∙ led.1

-- the state behind a decision is of the run
pub run_noted : (s : SymStart) (wait : Wait) (x : Symbolic) (d : Decision) (y : Symbolic) → IsRunOf s x → IsNoted wait x d y → IsRunOf s y
run_noted s (Asked running question test frames) x d y run noted = subst (IsRunOf s) (sym noted.2) (run_decided s x noted.0 d run)
run_noted s (Forked node hops ports) x d y run noted = subst (IsRunOf s) (sym noted) (run_copied s x d run)

-- the truth that an awaited decision gives is the one that it takes
pub held_so : (asking : Asking) (d : Decision) (truth : Bool) → truth_of asking d ≡ Some truth → polarity d ≡ truth
held_so asking d truth e = (taken_so asking d truth e).1

module _ (net : Network) (running : Running) (question : Question) (test : Formula) (x : Symbolic) (begun : ℕ) (d : Decision) where
  -- what an answer leaves is the side that the decision takes
  pub answered : (held : Vec Frame) (truth holds : Bool) (mid new : List Frame) (left : Option Left)
      → truth_of (asking_of question) d ≡ Some truth → holds ≡ polarity d → mid ≡ reverse held.items
      → course_left (terms x.unknowns) net running.node left new (progress_in x begun) ≡ course_behind (terms x.unknowns) net running.node question holds mid (progress_in x begun)
      → tree_behind net (Asked running question test held) x begun d ≡ Some (inside_tree net running left new x begun)
  answered held truth holds mid new left takes is frames course =
      let so : holds ≡ truth = is ∙ held_so (asking_of question) d truth takes in
      ap (option_map (λ truth. side_tree net running question (reverse held.items) truth x begun)) takes
      ∙ ap (λ (c : Course LinearTerm FormulaTree). Some (then_tree c (behind_running net x.unknowns running)))
      ((λ i. course_behind (terms x.unknowns) net running.node question (sym so i) (sym frames i) (progress_in x begun)) ∙ sym course)

-- an awaited copy is one of those that there are
within_copies : (count n : ℕ) → IsCopyOf count (Copy n) → n < count
within_copies count n h = let e : n ≡ h.number = cc h.is in omega (arith, e, h.below)

-- a copy leaves by the port of its number
pub leaves_by : (net : Network) (wait : Wait) (d : Decision) (node : NodeId) (hops n : ℕ) (ports : Bor (List ℕ)) → IsAwaited wait d
    → wait ≡ Forked node hops ports → d ≡ Copy n → IsStageBehind net wait d (Leaving node (slice_index_or ports.now n 0) hops)
leaves_by net wait d node hops n ports awaits is copy =
    let stage : Stage = Leaving node (slice_index_or ports.now n 0) hops in
    let within : n < length ports.now =
    within_copies (length ports.now) n (subst (IsCopyOf (length ports.now)) copy (subst (λ (w : Wait). IsAwaited w d) is awaits)) in
    subst (λ (w : Wait). IsStageBehind net w d stage) (sym is)
    (subst (λ (e : Decision). IsStageBehind net (Forked node hops ports) e stage) (sym copy)
    (λ x begun. copy_leaves net x.unknowns hops node (progress_in x begun) ports.now n within))
