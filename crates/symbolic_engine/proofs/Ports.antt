-- Ports that a run arrives at, and what comes behind their code.
use Rattle.std.proofs.Common.{◌≡◌, ℕ, suc, ◌+◌, List, [], ◌∷◌, ◌++◌, reverse, length, Option, None, Some, refl, sym, ap, subst, ◌∙◌, arith}
use Rattle.sn_width.specs.declared.ids.NodeId.{NodeId}
use Rattle.lin_term.specs.Terms.{LinearTerm}
use Rattle.path_formula.specs.Formulas.{FormulaTree}
use Rattle.path_formula.specs.declared.formula.Formula.{Formula}
use Rattle.path_formula.specs.View.{view}
use Rattle.sefl_syntax.specs.declared.net.Side.{Side}
use Rattle.sefl_syntax.specs.declared.net.Side.TheVariants.{Inward, Outward}
use Rattle.net_check.specs.Network.{Network}
use Rattle.sefl_meaning.specs.declared.walk.End.TheVariants.{Stopped, Failed, Cut as CutShort}
use Rattle.sefl_meaning.specs.declared.walk.Failure.{Failure}
use Rattle.sefl_meaning.specs.Network.{link_of}
use Rattle.sefl_meaning.specs.Values.{Values}
use Rattle.sefl_meaning.specs.Walks.{place_at}
use Rattle.sefl_meaning.specs.Runs.{Progress, off, go, forked, failed}
use Rattle.sefl_meaning.specs.Courses.{Course, ends, asks, after}
use Rattle.sefl_meaning.specs.Trees.{arrives, copies, leave, over, passed, crossed, port_course, then_tree}
use Rattle.term_values.specs.TermValues.{terms}
use Rattle.cell_values.specs.Hops.{AreLeft}
use Rattle.code_frames.specs.declared.frame.Frame.{Frame}
use Rattle.code_frames.specs.declared.frame.Move.{Move}
use Rattle.code_frames.specs.Frames as code
use Rattle.code_frames.specs.Frames.{course_after, course_frames, course_left, from, of_frame}
use Rattle.sym_state.specs.Symbolic.{Rest, Symbolic, choices_of, rest_of, with_place}
use Rattle.exact_records.specs.Records.{SymStart, SymTree}
use Rattle.path_exec.specs.declared.engine.Moved.{Moved}
use Rattle.path_exec.specs.Location.{point_at}
use Rattle.path_exec.specs.Moves.{IsMove, Moves, Reaches}
use Rattle.path_exec.specs.Offers.{copy_count}
use Rattle.path_exec.specs.Views.{Views}
use Rattle.symbolic_engine.specs.declared.stage.Running.{Running}
use Rattle.symbolic_engine.specs.declared.stage.Stage.{Stage}
use Rattle.symbolic_engine.specs.Origins.{IsRunOf, location_of, progress_in}
use Rattle.symbolic_engine.specs.Stages.{behind_running, behind_side, from_port, inside_tree, onward_of, stage_tree}
use Rattle.symbolic_engine.specs.Seeing.{standing_at}
use Rattle.symbolic_engine.proofs.Growing.{Grown, grown_at_move}
use Rattle.symbolic_engine.proofs.RunLemmas.{move_from, reaches_here, tests_same, wider_by}

-- ---- the code of a port

-- nothing behind it
alone : {V F : Type 0} (c : Course V F) → after c (λ p. ends p off) ≡ c
alone (ends p off) = refl
alone (ends p (go port)) = refl
alone (ends p (forked ports)) = refl
alone (ends p (failed failure site)) = refl
alone (asks asking p test held broken) = λ j. asks asking p test (alone held j) (alone broken j)

-- one frame alone
pub one_frame : (o : Values LinearTerm FormulaTree) (net : Network) (node : NodeId) (old new : List Frame) (frame : Frame) (p : Progress LinearTerm)
    → old ≡ [] → new ≡ old ++ frame ∷ [] → course_frames o net node (reverse new) p ≡ of_frame o net node frame p
one_frame o net node old new frame p empty is =
    ap (λ (l : List Frame). course_frames o net node (reverse l) p) (is ∙ ap (λ (l : List Frame). l ++ frame ∷ []) empty)
    ∙ alone (of_frame o net node frame p)

-- ---- arrivals

module _ (net : Network) (u : ℕ) (node : NodeId) (port : ℕ) (p : Progress LinearTerm) where
  -- over a port, with `rest` hops left behind its code
  pub goes_in : (frames : List Frame) (side : Side) (hops rest : ℕ) → AreLeft side hops (Some rest)
      → course_frames (terms u) net node frames p ≡ port_course (terms u) net node side port p
      → from_port net u side hops node port p
      ≡ arrives (place_at node side port) p (then_tree (course_left (terms u) net node None frames p) (behind_side net u node port rest side))
  goes_in frames Inward hops rest h begins =
      ap (λ (n : ℕ). onward_of net u n node port p) h
      ∙ ap (λ (c : Course LinearTerm FormulaTree). arrives (place_at node Inward port) p (then_tree c (passed (terms u) net (onward_of net u rest) node))) (sym begins)
  goes_in frames Outward hops rest h begins =
      ap (λ (n : ℕ). leave (terms u) net (onward_of net u n) node port p) (sym h)
      ∙ ap (λ (c : Course LinearTerm FormulaTree). arrives (place_at node Outward port) p (then_tree c (crossed (terms u) net (onward_of net u rest) (link_of net node port))))
      (sym begins)

  -- its code does not run
  pub goes_no_further : (side : Side) (hops : ℕ) → AreLeft side hops None
      → from_port net u side hops node port p ≡ arrives (place_at node side port) p (over p CutShort)
  goes_no_further Inward hops h = ap (λ (n : ℕ). onward_of net u n node port p) h
  goes_no_further Outward hops h = absurd h

-- a state that arrived at one port more
pub arrives_at : (s : SymStart) (net : Network) (x y : Symbolic) (node : NodeId) (side : Side) (port : ℕ) (tree : ℕ → SymTree) (stage : Stage)
    → IsRunOf s x → y ≡ with_place x (place_at node side port)
    → ((n : ℕ) → tree n ≡ arrives (place_at node side port) (progress_in x n) (stage_tree net stage (with_place x (place_at node side port)) n))
    → (begun : ℕ) → Reaches s (point_at begun (location_of s x tree)) (point_at begun (standing_at s net y stage)) y.carried
arrives_at s net x y node side port tree stage run is trees begun =
    subst (λ (z : Symbolic). Reaches s (point_at begun (location_of s x tree)) (point_at begun (standing_at s net z stage)) z.carried) (sym is)
    (reaches_here s x (place_at node side port) tree (stage_tree net stage (with_place x (place_at node side port))) begun run (trees begun))

-- ---- copies

-- there is a copy for each port
pub count_of_copies : (net : Network) (u hops : ℕ) (node : NodeId) (ports : List ℕ) (p : Progress LinearTerm)
    → copy_count (copies (terms u) net (onward_of net u hops) node ports p) ≡ length ports
count_of_copies net u hops node [] p = refl
count_of_copies net u hops node (port ∷ ports) p = ap suc (count_of_copies net u hops node ports p)

-- ---- the run of code

-- what a move says, and what is behind the port
abbrev pub move_tree : Network → Running → Move Formula → List Frame → Symbolic → ℕ → SymTree
move_tree net running move frames x begun =
    then_tree (course_after (terms x.unknowns) net running.node view move frames (progress_in x begun)) (behind_running net x.unknowns running)

module _ {P O N D T : Type 0} (v : Views P O N D T) (net : Network) (running : Running) (x y : Symbolic) (old new : List Frame) (move : Move Formula)
    (before after : ℕ) where
  -- the run came to a move, and from there the engine moves on: so it moves on from where it was
  pub moves_on : rest_of y ≡ rest_of x
      → code.GoesOn before after (from (course_frames (terms x.unknowns) net running.node old) x.carried (choices_of x))
      (from (course_after (terms x.unknowns) net running.node view move new) y.carried (choices_of y))
      → IsRunOf v.start x → (moved : Moved P O N)
      → ((begun : ℕ) → IsMove v (point_at begun (location_of v.start y (move_tree net running move new y))) begun moved)
      → Moves v (location_of v.start x (inside_tree net running None old x)) before after moved
  moves_on same on run moved moves =
      let unknowns : y.unknowns ≡ x.unknowns = ap (λ (r : Rest). r.unknowns) same in
      record {
        raised = on.taken;
        counted = on.counted;
        goes = λ begun.
            let count = begun + on.taken in
            let grown : Grown (choices_of x) (choices_of y) =
            grown_at_move (terms x.unknowns) net running.node view move old new (progress_in x begun) (progress_in y count) (on.same begun) in
            let widths : Grown x.condition.widths y.condition.widths = wider_by v.start x y same run grown in
            let tree : move_tree net running move new y count ≡ inside_tree net running None old x begun =
            ap (λ (u : ℕ). then_tree (course_after (terms u) net running.node view move new (progress_in y count)) (behind_running net u running)) unknowns
            ∙ ap (λ (c : Course LinearTerm FormulaTree). then_tree c (behind_running net x.unknowns running)) (on.same begun) in
            move_from v (point_at begun (location_of v.start x (inside_tree net running None old x))) (point_at count (location_of v.start y (move_tree net running move new y))) count moved
            (ap (λ (r : Rest). reverse r.decisions) same) (tests_same v.start x y same) (ap (λ (r : Rest). reverse r.places) same) widths tree (moves count);
      }

module _ {P O N D T : Type 0} (v : Views P O N D T) (net : Network) (running : Running) where
  -- the same, where the state was taken out of the run
  pub moves_still : (x taken y : Symbolic) (old new : List Frame) (move : Move Formula) (before after : ℕ) → taken ≡ x → rest_of y ≡ rest_of taken
      → code.GoesOn before after (from (course_frames (terms taken.unknowns) net running.node old) taken.carried (choices_of taken))
      (from (course_after (terms taken.unknowns) net running.node view move new) y.carried (choices_of y))
      → IsRunOf v.start x → (moved : Moved P O N)
      → ((begun : ℕ) → IsMove v (point_at begun (location_of v.start y (move_tree net running move new y))) begun moved)
      → Moves v (location_of v.start x (inside_tree net running None old x)) before after moved
  moves_still x taken y old new move before after is same on run moved moves =
      moves_on v net running x y old new move before after (same ∙ ap rest_of is)
      (subst (λ (z : Symbolic). code.GoesOn before after (from (course_frames (terms z.unknowns) net running.node old) z.carried (choices_of z))
      (from (course_after (terms z.unknowns) net running.node view move new) y.carried (choices_of y))) is on)
      run moved moves

-- ---- exits

-- the same tree in another form
pub other_tree : {P O N D T : Type 0} (v : Views P O N D T) (s : SymStart) (x : Symbolic) (tree other : SymTree) (begun count : ℕ) (moved : Moved P O N)
    → tree ≡ other → IsMove v (point_at begun (location_of s x (λ n. other))) count moved → IsMove v (point_at begun (location_of s x (λ n. tree))) count moved
other_tree v s x tree other begun count moved e h =
    subst (λ (t : SymTree). IsMove v (point_at begun (location_of s x (λ n. t))) count moved) (sym e) h

module _ (net : Network) (u hops : ℕ) (p : Progress LinearTerm) where
  pub crossed_go : (link : Option (NodeId × ℕ)) (port : ℕ) → crossed (terms u) net (onward_of net u hops) link (go port) p ≡ over p Stopped
  crossed_go None port = refl
  crossed_go (Some to) port = refl

  pub crossed_forked : (link : Option (NodeId × ℕ)) (ports : List ℕ) → crossed (terms u) net (onward_of net u hops) link (forked ports) p ≡ over p Stopped
  crossed_forked None ports = refl
  crossed_forked (Some to) ports = refl

  pub crossed_failed : (link : Option (NodeId × ℕ)) (failure : Failure) (site : ℕ)
      → crossed (terms u) net (onward_of net u hops) link (failed failure site) p ≡ over p (Failed failure (record { 0 = site }))
  crossed_failed None failure site = refl
  crossed_failed (Some to) failure site = refl

-- no instruction began
pub at_once : {P O N D T : Type 0} (v : Views P O N D T) (s : SymStart) (x : Symbolic) (tree other : ℕ → SymTree) (steps : ℕ) (moved : Moved P O N)
    → ((begun : ℕ) → tree begun ≡ other begun) → ((begun : ℕ) → IsMove v (point_at begun (location_of s x other)) begun moved)
    → Moves v (location_of s x tree) steps steps moved
at_once v s x tree other steps moved same moves = record {
  raised = 0;
  counted = omega arith;
  goes = λ begun.
      let none : begun ≡ begun + 0 = omega arith in
      other_tree v s x (tree begun) (other begun) begun (begun + 0) moved (same begun) (subst (λ (n : ℕ). IsMove v (point_at begun (location_of s x other)) n moved) none (moves begun));
}
