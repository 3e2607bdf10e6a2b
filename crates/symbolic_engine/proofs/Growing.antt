-- Choices are only added on the way through code.
use Rattle.std.proofs.Common.{◌≡◌, ℕ, suc, ◌+◌, List, [], ◌∷◌, ◌++◌, Result, Ok, Err, refl, sym, ap, subst, ◌∙◌, append_assoc}
use Rattle.std.proofs.lemmas.List.{append-nil}
use Rattle.sn_width.specs.declared.faults.LayoutFault.{LayoutFault}
use Rattle.sn_width.specs.declared.ids.NodeId.{NodeId}
use Rattle.sefl_syntax.specs.Trees.{InstrTree, CodeTree, allocate, deallocate, assign, assign_any, create_tag, set_tag, destroy_tag, constrain, fail, branch, each, forward, fork, block, no_op, no_code, instr_and}
use Rattle.sefl_syntax.specs.Views.{code_tree}
use Rattle.sefl_meaning.specs.declared.walk.Failure.TheVariants.{Constraint}
use Rattle.sefl_meaning.specs.Values.{Values}
use Rattle.sefl_meaning.specs.Network.{Network, code_size, inner_size}
use Rattle.sefl_meaning.specs.Carried.{Carried, Scene, Key}
use Rattle.sefl_meaning.specs.Terms.{truth_in}
use Rattle.sefl_meaning.specs.Steps.{allocated, deallocated, evaluated, tag_created, tag_set, tag_destroyed}
use Rattle.sefl_meaning.specs.Runs.{Progress, off, go, forked, failed, in_iteration, iterations_of}
use Rattle.sefl_meaning.specs.Courses.{Course, ends, asks, at_if, at_constrain, after, begin, chosen, course_code, course_in, course_iterations, step, unless_fault, with_state}
use Rattle.code_frames.specs.declared.frame.Frame.{Frame}
use Rattle.code_frames.specs.declared.frame.Frame.TheVariants.{Code, Iterations}
use Rattle.code_frames.specs.declared.frame.Move.{Move}
use Rattle.code_frames.specs.declared.frame.Move.TheVariants.{Ended, Asked}
use Rattle.code_frames.specs.Frames.{course_after, course_frames, of_frame, scene_in}

-- the second list is the first with more behind it
abbrev pub Grown : List ℕ → List ℕ → Type 0
Grown old new = (more : List ℕ) × (new ≡ old ++ more)

pub grown_none : (old : List ℕ) → Grown old old
grown_none old = ([], sym (append-nil old))

pub grown_then : (a b c : List ℕ) → Grown a b → Grown b c → Grown a c
grown_then a b c first second =
    (first.0 ++ second.0, second.1 ∙ ap (λ l. l ++ second.0) first.1 ∙ append_assoc a first.0 second.0)

module _ {V F : Type 0} where
  -- so it is at each test and each end
  abbrev pub Grows : List ℕ → Course V F → Type 0
  Grows old (ends p exit) = Grown old p.choices
  Grows old (asks asking p test held broken) = Grown old p.choices × Grows old held × Grows old broken

  -- what was carried and counted at the first test, or at the end
  abbrev pub head_of : Course V F → Progress V
  head_of (ends p exit) = p
  head_of (asks asking p test held broken) = p

  grows_head : (old : List ℕ) (c : Course V F) → Grows old c → Grown old (head_of c).choices
  grows_head old (ends p exit) h = h
  grows_head old (asks asking p test held broken) h = h.0

  grows_on : (a b : List ℕ) (c : Course V F) → Grown a b → Grows b c → Grows a c
  grows_on a b (ends p exit) e h = grown_then a b p.choices e h
  grows_on a b (asks asking p test held broken) e h = (grown_then a b p.choices e h.0, grows_on a b held e h.1, grows_on a b broken e h.2)

  grows_after : (old : List ℕ) (c : Course V F) (next : Progress V → Course V F) → Grows old c
      → ((p : Progress V) → Grows p.choices (next p)) → Grows old (after c next)
  grows_after old (ends p off) next h k = grows_on old p.choices (next p) h (k p)
  grows_after old (ends p (go port)) next h k = h
  grows_after old (ends p (forked ports)) next h k = h
  grows_after old (ends p (failed failure site)) next h k = h
  grows_after old (asks asking p test held broken) next h k = (h.0, grows_after old held next h.1 k, grows_after old broken next h.2 k)

  grows_iterations : (body : Key → Progress V → Course V F) → ((key : Key) (p : Progress V) → Grows p.choices (body key p))
      → (keys : List Key) (p : Progress V) → Grows p.choices (course_iterations body keys p)
  grows_iterations body h [] p = grown_none p.choices
  grows_iterations body h (key ∷ keys) p = grows_after p.choices (body key p) (course_iterations body keys) (h key p) (grows_iterations body h keys)

  grows_unless : {A : Type 0} (site : ℕ) (r : Result A LayoutFault) (p : Progress V) (next : A → Course V F)
      → ((x : A) → Grows p.choices (next x)) → Grows p.choices (unless_fault site r p next)
  grows_unless site (Ok x) p next h = h x
  grows_unless site (Err fault) p next h = grown_none p.choices

module _ {V F : Type 0} (o : Values V F) where
  grows_step : (site : ℕ) (r : Result (Carried V) LayoutFault) (p : Progress V) → Grows {V = V} {F = F} p.choices (step site r p)
  grows_step site r p = grows_unless site r p (λ next. ends (with_state p next) off) (λ next. grown_none p.choices)

  grows_choice : (site width : ℕ) (r : Result (Carried V) LayoutFault) (p : Progress V)
      → Grows {V = V} {F = F} p.choices (unless_fault site r p (λ next. ends (chosen p width next) off))
  grows_choice site width r p = grows_unless site r p (λ next. ends (chosen p width next) off) (λ next. (width ∷ [], refl))

  mutual
    grows_in : (i : InstrTree) (at : Scene) (site : ℕ) (p : Progress V) → Grows p.choices (course_in o at site i p)
    grows_in (allocate target) at site p = grows_step site (allocated at target p.state) p
    grows_in (deallocate target) at site p = grows_step site (deallocated at target p.state) p
    grows_in (assign target value) at site p = grows_step site (evaluated o at target value p.state) p
    grows_in (assign_any target) at site p = grows_choice site _ _ p
    grows_in (create_tag name addr) at site p = grows_step site (tag_created at name addr p.state) p
    grows_in (set_tag name addr) at site p = grows_step site (tag_set at name addr p.state) p
    grows_in (destroy_tag name) at site p = grows_step site (tag_destroyed at name p.state) p
    grows_in (constrain test) at site p =
        grows_unless site (truth_in o at test p.state) p (λ f. asks at_constrain p f (ends p off) (ends p (failed Constraint site)))
        (λ f. (grown_none p.choices, grown_none p.choices, grown_none p.choices))
    grows_in (fail text) at site p = grown_none p.choices
    grows_in (branch test first other) at site p =
        grows_unless site (truth_in o at test p.state) p
        (λ f. asks at_if p f (course_code o at (suc site) first p) (course_code o at (suc site + code_size first) other p))
        (λ f. (grown_none p.choices, grows_code first at (suc site) p, grows_code other at (suc site + code_size first) p))
    grows_in (each var pattern body) at site p =
        grows_iterations (λ key q. course_code o (in_iteration at var key) (suc site) body q) (λ key q. grows_code body (in_iteration at var key) (suc site) q)
        (iterations_of at pattern p.state) p
    grows_in (forward port) at site p = grown_none p.choices
    grows_in (fork ports) at site p = grown_none p.choices
    grows_in (block body) at site p = grows_code body at (suc site) p
    grows_in no_op at site p = grown_none p.choices

    grows_code : (code : CodeTree) (at : Scene) (site : ℕ) (p : Progress V) → Grows p.choices (course_code o at site code p)
    grows_code no_code at site p = grown_none p.choices
    grows_code (instr_and i is) at site p =
        grows_after p.choices (course_in o at site i (begin p)) (course_code o at (suc site + inner_size i) is) (grows_in i at site (begin p))
        (λ q. grows_code is at (suc site + inner_size i) q)

  grows_frame : (net : Network) (node : NodeId) (frame : Frame) (p : Progress V) → Grows p.choices (of_frame o net node frame p)
  grows_frame net node (Code iterations site code) p = grows_code (code_tree code.now) (scene_in net node iterations) site p
  grows_frame net node (Iterations iterations var site body keys) p =
      grows_iterations (λ key q. course_code o (in_iteration (scene_in net node iterations) var.now key) site (code_tree body.now) q)
      (λ key q. grows_code (code_tree body.now) (in_iteration (scene_in net node iterations) var.now key) site q) keys p

  grows_frames : (net : Network) (node : NodeId) (frames : List Frame) (p : Progress V) → Grows p.choices (course_frames o net node frames p)
  grows_frames net node [] p = grown_none p.choices
  grows_frames net node (frame ∷ frames) p =
      grows_after p.choices (of_frame o net node frame p) (course_frames o net node frames) (grows_frame net node frame p) (grows_frames net node frames)

  head_of_move : {T : Type 0} (net : Network) (node : NodeId) (truth : T → F) (move : Move T) (frames : List Frame) (p : Progress V)
      → head_of (course_after o net node truth move frames p) ≡ p
  head_of_move net node truth (Ended exit) frames p = refl
  head_of_move net node truth (Asked question test) frames p = refl

  -- where a run comes to a move, choices were only added
  pub grown_at_move : {T : Type 0} (net : Network) (node : NodeId) (truth : T → F) (move : Move T) (old new : List Frame) (p q : Progress V)
      → course_after o net node truth move new q ≡ course_frames o net node old p → Grown p.choices q.choices
  grown_at_move net node truth move old new p q same =
      subst (λ (r : Progress V). Grown p.choices r.choices) (head_of_move net node truth move new q)
      (grows_head p.choices (course_after o net node truth move new q) (subst (Grows p.choices) (sym same) (grows_frames net node old p)))
