-- What was decided, and the way through what is left.
use Rattle.std.proofs.Common.{◌≡◌, ℕ, ◌+◌, Bool, true, false, if◌then◌else◌, List, [], ◌∷◌, ◌++◌, Option, Some, reverse, refl, sym, subst, ap, ◌∙◌, append_assoc}
use Rattle.std.proofs.lemmas.List.{append-nil}
use Rattle.sn_width.specs.declared.ids.NodeId.{NodeId}
use Rattle.sefl_syntax.specs.Trees.{CodeTree}
use Rattle.sefl_meaning.specs.declared.walk.Decision.{Decision}
use Rattle.sefl_meaning.specs.Network.{Network}
use Rattle.sefl_meaning.specs.Values.{Values, numbers}
use Rattle.sefl_meaning.specs.Carried.{Carried, scene_at}
use Rattle.sefl_meaning.specs.Runs.{Progress, Ran, ran, noting, off, go, forked, failed, run_code}
use Rattle.sefl_meaning.specs.Runs as runs
use Rattle.sefl_meaning.specs.Courses.{Course, ends, asks, after, course_code}
use Rattle.sefl_meaning.specs.Taken.{decision_at, taken}
use Rattle.code_frames.specs.declared.frame.Exit.{Exit}
use Rattle.code_frames.specs.declared.frame.Frame.{Frame}
use Rattle.code_frames.specs.declared.frame.Question.{Question}
use Rattle.code_frames.specs.declared.frame.Move.{Move}
use Rattle.code_frames.specs.declared.frame.Move.TheVariants.{Ended, Asked}
use Rattle.code_frames.specs.Frames.{GoesOn, Part, asking_of, course_after, course_behind, course_frames, course_left, exit_of, from, of_code, of_frame, progress_at}

-- nothing behind it
alone : {V F : Type 0} (c : Course V F) → after c (λ p. ends p off) ≡ c
alone (ends p off) = refl
alone (ends p (go port)) = refl
alone (ends p (forked ports)) = refl
alone (ends p (failed failure site)) = refl
alone (asks asking p test held broken) = λ j. asks asking p test (alone held j) (alone broken j)

noted : (ds more : List Decision) (r : Ran) → noting ds (noting more r) ≡ noting (ds ++ more) r
noted ds more r = λ i. record r { decisions = sym (append_assoc ds more r.decisions) i }

plain : (ds : List Decision) (p : Progress ℕ) (exit : runs.Exit) → record { decisions = ds; progress = p; exit = exit } ≡ noting ds (ran exit p)
plain ds p exit = λ i. record { decisions = sym (append-nil ds) i; progress = p; exit = exit }

-- with some number of instructions begun, the way through a part, behind these decisions, is the whole
abbrev pub Way : List Decision → Part ℕ Bool → Carried ℕ → List ℕ → Ran → Type 0
Way ds part s choices whole = (begun : ℕ) × (noting ds (taken (part (progress_at s choices begun))) ≡ whole)

-- the run is the whole
abbrev pub EndsAs : List Decision → Carried ℕ → List ℕ → Exit → Ran → Type 0
EndsAs ds s choices exit whole =
    (begun : ℕ) × (record { decisions = ds; progress = progress_at s choices begun; exit = exit_of exit } ≡ whole)

module _ (o : Values ℕ Bool) (net : Network) (node : NodeId) where
  abbrev pub at_move : Move Bool → List Frame → Part ℕ Bool
  at_move move frames = course_after o net node (λ (t : Bool). t) move frames

  -- up to an end or a question
  pub stepped : (cur : Values ℕ Bool) (ds new : List Decision) (move : Move Bool) (old left : List Frame) (s t : Carried ℕ) (k l : List ℕ) (n m : ℕ) (whole : Ran)
      → cur ≡ o → new ≡ ds
      → GoesOn n m (from (course_frames cur net node old) s k) (from (course_after cur net node (λ (t : Bool). t) move left) t l)
      → Way ds (course_frames o net node old) s k whole → Way new (at_move move left) t l whole
  stepped cur ds new move old left s t k l n m whole kept same on way =
      let e : at_move move left (progress_at t l (way.0 + on.taken)) ≡ course_frames o net node old (progress_at s k way.0) =
      subst (λ (x : Values ℕ Bool). course_after x net node (λ (t : Bool). t) move left (progress_at t l (way.0 + on.taken)) ≡ course_frames x net node old (progress_at s k way.0)) kept (on.same way.0) in
      (way.0 + on.taken, (λ i. noting (same i) (taken (e i))) ∙ way.1)

  -- at an end
  pub ended : (ds : List Decision) (exit : Exit) (frames : List Frame) (s : Carried ℕ) (k : List ℕ) (whole : Ran)
      → Way ds (at_move (Ended exit) frames) s k whole → EndsAs ds s k exit whole
  ended ds exit frames s k whole way = (way.0, plain ds (progress_at s k way.0) (exit_of exit) ∙ way.1)

  by_truth : (question : Question) (test : Bool) (frames : List Frame) (p : Progress ℕ)
      → (if test then taken (course_behind o net node question true frames p) else taken (course_behind o net node question false frames p))
      ≡ taken (course_behind o net node question test frames p)
  by_truth question true frames p = refl
  by_truth question false frames p = refl

  -- at an answer
  pub answered : (ds new : List Decision) (question : Question) (test : Bool) (frames left : List Frame) (found : Option Exit) (s : Carried ℕ) (k : List ℕ) (whole : Ran)
      → new ≡ ds ++ decision_at (asking_of question) test ∷ []
      → ((p : Progress ℕ) → course_left o net node found left p ≡ course_behind o net node question test frames p)
      → Way ds (at_move (Asked question test) frames) s k whole → Way new (course_left o net node found left) s k whole
  answered ds new question test frames left found s k whole n c way =
      let d : List Decision = decision_at (asking_of question) test ∷ [] in
      let p : Progress ℕ = progress_at s k way.0 in (
        way.0,
        (λ i. noting (n i) (taken (c p i)))
            ∙ sym (noted ds d (taken (course_behind o net node question test frames p)))
            ∙ ap (λ r. noting ds (noting d r)) (sym (by_truth question test frames p))
            ∙ way.1,
      )

  -- up to a question, and at its answer
  pub asked : (cur : Values ℕ Bool) (ds now new : List Decision) (move : Move Bool) (question : Question) (test : Bool) (found : Option Exit) (old mid left : List Frame) (s t : Carried ℕ) (k l : List ℕ) (n m : ℕ) (whole : Ran)
      → cur ≡ o → now ≡ ds
      → GoesOn n m (from (course_frames cur net node old) s k) (from (course_after cur net node (λ (t : Bool). t) move mid) t l)
      → Way ds (course_frames o net node old) s k whole
      → move ≡ Asked question test → new ≡ now ++ decision_at (asking_of question) test ∷ []
      → ((p : Progress ℕ) → course_left o net node found left p ≡ course_behind o net node question test mid p)
      → Way new (course_left o net node found left) t l whole
  asked cur ds now new move question test found old mid left s t k l n m whole kept same on way is notes c =
      answered now new question test mid left found t l whole notes c
      (subst (λ (x : Move Bool). Way now (at_move x mid) t l whole) is (stepped cur ds now move old mid s t k l n m whole kept same on way))

  -- where the answer ends it
  pub left_ended : (ds : List Decision) (exit : Exit) (frames : List Frame) (s : Carried ℕ) (k : List ℕ) (whole : Ran)
      → Way ds (course_left o net node (Some exit) frames) s k whole → EndsAs ds s k exit whole
  left_ended ds exit frames s k whole way = (way.0, plain ds (progress_at s k way.0) (exit_of exit) ∙ way.1)

-- before the first instruction
pub begun : (v : List ℕ) (u : ℕ) (net : Network) (node : NodeId) → ((site : ℕ) (code : CodeTree) (p : Progress ℕ) → taken (course_code (numbers v u) (scene_at net node) site code p) ≡ run_code v u (scene_at net node) site code p)
    → (old new : List Frame) (frame : Frame) (site : ℕ) (code : CodeTree) (ds : List Decision) (s : Carried ℕ) (k : List ℕ)
    → old ≡ [] → new ≡ old ++ frame ∷ [] → ((p : Progress ℕ) → of_frame (numbers v u) net node frame p ≡ of_code (numbers v u) net node [] site code p)
    → Way ds (course_frames (numbers v u) net node (reverse new)) s k (noting ds (run_code v u (scene_at net node) site code (progress_at s k 0)))
begun v u net node ways old new frame site code ds s k empty is of =
    let o : Values ℕ Bool = numbers v u in
    let p : Progress ℕ = progress_at s k 0 in (
      0,
      ap (λ c. noting ds (taken c))
          (ap (λ (l : List Frame). course_frames o net node (reverse l) p) (is ∙ ap (λ (l : List Frame). l ++ frame ∷ []) empty)
          ∙ alone (of_frame o net node frame p)
          ∙ of p)
          ∙ ap (noting ds) (ways site code p),
    )
