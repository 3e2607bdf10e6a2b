-- Frames of code that is still to run.
use Rattle.std.proofs.Common.{◌≡◌, ℕ, suc, ◌+◌, List, [], ◌∷◌, ◌++◌, reverse, Option, sym, ap, ◌∙◌, arith, subst}
use Rattle.std.proofs.lemmas.List.{reverse-append}
use Rattle.sn_width.specs.declared.ids.NodeId.{NodeId}
use Rattle.sn_width.specs.declared.ids.NameId.{NameId}
use Rattle.sefl_syntax.specs.Trees.{CodeTree}
use Rattle.sefl_syntax.specs.Views.{instr_tree, code_tree}
use Rattle.sefl_syntax.specs.declared.instr.Instr.{Instr}
use Rattle.net_check.specs.Places.{inner_size, instr_size}
use Rattle.sefl_meaning.specs.declared.walk.Iteration.{Iteration}
use Rattle.sefl_meaning.specs.Network.{Network}
use Rattle.sefl_meaning.specs.Values.{Values}
use Rattle.sefl_meaning.specs.Carried.{Carried, Scene, Key}
use Rattle.sefl_meaning.specs.Courses.{Progress, Course, after, begin, course_in, course_code}
use Rattle.code_frames.specs.declared.frame.Frame.{Frame}
use Rattle.code_frames.specs.declared.frame.Move.{Move}
use Rattle.code_frames.specs.Doing.{course_on}
use Rattle.code_frames.specs.Frames.{GoesOn, Part, from, of_code, of_iterations, of_frame, course_frames, scene_in}
use Rattle.code_frames.proofs.Going.{both}

-- the law that courses associate
abbrev pub Associates : Type 0 → Type 0 → Type 0
Associates V F = (c : Course V F) (first second : Progress V → Course V F) → after (after c first) second ≡ after c (λ p. after (first p) second)

module _ {V F : Type 0} (o : Values V F) (net : Network) (node : NodeId) where
  -- these frames run this part first, and then those
  abbrev pub RunsBefore : Part V F → List Frame → List Frame → Type 0
  RunsBefore part old new = (p : Progress V) → course_frames o net node new p ≡ after (part p) (course_frames o net node old)

  -- a frame that is put on the others
  pub put : (old new : List Frame) (frame : Frame) → new ≡ old ++ frame ∷ [] → RunsBefore (of_frame o net node frame) (reverse old) (reverse new)
  put old new frame is p = ap (λ fs. course_frames o net node fs p) (ap reverse is ∙ reverse-append old (frame ∷ []))

  -- an instruction, and then the others of its code
  pub code_taken : Associates V F → (iterations kept : List Iteration) (site behind : ℕ) (instr : Instr) (rest code : List Instr) (old new : List Frame) (p : Progress V)
      → code ≡ instr ∷ rest → kept ≡ iterations → behind ≡ site + instr_size (instr_tree instr)
      → RunsBefore (of_code o net node kept behind (code_tree rest)) old new
      → after (course_in o (scene_in net node iterations) site (instr_tree instr) (begin p)) (course_frames o net node new)
      ≡ after (of_code o net node iterations site (code_tree code) p) (course_frames o net node old)
  code_taken associate iterations kept site behind instr rest code old new p is same b before =
      let at : Scene = scene_in net node iterations in
      let first : Course V F = course_in o at site (instr_tree instr) (begin p) in
      let e : behind ≡ suc site + inner_size (instr_tree instr) = omega arith in
      (λ i. after first (λ q. before q i))
      ∙ (λ i. after first (λ q. after (of_code o net node (same i) (e i) (code_tree rest) q) (course_frames o net node old)))
      ∙ sym (associate first (course_code o at (suc site + inner_size (instr_tree instr)) (code_tree rest)) (course_frames o net node old))
      ∙ ap (λ c. after (of_code o net node iterations site (code_tree c) p) (course_frames o net node old)) (sym is)

  -- the next iteration of a For, and then the others
  pub iteration_taken : Associates V F → (iterations inner : List Iteration) (var name : List ℕ) (site : ℕ) (body : CodeTree) (keys rest : List Key) (owner : Option NodeId) (meta : NameId) (old mid new : List Frame)
      → keys ≡ (owner, meta) ∷ rest → inner ≡ record { var = name; owner = owner; name = meta } ∷ iterations → name ≡ var
      → RunsBefore (of_iterations o net node iterations var site body rest) old mid
      → RunsBefore (of_code o net node inner site body) mid new
      → RunsBefore (of_iterations o net node iterations var site body keys) old new
  iteration_taken associate iterations inner var name site body keys rest owner meta old mid new is on n below above p =
      above p
      ∙ (λ i. after (of_code o net node (on i) site body p) (course_frames o net node mid))
      ∙ (λ i. after (of_code o net node (record { var = n i; owner = owner; name = meta } ∷ iterations) site body p) (λ q. below q i))
      ∙ sym (associate (of_code o net node (record { var = var; owner = owner; name = meta } ∷ iterations) site body p) (of_iterations o net node iterations var site body rest) (course_frames o net node old))
      ∙ ap (λ l. after (of_iterations o net node iterations var site body l p) (course_frames o net node old)) (sym is)

module _ {V F T : Type 0} (net : Network) (node : NodeId) (truth : T → F) where
  -- a step of the first frame, behind what has run
  pub on_from : (cur o : Values V F) (frame : Frame) (old popped new : List Frame) (found : Option (Move T)) (s t : Carried V) (k l : List ℕ) (a b c : ℕ) (whole : ℕ → Course V F)
      → cur ≡ o → old ≡ popped ++ frame ∷ []
      → GoesOn a b whole (from (course_frames o net node (reverse old)) s k)
      → GoesOn b c (from (course_frames cur net node (frame ∷ reverse popped)) s k) (from (course_on cur net node truth found (reverse new)) t l)
      → GoesOn a c whole (from (course_on o net node truth found (reverse new)) t l)
  on_from cur o frame old popped new found s t k l a b c whole kept is before on =
      both a b c whole (from (course_frames o net node (frame ∷ reverse popped)) s k) (from (course_on o net node truth found (reverse new)) t l)
      (subst (λ (fs : List Frame). GoesOn a b whole (from (course_frames o net node fs) s k)) (ap reverse is ∙ reverse-append popped (frame ∷ [])) before)
      (subst (λ (x : Values V F). GoesOn b c (from (course_frames x net node (frame ∷ reverse popped)) s k) (from (course_on x net node truth found (reverse new)) t l)) kept on)
