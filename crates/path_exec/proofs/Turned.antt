-- The decisions of what is explored, as it goes on.
use Rattle.std.proofs.Common.{◌≡◌, ◌<◌, ◌^◌, ℕ, suc, inl, inr, List, [], ◌∷◌, ◌++◌, length, reverse, take, refl, sym, ap, subst, ◌∙◌, append_assoc, arith, Option, None, Some}
use Rattle.std.specs.Global.{Vec}
use Rattle.std.specs.List.{AllByRecursion}
use Rattle.std.proofs.lemmas.List.{append-nil, reverse-append, take_at}
use Rattle.sefl_meaning.specs.declared.walk.Decision.{Decision}
use Rattle.exact_records.proofs.Lists.{all_append, all_first}
use Rattle.path_exec.specs.declared.opening.OpenNode.{OpenNode}
use Rattle.path_exec.specs.Coursing.{AreAlong, AreOnCourse, IsOnCourse}
use Rattle.path_exec.specs.Handing.{IsListed, IsNumbered, handed, handed_if}
use Rattle.path_exec.specs.Views.{Views}
use Rattle.path_exec.specs.OpenNodes.{IsPut}

-- a list that the program has in a vector
pub listed : (course : Vec Decision) → AllByRecursion IsNumbered course.items → IsListed course.items
listed course all = record {
  short = let same = course.ok.0 in let fits = course.ok.1 in let small = course.small in omega (arith, same, fits, small);
  numbered = all;
}

module _ {P O N D T : Type 0} (x : Views P O N D T) where
  abbrev Of : OpenNode N D → List Decision
  Of w = (x.node_at w.node).decisions

  along_longer : (ds more : List Decision) (ws : List (OpenNode N D)) → AreAlong x ds ws → AreAlong x (ds ++ more) ws
  along_longer ds more [] h = tt
  along_longer ds more (w ∷ ws) h = (
    record {
      depth = h.0.depth;
      begins = (h.0.begins.0 ++ more, sym (append_assoc (Of w) h.0.begins.0 more) ∙ ap (λ (zs : List Decision). zs ++ more) h.0.begins.1);
    },
    h.1,
  )

  -- what is on top is on the course, and those below it on its decisions
  pub popped_course : (course : List Decision) (old rest : List (OpenNode N D)) (w : OpenNode N D) → old ≡ rest ++ w ∷ [] → AreOnCourse x course old
      → IsOnCourse x course w × AreOnCourse x (Of w) rest
  popped_course course old rest w e h =
      let along = subst (λ (ws : List (OpenNode N D)). AreAlong x course ws) (ap reverse e ∙ reverse-append rest (w ∷ [])) h.along in
      let numbered = subst (AllByRecursion IsNumbered) (sym along.0.begins.1) h.numbered in
      (along.0, record { numbered = all_first IsNumbered (Of w) along.0.begins.0 numbered; along = along.1 })

  -- the decisions of a node are numbered, where the course is
  pub numbered_on : (course : List Decision) (w : OpenNode N D) → IsOnCourse x course w → AllByRecursion IsNumbered course → AllByRecursion IsNumbered (Of w)
  numbered_on course w h all = all_first IsNumbered (Of w) h.begins.0 (subst (AllByRecursion IsNumbered) (sym h.begins.1) all)

  -- the course is cut to the node, and goes on by a decision
  pub turned_course : (course now : List Decision) (w : OpenNode N D) (d : Decision) → IsOnCourse x course w → now ≡ take w.depth course ++ d ∷ [] → now ≡ Of w ++ d ∷ []
  turned_course course now w d h e =
      e ∙ ap (λ (zs : List Decision). zs ++ d ∷ [])
      (ap (take w.depth) (sym h.begins.1) ∙ take_at (Of w) h.begins.0 w.depth (sym h.depth))

  pub numbered_turned : (course now : List Decision) (w : OpenNode N D) (d : Decision) → IsOnCourse x course w → now ≡ take w.depth course ++ d ∷ [] → AllByRecursion IsNumbered course
      → IsNumbered d → AllByRecursion IsNumbered now
  numbered_turned course now w d h e all one =
      subst (AllByRecursion IsNumbered) (sym (turned_course course now w d h e)) (all_append IsNumbered (Of w) (d ∷ []) (numbered_on course w h all) (one, tt))

  -- a node with those decisions is put on top
  pub put_course : (w : OpenNode N D) (before after : List (OpenNode N D)) → w.depth ≡ length (Of w) → IsPut w before after → AreOnCourse x (Of w) before → AreOnCourse x (Of w) after
  put_course w before after deep (inl h) all = record {
    numbered = all.numbered;
    along = subst (λ (ws : List (OpenNode N D)). AreAlong x (Of w) ws) (sym (ap reverse h.1 ∙ reverse-append before (w ∷ [])))
        (record { depth = deep; begins = ([], append-nil (Of w)) }, all.along);
  }
  put_course w before after deep (inr h) all = subst (AreOnCourse x (Of w)) (sym h.1) all

  -- and then the course is turned
  pub goes_on : (w : OpenNode N D) (now : List Decision) (d : Decision) (open_nodes : List (OpenNode N D)) → now ≡ Of w ++ d ∷ [] → AllByRecursion IsNumbered now → AreOnCourse x (Of w) open_nodes
      → AreOnCourse x now open_nodes
  goes_on w now d open_nodes e all h = record {
    numbered = all;
    along = subst (λ (zs : List Decision). AreAlong x zs (reverse open_nodes)) (sym e) (along_longer (Of w) (d ∷ []) (reverse open_nodes) h.along);
  }

  -- a node is put back with one decision taken more, and the course is turned
  pub put_back_course : (course now : List Decision) (w : OpenNode N D) (d : Decision) (before after : List (OpenNode N D)) → IsOnCourse x course w → now ≡ take w.depth course ++ d ∷ []
      → AllByRecursion IsNumbered course → IsNumbered d → IsPut (record w { taken = suc w.taken }) before after → AreOnCourse x (Of w) before → AreOnCourse x now after
  put_back_course course now w d before after h e all one put on =
      goes_on w now d after (turned_course course now w d h e) (numbered_turned course now w d h e all one)
      (put_course (record w { taken = suc w.taken }) before after h.depth put on)

-- nothing is on the way before the first decision
pub first_course : {P O N D T : Type 0} (x : Views P O N D T) (open_nodes : List (OpenNode N D)) → open_nodes ≡ [] → AreOnCourse x [] open_nodes
first_course x open_nodes none = record { numbered = tt; along = subst (λ ws. AreAlong x [] (reverse ws)) (sym none) tt }

-- what is found, with these decisions
module _ {F : Type 0} (ds : List Decision) where
  pub none_handed : (made : Option F) → made ≡ None → handed_if ds made ≡ None
  none_handed made e = ap (handed_if ds) e

  pub some_handed : (made : Option F) (found : F) (es : List Decision) → es ≡ ds → made ≡ Some found → handed_if ds made ≡ Some (handed es found)
  some_handed made found es same e = ap (handed_if ds) e ∙ ap (λ (zs : List Decision). Some (handed zs found)) (sym same)
