use Rattle.std.proofs.Common.{◌≡◌, ℕ, ◌-◌, List, ◌++◌, length, take, drop, ap, ◌∙◌, append_assoc, take-append-drop}
use Rattle.std.proofs.lemmas.List.{take_rest}
use Rattle.std.specs.Io.KnownBytes.{append_known}
use Rattle.sn_edge.specs.Pieces.{append_known-append}
use Rattle.sn_edge.proofs.output.write_whole.Goals as goal

-- what was taken moves to the front
moved : (all done rest : List ℕ) (n : ℕ) → done ++ rest ≡ all →
    (done ++ take n rest) ++ take (length rest - n) (drop n rest) ≡ all
moved all done rest n is =
    append_assoc done (take n rest) (take (length rest - n) (drop n rest))
    ∙ ap (λ xs. done ++ (take n rest ++ xs)) (take_rest rest n)
    ∙ ap (λ xs. done ++ xs) (take-append-drop n rest) ∙ is

pub loop-rest-preserved : goal.loop-rest-preserved
loop-rest-preserved g c =
    let (done, is, appended) = c.loop-rest.invariant in
    let rest = c.loop-rest.rest.now in
    let n = c.in-Some.count in (
      done ++ take n rest,
      moved _ done rest n is,
      c.in-Some.ensures.1 ∙ (ap (λ known. append_known known (take n rest)) appended ∙ append_known-append _ done (take n rest)),
    )
