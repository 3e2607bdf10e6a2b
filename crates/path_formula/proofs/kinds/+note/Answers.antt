use Rattle.std.proofs.Common.{◌≡◌, ◌+◌, ◌∷◌, drop, sym, ap, ◌∙◌, arith}
use Rattle.std.proofs.lemmas.List.{drop_more}
use Rattle.path_formula.specs.Kinds.{atoms_of, atoms_among}
use Rattle.path_formula.specs.Summaries.{noted}
use Rattle.path_formula.specs.View.{view, views}
use Rattle.path_formula.proofs.Noting.{noted-append}
use Rattle.path_formula.proofs.kinds.+note.Goals as goal

pub note_all-loop-part-preserved : goal.note_all-loop-part-preserved
note_all-loop-part-preserved t c =
    let l = c.loop-part in
    let xs = c.deref-part-items.result.now in
    let x = c.part-item.result in
    let here : drop l.part-index xs ≡ x ∷ drop (l.part-index + 1) xs = drop_more xs l.part-index x (omega arith) ∙ ap (λ y. y ∷ drop (l.part-index + 1) xs) (sym c.part-item.is) in
    let rest = atoms_among (views (drop (l.part-index + 1) xs)) in
    l.invariant ∙ ap (λ ys. noted l.summary (atoms_among (views ys))) here ∙ noted-append l.summary (atoms_of (view x)) rest ∙ ap (λ s. noted s rest) (sym c.note-summary.ensures)
