use Rattle.std.proofs.Common.{Bool, ◌&&◌, [], ◌∷◌, ◌++◌, cond, ap, subst, ◌∙◌}
use Rattle.sn_width.specs.declared.ids.SymId.{SymId}
use Rattle.path_formula.specs.View.{view}
use Rattle.path_formula.specs.Cases.{cases_of}
use Rattle.path_cond.specs.Kept.{first_case, singles_at}
use Rattle.path_cond.specs.Marks.{Adds}
use Rattle.path_cond.specs.Occurring.{occurs_in}
use Rattle.path_cond.proofs.Summaries.{known_more}
use Rattle.path_cond.proofs.summary.Summary.with.Goals as goal

pub returns : goal.returns
returns c = λ entries is h.
    let old = c.args.self.now in
    known_more entries (c.args.formula.now, c.args.holds) c.args.kind c.args.pick c.in_ok-cases.cases old
    (record { inside = c.in_ok-inside.inside; outside = c.in_ok-outside.outside; choices = c.saturating_mul.result; singles = c.in_ok-singles.singles; caseless = c.first_with.result; marks = c.in_ok-marks.marks })
    is c.requires.kind c.in_ok-cases.ensures
    (c.in_ok-inside.ensures ∙ ap (λ b. cond b (c.args.pick ∷ old.inside) old.inside) c.is_inside-splits.ensures)
    (c.in_ok-outside.ensures ∙ ap (λ b. cond b (c.args.pick ∷ old.outside) old.outside) c.is_outside.ensures)
    c.saturating_mul.ensures
    (c.in_ok-singles.ensures
    ∙ ap (λ b. old.singles ++ singles_at c.args.pick (cond b (first_case (cases_of (view c.args.formula.now) c.args.holds)) [])) c.is_single.ensures)
    c.first_with.ensures
    (subst (λ (b : Bool). Adds old.marks c.in_ok-marks.marks (λ (s : SymId). b && occurs_in s (view c.args.formula.now))) c.is_inside-splits.ensures c.in_ok-marks.ensures)
    h
