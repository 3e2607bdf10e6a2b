use Rattle.std.proofs.Common.{◌≡◌, ◌∙◌, false, List, ap, map, subst, sym}
use Rattle.path_cond.specs.Seen.{seen}
use Rattle.path_formula.specs.View.{view}
use Rattle.path_formula.specs.declared.formula.Formula.{Formula}
use Rattle.refutation_check.specs.Longer.{with_entries}
use Rattle.compare_meaning.specs.Facing.{IsKnownMiss}
use Rattle.net_compare.specs.Joining.{denied_by, each_with}
use Rattle.net_compare.specs.Saying.{seen_path}
use Rattle.net_compare.proofs.MissSaying.{miss_says, with_denied}
use Rattle.net_compare.proofs.missing.miss.Goals as goal

pub returns : goal.returns
returns c =
    let qs = map seen_path c.args.others.now in
    let p = seen_path c.args.path.now in
    let start = c.in_ok-start.field-0.start.condition in
    let fs = c.in_ok-start.field-0.formulas.items in
    let denied = denied_by (seen view start) (map view fs) in
    let longer : seen view c.in_ok-longer.longer.condition ≡ denied =
    c.in_ok-longer.ensures.longer ∙ (ap (λ (xs : List Formula). with_entries (seen view start) (each_with false (map view xs))) c.deref-2.ensures.value ∙ with_denied (seen view start) (map view fs)) in
    miss_says qs p (seen view c.in_ok-longer.longer.condition) (subst (IsKnownMiss p qs) (sym longer) c.in_ok-start.ensures.3) c.judge.result c.judge.ensures
