use Rattle.std.proofs.Common.{◌*◌, sym, ap, ap₂, ◌∙◌, ℕ}
use Rattle.path_formula.specs.Cases.{relation_with}
use Rattle.path_formula.specs.CaseCounts.{capped}
use Rattle.path_formula.specs.Pairs.{regions_of, list_of}
use Rattle.path_formula.proofs.CaseCounts.{length_pair, capped_product_right}
use Rattle.path_formula.proofs.case_count.count_pair.Goals as goal

pub returns : goal.returns
returns c = λ s r.
    let lefts = c.region_count-lefts in
    let rights = c.region_count-rights in
    let each = c.relation_count-each.result in
    let n = length_pair (relation_with c.args.holds c.args.rel) (list_of (regions_of s c.args.left.now)) (list_of (regions_of r c.args.right.now)) each c.relation_count-each.ensures.count in
    c.saturating_mul-2.ensures ∙ ap (λ m. capped (lefts.result * m)) c.saturating_mul.ensures ∙ capped_product_right lefts.result (rights.result * each)
    ∙ ap capped (sym (n ∙ ap₂ (λ (a b : ℕ). a * (b * each)) (sym (lefts.ensures.count s)) (sym (rights.ensures.count r))))
