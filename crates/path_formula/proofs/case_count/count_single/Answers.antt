use Rattle.std.proofs.Common.{◌≡◌, sym, ap, ◌∙◌, length, ℕ, rules}
use Rattle.std.proofs.lemmas.List.{length-map}
use Rattle.path_formula.specs.Formulas.{truth_at}
use Rattle.path_formula.specs.Solutions.{agrees, alone}
use Rattle.path_formula.specs.View.{view}
use Rattle.path_formula.specs.Cases.{range_case, single_cases}
use Rattle.sn_ranges.specs.Sets.{ranges_where}
use Rattle.path_formula.proofs.CaseSets.{ranges_where-set}
use Rattle.path_formula.proofs.CaseCounts.{whole}
use Rattle.path_formula.proofs.case_count.count_single.Goals as goal

pub returns : goal.returns
returns c =
    let test = λ (x : ℕ). agrees c.args.holds (truth_at (view c.args.atom.now) (alone c.args.symbol x)) in
    let is = ranges_where-set c.args.width test c.in_ok-set.set c.in_ok-set.ensures in
    let same : length (single_cases c.args.symbol c.args.width test) ≡ c.len.result =
    length-map (ranges_where c.args.width test) (range_case c.args.symbol) ∙ ap length (sym is) ∙ sym c.len.ensures in
    whole c.len.result (length (single_cases c.args.symbol c.args.width test)) (search rules) same
