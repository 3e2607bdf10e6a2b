use Rattle.std.proofs.Common.{◌≡◌, Some, sym, ap, ◌∙◌}
use Rattle.std.specs.Prelude.{option_map}
use Rattle.symbolic_engine.proofs.Bases.{BasesKnown, base_known}
use Rattle.symbolic_engine.specs.Finding.{values_in}
use Rattle.symbolic_engine.proofs.deciding.base_of.Goals as goal

pub returns : goal.returns
returns c =
    let laws : BasesKnown = record {
      judged = c.a_condition_is_judged_by_its_trees.ensures;
      made = c.the_values_of_a_decision_are_a_base.ensures;
      wider = c.a_base_stays_one.ensures.symbols;
    } in
    let told : values_in c.args.before.now ≡ Some c.in_ok-least.least =
    sym c.values_in.ensures ∙ ap (λ o. option_map (λ v. v.now) o) c.in-Some.is ∙ ap Some (sym c.in_ok-least.ensures) in
    base_known laws c.args.condition.now (record { formulas = c.in_ok-formulas.formulas; least = c.in_ok-least.least; broken = c.broken_in-broken.result }) c.args.before.now c.requires told (sym c.broken_in-broken.ensures)
    c.in_ok-formulas.ensures
