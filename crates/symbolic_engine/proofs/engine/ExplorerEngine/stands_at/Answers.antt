use Rattle.std.proofs.Common.{◌≡◌, ◌↔◌, IsTrue, Some, ap, sym, ◌∙◌, rules}
use Rattle.sn_tree.specs.Ends.{first}
use Rattle.sefl_meaning.specs.declared.walk.Place.{Place}
use Rattle.sym_state.specs.Symbolic.{Symbolic}
use Rattle.symbolic_engine.proofs.RunLemmas.{some_same}
use Rattle.symbolic_engine.proofs.Engaging.{ends_first, first_ends}
use Rattle.symbolic_engine.proofs.engine.ExplorerEngine.stands_at.Goals as goal

pub returns-in-Some : goal.returns-in-Some
returns-in-Some g c =
    let places = c.args.place.now.run.places in
    let port = c.args.port in
    let last = c.in-Some.last in
    let same : IsTrue c.eq.result ↔ (last ≡ port) = search rules in
    let is : first places ≡ Some last = ap (λ (x : Symbolic). first x.places) (sym c.state.ensures.is) ∙ sym c.last_place.ensures ∙ c.in-Some.is in
    (λ t. ends_first places port (is ∙ ap (λ (p : Place). Some p) (same.0 t)), λ h. same.1 (some_same (sym is ∙ first_ends places port h)))
