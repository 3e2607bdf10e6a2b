use Rattle.std.proofs.Common.{◌≡◌, ℕ, Result, Err, ap, ◌∙◌, subst}
use Rattle.sn_width.specs.declared.faults.StepFault.{StepFault}
use Rattle.sn_width.specs.declared.ids.NodeId.{NodeId}
use Rattle.sefl_syntax.specs.Views.{injection_tree}
use Rattle.sefl_syntax.specs.Trees.{InjectionTree}
use Rattle.cell_stacks.specs.Outcome.{and_then}
use Rattle.net_check.specs.Network.{entry, network, unknown_count}
use Rattle.sefl_meaning.specs.Carried.{Scene}
use Rattle.sefl_meaning.specs.Injected.{injected}
use Rattle.sefl_meaning.specs.Start.{tests_in}
use Rattle.term_values.specs.TermValues.{terms}
use Rattle.sym_state.specs.Beginning.{BegunAs}
use Rattle.sym_state.specs.Symbolic.{Symbolic}
use Rattle.sym_state.proofs.Begins.{has_no_fault, in_place}
use Rattle.sym_state.proofs.state.SymState.from_injection.Goals as goal

pub unreachable-requires : goal.unreachable-requires
unreachable-requires c =
    let net = network c.args.net.now in
    let p = c.args.injection.now in
    let fault = c.in-Err-Layout.field-0-0 in
    let at : Scene = record { net = net; node = c.place.result.0; iterations = c.empty-iterations.result } in
    let refused = subst (λ (r : Result Symbolic StepFault). BegunAs c.unknowns.result c.most_choices.result at (injection_tree c.raw.result.now) r)
    (c.in-Err-Layout.is ∙ ap Err c.in-Err-Layout.field-0-is) c.begun.ensures in
    let start = c.injections_have_a_start.ensures.goes (terms (unknown_count (entry p))) net (entry p) 0 c.requires c.keeps_the_rules.ensures.widths in
    has_no_fault net (entry p) start.0 fault start.1
    (in_place (λ (n : ℕ) (at : Scene) (i : InjectionTree). and_then (injected (terms n) at i) (tests_in (terms n) at i.tests) ≡ Err fault)
    net p c.raw.result.now c.unknowns.result c.place.result.0 c.empty-iterations.result c.raw.ensures c.unknowns.ensures (ap (λ (q : NodeId × ℕ). q.0) c.place.ensures) c.empty-iterations.ensures refused)
