use Rattle.std.proofs.Common.{◌∙◌, ◌∷◌, [], sym, ap, subst, List}
use Rattle.sym_state.specs.Symbolic.{Symbolic}
use Rattle.path_questions.specs.Deciding.{entry_of, net_of}
use Rattle.queries.specs.Paths.{ArriveAt, has_place}
use Rattle.queries.proofs.Stating.{arrive_last, arrive_nowhere, own_states}
use Rattle.queries.proofs.states.states_at.Goals as goal

pub returns-then-not-comes_to : goal.returns-then-not-comes_to
returns-then-not-comes_to c =
    let net = net_of c.args.subject.now in
    let i = entry_of c.args.subject.now in
    let hops = c.args.subject.now.hops in
    subst (λ (states : List Symbolic). ArriveAt net i hops c.args.place c.args.run.now.decisions.now states) (sym c.new.ensures.items)
    (arrive_nowhere net i hops c.args.run.now c.requires.path c.args.place
    (ap (has_place c.args.place) (sym c.deref.ensures.value) ∙ (sym c.comes_to.ensures ∙ c.if-not-comes_to.true)))

pub returns-then-stays_at : goal.returns-then-stays_at
returns-then-stays_at c =
    own_states (net_of c.args.subject.now) (entry_of c.args.subject.now) c.args.subject.now.hops c.args.run.now c.requires.path c.args.place
    (c.stays_at.ensures c.if-stays_at.true) c.own_state.result c.own_state.ensures
