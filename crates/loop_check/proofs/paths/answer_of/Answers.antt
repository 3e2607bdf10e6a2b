use Rattle.std.proofs.Common.{◌≡◌, ◌++◌, ◌∷◌, [], List, IfOk, rules, sym, subst}
use Rattle.sym_state.specs.Symbolic.{Symbolic}
use Rattle.path_questions.specs.Deciding.{entry_of, net_of}
use Rattle.loop_check.specs.Finding.{AnswersFor}
use Rattle.loop_check.specs.Seen.{HaveFields}
use Rattle.loop_check.proofs.Seeing.{EndsIn, fields_of_all, found_in, if_ok, none_nowhere}
use Rattle.loop_check.proofs.paths.answer_of.Goals as goal

pub answer_at-requires : goal.answer_at-requires
answer_at-requires c =
    let s = c.args.subject.now in
    subst HaveFields (sym c.deref.ensures.value)
    (fields_of_all (net_of s) (entry_of s) s.hops c.in-Some.port.now c.args.decisions.now c.in-Ok.states.items c.in-Ok.ensures)

pub returns-in-Ok : goal.returns-in-Ok
returns-in-Ok c =
    let s = c.args.subject.now in
    let split : c.args.places.now ≡ c.in-Some.before.now ++ c.in-Some.port.now ∷ [] = search rules in
    if_ok (EndsIn c.in-Some.before.now c.in-Some.port.now c.in-Ok.states.items) (AnswersFor (net_of s) (entry_of s) s.hops c.args.decisions.now c.args.places.now) c.answer_at.result
    (λ answer tells. found_in (net_of s) (entry_of s) s.hops (c.a_cut_path_ends_at_its_last_port.ensures (net_of s) (entry_of s) s.hops) c.args.decisions.now c.args.places.now
    c.in-Some.before.now c.in-Some.port.now c.in-Ok.states.items split c.in-Ok.ensures answer tells)
    (subst (λ (xs : List Symbolic). IfOk c.answer_at.result (EndsIn c.in-Some.before.now c.in-Some.port.now xs)) c.deref.ensures.value c.answer_at.ensures)

pub returns-in-Err-Impossible : goal.returns-in-Err-Impossible
returns-in-Err-Impossible c =
    let s = c.args.subject.now in
    let h = rw c.in-Err-Impossible.field-0-is at c.in-Err-Impossible.ensures in
    none_nowhere (net_of s) (entry_of s) s.hops c.the_first_closed_decision_is_one.ensures.closed c.args.decisions.now c.args.places.now c.in-Err-Impossible.field-0-0
    h c.nothing_found-in-Err-Impossible.result
