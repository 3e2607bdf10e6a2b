use Rattle.std.proofs.Common.{◌≡◌, ◌∙◌, sym, ap, subst}
use Rattle.std.proofs.lemmas.List.{length-map}
use Rattle.pattern_answers.specs.Answers.{AnswersAll, IfAnswered, lists_of, refused_site}
use Rattle.pattern_answers.specs.Asking.{IsStep}
use Rattle.pattern_answers.specs.Told.{bad_site, found_by}
use Rattle.sefl_syntax.specs.Views.{job_tree}
use Rattle.job_names.specs.Names.{names_of}
use Rattle.net_check.proofs.AskedLemmas.{asked_ascend, asked_length, by_pattern}
use Rattle.net_check.proofs.acceptance.accept_sound.Goals as goal

pub assemble-requires-clause-found : goal.assemble-requires-clause-found
assemble-requires-clause-found g c =
    let step = IsStep g.P.Patterns.told g.P.Patterns.find_gives in
    let names = c.in_ok-names.names in
    let asked = subst (λ a. AnswersAll step names.metas names.patterns c.args.patterns.now a c.found_names.new.patterns) c.in-Answered.is c.in-Ok.ensures.asked in
    sym (length-map c.in-Answered.found.items (λ ids. ids.items)) ∙ asked_length step names.metas _ _ names.patterns (lists_of c.in-Answered.found.items) asked

pub assemble-requires-clause-ids : goal.assemble-requires-clause-ids
assemble-requires-clause-ids g c =
    let step = IsStep g.P.Patterns.told g.P.Patterns.find_gives in
    let names = c.in_ok-names.names in
    let asked = subst (λ a. AnswersAll step names.metas names.patterns c.args.patterns.now a c.found_names.new.patterns) c.in-Answered.is c.in-Ok.ensures.asked in
    asked_ascend step names.metas _ _ names.patterns (lists_of c.in-Answered.found.items) asked

pub returns-in_ok-assemble-in-Answered-clause-found : goal.returns-in_ok-assemble-in-Answered-clause-found
returns-in_ok-assemble-in-Answered-clause-found g c finds told =
    let answered = subst (λ a. IfAnswered a (λ lists. lists ≡ found_by finds c.in_ok-names.names)) c.in-Answered.is (c.in-Ok.ensures.found finds told) in
    c.in_ok-assemble-in-Answered.ensures.found ∙ answered ∙ ap (found_by finds) c.in_ok-names.ensures

pub returns-in_ok-assemble-in-Answered-clause-at_bad : goal.returns-in_ok-assemble-in-Answered-clause-at_bad
returns-in_ok-assemble-in-Answered-clause-at_bad g c is_bad told =
    sym (ap (λ n. bad_site is_bad n.metas n.patterns) c.in_ok-names.ensures) ∙ sym (c.in-Ok.ensures.bad is_bad told) ∙ ap refused_site c.in-Answered.is

pub returns-in-Refused-clause-at_bad : goal.returns-in-Refused-clause-at_bad
returns-in-Refused-clause-at_bad g c is_bad told =
    by_pattern (bad_site is_bad (names_of (job_tree c.args.job)).metas (names_of (job_tree c.args.job)).patterns) c.in-Refused.site c.bad_pattern_at.result
    (sym (ap (λ n. bad_site is_bad n.metas n.patterns) c.in_ok-names.ensures) ∙ sym (c.in-Ok.ensures.bad is_bad told) ∙ ap refused_site c.in-Refused.is)
    c.bad_pattern_at.ensures
