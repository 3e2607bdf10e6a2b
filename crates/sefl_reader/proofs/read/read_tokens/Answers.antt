use Rattle.std.proofs.Common.{◌≡◌, sym, subst, ap, ◌∙◌, MatchOption}
use Rattle.sefl_syntax.specs.Views.{job_tree}
use Rattle.sefl_grammar.specs.Words.{words_of, IsFound}
use Rattle.sefl_reader.specs.Outcome.{too_deep, expected, line_at, column_at, start_of}
use Rattle.sefl_reader.proofs.Outcomes.{Laws, only_job, only_deep, only_expected, made_is}
use Rattle.sefl_reader.proofs.read.read_tokens.Goals as goal

pub returns-in-Ok-Some-clause-answer : goal.returns-in-Ok-Some-clause-answer
returns-in-Ok-Some-clause-answer c =
    let found = subst (IsFound (words_of c.args.text.now c.args.tokens.items)) c.in-Job.is (subst (λ ts. IsFound (words_of c.args.text.now ts) c.in-Ok.finding) c.deref.ensures.value c.in-Ok.ensures) in
    (c.requires.utf8, c.args.tokens.items, c.requires.reads, made_is c.args.text.now c.args.tokens.items c.in-Ok-Some.job found (λ j s. subst (λ o. MatchOption o ⊥ (λ job. job_tree job ≡ j)) c.in-Ok-Some.field-0-is (c.in-Ok-Some.ensures j s)))

pub returns-in-Ok-Some-clause-only : goal.returns-in-Ok-Some-clause-only
returns-in-Ok-Some-clause-only c =
    let found = subst (IsFound (words_of c.args.text.now c.args.tokens.items)) c.in-Job.is (subst (λ ts. IsFound (words_of c.args.text.now ts) c.in-Ok.finding) c.deref.ensures.value c.in-Ok.ensures) in
    let laws : Laws = record { one_nesting = c.one_nesting.ensures; one_job = c.one_job.ensures } in
    only_job laws _ c.args.text.now c.args.tokens.items c.requires (made_is c.args.text.now c.args.tokens.items c.in-Ok-Some.job found (λ j s. subst (λ o. MatchOption o ⊥ (λ job. job_tree job ≡ j)) c.in-Ok-Some.field-0-is (c.in-Ok-Some.ensures j s)))

pub returns-in-TooDeep-clause-only : goal.returns-in-TooDeep-clause-only
returns-in-TooDeep-clause-only c outcome is =
    let found = subst (IsFound (words_of c.args.text.now c.args.tokens.items)) c.in-TooDeep.is (subst (λ ts. IsFound (words_of c.args.text.now ts) c.in-Ok.finding) c.deref.ensures.value c.in-Ok.ensures) in
    let laws : Laws = record { one_nesting = c.one_nesting.ensures; one_job = c.one_job.ensures } in
    let start = c.start_of-at.ensures.start ∙ ap (λ ts. start_of c.args.text.now ts c.in-TooDeep.place) c.deref-in-TooDeep.ensures.value in
    only_deep laws c.in-TooDeep.place c.args.text.now c.args.tokens.items c.requires found outcome is
    ∙ ap too_deep (sym (c.line_at.ensures ∙ (λ i. line_at (c.as_bytes.ensures.value i) (start i))))

pub returns-in-Unexpected-clause-only : goal.returns-in-Unexpected-clause-only
returns-in-Unexpected-clause-only c outcome is =
    let found = subst (IsFound (words_of c.args.text.now c.args.tokens.items)) c.in-Unexpected.is (subst (λ ts. IsFound (words_of c.args.text.now ts) c.in-Ok.finding) c.deref.ensures.value c.in-Ok.ensures) in
    let start = c.start_of-at-in-Unexpected.ensures.start ∙ ap (λ ts. start_of c.args.text.now ts c.in-Unexpected.place) c.deref-in-Unexpected.ensures.value in
    only_expected c.in-Unexpected.place c.args.text.now c.args.tokens.items c.requires found outcome is
    ∙ (λ i. expected
    (sym (c.line_at-in-Unexpected.ensures ∙ (λ k. line_at (c.as_bytes-bytes.ensures.value k) (start k))) i)
    (sym (c.column_at.ensures ∙ (λ k. column_at (c.as_bytes-bytes.ensures.value k) (start k))) i))
