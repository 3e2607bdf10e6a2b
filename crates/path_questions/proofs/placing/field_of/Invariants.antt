use Rattle.std.proofs.Common.{drop, Option}
use Rattle.path_questions.specs.declared.question.InjectedField.{InjectedField}
use Rattle.path_questions.specs.Asked.{FoundField}
use Rattle.path_questions.proofs.placing.field_of.Given as goal

-- whatever is found among the fields that are left, is found among all
abbrev pub invariant-loop-field : goal.invariant-loop-field
invariant-loop-field l =
    (found : Option InjectedField) → FoundField l.number l.target (drop l.field-index l.fields) found → FoundField 0 l.target l.fields found
