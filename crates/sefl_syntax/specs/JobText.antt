-- The canonical texts of injections, questions and jobs.
use Rattle.std.specs.Prelude.{ℕ, List, [], ◌++◌, Option, None, Some, codes, decimal}
use Rattle.std.specs.List.{flat_map}
use Rattle.sefl_syntax.specs.declared.reference.Addr.{Addr}
use Rattle.sefl_syntax.specs.declared.reference.Target.{Target}
use Rattle.sefl_syntax.specs.declared.job.RawField.{RawField}
use Rattle.sefl_syntax.specs.declared.job.RawPlace.{RawPlace}
use Rattle.sefl_syntax.specs.NetWords.{side_text}
use Rattle.sefl_syntax.specs.TermText.{addr_text, target_text, cond_text}
use Rattle.sefl_syntax.specs.NetText.{net_text}
use Rattle.sefl_syntax.specs.Trees.{CondTree, always, InjectionTree, AskTree, reach, invariant, visible, JobTree}

-- a tag of the injected packet
unfoldable pub tag_line : List ℕ × Addr → List ℕ
tag_line tag = codes "  tag " ++ tag.0 ++ codes " = " ++ addr_text tag.1 ++ codes ";\n"

abbrev pub value_text : Option ℕ → List ℕ
value_text None = []
value_text (Some value) = codes " = " ++ decimal value

unfoldable pub field_line : RawField → List ℕ
field_line field = codes "  field " ++ target_text field.target ++ value_text field.value ++ codes ";\n"

unfoldable pub where_line : CondTree → List ℕ
where_line test = codes "  where " ++ cond_text test ++ codes ";\n"

unfoldable pub injection_heading : List ℕ → ℕ → List ℕ
injection_heading node port = codes "inject " ++ node ++ codes "." ++ decimal port ++ codes " {\n"

unfoldable pub injection_text : InjectionTree → List ℕ
injection_text i =
    injection_heading i.node i.port ++ flat_map tag_line i.tags ++ flat_map field_line i.fields ++ flat_map where_line i.tests
    ++ codes "}\n"

unfoldable pub place_text : RawPlace → List ℕ
place_text p = side_text p.side ++ codes " " ++ p.node ++ codes "." ++ decimal p.port

-- the test of a question, where it is not always met
abbrev pub with_text : CondTree → List ℕ
with_text always = []
with_text test = codes " with " ++ cond_text test

unfoldable pub reach_text : RawPlace → CondTree → List ℕ
reach_text place test = codes "ask reach " ++ place_text place ++ with_text test ++ codes ";\n"

-- a question about a target at a place, by its word
unfoldable pub question_text : List ℕ → Target → RawPlace → List ℕ
question_text word target place = codes "ask " ++ word ++ codes " " ++ target_text target ++ codes " at " ++ place_text place ++ codes ";\n"

abbrev pub ask_text : AskTree → List ℕ
ask_text (reach place test) = reach_text place test
ask_text (invariant target place) = question_text (codes "invariant") target place
ask_text (visible target place) = question_text (codes "visible") target place

-- the canonical text of a job, of version 2
unfoldable pub job_text : JobTree → List ℕ
job_text j = codes "symnet 2;\n" ++ net_text j.net ++ injection_text j.injection ++ flat_map ask_text j.asks
