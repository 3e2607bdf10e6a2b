use Rattle.std.proofs.Common.{◌≡◌, ◌++◌, drop, string_bytes}
use Rattle.std.specs.List.{flat_map}
use Rattle.sefl_syntax.specs.JobText.{field_line}
use Rattle.sefl_syntax.proofs.job_text.write_fields.Given as goal

-- what is written, and the text of what is left, are the whole
abbrev pub invariant-loop-field : goal.invariant-loop-field
invariant-loop-field l =
    string_bytes l.out ++ flat_map field_line (drop l.field-index l.fields) ≡ string_bytes l.fn.out ++ flat_map field_line l.fields
