use Rattle.std.proofs.Common.{◌≡◌, ◌++◌, drop, string_bytes}
use Rattle.std.specs.List.{flat_map}
use Rattle.sefl_syntax.specs.JobText.{tag_line}
use Rattle.sefl_syntax.proofs.job_text.write_tags.Given as goal

-- what is written, and the text of what is left, are the whole
abbrev pub invariant-loop-tag : goal.invariant-loop-tag
invariant-loop-tag l =
    string_bytes l.out ++ flat_map tag_line (drop l.tag-index l.tags) ≡ string_bytes l.fn.out ++ flat_map tag_line l.tags
