-- What occurs in a job by name.
use Rattle.std.specs.Prelude.{ℕ, List}
use Rattle.sefl_syntax.specs.Trees.{JobTree}
use Rattle.job_names.specs.Occurrences.{meta_names, tag_names, patterns_of}

-- metadata names and tag names, each once, ascending by bytes; patterns, each once, with the site of its first For
pub record Names : Type 0 where
  pub metas : List (List ℕ)
  pub tags : List (List ℕ)
  pub patterns : List (List ℕ × ℕ)

abbrev pub names_of : JobTree → Names
names_of j = record { metas = meta_names j; tags = tag_names j; patterns = patterns_of j }
