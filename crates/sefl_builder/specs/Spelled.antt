-- The job that words spell.
use Rattle.std.specs.Prelude.{◌≡◌, List, Option, None, Some}
use Rattle.sefl_syntax.specs.Trees.{JobTree}
use Rattle.sefl_syntax.specs.Views.{job_tree}
use Rattle.sefl_syntax.specs.declared.job.Job.{Job}
use Rattle.sefl_builder.specs.Reading.{Found}
use Rattle.sefl_grammar.specs.Word.{Word, Placed, bare, AreShallow}
use Rattle.sefl_grammar.specs.Grammar.{IsJob}

-- the words, with some nesting that is no deeper than 64, are those of the job
pub record IsSpelled (job : JobTree) (words : List Word) : Type 0 where
  pub placed : List Placed
  pub words_are : bare placed ≡ words
  pub job_is : IsJob job placed
  pub shallow : AreShallow placed

-- what the program made is what was found, with nothing behind it
abbrev pub IsMade : Found JobTree → Option Job → Type 0
IsMade found None = found ≡ None
IsMade found (Some job) = (left : List Word) × (found ≡ Some (job_tree job, left))
