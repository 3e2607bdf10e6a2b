-- The words of a text, and stacks as the program keeps them.
use Rattle.std.specs.Prelude.{◌≡◌, ℕ, Bool, true, false, List, map, Option, None, Some, Ok}
use Rattle.sefl_lex.specs.declared.token.Token.{Token}
use Rattle.sefl_lex.specs.Reads.{word_of, IsReadAs}
use Rattle.sefl_syntax.specs.JobText.{job_text}
use Rattle.sefl_syntax.specs.Trees.{JobTree}
use Rattle.sefl_grammar.specs.Word.{Word, Placed, bare, AreShallow, IsFirstDeep}
use Rattle.sefl_grammar.specs.Grammar.{IsJob, IsUnexpected}
use Rattle.sefl_grammar.specs.declared.symbol.Symbol.{Symbol}
use Rattle.sefl_grammar.specs.declared.examination.Finding.{Finding}
use Rattle.sefl_grammar.specs.declared.examination.Finding.TheVariants.{Job, TooDeep, Unexpected}

abbrev pub word_at : List ℕ → Token → Word
word_at text token = record { kind = token.kind; text = word_of text token }

-- the words of the tokens of a text
abbrev pub words_of : List ℕ → List Token → List Word
words_of text tokens = map (word_at text) tokens

-- whether a word was taken, and the stack that it leaves
abbrev pub Takes : Bool → Option (List Symbol) → List Symbol → Type 0
Takes true after new = after ≡ Some new
Takes false after new = after ≡ None

-- the place that is known, or the later one
abbrev pub or_later : Option ℕ → Option ℕ → Option ℕ
or_later (Some place) later = Some place
or_later None later = later

abbrev pub place_if : Bool → ℕ → Option ℕ
place_if true place = Some place
place_if false place = None

-- what the finding says of the words: those of a job, nested to 64 at most or past it, or of none
abbrev pub IsFound : List Word → Finding → Type 0
IsFound words Job = (j : JobTree) × (placed : List Placed) × (bare placed ≡ words) × IsJob j placed × AreShallow placed
IsFound words (TooDeep place) = (j : JobTree) × (placed : List Placed) × (bare placed ≡ words) × IsJob j placed × IsFirstDeep placed place
IsFound words (Unexpected place) = IsUnexpected words place

-- the finding at the end of the words
abbrev pub finding_of : Bool → Option ℕ → ℕ → Finding
finding_of true None count = Job
finding_of true (Some place) count = TooDeep place
finding_of false deep count = Unexpected count

-- the canonical text of the job has tokens, and they spell the job, nested to 64 at most
abbrev pub IsReadBack : JobTree → Type 0
IsReadBack j =
    (tokens : List Token) × IsReadAs (job_text j) (Ok tokens)
    × (placed : List Placed) × (bare placed ≡ words_of (job_text j) tokens) × IsJob j placed × AreShallow placed
