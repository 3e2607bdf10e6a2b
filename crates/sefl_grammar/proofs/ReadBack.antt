-- The text of a job is read as its words; and words have one nesting.
use Rattle.std.proofs.Common.{◌≡◌, List, [], ◌∷◌, refl, sym, ap, ◌∙◌, subst}
use Rattle.sefl_syntax.specs.Trees.{JobTree}
use Rattle.sefl_syntax.specs.JobText.{job_text}
use Rattle.sefl_grammar.specs.Word.{AreWords, Placed, bare, AreShallow}
use Rattle.sefl_grammar.specs.Grammar.{IsJob}
use Rattle.sefl_grammar.specs.Words.{IsReadBack}
use Rattle.sefl_grammar.proofs.Cut.{lexed}
use Rattle.sefl_grammar.proofs.Going.{placed_of}
use Rattle.sefl_grammar.proofs.Nets.{goes_job}
use Rattle.sefl_grammar.proofs.PrintedNets.{printed_job}
use Rattle.sefl_grammar.specs.declared.symbol.Symbol.TheVariants.{Start}

pub read_back : (j : JobTree) (placed : List Placed) → IsJob j placed → AreWords (bare placed) → AreShallow placed → IsReadBack j
read_back j placed is words shallow =
    let printed = printed_job j placed is words shallow in
    let cut = lexed (job_text j) (bare printed.placed) printed.cut 0 [] refl in
    (cut.tokens, cut.reads, printed.placed, sym cut.are, printed.spelled, printed.shallow)

nesting_of : (j : JobTree) (placed : List Placed) → IsJob j placed → AreWords (bare placed) → placed_of (Start ∷ []) (bare placed) ≡ placed
nesting_of j placed is words = (goes_job j placed is).places words refl

pub one_nesting : (j i : JobTree) (placed other : List Placed) → IsJob j placed → IsJob i other → AreWords (bare placed) → bare placed ≡ bare other → placed ≡ other
one_nesting j i placed other is is' words same =
    sym (nesting_of j placed is words) ∙ ap (placed_of (Start ∷ [])) same ∙ nesting_of i other is' (subst AreWords same words)
