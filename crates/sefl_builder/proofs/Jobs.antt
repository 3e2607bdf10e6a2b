-- The job that the words of a text spell.
use Rattle.std.proofs.Common.{◌≡◌, ℕ, suc, List, [], ◌∷◌, Option, None, Some, MatchOption, Result, Ok, Err, IfOk, sym, ap, ◌∙◌, subst, arith}
use Rattle.std.proofs.lemmas.Option.{none-some, same_Some}
use Rattle.std.specs.List.{All}
use Rattle.sn_width.specs.declared.memory.NoMemory.{NoMemory}
use Rattle.sefl_lex.specs.declared.token.Token.{Token}
use Rattle.sefl_lex.specs.Reads.{IsTokenOf}
use Rattle.sefl_syntax.specs.Trees.{JobTree}
use Rattle.sefl_syntax.specs.Views.{job_tree}
use Rattle.sefl_syntax.specs.declared.job.Job.{Job}
use Rattle.sefl_grammar.specs.Word.{Word, AreWords, Placed, bare, AreShallow}
use Rattle.sefl_grammar.specs.Words.{words_of}
use Rattle.sefl_builder.specs.Reading.{Found}
use Rattle.sefl_builder.specs.Nets.{job}
use Rattle.sefl_builder.specs.Spelled.{IsSpelled, IsMade}
use Rattle.sefl_builder.proofs.Taking.{Fine}
use Rattle.sefl_builder.proofs.NetsRead.{job_read}

first_of : {X : Type 0} (P : X → Type 0) (x : X) (xs : List X) → All P (x ∷ xs) → P x
first_of P x xs h = h 0 x (omega arith)

rest_of : {X : Type 0} (P : X → Type 0) (x : X) (xs : List X) → All P (x ∷ xs) → All P xs
rest_of P x xs h k y below = h (suc k) y (omega arith)

are_words : (text : List ℕ) (tokens : List Token) → All (IsTokenOf text) tokens → AreWords (words_of text tokens)
are_words text [] lexed = tt
are_words text (t ∷ ts) lexed = ((first_of (IsTokenOf text) t ts lexed).word, are_words text ts (rest_of (IsTokenOf text) t ts lexed))

fine_words : (placed : List Placed) → AreWords (bare placed) → AreShallow placed → Fine placed
fine_words [] words shallow = tt
fine_words (p ∷ ps) words shallow = (words.0, shallow.0, fine_words ps words.1 shallow.1)

spelled_read : (words : List Word) (j : JobTree) → AreWords words → IsSpelled j words → job words ≡ Some (j, [])
spelled_read words j are s =
    ap job (sym s.words_are) ∙ job_read j s.placed s.job_is (fine_words s.placed (subst AreWords (sym s.words_are) are) s.shallow)

-- one value is found
abbrev before : JobTree → List Word → Found JobTree
before x left = Some (x, left)

same_found : (x y : JobTree) (left right : List Word) → before x left ≡ before y right → x ≡ y
same_found x y left right e =
    let first : JobTree × List Word → JobTree = λ p. p.0 in
    ap first (same_Some (x, left) (y, right) e)

-- words spell one job at most
pub one_job : (words : List Word) (j k : JobTree) → AreWords words → IsSpelled j words → IsSpelled k words → j ≡ k
one_job words j k are s t = same_found j k [] [] (sym (spelled_read words j are s) ∙ spelled_read words k are t)

-- what is made of a job's words is the job
made_spelled : (words : List Word) (j : JobTree) (made : Option Job) → AreWords words → IsSpelled j words → IsMade (job words) made → MatchOption made ⊥ (λ x. job_tree x ≡ j)
made_spelled words j None are s m = none-some (j, []) (sym m ∙ spelled_read words j are s)
made_spelled words j (Some x) are s (left, m) = same_found (job_tree x) j left [] (sym m ∙ spelled_read words j are s)

pub answer_spelled : (text : List ℕ) (tokens : List Token) (j : JobTree) (r : Result (Option Job) NoMemory) → All (IsTokenOf text) tokens → IsSpelled j (words_of text tokens)
    → IfOk r (IsMade (job (words_of text tokens))) → IfOk r (λ made. MatchOption made ⊥ (λ x. job_tree x ≡ j))
answer_spelled text tokens j (Ok made) lexed s m = made_spelled (words_of text tokens) j made (are_words text tokens lexed) s m
answer_spelled text tokens j (Err e) lexed s m = m
