-- Bytes are of one outcome.
use Rattle.std.proofs.Common.{◌≡◌, ℕ, zero, suc, ◌<◌, ◌≤◌, ◌⊎◌, inl, inr, List, [], ◌∷◌, ◌++◌, take, drop, length, All, Result, Ok, Err, refl, sym, ap, ◌∙◌, subst, true≢false, Bool, true, false, arith}
use Rattle.std.proofs.lemmas.List.{take-append-drop}
use Rattle.std.proofs.lemmas.List.Elements.{All-head, All-tail}
use Rattle.std.specs.Str.{IsUtf8}
use Rattle.std.specs.Str.Lossy.{utf8_valid_len}
use Rattle.sefl_lex.specs.Reads.{IsReadAs, IsTokenOf}
use Rattle.sefl_lex.specs.declared.token.Token.{Token}
use Rattle.sefl_lex.specs.declared.fault.LexFault.{LexFault}
use Rattle.sefl_syntax.specs.Trees.{JobTree}
use Rattle.sefl_grammar.specs.Word.{Word, AreWords, Placed, bare, AreShallow, IsFirstDeep}
use Rattle.sefl_grammar.specs.Grammar.{IsJob, AreJob, IsUnexpected}
use Rattle.sefl_syntax.specs.Views.{job_tree}
use Rattle.sefl_syntax.specs.declared.job.Job.{Job}
use Rattle.sefl_grammar.specs.Words.{words_of, IsFound}
use Rattle.sefl_grammar.specs.declared.examination.Finding.TheVariants.{Job as FoundJob}
use Rattle.sefl_builder.specs.Spelled.{IsSpelled}
use Rattle.sefl_reader.specs.Outcome.{Outcome, a_job, not_text, no_tokens, expected, too_deep, AreTokensOf, OpensTooMany, IsOutcome, Lexes, line_at, column_at, start_of}

-- what the laws of the crates below say
pub record Laws : Type 0 where
  pub one_nesting : (j i : JobTree) (placed other : List Placed) → IsJob j placed → IsJob i other → AreWords (bare placed) → bare placed ≡ bare other → placed ≡ other
  pub one_job : (words : List Word) (j k : JobTree) → AreWords words → IsSpelled j words → IsSpelled k words → j ≡ k

abbrev tokens_or : Result (List Token) LexFault → List Token → List Token
tokens_or (Ok tokens) other = tokens
tokens_or (Err fault) other = other

abbrev fault_or : Result (List Token) LexFault → LexFault → LexFault
fault_or (Ok tokens) other = other
fault_or (Err fault) other = fault

abbrev is_fault : Result (List Token) LexFault → Bool
is_fault (Ok tokens) = false
is_fault (Err fault) = true

same_tokens : (text : List ℕ) (tokens other : List Token) → Lexes text tokens → IsReadAs text (Ok other) → other ≡ tokens
same_tokens text tokens other l reads = ap (λ r. tokens_or r other) (l.only (Ok other) reads)

no_fault : (text : List ℕ) (tokens : List Token) (fault : LexFault) → Lexes text tokens → IsReadAs text (Err fault) → ⊥
no_fault text tokens fault l reads = true≢false (ap is_fault (l.only (Err fault) reads))

pub are_words : (text : List ℕ) (tokens : List Token) → All (IsTokenOf text) tokens → AreWords (words_of text tokens)
are_words text [] all = tt
are_words text (token ∷ tokens) all = ((All-head (IsTokenOf text) token tokens all).word, are_words text tokens (All-tail (IsTokenOf text) token tokens all))

drop_words : (n : ℕ) (words : List Word) → AreWords words → AreWords (drop n words)
drop_words zero words l = l
drop_words (suc n) [] l = tt
drop_words (suc n) (word ∷ words) l = drop_words n words l.1

take_words : (n : ℕ) (words : List Word) → AreWords words → AreWords (take n words)
take_words zero words l = tt
take_words (suc n) [] l = tt
take_words (suc n) (word ∷ words) l = (l.0, take_words n words l.1)

join_words : (words more : List Word) → AreWords words → AreWords more → AreWords (words ++ more)
join_words [] more l k = k
join_words (word ∷ words) more l k = (l.0, join_words words more l.1 k)

-- words of a job have no unexpected one
not_unexpected : (words : List Word) (place : ℕ) → AreWords words → AreJob words → IsUnexpected words place → ⊥
not_unexpected words place lexed job u = by (compare place (length words) u.within)
  where
    compare : (p n : ℕ) → p ≤ n → (p < n) ⊎ (p ≡ n)
    compare p n h = grind arith

    by : (place < length words) ⊎ (place ≡ length words) → ⊥
    by (inl less) = u.stuck less (drop (suc place) words) (drop_words (suc place) words lexed) (subst AreJob (sym (take-append-drop (suc place) words)) job)
    by (inr same) = u.unfinished same job

split_at : (p q : ℕ) (words : List Word) → p ≤ q → take q words ≡ take p words ++ drop p (take q words)
split_at zero q words h = refl
split_at (suc p) zero words h = absurd (omega (arith, h))
split_at (suc p) (suc q) [] h = refl
split_at (suc p) (suc q) (word ∷ words) h = ap (λ ws. word ∷ ws) (split_at p q words (omega (arith, h)))

assoc : (a b c : List Word) → (a ++ b) ++ c ≡ a ++ (b ++ c)
assoc [] b c = refl
assoc (x ∷ a) b c = ap (λ ws. x ∷ ws) (assoc a b c)

not_before : (words : List Word) (p q : ℕ) → AreWords words → IsUnexpected words p → IsUnexpected words q → p < q → ⊥
not_before words p q lexed u v less =
    let within = v.within in
    let more = v.begun in
    let later = drop (suc p) (take q words) in
    u.stuck (omega (arith, less, within)) (later ++ more.0) (join_words later more.0 (drop_words (suc p) (take q words) (take_words q words lexed)) more.1)
    (subst AreJob (ap (λ ws. ws ++ more.0) (split_at (suc p) q words (omega (arith, less))) ∙ assoc (take (suc p) words) later more.0) more.2)

same_place : (words : List Word) (p q : ℕ) → AreWords words → IsUnexpected words p → IsUnexpected words q → p ≡ q
same_place words p q lexed u v = by (compare p q)
  where
    compare : (p q : ℕ) → (p < q) ⊎ ((q < p) ⊎ (p ≡ q))
    compare p q = grind arith

    by : (p < q) ⊎ ((q < p) ⊎ (p ≡ q)) → p ≡ q
    by (inl less) = absurd (not_before words p q lexed u v less)
    by (inr (inl more)) = absurd (not_before words q p lexed v u more)
    by (inr (inr same)) = same

-- depth
shallow_at : (before after : List Placed) (p : Placed) → AreShallow (before ++ p ∷ after) → p.depth ≤ 64
shallow_at [] after p s = s.0
shallow_at (x ∷ before) after p s = shallow_at before after p s.1

not_deep : (placed : List Placed) (place : ℕ) → AreShallow placed → IsFirstDeep placed place → ⊥
not_deep placed place s (before, p, after, same, count, shallow, deep) =
    let low = shallow_at before after p (subst AreShallow same s) in omega (arith, low, deep)

abbrev depth_first : List Placed → ℕ
depth_first [] = 0
depth_first (p ∷ ps) = p.depth

abbrev without_first : List Placed → List Placed
without_first [] = []
without_first (p ∷ ps) = ps

same_length : (b c a d : List Placed) (p q : Placed) → b ++ p ∷ a ≡ c ++ q ∷ d → AreShallow b → AreShallow c → 64 < p.depth → 64 < q.depth → length b ≡ length c
same_length [] [] a d p q e s t h k = refl
same_length [] (x ∷ c) a d p q e s t h k = let low = t.0 in let same = ap depth_first e in absurd (omega (arith, low, same, h))
same_length (x ∷ b) [] a d p q e s t h k = let low = s.0 in let same = ap depth_first e in absurd (omega (arith, low, same, k))
same_length (x ∷ b) (y ∷ c) a d p q e s t h k = ap suc (same_length b c a d p q (ap without_first e) s.1 t.1 h k)

same_deep : (placed : List Placed) (m n : ℕ) → IsFirstDeep placed m → IsFirstDeep placed n → m ≡ n
same_deep placed m n (b, p, a, e, count, s, deep) (c, q, d, e', count', s', deep') = sym count ∙ same_length b c a d p q (sym e ∙ e') s s' deep deep' ∙ count'

spelled : (j : JobTree) (text : List ℕ) (tokens : List Token) → AreTokensOf j text tokens → IsSpelled j (words_of text tokens)
spelled j text tokens (placed, same, is, shallow) = record { placed = placed; words_are = same; job_is = is; shallow = shallow }

are_job : (j : JobTree) (text : List ℕ) (tokens : List Token) → AreTokensOf j text tokens → AreJob (words_of text tokens)
are_job j text tokens (placed, same, is, shallow) = (j, placed, same, is)

deep_job : (text : List ℕ) (tokens : List Token) (place : ℕ) → OpensTooMany text tokens place → AreJob (words_of text tokens)
deep_job text tokens place (j, placed, same, is, deep) = (j, placed, same, is)

not_both : (laws : Laws) (j : JobTree) (text : List ℕ) (tokens : List Token) (place : ℕ) → Lexes text tokens → AreTokensOf j text tokens → OpensTooMany text tokens place → ⊥
not_both laws j text tokens place l (placed, same, is, shallow) (i, other, same', is', deep) =
    let words = subst AreWords (sym same) (are_words text tokens l.spans) in
    not_deep placed place shallow (subst (λ x. IsFirstDeep x place) (sym (laws.one_nesting j i placed other is is' words (same ∙ sym same'))) deep)

-- the outcomes of a text that has tokens
pub only_job : (laws : Laws) (j : JobTree) (text : List ℕ) (tokens : List Token) → Lexes text tokens → AreTokensOf j text tokens → (outcome : Outcome) → IsOutcome text outcome → outcome ≡ a_job j
only_job laws j text tokens l is (a_job i) (utf8, other, reads, is') =
    ap a_job (laws.one_job (words_of text tokens) i j (are_words text tokens l.spans) (spelled i text tokens (subst (AreTokensOf i text) (same_tokens text tokens other l reads) is')) (spelled j text tokens is))
only_job laws j text tokens l is (not_text at) (no_utf8, at_is) = absurd (no_utf8 l.utf8)
only_job laws j text tokens l is (no_tokens fault) (utf8, reads) = absurd (no_fault text tokens fault l reads)
only_job laws j text tokens l is (expected line column) (utf8, other, reads, place, u, line_is, column_is) =
    absurd (not_unexpected (words_of text tokens) place (are_words text tokens l.spans) (are_job j text tokens is) (subst (λ ts. IsUnexpected (words_of text ts) place) (same_tokens text tokens other l reads) u))
only_job laws j text tokens l is (too_deep line) (utf8, other, reads, place, deep, line_is) =
    absurd (not_both laws j text tokens place l is (subst (λ ts. OpensTooMany text ts place) (same_tokens text tokens other l reads) deep))

pub only_deep : (laws : Laws) (place : ℕ) (text : List ℕ) (tokens : List Token) → Lexes text tokens → OpensTooMany text tokens place → (outcome : Outcome) → IsOutcome text outcome → outcome ≡ too_deep (line_at text (start_of text tokens place))
only_deep laws place text tokens l deep (a_job i) (utf8, other, reads, is') =
    absurd (not_both laws i text tokens place l (subst (AreTokensOf i text) (same_tokens text tokens other l reads) is') deep)
only_deep laws place text tokens l deep (not_text at) (no_utf8, at_is) = absurd (no_utf8 l.utf8)
only_deep laws place text tokens l deep (no_tokens fault) (utf8, reads) = absurd (no_fault text tokens fault l reads)
only_deep laws place text tokens l deep (expected line column) (utf8, other, reads, p, u, line_is, column_is) =
    absurd (not_unexpected (words_of text tokens) p (are_words text tokens l.spans) (deep_job text tokens place deep) (subst (λ ts. IsUnexpected (words_of text ts) p) (same_tokens text tokens other l reads) u))
only_deep laws place text tokens l (j, placed, same, is, deep) (too_deep line) (utf8, other, reads, p, deep', line_is) =
    let e = same_tokens text tokens other l reads in
    let there : OpensTooMany text tokens p = subst (λ ts. OpensTooMany text ts p) e deep' in
    let words = subst AreWords (sym same) (are_words text tokens l.spans) in
    let nesting = laws.one_nesting j there.0 placed there.1 is there.3 words (same ∙ sym there.2) in
    let places = same_deep placed place p deep (subst (λ x. IsFirstDeep x p) (sym nesting) there.4) in
    ap too_deep (line_is ∙ (λ i. line_at text (start_of text (e i) (sym places i))))

pub only_expected : (place : ℕ) (text : List ℕ) (tokens : List Token) → Lexes text tokens → IsUnexpected (words_of text tokens) place → (outcome : Outcome) → IsOutcome text outcome
    → outcome ≡ expected (line_at text (start_of text tokens place)) (column_at text (start_of text tokens place))
only_expected place text tokens l u (a_job i) (utf8, other, reads, is') =
    absurd (not_unexpected (words_of text tokens) place (are_words text tokens l.spans) (are_job i text tokens (subst (AreTokensOf i text) (same_tokens text tokens other l reads) is')) u)
only_expected place text tokens l u (not_text at) (no_utf8, at_is) = absurd (no_utf8 l.utf8)
only_expected place text tokens l u (no_tokens fault) (utf8, reads) = absurd (no_fault text tokens fault l reads)
only_expected place text tokens l u (too_deep line) (utf8, other, reads, p, deep, line_is) =
    absurd (not_unexpected (words_of text tokens) place (are_words text tokens l.spans) (deep_job text tokens p (subst (λ ts. OpensTooMany text ts p) (same_tokens text tokens other l reads) deep)) u)
only_expected place text tokens l u (expected line column) (utf8, other, reads, p, u', line_is, column_is) =
    let e = same_tokens text tokens other l reads in
    let places = same_place (words_of text tokens) p place (are_words text tokens l.spans) (subst (λ ts. IsUnexpected (words_of text ts) p) e u') u in
    λ i. expected ((line_is ∙ (λ k. line_at text (start_of text (e k) (places k)))) i) ((column_is ∙ (λ k. column_at text (start_of text (e k) (places k)))) i)

-- the outcome of a text that has no tokens
pub only_fault : (fault : LexFault) (text : List ℕ) → IsUtf8 text → ((answer : Result (List Token) LexFault) → IsReadAs text answer → answer ≡ Err fault) → (outcome : Outcome) → IsOutcome text outcome → outcome ≡ no_tokens fault
only_fault fault text utf8 only (a_job i) (_, other, reads, is) = absurd (true≢false (sym (ap is_fault (only (Ok other) reads))))
only_fault fault text utf8 only (not_text at) (no_utf8, at_is) = absurd (no_utf8 utf8)
only_fault fault text utf8 only (no_tokens other) (_, reads) = ap no_tokens (ap (λ r. fault_or r other) (only (Err other) reads))
only_fault fault text utf8 only (expected line column) (_, other, reads, place, u, line_is, column_is) = absurd (true≢false (sym (ap is_fault (only (Ok other) reads))))
only_fault fault text utf8 only (too_deep line) (_, other, reads, place, deep, line_is) = absurd (true≢false (sym (ap is_fault (only (Ok other) reads))))

-- the outcome of bytes that are no text
pub only_bytes : (at : ℕ) (bytes : List ℕ) → (IsUtf8 bytes → ⊥) → at ≡ utf8_valid_len bytes → (outcome : Outcome) → IsOutcome bytes outcome → outcome ≡ not_text at
only_bytes at bytes no_utf8 at_is (a_job i) (utf8, other, reads, is) = absurd (no_utf8 utf8)
only_bytes at bytes no_utf8 at_is (not_text other) (no', other_is) = ap not_text (other_is ∙ sym at_is)
only_bytes at bytes no_utf8 at_is (no_tokens fault) (utf8, reads) = absurd (no_utf8 utf8)
only_bytes at bytes no_utf8 at_is (expected line column) (utf8, other, reads, place, u, line_is, column_is) = absurd (no_utf8 utf8)
only_bytes at bytes no_utf8 at_is (too_deep line) (utf8, other, reads, place, deep, line_is) = absurd (no_utf8 utf8)

-- the job that was made of tokens that are a job's
pub made_is : (text : List ℕ) (tokens : List Token) (job : Job) → IsFound (words_of text tokens) FoundJob → ((j : JobTree) → IsSpelled j (words_of text tokens) → job_tree job ≡ j) → AreTokensOf (job_tree job) text tokens
made_is text tokens job (j, placed, same, is, shallow) made =
    let tree : job_tree job ≡ j = made j (spelled j text tokens (placed, same, is, shallow)) in
    (placed, same, subst (λ t. IsJob t placed) (sym tree) is, shallow)

pub made_some : (text : List ℕ) (tokens : List Token) → IsFound (words_of text tokens) FoundJob → ((j : JobTree) → IsSpelled j (words_of text tokens) → ⊥) → ⊥
made_some text tokens (j, placed, same, is, shallow) made = made j (spelled j text tokens (placed, same, is, shallow))
