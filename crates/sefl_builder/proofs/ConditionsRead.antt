-- Conditions are read.
use Rattle.std.proofs.Common.{◌≡◌, ℕ, zero, suc, ◌+◌, inl, inr, ◌||◌, Bool, true, false, List, [], ◌∷◌, Some, bytes_eq, codes, if◌then◌else◌, refl, sym, ap, ◌∙◌, subst, arith}
use Rattle.sn_width.specs.declared.rel.Rel.{Rel}
use Rattle.sn_width.specs.declared.rel.Rel.TheVariants.{Eq, Ne, Lt, Le, Gt, Ge}
use Rattle.sefl_lex.specs.Words.{is_number, are_digits, have_value}
use Rattle.sefl_lex.specs.declared.token.TokenKind.{TokenKind}
use Rattle.sefl_syntax.specs.declared.reference.Scope.TheVariants.{Global, Local}
use Rattle.sefl_syntax.specs.declared.reference.Target.{Target}
use Rattle.sefl_syntax.specs.declared.reference.Target.TheVariants.{Header, Meta, Bound}
use Rattle.sefl_syntax.specs.Trees.{ExprTree, CondTree, CondTrees, always, compare, member, all_of, any_of, negation, cond_and as cond_tree_and}
use Rattle.sefl_syntax.specs.Views.{conds_of}
use Rattle.sefl_grammar.specs.Word.{Word, Placed, bare}
use Rattle.sefl_grammar.specs.Grammar as grammar
use Rattle.sefl_grammar.specs.Grammar.{◌⨾◌, all_from, any_from, IsOperand, literal, read, grouped, IsExpr, members, IsNeg, opposite as is_opposite, truth as is_truth, bracketed, comparison, membership, IsConj, all as is_all, AreNegs, no_neg, and_neg, IsCond, any as is_any, AreConjs, no_conj, or_conj}
use Rattle.sefl_builder.specs.Reading.{Reader, then', begins_with, begins_number}
use Rattle.sefl_builder.specs.Leaves.{key, skip, number}
use Rattle.sefl_builder.specs.Terms.{goes_sum, expr}
use Rattle.sefl_builder.specs.Conditions.{rel_ahead, rel, range, goes_comma, next_range, ranges, goes_expr, braced_ranges, atom, truth, goes_and, goes_or, neg, next_neg, conj, next_conj, cond, opposite, bracket, neg_by}
use Rattle.sefl_builder.proofs.Rooms.{neg_is}
use Rattle.sefl_builder.proofs.Taking.{Fine, Takes, Steps, TakesMany, done, next, if_so, if_not, as_read, takes_key, steps_key, key_depth, begins, at_key, takes_skip, takes_known, many_none, many_one, takes_added, takes_chain, some_of, joined}
use Rattle.sefl_builder.proofs.LeavesRead.{takes_number, begins_as_number, key_is_no_number}
use Rattle.sefl_builder.proofs.TermsRead.{no_sum, takes_expr, target_is_no_number, group_is_no_number}

rel_comes : (r : Rel) (d : ℕ) (b a : List Placed) → grammar.rel r d b a → rel_ahead (bare b) ≡ Some r
unfolding rel_ahead
rel_comes Eq d b a is = at_key rel_ahead (codes "==") d b a is (Some Eq) (λ k. refl)
rel_comes Ne d b a is = at_key rel_ahead (codes "!=") d b a is (Some Ne) (λ k. refl)
rel_comes Lt d b a is = at_key rel_ahead (codes "<") d b a is (Some Lt) (λ k. refl)
rel_comes Le d b a is = at_key rel_ahead (codes "<=") d b a is (Some Le) (λ k. refl)
rel_comes Gt d b a is = at_key rel_ahead (codes ">") d b a is (Some Gt) (λ k. refl)
rel_comes Ge d b a is = at_key rel_ahead (codes ">=") d b a is (Some Ge) (λ k. refl)

rel_skips : (r : Rel) (d : ℕ) (b a : List Placed) → grammar.rel r d b a → Fine b → Takes skip tt b a
rel_skips Eq d b a is l = takes_skip (codes "==") d b a is l
rel_skips Ne d b a is l = takes_skip (codes "!=") d b a is l
rel_skips Lt d b a is l = takes_skip (codes "<") d b a is l
rel_skips Le d b a is l = takes_skip (codes "<=") d b a is l
rel_skips Gt d b a is l = takes_skip (codes ">") d b a is l
rel_skips Ge d b a is l = takes_skip (codes ">=") d b a is l

rel_at : (f : List Word → Bool) (r : Rel) (d : ℕ) (b a : List Placed) → grammar.rel r d b a
    → ((k : TokenKind) → f (record { kind = k; text = codes "==" } ∷ bare a) ≡ false) → ((k : TokenKind) → f (record { kind = k; text = codes "!=" } ∷ bare a) ≡ false)
    → ((k : TokenKind) → f (record { kind = k; text = codes "<" } ∷ bare a) ≡ false) → ((k : TokenKind) → f (record { kind = k; text = codes "<=" } ∷ bare a) ≡ false)
    → ((k : TokenKind) → f (record { kind = k; text = codes ">" } ∷ bare a) ≡ false) → ((k : TokenKind) → f (record { kind = k; text = codes ">=" } ∷ bare a) ≡ false)
    → f (bare b) ≡ false
rel_at f Eq d b a is eq ne lt le gt ge = at_key f (codes "==") d b a is false eq
rel_at f Ne d b a is eq ne lt le gt ge = at_key f (codes "!=") d b a is false ne
rel_at f Lt d b a is eq ne lt le gt ge = at_key f (codes "<") d b a is false lt
rel_at f Le d b a is eq ne lt le gt ge = at_key f (codes "<=") d b a is false le
rel_at f Gt d b a is eq ne lt le gt ge = at_key f (codes ">") d b a is false gt
rel_at f Ge d b a is eq ne lt le gt ge = at_key f (codes ">=") d b a is false ge

takes_rel : (r : Rel) (d : ℕ) (b a : List Placed) → grammar.rel r d b a → Fine b → Takes rel r b a
unfolding rel
takes_rel r d b a is l = takes_known rel_ahead _ r r b a (rel_comes r d b a is) (next _ _ tt r b a a (rel_skips r d b a is l) (λ f. done r a a refl f))

-- ranges
abbrev last_of : ℕ → Reader (ℕ × ℕ)
last_of first ws = then' (key (codes "..") ws) (λ _ ws. then' (number ws) (λ last ws. Some ((first, last), ws)))

takes_range : (r : ℕ × ℕ) (d : ℕ) (b a : List Placed) → grammar.range r d b a → begins_with (codes "..") (bare a) ≡ false → Fine b → Takes range r b a
unfolding range
takes_range r d b a (inl (m, first, (m', dots, last))) stop l =
    next _ _ r.0 r b m a (takes_number r.0 d b m first l) (λ f.
    if_so (begins_with (codes "..")) (last_of r.0) (λ ws. Some ((r.0, r.0), ws)) r m a (begins (codes "..") (codes "..") true d m m' dots refl)
    (next _ _ tt r m m' a (takes_key (codes "..") d m m' dots f) (λ f. next _ _ r.1 r m' a a (takes_number r.1 d m' a last f) (λ f. done r a a refl f))))
takes_range r d b a (inr (same, first)) stop l =
    next _ _ r.0 r b a a (takes_number r.0 d b a first l) (λ f.
    if_not (begins_with (codes "..")) (last_of r.0) (λ ws. Some ((r.0, r.0), ws)) r a a stop (subst (λ n. Takes {A = ℕ × ℕ} (λ ws. Some ((r.0, r.0), ws)) (r.0, n) a a) (sym same) (done (r.0, r.0) a a refl f)))

no_dots : (rs : List (ℕ × ℕ)) (d : ℕ) (b a : List Placed) → grammar.more_ranges rs d b a → begins_with (codes "..") (bare a) ≡ false → begins_with (codes "..") (bare b) ≡ false
no_dots [] d b a is stop = ap (λ m. begins_with (codes "..") (bare m)) is ∙ stop
no_dots (r ∷ rs) d b a (x, comma, is) stop = begins (codes ",") (codes "..") false d b x comma refl

takes_more_ranges : (rs : List (ℕ × ℕ)) (d : ℕ) (b a : List Placed) → grammar.more_ranges rs d b a → begins_with (codes "..") (bare a) ≡ false → goes_comma (bare a) ≡ false → Fine b → TakesMany goes_comma next_range rs b a
unfolding next_range
takes_more_ranges [] d b a is dots commas l = many_none goes_comma next_range b a is l commas
takes_more_ranges (r ∷ rs) d b a (x, comma, (y, first, others)) dots commas l =
    many_one goes_comma next_range r rs b y a (begins (codes ",") (codes ",") true d b x comma refl)
    (steps_key (codes ",") _ r d b x y comma l (λ f. takes_range r d x y first (no_dots rs d y a others dots) f))
    (λ f. takes_more_ranges rs d y a others dots commas f)

takes_ranges : (rs : List (ℕ × ℕ)) (d : ℕ) (b m a : List Placed) → grammar.ranges rs d b m → grammar.key (codes "}") d m a → Fine b → Takes ranges rs b m
unfolding ranges
takes_ranges [] d b m a is close l = absurd is
takes_ranges (r ∷ rs) d b m a (x, first, others) close l =
    let dots : begins_with (codes "..") (bare m) ≡ false = begins (codes "}") (codes "..") false d m a close refl in
    let commas : goes_comma (bare m) ≡ false = begins (codes "}") (codes ",") false d m a close refl in
    next _ _ r (r ∷ rs) b x m (takes_range r d b x first (no_dots rs d x m others dots) l)
    (λ f. takes_added goes_comma next_range r rs x m (takes_more_ranges rs d x m others dots commas f))

takes_braced : (rs : List (ℕ × ℕ)) (d : ℕ) (b a : List Placed) → (grammar.key (codes "in") ⨾ grammar.key (codes "{") ⨾ grammar.ranges rs ⨾ grammar.key (codes "}")) d b a → Fine b → Takes braced_ranges rs b a
unfolding braced_ranges
takes_braced rs d b a (m1, word, (m2, brace, (m3, is, close))) l =
    next _ _ tt rs b m1 a (takes_key (codes "in") d b m1 word l) (λ f. next _ _ tt rs m1 m2 a (takes_key (codes "{") d m1 m2 brace f) (λ f.
    next _ _ rs rs m2 m3 a (takes_ranges rs d m2 m3 a is close f) (λ f. next _ _ tt rs m3 a a (takes_key (codes "}") d m3 a close f) (λ f. done rs a a refl f))))

-- an expression is known by its first word
number_goes : (n d : ℕ) (b a : List Placed) → grammar.number n d b a → goes_expr (bare b) ≡ true
unfolding goes_expr
number_goes n d b a is = rw (begins_as_number n d b a is) refl

word_goes : (t : List ℕ) (d : ℕ) (b a : List Placed) → grammar.key t d b a → begins_number (bare b) ≡ false
    → (bytes_eq t (codes "(") || bytes_eq t (codes "head") || bytes_eq t (codes "global") || bytes_eq t (codes "local") || bytes_eq t (codes "$")) ≡ true → goes_expr (bare b) ≡ true
unfolding goes_expr
word_goes t d b a is none h =
    rw (none, begins t (codes "(") _ d b a is refl, begins t (codes "head") _ d b a is refl, begins t (codes "global") _ d b a is refl, begins t (codes "local") _ d b a is refl, begins t (codes "$") _ d b a is refl) h

target_goes : (t : Target) (d : ℕ) (b a : List Placed) → grammar.target t d b a → Fine b → goes_expr (bare b) ≡ true
target_goes (Header x w) d b a (m, word, is) l = word_goes (codes "head") d b m word (target_is_no_number (Header x w) d b a (m, word, is) l) refl
target_goes (Meta Global n w) d b a (m, word, is) l = word_goes (codes "global") d b m word (target_is_no_number (Meta Global n w) d b a (m, word, is) l) refl
target_goes (Meta Local n w) d b a (m, word, is) l = word_goes (codes "local") d b m word (target_is_no_number (Meta Local n w) d b a (m, word, is) l) refl
target_goes (Bound n w) d b a (m, word, is) l = word_goes (codes "$") d b m word (target_is_no_number (Bound n w) d b a (m, word, is) l) refl

operand_goes : {e : ExprTree} (d : ℕ) (b a : List Placed) → IsOperand e d b a → Fine b → goes_expr (bare b) ≡ true
operand_goes d b a (literal {n} is) l = number_goes n d b a is
operand_goes d b a (read {t} is) l = target_goes t d b a is l
operand_goes d b a (grouped inside closing open' is close) l = word_goes (codes "(") (suc d) b inside open' (group_is_no_number (suc d) b inside open' l) refl

pub expr_goes : {e : ExprTree} (d : ℕ) (b a : List Placed) → IsExpr e d b a → Fine b → goes_expr (bare b) ≡ true
expr_goes d b a (members m is others) l = operand_goes d b m is l

-- another word begins none
pub no_expr : (t : List ℕ) (d : ℕ) (b a : List Placed) → grammar.key t d b a → Fine b → is_number t ≡ false
    → (bytes_eq t (codes "(") || bytes_eq t (codes "head") || bytes_eq t (codes "global") || bytes_eq t (codes "local") || bytes_eq t (codes "$")) ≡ false → goes_expr (bare b) ≡ false
unfolding goes_expr
no_expr t d b a is l none h =
    rw (key_is_no_number t d b a is l none, begins t (codes "(") _ d b a is refl, begins t (codes "head") _ d b a is refl, begins t (codes "global") _ d b a is refl, begins t (codes "local") _ d b a is refl, begins t (codes "$") _ d b a is refl) h

not_is_no_expr : (d : ℕ) (b a : List Placed) → grammar.key (codes "not") d b a → Fine b → goes_expr (bare b) ≡ false
unfolding is_number are_digits have_value
not_is_no_expr d b a is l = no_expr (codes "not") d b a is l refl refl

bracket_is_no_expr : (d : ℕ) (b a : List Placed) → grammar.key (codes "[") d b a → Fine b → goes_expr (bare b) ≡ false
unfolding is_number are_digits have_value
bracket_is_no_expr d b a is l = no_expr (codes "[") d b a is l refl refl

true_is_no_expr : (d : ℕ) (b a : List Placed) → grammar.key (codes "true") d b a → Fine b → goes_expr (bare b) ≡ false
unfolding is_number are_digits have_value
true_is_no_expr d b a is l = no_expr (codes "true") d b a is l refl refl

-- atoms
abbrev member_of : ExprTree → Reader CondTree
member_of left ws = then' (braced_ranges ws) (λ rs ws. Some (member left rs, ws))

abbrev compare_of : ExprTree → ℕ → Reader CondTree
compare_of left room ws = then' (rel ws) (λ r ws. then' (expr room ws) (λ right ws. Some (compare r left right, ws)))

takes_compare : (r : Rel) (left right : ExprTree) (d room : ℕ) (b a : List Placed) → (IsExpr left ⨾ grammar.rel r ⨾ IsExpr right) d b a → goes_sum (bare a) ≡ false → d + room ≡ 64 → Fine b → Takes (atom room) (compare r left right) b a
unfolding atom
takes_compare r left right d room b a (m, first, (m', is, second)) stop h l =
    next _ _ left (compare r left right) b m a (takes_expr d room b m first (rel_at goes_sum r d m m' is (λ k. refl) (λ k. refl) (λ k. refl) (λ k. refl) (λ k. refl) (λ k. refl)) h l) (λ f.
    if_not (begins_with (codes "in")) (member_of left) (compare_of left room) (compare r left right) m a (rel_at (begins_with (codes "in")) r d m m' is (λ k. refl) (λ k. refl) (λ k. refl) (λ k. refl) (λ k. refl) (λ k. refl))
    (next _ _ r (compare r left right) m m' a (takes_rel r d m m' is f) (λ f.
    next _ _ right (compare r left right) m' a a (takes_expr d room m' a second stop h f) (λ f. done (compare r left right) a a refl f))))

takes_member : (value : ExprTree) (rs : List (ℕ × ℕ)) (d room : ℕ) (b a : List Placed) → (IsExpr value ⨾ grammar.key (codes "in") ⨾ grammar.key (codes "{") ⨾ grammar.ranges rs ⨾ grammar.key (codes "}")) d b a → d + room ≡ 64 → Fine b → Takes (atom room) (member value rs) b a
unfolding atom
takes_member value rs d room b a (m, first, (m1, word, is)) h l =
    next _ _ value (member value rs) b m a (takes_expr d room b m first (no_sum (codes "in") d m m1 word refl refl) h l) (λ f.
    if_so (begins_with (codes "in")) (member_of value) (compare_of value room) (member value rs) m a (begins (codes "in") (codes "in") true d m m1 word refl)
    (next _ _ rs (member value rs) m a a (takes_braced rs d m a (m1, word, is) f) (λ f. done (member value rs) a a refl f)))

-- nothing goes on behind a condition
pub record Stops (ws : List Word) : Type 0 where
  pub sums : goes_sum ws ≡ false
  pub ands : goes_and ws ≡ false
  pub ors : goes_or ws ≡ false

pub stops_at : (t : List ℕ) (d : ℕ) (b a : List Placed) → grammar.key t d b a → bytes_eq t (codes "+") ≡ false → bytes_eq t (codes "-") ≡ false → bytes_eq t (codes "and") ≡ false → bytes_eq t (codes "or") ≡ false → Stops (bare b)
stops_at t d b a is plus minus and' or' = record {
  sums = no_sum t d b a is plus minus;
  ands = begins t (codes "and") false d b a is and';
  ors = begins t (codes "or") false d b a is or';
}

-- the members of a chain behind the first, as a list
record Chain (goes : List Word → Bool) (item : Reader CondTree) (rest : CondTrees) (b a : List Placed) : Type 0 where
  cs : List CondTree
  are : conds_of cs ≡ rest
  begun : goes (bare b) ≡ some_of cs
  takes : TakesMany goes item cs b a

all_joined : (first : CondTree) (cs : List CondTree) → joined (λ l. all_of (conds_of l)) first cs ≡ all_from first (conds_of cs)
all_joined first [] = refl
all_joined first (c ∷ cs) = refl

any_joined : (first : CondTree) (cs : List CondTree) → joined (λ l. any_of (conds_of l)) first cs ≡ any_from first (conds_of cs)
any_joined first [] = refl
any_joined first (c ∷ cs) = refl

makes_conj : (first : CondTree) (rest : CondTrees) (room : ℕ) (b m a : List Placed) → Takes (neg room) first b m → (Fine m → Chain goes_and (next_neg room) rest m a) → Takes (conj room) (all_from first rest) b a
unfolding conj
makes_conj first rest room b m a f s =
    let chain : Chain goes_and (next_neg room) rest m a = s f.fine in
    subst (λ x. Takes (conj room) x b a) (all_joined first chain.cs ∙ ap (all_from first) chain.are)
    (next _ _ first _ b m a f (λ f. takes_chain goes_and (next_neg room) (λ l. all_of (conds_of l)) first chain.cs m a chain.begun chain.takes))

makes_cond : (first : CondTree) (rest : CondTrees) (room : ℕ) (b m a : List Placed) → Takes (conj room) first b m → (Fine m → Chain goes_or (next_conj room) rest m a) → Takes (cond room) (any_from first rest) b a
unfolding cond
makes_cond first rest room b m a f s =
    let chain : Chain goes_or (next_conj room) rest m a = s f.fine in
    subst (λ x. Takes (cond room) x b a) (any_joined first chain.cs ∙ ap (any_from first) chain.are)
    (next _ _ first _ b m a f (λ f. takes_chain goes_or (next_conj room) (λ l. any_of (conds_of l)) first chain.cs m a chain.begun chain.takes))

takes_opposite : (c : CondTree) (d room : ℕ) (b inside a : List Placed) → grammar.key (codes "not") (suc d) b inside
    → ((r : ℕ) → suc d + r ≡ 64 → Fine inside → Takes (neg r) c inside a) → d + room ≡ 64 → Fine b → Takes (opposite room) (negation c) b a
unfolding opposite
takes_opposite c d zero b inside a word within h l = absurd (omega (arith, key_depth (codes "not") (suc d) b inside word l))
takes_opposite c d (suc r) b inside a word within h l =
    next _ _ tt (negation c) b inside a (takes_key (codes "not") (suc d) b inside word l) (λ f.
    next _ _ c (negation c) inside a a (within r (omega arith) f) (λ f. done (negation c) a a refl f))

takes_bracket : (c : CondTree) (d room : ℕ) (b inside closing a : List Placed) → grammar.key (codes "[") (suc d) b inside
    → ((r : ℕ) → suc d + r ≡ 64 → Fine inside → Takes (cond r) c inside closing) → grammar.key (codes "]") d closing a → d + room ≡ 64 → Fine b → Takes (bracket room) c b a
unfolding bracket
takes_bracket c d zero b inside closing a open' within close h l = absurd (omega (arith, key_depth (codes "[") (suc d) b inside open' l))
takes_bracket c d (suc r) b inside closing a open' within close h l =
    next _ _ tt c b inside a (takes_key (codes "[") (suc d) b inside open' l) (λ f.
    next _ _ c c inside closing a (within r (omega arith) f) (λ f.
    next _ _ tt c closing a a (takes_key (codes "]") d closing a close f) (λ f. done c a a refl f)))

takes_truth : (d : ℕ) (b a : List Placed) → grammar.key (codes "true") d b a → Fine b → Takes truth always b a
unfolding truth
takes_truth d b a is l = next _ _ tt always b a a (takes_key (codes "true") d b a is l) (λ f. done always a a refl f)

abbrev opens : ℕ → Reader CondTree
opens room ws = if begins_with (codes "[") ws then bracket room ws else truth ws

abbrev turns : ℕ → Reader CondTree
turns room ws = if begins_with (codes "not") ws then opposite room ws else opens room ws

by_first : (c : CondTree) (room : ℕ) (b a : List Placed) → Takes (neg_by (opposite room) (bracket room) room) c b a → Takes (neg room) c b a
by_first c room b a f = as_read (neg room) (neg_by (opposite room) (bracket room) room) c b a (neg_is room (bare b)) f

by_atom : (c : CondTree) (room : ℕ) (b a : List Placed) → goes_expr (bare b) ≡ true → Takes (atom room) c b a → Takes (neg room) c b a
by_atom c room b a g f = by_first c room b a (if_so goes_expr (atom room) (turns room) c b a g f)

-- behind a member, a sum does not go on
negs_no_sum : {cs : CondTrees} (d : ℕ) (b a : List Placed) → AreNegs cs d b a → goes_sum (bare a) ≡ false → goes_sum (bare b) ≡ false
negs_no_sum d b a (no_neg is) stop = ap (λ m. goes_sum (bare m)) is ∙ stop
negs_no_sum d b a (and_neg first m word is others) stop = no_sum (codes "and") d b first word refl refl

conjs_no_sum : {cs : CondTrees} (d : ℕ) (b a : List Placed) → AreConjs cs d b a → goes_sum (bare a) ≡ false → goes_sum (bare b) ≡ false
conjs_no_sum d b a (no_conj is) stop = ap (λ m. goes_sum (bare m)) is ∙ stop
conjs_no_sum d b a (or_conj first m word is others) stop = no_sum (codes "or") d b first word refl refl

conjs_no_and : {cs : CondTrees} (d : ℕ) (b a : List Placed) → AreConjs cs d b a → goes_and (bare a) ≡ false → goes_and (bare b) ≡ false
conjs_no_and d b a (no_conj is) stop = ap (λ m. goes_and (bare m)) is ∙ stop
conjs_no_and d b a (or_conj first m word is others) stop = begins (codes "or") (codes "and") false d b first word refl

mutual
  unfolding next_neg next_conj

  takes_neg : {c : CondTree} (d room : ℕ) (b a : List Placed) → IsNeg c d b a → goes_sum (bare a) ≡ false → d + room ≡ 64 → Fine b → Takes (neg room) c b a
  takes_neg d room b a (is_opposite {c} inside word is) stop h l =
      by_first (negation c) room b a (if_not goes_expr (atom room) (turns room) (negation c) b a (not_is_no_expr (suc d) b inside word l)
      (if_so (begins_with (codes "not")) (opposite room) (opens room) (negation c) b a (begins (codes "not") (codes "not") true (suc d) b inside word refl)
      (takes_opposite c d room b inside a word (λ r k f. takes_neg (suc d) r inside a is stop k f) h l)))
  takes_neg d room b a (is_truth is) stop h l =
      by_first always room b a (if_not goes_expr (atom room) (turns room) always b a (true_is_no_expr d b a is l)
      (if_not (begins_with (codes "not")) (opposite room) (opens room) always b a (begins (codes "true") (codes "not") false d b a is refl)
      (if_not (begins_with (codes "[")) (bracket room) truth always b a (begins (codes "true") (codes "[") false d b a is refl) (takes_truth d b a is l))))
  takes_neg d room b a (bracketed {c} inside closing open' is close) stop h l =
      by_first c room b a (if_not goes_expr (atom room) (turns room) c b a (bracket_is_no_expr (suc d) b inside open' l)
      (if_not (begins_with (codes "not")) (opposite room) (opens room) c b a (begins (codes "[") (codes "not") false (suc d) b inside open' refl)
      (if_so (begins_with (codes "[")) (bracket room) truth c b a (begins (codes "[") (codes "[") true (suc d) b inside open' refl)
      (takes_bracket c d room b inside closing a open' (λ r k f. takes_cond (suc d) r inside closing is (stops_at (codes "]") d closing a close refl refl refl refl) k f) close h l))))
  takes_neg d room b a (comparison {r} {left} {right} (m, first, others)) stop h l =
      by_atom (compare r left right) room b a (expr_goes d b m first l) (takes_compare r left right d room b a (m, first, others) stop h l)
  takes_neg d room b a (membership {value} {rs} (m, first, others)) stop h l =
      by_atom (member value rs) room b a (expr_goes d b m first l) (takes_member value rs d room b a (m, first, others) h l)

  takes_conj : {c : CondTree} (d room : ℕ) (b a : List Placed) → IsConj c d b a → goes_sum (bare a) ≡ false → goes_and (bare a) ≡ false → d + room ≡ 64 → Fine b → Takes (conj room) c b a
  takes_conj d room b a (is_all {first} {rest} m is others) sums ands h l =
      makes_conj first rest room b m a (takes_neg d room b m is (negs_no_sum d m a others sums) h l) (λ f. takes_negs d room m a others sums ands h f)

  takes_negs : {cs : CondTrees} (d room : ℕ) (b a : List Placed) → AreNegs cs d b a → goes_sum (bare a) ≡ false → goes_and (bare a) ≡ false → d + room ≡ 64 → Fine b → Chain goes_and (next_neg room) cs b a
  takes_negs d room b a (no_neg is) sums ands h l =
      record { cs = []; are = refl; begun = ap (λ m. goes_and (bare m)) is ∙ ands; takes = many_none goes_and (next_neg room) b a is l ands }
  takes_negs d room b a (and_neg {c} {rest} first m word is others) sums ands h l =
      let so : goes_and (bare b) ≡ true = begins (codes "and") (codes "and") true d b first word refl in
      let one : Steps (next_neg room) c b m = steps_key (codes "and") _ c d b first m word l (λ f. takes_neg d room first m is (negs_no_sum d m a others sums) h f) in
      let chain : Chain goes_and (next_neg room) rest m a = takes_negs d room m a others sums ands h one.takes.fine in
      record {
        cs = c ∷ chain.cs;
        are = ap (cond_tree_and c) chain.are;
        begun = so;
        takes = many_one goes_and (next_neg room) c chain.cs b m a so one (λ f. chain.takes);
      }

  pub takes_cond : {c : CondTree} (d room : ℕ) (b a : List Placed) → IsCond c d b a → Stops (bare a) → d + room ≡ 64 → Fine b → Takes (cond room) c b a
  takes_cond d room b a (is_any {first} {rest} m is others) stop h l =
      makes_cond first rest room b m a (takes_conj d room b m is (conjs_no_sum d m a others stop.sums) (conjs_no_and d m a others stop.ands) h l) (λ f. takes_conjs d room m a others stop h f)

  takes_conjs : {cs : CondTrees} (d room : ℕ) (b a : List Placed) → AreConjs cs d b a → Stops (bare a) → d + room ≡ 64 → Fine b → Chain goes_or (next_conj room) cs b a
  takes_conjs d room b a (no_conj is) stop h l =
      record { cs = []; are = refl; begun = ap (λ m. goes_or (bare m)) is ∙ stop.ors; takes = many_none goes_or (next_conj room) b a is l stop.ors }
  takes_conjs d room b a (or_conj {c} {rest} first m word is others) stop h l =
      let so : goes_or (bare b) ≡ true = begins (codes "or") (codes "or") true d b first word refl in
      let one : Steps (next_conj room) c b m = steps_key (codes "or") _ c d b first m word l (λ f. takes_conj d room first m is (conjs_no_sum d m a others stop.sums) (conjs_no_and d m a others stop.ands) h f) in
      let chain : Chain goes_or (next_conj room) rest m a = takes_conjs d room m a others stop h one.takes.fine in
      record {
        cs = c ∷ chain.cs;
        are = ap (cond_tree_and c) chain.are;
        begun = so;
        takes = many_one goes_or (next_conj room) c chain.cs b m a so one (λ f. chain.takes);
      }
