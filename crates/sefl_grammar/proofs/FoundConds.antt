-- Ranges and conditions in an accepted list.
use Rattle.std.proofs.Common.{◌≡◌, ℕ, zero, suc, ◌<◌, ◌≤◌, ◌⊎◌, inl, inr, List, [], ◌∷◌, length, codes, refl, ap, subst, arith}
use Rattle.std.proofs.lemmas.Option.{none-some, same_Some}
use Rattle.sn_width.specs.declared.rel.Rel.{Rel}
use Rattle.sn_width.specs.declared.rel.Rel.TheVariants.{Eq, Ne, Lt, Le, Gt, Ge}
use Rattle.sefl_lex.specs.Words.{value_of}
use Rattle.sefl_syntax.specs.Trees as tree
use Rattle.sefl_syntax.specs.Trees.{ExprTree, CondTree, CondTrees}
use Rattle.sefl_grammar.specs.Word.{Word, Placed}
use Rattle.sefl_grammar.specs.Automaton.{open_count}
use Rattle.sefl_grammar.specs.Grammar.{Spelling, ◌⨾◌, key, number, rel, range, more_ranges, ranges, all_from, any_from, IsExpr, IsNeg, opposite, truth, bracketed, comparison, membership, all, AreNegs, no_neg, and_neg, IsCond, any, AreConjs, no_conj, or_conj}
use Rattle.sefl_grammar.proofs.Going.{placed_of}
use Rattle.sefl_grammar.proofs.Ending.{Ends, Choice, a_key, a_name, a_number, a_text, First, first, Took, took, Found, Finds, found_behind, only_key, Tail, stops, goes, tail, found_none, some_words}
use Rattle.sefl_grammar.proofs.FoundLeaves.{IsNumber, found_number, head, global, local, dollar}
use Rattle.sefl_grammar.proofs.FoundTerms.{OperandBegun, target, literal', parenthesis, found_sum_behind, found_whole_expr}
use Rattle.sefl_grammar.specs.declared.symbol.Symbol.{Symbol}
use Rattle.sefl_grammar.specs.declared.symbol.Symbol.TheVariants.{Addr, Name, Number, Colon, Width, Operand, SumTail, CloseParenthesis, CloseBracket, Relation, RangeTail, MoreRanges, OpenBrace, Test, NotEnd, TestTail}

-- ranges to the closing brace
abbrev all_ranges : List (ℕ × ℕ) → Spelling
all_ranges rs = ranges rs ⨾ key (codes "}")

abbrev later_ranges : List (ℕ × ℕ) → Spelling
later_ranges rs = more_ranges rs ⨾ key (codes "}")

-- a range, and those behind it
joined : (r : ℕ × ℕ) (rs : List (ℕ × ℕ)) (depth : ℕ) (b m a : List Placed) → range r depth b m → later_ranges rs depth m a → all_ranges (r ∷ rs) depth b a
joined r rs depth b m a first' (x, others, close) = (x, (m, first', others), close)

behind_comma : (rs : List (ℕ × ℕ)) (depth : ℕ) (b m a : List Placed) → key (codes ",") depth b m → all_ranges rs depth m a → later_ranges rs depth b a
behind_comma [] depth b m a comma (x, is, close) = absurd is
behind_comma (r ∷ rs) depth b m a comma (x, (y, first', others), close) = (x, (m, comma, (y, first', others)), close)

closed_by : (stack rest : List Symbol) (words : List Word) (depth : ℕ) → Took (λ word. word.text ≡ codes "}") stack words rest → open_count rest ≡ depth → Found later_ranges depth stack rest words
closed_by stack rest words depth t o =
    let s = t.shorter in
    record { value = []; left = t.left; is = (placed_of stack words, refl, t.spelled depth o); ends = t.ends; shorter = omega (arith, s) }

more_behind : (n : ℕ) → Finds n all_ranges (λ rest. Number ∷ RangeTail ∷ rest) → (stack rest : List Symbol) (words : List Word) (depth : ℕ) → length words ≤ suc n → open_count rest ≡ depth
    → Took (λ word. word.text ≡ codes ",") stack words (Number ∷ RangeTail ∷ rest) → Found later_ranges depth stack rest words
more_behind n more' stack rest words depth h o t =
    let s = t.shorter in
    let a = more' depth rest t.left (omega (arith, h, s)) o t.ends in
    let u = a.shorter in
    record {
      value = a.value;
      left = a.left;
      is = behind_comma a.value depth (placed_of stack words) (placed_of (Number ∷ RangeTail ∷ rest) t.left) (placed_of rest a.left) (t.spelled depth o) a.is;
      ends = a.ends;
      shorter = omega (arith, s, u);
    }

found_later : (n : ℕ) → Finds n all_ranges (λ rest. Number ∷ RangeTail ∷ rest) → (depth : ℕ) (rest : List Symbol) (words : List Word) → length words ≤ suc n → open_count rest ≡ depth → Ends (MoreRanges ∷ rest) words
    → Found later_ranges depth (MoreRanges ∷ rest) rest words
found_later n more' depth rest words h o ends = by (first MoreRanges rest words refl ends) (first MoreRanges rest words refl ends).choice
  where
    by : (f : First MoreRanges rest words) → Choice MoreRanges f.word f.then' → Found later_ranges depth (MoreRanges ∷ rest) rest words
    by f (a_key (inl (t, e))) = more_behind n more' (MoreRanges ∷ rest) rest words depth h o (took (λ word. word.text ≡ codes ",") f (Number ∷ RangeTail ∷ []) t e)
    by f (a_key (inr (inl (t, e)))) = closed_by (MoreRanges ∷ rest) rest words depth (took (λ word. word.text ≡ codes "}") f [] t e) o
    by f (a_key (inr (inr none))) = absurd none
    by f (a_name k e) = absurd (none-some _ e)
    by f (a_number k e) = absurd (none-some _ e)
    by f (a_text k e) = absurd (none-some _ e)

-- what stands behind the first number of a range: the last number where it is another, and the other ranges
record Behind (value depth : ℕ) (rest : List Symbol) (words : List Word) : Type 0 where
  last : ℕ
  others : List (ℕ × ℕ)
  left : List Word
  is : (b : List Placed) → number value depth b (placed_of (RangeTail ∷ rest) words) → all_ranges ((value, last) ∷ others) depth b (placed_of rest left)
  ends : Ends rest left
  shorter : length left ≤ length words

behind_one : (value depth : ℕ) (rest : List Symbol) (words : List Word) → Found later_ranges depth (RangeTail ∷ rest) rest words → Behind value depth rest words
behind_one value depth rest words a = record {
  last = value;
  others = a.value;
  left = a.left;
  is = λ b is. joined (value, value) a.value depth b (placed_of (RangeTail ∷ rest) words) (placed_of rest a.left) (inr (refl, is)) a.is;
  ends = a.ends;
  shorter = a.shorter;
}

behind_two : (n : ℕ) → Finds n all_ranges (λ rest. Number ∷ RangeTail ∷ rest) → (value depth : ℕ) (rest : List Symbol) (words : List Word) → length words ≤ suc n → open_count rest ≡ depth
    → Took (λ word. word.text ≡ codes "..") (RangeTail ∷ rest) words (Number ∷ MoreRanges ∷ rest) → Behind value depth rest words
behind_two n more' value depth rest words h o t =
    let s = t.shorter in
    let a = found_number {n = n} depth (MoreRanges ∷ rest) t.left (omega (arith, h, s)) o t.ends in
    let u = a.shorter in
    let m = found_later n more' depth rest a.left (omega (arith, h, s, u)) o a.ends in
    let w = m.shorter in
    record {
      last = a.value;
      others = m.value;
      left = m.left;
      is = λ b is. joined (value, a.value) m.value depth b (placed_of (MoreRanges ∷ rest) a.left) (placed_of rest m.left) (inl (placed_of (RangeTail ∷ rest) words, is, (placed_of (Number ∷ MoreRanges ∷ rest) t.left, t.spelled depth o, a.is))) m.is;
      ends = m.ends;
      shorter = omega (arith, s, u, w);
    }

behind_number : (n : ℕ) → Finds n all_ranges (λ rest. Number ∷ RangeTail ∷ rest) → (value depth : ℕ) (rest : List Symbol) (words : List Word) → length words ≤ suc n → open_count rest ≡ depth → Ends (RangeTail ∷ rest) words → Behind value depth rest words
behind_number n more' value depth rest words h o ends = by (first RangeTail rest words refl ends) (first RangeTail rest words refl ends).choice
  where
    by : (f : First RangeTail rest words) → Choice RangeTail f.word f.then' → Behind value depth rest words
    by f (a_key (inl (t, e))) = behind_two n more' value depth rest words h o (took (λ word. word.text ≡ codes "..") f (Number ∷ MoreRanges ∷ []) t e)
    by f (a_key (inr (inl (t, e)))) = behind_one value depth rest words (more_behind n more' (RangeTail ∷ rest) rest words depth h o (took (λ word. word.text ≡ codes ",") f (Number ∷ RangeTail ∷ []) t e))
    by f (a_key (inr (inr (inl (t, e))))) = behind_one value depth rest words (closed_by (RangeTail ∷ rest) rest words depth (took (λ word. word.text ≡ codes "}") f [] t e) o)
    by f (a_key (inr (inr (inr none)))) = absurd none
    by f (a_name k e) = absurd (none-some _ e)
    by f (a_number k e) = absurd (none-some _ e)
    by f (a_text k e) = absurd (none-some _ e)

found_ranges : (n : ℕ) → Finds n all_ranges (λ rest. Number ∷ RangeTail ∷ rest)
found_ranges zero depth rest words h o ends = absurd (some_words (first Number (RangeTail ∷ rest) words refl ends) h)
found_ranges (suc n) depth rest words h o ends =
    let a = found_number {n = suc n} depth (RangeTail ∷ rest) words h o ends in
    let s = a.shorter in
    let b = behind_number n (found_ranges n) a.value depth rest a.left (omega (arith, h, s)) o a.ends in
    let t = b.shorter in
    record { value = (a.value, b.last) ∷ b.others; left = b.left; is = b.is (placed_of (Number ∷ RangeTail ∷ rest) words) a.is; ends = b.ends; shorter = omega (arith, s, t) }

-- what is said of an expression: how it compares with another, or the ranges that it is to lie in
related : (Rel × ExprTree) ⊎ List (ℕ × ℕ) → Spelling
related (inl (r, e)) = rel r ⨾ IsExpr e
related (inr rs) = key (codes "in") ⨾ key (codes "{") ⨾ all_ranges rs

found_relation : (n : ℕ) → Finds n related (λ rest. Relation ∷ rest)
unfolding related
found_relation n depth rest words h o ends = by (first Relation rest words refl ends) (first Relation rest words refl ends).choice
  where
    compared : (r : Rel) (text : List ℕ) → ((d : ℕ) (b a : List Placed) → key text d b a → rel r d b a) → Took (λ word. word.text ≡ text) (Relation ∷ rest) words (Operand ∷ SumTail ∷ rest) → Found related depth (Relation ∷ rest) rest words
    compared r text is t =
        let a = found_behind text IsExpr (λ x. Operand ∷ SumTail ∷ x) depth rest t h (found_whole_expr n) (λ x. refl) o in
        record { value = inl (r, a.value); left = a.left; is = (a.is.0, is depth (placed_of (Relation ∷ rest) words) a.is.0 a.is.1, a.is.2); ends = a.ends; shorter = a.shorter }

    within : Took (λ word. word.text ≡ codes "in") (Relation ∷ rest) words (OpenBrace ∷ Number ∷ RangeTail ∷ rest) → Found related depth (Relation ∷ rest) rest words
    within t =
        let s = t.shorter in
        let b = only_key OpenBrace (codes "{") refl refl refl (λ v. refl) refl (Number ∷ RangeTail ∷ rest) t.left t.ends in
        let u = b.shorter in
        let a = found_ranges n depth rest b.left (omega (arith, h, s, u)) o b.ends in
        let w = a.shorter in
        record {
          value = inr a.value;
          left = a.left;
          is = (placed_of (OpenBrace ∷ Number ∷ RangeTail ∷ rest) t.left, t.spelled depth o, (placed_of (Number ∷ RangeTail ∷ rest) b.left, b.spelled depth o, a.is));
          ends = a.ends;
          shorter = omega (arith, s, u, w);
        }

    by : (f : First Relation rest words) → Choice Relation f.word f.then' → Found related depth (Relation ∷ rest) rest words
    by f (a_key (inl (t, e))) = compared Eq (codes "==") (λ d b a is. is) (took (λ word. word.text ≡ codes "==") f (Operand ∷ SumTail ∷ []) t e)
    by f (a_key (inr (inl (t, e)))) = compared Ne (codes "!=") (λ d b a is. is) (took (λ word. word.text ≡ codes "!=") f (Operand ∷ SumTail ∷ []) t e)
    by f (a_key (inr (inr (inl (t, e))))) = compared Lt (codes "<") (λ d b a is. is) (took (λ word. word.text ≡ codes "<") f (Operand ∷ SumTail ∷ []) t e)
    by f (a_key (inr (inr (inr (inl (t, e)))))) = compared Le (codes "<=") (λ d b a is. is) (took (λ word. word.text ≡ codes "<=") f (Operand ∷ SumTail ∷ []) t e)
    by f (a_key (inr (inr (inr (inr (inl (t, e))))))) = compared Gt (codes ">") (λ d b a is. is) (took (λ word. word.text ≡ codes ">") f (Operand ∷ SumTail ∷ []) t e)
    by f (a_key (inr (inr (inr (inr (inr (inl (t, e)))))))) = compared Ge (codes ">=") (λ d b a is. is) (took (λ word. word.text ≡ codes ">=") f (Operand ∷ SumTail ∷ []) t e)
    by f (a_key (inr (inr (inr (inr (inr (inr (inl (t, e))))))))) = within (took (λ word. word.text ≡ codes "in") f (OpenBrace ∷ Number ∷ RangeTail ∷ []) t e)
    by f (a_key (inr (inr (inr (inr (inr (inr (inr none)))))))) = absurd none
    by f (a_name k e) = absurd (none-some _ e)
    by f (a_number k e) = absurd (none-some _ e)
    by f (a_text k e) = absurd (none-some _ e)

atom_of : (e : ExprTree) (x : (Rel × ExprTree) ⊎ List (ℕ × ℕ)) (depth : ℕ) (b m a : List Placed) → IsExpr e depth b m → related x depth m a → (c : CondTree) × IsNeg c depth b a
unfolding related
atom_of e (inl (r, right)) depth b m a left (y, is, is') = (tree.compare r e right, comparison (m, left, (y, is, is')))
atom_of e (inr rs) depth b m a left is = (tree.member e rs, membership (m, left, is))

-- a comparison or a membership test, whose first operand was begun
found_atom : (n : ℕ) (stack rest : List Symbol) (words : List Word) (depth : ℕ) → OperandBegun stack (SumTail ∷ Relation ∷ rest) words → length words ≤ suc n → open_count rest ≡ depth → Found IsNeg depth stack rest words
found_atom n stack rest words depth begun h o =
    let a = found_sum_behind n stack (Relation ∷ rest) words depth begun h o in
    let s = a.shorter in
    let b = found_relation (suc n) depth rest a.left (omega (arith, h, s)) o a.ends in
    let t = b.shorter in
    let c = atom_of a.value b.value depth (placed_of stack words) (placed_of (Relation ∷ rest) a.left) (placed_of rest b.left) a.is b.is in
    record { value = c.0; left = b.left; is = c.1; ends = b.ends; shorter = omega (arith, s, t) }

-- the further members of a conjunction, and then those of a disjunction
abbrev chains : CondTrees × CondTrees → Spelling
chains x = AreNegs x.0 ⨾ AreConjs x.1

found_and : (n : ℕ) → Finds n IsNeg (λ rest. Test ∷ rest) → Finds n chains (λ rest. TestTail ∷ rest) → (depth : ℕ) (rest : List Symbol) (words : List Word) → length words ≤ suc n → open_count rest ≡ depth
    → Took (λ word. word.text ≡ codes "and") (TestTail ∷ rest) words (Test ∷ TestTail ∷ rest) → Found chains depth (TestTail ∷ rest) rest words
found_and n neg later depth rest words h o t =
    let s = t.shorter in
    let c = neg depth (TestTail ∷ rest) t.left (omega (arith, h, s)) o t.ends in
    let u = c.shorter in
    let m = later depth rest c.left (omega (arith, h, s, u)) o c.ends in
    let w = m.shorter in
    record {
      value = (tree.cond_and c.value m.value.0, m.value.1);
      left = m.left;
      is = (m.is.0, and_neg (placed_of (Test ∷ TestTail ∷ rest) t.left) (placed_of (TestTail ∷ rest) c.left) (t.spelled depth o) c.is m.is.1, m.is.2);
      ends = m.ends;
      shorter = omega (arith, s, u, w);
    }

found_or : (n : ℕ) → Finds n IsNeg (λ rest. Test ∷ rest) → Finds n chains (λ rest. TestTail ∷ rest) → (depth : ℕ) (rest : List Symbol) (words : List Word) → length words ≤ suc n → open_count rest ≡ depth
    → Took (λ word. word.text ≡ codes "or") (TestTail ∷ rest) words (Test ∷ TestTail ∷ rest) → Found chains depth (TestTail ∷ rest) rest words
found_or n neg later depth rest words h o t =
    let s = t.shorter in
    let c = neg depth (TestTail ∷ rest) t.left (omega (arith, h, s)) o t.ends in
    let u = c.shorter in
    let m = later depth rest c.left (omega (arith, h, s, u)) o c.ends in
    let w = m.shorter in
    record {
      value = (tree.no_conds, tree.cond_and (all_from c.value m.value.0) m.value.1);
      left = m.left;
      is = (
        placed_of (TestTail ∷ rest) words,
        no_neg refl,
        or_conj (placed_of (Test ∷ TestTail ∷ rest) t.left) m.is.0 (t.spelled depth o) (all (placed_of (TestTail ∷ rest) c.left) c.is m.is.1) m.is.2,
      );
      ends = m.ends;
      shorter = omega (arith, s, u, w);
    }

chains_by : (n : ℕ) → Finds n IsNeg (λ rest. Test ∷ rest) → Finds n chains (λ rest. TestTail ∷ rest) → (depth : ℕ) (rest : List Symbol) (words : List Word) → length words ≤ suc n → open_count rest ≡ depth
    → (f : First TestTail rest words) → Choice TestTail f.word f.then' → Found chains depth (TestTail ∷ rest) rest words
chains_by n neg later depth rest words h o f (a_key (inl (t, e))) = found_and n neg later depth rest words h o (took (λ word. word.text ≡ codes "and") f (Test ∷ TestTail ∷ []) t e)
chains_by n neg later depth rest words h o f (a_key (inr (inl (t, e)))) = found_or n neg later depth rest words h o (took (λ word. word.text ≡ codes "or") f (Test ∷ TestTail ∷ []) t e)
chains_by n neg later depth rest words h o f (a_key (inr (inr none))) = absurd none
chains_by n neg later depth rest words h o f (a_name k e) = absurd (none-some _ e)
chains_by n neg later depth rest words h o f (a_number k e) = absurd (none-some _ e)
chains_by n neg later depth rest words h o f (a_text k e) = absurd (none-some _ e)

no_chain : (depth : ℕ) (rest : List Symbol) (words : List Word) → Ends rest words → placed_of (TestTail ∷ rest) words ≡ placed_of rest words → Found chains depth (TestTail ∷ rest) rest words
no_chain depth rest words ends e = found_none chains (tree.no_conds, tree.no_conds) depth ends e (λ b a is. (a, no_neg is, no_conj refl))

found_chains : (n : ℕ) → ((m : ℕ) → m < n → Finds m IsNeg (λ rest. Test ∷ rest)) → Finds n chains (λ rest. TestTail ∷ rest)
found_chains zero neg depth rest words h o ends = by (tail TestTail rest words refl ends)
  where
    by : Tail TestTail rest words → Found chains depth (TestTail ∷ rest) rest words
    by (stops ends' e) = no_chain depth rest words ends' e
    by (goes f) = absurd (some_words f h)
found_chains (suc n) neg depth rest words h o ends =
    by (found_chains n (λ m less. neg m (omega (arith, less)))) (tail TestTail rest words refl ends)
  where
    by : Finds n chains (λ rest. TestTail ∷ rest) → Tail TestTail rest words → Found chains depth (TestTail ∷ rest) rest words
    by later (stops ends' e) = no_chain depth rest words ends' e
    by later (goes f) = chains_by n (neg n (omega arith)) later depth rest words h o f f.choice

cond_from : (n : ℕ) → Finds n IsNeg (λ rest. Test ∷ rest) → Finds n chains (λ rest. TestTail ∷ rest) → Finds n IsCond (λ rest. Test ∷ TestTail ∷ rest)
cond_from n neg later depth rest words h o ends =
    let c = neg depth (TestTail ∷ rest) words h o ends in
    let s = c.shorter in
    let m = later depth rest c.left (omega (arith, h, s)) o c.ends in
    let t = m.shorter in
    record {
      value = any_from (all_from c.value m.value.0) m.value.1;
      left = m.left;
      is = any m.is.0 (all (placed_of (TestTail ∷ rest) c.left) c.is m.is.1) m.is.2;
      ends = m.ends;
      shorter = omega (arith, s, t);
    }

-- behind a `not`
found_not : (n : ℕ) → Finds n IsNeg (λ rest. Test ∷ rest) → (depth : ℕ) (rest : List Symbol) (words : List Word) → length words ≤ suc n → open_count rest ≡ depth
    → Took (λ word. word.text ≡ codes "not") (Test ∷ rest) words (Test ∷ NotEnd ∷ rest) → Found IsNeg depth (Test ∷ rest) rest words
found_not n neg depth rest words h o t =
    let s = t.shorter in
    let c = neg (suc depth) (NotEnd ∷ rest) t.left (omega (arith, h, s)) (ap suc o) t.ends in
    let u = c.shorter in
    let e = over c.left (tail NotEnd rest c.left refl c.ends) in
    record {
      value = tree.negation c.value;
      left = c.left;
      is = opposite (placed_of (Test ∷ NotEnd ∷ rest) t.left) (t.spelled (suc depth) (ap suc o)) (subst (λ x. IsNeg c.value (suc depth) (placed_of (Test ∷ NotEnd ∷ rest) t.left) x) e.1 c.is);
      ends = e.0;
      shorter = omega (arith, s, u);
    }
  where
    over : (ws : List Word) → Tail NotEnd rest ws → Ends rest ws × (placed_of (NotEnd ∷ rest) ws ≡ placed_of rest ws)
    over ws (stops ends e) = (ends, e)
    over ws (goes f) = none_not f f.choice
      where
        none_not : (f : First NotEnd rest ws) → Choice NotEnd f.word f.then' → Ends rest ws × (placed_of (NotEnd ∷ rest) ws ≡ placed_of rest ws)
        none_not f (a_key none) = absurd none
        none_not f (a_name k e) = absurd (none-some _ e)
        none_not f (a_number k e) = absurd (none-some _ e)
        none_not f (a_text k e) = absurd (none-some _ e)

found_bracketed : (n : ℕ) → Finds n IsCond (λ rest. Test ∷ TestTail ∷ rest) → (depth : ℕ) (rest : List Symbol) (words : List Word) → length words ≤ suc n → open_count rest ≡ depth
    → Took (λ word. word.text ≡ codes "[") (Test ∷ rest) words (Test ∷ TestTail ∷ CloseBracket ∷ rest) → Found IsNeg depth (Test ∷ rest) rest words
found_bracketed n cond depth rest words h o t =
    let s = t.shorter in
    let c = cond (suc depth) (CloseBracket ∷ rest) t.left (omega (arith, h, s)) (ap suc o) t.ends in
    let u = c.shorter in
    let k = only_key CloseBracket (codes "]") refl refl refl (λ v. refl) refl rest c.left c.ends in
    let w = k.shorter in
    record {
      value = c.value;
      left = k.left;
      is = bracketed (placed_of (Test ∷ TestTail ∷ CloseBracket ∷ rest) t.left) (placed_of (CloseBracket ∷ rest) c.left) (t.spelled (suc depth) (ap suc o)) c.is (k.spelled depth o);
      ends = k.ends;
      shorter = omega (arith, s, u, w);
    }

neg_by : (n : ℕ) → Finds n IsNeg (λ rest. Test ∷ rest) → Finds n IsCond (λ rest. Test ∷ TestTail ∷ rest) → (depth : ℕ) (rest : List Symbol) (words : List Word) → length words ≤ suc n → open_count rest ≡ depth
    → (f : First Test rest words) → Choice Test f.word f.then' → Found IsNeg depth (Test ∷ rest) rest words
neg_by n neg cond depth rest words h o f (a_key (inl (t, e))) = found_not n neg depth rest words h o (took (λ word. word.text ≡ codes "not") f (Test ∷ NotEnd ∷ []) t e)
neg_by n neg cond depth rest words h o f (a_key (inr (inl (t, e)))) =
    let k = took (λ word. word.text ≡ codes "true") f [] t e in
    let s = k.shorter in
    record { value = tree.always; left = k.left; is = truth (k.spelled depth o); ends = k.ends; shorter = omega (arith, s) }
neg_by n neg cond depth rest words h o f (a_key (inr (inr (inl (t, e))))) = found_bracketed n cond depth rest words h o (took (λ word. word.text ≡ codes "[") f (Test ∷ TestTail ∷ CloseBracket ∷ []) t e)
neg_by n neg cond depth rest words h o f (a_key (inr (inr (inr (inl (t, e)))))) =
    found_atom n (Test ∷ rest) rest words depth (target (head (took (λ word. word.text ≡ codes "head") f (Addr ∷ Colon ∷ Width ∷ SumTail ∷ Relation ∷ []) t e))) h o
neg_by n neg cond depth rest words h o f (a_key (inr (inr (inr (inr (inl (t, e))))))) =
    found_atom n (Test ∷ rest) rest words depth (target (global (took (λ word. word.text ≡ codes "global") f (Name ∷ Colon ∷ Width ∷ SumTail ∷ Relation ∷ []) t e))) h o
neg_by n neg cond depth rest words h o f (a_key (inr (inr (inr (inr (inr (inl (t, e)))))))) =
    found_atom n (Test ∷ rest) rest words depth (target (local (took (λ word. word.text ≡ codes "local") f (Name ∷ Colon ∷ Width ∷ SumTail ∷ Relation ∷ []) t e))) h o
neg_by n neg cond depth rest words h o f (a_key (inr (inr (inr (inr (inr (inr (inl (t, e))))))))) =
    found_atom n (Test ∷ rest) rest words depth (target (dollar (took (λ word. word.text ≡ codes "$") f (Name ∷ Colon ∷ Width ∷ SumTail ∷ Relation ∷ []) t e))) h o
neg_by n neg cond depth rest words h o f (a_key (inr (inr (inr (inr (inr (inr (inr (inl (t, e)))))))))) =
    found_atom n (Test ∷ rest) rest words depth (parenthesis (took (λ word. word.text ≡ codes "(") f (Operand ∷ SumTail ∷ CloseParenthesis ∷ SumTail ∷ Relation ∷ []) t e)) h o
neg_by n neg cond depth rest words h o f (a_key (inr (inr (inr (inr (inr (inr (inr (inr none))))))))) = absurd none
neg_by n neg cond depth rest words h o f (a_name k e) = absurd (none-some _ e)
neg_by n neg cond depth rest words h o f (a_number k e) =
    found_atom n (Test ∷ rest) rest words depth (literal' (value_of f.word.text) (took (IsNumber (value_of f.word.text)) f (SumTail ∷ Relation ∷ []) (k, refl) (same_Some _ _ e))) h o
neg_by n neg cond depth rest words h o f (a_text k e) = absurd (none-some _ e)

-- up to this many words
found_negs : (n m : ℕ) → m ≤ n → Finds m IsNeg (λ rest. Test ∷ rest)
found_negs n zero less depth rest words h o ends = absurd (some_words (first Test rest words refl ends) h)
found_negs zero (suc m) less depth rest words h o ends = absurd (omega (arith, less))
found_negs (suc n) (suc m) less depth rest words h o ends =
    let negs : (k : ℕ) → k < suc n → Finds k IsNeg (λ rest. Test ∷ rest) = λ k small. found_negs n k (omega (arith, small)) in
    let neg = negs m (omega (arith, less)) in
    let cond = cond_from m neg (found_chains m (λ k small. negs k (omega (arith, small, less)))) in
    let f = first Test rest words refl ends in
    neg_by m neg cond depth rest words h o f f.choice

pub found_cond : (n : ℕ) → Finds n IsCond (λ rest. Test ∷ TestTail ∷ rest)
found_cond n = cond_from n (found_negs n n (omega arith)) (found_chains n (λ k small. found_negs n k (omega (arith, small))))
