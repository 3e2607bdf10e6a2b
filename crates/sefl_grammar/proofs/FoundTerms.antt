-- Expressions and conditions in an accepted list.
use Rattle.std.proofs.Common.{◌≡◌, ℕ, zero, suc, ◌≤◌, inl, inr, List, [], ◌∷◌, length, Option, None, Some, codes, refl, ap, subst, arith}
use Rattle.std.proofs.lemmas.Option.{none-some, same_Some}
use Rattle.sefl_lex.specs.Words.{value_of}
use Rattle.sefl_syntax.specs.Trees as tree
use Rattle.sefl_syntax.specs.Trees.{ExprTree, SummandTrees, CondTree, CondTrees}
use Rattle.sefl_syntax.specs.declared.expr.Sign.{Sign}
use Rattle.sefl_syntax.specs.declared.expr.Sign.TheVariants.{Plus, Minus}
use Rattle.sefl_grammar.specs.Word.{Word, Placed}
use Rattle.sefl_grammar.specs.Automaton.{open_count}
use Rattle.sefl_grammar.specs.Grammar.{Spelling, key, sign, sum_of, IsOperand, literal, read, grouped, IsExpr, members, IsSummands, none, more}
use Rattle.sefl_grammar.proofs.Going.{placed_of}
use Rattle.sefl_grammar.proofs.Ending.{Choice, a_key, a_name, a_number, a_text, First, first, Took, took, Found, Finds, only_key, Tail, stops, goes, tail, found_none, some_words, fewer}
use Rattle.sefl_grammar.proofs.FoundLeaves.{IsNumber, TargetBegun, head, global, local, dollar, found_target_behind}
use Rattle.sefl_grammar.specs.declared.symbol.Symbol.{Symbol}
use Rattle.sefl_grammar.specs.declared.symbol.Symbol.TheVariants.{Addr, Name, Colon, Width, Operand, SumTail, CloseParenthesis, Value}

-- the first word of an operand was taken
pub data OperandBegun (stack rest : List Symbol) (words : List Word) : Type 0 where
  target : TargetBegun stack rest words → OperandBegun stack rest words
  literal' : (n : ℕ) → Took (IsNumber n) stack words rest → OperandBegun stack rest words
  parenthesis : Took (λ word. word.text ≡ codes "(") stack words (Operand ∷ SumTail ∷ CloseParenthesis ∷ rest) → OperandBegun stack rest words

found_operand_behind : (n : ℕ) → Finds n IsExpr (λ rest. Operand ∷ SumTail ∷ rest) → (stack rest : List Symbol) (words : List Word) (depth : ℕ) → OperandBegun stack rest words → length words ≤ suc n → open_count rest ≡ depth → Found IsOperand depth stack rest words
found_operand_behind n expr stack rest words depth (target t) h o =
    let a = found_target_behind {n = suc n} stack rest words depth t h o in
    record { value = tree.reading a.value; left = a.left; is = read a.is; ends = a.ends; shorter = a.shorter }
found_operand_behind n expr stack rest words depth (literal' m t) h o =
    let s = t.shorter in
    record { value = tree.constant m; left = t.left; is = literal (t.spelled depth o); ends = t.ends; shorter = omega (arith, s) }
found_operand_behind n expr stack rest words depth (parenthesis t) h o =
    let s = t.shorter in
    let e = expr (suc depth) (CloseParenthesis ∷ rest) t.left (omega (arith, h, s)) (ap suc o) t.ends in
    let u = e.shorter in
    let c = only_key CloseParenthesis (codes ")") refl refl refl (λ v. refl) refl rest e.left e.ends in
    let w = c.shorter in
    record {
      value = e.value;
      left = c.left;
      is = grouped (placed_of (Operand ∷ SumTail ∷ CloseParenthesis ∷ rest) t.left) (placed_of (CloseParenthesis ∷ rest) e.left) (t.spelled (suc depth) (ap suc o)) e.is (c.spelled depth o);
      ends = c.ends;
      shorter = omega (arith, s, u, w);
    }

found_summand : (n : ℕ) (x : Sign) (text : List ℕ) → ((depth : ℕ) (b a : List Placed) → key text depth b a → sign x depth b a)
    → Finds (suc n) IsOperand (λ rest. Operand ∷ rest) → Finds n IsSummands (λ rest. SumTail ∷ rest) → (depth : ℕ) (rest : List Symbol) (words : List Word) → length words ≤ suc n → open_count rest ≡ depth
    → Took (λ word. word.text ≡ text) (SumTail ∷ rest) words (Operand ∷ SumTail ∷ rest) → Found IsSummands depth (SumTail ∷ rest) rest words
found_summand n x text is operand later depth rest words h o t =
    let s = t.shorter in
    let e = operand depth (SumTail ∷ rest) t.left (omega (arith, h, s)) o t.ends in
    let u = e.shorter in
    let m = later depth rest e.left (omega (arith, h, s, u)) o e.ends in
    let w = m.shorter in
    record {
      value = tree.summand x e.value m.value;
      left = m.left;
      is = more (placed_of (Operand ∷ SumTail ∷ rest) t.left) (placed_of (SumTail ∷ rest) e.left) (is depth (placed_of (SumTail ∷ rest) words) (placed_of (Operand ∷ SumTail ∷ rest) t.left) (t.spelled depth o)) e.is m.is;
      ends = m.ends;
      shorter = omega (arith, s, u, w);
    }

summands_by : (n : ℕ) → Finds (suc n) IsOperand (λ rest. Operand ∷ rest) → Finds n IsSummands (λ rest. SumTail ∷ rest) → (depth : ℕ) (rest : List Symbol) (words : List Word) → length words ≤ suc n → open_count rest ≡ depth
    → (f : First SumTail rest words) → Choice SumTail f.word f.then' → Found IsSummands depth (SumTail ∷ rest) rest words
summands_by n operand later depth rest words h o f (a_key (inl (t, e))) =
    found_summand n Plus (codes "+") (λ d b a is. is) operand later depth rest words h o (took (λ word. word.text ≡ codes "+") f (Operand ∷ SumTail ∷ []) t e)
summands_by n operand later depth rest words h o f (a_key (inr (inl (t, e)))) =
    found_summand n Minus (codes "-") (λ d b a is. is) operand later depth rest words h o (took (λ word. word.text ≡ codes "-") f (Operand ∷ SumTail ∷ []) t e)
summands_by n operand later depth rest words h o f (a_key (inr (inr none'))) = absurd none'
summands_by n operand later depth rest words h o f (a_name k e) = absurd (none-some _ e)
summands_by n operand later depth rest words h o f (a_number k e) = absurd (none-some _ e)
summands_by n operand later depth rest words h o f (a_text k e) = absurd (none-some _ e)

summands_tail : (n : ℕ) → Finds n IsOperand (λ rest. Operand ∷ rest) → ((m : ℕ) → n ≡ suc m → Finds m IsSummands (λ rest. SumTail ∷ rest)) → (depth : ℕ) (rest : List Symbol) (words : List Word) → length words ≤ n → open_count rest ≡ depth
    → Tail SumTail rest words → Found IsSummands depth (SumTail ∷ rest) rest words
summands_tail n operand later depth rest words h o (stops ends e) = found_none IsSummands tree.no_summands depth ends e (λ b a is. none is)
summands_tail zero operand later depth rest words h o (goes f) = absurd (some_words f h)
summands_tail (suc n) operand later depth rest words h o (goes f) = summands_by n operand (later n refl) depth rest words h o f f.choice

found_summands : (n : ℕ) → Finds n IsOperand (λ rest. Operand ∷ rest) → Finds n IsSummands (λ rest. SumTail ∷ rest)
found_summands zero operand depth rest words h o ends = summands_tail zero operand (λ m e. absurd (omega (arith, e))) depth rest words h o (tail SumTail rest words refl ends)
found_summands (suc n) operand depth rest words h o ends =
    summands_tail (suc n) operand (λ m e. subst (λ x. Finds x IsSummands (λ rest. SumTail ∷ rest)) (omega (arith, e)) (found_summands n (fewer n operand))) depth rest words h o (tail SumTail rest words refl ends)

-- an operand that was begun, and what is added to it
sum_behind : (n : ℕ) → Finds n IsOperand (λ rest. Operand ∷ rest) → (stack rest : List Symbol) (words : List Word) (depth : ℕ) → length words ≤ n → open_count rest ≡ depth → Found IsOperand depth stack (SumTail ∷ rest) words → Found IsExpr depth stack rest words
sum_behind n operand stack rest words depth h o a =
    let s = a.shorter in
    let b = found_summands n operand depth rest a.left (omega (arith, h, s)) o a.ends in
    let t = b.shorter in
    record { value = sum_of a.value b.value; left = b.left; is = members (placed_of (SumTail ∷ rest) a.left) a.is b.is; ends = b.ends; shorter = omega (arith, s, t) }

found_expr : (n : ℕ) → Finds n IsOperand (λ rest. Operand ∷ rest) → Finds n IsExpr (λ rest. Operand ∷ SumTail ∷ rest)
found_expr n operand depth rest words h o ends = sum_behind n operand (Operand ∷ SumTail ∷ rest) rest words depth h o (operand depth (SumTail ∷ rest) words h o ends)

operand_begun : (rest : List Symbol) (words : List Word) (f : First Operand rest words) → Choice Operand f.word f.then' → OperandBegun (Operand ∷ rest) rest words
operand_begun rest words f (a_key (inl (t, e))) = target (head (took (λ word. word.text ≡ codes "head") f (Addr ∷ Colon ∷ Width ∷ []) t e))
operand_begun rest words f (a_key (inr (inl (t, e)))) = target (global (took (λ word. word.text ≡ codes "global") f (Name ∷ Colon ∷ Width ∷ []) t e))
operand_begun rest words f (a_key (inr (inr (inl (t, e))))) = target (local (took (λ word. word.text ≡ codes "local") f (Name ∷ Colon ∷ Width ∷ []) t e))
operand_begun rest words f (a_key (inr (inr (inr (inl (t, e)))))) = target (dollar (took (λ word. word.text ≡ codes "$") f (Name ∷ Colon ∷ Width ∷ []) t e))
operand_begun rest words f (a_key (inr (inr (inr (inr (inl (t, e))))))) = parenthesis (took (λ word. word.text ≡ codes "(") f (Operand ∷ SumTail ∷ CloseParenthesis ∷ []) t e)
operand_begun rest words f (a_key (inr (inr (inr (inr (inr none')))))) = absurd none'
operand_begun rest words f (a_name k e) = absurd (none-some _ e)
operand_begun rest words f (a_number k e) = literal' (value_of f.word.text) (took (IsNumber (value_of f.word.text)) f [] (k, refl) (same_Some _ _ e))
operand_begun rest words f (a_text k e) = absurd (none-some _ e)

pub found_operand : (n : ℕ) → Finds n IsOperand (λ rest. Operand ∷ rest)
found_operand zero depth rest words h o ends = absurd (some_words (first Operand rest words refl ends) h)
found_operand (suc n) depth rest words h o ends =
    let f = first Operand rest words refl ends in
    found_operand_behind n (found_expr n (found_operand n)) (Operand ∷ rest) rest words depth (operand_begun rest words f f.choice) h o

pub found_whole_expr : (n : ℕ) → Finds n IsExpr (λ rest. Operand ∷ SumTail ∷ rest)
found_whole_expr n = found_expr n (found_operand n)

-- an operand that was begun, and what is added to it
pub found_sum_behind : (n : ℕ) (stack rest : List Symbol) (words : List Word) (depth : ℕ) → OperandBegun stack (SumTail ∷ rest) words → length words ≤ suc n → open_count rest ≡ depth → Found IsExpr depth stack rest words
found_sum_behind n stack rest words depth begun h o =
    sum_behind (suc n) (found_operand (suc n)) stack rest words depth h o (found_operand_behind n (found_whole_expr n) stack (SumTail ∷ rest) words depth begun h o)

-- the right side of an assignment
abbrev pub assigned : Option ExprTree → Spelling
assigned None = key (codes "any")
assigned (Some e) = IsExpr e

pub found_value : (n : ℕ) → Finds n assigned (λ rest. Value ∷ rest)
found_value zero depth rest words h o ends = absurd (some_words (first Value rest words refl ends) h)
found_value (suc n) depth rest words h o ends = by (first Value rest words refl ends) (first Value rest words refl ends).choice
  where
    some : OperandBegun (Value ∷ rest) (SumTail ∷ rest) words → Found assigned depth (Value ∷ rest) rest words
    some begun =
        let a = found_sum_behind n (Value ∷ rest) rest words depth begun h o in
        record { value = Some a.value; left = a.left; is = a.is; ends = a.ends; shorter = a.shorter }

    by : (f : First Value rest words) → Choice Value f.word f.then' → Found assigned depth (Value ∷ rest) rest words
    by f (a_key (inl (t, e))) =
        let k = took (λ word. word.text ≡ codes "any") f [] t e in
        let s = k.shorter in
        record { value = None; left = k.left; is = k.spelled depth o; ends = k.ends; shorter = omega (arith, s) }
    by f (a_key (inr (inl (t, e)))) = some (target (head (took (λ word. word.text ≡ codes "head") f (Addr ∷ Colon ∷ Width ∷ SumTail ∷ []) t e)))
    by f (a_key (inr (inr (inl (t, e))))) = some (target (global (took (λ word. word.text ≡ codes "global") f (Name ∷ Colon ∷ Width ∷ SumTail ∷ []) t e)))
    by f (a_key (inr (inr (inr (inl (t, e)))))) = some (target (local (took (λ word. word.text ≡ codes "local") f (Name ∷ Colon ∷ Width ∷ SumTail ∷ []) t e)))
    by f (a_key (inr (inr (inr (inr (inl (t, e))))))) = some (target (dollar (took (λ word. word.text ≡ codes "$") f (Name ∷ Colon ∷ Width ∷ SumTail ∷ []) t e)))
    by f (a_key (inr (inr (inr (inr (inr (inl (t, e)))))))) = some (parenthesis (took (λ word. word.text ≡ codes "(") f (Operand ∷ SumTail ∷ CloseParenthesis ∷ SumTail ∷ []) t e))
    by f (a_key (inr (inr (inr (inr (inr (inr none'))))))) = absurd none'
    by f (a_name k e) = absurd (none-some _ e)
    by f (a_number k e) = some (literal' (value_of f.word.text) (took (IsNumber (value_of f.word.text)) f (SumTail ∷ []) (k, refl) (same_Some _ _ e)))
    by f (a_text k e) = absurd (none-some _ e)
