-- Expressions and conditions, as the automaton takes them.
use Rattle.std.proofs.Common.{◌≡◌, ℕ, suc, ◌⊎◌, inl, inr, Bool, true, false, List, [], ◌∷◌, ◌++◌, None, Some, codes, refl, sym, ap, ◌∙◌, subst, true≢false}
use Rattle.std.proofs.lemmas.Bool.{and_parts}
use Rattle.std.proofs.lemmas.List.{append_assoc}
use Rattle.std.specs.List.{list_all}
use Rattle.sn_width.specs.declared.rel.Rel.{Rel}
use Rattle.sn_width.specs.declared.rel.Rel.TheVariants.{Eq, Ne, Lt, Le, Gt, Ge}
use Rattle.sefl_lex.specs.Bytes.{is_decimal, begins}
use Rattle.sefl_lex.specs.Words.{value_of}
use Rattle.sefl_lex.specs.declared.token.TokenKind.{TokenKind}
use Rattle.sefl_lex.specs.declared.token.TokenKind.TheVariants as kind
use Rattle.sefl_syntax.specs.Trees.{ExprTree, SummandTrees, CondTree, CondTrees}
use Rattle.sefl_syntax.specs.declared.expr.Sign.{Sign}
use Rattle.sefl_syntax.specs.declared.expr.Sign.TheVariants.{Plus, Minus}
use Rattle.sefl_grammar.specs.Word.{Placed}
use Rattle.sefl_grammar.specs.Table.{alternatives}
use Rattle.sefl_grammar.specs.Automaton.{step, find, by_kind, open_count}
use Rattle.sefl_grammar.specs.Grammar.{key, sign, rel, range, more_ranges, ranges, IsOperand, literal, read, grouped, IsExpr, members, IsSummands, none, more, IsNeg, opposite, truth, bracketed, comparison, membership, IsConj, all, AreNegs, no_neg, and_neg, IsCond, any, AreConjs, no_conj, or_conj}
use Rattle.sefl_grammar.proofs.Going.{Goes, goes_on, goes_key, stays}
use Rattle.sefl_grammar.proofs.Runs.{all_append}
use Rattle.sefl_grammar.proofs.Leaves.{TakesTarget, goes_target, goes_number, in_step, found_else, not_found, does_number}
use Rattle.sefl_grammar.specs.declared.symbol.Symbol.{Symbol}
use Rattle.sefl_grammar.specs.declared.symbol.Symbol.TheVariants.{Start, Version, Nodes, OldNodes, Links, NodeBody, OldNodeBody, TableKind, Style, Codes, OldCodes, Block, OldBlock, Instrs, OldInstrs, Value, Ports, MorePorts, Target, Addr, AddrSign, Operand, SumTail, Test, NotEnd, TestTail, Relation, RangeTail, MoreRanges, Tags, Fields, Wheres, FieldTarget, FieldValue, Asks, Question, Side, With, Name, Number, Port, Offset, Width, Text, Semicolon, Colon, Dot, Equals, Arrow, OpenBrace, CloseParenthesis, CloseBracket, In, Else, At}

-- what may stay of a sum or of a `not`, since nothing has to follow
abbrev pub is_remainder : Symbol → Bool
is_remainder SumTail = true
is_remainder NotEnd = true
is_remainder _ = false

quiet_sum : (k : TokenKind) (v : ℕ) → by_kind SumTail k v ≡ None
quiet_sum kind.Name v = refl
quiet_sum kind.Number v = refl
quiet_sum kind.Text v = refl
quiet_sum kind.Sign v = refl

quiet_not : (k : TokenKind) (v : ℕ) → by_kind NotEnd k v ≡ None
quiet_not kind.Name v = refl
quiet_not kind.Number v = refl
quiet_not kind.Text v = refl
quiet_not kind.Sign v = refl

quiet_test : (k : TokenKind) (v : ℕ) → by_kind TestTail k v ≡ None
quiet_test kind.Name v = refl
quiet_test kind.Number v = refl
quiet_test kind.Text v = refl
quiet_test kind.Sign v = refl

-- the word is no sign of a sum
pub skip_sum : (t : List ℕ) (k : TokenKind) (rest : List Symbol) → find t (alternatives SumTail) ≡ None → step (SumTail ∷ rest) (record { kind = k; text = t }) ≡ step rest (record { kind = k; text = t })
skip_sum t k rest absent = rw (absent, quiet_sum k (value_of t)) refl

skip_not : (t : List ℕ) (k : TokenKind) (rest : List Symbol) → step (NotEnd ∷ rest) (record { kind = k; text = t }) ≡ step rest (record { kind = k; text = t })
skip_not t k rest = rw (quiet_not k (value_of t)) refl

pub skip_test : (t : List ℕ) (k : TokenKind) (rest : List Symbol) → find t (alternatives TestTail) ≡ None → step (TestTail ∷ rest) (record { kind = k; text = t }) ≡ step rest (record { kind = k; text = t })
skip_test t k rest absent = rw (absent, quiet_test k (value_of t)) refl

skip_one : (x : Symbol) (t : List ℕ) (k : TokenKind) (rest : List Symbol) → find t (alternatives SumTail) ≡ None → is_remainder x ≡ true → step (x ∷ rest) (record { kind = k; text = t }) ≡ step rest (record { kind = k; text = t })
skip_one Start t k rest absent is = absurd (true≢false (sym is))
skip_one Version t k rest absent is = absurd (true≢false (sym is))
skip_one Nodes t k rest absent is = absurd (true≢false (sym is))
skip_one OldNodes t k rest absent is = absurd (true≢false (sym is))
skip_one Links t k rest absent is = absurd (true≢false (sym is))
skip_one NodeBody t k rest absent is = absurd (true≢false (sym is))
skip_one OldNodeBody t k rest absent is = absurd (true≢false (sym is))
skip_one TableKind t k rest absent is = absurd (true≢false (sym is))
skip_one Style t k rest absent is = absurd (true≢false (sym is))
skip_one Codes t k rest absent is = absurd (true≢false (sym is))
skip_one OldCodes t k rest absent is = absurd (true≢false (sym is))
skip_one Block t k rest absent is = absurd (true≢false (sym is))
skip_one OldBlock t k rest absent is = absurd (true≢false (sym is))
skip_one Instrs t k rest absent is = absurd (true≢false (sym is))
skip_one OldInstrs t k rest absent is = absurd (true≢false (sym is))
skip_one Value t k rest absent is = absurd (true≢false (sym is))
skip_one Ports t k rest absent is = absurd (true≢false (sym is))
skip_one MorePorts t k rest absent is = absurd (true≢false (sym is))
skip_one Target t k rest absent is = absurd (true≢false (sym is))
skip_one Addr t k rest absent is = absurd (true≢false (sym is))
skip_one AddrSign t k rest absent is = absurd (true≢false (sym is))
skip_one Operand t k rest absent is = absurd (true≢false (sym is))
skip_one SumTail t k rest absent is = skip_sum t k rest absent
skip_one Test t k rest absent is = absurd (true≢false (sym is))
skip_one NotEnd t k rest absent is = skip_not t k rest
skip_one TestTail t k rest absent is = absurd (true≢false (sym is))
skip_one Relation t k rest absent is = absurd (true≢false (sym is))
skip_one RangeTail t k rest absent is = absurd (true≢false (sym is))
skip_one MoreRanges t k rest absent is = absurd (true≢false (sym is))
skip_one Tags t k rest absent is = absurd (true≢false (sym is))
skip_one Fields t k rest absent is = absurd (true≢false (sym is))
skip_one Wheres t k rest absent is = absurd (true≢false (sym is))
skip_one FieldTarget t k rest absent is = absurd (true≢false (sym is))
skip_one FieldValue t k rest absent is = absurd (true≢false (sym is))
skip_one Asks t k rest absent is = absurd (true≢false (sym is))
skip_one Question t k rest absent is = absurd (true≢false (sym is))
skip_one Side t k rest absent is = absurd (true≢false (sym is))
skip_one With t k rest absent is = absurd (true≢false (sym is))
skip_one Name t k rest absent is = absurd (true≢false (sym is))
skip_one Number t k rest absent is = absurd (true≢false (sym is))
skip_one Port t k rest absent is = absurd (true≢false (sym is))
skip_one Offset t k rest absent is = absurd (true≢false (sym is))
skip_one Width t k rest absent is = absurd (true≢false (sym is))
skip_one Text t k rest absent is = absurd (true≢false (sym is))
skip_one Semicolon t k rest absent is = absurd (true≢false (sym is))
skip_one Colon t k rest absent is = absurd (true≢false (sym is))
skip_one Dot t k rest absent is = absurd (true≢false (sym is))
skip_one Equals t k rest absent is = absurd (true≢false (sym is))
skip_one Arrow t k rest absent is = absurd (true≢false (sym is))
skip_one OpenBrace t k rest absent is = absurd (true≢false (sym is))
skip_one CloseParenthesis t k rest absent is = absurd (true≢false (sym is))
skip_one CloseBracket t k rest absent is = absurd (true≢false (sym is))
skip_one In t k rest absent is = absurd (true≢false (sym is))
skip_one Else t k rest absent is = absurd (true≢false (sym is))
skip_one At t k rest absent is = absurd (true≢false (sym is))

pub skips_remainder : (ends rest : List Symbol) (t : List ℕ) (k : TokenKind) → find t (alternatives SumTail) ≡ None → list_all is_remainder ends ≡ true → step (ends ++ rest) (record { kind = k; text = t }) ≡ step rest (record { kind = k; text = t })
skips_remainder [] rest t k absent h = refl
skips_remainder (x ∷ ends) rest t k absent h =
    let parts = and_parts (is_remainder x) (list_all is_remainder ends) h in
    skip_one x t k (ends ++ rest) absent parts.0 ∙ skips_remainder ends rest t k absent parts.1

-- the symbols on the stack take an operand
pub record TakesOperand (s rest : List Symbol) : Type 0 where
  pub target : TakesTarget s rest
  pub number : (t : List ℕ) → begins is_decimal t ≡ true → step s (record { kind = kind.Number; text = t }) ≡ Some rest
  pub parenthesis : (k : TokenKind) → step s (record { kind = k; text = codes "(" }) ≡ Some (Operand ∷ SumTail ∷ CloseParenthesis ∷ rest)

takes_operand : (rest : List Symbol) → TakesOperand (Operand ∷ rest) rest
takes_operand rest = record {
  target = record { head = λ k. refl; global = λ k. refl; local = λ k. refl; dollar = λ k. refl };
  number = λ t h. in_step _ [] rest _ (found_else _ _ (not_found is_decimal t (alternatives Operand) h refl));
  parenthesis = λ k. refl;
}

takes_value : (rest : List Symbol) → TakesOperand (Value ∷ rest) (SumTail ∷ rest)
takes_value rest = record {
  target = record { head = λ k. refl; global = λ k. refl; local = λ k. refl; dollar = λ k. refl };
  number = λ t h. in_step _ (SumTail ∷ []) rest _ (found_else _ _ (not_found is_decimal t (alternatives Value) h refl));
  parenthesis = λ k. refl;
}

takes_test : (rest : List Symbol) → TakesOperand (Test ∷ rest) (SumTail ∷ Relation ∷ rest)
takes_test rest = record {
  target = record { head = λ k. refl; global = λ k. refl; local = λ k. refl; dollar = λ k. refl };
  number = λ t h. in_step _ (SumTail ∷ Relation ∷ []) rest _ (found_else _ _ (not_found is_decimal t (alternatives Test) h refl));
  parenthesis = λ k. refl;
}

goes_sign : (x : Sign) (d : ℕ) (b a : List Placed) → sign x d b a → (rest : List Symbol) → open_count rest ≡ d → Goes (SumTail ∷ rest) b (Operand ∷ SumTail ∷ rest) a
goes_sign Plus d b a is rest o = goes_key (codes "+") _ _ d b a is (λ k. refl) o
goes_sign Minus d b a is rest o = goes_key (codes "-") _ _ d b a is (λ k. refl) o

mutual
  goes_operand : {e : ExprTree} (d : ℕ) (b a : List Placed) → IsOperand e d b a → (s rest : List Symbol) → TakesOperand s rest → open_count rest ≡ d → Goes s b rest a
  goes_operand d b a (literal {n} is) s rest takes o = goes_number n s rest d b a is (λ t h v. takes.number t h) o
  goes_operand d b a (read {t} is) s rest takes o = goes_target t s d b a is rest o takes.target
  goes_operand d b a (grouped inside closing open' e close) s rest takes o =
      goes_on (goes_key (codes "(") s (Operand ∷ SumTail ∷ CloseParenthesis ∷ rest) (suc d) b inside open' takes.parenthesis (ap suc o))
      (goes_on (goes_expr (suc d) inside closing e (Operand ∷ SumTail ∷ CloseParenthesis ∷ rest) (CloseParenthesis ∷ rest) (takes_operand (SumTail ∷ CloseParenthesis ∷ rest)) (ap suc o))
      (goes_key (codes ")") (SumTail ∷ CloseParenthesis ∷ rest) rest d closing a close (λ k. skip_sum (codes ")") k (CloseParenthesis ∷ rest) refl) o))

  goes_expr : {e : ExprTree} (d : ℕ) (b a : List Placed) → IsExpr e d b a → (s rest : List Symbol) → TakesOperand s (SumTail ∷ rest) → open_count rest ≡ d → Goes s b (SumTail ∷ rest) a
  goes_expr d b a (members next first others) s rest takes o =
      goes_on (goes_operand d b next first s (SumTail ∷ rest) takes o) (goes_summands d next a others rest o)

  goes_summands : {es : SummandTrees} (d : ℕ) (b a : List Placed) → IsSummands es d b a → (rest : List Symbol) → open_count rest ≡ d → Goes (SumTail ∷ rest) b (SumTail ∷ rest) a
  goes_summands d b a (none is) rest o = stays (SumTail ∷ rest) b a is
  goes_summands d b a (more {s} first next is e others) rest o =
      goes_on (goes_sign s d b first is rest o)
      (goes_on (goes_operand d first next e (Operand ∷ SumTail ∷ rest) (SumTail ∷ rest) (takes_operand (SumTail ∷ rest)) o) (goes_summands d next a others rest o))

-- an expression on the right side of an assignment
pub goes_value : {e : ExprTree} (d : ℕ) (b a : List Placed) → IsExpr e d b a → (rest : List Symbol) → open_count rest ≡ d → Goes (Value ∷ rest) b (SumTail ∷ rest) a
goes_value d b a is rest o = goes_expr d b a is (Value ∷ rest) rest (takes_value rest) o

-- ranges
goes_range : (r : ℕ × ℕ) (d : ℕ) (b a : List Placed) → range r d b a → (rest : List Symbol) → open_count rest ≡ d → Goes (Number ∷ RangeTail ∷ rest) b (RangeTail ∷ rest) a ⊎ Goes (Number ∷ RangeTail ∷ rest) b (MoreRanges ∷ rest) a
goes_range r d b a (inl (m, first, (m', dots, last))) rest o =
    inr (goes_on (does_number r.0 d b m first (RangeTail ∷ rest) o)
    (goes_on (goes_key (codes "..") (RangeTail ∷ rest) (Number ∷ MoreRanges ∷ rest) d m m' dots (λ k. refl) o) (does_number r.1 d m' a last (MoreRanges ∷ rest) o)))
goes_range r d b a (inr (same, first)) rest o = inl (does_number r.0 d b a first (RangeTail ∷ rest) o)

behind_range : (rs : List (ℕ × ℕ)) (d : ℕ) (b m m' a : List Placed) (s : List Symbol) (rest : List Symbol) → open_count rest ≡ d
    → Goes s b (RangeTail ∷ rest) m ⊎ Goes s b (MoreRanges ∷ rest) m → more_ranges rs d m m' → key (codes "}") d m' a → Goes s b rest a
behind_range [] d b m m' a s rest o (inl before) is close =
    goes_on before (goes_on (stays (RangeTail ∷ rest) m m' is) (goes_key (codes "}") (RangeTail ∷ rest) rest d m' a close (λ k. refl) o))
behind_range [] d b m m' a s rest o (inr before) is close =
    goes_on before (goes_on (stays (MoreRanges ∷ rest) m m' is) (goes_key (codes "}") (MoreRanges ∷ rest) rest d m' a close (λ k. refl) o))
behind_range (r ∷ rs) d b m m' a s rest o (inl before) (x, comma, (y, first, others)) close =
    goes_on before (goes_on (goes_key (codes ",") (RangeTail ∷ rest) (Number ∷ RangeTail ∷ rest) d m x comma (λ k. refl) o)
    (behind_range rs d x y m' a (Number ∷ RangeTail ∷ rest) rest o (goes_range r d x y first rest o) others close))
behind_range (r ∷ rs) d b m m' a s rest o (inr before) (x, comma, (y, first, others)) close =
    goes_on before (goes_on (goes_key (codes ",") (MoreRanges ∷ rest) (Number ∷ RangeTail ∷ rest) d m x comma (λ k. refl) o)
    (behind_range rs d x y m' a (Number ∷ RangeTail ∷ rest) rest o (goes_range r d x y first rest o) others close))

goes_ranges : (rs : List (ℕ × ℕ)) (d : ℕ) (b m a : List Placed) → ranges rs d b m → key (codes "}") d m a → (rest : List Symbol) → open_count rest ≡ d → Goes (Number ∷ RangeTail ∷ rest) b rest a
goes_ranges [] d b m a is close rest o = absurd is
goes_ranges (r ∷ rs) d b m a (x, first, others) close rest o = behind_range rs d b x m a (Number ∷ RangeTail ∷ rest) rest o (goes_range r d b x first rest o) others close

goes_rel : (r : Rel) (d : ℕ) (b a : List Placed) → rel r d b a → (rest : List Symbol) → open_count rest ≡ d → Goes (SumTail ∷ Relation ∷ rest) b (Operand ∷ SumTail ∷ rest) a
goes_rel Eq d b a is rest o = goes_key (codes "==") _ _ d b a is (λ k. skip_sum (codes "==") k (Relation ∷ rest) refl) o
goes_rel Ne d b a is rest o = goes_key (codes "!=") _ _ d b a is (λ k. skip_sum (codes "!=") k (Relation ∷ rest) refl) o
goes_rel Lt d b a is rest o = goes_key (codes "<") _ _ d b a is (λ k. skip_sum (codes "<") k (Relation ∷ rest) refl) o
goes_rel Le d b a is rest o = goes_key (codes "<=") _ _ d b a is (λ k. skip_sum (codes "<=") k (Relation ∷ rest) refl) o
goes_rel Gt d b a is rest o = goes_key (codes ">") _ _ d b a is (λ k. skip_sum (codes ">") k (Relation ∷ rest) refl) o
goes_rel Ge d b a is rest o = goes_key (codes ">=") _ _ d b a is (λ k. skip_sum (codes ">=") k (Relation ∷ rest) refl) o

-- the automaton goes on, but for what may stay
pub record Leads (s : List Symbol) (b : List Placed) (rest : List Symbol) (a : List Placed) : Type 0 where
  pub ends : List Symbol
  pub are : list_all is_remainder ends ≡ true
  pub goes : Goes s b (ends ++ rest) a

pub leads_on : {s s' rest : List Symbol} {b m a : List Placed} → Goes s b s' m → Leads s' m rest a → Leads s b rest a
leads_on g l = record { ends = l.ends; are = l.are; goes = goes_on g l.goes }

-- behind a condition, a word that goes on with no sum and no chain
pub closes_test : {s : List Symbol} {b m a : List Placed} (t : List ℕ) (rest s' : List Symbol) (d : ℕ) → Leads s b (TestTail ∷ rest) m → key t d m a
    → find t (alternatives SumTail) ≡ None → find t (alternatives TestTail) ≡ None → ((k : TokenKind) → step rest (record { kind = k; text = t }) ≡ Some s') → open_count s' ≡ d → Goes s b s' a
closes_test {m = m} {a = a} t rest s' d l is sums chains st o =
    goes_on l.goes (goes_key t (l.ends ++ TestTail ∷ rest) s' d m a is (λ k. skips_remainder l.ends (TestTail ∷ rest) t k sums l.are ∙ skip_test t k rest chains ∙ st k) o)

-- a word that goes on with a chain
chains_on : {s : List Symbol} {b m a : List Placed} (t : List ℕ) (rest : List Symbol) (d : ℕ) → Leads s b (TestTail ∷ rest) m → key t d m a
    → find t (alternatives SumTail) ≡ None → ((k : TokenKind) → step (TestTail ∷ rest) (record { kind = k; text = t }) ≡ Some (Test ∷ TestTail ∷ rest)) → open_count rest ≡ d → Goes s b (Test ∷ TestTail ∷ rest) a
chains_on {m = m} {a = a} t rest d l is sums st o =
    goes_on l.goes (goes_key t (l.ends ++ TestTail ∷ rest) (Test ∷ TestTail ∷ rest) d m a is (λ k. skips_remainder l.ends (TestTail ∷ rest) t k sums l.are ∙ st k) o)

leads_to : (s : List Symbol) (b : List Placed) (rest : List Symbol) (m a : List Placed) → Leads s b rest m → m ≡ a → Leads s b rest a
leads_to s b rest m a l e = subst (λ x. Leads s b rest x) e l

within_not : {s : List Symbol} {b a : List Placed} (rest : List Symbol) → Leads s b (NotEnd ∷ rest) a → Leads s b rest a
within_not {s} {b} {a} rest l = record {
  ends = l.ends ++ NotEnd ∷ [];
  are = all_append is_remainder l.ends (NotEnd ∷ []) l.are refl;
  goes = subst (λ x. Goes s b x a) (sym (append_assoc l.ends (NotEnd ∷ []) rest)) l.goes;
}

mutual
  goes_neg : {c : CondTree} (d : ℕ) (b a : List Placed) → IsNeg c d b a → (rest : List Symbol) → open_count rest ≡ d → Leads (Test ∷ rest) b rest a
  goes_neg d b a (opposite inside is c) rest o =
      within_not rest (leads_on (goes_key (codes "not") (Test ∷ rest) (Test ∷ NotEnd ∷ rest) (suc d) b inside is (λ k. refl) (ap suc o)) (goes_neg (suc d) inside a c (NotEnd ∷ rest) (ap suc o)))
  goes_neg d b a (truth is) rest o = record { ends = []; are = refl; goes = goes_key (codes "true") (Test ∷ rest) rest d b a is (λ k. refl) o }
  goes_neg d b a (bracketed inside closing open' c close) rest o = record {
    ends = [];
    are = refl;
    goes =
        goes_on (goes_key (codes "[") (Test ∷ rest) (Test ∷ TestTail ∷ CloseBracket ∷ rest) (suc d) b inside open' (λ k. refl) (ap suc o))
        (closes_test (codes "]") (CloseBracket ∷ rest) rest d (goes_chain (suc d) inside closing c (CloseBracket ∷ rest) (ap suc o)) close refl refl (λ k. refl) o);
  }
  goes_neg d b a (comparison (m, left, (m', r, right))) rest o = record {
    ends = SumTail ∷ [];
    are = refl;
    goes =
        goes_on (goes_expr d b m left (Test ∷ rest) (Relation ∷ rest) (takes_test rest) o)
        (goes_on (goes_rel _ d m m' r rest o) (goes_expr d m' a right (Operand ∷ SumTail ∷ rest) rest (takes_operand (SumTail ∷ rest)) o));
  }
  goes_neg d b a (membership (m, value, (m1, is, (m2, brace, (m3, rs, close))))) rest o = record {
    ends = [];
    are = refl;
    goes =
        goes_on (goes_expr d b m value (Test ∷ rest) (Relation ∷ rest) (takes_test rest) o)
        (goes_on (goes_key (codes "in") (SumTail ∷ Relation ∷ rest) (OpenBrace ∷ Number ∷ RangeTail ∷ rest) d m m1 is (λ k. skip_sum (codes "in") k (Relation ∷ rest) refl) o)
        (goes_on (goes_key (codes "{") (OpenBrace ∷ Number ∷ RangeTail ∷ rest) (Number ∷ RangeTail ∷ rest) d m1 m2 brace (λ k. refl) o)
        (goes_ranges _ d m2 m3 a rs close rest o)));
  }

  goes_conj : {c : CondTree} (d : ℕ) (b a : List Placed) → IsConj c d b a → (rest : List Symbol) → open_count rest ≡ d → Leads (Test ∷ TestTail ∷ rest) b (TestTail ∷ rest) a
  goes_conj d b a (all next first others) rest o = goes_negs d b next a others rest (goes_neg d b next first (TestTail ∷ rest) o) o

  goes_negs : {cs : CondTrees} {s : List Symbol} (d : ℕ) (b m a : List Placed) → AreNegs cs d m a → (rest : List Symbol) → Leads s b (TestTail ∷ rest) m → open_count rest ≡ d → Leads s b (TestTail ∷ rest) a
  goes_negs {s = s} d b m a (no_neg is) rest l o = leads_to s b (TestTail ∷ rest) m a l is
  goes_negs d b m a (and_neg first next is c others) rest l o =
      goes_negs d b next a others rest (leads_on (chains_on (codes "and") rest d l is refl (λ k. refl) o) (goes_neg d first next c (TestTail ∷ rest) o)) o

  goes_chain : {c : CondTree} (d : ℕ) (b a : List Placed) → IsCond c d b a → (rest : List Symbol) → open_count rest ≡ d → Leads (Test ∷ TestTail ∷ rest) b (TestTail ∷ rest) a
  goes_chain d b a (any next first others) rest o = goes_conjs d b next a others rest (goes_conj d b next first rest o) o

  goes_conjs : {cs : CondTrees} {s : List Symbol} (d : ℕ) (b m a : List Placed) → AreConjs cs d m a → (rest : List Symbol) → Leads s b (TestTail ∷ rest) m → open_count rest ≡ d → Leads s b (TestTail ∷ rest) a
  goes_conjs {s = s} d b m a (no_conj is) rest l o = leads_to s b (TestTail ∷ rest) m a l is
  goes_conjs d b m a (or_conj first next is c others) rest l o =
      goes_conjs d b next a others rest (leads_on (chains_on (codes "or") rest d l is refl (λ k. refl) o) (goes_conj d first next c rest o)) o

pub goes_cond : {c : CondTree} (d : ℕ) (b a : List Placed) → IsCond c d b a → (rest : List Symbol) → open_count rest ≡ d → Leads (Test ∷ TestTail ∷ rest) b (TestTail ∷ rest) a
goes_cond d b a is rest o = goes_chain d b a is rest o
