-- Instructions and blocks in an accepted list.
use Rattle.std.proofs.Common.{◌≡◌, ℕ, zero, suc, ◌≤◌, inl, inr, List, [], ◌∷◌, length, Option, None, Some, codes, refl, sym, ap, ◌∙◌, subst, arith}
use Rattle.std.proofs.lemmas.Option.{none-some}
use Rattle.sefl_lex.specs.Words.{value_of}
use Rattle.sefl_syntax.specs.Trees as tree
use Rattle.sefl_syntax.specs.Trees.{ExprTree, CondTree, InstrTree, CodeTree}
use Rattle.sefl_syntax.specs.declared.reference.Addr.{Addr as AddrOf}
use Rattle.sefl_syntax.specs.declared.reference.Target.{Target as TargetOf}
use Rattle.sefl_grammar.specs.Word.{Word, Placed}
use Rattle.sefl_grammar.specs.Automaton.{open_count}
use Rattle.sefl_grammar.specs.Grammar.{Spelling, ◌⨾◌, key, name, text, port, addr, target, IsCond, Version, old, new, equation, more_ports, ports, IsInstr, plain, branch, each, block, IsBlock, braces, IsCode, no_instr, instr_first}
use Rattle.sefl_grammar.proofs.Going.{placed_of}
use Rattle.sefl_grammar.proofs.Codes.{instrs_of, block_of, open_instrs, closed_block}
use Rattle.sefl_grammar.proofs.Ending.{Ends, Among, Choice, a_key, a_name, a_number, a_text, First, first, Took, took, Found, Finds, found_seq, only_key, finds_key, some_words, Strictly, strictly_behind, strictly_as}
use Rattle.sefl_grammar.proofs.FoundLeaves.{IsNumber, limited, found_name, found_text, found_port, found_addr, found_target, found_semicolon}
use Rattle.sefl_grammar.proofs.FoundTerms.{assigned, found_value}
use Rattle.sefl_grammar.proofs.FoundConds.{found_cond}
use Rattle.sefl_grammar.specs.declared.symbol.Symbol.{Symbol}
use Rattle.sefl_grammar.specs.declared.symbol.Symbol.TheVariants.{Instrs, OldInstrs, Block, OldBlock, Value, Ports, MorePorts, Target, Addr, Test, TestTail, Name, Port, Text, Semicolon, Equals, In, Else}

pub found_equals : {n : ℕ} → Finds {V = Unit {0}} n (λ u. key (codes "=")) (λ rest. Equals ∷ rest)
found_equals = finds_key Equals (codes "=") refl refl refl (λ v. refl) refl

-- a part, and the semicolon behind it
ended : {V : Type 0} {n : ℕ} (p : V → Spelling) (f : List Symbol → List Symbol) → Finds n p f → Finds {V = V × Unit {0}} n (λ x. p x.0 ⨾ key (codes ";")) (λ rest. f (Semicolon ∷ rest))
ended p f finds = found_seq p (λ u. key (codes ";")) f (λ rest. Semicolon ∷ rest) finds found_semicolon (λ r. refl)

-- two parts with a sign between them, and the semicolon behind them
equated : {V W : Type 0} {n : ℕ} (p : V → Spelling) (q : W → Spelling) (f : List Symbol → List Symbol) (x : Symbol) → Finds n p f → Finds n q (λ rest. x ∷ rest) → ((rest : List Symbol) → open_count (x ∷ rest) ≡ open_count rest)
    → Finds {V = V × (Unit {0} × (W × Unit {0}))} n (λ y. equation (p y.0) (q y.1.1.0)) (λ rest. f (Equals ∷ x ∷ Semicolon ∷ rest))
equated p q f x left right closed =
    found_seq p (λ y. key (codes "=") ⨾ q y.1.0 ⨾ key (codes ";")) f (λ rest. Equals ∷ x ∷ Semicolon ∷ rest) left
    (found_seq (λ u. key (codes "=")) (λ y. q y.0 ⨾ key (codes ";")) (λ rest. Equals ∷ rest) (λ rest. x ∷ Semicolon ∷ rest) found_equals (ended q (λ rest. x ∷ rest) right) (λ r. closed (Semicolon ∷ r)))
    (λ r. closed (Semicolon ∷ r))

pub found_named_addr : {n : ℕ} → Finds {V = List ℕ × (Unit {0} × (AddrOf × Unit {0}))} n (λ y. equation (name y.0) (addr y.1.1.0)) (λ rest. Name ∷ Equals ∷ Addr ∷ Semicolon ∷ rest)
found_named_addr = equated name addr (λ rest. Name ∷ rest) Addr found_name found_addr (λ r. refl)

pub found_test_end : (n : ℕ) → Finds {V = CondTree × Unit {0}} n (λ x. IsCond x.0 ⨾ key (codes ";")) (λ rest. Test ∷ TestTail ∷ Semicolon ∷ rest)
found_test_end n = ended IsCond (λ rest. Test ∷ TestTail ∷ rest) (found_cond n)

ends_ports : (stack rest : List Symbol) (words : List Word) (depth : ℕ) → Took (λ word. word.text ≡ codes ";") stack words rest → open_count rest ≡ depth → Found (λ ps. more_ports ps ⨾ key (codes ";")) depth stack rest words
ends_ports stack rest words depth t o =
    let s = t.shorter in
    record { value = []; left = t.left; is = (placed_of stack words, refl, t.spelled depth o); ends = t.ends; shorter = omega (arith, s) }

found_more_ports : (n : ℕ) → Finds n (λ ps. more_ports ps ⨾ key (codes ";")) (λ rest. MorePorts ∷ rest)
found_more_ports zero depth rest words h o ends = absurd (some_words (first MorePorts rest words refl ends) h)
found_more_ports (suc n) depth rest words h o ends = by (found_more_ports n) (first MorePorts rest words refl ends) (first MorePorts rest words refl ends).choice
  where
    by : Finds n (λ ps. more_ports ps ⨾ key (codes ";")) (λ rest. MorePorts ∷ rest) → (f : First MorePorts rest words) → Choice MorePorts f.word f.then' → Found (λ ps. more_ports ps ⨾ key (codes ";")) depth (MorePorts ∷ rest) rest words
    by later f (a_key (inl (t, e))) =
        let k = took (λ word. word.text ≡ codes ",") f (Port ∷ MorePorts ∷ []) t e in
        let s = k.shorter in
        let p = found_port {n = n} depth (MorePorts ∷ rest) k.left (omega (arith, h, s)) o k.ends in
        let u = p.shorter in
        let m = later depth rest p.left (omega (arith, h, s, u)) o p.ends in
        let w = m.shorter in
        record {
          value = p.value ∷ m.value;
          left = m.left;
          is = (m.is.0, (placed_of (Port ∷ MorePorts ∷ rest) k.left, k.spelled depth o, (placed_of (MorePorts ∷ rest) p.left, p.is, m.is.1)), m.is.2);
          ends = m.ends;
          shorter = omega (arith, s, u, w);
        }
    by later f (a_key (inr (inl (t, e)))) = ends_ports (MorePorts ∷ rest) rest words depth (took (λ word. word.text ≡ codes ";") f [] t e) o
    by later f (a_key (inr (inr none))) = absurd none
    by later f (a_name k e) = absurd (none-some _ e)
    by later f (a_number k e) = absurd (none-some _ e)
    by later f (a_text k e) = absurd (none-some _ e)

found_ports : (n : ℕ) → Finds n (λ ps. ports ps ⨾ key (codes ";")) (λ rest. Ports ∷ rest)
found_ports n depth rest words h o ends = by (first Ports rest words refl ends) (first Ports rest words refl ends).choice
  where
    by : (f : First Ports rest words) → Choice Ports f.word f.then' → Found (λ ps. ports ps ⨾ key (codes ";")) depth (Ports ∷ rest) rest words
    by f (a_key (inl (t, e))) =
        let k = took (λ word. word.text ≡ codes ";") f [] t e in
        let s = k.shorter in
        record { value = []; left = k.left; is = (placed_of (Ports ∷ rest) words, refl, k.spelled depth o); ends = k.ends; shorter = omega (arith, s) }
    by f (a_key (inr none)) = absurd none
    by f (a_name k e) = absurd (none-some _ e)
    by f (a_text k e) = absurd (none-some _ e)
    by f (a_number k e) =
        let fits = limited 4294967295 (value_of f.word.text) (MorePorts ∷ []) f.then' e in
        let t = took (IsNumber (value_of f.word.text)) f (MorePorts ∷ []) (k, refl) fits.1 in
        let s = t.shorter in
        let m = found_more_ports n depth rest t.left (omega (arith, h, s)) o t.ends in
        let w = m.shorter in
        record {
          value = value_of f.word.text ∷ m.value;
          left = m.left;
          is = (m.is.0, (placed_of (MorePorts ∷ rest) t.left, (omega arith, fits.0, t.spelled depth o), m.is.1), m.is.2);
          ends = m.ends;
          shorter = omega (arith, s, w);
        }

-- instructions, and the brace behind them
abbrev to_brace : Version → CodeTree → Spelling
to_brace v c depth before after = (closing : List Placed) × IsCode v c (suc depth) before closing × key (codes "}") depth closing after

brace_by : (x y : Symbol) (rest : List Symbol) (words : List Word) (f : First x rest words) → Among f.word.text f.then' ((codes "{", y ∷ []) ∷ []) → Took (λ word. word.text ≡ codes "{") (x ∷ rest) words (y ∷ rest)
brace_by x y rest words f (inl (t, e)) = took (λ word. word.text ≡ codes "{") f (y ∷ []) t e
brace_by x y rest words f (inr none) = absurd none

old_brace : (rest : List Symbol) (words : List Word) (f : First OldBlock rest words) → Choice OldBlock f.word f.then' → Took (λ word. word.text ≡ codes "{") (OldBlock ∷ rest) words (OldInstrs ∷ rest)
old_brace rest words f (a_key among) = brace_by OldBlock OldInstrs rest words f among
old_brace rest words f (a_name k e) = absurd (none-some _ e)
old_brace rest words f (a_number k e) = absurd (none-some _ e)
old_brace rest words f (a_text k e) = absurd (none-some _ e)

new_brace : (rest : List Symbol) (words : List Word) (f : First Block rest words) → Choice Block f.word f.then' → Took (λ word. word.text ≡ codes "{") (Block ∷ rest) words (Instrs ∷ rest)
new_brace rest words f (a_key among) = brace_by Block Instrs rest words f among
new_brace rest words f (a_name k e) = absurd (none-some _ e)
new_brace rest words f (a_number k e) = absurd (none-some _ e)
new_brace rest words f (a_text k e) = absurd (none-some _ e)

brace_of : (v : Version) (rest : List Symbol) (words : List Word) → Ends (block_of v ∷ rest) words → Took (λ word. word.text ≡ codes "{") (block_of v ∷ rest) words (instrs_of v ∷ rest)
brace_of old rest words ends = old_brace rest words (first OldBlock rest words refl ends) (first OldBlock rest words refl ends).choice
brace_of new rest words ends = new_brace rest words (first Block rest words refl ends) (first Block rest words refl ends).choice

block_behind : (v : Version) (n : ℕ) → Finds n (to_brace v) (λ rest. instrs_of v ∷ rest) → (stack rest : List Symbol) (words : List Word) (depth : ℕ) → length words ≤ suc n → open_count rest ≡ depth
    → Took (λ word. word.text ≡ codes "{") stack words (instrs_of v ∷ rest) → Strictly (IsBlock v) depth stack rest words
block_behind v n code stack rest words depth h o t =
    let s = t.shorter in
    let c = code depth rest t.left (omega (arith, h, s)) o t.ends in
    let u = c.shorter in (
      record {
        value = c.value;
        left = c.left;
        is = braces (placed_of (instrs_of v ∷ rest) t.left) c.is.0 (t.spelled (suc depth) (open_instrs v rest ∙ ap suc o)) c.is.1 c.is.2;
        ends = c.ends;
        shorter = omega (arith, s, u);
      },
      omega (arith, s, u),
    )

pub found_block_from : (v : Version) (n : ℕ) → Finds n (to_brace v) (λ rest. instrs_of v ∷ rest) → Finds n (IsBlock v) (λ rest. block_of v ∷ rest)
found_block_from v n code depth rest words h o ends = (block_behind v n code (block_of v ∷ rest) rest words depth (omega (arith, h)) o (brace_of v rest words ends)).0

-- the first word of an instruction was taken, or the brace behind the last one
data Begun (v : Version) (rest : List Symbol) (words : List Word) : Type 0 where
  closes : Took (λ word. word.text ≡ codes "}") (instrs_of v ∷ rest) words (rest) → Begun v rest words
  allocates : Took (λ word. word.text ≡ codes "allocate") (instrs_of v ∷ rest) words (Target ∷ Semicolon ∷ instrs_of v ∷ rest) → Begun v rest words
  deallocates : Took (λ word. word.text ≡ codes "deallocate") (instrs_of v ∷ rest) words (Target ∷ Semicolon ∷ instrs_of v ∷ rest) → Begun v rest words
  sets : Took (λ word. word.text ≡ codes "set") (instrs_of v ∷ rest) words (Target ∷ Equals ∷ Value ∷ Semicolon ∷ instrs_of v ∷ rest) → Begun v rest words
  tags : Took (λ word. word.text ≡ codes "tag") (instrs_of v ∷ rest) words (Name ∷ Equals ∷ Addr ∷ Semicolon ∷ instrs_of v ∷ rest) → Begun v rest words
  retags : v ≡ new → Took (λ word. word.text ≡ codes "retag") (instrs_of v ∷ rest) words (Name ∷ Equals ∷ Addr ∷ Semicolon ∷ instrs_of v ∷ rest) → Begun v rest words
  untags : Took (λ word. word.text ≡ codes "untag") (instrs_of v ∷ rest) words (Name ∷ Semicolon ∷ instrs_of v ∷ rest) → Begun v rest words
  constrains : Took (λ word. word.text ≡ codes "constrain") (instrs_of v ∷ rest) words (Test ∷ TestTail ∷ Semicolon ∷ instrs_of v ∷ rest) → Begun v rest words
  fails : Took (λ word. word.text ≡ codes "fail") (instrs_of v ∷ rest) words (Text ∷ Semicolon ∷ instrs_of v ∷ rest) → Begun v rest words
  ifs : Took (λ word. word.text ≡ codes "if") (instrs_of v ∷ rest) words (Test ∷ TestTail ∷ block_of v ∷ Else ∷ block_of v ∷ instrs_of v ∷ rest) → Begun v rest words
  fors : Took (λ word. word.text ≡ codes "for") (instrs_of v ∷ rest) words (Name ∷ In ∷ Text ∷ block_of v ∷ instrs_of v ∷ rest) → Begun v rest words
  forwards : Took (λ word. word.text ≡ codes "forward") (instrs_of v ∷ rest) words (Port ∷ Semicolon ∷ instrs_of v ∷ rest) → Begun v rest words
  forks : Took (λ word. word.text ≡ codes "fork") (instrs_of v ∷ rest) words (Ports ∷ instrs_of v ∷ rest) → Begun v rest words
  noops : Took (λ word. word.text ≡ codes "noop") (instrs_of v ∷ rest) words (Semicolon ∷ instrs_of v ∷ rest) → Begun v rest words
  blocks : Took (λ word. word.text ≡ codes "{") (instrs_of v ∷ rest) words (instrs_of v ∷ instrs_of v ∷ rest) → Begun v rest words

old_begun : (rest : List Symbol) (words : List Word) (f : First OldInstrs rest words) → Choice OldInstrs f.word f.then' → Begun old rest words
old_begun rest words f (a_key (inl (t, e))) = closes (took (λ word. word.text ≡ codes "}") f ([]) t e)
old_begun rest words f (a_key (inr (inl (t, e)))) = allocates (took (λ word. word.text ≡ codes "allocate") f (Target ∷ Semicolon ∷ OldInstrs ∷ []) t e)
old_begun rest words f (a_key (inr (inr (inl (t, e))))) = deallocates (took (λ word. word.text ≡ codes "deallocate") f (Target ∷ Semicolon ∷ OldInstrs ∷ []) t e)
old_begun rest words f (a_key (inr (inr (inr (inl (t, e)))))) = sets (took (λ word. word.text ≡ codes "set") f (Target ∷ Equals ∷ Value ∷ Semicolon ∷ OldInstrs ∷ []) t e)
old_begun rest words f (a_key (inr (inr (inr (inr (inl (t, e))))))) = tags (took (λ word. word.text ≡ codes "tag") f (Name ∷ Equals ∷ Addr ∷ Semicolon ∷ OldInstrs ∷ []) t e)
old_begun rest words f (a_key (inr (inr (inr (inr (inr (inl (t, e)))))))) = untags (took (λ word. word.text ≡ codes "untag") f (Name ∷ Semicolon ∷ OldInstrs ∷ []) t e)
old_begun rest words f (a_key (inr (inr (inr (inr (inr (inr (inl (t, e))))))))) = constrains (took (λ word. word.text ≡ codes "constrain") f (Test ∷ TestTail ∷ Semicolon ∷ OldInstrs ∷ []) t e)
old_begun rest words f (a_key (inr (inr (inr (inr (inr (inr (inr (inl (t, e)))))))))) = fails (took (λ word. word.text ≡ codes "fail") f (Text ∷ Semicolon ∷ OldInstrs ∷ []) t e)
old_begun rest words f (a_key (inr (inr (inr (inr (inr (inr (inr (inr (inl (t, e))))))))))) = ifs (took (λ word. word.text ≡ codes "if") f (Test ∷ TestTail ∷ OldBlock ∷ Else ∷ OldBlock ∷ OldInstrs ∷ []) t e)
old_begun rest words f (a_key (inr (inr (inr (inr (inr (inr (inr (inr (inr (inl (t, e)))))))))))) = fors (took (λ word. word.text ≡ codes "for") f (Name ∷ In ∷ Text ∷ OldBlock ∷ OldInstrs ∷ []) t e)
old_begun rest words f (a_key (inr (inr (inr (inr (inr (inr (inr (inr (inr (inr (inl (t, e))))))))))))) = forwards (took (λ word. word.text ≡ codes "forward") f (Port ∷ Semicolon ∷ OldInstrs ∷ []) t e)
old_begun rest words f (a_key (inr (inr (inr (inr (inr (inr (inr (inr (inr (inr (inr (inl (t, e)))))))))))))) = forks (took (λ word. word.text ≡ codes "fork") f (Ports ∷ OldInstrs ∷ []) t e)
old_begun rest words f (a_key (inr (inr (inr (inr (inr (inr (inr (inr (inr (inr (inr (inr (inl (t, e))))))))))))))) = noops (took (λ word. word.text ≡ codes "noop") f (Semicolon ∷ OldInstrs ∷ []) t e)
old_begun rest words f (a_key (inr (inr (inr (inr (inr (inr (inr (inr (inr (inr (inr (inr (inr (inl (t, e)))))))))))))))) = blocks (took (λ word. word.text ≡ codes "{") f (OldInstrs ∷ OldInstrs ∷ []) t e)
old_begun rest words f (a_key (inr (inr (inr (inr (inr (inr (inr (inr (inr (inr (inr (inr (inr (inr none))))))))))))))) = absurd none
old_begun rest words f (a_name k e) = absurd (none-some _ e)
old_begun rest words f (a_number k e) = absurd (none-some _ e)
old_begun rest words f (a_text k e) = absurd (none-some _ e)

new_begun : (rest : List Symbol) (words : List Word) (f : First Instrs rest words) → Choice Instrs f.word f.then' → Begun new rest words
new_begun rest words f (a_key (inl (t, e))) = closes (took (λ word. word.text ≡ codes "}") f ([]) t e)
new_begun rest words f (a_key (inr (inl (t, e)))) = allocates (took (λ word. word.text ≡ codes "allocate") f (Target ∷ Semicolon ∷ Instrs ∷ []) t e)
new_begun rest words f (a_key (inr (inr (inl (t, e))))) = deallocates (took (λ word. word.text ≡ codes "deallocate") f (Target ∷ Semicolon ∷ Instrs ∷ []) t e)
new_begun rest words f (a_key (inr (inr (inr (inl (t, e)))))) = sets (took (λ word. word.text ≡ codes "set") f (Target ∷ Equals ∷ Value ∷ Semicolon ∷ Instrs ∷ []) t e)
new_begun rest words f (a_key (inr (inr (inr (inr (inl (t, e))))))) = tags (took (λ word. word.text ≡ codes "tag") f (Name ∷ Equals ∷ Addr ∷ Semicolon ∷ Instrs ∷ []) t e)
new_begun rest words f (a_key (inr (inr (inr (inr (inr (inl (t, e)))))))) = retags refl (took (λ word. word.text ≡ codes "retag") f (Name ∷ Equals ∷ Addr ∷ Semicolon ∷ Instrs ∷ []) t e)
new_begun rest words f (a_key (inr (inr (inr (inr (inr (inr (inl (t, e))))))))) = untags (took (λ word. word.text ≡ codes "untag") f (Name ∷ Semicolon ∷ Instrs ∷ []) t e)
new_begun rest words f (a_key (inr (inr (inr (inr (inr (inr (inr (inl (t, e)))))))))) = constrains (took (λ word. word.text ≡ codes "constrain") f (Test ∷ TestTail ∷ Semicolon ∷ Instrs ∷ []) t e)
new_begun rest words f (a_key (inr (inr (inr (inr (inr (inr (inr (inr (inl (t, e))))))))))) = fails (took (λ word. word.text ≡ codes "fail") f (Text ∷ Semicolon ∷ Instrs ∷ []) t e)
new_begun rest words f (a_key (inr (inr (inr (inr (inr (inr (inr (inr (inr (inl (t, e)))))))))))) = ifs (took (λ word. word.text ≡ codes "if") f (Test ∷ TestTail ∷ Block ∷ Else ∷ Block ∷ Instrs ∷ []) t e)
new_begun rest words f (a_key (inr (inr (inr (inr (inr (inr (inr (inr (inr (inr (inl (t, e))))))))))))) = fors (took (λ word. word.text ≡ codes "for") f (Name ∷ In ∷ Text ∷ Block ∷ Instrs ∷ []) t e)
new_begun rest words f (a_key (inr (inr (inr (inr (inr (inr (inr (inr (inr (inr (inr (inl (t, e)))))))))))))) = forwards (took (λ word. word.text ≡ codes "forward") f (Port ∷ Semicolon ∷ Instrs ∷ []) t e)
new_begun rest words f (a_key (inr (inr (inr (inr (inr (inr (inr (inr (inr (inr (inr (inr (inl (t, e))))))))))))))) = forks (took (λ word. word.text ≡ codes "fork") f (Ports ∷ Instrs ∷ []) t e)
new_begun rest words f (a_key (inr (inr (inr (inr (inr (inr (inr (inr (inr (inr (inr (inr (inr (inl (t, e)))))))))))))))) = noops (took (λ word. word.text ≡ codes "noop") f (Semicolon ∷ Instrs ∷ []) t e)
new_begun rest words f (a_key (inr (inr (inr (inr (inr (inr (inr (inr (inr (inr (inr (inr (inr (inr (inl (t, e))))))))))))))))) = blocks (took (λ word. word.text ≡ codes "{") f (Instrs ∷ Instrs ∷ []) t e)
new_begun rest words f (a_key (inr (inr (inr (inr (inr (inr (inr (inr (inr (inr (inr (inr (inr (inr (inr none)))))))))))))))) = absurd none
new_begun rest words f (a_name k e) = absurd (none-some _ e)
new_begun rest words f (a_number k e) = absurd (none-some _ e)
new_begun rest words f (a_text k e) = absurd (none-some _ e)

begun : (v : Version) (rest : List Symbol) (words : List Word) → Ends (instrs_of v ∷ rest) words → Begun v rest words
begun old rest words ends = old_begun rest words (first OldInstrs rest words refl ends) (first OldInstrs rest words refl ends).choice
begun new rest words ends = new_begun rest words (first Instrs rest words refl ends) (first Instrs rest words refl ends).choice

-- an instruction, where code goes on behind it
abbrev Instr : Version → ℕ → List Symbol → List Word → Type 0
Instr v depth rest words = Strictly (IsInstr v) depth (instrs_of v ∷ rest) (instrs_of v ∷ rest) words

assignment : (v : Version) (t : TargetOf) (e : Option ExprTree) (depth : ℕ) (b a : List Placed) → (key (codes "set") ⨾ equation (target t) (assigned e)) depth b a → (i : InstrTree) × IsInstr v i depth b a
assignment v t None depth b a is = (tree.assign_any t, plain is)
assignment v t (Some e) depth b a is = (tree.assign t e, plain is)

tag_instr : (v : Version) (n : List ℕ) (x : AddrOf) (depth : ℕ) (b a : List Placed) → (key (codes "tag") ⨾ equation (name n) (addr x)) depth b a → (i : InstrTree) × IsInstr v i depth b a
tag_instr old n x depth b a is = (tree.set_tag n x, plain is)
tag_instr new n x depth b a is = (tree.create_tag n x, plain is)

retag_instr : (v : Version) (n : List ℕ) (x : AddrOf) (depth : ℕ) (b a : List Placed) → v ≡ new → (key (codes "retag") ⨾ equation (name n) (addr x)) depth b a → (i : InstrTree) × IsInstr v i depth b a
retag_instr v n x depth b a e is = subst (λ w. (i : InstrTree) × IsInstr w i depth b a) (sym e) (tree.set_tag n x, plain is)

found_branch : (v : Version) (n : ℕ) → Finds n (to_brace v) (λ rest. instrs_of v ∷ rest) → (depth : ℕ) (rest : List Symbol) (words : List Word) → length words ≤ suc n → open_count (instrs_of v ∷ rest) ≡ depth
    → Took (λ word. word.text ≡ codes "if") (instrs_of v ∷ rest) words (Test ∷ TestTail ∷ block_of v ∷ Else ∷ block_of v ∷ instrs_of v ∷ rest) → Instr v depth rest words
found_branch v n code depth rest words h o t =
    let below = closed_block v (instrs_of v ∷ rest) ∙ o in
    let all = closed_block v (Else ∷ block_of v ∷ instrs_of v ∷ rest) ∙ below in
    let s = t.shorter in
    let c = found_cond n depth (block_of v ∷ Else ∷ block_of v ∷ instrs_of v ∷ rest) t.left (omega (arith, h, s)) all t.ends in
    let s1 = c.shorter in
    let one = found_block_from v n code depth (Else ∷ block_of v ∷ instrs_of v ∷ rest) c.left (omega (arith, h, s, s1)) below c.ends in
    let s2 = one.shorter in
    let k = only_key Else (codes "else") refl refl refl (λ v. refl) refl (block_of v ∷ instrs_of v ∷ rest) one.left one.ends in
    let s3 = k.shorter in
    let two = found_block_from v n code depth (instrs_of v ∷ rest) k.left (omega (arith, h, s, s1, s2, s3)) o k.ends in
    let s4 = two.shorter in (
      record {
        value = tree.branch c.value one.value two.value;
        left = two.left;
        is = branch (placed_of (block_of v ∷ Else ∷ block_of v ∷ instrs_of v ∷ rest) c.left) (placed_of (Else ∷ block_of v ∷ instrs_of v ∷ rest) one.left) (placed_of (block_of v ∷ instrs_of v ∷ rest) k.left)
            (placed_of (Test ∷ TestTail ∷ block_of v ∷ Else ∷ block_of v ∷ instrs_of v ∷ rest) t.left, t.spelled depth all, c.is) one.is (k.spelled depth below) two.is;
        ends = two.ends;
        shorter = omega (arith, s, s1, s2, s3, s4);
      },
      omega (arith, s, s1, s2, s3, s4),
    )

loop_words : {n : ℕ} → Finds {V = List ℕ × (Unit {0} × List ℕ)} n (λ x. name x.0 ⨾ key (codes "in") ⨾ text x.1.1) (λ rest. Name ∷ In ∷ Text ∷ rest)
loop_words =
    found_seq name (λ x. key (codes "in") ⨾ text x.1) (λ rest. Name ∷ rest) (λ rest. In ∷ Text ∷ rest) found_name
    (found_seq (λ u. key (codes "in")) text (λ rest. In ∷ rest) (λ rest. Text ∷ rest) (finds_key In (codes "in") refl refl refl (λ v. refl) refl) found_text (λ r. refl)) (λ r. refl)

found_loop : (v : Version) (n : ℕ) → Finds n (to_brace v) (λ rest. instrs_of v ∷ rest) → (depth : ℕ) (rest : List Symbol) (words : List Word) → length words ≤ suc n → open_count (instrs_of v ∷ rest) ≡ depth
    → Took (λ word. word.text ≡ codes "for") (instrs_of v ∷ rest) words (Name ∷ In ∷ Text ∷ block_of v ∷ instrs_of v ∷ rest) → Instr v depth rest words
found_loop v n code depth rest words h o t =
    let a = strictly_behind (codes "for") (λ x. name x.0 ⨾ key (codes "in") ⨾ text x.1.1) (λ r. Name ∷ In ∷ Text ∷ r) depth (block_of v ∷ instrs_of v ∷ rest) t h (loop_words {n = n}) (λ r. refl) (closed_block v (instrs_of v ∷ rest) ∙ o) in
    let s = a.1 in
    let c = found_block_from v n code depth (instrs_of v ∷ rest) a.0.left (omega (arith, h, s)) o a.0.ends in
    let u = c.shorter in (
      record {
        value = tree.each a.0.value.0 a.0.value.1.1 c.value;
        left = c.left;
        is = each (placed_of (block_of v ∷ instrs_of v ∷ rest) a.0.left) a.0.is c.is;
        ends = c.ends;
        shorter = omega (arith, s, u);
      },
      omega (arith, s, u),
    )

-- the end of code
code_end : (v : Version) (rest : List Symbol) (words : List Word) (depth : ℕ) → Took (λ word. word.text ≡ codes "}") (instrs_of v ∷ rest) words rest → open_count rest ≡ depth → Found (to_brace v) depth (instrs_of v ∷ rest) rest words
code_end v rest words depth t o =
    let s = t.shorter in
    record { value = tree.no_code; left = t.left; is = (placed_of (instrs_of v ∷ rest) words, no_instr refl, t.spelled depth o); ends = t.ends; shorter = omega (arith, s) }

-- an instruction, and more code
code_more : (v : Version) (n : ℕ) → Finds n (to_brace v) (λ rest. instrs_of v ∷ rest) → (rest : List Symbol) (words : List Word) (depth : ℕ) → length words ≤ suc n → open_count rest ≡ depth → Instr v (suc depth) rest words → Found (to_brace v) depth (instrs_of v ∷ rest) rest words
code_more v n code rest words depth h o (i, less) =
    let c = code depth rest i.left (omega (arith, h, less)) o i.ends in
    let s = c.shorter in
    record {
      value = tree.instr_and i.value c.value;
      left = c.left;
      is = (c.is.0, instr_first (placed_of (instrs_of v ∷ rest) i.left) i.is c.is.1, c.is.2);
      ends = c.ends;
      shorter = omega (arith, less, s);
    }

code_by : (v : Version) (n : ℕ) → Finds n (to_brace v) (λ rest. instrs_of v ∷ rest) → (depth : ℕ) (rest : List Symbol) (words : List Word) → length words ≤ suc n → open_count rest ≡ depth → Begun v rest words → Found (to_brace v) depth (instrs_of v ∷ rest) rest words
code_by v n code depth rest words h o (closes t) = code_end v rest words depth t o
code_by v n code depth rest words h o (allocates t) =
    let deeper = open_instrs v rest ∙ ap suc o in
    code_more v n code rest words depth h o (strictly_as (λ x. key (codes "allocate") ⨾ target x.0 ⨾ key (codes ";")) (IsInstr v) (suc depth)
    (strictly_behind (codes "allocate") (λ x. target x.0 ⨾ key (codes ";")) (λ r. Target ∷ Semicolon ∷ r) (suc depth) (instrs_of v ∷ rest) t h (ended {n = n} target (λ r. Target ∷ r) found_target) (λ r. refl) deeper)
    (λ x b a is. (tree.allocate x.0, plain is)))
code_by v n code depth rest words h o (deallocates t) =
    let deeper = open_instrs v rest ∙ ap suc o in
    code_more v n code rest words depth h o (strictly_as (λ x. key (codes "deallocate") ⨾ target x.0 ⨾ key (codes ";")) (IsInstr v) (suc depth)
    (strictly_behind (codes "deallocate") (λ x. target x.0 ⨾ key (codes ";")) (λ r. Target ∷ Semicolon ∷ r) (suc depth) (instrs_of v ∷ rest) t h (ended {n = n} target (λ r. Target ∷ r) found_target) (λ r. refl) deeper)
    (λ x b a is. (tree.deallocate x.0, plain is)))
code_by v n code depth rest words h o (sets t) =
    let deeper = open_instrs v rest ∙ ap suc o in
    code_more v n code rest words depth h o (strictly_as (λ x. key (codes "set") ⨾ equation (target x.0) (assigned x.1.1.0)) (IsInstr v) (suc depth)
    (strictly_behind (codes "set") (λ x. equation (target x.0) (assigned x.1.1.0)) (λ r. Target ∷ Equals ∷ Value ∷ Semicolon ∷ r) (suc depth) (instrs_of v ∷ rest) t h (equated {n = n} target assigned (λ r. Target ∷ r) Value found_target (found_value n) (λ r. refl)) (λ r. refl) deeper)
    (λ x b a is. assignment v x.0 x.1.1.0 (suc depth) b a is))
code_by v n code depth rest words h o (tags t) =
    let deeper = open_instrs v rest ∙ ap suc o in
    code_more v n code rest words depth h o (strictly_as (λ x. key (codes "tag") ⨾ equation (name x.0) (addr x.1.1.0)) (IsInstr v) (suc depth)
    (strictly_behind (codes "tag") (λ x. equation (name x.0) (addr x.1.1.0)) (λ r. Name ∷ Equals ∷ Addr ∷ Semicolon ∷ r) (suc depth) (instrs_of v ∷ rest) t h (found_named_addr {n = n}) (λ r. refl) deeper)
    (λ x b a is. tag_instr v x.0 x.1.1.0 (suc depth) b a is))
code_by v n code depth rest words h o (retags e t) =
    let deeper = open_instrs v rest ∙ ap suc o in
    code_more v n code rest words depth h o (strictly_as (λ x. key (codes "retag") ⨾ equation (name x.0) (addr x.1.1.0)) (IsInstr v) (suc depth)
    (strictly_behind (codes "retag") (λ x. equation (name x.0) (addr x.1.1.0)) (λ r. Name ∷ Equals ∷ Addr ∷ Semicolon ∷ r) (suc depth) (instrs_of v ∷ rest) t h (found_named_addr {n = n}) (λ r. refl) deeper)
    (λ x b a is. retag_instr v x.0 x.1.1.0 (suc depth) b a e is))
code_by v n code depth rest words h o (untags t) =
    let deeper = open_instrs v rest ∙ ap suc o in
    code_more v n code rest words depth h o (strictly_as (λ x. key (codes "untag") ⨾ name x.0 ⨾ key (codes ";")) (IsInstr v) (suc depth)
    (strictly_behind (codes "untag") (λ x. name x.0 ⨾ key (codes ";")) (λ r. Name ∷ Semicolon ∷ r) (suc depth) (instrs_of v ∷ rest) t h (ended {n = n} name (λ r. Name ∷ r) found_name) (λ r. refl) deeper)
    (λ x b a is. (tree.destroy_tag x.0, plain is)))
code_by v n code depth rest words h o (constrains t) =
    let deeper = open_instrs v rest ∙ ap suc o in
    code_more v n code rest words depth h o (strictly_as (λ x. key (codes "constrain") ⨾ IsCond x.0 ⨾ key (codes ";")) (IsInstr v) (suc depth)
    (strictly_behind (codes "constrain") (λ x. IsCond x.0 ⨾ key (codes ";")) (λ r. Test ∷ TestTail ∷ Semicolon ∷ r) (suc depth) (instrs_of v ∷ rest) t h (found_test_end n) (λ r. refl) deeper)
    (λ x b a is. (tree.constrain x.0, plain is)))
code_by v n code depth rest words h o (fails t) =
    let deeper = open_instrs v rest ∙ ap suc o in
    code_more v n code rest words depth h o (strictly_as (λ x. key (codes "fail") ⨾ text x.0 ⨾ key (codes ";")) (IsInstr v) (suc depth)
    (strictly_behind (codes "fail") (λ x. text x.0 ⨾ key (codes ";")) (λ r. Text ∷ Semicolon ∷ r) (suc depth) (instrs_of v ∷ rest) t h (ended {n = n} text (λ r. Text ∷ r) found_text) (λ r. refl) deeper)
    (λ x b a is. (tree.fail x.0, plain is)))
code_by v n code depth rest words h o (forwards t) =
    let deeper = open_instrs v rest ∙ ap suc o in
    code_more v n code rest words depth h o (strictly_as (λ x. key (codes "forward") ⨾ port x.0 ⨾ key (codes ";")) (IsInstr v) (suc depth)
    (strictly_behind (codes "forward") (λ x. port x.0 ⨾ key (codes ";")) (λ r. Port ∷ Semicolon ∷ r) (suc depth) (instrs_of v ∷ rest) t h (ended {n = n} port (λ r. Port ∷ r) found_port) (λ r. refl) deeper)
    (λ x b a is. (tree.forward x.0, plain is)))
code_by v n code depth rest words h o (forks t) =
    let deeper = open_instrs v rest ∙ ap suc o in
    code_more v n code rest words depth h o (strictly_as (λ x. key (codes "fork") ⨾ ports x ⨾ key (codes ";")) (IsInstr v) (suc depth)
    (strictly_behind (codes "fork") (λ x. ports x ⨾ key (codes ";")) (λ r. Ports ∷ r) (suc depth) (instrs_of v ∷ rest) t h (found_ports n) (λ r. refl) deeper)
    (λ x b a is. (tree.fork x, plain is)))
code_by v n code depth rest words h o (noops t) =
    let deeper = open_instrs v rest ∙ ap suc o in
    code_more v n code rest words depth h o (strictly_as {V = Unit {0}} (λ x. key (codes "noop") ⨾ key (codes ";")) (IsInstr v) (suc depth)
    (strictly_behind (codes "noop") (λ x. key (codes ";")) (λ r. Semicolon ∷ r) (suc depth) (instrs_of v ∷ rest) t h (found_semicolon {n = n}) (λ r. refl) deeper)
    (λ x b a is. (tree.no_op, plain is)))
code_by v n code depth rest words h o (ifs t) = code_more v n code rest words depth h o (found_branch v n code (suc depth) rest words h (open_instrs v rest ∙ ap suc o) t)
code_by v n code depth rest words h o (fors t) = code_more v n code rest words depth h o (found_loop v n code (suc depth) rest words h (open_instrs v rest ∙ ap suc o) t)
code_by v n code depth rest words h o (blocks t) =
    code_more v n code rest words depth h o (strictly_as (IsBlock v) (IsInstr v) (suc depth) (block_behind v n code (instrs_of v ∷ rest) (instrs_of v ∷ rest) words (suc depth) h (open_instrs v rest ∙ ap suc o) t) (λ x b a is. (tree.block x, block is)))

found_code : (v : Version) (n : ℕ) → Finds n (to_brace v) (λ rest. instrs_of v ∷ rest)
found_code old zero depth rest words h o ends = absurd (some_words (first OldInstrs rest words refl ends) h)
found_code new zero depth rest words h o ends = absurd (some_words (first Instrs rest words refl ends) h)
found_code v (suc n) depth rest words h o ends = code_by v n (found_code v n) depth rest words h o (begun v rest words ends)

pub found_block : (v : Version) (n : ℕ) → Finds n (IsBlock v) (λ rest. block_of v ∷ rest)
found_block v n = found_block_from v n (found_code v n)
