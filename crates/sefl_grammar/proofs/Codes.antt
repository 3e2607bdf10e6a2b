-- Instructions and blocks, as the automaton takes them.
use Rattle.std.proofs.Common.{◌≡◌, ℕ, suc, List, [], ◌∷◌, ◌++◌, Some, codes, refl, ap, ◌∙◌}
use Rattle.sefl_lex.specs.Bytes.{is_decimal}
use Rattle.sefl_lex.specs.Words.{value_of}
use Rattle.sefl_lex.specs.declared.token.TokenKind.{TokenKind}
use Rattle.sefl_syntax.specs.Trees as tree
use Rattle.sefl_syntax.specs.Trees.{ExprTree, CondTree, InstrTree, CodeTree}
use Rattle.sefl_syntax.specs.declared.reference.Addr.{Addr as AddrOf}
use Rattle.sefl_syntax.specs.declared.reference.Target.{Target as TargetOf}
use Rattle.sefl_grammar.specs.Word.{Placed}
use Rattle.sefl_grammar.specs.Table.{alternatives}
use Rattle.sefl_grammar.specs.Automaton.{step, open_count}
use Rattle.sefl_grammar.specs.Grammar.{Spelling, ◌⨾◌, key, name, text, port, addr, target, IsExpr, IsCond, Version, old, new, equation, more_ports, ports, statement, IsInstr, plain, branch, each, block, IsBlock, braces, IsCode, no_instr, instr_first}
use Rattle.sefl_grammar.proofs.Going.{Goes, goes_on, goes_key, stays, Does, seq, does_key}
use Rattle.sefl_grammar.proofs.Leaves.{begun_by, does_name, does_text, does_port, does_addr, does_target, does_semicolon, goes_number, in_step, in_limit, found_else, not_found}
use Rattle.sefl_grammar.proofs.Terms.{goes_value, goes_cond, closes_test, skip_sum, skips_remainder, skip_test}
use Rattle.sefl_grammar.specs.declared.symbol.Symbol.{Symbol}
use Rattle.sefl_grammar.specs.declared.symbol.Symbol.TheVariants.{Instrs, OldInstrs, Block, OldBlock, Value, Ports, MorePorts, Target, Addr, Test, TestTail, SumTail, Name, Port, Text, Semicolon, Equals, In, Else}

abbrev pub instrs_of : Version → Symbol
instrs_of old = OldInstrs
instrs_of new = Instrs

abbrev pub block_of : Version → Symbol
block_of old = OldBlock
block_of new = Block

pub open_instrs : (v : Version) (rest : List Symbol) → open_count (instrs_of v ∷ rest) ≡ suc (open_count rest)
open_instrs old rest = refl
open_instrs new rest = refl

pub closed_block : (v : Version) (rest : List Symbol) → open_count (block_of v ∷ rest) ≡ open_count rest
closed_block old rest = refl
closed_block new rest = refl

step_allocate : (v : Version) (rest : List Symbol) (k : TokenKind) → step (instrs_of v ∷ rest) (record { kind = k; text = codes "allocate" }) ≡ Some (Target ∷ Semicolon ∷ instrs_of v ∷ rest)
step_allocate old rest k = refl
step_allocate new rest k = refl

step_deallocate : (v : Version) (rest : List Symbol) (k : TokenKind) → step (instrs_of v ∷ rest) (record { kind = k; text = codes "deallocate" }) ≡ Some (Target ∷ Semicolon ∷ instrs_of v ∷ rest)
step_deallocate old rest k = refl
step_deallocate new rest k = refl

step_set : (v : Version) (rest : List Symbol) (k : TokenKind) → step (instrs_of v ∷ rest) (record { kind = k; text = codes "set" }) ≡ Some (Target ∷ Equals ∷ Value ∷ Semicolon ∷ instrs_of v ∷ rest)
step_set old rest k = refl
step_set new rest k = refl

step_tag : (v : Version) (rest : List Symbol) (k : TokenKind) → step (instrs_of v ∷ rest) (record { kind = k; text = codes "tag" }) ≡ Some (Name ∷ Equals ∷ Addr ∷ Semicolon ∷ instrs_of v ∷ rest)
step_tag old rest k = refl
step_tag new rest k = refl

step_untag : (v : Version) (rest : List Symbol) (k : TokenKind) → step (instrs_of v ∷ rest) (record { kind = k; text = codes "untag" }) ≡ Some (Name ∷ Semicolon ∷ instrs_of v ∷ rest)
step_untag old rest k = refl
step_untag new rest k = refl

step_constrain : (v : Version) (rest : List Symbol) (k : TokenKind) → step (instrs_of v ∷ rest) (record { kind = k; text = codes "constrain" }) ≡ Some (Test ∷ TestTail ∷ Semicolon ∷ instrs_of v ∷ rest)
step_constrain old rest k = refl
step_constrain new rest k = refl

step_fail : (v : Version) (rest : List Symbol) (k : TokenKind) → step (instrs_of v ∷ rest) (record { kind = k; text = codes "fail" }) ≡ Some (Text ∷ Semicolon ∷ instrs_of v ∷ rest)
step_fail old rest k = refl
step_fail new rest k = refl

step_if : (v : Version) (rest : List Symbol) (k : TokenKind) → step (instrs_of v ∷ rest) (record { kind = k; text = codes "if" }) ≡ Some (Test ∷ TestTail ∷ block_of v ∷ Else ∷ block_of v ∷ instrs_of v ∷ rest)
step_if old rest k = refl
step_if new rest k = refl

step_for : (v : Version) (rest : List Symbol) (k : TokenKind) → step (instrs_of v ∷ rest) (record { kind = k; text = codes "for" }) ≡ Some (Name ∷ In ∷ Text ∷ block_of v ∷ instrs_of v ∷ rest)
step_for old rest k = refl
step_for new rest k = refl

step_forward : (v : Version) (rest : List Symbol) (k : TokenKind) → step (instrs_of v ∷ rest) (record { kind = k; text = codes "forward" }) ≡ Some (Port ∷ Semicolon ∷ instrs_of v ∷ rest)
step_forward old rest k = refl
step_forward new rest k = refl

step_fork : (v : Version) (rest : List Symbol) (k : TokenKind) → step (instrs_of v ∷ rest) (record { kind = k; text = codes "fork" }) ≡ Some (Ports ∷ instrs_of v ∷ rest)
step_fork old rest k = refl
step_fork new rest k = refl

step_noop : (v : Version) (rest : List Symbol) (k : TokenKind) → step (instrs_of v ∷ rest) (record { kind = k; text = codes "noop" }) ≡ Some (Semicolon ∷ instrs_of v ∷ rest)
step_noop old rest k = refl
step_noop new rest k = refl

step_block : (v : Version) (rest : List Symbol) (k : TokenKind) → step (instrs_of v ∷ rest) (record { kind = k; text = codes "{" }) ≡ Some (instrs_of v ∷ instrs_of v ∷ rest)
step_block old rest k = refl
step_block new rest k = refl

pub step_end : (v : Version) (rest : List Symbol) (k : TokenKind) → step (instrs_of v ∷ rest) (record { kind = k; text = codes "}" }) ≡ Some rest
step_end old rest k = refl
step_end new rest k = refl

pub step_brace : (v : Version) (rest : List Symbol) (k : TokenKind) → step (block_of v ∷ rest) (record { kind = k; text = codes "{" }) ≡ Some (instrs_of v ∷ rest)
step_brace old rest k = refl
step_brace new rest k = refl

-- a part, and the semicolon behind it
ended_by : (p : Spelling) (f : List Symbol → List Symbol) → Does p f → Does (p ⨾ key (codes ";")) (λ rest. f (Semicolon ∷ rest))
ended_by p f does = seq p (key (codes ";")) f (λ rest. Semicolon ∷ rest) does does_semicolon (λ rest. refl)

pub does_equals : Does (key (codes "=")) (λ rest. Equals ∷ rest)
does_equals = does_key (codes "=") Equals (λ k rest. refl)

pub does_named_addr : (n : List ℕ) (x : AddrOf) → Does (equation (name n) (addr x)) (λ rest. Name ∷ Equals ∷ Addr ∷ Semicolon ∷ rest)
does_named_addr n x =
    seq (name n) (key (codes "=") ⨾ addr x ⨾ key (codes ";")) (λ rest. Name ∷ rest) (λ rest. Equals ∷ Addr ∷ Semicolon ∷ rest) (does_name n)
    (seq (key (codes "=")) (addr x ⨾ key (codes ";")) (λ rest. Equals ∷ rest) (λ rest. Addr ∷ Semicolon ∷ rest) does_equals (ended_by (addr x) (λ rest. Addr ∷ rest) (does_addr x)) (λ rest. refl))
    (λ rest. refl)

does_assignment : (t : TargetOf) (p : Spelling) → Does (p ⨾ key (codes ";")) (λ rest. Value ∷ Semicolon ∷ rest) → Does (equation (target t) p) (λ rest. Target ∷ Equals ∷ Value ∷ Semicolon ∷ rest)
does_assignment t p does =
    seq (target t) (key (codes "=") ⨾ p ⨾ key (codes ";")) (λ rest. Target ∷ rest) (λ rest. Equals ∷ Value ∷ Semicolon ∷ rest) (does_target t)
    (seq (key (codes "=")) (p ⨾ key (codes ";")) (λ rest. Equals ∷ rest) (λ rest. Value ∷ Semicolon ∷ rest) does_equals does (λ rest. refl))
    (λ rest. refl)

does_value_end : (e : ExprTree) → Does (IsExpr e ⨾ key (codes ";")) (λ rest. Value ∷ Semicolon ∷ rest)
does_value_end e d b a (m, is, end) rest o =
    goes_on (goes_value d b m is (Semicolon ∷ rest) o) (goes_key (codes ";") (SumTail ∷ Semicolon ∷ rest) rest d m a end (λ k. skip_sum (codes ";") k (Semicolon ∷ rest) refl) o)

does_any : Does (key (codes "any")) (λ rest. Value ∷ rest)
does_any = does_key (codes "any") Value (λ k rest. refl)

pub does_test_end : (c : CondTree) → Does (IsCond c ⨾ key (codes ";")) (λ rest. Test ∷ TestTail ∷ Semicolon ∷ rest)
does_test_end c d b a (m, is, end) rest o = closes_test (codes ";") (Semicolon ∷ rest) rest d (goes_cond d b m is (Semicolon ∷ rest) o) end refl refl (λ k. refl) o

does_more_ports : (ps : List ℕ) → Does (more_ports ps ⨾ key (codes ";")) (λ rest. MorePorts ∷ rest)
does_more_ports [] d b a (m, is, end) rest o = goes_on (stays (MorePorts ∷ rest) b m is) (goes_key (codes ";") (MorePorts ∷ rest) rest d m a end (λ k. refl) o)
does_more_ports (p ∷ ps) d b a (m, (x, comma, (y, first, others)), end) rest o =
    goes_on (goes_key (codes ",") (MorePorts ∷ rest) (Port ∷ MorePorts ∷ rest) d b x comma (λ k. refl) o)
    (goes_on (does_port p d x y first (MorePorts ∷ rest) o) (does_more_ports ps d y a (m, others, end) rest o))

does_ports : (ps : List ℕ) → Does (ports ps ⨾ key (codes ";")) (λ rest. Ports ∷ rest)
does_ports [] d b a (m, is, end) rest o = goes_on (stays (Ports ∷ rest) b m is) (goes_key (codes ";") (Ports ∷ rest) rest d m a end (λ k. refl) o)
does_ports (p ∷ ps) d b a (m, (x, (low, high, first), others), end) rest o =
    goes_on
    (goes_number p (Ports ∷ rest) (MorePorts ∷ rest) d b x first
    (λ t h e. in_step _ (MorePorts ∷ []) rest _ (found_else _ _ (not_found is_decimal t (alternatives Ports) h refl) ∙ in_limit 4294967295 (value_of t) p (MorePorts ∷ []) high e)) o)
    (does_more_ports ps d x a (m, others, end) rest o)

goes_statement : (v : Version) (i : InstrTree) (d : ℕ) (b a : List Placed) → statement v i d b a → (rest : List Symbol) → open_count (instrs_of v ∷ rest) ≡ d → Goes (instrs_of v ∷ rest) b (instrs_of v ∷ rest) a
goes_statement v (tree.allocate t) d b a is rest o = begun_by (codes "allocate") (target t ⨾ key (codes ";")) (λ r. Target ∷ Semicolon ∷ r) (instrs_of v ∷ rest) d b a is (instrs_of v ∷ rest) o (step_allocate v rest) (ended_by (target t) (λ r. Target ∷ r) (does_target t)) (λ r. refl)
goes_statement v (tree.deallocate t) d b a is rest o = begun_by (codes "deallocate") (target t ⨾ key (codes ";")) (λ r. Target ∷ Semicolon ∷ r) (instrs_of v ∷ rest) d b a is (instrs_of v ∷ rest) o (step_deallocate v rest) (ended_by (target t) (λ r. Target ∷ r) (does_target t)) (λ r. refl)
goes_statement v (tree.assign t e) d b a is rest o = begun_by (codes "set") (equation (target t) (IsExpr e)) (λ r. Target ∷ Equals ∷ Value ∷ Semicolon ∷ r) (instrs_of v ∷ rest) d b a is (instrs_of v ∷ rest) o (step_set v rest) (does_assignment t (IsExpr e) (does_value_end e)) (λ r. refl)
goes_statement v (tree.assign_any t) d b a is rest o = begun_by (codes "set") (equation (target t) (key (codes "any"))) (λ r. Target ∷ Equals ∷ Value ∷ Semicolon ∷ r) (instrs_of v ∷ rest) d b a is (instrs_of v ∷ rest) o (step_set v rest) (does_assignment t (key (codes "any")) (ended_by (key (codes "any")) (λ r. Value ∷ r) does_any)) (λ r. refl)
goes_statement old (tree.create_tag n x) d b a is rest o = absurd is
goes_statement new (tree.create_tag n x) d b a is rest o = begun_by (codes "tag") (equation (name n) (addr x)) (λ r. Name ∷ Equals ∷ Addr ∷ Semicolon ∷ r) (instrs_of new ∷ rest) d b a is (instrs_of new ∷ rest) o (step_tag new rest) (does_named_addr n x) (λ r. refl)
goes_statement old (tree.set_tag n x) d b a is rest o = begun_by (codes "tag") (equation (name n) (addr x)) (λ r. Name ∷ Equals ∷ Addr ∷ Semicolon ∷ r) (instrs_of old ∷ rest) d b a is (instrs_of old ∷ rest) o (step_tag old rest) (does_named_addr n x) (λ r. refl)
goes_statement new (tree.set_tag n x) d b a is rest o = begun_by (codes "retag") (equation (name n) (addr x)) (λ r. Name ∷ Equals ∷ Addr ∷ Semicolon ∷ r) (instrs_of new ∷ rest) d b a is (instrs_of new ∷ rest) o (λ k. refl) (does_named_addr n x) (λ r. refl)
goes_statement v (tree.destroy_tag n) d b a is rest o = begun_by (codes "untag") (name n ⨾ key (codes ";")) (λ r. Name ∷ Semicolon ∷ r) (instrs_of v ∷ rest) d b a is (instrs_of v ∷ rest) o (step_untag v rest) (ended_by (name n) (λ r. Name ∷ r) (does_name n)) (λ r. refl)
goes_statement v (tree.constrain c) d b a is rest o = begun_by (codes "constrain") (IsCond c ⨾ key (codes ";")) (λ r. Test ∷ TestTail ∷ Semicolon ∷ r) (instrs_of v ∷ rest) d b a is (instrs_of v ∷ rest) o (step_constrain v rest) (does_test_end c) (λ r. refl)
goes_statement v (tree.fail t) d b a is rest o = begun_by (codes "fail") (text t ⨾ key (codes ";")) (λ r. Text ∷ Semicolon ∷ r) (instrs_of v ∷ rest) d b a is (instrs_of v ∷ rest) o (step_fail v rest) (ended_by (text t) (λ r. Text ∷ r) (does_text t)) (λ r. refl)
goes_statement v (tree.forward p) d b a is rest o = begun_by (codes "forward") (port p ⨾ key (codes ";")) (λ r. Port ∷ Semicolon ∷ r) (instrs_of v ∷ rest) d b a is (instrs_of v ∷ rest) o (step_forward v rest) (ended_by (port p) (λ r. Port ∷ r) (does_port p)) (λ r. refl)
goes_statement v (tree.fork ps) d b a is rest o = begun_by (codes "fork") (ports ps ⨾ key (codes ";")) (λ r. Ports ∷ r) (instrs_of v ∷ rest) d b a is (instrs_of v ∷ rest) o (step_fork v rest) (does_ports ps) (λ r. refl)
goes_statement v (tree.no_op) d b a is rest o = begun_by (codes "noop") (key (codes ";")) (λ r. Semicolon ∷ r) (instrs_of v ∷ rest) d b a is (instrs_of v ∷ rest) o (step_noop v rest) (does_semicolon) (λ r. refl)
goes_statement v (tree.branch c first other) d b a is rest o = absurd is
goes_statement v (tree.each var pattern body) d b a is rest o = absurd is
goes_statement v (tree.block body) d b a is rest o = absurd is

loop_words : (var pattern : List ℕ) → Does (name var ⨾ key (codes "in") ⨾ text pattern) (λ rest. Name ∷ In ∷ Text ∷ rest)
loop_words var pattern =
    seq (name var) (key (codes "in") ⨾ text pattern) (λ rest. Name ∷ rest) (λ rest. In ∷ Text ∷ rest) (does_name var)
    (seq (key (codes "in")) (text pattern) (λ rest. In ∷ rest) (λ rest. Text ∷ rest) (does_key (codes "in") In (λ k rest. refl)) (does_text pattern) (λ rest. refl))
    (λ rest. refl)

mutual
  goes_instr : {v : Version} {i : InstrTree} (d : ℕ) (b a : List Placed) → IsInstr v i d b a → (rest : List Symbol) → open_count (instrs_of v ∷ rest) ≡ d → Goes (instrs_of v ∷ rest) b (instrs_of v ∷ rest) a
  goes_instr d b a (plain {v} {i} is) rest o = goes_statement v i d b a is rest o
  goes_instr d b a (branch {v} first' else' no' (m, is, c) first is' other) rest o =
      let below = closed_block v (instrs_of v ∷ rest) ∙ o in
      let all = closed_block v (Else ∷ block_of v ∷ instrs_of v ∷ rest) ∙ below in
      let test = goes_cond d m first' c (block_of v ∷ Else ∷ block_of v ∷ instrs_of v ∷ rest) all in
      goes_on (goes_key (codes "if") (instrs_of v ∷ rest) (Test ∷ TestTail ∷ block_of v ∷ Else ∷ block_of v ∷ instrs_of v ∷ rest) d b m is (step_if v rest) all)
      (goes_on test.goes
      (goes_on (goes_block d first' else' first (test.ends ++ TestTail ∷ block_of v ∷ Else ∷ block_of v ∷ instrs_of v ∷ rest) (Else ∷ block_of v ∷ instrs_of v ∷ rest)
      (λ k. skips_remainder test.ends (TestTail ∷ block_of v ∷ Else ∷ block_of v ∷ instrs_of v ∷ rest) (codes "{") k refl test.are ∙ skip_test (codes "{") k (block_of v ∷ Else ∷ block_of v ∷ instrs_of v ∷ rest) refl ∙ step_brace v (Else ∷ block_of v ∷ instrs_of v ∷ rest) k) below)
      (goes_on (goes_key (codes "else") (Else ∷ block_of v ∷ instrs_of v ∷ rest) (block_of v ∷ instrs_of v ∷ rest) d else' no' is' (λ k. refl) below)
      (goes_block d no' a other (block_of v ∷ instrs_of v ∷ rest) (instrs_of v ∷ rest) (step_brace v (instrs_of v ∷ rest)) o))))
  goes_instr d b a (each {v} {var} {pattern} next is body) rest o =
      goes_on (begun_by (codes "for") (name var ⨾ key (codes "in") ⨾ text pattern) (λ r. Name ∷ In ∷ Text ∷ r) (instrs_of v ∷ rest) d b next is (block_of v ∷ instrs_of v ∷ rest) (closed_block v (instrs_of v ∷ rest) ∙ o) (step_for v rest) (loop_words var pattern) (λ r. refl))
      (goes_block d next a body (block_of v ∷ instrs_of v ∷ rest) (instrs_of v ∷ rest) (step_brace v (instrs_of v ∷ rest)) o)
  goes_instr d b a (block {v} body) rest o = goes_block d b a body (instrs_of v ∷ rest) (instrs_of v ∷ rest) (step_block v rest) o

  pub goes_block : {v : Version} {c : CodeTree} (d : ℕ) (b a : List Placed) → IsBlock v c d b a → (s rest : List Symbol) → ((k : TokenKind) → step s (record { kind = k; text = codes "{" }) ≡ Some (instrs_of v ∷ rest)) → open_count rest ≡ d → Goes s b rest a
  goes_block d b a (braces {v} inside closing open' c close) s rest st o =
      let deeper = open_instrs v rest ∙ ap suc o in
      goes_on (goes_key (codes "{") s (instrs_of v ∷ rest) (suc d) b inside open' st deeper)
      (goes_on (goes_code (suc d) inside closing c rest deeper) (goes_key (codes "}") (instrs_of v ∷ rest) rest d closing a close (step_end v rest) o))

  goes_code : {v : Version} {c : CodeTree} (d : ℕ) (b a : List Placed) → IsCode v c d b a → (rest : List Symbol) → open_count (instrs_of v ∷ rest) ≡ d → Goes (instrs_of v ∷ rest) b (instrs_of v ∷ rest) a
  goes_code d b a (no_instr {v} is) rest o = stays (instrs_of v ∷ rest) b a is
  goes_code d b a (instr_first next i code) rest o = goes_on (goes_instr d b next i rest o) (goes_code d next a code rest o)
