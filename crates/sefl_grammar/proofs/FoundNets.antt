-- Nodes, links, injections, questions and whole jobs in an accepted list.
use Rattle.std.proofs.Common.{◌≡◌, ℕ, zero, suc, ◌≤◌, inl, inr, List, [], ◌∷◌, length, Option, None, Some, codes, refl, ◌∙◌, subst, arith}
use Rattle.std.proofs.lemmas.Option.{none-some}
use Rattle.sefl_lex.specs.Words.{value_of}
use Rattle.sefl_syntax.specs.Trees as tree
use Rattle.sefl_syntax.specs.Trees.{CondTree, CodeTree, PortTree, NodeTree, BodyTree, DeclTree, NetTree, InjectionTree, AskTree, JobTree}
use Rattle.sefl_syntax.specs.declared.reference.Addr.{Addr as AddrOf}
use Rattle.sefl_syntax.specs.declared.reference.Target.{Target as TargetOf}
use Rattle.sefl_syntax.specs.declared.net.Side.{Side as SideOf}
use Rattle.sefl_syntax.specs.declared.net.Side.TheVariants.{Inward, Outward}
use Rattle.sefl_syntax.specs.declared.net.Style.{Style as StyleOf}
use Rattle.sefl_syntax.specs.declared.net.Style.TheVariants.{Chain, Grouped, Egress}
use Rattle.sefl_syntax.specs.declared.net.TableKind.{TableKind as TableKindOf}
use Rattle.sefl_syntax.specs.declared.net.TableKind.TheVariants.{Mac, Fib}
use Rattle.sefl_syntax.specs.declared.net.Link.{Link}
use Rattle.sefl_syntax.specs.declared.job.RawField.{RawField}
use Rattle.sefl_syntax.specs.declared.job.RawPlace.{RawPlace}
use Rattle.sefl_grammar.specs.Word.{Word, Placed}
use Rattle.sefl_grammar.specs.Automaton.{open_count}
use Rattle.sefl_grammar.specs.Grammar.{Spelling, ◌⨾◌, key, name, text, port, addr, target, field_target, field_value, IsCond, Version, old, new, version, equation, side, port_codes, table_kind, style, body, nodes, links, tags, fields, wheres, injection, place, with_test, question, asks, IsJob}
use Rattle.sefl_grammar.proofs.Going.{placed_of}
use Rattle.sefl_grammar.proofs.Codes.{block_of, closed_block}
use Rattle.sefl_grammar.proofs.Nets.{codes_of, nodes_of, body_of, closed_codes, closed_nodes, closed_body}
use Rattle.sefl_grammar.proofs.Ending.{Ends, Choice, a_key, a_name, a_number, a_text, First, first, Took, took, Found, Finds, found_word, found_seq, only_key, finds_key, Tail, stops, goes, tail, found_none, some_words, Strictly, strictly_behind}
use Rattle.sefl_grammar.proofs.FoundLeaves.{IsNumber, limited, found_name, found_number, found_text, found_port, found_target, found_field_target, found_semicolon}
use Rattle.sefl_grammar.proofs.FoundCodes.{found_block, found_named_addr, found_test_end}
use Rattle.sefl_grammar.specs.declared.symbol.Symbol.{Symbol}
use Rattle.sefl_grammar.specs.declared.symbol.Symbol.TheVariants.{Start, Version as VersionSymbol, Nodes, OldNodes, Links, NodeBody, OldNodeBody, TableKind, Style, Codes, OldCodes, Block, OldBlock, Target, Addr, Test, TestTail, Tags, Fields, Wheres, FieldTarget, FieldValue, Asks, Question, Side, With, Name, Number, Port, Text, Semicolon, Dot, Equals, Arrow, OpenBrace, At}

found_dot : {n : ℕ} → Finds {V = Unit {0}} n (λ u. key (codes ".")) (λ rest. Dot ∷ rest)
found_dot = finds_key Dot (codes ".") refl refl refl (λ v. refl) refl

found_arrow : {n : ℕ} → Finds {V = Unit {0}} n (λ u. key (codes "->")) (λ rest. Arrow ∷ rest)
found_arrow = finds_key Arrow (codes "->") refl refl refl (λ v. refl) refl

found_brace : {n : ℕ} → Finds {V = Unit {0}} n (λ u. key (codes "{")) (λ rest. OpenBrace ∷ rest)
found_brace = finds_key OpenBrace (codes "{") refl refl refl (λ v. refl) refl

-- the heading of a port's code was begun, or the closing brace taken
data CodesBegun (v : Version) (rest : List Symbol) (words : List Word) : Type 0 where
  inward : Took (λ word. word.text ≡ codes "in") (codes_of v ∷ rest) words (Port ∷ block_of v ∷ codes_of v ∷ rest) → CodesBegun v rest words
  outward : Took (λ word. word.text ≡ codes "out") (codes_of v ∷ rest) words (Port ∷ block_of v ∷ codes_of v ∷ rest) → CodesBegun v rest words
  closes : Took (λ word. word.text ≡ codes "}") (codes_of v ∷ rest) words rest → CodesBegun v rest words

old_codes : (rest : List Symbol) (words : List Word) (f : First OldCodes rest words) → Choice OldCodes f.word f.then' → CodesBegun old rest words
old_codes rest words f (a_key (inl (t, e))) = inward (took (λ word. word.text ≡ codes "in") f (Port ∷ OldBlock ∷ OldCodes ∷ []) t e)
old_codes rest words f (a_key (inr (inl (t, e)))) = outward (took (λ word. word.text ≡ codes "out") f (Port ∷ OldBlock ∷ OldCodes ∷ []) t e)
old_codes rest words f (a_key (inr (inr (inl (t, e))))) = closes (took (λ word. word.text ≡ codes "}") f [] t e)
old_codes rest words f (a_key (inr (inr (inr none)))) = absurd none
old_codes rest words f (a_name k e) = absurd (none-some _ e)
old_codes rest words f (a_number k e) = absurd (none-some _ e)
old_codes rest words f (a_text k e) = absurd (none-some _ e)

new_codes : (rest : List Symbol) (words : List Word) (f : First Codes rest words) → Choice Codes f.word f.then' → CodesBegun new rest words
new_codes rest words f (a_key (inl (t, e))) = inward (took (λ word. word.text ≡ codes "in") f (Port ∷ Block ∷ Codes ∷ []) t e)
new_codes rest words f (a_key (inr (inl (t, e)))) = outward (took (λ word. word.text ≡ codes "out") f (Port ∷ Block ∷ Codes ∷ []) t e)
new_codes rest words f (a_key (inr (inr (inl (t, e))))) = closes (took (λ word. word.text ≡ codes "}") f [] t e)
new_codes rest words f (a_key (inr (inr (inr none)))) = absurd none
new_codes rest words f (a_name k e) = absurd (none-some _ e)
new_codes rest words f (a_number k e) = absurd (none-some _ e)
new_codes rest words f (a_text k e) = absurd (none-some _ e)

codes_begun : (v : Version) (rest : List Symbol) (words : List Word) → Ends (codes_of v ∷ rest) words → CodesBegun v rest words
codes_begun old rest words ends = old_codes rest words (first OldCodes rest words refl ends) (first OldCodes rest words refl ends).choice
codes_begun new rest words ends = new_codes rest words (first Codes rest words refl ends) (first Codes rest words refl ends).choice

-- the codes of ports, and the closing brace
abbrev to_brace : Version → List PortTree → Spelling
to_brace v ps = port_codes v ps ⨾ key (codes "}")

code_behind : (v : Version) (n : ℕ) (s : SideOf) (text : List ℕ) → ((d : ℕ) (b a : List Placed) → key text d b a → side s d b a) → Finds n (to_brace v) (λ rest. codes_of v ∷ rest) → (depth : ℕ) (rest : List Symbol) (words : List Word) → length words ≤ suc n → open_count rest ≡ depth
    → Took (λ word. word.text ≡ text) (codes_of v ∷ rest) words (Port ∷ block_of v ∷ codes_of v ∷ rest) → Found (to_brace v) depth (codes_of v ∷ rest) rest words
code_behind v n s text is later depth rest words h o t =
    let here = closed_codes v rest ∙ o in
    let below = closed_block v (codes_of v ∷ rest) ∙ here in
    let s1 = t.shorter in
    let p = found_port {n = n} depth (block_of v ∷ codes_of v ∷ rest) t.left (omega (arith, h, s1)) below t.ends in
    let s2 = p.shorter in
    let b = found_block v n depth (codes_of v ∷ rest) p.left (omega (arith, h, s1, s2)) here p.ends in
    let s3 = b.shorter in
    let m = later depth rest b.left (omega (arith, h, s1, s2, s3)) o b.ends in
    let s4 = m.shorter in
    record {
      value = record { side = s; port = p.value; code = b.value } ∷ m.value;
      left = m.left;
      is = (
        m.is.0,
        (
          placed_of (codes_of v ∷ rest) b.left,
          (placed_of (Port ∷ block_of v ∷ codes_of v ∷ rest) t.left, is depth (placed_of (codes_of v ∷ rest) words) (placed_of (Port ∷ block_of v ∷ codes_of v ∷ rest) t.left) (t.spelled depth below), (placed_of (block_of v ∷ codes_of v ∷ rest) p.left, p.is, b.is)),
          m.is.1,
        ),
        m.is.2,
      );
      ends = m.ends;
      shorter = omega (arith, s1, s2, s3, s4);
    }

codes_by : (v : Version) (n : ℕ) → Finds n (to_brace v) (λ rest. codes_of v ∷ rest) → (depth : ℕ) (rest : List Symbol) (words : List Word) → length words ≤ suc n → open_count rest ≡ depth → CodesBegun v rest words → Found (to_brace v) depth (codes_of v ∷ rest) rest words
codes_by v n later depth rest words h o (inward t) = code_behind v n Inward (codes "in") (λ d b a is. is) later depth rest words h o t
codes_by v n later depth rest words h o (outward t) = code_behind v n Outward (codes "out") (λ d b a is. is) later depth rest words h o t
codes_by v n later depth rest words h o (closes t) =
    let s = t.shorter in
    record { value = []; left = t.left; is = (placed_of (codes_of v ∷ rest) words, refl, t.spelled depth o); ends = t.ends; shorter = omega (arith, s) }

found_codes : (v : Version) (n : ℕ) → Finds n (to_brace v) (λ rest. codes_of v ∷ rest)
found_codes old zero depth rest words h o ends = absurd (some_words (first OldCodes rest words refl ends) h)
found_codes new zero depth rest words h o ends = absurd (some_words (first Codes rest words refl ends) h)
found_codes v (suc n) depth rest words h o ends = codes_by v n (found_codes v n) depth rest words h o (codes_begun v rest words ends)

found_kind : {n : ℕ} → Finds n table_kind (λ rest. TableKind ∷ rest)
found_kind depth rest words h o ends = by (first TableKind rest words refl ends) (first TableKind rest words refl ends).choice
  where
    of : (k : TableKindOf) (text : List ℕ) → ((b a : List Placed) → key text depth b a → table_kind k depth b a) → Took (λ word. word.text ≡ text) (TableKind ∷ rest) words rest → Found table_kind depth (TableKind ∷ rest) rest words
    of k text is t = found_word table_kind k depth (λ word. word.text ≡ text) t is o

    by : (f : First TableKind rest words) → Choice TableKind f.word f.then' → Found table_kind depth (TableKind ∷ rest) rest words
    by f (a_key (inl (t, e))) = of Mac (codes "mac") (λ b a is. is) (took (λ word. word.text ≡ codes "mac") f [] t e)
    by f (a_key (inr (inl (t, e)))) = of Fib (codes "fib") (λ b a is. is) (took (λ word. word.text ≡ codes "fib") f [] t e)
    by f (a_key (inr (inr none))) = absurd none
    by f (a_name k e) = absurd (none-some _ e)
    by f (a_number k e) = absurd (none-some _ e)
    by f (a_text k e) = absurd (none-some _ e)

found_style : {n : ℕ} → Finds n style (λ rest. Style ∷ rest)
found_style depth rest words h o ends = by (first Style rest words refl ends) (first Style rest words refl ends).choice
  where
    of : (k : StyleOf) (text : List ℕ) → ((b a : List Placed) → key text depth b a → style k depth b a) → Took (λ word. word.text ≡ text) (Style ∷ rest) words rest → Found style depth (Style ∷ rest) rest words
    of k text is t = found_word style k depth (λ word. word.text ≡ text) t is o

    by : (f : First Style rest words) → Choice Style f.word f.then' → Found style depth (Style ∷ rest) rest words
    by f (a_key (inl (t, e))) = of Chain (codes "chain") (λ b a is. is) (took (λ word. word.text ≡ codes "chain") f [] t e)
    by f (a_key (inr (inl (t, e)))) = of Grouped (codes "grouped") (λ b a is. is) (took (λ word. word.text ≡ codes "grouped") f [] t e)
    by f (a_key (inr (inr (inl (t, e))))) = of Egress (codes "egress") (λ b a is. is) (took (λ word. word.text ≡ codes "egress") f [] t e)
    by f (a_key (inr (inr (inr none)))) = absurd none
    by f (a_name k e) = absurd (none-some _ e)
    by f (a_number k e) = absurd (none-some _ e)
    by f (a_text k e) = absurd (none-some _ e)

-- a node's code was begun, or its table
data BodyBegun (v : Version) (rest : List Symbol) (words : List Word) : Type 0 where
  coded : (ins : ℕ) → ins ≤ 4294967295 → Took (IsNumber ins) (body_of v ∷ rest) words (Arrow ∷ Port ∷ OpenBrace ∷ codes_of v ∷ rest) → BodyBegun v rest words
  tabled : Took (λ word. word.text ≡ codes "=") (body_of v ∷ rest) words (TableKind ∷ Text ∷ Style ∷ Semicolon ∷ rest) → BodyBegun v rest words

old_body : (rest : List Symbol) (words : List Word) (f : First OldNodeBody rest words) → Choice OldNodeBody f.word f.then' → BodyBegun old rest words
old_body rest words f (a_key (inl (t, e))) = tabled (took (λ word. word.text ≡ codes "=") f (TableKind ∷ Text ∷ Style ∷ Semicolon ∷ []) t e)
old_body rest words f (a_key (inr none)) = absurd none
old_body rest words f (a_name k e) = absurd (none-some _ e)
old_body rest words f (a_text k e) = absurd (none-some _ e)
old_body rest words f (a_number k e) =
    let fits = limited 4294967295 (value_of f.word.text) (Arrow ∷ Port ∷ OpenBrace ∷ OldCodes ∷ []) f.then' e in
    coded (value_of f.word.text) fits.0 (took (IsNumber (value_of f.word.text)) f (Arrow ∷ Port ∷ OpenBrace ∷ OldCodes ∷ []) (k, refl) fits.1)

new_body : (rest : List Symbol) (words : List Word) (f : First NodeBody rest words) → Choice NodeBody f.word f.then' → BodyBegun new rest words
new_body rest words f (a_key (inl (t, e))) = tabled (took (λ word. word.text ≡ codes "=") f (TableKind ∷ Text ∷ Style ∷ Semicolon ∷ []) t e)
new_body rest words f (a_key (inr none)) = absurd none
new_body rest words f (a_name k e) = absurd (none-some _ e)
new_body rest words f (a_text k e) = absurd (none-some _ e)
new_body rest words f (a_number k e) =
    let fits = limited 4294967295 (value_of f.word.text) (Arrow ∷ Port ∷ OpenBrace ∷ Codes ∷ []) f.then' e in
    coded (value_of f.word.text) fits.0 (took (IsNumber (value_of f.word.text)) f (Arrow ∷ Port ∷ OpenBrace ∷ Codes ∷ []) (k, refl) fits.1)

body_begun : (v : Version) (rest : List Symbol) (words : List Word) → Ends (body_of v ∷ rest) words → BodyBegun v rest words
body_begun old rest words ends = old_body rest words (first OldNodeBody rest words refl ends) (first OldNodeBody rest words refl ends).choice
body_begun new rest words ends = new_body rest words (first NodeBody rest words refl ends) (first NodeBody rest words refl ends).choice

table_words : {n : ℕ} → Finds {V = TableKindOf × (List ℕ × (StyleOf × Unit {0}))} n (λ x. table_kind x.0 ⨾ text x.1.0 ⨾ style x.1.1.0 ⨾ key (codes ";")) (λ rest. TableKind ∷ Text ∷ Style ∷ Semicolon ∷ rest)
table_words =
    found_seq table_kind (λ x. text x.0 ⨾ style x.1.0 ⨾ key (codes ";")) (λ rest. TableKind ∷ rest) (λ rest. Text ∷ Style ∷ Semicolon ∷ rest) found_kind
    (found_seq text (λ x. style x.0 ⨾ key (codes ";")) (λ rest. Text ∷ rest) (λ rest. Style ∷ Semicolon ∷ rest) found_text
    (found_seq style (λ u. key (codes ";")) (λ rest. Style ∷ rest) (λ rest. Semicolon ∷ rest) found_style found_semicolon (λ r. refl)) (λ r. refl)) (λ r. refl)

node_words : (v : Version) {n : ℕ} → Finds {V = Unit {0} × (ℕ × (Unit {0} × List PortTree))} n (λ x. key (codes "->") ⨾ port x.1.0 ⨾ key (codes "{") ⨾ to_brace v x.1.1.1) (λ rest. Arrow ∷ Port ∷ OpenBrace ∷ codes_of v ∷ rest)
node_words v {n} =
    found_seq (λ u. key (codes "->")) (λ x. port x.0 ⨾ key (codes "{") ⨾ to_brace v x.1.1) (λ rest. Arrow ∷ rest) (λ rest. Port ∷ OpenBrace ∷ codes_of v ∷ rest) found_arrow
    (found_seq port (λ x. key (codes "{") ⨾ to_brace v x.1) (λ rest. Port ∷ rest) (λ rest. OpenBrace ∷ codes_of v ∷ rest) found_port
    (found_seq (λ u. key (codes "{")) (to_brace v) (λ rest. OpenBrace ∷ rest) (λ rest. codes_of v ∷ rest) found_brace (found_codes v n) (closed_codes v)) (closed_codes v)) (closed_codes v)

body_by : (v : Version) (n : ℕ) (depth : ℕ) (rest : List Symbol) (words : List Word) → length words ≤ suc n → open_count rest ≡ depth → BodyBegun v rest words → Found (body v) depth (body_of v ∷ rest) rest words
body_by v n depth rest words h o (coded ins high t) =
    let s = t.shorter in
    let a = node_words v {n = n} depth rest t.left (omega (arith, h, s)) o t.ends in
    let u = a.shorter in
    record {
      value = tree.code (record { ins = ins; outs = a.value.1.0; codes = a.value.1.1.1 });
      left = a.left;
      is = (placed_of (Arrow ∷ Port ∷ OpenBrace ∷ codes_of v ∷ rest) t.left, (omega arith, high, t.spelled depth (closed_codes v rest ∙ o)), a.is);
      ends = a.ends;
      shorter = omega (arith, s, u);
    }
body_by v n depth rest words h o (tabled t) =
    let a = strictly_behind (codes "=") (λ x. table_kind x.0 ⨾ text x.1.0 ⨾ style x.1.1.0 ⨾ key (codes ";")) (λ r. TableKind ∷ Text ∷ Style ∷ Semicolon ∷ r) depth rest t h (table_words {n = n}) (λ r. refl) o in
    record { value = tree.table a.0.value.0 a.0.value.1.0 a.0.value.1.1.0; left = a.0.left; is = a.0.is; ends = a.0.ends; shorter = a.0.shorter }

found_body : (v : Version) (n : ℕ) → Finds n (body v) (λ rest. body_of v ∷ rest)
found_body v n depth rest words h o ends = body_by v n depth rest words (omega (arith, h)) o (body_begun v rest words ends)

-- a port of a node, and more
place_then : {V : Type 0} {n : ℕ} (q : V → Spelling) (f : List Symbol → List Symbol) → Finds n q f → ((rest : List Symbol) → open_count (f rest) ≡ open_count rest)
    → Finds {V = List ℕ × (Unit {0} × (ℕ × V))} n (λ x. name x.0 ⨾ key (codes ".") ⨾ port x.1.1.0 ⨾ q x.1.1.1) (λ rest. Name ∷ Dot ∷ Port ∷ f rest)
place_then q f finds closed =
    found_seq name (λ x. key (codes ".") ⨾ port x.1.0 ⨾ q x.1.1) (λ rest. Name ∷ rest) (λ rest. Dot ∷ Port ∷ f rest) found_name
    (found_seq (λ u. key (codes ".")) (λ x. port x.0 ⨾ q x.1) (λ rest. Dot ∷ rest) (λ rest. Port ∷ f rest) found_dot
    (found_seq port q (λ rest. Port ∷ rest) f found_port finds closed) closed) closed

link_words : {n : ℕ} → Finds {V = List ℕ × (Unit {0} × (ℕ × (Unit {0} × (List ℕ × (Unit {0} × (ℕ × Unit {0}))))))} n
    (λ x. name x.0 ⨾ key (codes ".") ⨾ port x.1.1.0 ⨾ key (codes "->") ⨾ name x.1.1.1.1.0 ⨾ key (codes ".") ⨾ port x.1.1.1.1.1.1.0 ⨾ key (codes ";")) (λ rest. Name ∷ Dot ∷ Port ∷ Arrow ∷ Name ∷ Dot ∷ Port ∷ Semicolon ∷ rest)
link_words =
    place_then (λ y. key (codes "->") ⨾ name y.1.0 ⨾ key (codes ".") ⨾ port y.1.1.1.0 ⨾ key (codes ";")) (λ rest. Arrow ∷ Name ∷ Dot ∷ Port ∷ Semicolon ∷ rest)
    (found_seq (λ u. key (codes "->")) (λ y. name y.0 ⨾ key (codes ".") ⨾ port y.1.1.0 ⨾ key (codes ";")) (λ rest. Arrow ∷ rest) (λ rest. Name ∷ Dot ∷ Port ∷ Semicolon ∷ rest) found_arrow
    (place_then (λ u. key (codes ";")) (λ rest. Semicolon ∷ rest) found_semicolon (λ r. refl)) (λ r. refl)) (λ r. refl)

-- conditions of an injection, and its closing brace
abbrev tests_to_brace : List CondTree → Spelling
tests_to_brace cs = wheres cs ⨾ key (codes "}")

data TestsBegun (stack rest : List Symbol) (words : List Word) : Type 0 where
  test : Took (λ word. word.text ≡ codes "where") stack words (Test ∷ TestTail ∷ Semicolon ∷ Wheres ∷ rest) → TestsBegun stack rest words
  brace : Took (λ word. word.text ≡ codes "}") stack words rest → TestsBegun stack rest words

tests_by : (n : ℕ) → Finds n tests_to_brace (λ rest. Wheres ∷ rest) → (stack rest : List Symbol) (words : List Word) (depth : ℕ) → length words ≤ suc n → open_count rest ≡ depth → TestsBegun stack rest words → Strictly tests_to_brace depth stack rest words
tests_by n later stack rest words depth h o (test t) =
    let a = strictly_behind (codes "where") (λ x. IsCond x.0 ⨾ key (codes ";")) (λ r. Test ∷ TestTail ∷ Semicolon ∷ r) depth (Wheres ∷ rest) t h (found_test_end n) (λ r. refl) o in
    let s = a.1 in
    let m = later depth rest a.0.left (omega (arith, h, s)) o a.0.ends in
    let u = m.shorter in
    (record { value = a.0.value.0 ∷ m.value; left = m.left; is = (m.is.0, (placed_of (Wheres ∷ rest) a.0.left, a.0.is, m.is.1), m.is.2); ends = m.ends; shorter = omega (arith, s, u) }, omega (arith, s, u))
tests_by n later stack rest words depth h o (brace t) =
    let s = t.shorter in
    (record { value = []; left = t.left; is = (placed_of stack words, refl, t.spelled depth o); ends = t.ends; shorter = omega (arith, s) }, s)

wheres_begun : (rest : List Symbol) (words : List Word) (f : First Wheres rest words) → Choice Wheres f.word f.then' → TestsBegun (Wheres ∷ rest) rest words
wheres_begun rest words f (a_key (inl (t, e))) = test (took (λ word. word.text ≡ codes "where") f (Test ∷ TestTail ∷ Semicolon ∷ Wheres ∷ []) t e)
wheres_begun rest words f (a_key (inr (inl (t, e)))) = brace (took (λ word. word.text ≡ codes "}") f [] t e)
wheres_begun rest words f (a_key (inr (inr none))) = absurd none
wheres_begun rest words f (a_name k e) = absurd (none-some _ e)
wheres_begun rest words f (a_number k e) = absurd (none-some _ e)
wheres_begun rest words f (a_text k e) = absurd (none-some _ e)

found_wheres : (n : ℕ) → Finds n tests_to_brace (λ rest. Wheres ∷ rest)
found_wheres zero depth rest words h o ends = absurd (some_words (first Wheres rest words refl ends) h)
found_wheres (suc n) depth rest words h o ends =
    let f = first Wheres rest words refl ends in
    (tests_by n (found_wheres n) (Wheres ∷ rest) rest words depth h o (wheres_begun rest words f f.choice)).0

found_value : {n : ℕ} → Finds n (λ v. field_value v ⨾ key (codes ";")) (λ rest. FieldValue ∷ rest)
found_value {n} depth rest words h o ends = by (first FieldValue rest words refl ends) (first FieldValue rest words refl ends).choice
  where
    by : (f : First FieldValue rest words) → Choice FieldValue f.word f.then' → Found (λ v. field_value v ⨾ key (codes ";")) depth (FieldValue ∷ rest) rest words
    by f (a_key (inl (t, e))) =
        let k = took (λ word. word.text ≡ codes "=") f (Number ∷ Semicolon ∷ []) t e in
        let s = k.shorter in
        let a = found_number {n = n} depth (Semicolon ∷ rest) k.left (omega (arith, h, s)) o k.ends in
        let u = a.shorter in
        let m = only_key Semicolon (codes ";") refl refl refl (λ v. refl) refl rest a.left a.ends in
        let w = m.shorter in
        record {
          value = Some a.value;
          left = m.left;
          is = (placed_of (Semicolon ∷ rest) a.left, (placed_of (Number ∷ Semicolon ∷ rest) k.left, k.spelled depth o, a.is), m.spelled depth o);
          ends = m.ends;
          shorter = omega (arith, s, u, w);
        }
    by f (a_key (inr (inl (t, e)))) =
        let k = took (λ word. word.text ≡ codes ";") f [] t e in
        let s = k.shorter in
        record { value = None; left = k.left; is = (placed_of (FieldValue ∷ rest) words, refl, k.spelled depth o); ends = k.ends; shorter = omega (arith, s) }
    by f (a_key (inr (inr none))) = absurd none
    by f (a_name k e) = absurd (none-some _ e)
    by f (a_number k e) = absurd (none-some _ e)
    by f (a_text k e) = absurd (none-some _ e)

field_words : {n : ℕ} → Finds {V = TargetOf × Option ℕ} n (λ x. field_target x.0 ⨾ field_value x.1 ⨾ key (codes ";")) (λ rest. FieldTarget ∷ FieldValue ∷ rest)
field_words = found_seq field_target (λ v. field_value v ⨾ key (codes ";")) (λ rest. FieldTarget ∷ rest) (λ rest. FieldValue ∷ rest) found_field_target found_value (λ r. refl)

-- fields and conditions, and the closing brace
abbrev fields_to_brace : List RawField × List CondTree → Spelling
fields_to_brace x = fields x.0 ⨾ wheres x.1 ⨾ key (codes "}")

data FieldsBegun (stack rest : List Symbol) (words : List Word) : Type 0 where
  field : Took (λ word. word.text ≡ codes "field") stack words (FieldTarget ∷ FieldValue ∷ Fields ∷ rest) → FieldsBegun stack rest words
  tests : TestsBegun stack rest words → FieldsBegun stack rest words

fields_by : (n : ℕ) → Finds n fields_to_brace (λ rest. Fields ∷ rest) → (stack rest : List Symbol) (words : List Word) (depth : ℕ) → length words ≤ suc n → open_count rest ≡ depth → FieldsBegun stack rest words → Strictly fields_to_brace depth stack rest words
fields_by n later stack rest words depth h o (field t) =
    let a = strictly_behind (codes "field") (λ x. field_target x.0 ⨾ field_value x.1 ⨾ key (codes ";")) (λ r. FieldTarget ∷ FieldValue ∷ r) depth (Fields ∷ rest) t h (field_words {n = n}) (λ r. refl) o in
    let s = a.1 in
    let m = later depth rest a.0.left (omega (arith, h, s)) o a.0.ends in
    let u = m.shorter in (
      record {
        value = (record { target = a.0.value.0; value = a.0.value.1 } ∷ m.value.0, m.value.1);
        left = m.left;
        is = (m.is.0, (placed_of (Fields ∷ rest) a.0.left, a.0.is, m.is.1), m.is.2);
        ends = m.ends;
        shorter = omega (arith, s, u);
      },
      omega (arith, s, u),
    )
fields_by n later stack rest words depth h o (tests t) =
    let a = tests_by n (found_wheres n) stack rest words depth h o t in
    (record { value = ([], a.0.value); left = a.0.left; is = (placed_of stack words, refl, a.0.is); ends = a.0.ends; shorter = a.0.shorter }, a.1)

fields_begun : (rest : List Symbol) (words : List Word) (f : First Fields rest words) → Choice Fields f.word f.then' → FieldsBegun (Fields ∷ rest) rest words
fields_begun rest words f (a_key (inl (t, e))) = field (took (λ word. word.text ≡ codes "field") f (FieldTarget ∷ FieldValue ∷ Fields ∷ []) t e)
fields_begun rest words f (a_key (inr (inl (t, e)))) = tests (test (took (λ word. word.text ≡ codes "where") f (Test ∷ TestTail ∷ Semicolon ∷ Wheres ∷ []) t e))
fields_begun rest words f (a_key (inr (inr (inl (t, e))))) = tests (brace (took (λ word. word.text ≡ codes "}") f [] t e))
fields_begun rest words f (a_key (inr (inr (inr none)))) = absurd none
fields_begun rest words f (a_name k e) = absurd (none-some _ e)
fields_begun rest words f (a_number k e) = absurd (none-some _ e)
fields_begun rest words f (a_text k e) = absurd (none-some _ e)

found_fields : (n : ℕ) → Finds n fields_to_brace (λ rest. Fields ∷ rest)
found_fields zero depth rest words h o ends = absurd (some_words (first Fields rest words refl ends) h)
found_fields (suc n) depth rest words h o ends =
    let f = first Fields rest words refl ends in
    (fields_by n (found_fields n) (Fields ∷ rest) rest words depth h o (fields_begun rest words f f.choice)).0

-- the lines of an injection, and its closing brace
abbrev lines_to_brace : List (List ℕ × AddrOf) × (List RawField × List CondTree) → Spelling
lines_to_brace x = tags x.0 ⨾ fields_to_brace x.1

data TagsBegun (rest : List Symbol) (words : List Word) : Type 0 where
  tag : Took (λ word. word.text ≡ codes "tag") (Tags ∷ rest) words (Name ∷ Equals ∷ Addr ∷ Semicolon ∷ Tags ∷ rest) → TagsBegun rest words
  others : FieldsBegun (Tags ∷ rest) rest words → TagsBegun rest words

tags_by : (n : ℕ) → Finds n lines_to_brace (λ rest. Tags ∷ rest) → (rest : List Symbol) (words : List Word) (depth : ℕ) → length words ≤ suc n → open_count rest ≡ depth → TagsBegun rest words → Found lines_to_brace depth (Tags ∷ rest) rest words
tags_by n later rest words depth h o (tag t) =
    let a = strictly_behind (codes "tag") (λ y. equation (name y.0) (addr y.1.1.0)) (λ r. Name ∷ Equals ∷ Addr ∷ Semicolon ∷ r) depth (Tags ∷ rest) t h (found_named_addr {n = n}) (λ r. refl) o in
    let s = a.1 in
    let m = later depth rest a.0.left (omega (arith, h, s)) o a.0.ends in
    let u = m.shorter in
    record {
      value = ((a.0.value.0, a.0.value.1.1.0) ∷ m.value.0, m.value.1);
      left = m.left;
      is = (m.is.0, (placed_of (Tags ∷ rest) a.0.left, a.0.is, m.is.1), m.is.2);
      ends = m.ends;
      shorter = omega (arith, s, u);
    }
tags_by n later rest words depth h o (others t) =
    let a = fields_by n (found_fields n) (Tags ∷ rest) rest words depth h o t in
    record { value = ([], a.0.value); left = a.0.left; is = (placed_of (Tags ∷ rest) words, refl, a.0.is); ends = a.0.ends; shorter = a.0.shorter }

tags_begun : (rest : List Symbol) (words : List Word) (f : First Tags rest words) → Choice Tags f.word f.then' → TagsBegun rest words
tags_begun rest words f (a_key (inl (t, e))) = tag (took (λ word. word.text ≡ codes "tag") f (Name ∷ Equals ∷ Addr ∷ Semicolon ∷ Tags ∷ []) t e)
tags_begun rest words f (a_key (inr (inl (t, e)))) = others (field (took (λ word. word.text ≡ codes "field") f (FieldTarget ∷ FieldValue ∷ Fields ∷ []) t e))
tags_begun rest words f (a_key (inr (inr (inl (t, e))))) = others (tests (test (took (λ word. word.text ≡ codes "where") f (Test ∷ TestTail ∷ Semicolon ∷ Wheres ∷ []) t e)))
tags_begun rest words f (a_key (inr (inr (inr (inl (t, e)))))) = others (tests (brace (took (λ word. word.text ≡ codes "}") f [] t e)))
tags_begun rest words f (a_key (inr (inr (inr (inr none))))) = absurd none
tags_begun rest words f (a_name k e) = absurd (none-some _ e)
tags_begun rest words f (a_number k e) = absurd (none-some _ e)
tags_begun rest words f (a_text k e) = absurd (none-some _ e)

found_tags : (n : ℕ) → Finds n lines_to_brace (λ rest. Tags ∷ rest)
found_tags zero depth rest words h o ends = absurd (some_words (first Tags rest words refl ends) h)
found_tags (suc n) depth rest words h o ends =
    let f = first Tags rest words refl ends in
    tags_by n (found_tags n) rest words depth h o (tags_begun rest words f f.choice)

injection_words : {n : ℕ} → Finds {V = List ℕ × (Unit {0} × (ℕ × (Unit {0} × (List (List ℕ × AddrOf) × (List RawField × List CondTree)))))} n
    (λ x. name x.0 ⨾ key (codes ".") ⨾ port x.1.1.0 ⨾ key (codes "{") ⨾ lines_to_brace x.1.1.1.1) (λ rest. Name ∷ Dot ∷ Port ∷ OpenBrace ∷ Tags ∷ rest)
injection_words {n} =
    place_then (λ y. key (codes "{") ⨾ lines_to_brace y.1) (λ rest. OpenBrace ∷ Tags ∷ rest)
    (found_seq (λ u. key (codes "{")) lines_to_brace (λ rest. OpenBrace ∷ rest) (λ rest. Tags ∷ rest) found_brace (found_tags n) (λ r. refl)) (λ r. refl)

-- links and the injection
abbrev linked : List Link × InjectionTree → Spelling
linked x = links x.0 ⨾ injection x.1

-- a link was begun, or the injection
data LinksBegun (stack rest : List Symbol) (words : List Word) : Type 0 where
  a_link : Took (λ word. word.text ≡ codes "link") stack words (Name ∷ Dot ∷ Port ∷ Arrow ∷ Name ∷ Dot ∷ Port ∷ Semicolon ∷ Links ∷ rest) → LinksBegun stack rest words
  inject : Took (λ word. word.text ≡ codes "inject") stack words (Name ∷ Dot ∷ Port ∷ OpenBrace ∷ Tags ∷ Asks ∷ rest) → LinksBegun stack rest words

links_begun : (rest : List Symbol) (words : List Word) (f : First Links rest words) → Choice Links f.word f.then' → LinksBegun (Links ∷ rest) rest words
links_begun rest words f (a_key (inl (t, e))) = a_link (took (λ word. word.text ≡ codes "link") f (Name ∷ Dot ∷ Port ∷ Arrow ∷ Name ∷ Dot ∷ Port ∷ Semicolon ∷ Links ∷ []) t e)
links_begun rest words f (a_key (inr (inl (t, e)))) = inject (took (λ word. word.text ≡ codes "inject") f (Name ∷ Dot ∷ Port ∷ OpenBrace ∷ Tags ∷ Asks ∷ []) t e)
links_begun rest words f (a_key (inr (inr none))) = absurd none
links_begun rest words f (a_name k e) = absurd (none-some _ e)
links_begun rest words f (a_number k e) = absurd (none-some _ e)
links_begun rest words f (a_text k e) = absurd (none-some _ e)

-- what is found before the questions
abbrev FindsNet : {V : Type 0} → ℕ → (V → Spelling) → Symbol → Type 0
FindsNet n p x = (depth : ℕ) (rest : List Symbol) (words : List Word) → length words ≤ n → open_count rest ≡ depth → Ends (x ∷ rest) words → Found p depth (x ∷ rest) (Asks ∷ rest) words

links_by : (n : ℕ) → FindsNet n linked Links → (stack rest : List Symbol) (words : List Word) (depth : ℕ) → length words ≤ suc n → open_count rest ≡ depth → LinksBegun stack rest words → Strictly linked depth stack (Asks ∷ rest) words
links_by n later stack rest words depth h o (a_link t) =
    let a = strictly_behind (codes "link") (λ x. name x.0 ⨾ key (codes ".") ⨾ port x.1.1.0 ⨾ key (codes "->") ⨾ name x.1.1.1.1.0 ⨾ key (codes ".") ⨾ port x.1.1.1.1.1.1.0 ⨾ key (codes ";"))
    (λ r. Name ∷ Dot ∷ Port ∷ Arrow ∷ Name ∷ Dot ∷ Port ∷ Semicolon ∷ r) depth (Links ∷ rest) t h (link_words {n = n}) (λ r. refl) o in
    let s = a.1 in
    let m = later depth rest a.0.left (omega (arith, h, s)) o a.0.ends in
    let u = m.shorter in (
      record {
        value = (record { from = a.0.value.0; from_port = a.0.value.1.1.0; to = a.0.value.1.1.1.1.0; to_port = a.0.value.1.1.1.1.1.1.0 } ∷ m.value.0, m.value.1);
        left = m.left;
        is = (m.is.0, (placed_of (Links ∷ rest) a.0.left, a.0.is, m.is.1), m.is.2);
        ends = m.ends;
        shorter = omega (arith, s, u);
      },
      omega (arith, s, u),
    )
links_by n later stack rest words depth h o (inject t) =
    let a = strictly_behind (codes "inject") (λ x. name x.0 ⨾ key (codes ".") ⨾ port x.1.1.0 ⨾ key (codes "{") ⨾ lines_to_brace x.1.1.1.1) (λ r. Name ∷ Dot ∷ Port ∷ OpenBrace ∷ Tags ∷ r) depth (Asks ∷ rest) t h (injection_words {n = n}) (λ r. refl) o in (
      record {
        value = ([], record { node = a.0.value.0; port = a.0.value.1.1.0; tags = a.0.value.1.1.1.1.0; fields = a.0.value.1.1.1.1.1.0; tests = a.0.value.1.1.1.1.1.1 });
        left = a.0.left;
        is = (placed_of stack words, refl, a.0.is);
        ends = a.0.ends;
        shorter = a.0.shorter;
      },
      a.1,
    )

found_links : (n : ℕ) → FindsNet n linked Links
found_links zero depth rest words h o ends = absurd (some_words (first Links rest words refl ends) h)
found_links (suc n) depth rest words h o ends =
    let f = first Links rest words refl ends in
    (links_by n (found_links n) (Links ∷ rest) rest words depth h o (links_begun rest words f f.choice)).0

-- nodes, links and the injection
abbrev netted : Version → List DeclTree × (List Link × InjectionTree) → Spelling
netted v x = nodes v x.0 ⨾ linked x.1

data NodesBegun (v : Version) (rest : List Symbol) (words : List Word) : Type 0 where
  a_node : Took (λ word. word.text ≡ codes "node") (nodes_of v ∷ rest) words (Name ∷ body_of v ∷ nodes_of v ∷ rest) → NodesBegun v rest words
  no_node : LinksBegun (nodes_of v ∷ rest) rest words → NodesBegun v rest words

old_nodes : (rest : List Symbol) (words : List Word) (f : First OldNodes rest words) → Choice OldNodes f.word f.then' → NodesBegun old rest words
old_nodes rest words f (a_key (inl (t, e))) = a_node (took (λ word. word.text ≡ codes "node") f (Name ∷ OldNodeBody ∷ OldNodes ∷ []) t e)
old_nodes rest words f (a_key (inr (inl (t, e)))) = no_node (a_link (took (λ word. word.text ≡ codes "link") f (Name ∷ Dot ∷ Port ∷ Arrow ∷ Name ∷ Dot ∷ Port ∷ Semicolon ∷ Links ∷ []) t e))
old_nodes rest words f (a_key (inr (inr (inl (t, e))))) = no_node (inject (took (λ word. word.text ≡ codes "inject") f (Name ∷ Dot ∷ Port ∷ OpenBrace ∷ Tags ∷ Asks ∷ []) t e))
old_nodes rest words f (a_key (inr (inr (inr none)))) = absurd none
old_nodes rest words f (a_name k e) = absurd (none-some _ e)
old_nodes rest words f (a_number k e) = absurd (none-some _ e)
old_nodes rest words f (a_text k e) = absurd (none-some _ e)

new_nodes : (rest : List Symbol) (words : List Word) (f : First Nodes rest words) → Choice Nodes f.word f.then' → NodesBegun new rest words
new_nodes rest words f (a_key (inl (t, e))) = a_node (took (λ word. word.text ≡ codes "node") f (Name ∷ NodeBody ∷ Nodes ∷ []) t e)
new_nodes rest words f (a_key (inr (inl (t, e)))) = no_node (a_link (took (λ word. word.text ≡ codes "link") f (Name ∷ Dot ∷ Port ∷ Arrow ∷ Name ∷ Dot ∷ Port ∷ Semicolon ∷ Links ∷ []) t e))
new_nodes rest words f (a_key (inr (inr (inl (t, e))))) = no_node (inject (took (λ word. word.text ≡ codes "inject") f (Name ∷ Dot ∷ Port ∷ OpenBrace ∷ Tags ∷ Asks ∷ []) t e))
new_nodes rest words f (a_key (inr (inr (inr none)))) = absurd none
new_nodes rest words f (a_name k e) = absurd (none-some _ e)
new_nodes rest words f (a_number k e) = absurd (none-some _ e)
new_nodes rest words f (a_text k e) = absurd (none-some _ e)

nodes_begun : (v : Version) (rest : List Symbol) (words : List Word) → Ends (nodes_of v ∷ rest) words → NodesBegun v rest words
nodes_begun old rest words ends = old_nodes rest words (first OldNodes rest words refl ends) (first OldNodes rest words refl ends).choice
nodes_begun new rest words ends = new_nodes rest words (first Nodes rest words refl ends) (first Nodes rest words refl ends).choice

nodes_by : (v : Version) (n : ℕ) → FindsNet n (netted v) (nodes_of v) → (rest : List Symbol) (words : List Word) (depth : ℕ) → length words ≤ suc n → open_count rest ≡ depth → NodesBegun v rest words → Found (netted v) depth (nodes_of v ∷ rest) (Asks ∷ rest) words
nodes_by v n later rest words depth h o (a_node t) =
    let here = closed_nodes v rest ∙ o in
    let below = closed_body v (nodes_of v ∷ rest) ∙ here in
    let s = t.shorter in
    let x = found_name {n = n} depth (body_of v ∷ nodes_of v ∷ rest) t.left (omega (arith, h, s)) below t.ends in
    let s1 = x.shorter in
    let y = found_body v n depth (nodes_of v ∷ rest) x.left (omega (arith, h, s, s1)) here x.ends in
    let s2 = y.shorter in
    let m = later depth rest y.left (omega (arith, h, s, s1, s2)) o y.ends in
    let s3 = m.shorter in
    record {
      value = (record { name = x.value; body = y.value } ∷ m.value.0, m.value.1);
      left = m.left;
      is = (
        m.is.0,
        (
          placed_of (nodes_of v ∷ rest) y.left,
          (placed_of (Name ∷ body_of v ∷ nodes_of v ∷ rest) t.left, t.spelled depth below, (placed_of (body_of v ∷ nodes_of v ∷ rest) x.left, x.is, y.is)),
          m.is.1,
        ),
        m.is.2,
      );
      ends = m.ends;
      shorter = omega (arith, s, s1, s2, s3);
    }
nodes_by v n later rest words depth h o (no_node t) =
    let a = links_by n (found_links n) (nodes_of v ∷ rest) rest words depth h o t in
    record { value = ([], a.0.value); left = a.0.left; is = (placed_of (nodes_of v ∷ rest) words, refl, a.0.is); ends = a.0.ends; shorter = a.0.shorter }

found_nodes : (v : Version) (n : ℕ) → FindsNet n (netted v) (nodes_of v)
found_nodes old zero depth rest words h o ends = absurd (some_words (first OldNodes rest words refl ends) h)
found_nodes new zero depth rest words h o ends = absurd (some_words (first Nodes rest words refl ends) h)
found_nodes v (suc n) depth rest words h o ends = nodes_by v n (found_nodes v n) rest words depth h o (nodes_begun v rest words ends)

found_side : {n : ℕ} → Finds n side (λ rest. Side ∷ rest)
found_side depth rest words h o ends = by (first Side rest words refl ends) (first Side rest words refl ends).choice
  where
    of : (k : SideOf) (text : List ℕ) → ((b a : List Placed) → key text depth b a → side k depth b a) → Took (λ word. word.text ≡ text) (Side ∷ rest) words rest → Found side depth (Side ∷ rest) rest words
    of k text is t = found_word side k depth (λ word. word.text ≡ text) t is o

    by : (f : First Side rest words) → Choice Side f.word f.then' → Found side depth (Side ∷ rest) rest words
    by f (a_key (inl (t, e))) = of Inward (codes "in") (λ b a is. is) (took (λ word. word.text ≡ codes "in") f [] t e)
    by f (a_key (inr (inl (t, e)))) = of Outward (codes "out") (λ b a is. is) (took (λ word. word.text ≡ codes "out") f [] t e)
    by f (a_key (inr (inr none))) = absurd none
    by f (a_name k e) = absurd (none-some _ e)
    by f (a_number k e) = absurd (none-some _ e)
    by f (a_text k e) = absurd (none-some _ e)

found_place : {n : ℕ} → Finds n place (λ rest. Side ∷ Name ∷ Dot ∷ Port ∷ rest)
found_place {n} depth rest words h o ends =
    let a = found_seq {n = n} side (λ x. name x.0 ⨾ key (codes ".") ⨾ port x.1.1) (λ rest. Side ∷ rest) (λ rest. Name ∷ Dot ∷ Port ∷ rest) found_side
    (found_seq name (λ x. key (codes ".") ⨾ port x.1) (λ rest. Name ∷ rest) (λ rest. Dot ∷ Port ∷ rest) found_name (found_seq (λ u. key (codes ".")) port (λ rest. Dot ∷ rest) (λ rest. Port ∷ rest) found_dot found_port (λ r. refl)) (λ r. refl)) (λ r. refl)
    depth rest words h o ends in
    record { value = record { side = a.value.0; node = a.value.1.0; port = a.value.1.1.1 }; left = a.left; is = a.is; ends = a.ends; shorter = a.shorter }

found_with : (n : ℕ) → Finds n (λ c. with_test c ⨾ key (codes ";")) (λ rest. With ∷ rest)
found_with n depth rest words h o ends = by (first With rest words refl ends) (first With rest words refl ends).choice
  where
    by : (f : First With rest words) → Choice With f.word f.then' → Found (λ c. with_test c ⨾ key (codes ";")) depth (With ∷ rest) rest words
    by f (a_key (inl (t, e))) =
        let k = took (λ word. word.text ≡ codes ";") f [] t e in
        let s = k.shorter in
        record { value = tree.always; left = k.left; is = (placed_of (With ∷ rest) words, inr (refl, refl), k.spelled depth o); ends = k.ends; shorter = omega (arith, s) }
    by f (a_key (inr (inl (t, e)))) =
        let k = took (λ word. word.text ≡ codes "with") f (Test ∷ TestTail ∷ Semicolon ∷ []) t e in
        let s = k.shorter in
        let a = found_test_end n depth rest k.left (omega (arith, h, s)) o k.ends in
        let u = a.shorter in
        record { value = a.value.0; left = a.left; is = (a.is.0, inl (placed_of (Test ∷ TestTail ∷ Semicolon ∷ rest) k.left, k.spelled depth o, a.is.1), a.is.2); ends = a.ends; shorter = omega (arith, s, u) }
    by f (a_key (inr (inr none))) = absurd none
    by f (a_name k e) = absurd (none-some _ e)
    by f (a_number k e) = absurd (none-some _ e)
    by f (a_text k e) = absurd (none-some _ e)

-- a question, and the semicolon behind it
abbrev asked : AskTree → Spelling
asked q = question q ⨾ key (codes ";")

kept_words : {n : ℕ} → Finds {V = TargetOf × (Unit {0} × (RawPlace × Unit {0}))} n (λ x. target x.0 ⨾ key (codes "at") ⨾ place x.1.1.0 ⨾ key (codes ";")) (λ rest. Target ∷ At ∷ Side ∷ Name ∷ Dot ∷ Port ∷ Semicolon ∷ rest)
kept_words =
    found_seq target (λ x. key (codes "at") ⨾ place x.1.0 ⨾ key (codes ";")) (λ rest. Target ∷ rest) (λ rest. At ∷ Side ∷ Name ∷ Dot ∷ Port ∷ Semicolon ∷ rest) found_target
    (found_seq (λ u. key (codes "at")) (λ x. place x.0 ⨾ key (codes ";")) (λ rest. At ∷ rest) (λ rest. Side ∷ Name ∷ Dot ∷ Port ∷ Semicolon ∷ rest) (finds_key At (codes "at") refl refl refl (λ v. refl) refl)
    (found_seq place (λ u. key (codes ";")) (λ rest. Side ∷ Name ∷ Dot ∷ Port ∷ rest) (λ rest. Semicolon ∷ rest) found_place found_semicolon (λ r. refl)) (λ r. refl)) (λ r. refl)

reach_words : (n : ℕ) → Finds {V = RawPlace × CondTree} n (λ x. place x.0 ⨾ with_test x.1 ⨾ key (codes ";")) (λ rest. Side ∷ Name ∷ Dot ∷ Port ∷ With ∷ rest)
reach_words n = found_seq place (λ c. with_test c ⨾ key (codes ";")) (λ rest. Side ∷ Name ∷ Dot ∷ Port ∷ rest) (λ rest. With ∷ rest) found_place (found_with n) (λ r. refl)

found_question : (n : ℕ) → Finds (suc n) asked (λ rest. Question ∷ rest)
found_question n depth rest words h o ends = by (first Question rest words refl ends) (first Question rest words refl ends).choice
  where
    by : (f : First Question rest words) → Choice Question f.word f.then' → Found asked depth (Question ∷ rest) rest words
    by f (a_key (inl (t, e))) =
        let a = strictly_behind (codes "reach") (λ x. place x.0 ⨾ with_test x.1 ⨾ key (codes ";")) (λ r. Side ∷ Name ∷ Dot ∷ Port ∷ With ∷ r) depth rest (took (λ word. word.text ≡ codes "reach") f (Side ∷ Name ∷ Dot ∷ Port ∷ With ∷ []) t e) h (reach_words n) (λ r. refl) o in
        record { value = tree.reach a.0.value.0 a.0.value.1; left = a.0.left; is = (a.0.is.2.2.0, (a.0.is.0, a.0.is.1, (a.0.is.2.0, a.0.is.2.1, a.0.is.2.2.1)), a.0.is.2.2.2); ends = a.0.ends; shorter = a.0.shorter }
    by f (a_key (inr (inl (t, e)))) =
        let a = strictly_behind (codes "invariant") (λ x. target x.0 ⨾ key (codes "at") ⨾ place x.1.1.0 ⨾ key (codes ";")) (λ r. Target ∷ At ∷ Side ∷ Name ∷ Dot ∷ Port ∷ Semicolon ∷ r) depth rest (took (λ word. word.text ≡ codes "invariant") f (Target ∷ At ∷ Side ∷ Name ∷ Dot ∷ Port ∷ Semicolon ∷ []) t e) h (kept_words {n = n}) (λ r. refl) o in
        record { value = tree.invariant a.0.value.0 a.0.value.1.1.0; left = a.0.left; is = (a.0.is.2.2.2.0, (a.0.is.0, a.0.is.1, (a.0.is.2.0, a.0.is.2.1, (a.0.is.2.2.0, a.0.is.2.2.1, a.0.is.2.2.2.1))), a.0.is.2.2.2.2); ends = a.0.ends; shorter = a.0.shorter }
    by f (a_key (inr (inr (inl (t, e))))) =
        let a = strictly_behind (codes "visible") (λ x. target x.0 ⨾ key (codes "at") ⨾ place x.1.1.0 ⨾ key (codes ";")) (λ r. Target ∷ At ∷ Side ∷ Name ∷ Dot ∷ Port ∷ Semicolon ∷ r) depth rest (took (λ word. word.text ≡ codes "visible") f (Target ∷ At ∷ Side ∷ Name ∷ Dot ∷ Port ∷ Semicolon ∷ []) t e) h (kept_words {n = n}) (λ r. refl) o in
        record { value = tree.visible a.0.value.0 a.0.value.1.1.0; left = a.0.left; is = (a.0.is.2.2.2.0, (a.0.is.0, a.0.is.1, (a.0.is.2.0, a.0.is.2.1, (a.0.is.2.2.0, a.0.is.2.2.1, a.0.is.2.2.2.1))), a.0.is.2.2.2.2); ends = a.0.ends; shorter = a.0.shorter }
    by f (a_key (inr (inr (inr none)))) = absurd none
    by f (a_name k e) = absurd (none-some _ e)
    by f (a_number k e) = absurd (none-some _ e)
    by f (a_text k e) = absurd (none-some _ e)

asks_by : (n : ℕ) → Finds n asks (λ rest. Asks ∷ rest) → (depth : ℕ) (rest : List Symbol) (words : List Word) → length words ≤ suc n → open_count rest ≡ depth → (f : First Asks rest words) → Choice Asks f.word f.then' → Found asks depth (Asks ∷ rest) rest words
asks_by n later depth rest words h o f (a_key (inl (t, e))) =
    let a = strictly_behind (codes "ask") asked (λ r. Question ∷ r) depth (Asks ∷ rest) (took (λ word. word.text ≡ codes "ask") f (Question ∷ Asks ∷ []) t e) (omega (arith, h)) (found_question n) (λ r. refl) o in
    let s = a.1 in
    let m = later depth rest a.0.left (omega (arith, h, s)) o a.0.ends in
    let u = m.shorter in
    record { value = a.0.value ∷ m.value; left = m.left; is = (placed_of (Asks ∷ rest) a.0.left, a.0.is, m.is); ends = m.ends; shorter = omega (arith, s, u) }
asks_by n later depth rest words h o f (a_key (inr none)) = absurd none
asks_by n later depth rest words h o f (a_name k e) = absurd (none-some _ e)
asks_by n later depth rest words h o f (a_number k e) = absurd (none-some _ e)
asks_by n later depth rest words h o f (a_text k e) = absurd (none-some _ e)

found_asks : (n : ℕ) → Finds n asks (λ rest. Asks ∷ rest)
found_asks zero depth rest words h o ends = by (tail Asks rest words refl ends)
  where
    by : Tail Asks rest words → Found asks depth (Asks ∷ rest) rest words
    by (stops ends' e) = found_none asks [] depth ends' e (λ b a is. is)
    by (goes f) = absurd (some_words f h)
found_asks (suc n) depth rest words h o ends = by (found_asks n) (tail Asks rest words refl ends)
  where
    by : Finds n asks (λ rest. Asks ∷ rest) → Tail Asks rest words → Found asks depth (Asks ∷ rest) rest words
    by later (stops ends' e) = found_none asks [] depth ends' e (λ b a is. is)
    by later (goes f) = asks_by n later depth rest words h o f f.choice

-- behind the version
abbrev versioned : Version → JobTree → Spelling
versioned v j = key (codes ";") ⨾ nodes v j.net.nodes ⨾ links j.net.links ⨾ injection j.injection ⨾ asks j.asks

found_parts : (v : Version) (words : List Word) → Ends (Semicolon ∷ nodes_of v ∷ []) words → Found (versioned v) 0 (Semicolon ∷ nodes_of v ∷ []) [] words
found_parts v words ends =
    let k = only_key Semicolon (codes ";") refl refl refl (λ v. refl) refl (nodes_of v ∷ []) words ends in
    let s = k.shorter in
    let a = found_nodes v (length k.left) 0 [] k.left (omega arith) refl k.ends in
    let u = a.shorter in
    let q = found_asks (length a.left) 0 [] a.left (omega arith) refl a.ends in
    let w = q.shorter in
    record {
      value = record { net = record { nodes = a.value.0; links = a.value.1.0 }; injection = a.value.1.1; asks = q.value };
      left = q.left;
      is = (placed_of (nodes_of v ∷ []) k.left, k.spelled 0 (closed_nodes v []), (a.is.0, a.is.1, (a.is.2.0, a.is.2.1, (placed_of (Asks ∷ []) a.left, a.is.2.2, q.is))));
      ends = q.ends;
      shorter = omega (arith, s, u, w);
    }

no_more : (words : List Word) → Ends [] words → placed_of [] words ≡ []
no_more [] ends = refl
no_more (word ∷ words) ends = absurd (none-some _ ends.runs)

-- a job, from its version on
with_version : (words : List Word) (v : Version) (text : List ℕ) → ((b a : List Placed) → key text 0 b a → version v 0 b a) → Took (λ word. word.text ≡ text) (VersionSymbol ∷ []) words (Semicolon ∷ nodes_of v ∷ [])
    → (x : Version) × ((j : JobTree) × (version x ⨾ versioned x j) 0 (placed_of (VersionSymbol ∷ []) words) [])
with_version words v text is t =
    let a = found_parts v t.left t.ends in
    (v, (a.value, (placed_of (Semicolon ∷ nodes_of v ∷ []) t.left, is (placed_of (VersionSymbol ∷ []) words) (placed_of (Semicolon ∷ nodes_of v ∷ []) t.left) (t.spelled 0 (closed_nodes v [])), subst (versioned v a.value 0 (placed_of (Semicolon ∷ nodes_of v ∷ []) t.left)) (no_more a.left a.ends) a.is)))

found_version : (words : List Word) → Ends (VersionSymbol ∷ []) words → (x : Version) × ((j : JobTree) × (version x ⨾ versioned x j) 0 (placed_of (VersionSymbol ∷ []) words) [])
found_version words ends = by (first VersionSymbol [] words refl ends) (first VersionSymbol [] words refl ends).choice
  where
    by : (f : First VersionSymbol [] words) → Choice VersionSymbol f.word f.then' → (x : Version) × ((j : JobTree) × (version x ⨾ versioned x j) 0 (placed_of (VersionSymbol ∷ []) words) [])
    by f (a_key (inl (t, e))) = with_version words old (codes "1") (λ b a is. is) (took (λ word. word.text ≡ codes "1") f (Semicolon ∷ OldNodes ∷ []) t e)
    by f (a_key (inr (inl (t, e)))) = with_version words new (codes "2") (λ b a is. is) (took (λ word. word.text ≡ codes "2") f (Semicolon ∷ Nodes ∷ []) t e)
    by f (a_key (inr (inr none))) = absurd none
    by f (a_name k e) = absurd (none-some _ e)
    by f (a_number k e) = absurd (none-some _ e)
    by f (a_text k e) = absurd (none-some _ e)

-- words that the automaton accepts are those of a job, at the depths that it has
pub found_job : (words : List Word) → Ends (Start ∷ []) words → (j : JobTree) × IsJob j (placed_of (Start ∷ []) words)
found_job words ends = by (first Start [] words refl ends) (first Start [] words refl ends).choice
  where
    by : (f : First Start [] words) → Choice Start f.word f.then' → (j : JobTree) × IsJob j (placed_of (Start ∷ []) words)
    by f (a_key (inl (t, e))) =
        let k = took (λ word. word.text ≡ codes "symnet") f (VersionSymbol ∷ []) t e in
        let a = found_version k.left k.ends in
        (a.1.0, (a.0, (placed_of (VersionSymbol ∷ []) k.left, k.spelled 0 refl, a.1.1)))
    by f (a_key (inr none)) = absurd none
    by f (a_name k e) = absurd (none-some _ e)
    by f (a_number k e) = absurd (none-some _ e)
    by f (a_text k e) = absurd (none-some _ e)
