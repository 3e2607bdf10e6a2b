-- Nodes, links, injections, questions and whole jobs, as the automaton takes them.
use Rattle.std.proofs.Common.{◌≡◌, ℕ, ◌≤◌, true, inl, inr, List, [], ◌∷◌, Option, None, Some, codes, refl, ◌∙◌}
use Rattle.sefl_lex.specs.Bytes.{is_decimal, begins}
use Rattle.sefl_lex.specs.Words.{value_of}
use Rattle.sefl_lex.specs.declared.token.TokenKind.{TokenKind}
use Rattle.sefl_lex.specs.declared.token.TokenKind.TheVariants as kind
use Rattle.sefl_syntax.specs.Trees as tree
use Rattle.sefl_syntax.specs.Trees.{CondTree, PortTree, NodeTree, BodyTree, DeclTree, InjectionTree, AskTree, JobTree}
use Rattle.sefl_syntax.specs.declared.reference.Addr.{Addr as AddrOf}
use Rattle.sefl_syntax.specs.declared.reference.Target.{Target as TargetOf}
use Rattle.sefl_syntax.specs.declared.net.Side.{Side as SideOf}
use Rattle.sefl_syntax.specs.declared.net.Side.TheVariants.{Inward, Outward}
use Rattle.sefl_syntax.specs.declared.net.Style.{Style as StyleOf}
use Rattle.sefl_syntax.specs.declared.net.Style.TheVariants.{Chain, Grouped, Egress}
use Rattle.sefl_syntax.specs.declared.net.TableKind.{TableKind as TableKindOf}
use Rattle.sefl_syntax.specs.declared.net.TableKind.TheVariants.{Mac, Fib}
use Rattle.sefl_syntax.specs.declared.net.Link.{Link}
use Rattle.sefl_syntax.specs.declared.job.RawField.{RawField}
use Rattle.sefl_syntax.specs.declared.job.RawPlace.{RawPlace}
use Rattle.sefl_grammar.specs.Word.{Placed}
use Rattle.sefl_grammar.specs.Table.{alternatives}
use Rattle.sefl_grammar.specs.Automaton.{step, open_count}
use Rattle.sefl_grammar.specs.Grammar.{Spelling, ◌⨾◌, key, name, text, port, addr, target, field_target, field_value, IsCond, Version, old, new, version, equation, side, port_code, port_codes, table_kind, style, body, nodes, links, tags, fields, wheres, injection, place, with_test, question, asks, IsJob}
use Rattle.sefl_grammar.proofs.Going.{Goes, goes_on, goes_key, stays, Does, Closed, seq, does_key}
use Rattle.sefl_grammar.proofs.Leaves.{begun_by, does_name, does_number, does_text, does_port, does_target, does_field_target, does_semicolon, goes_number, in_step, in_limit, found_else, not_found}
use Rattle.sefl_grammar.proofs.Codes.{block_of, closed_block, step_brace, goes_block, does_named_addr, does_test_end}
use Rattle.sefl_grammar.specs.declared.symbol.Symbol.{Symbol}
use Rattle.sefl_grammar.specs.declared.symbol.Symbol.TheVariants.{Start, Version as VersionSymbol, Nodes, OldNodes, Links, NodeBody, OldNodeBody, TableKind, Style, Codes, OldCodes, Target, Addr, Test, TestTail, Tags, Fields, Wheres, FieldTarget, FieldValue, Asks, Question, Side, With, Name, Number, Port, Text, Semicolon, Dot, Equals, Arrow, OpenBrace, At}

abbrev pub codes_of : Version → Symbol
codes_of old = OldCodes
codes_of new = Codes

abbrev pub nodes_of : Version → Symbol
nodes_of old = OldNodes
nodes_of new = Nodes

abbrev pub body_of : Version → Symbol
body_of old = OldNodeBody
body_of new = NodeBody

pub closed_codes : (v : Version) → Closed (λ rest. codes_of v ∷ rest)
closed_codes old rest = refl
closed_codes new rest = refl

pub closed_nodes : (v : Version) → Closed (λ rest. nodes_of v ∷ rest)
closed_nodes old rest = refl
closed_nodes new rest = refl

pub closed_body : (v : Version) → Closed (λ rest. body_of v ∷ rest)
closed_body old rest = refl
closed_body new rest = refl

does_dot : Does (key (codes ".")) (λ rest. Dot ∷ rest)
does_dot = does_key (codes ".") Dot (λ k rest. refl)

does_arrow : Does (key (codes "->")) (λ rest. Arrow ∷ rest)
does_arrow = does_key (codes "->") Arrow (λ k rest. refl)

does_brace : Does (key (codes "{")) (λ rest. OpenBrace ∷ rest)
does_brace = does_key (codes "{") OpenBrace (λ k rest. refl)

step_in : (v : Version) (k : TokenKind) (rest : List Symbol) → step (codes_of v ∷ rest) (record { kind = k; text = codes "in" }) ≡ Some (Port ∷ block_of v ∷ codes_of v ∷ rest)
step_in old k rest = refl
step_in new k rest = refl

step_out : (v : Version) (k : TokenKind) (rest : List Symbol) → step (codes_of v ∷ rest) (record { kind = k; text = codes "out" }) ≡ Some (Port ∷ block_of v ∷ codes_of v ∷ rest)
step_out old k rest = refl
step_out new k rest = refl

step_codes_end : (v : Version) (k : TokenKind) (rest : List Symbol) → step (codes_of v ∷ rest) (record { kind = k; text = codes "}" }) ≡ Some rest
step_codes_end old k rest = refl
step_codes_end new k rest = refl

goes_side : (v : Version) (s : SideOf) (d : ℕ) (b a : List Placed) → side s d b a → (rest : List Symbol) → open_count (Port ∷ block_of v ∷ codes_of v ∷ rest) ≡ d → Goes (codes_of v ∷ rest) b (Port ∷ block_of v ∷ codes_of v ∷ rest) a
goes_side v Inward d b a is rest o = goes_key (codes "in") _ _ d b a is (λ k. step_in v k rest) o
goes_side v Outward d b a is rest o = goes_key (codes "out") _ _ d b a is (λ k. step_out v k rest) o

goes_port_code : (v : Version) (p : PortTree) (d : ℕ) (b a : List Placed) → port_code v p d b a → (rest : List Symbol) → open_count rest ≡ d → Goes (codes_of v ∷ rest) b (codes_of v ∷ rest) a
goes_port_code v p d b a (m, is, (x, n, code)) rest o =
    let here = closed_codes v rest ∙ o in
    let below = closed_block v (codes_of v ∷ rest) ∙ here in
    goes_on (goes_side v p.side d b m is rest below)
    (goes_on (does_port p.port d m x n (block_of v ∷ codes_of v ∷ rest) below) (goes_block d x a code (block_of v ∷ codes_of v ∷ rest) (codes_of v ∷ rest) (step_brace v (codes_of v ∷ rest)) here))

does_port_codes : (v : Version) (ps : List PortTree) → Does (port_codes v ps ⨾ key (codes "}")) (λ rest. codes_of v ∷ rest)
does_port_codes v [] d b a (m, is, end) rest o = goes_on (stays (codes_of v ∷ rest) b m is) (goes_key (codes "}") (codes_of v ∷ rest) rest d m a end (λ k. step_codes_end v k rest) o)
does_port_codes v (p ∷ ps) d b a (m, (x, first, others), end) rest o = goes_on (goes_port_code v p d b x first rest o) (does_port_codes v ps d x a (m, others, end) rest o)

does_table_kind : (k : TableKindOf) → Does (table_kind k) (λ rest. TableKind ∷ rest)
does_table_kind Mac = does_key (codes "mac") TableKind (λ k rest. refl)
does_table_kind Fib = does_key (codes "fib") TableKind (λ k rest. refl)

does_style : (s : StyleOf) → Does (style s) (λ rest. Style ∷ rest)
does_style Chain = does_key (codes "chain") Style (λ k rest. refl)
does_style Grouped = does_key (codes "grouped") Style (λ k rest. refl)
does_style Egress = does_key (codes "egress") Style (λ k rest. refl)

body_number : (v : Version) (t : List ℕ) (n : ℕ) (rest : List Symbol) → begins is_decimal t ≡ true → n ≤ 4294967295 → value_of t ≡ n → step (body_of v ∷ rest) (record { kind = kind.Number; text = t }) ≡ Some (Arrow ∷ Port ∷ OpenBrace ∷ codes_of v ∷ rest)
body_number old t n rest h high e = in_step _ (Arrow ∷ Port ∷ OpenBrace ∷ OldCodes ∷ []) rest _ (found_else _ _ (not_found is_decimal t (alternatives OldNodeBody) h refl) ∙ in_limit 4294967295 (value_of t) n (Arrow ∷ Port ∷ OpenBrace ∷ OldCodes ∷ []) high e)
body_number new t n rest h high e = in_step _ (Arrow ∷ Port ∷ OpenBrace ∷ Codes ∷ []) rest _ (found_else _ _ (not_found is_decimal t (alternatives NodeBody) h refl) ∙ in_limit 4294967295 (value_of t) n (Arrow ∷ Port ∷ OpenBrace ∷ Codes ∷ []) high e)

step_table : (v : Version) (k : TokenKind) (rest : List Symbol) → step (body_of v ∷ rest) (record { kind = k; text = codes "=" }) ≡ Some (TableKind ∷ Text ∷ Style ∷ Semicolon ∷ rest)
step_table old k rest = refl
step_table new k rest = refl

does_table : (k : TableKindOf) (file : List ℕ) (s : StyleOf) → Does (table_kind k ⨾ text file ⨾ style s ⨾ key (codes ";")) (λ rest. TableKind ∷ Text ∷ Style ∷ Semicolon ∷ rest)
does_table k file s =
    seq (table_kind k) (text file ⨾ style s ⨾ key (codes ";")) (λ rest. TableKind ∷ rest) (λ rest. Text ∷ Style ∷ Semicolon ∷ rest) (does_table_kind k)
    (seq (text file) (style s ⨾ key (codes ";")) (λ rest. Text ∷ rest) (λ rest. Style ∷ Semicolon ∷ rest) (does_text file)
    (seq (style s) (key (codes ";")) (λ rest. Style ∷ rest) (λ rest. Semicolon ∷ rest) (does_style s) does_semicolon (λ rest. refl)) (λ rest. refl))
    (λ rest. refl)

does_ports_of : (v : Version) (n : NodeTree) → Does (key (codes "->") ⨾ port n.outs ⨾ key (codes "{") ⨾ port_codes v n.codes ⨾ key (codes "}")) (λ rest. Arrow ∷ Port ∷ OpenBrace ∷ codes_of v ∷ rest)
does_ports_of v n =
    seq (key (codes "->")) (port n.outs ⨾ key (codes "{") ⨾ port_codes v n.codes ⨾ key (codes "}")) (λ rest. Arrow ∷ rest) (λ rest. Port ∷ OpenBrace ∷ codes_of v ∷ rest) does_arrow
    (seq (port n.outs) (key (codes "{") ⨾ port_codes v n.codes ⨾ key (codes "}")) (λ rest. Port ∷ rest) (λ rest. OpenBrace ∷ codes_of v ∷ rest) (does_port n.outs)
    (seq (key (codes "{")) (port_codes v n.codes ⨾ key (codes "}")) (λ rest. OpenBrace ∷ rest) (λ rest. codes_of v ∷ rest) does_brace (does_port_codes v n.codes) (closed_codes v)) (closed_codes v))
    (closed_codes v)

does_body : (v : Version) (x : BodyTree) → Does (body v x) (λ rest. body_of v ∷ rest)
does_body v (tree.code n) d b a (m, (low, high, ins), more) rest o =
    goes_on (goes_number n.ins (body_of v ∷ rest) (Arrow ∷ Port ∷ OpenBrace ∷ codes_of v ∷ rest) d b m ins (λ t h e. body_number v t n.ins rest h high e) (closed_codes v rest ∙ o))
    (does_ports_of v n d m a more rest o)
does_body v (tree.table k file s) d b a is rest o =
    begun_by (codes "=") (table_kind k ⨾ text file ⨾ style s ⨾ key (codes ";")) (λ r. TableKind ∷ Text ∷ Style ∷ Semicolon ∷ r) (body_of v ∷ rest) d b a is rest o (λ k. step_table v k rest) (does_table k file s) (λ r. refl)

step_node : (v : Version) (k : TokenKind) (rest : List Symbol) → step (nodes_of v ∷ rest) (record { kind = k; text = codes "node" }) ≡ Some (Name ∷ body_of v ∷ nodes_of v ∷ rest)
step_node old k rest = refl
step_node new k rest = refl

goes_nodes : (v : Version) (ds : List DeclTree) (d : ℕ) (b a : List Placed) → nodes v ds d b a → (rest : List Symbol) → open_count rest ≡ d → Goes (nodes_of v ∷ rest) b (nodes_of v ∷ rest) a
goes_nodes v [] d b a is rest o = stays (nodes_of v ∷ rest) b a is
goes_nodes v (x ∷ ds) d b a (m, (y, is, (z, n, more)), others) rest o =
    let here = closed_nodes v rest ∙ o in
    let below = closed_body v (nodes_of v ∷ rest) ∙ here in
    goes_on (goes_key (codes "node") (nodes_of v ∷ rest) (Name ∷ body_of v ∷ nodes_of v ∷ rest) d b y is (λ k. step_node v k rest) below)
    (goes_on (does_name x.name d y z n (body_of v ∷ nodes_of v ∷ rest) below)
    (goes_on (does_body v x.body d z m more (nodes_of v ∷ rest) here) (goes_nodes v ds d m a others rest o)))

-- links may come here, and the injection
record TakesLinks (s rest : List Symbol) : Type 0 where
  link : (k : TokenKind) → step s (record { kind = k; text = codes "link" }) ≡ Some (Name ∷ Dot ∷ Port ∷ Arrow ∷ Name ∷ Dot ∷ Port ∷ Semicolon ∷ Links ∷ rest)
  inject : (k : TokenKind) → step s (record { kind = k; text = codes "inject" }) ≡ Some (Name ∷ Dot ∷ Port ∷ OpenBrace ∷ Tags ∷ Asks ∷ rest)

behind_nodes : (v : Version) (rest : List Symbol) → TakesLinks (nodes_of v ∷ rest) rest
behind_nodes old rest = record { link = λ k. refl; inject = λ k. refl }
behind_nodes new rest = record { link = λ k. refl; inject = λ k. refl }

behind_link : (rest : List Symbol) → TakesLinks (Links ∷ rest) rest
behind_link rest = record { link = λ k. refl; inject = λ k. refl }

place_words : (n : List ℕ) (p : ℕ) → Does (name n ⨾ key (codes ".") ⨾ port p) (λ rest. Name ∷ Dot ∷ Port ∷ rest)
place_words n p =
    seq (name n) (key (codes ".") ⨾ port p) (λ rest. Name ∷ rest) (λ rest. Dot ∷ Port ∷ rest) (does_name n)
    (seq (key (codes ".")) (port p) (λ rest. Dot ∷ rest) (λ rest. Port ∷ rest) does_dot (does_port p) (λ rest. refl))
    (λ rest. refl)

-- a port of a node, and more
place_then : (n : List ℕ) (p : ℕ) (q : Spelling) (f : List Symbol → List Symbol) → Does q f → Closed f → Does (name n ⨾ key (codes ".") ⨾ port p ⨾ q) (λ rest. Name ∷ Dot ∷ Port ∷ f rest)
place_then n p q f does closed =
    seq (name n) (key (codes ".") ⨾ port p ⨾ q) (λ rest. Name ∷ rest) (λ rest. Dot ∷ Port ∷ f rest) (does_name n)
    (seq (key (codes ".")) (port p ⨾ q) (λ rest. Dot ∷ rest) (λ rest. Port ∷ f rest) does_dot
    (seq (port p) q (λ rest. Port ∷ rest) f (does_port p) does closed) closed)
    closed

link_words : (l : Link) → Does (name l.from ⨾ key (codes ".") ⨾ port l.from_port ⨾ key (codes "->") ⨾ name l.to ⨾ key (codes ".") ⨾ port l.to_port ⨾ key (codes ";")) (λ rest. Name ∷ Dot ∷ Port ∷ Arrow ∷ Name ∷ Dot ∷ Port ∷ Semicolon ∷ rest)
link_words l =
    place_then l.from l.from_port (key (codes "->") ⨾ name l.to ⨾ key (codes ".") ⨾ port l.to_port ⨾ key (codes ";")) (λ rest. Arrow ∷ Name ∷ Dot ∷ Port ∷ Semicolon ∷ rest)
    (seq (key (codes "->")) (name l.to ⨾ key (codes ".") ⨾ port l.to_port ⨾ key (codes ";")) (λ rest. Arrow ∷ rest) (λ rest. Name ∷ Dot ∷ Port ∷ Semicolon ∷ rest) does_arrow
    (place_then l.to l.to_port (key (codes ";")) (λ rest. Semicolon ∷ rest) does_semicolon (λ rest. refl)) (λ rest. refl))
    (λ rest. refl)

-- conditions may come here, or the end of the injection
record TakesTests (s rest : List Symbol) : Type 0 where
  test : (k : TokenKind) → step s (record { kind = k; text = codes "where" }) ≡ Some (Test ∷ TestTail ∷ Semicolon ∷ Wheres ∷ rest)
  close : (k : TokenKind) → step s (record { kind = k; text = codes "}" }) ≡ Some rest

goes_wheres : (cs : List CondTree) (s : List Symbol) (d : ℕ) (b a : List Placed) → (wheres cs ⨾ key (codes "}")) d b a → (rest : List Symbol) → open_count rest ≡ d → TakesTests s rest → Goes s b rest a
goes_wheres [] s d b a (m, is, end) rest o takes = goes_on (stays s b m is) (goes_key (codes "}") s rest d m a end takes.close o)
goes_wheres (c ∷ cs) s d b a (m, (x, first, others), end) rest o takes =
    goes_on (begun_by (codes "where") (IsCond c ⨾ key (codes ";")) (λ r. Test ∷ TestTail ∷ Semicolon ∷ r) s d b x first (Wheres ∷ rest) o takes.test (does_test_end c) (λ r. refl))
    (goes_wheres cs (Wheres ∷ rest) d x a (m, others, end) rest o (record { test = λ k. refl; close = λ k. refl }))

does_field_value : (n : Option ℕ) → Does (field_value n ⨾ key (codes ";")) (λ rest. FieldValue ∷ rest)
does_field_value None d b a (m, is, end) rest o = goes_on (stays (FieldValue ∷ rest) b m is) (goes_key (codes ";") (FieldValue ∷ rest) rest d m a end (λ k. refl) o)
does_field_value (Some n) d b a (m, (x, is, value), end) rest o =
    goes_on (goes_key (codes "=") (FieldValue ∷ rest) (Number ∷ Semicolon ∷ rest) d b x is (λ k. refl) o)
    (goes_on (does_number n d x m value (Semicolon ∷ rest) o) (does_semicolon d m a end rest o))

goes_fields : (fs : List RawField) (cs : List CondTree) (s : List Symbol) (d : ℕ) (b a : List Placed) → (fields fs ⨾ wheres cs ⨾ key (codes "}")) d b a → (rest : List Symbol) → open_count rest ≡ d
    → ((k : TokenKind) → step s (record { kind = k; text = codes "field" }) ≡ Some (FieldTarget ∷ FieldValue ∷ Fields ∷ rest)) → TakesTests s rest → Goes s b rest a
goes_fields [] cs s d b a (m, is, more) rest o field takes = goes_on (stays s b m is) (goes_wheres cs s d m a more rest o takes)
goes_fields (f ∷ fs) cs s d b a (m, (x, first, others), more) rest o field takes =
    goes_on (begun_by (codes "field") (field_target f.target ⨾ field_value f.value ⨾ key (codes ";")) (λ r. FieldTarget ∷ FieldValue ∷ r) s d b x first (Fields ∷ rest) o field
    (seq (field_target f.target) (field_value f.value ⨾ key (codes ";")) (λ r. FieldTarget ∷ r) (λ r. FieldValue ∷ r) (does_field_target f.target) (does_field_value f.value) (λ r. refl)) (λ r. refl))
    (goes_fields fs cs (Fields ∷ rest) d x a (m, others, more) rest o (λ k. refl) (record { test = λ k. refl; close = λ k. refl }))

goes_tags : (ts : List (List ℕ × AddrOf)) (fs : List RawField) (cs : List CondTree) (d : ℕ) (b a : List Placed) → (tags ts ⨾ fields fs ⨾ wheres cs ⨾ key (codes "}")) d b a → (rest : List Symbol) → open_count rest ≡ d → Goes (Tags ∷ rest) b rest a
goes_tags [] fs cs d b a (m, is, more) rest o = goes_on (stays (Tags ∷ rest) b m is) (goes_fields fs cs (Tags ∷ rest) d m a more rest o (λ k. refl) (record { test = λ k. refl; close = λ k. refl }))
goes_tags (t ∷ ts) fs cs d b a (m, (x, first, others), more) rest o =
    goes_on (begun_by (codes "tag") (equation (name t.0) (addr t.1)) (λ r. Name ∷ Equals ∷ Addr ∷ Semicolon ∷ r) (Tags ∷ rest) d b x first (Tags ∷ rest) o (λ k. refl) (does_named_addr t.0 t.1) (λ r. refl))
    (goes_tags ts fs cs d x a (m, others, more) rest o)

injection_words : (i : InjectionTree) → Does (name i.node ⨾ key (codes ".") ⨾ port i.port ⨾ key (codes "{") ⨾ tags i.tags ⨾ fields i.fields ⨾ wheres i.tests ⨾ key (codes "}")) (λ rest. Name ∷ Dot ∷ Port ∷ OpenBrace ∷ Tags ∷ rest)
injection_words i =
    place_then i.node i.port (key (codes "{") ⨾ tags i.tags ⨾ fields i.fields ⨾ wheres i.tests ⨾ key (codes "}")) (λ rest. OpenBrace ∷ Tags ∷ rest)
    (seq (key (codes "{")) (tags i.tags ⨾ fields i.fields ⨾ wheres i.tests ⨾ key (codes "}")) (λ rest. OpenBrace ∷ rest) (λ rest. Tags ∷ rest) does_brace (goes_tags i.tags i.fields i.tests) (λ rest. refl))
    (λ rest. refl)

goes_links : (ls : List Link) (i : InjectionTree) (s : List Symbol) (d : ℕ) (b a : List Placed) → (links ls ⨾ injection i) d b a → (rest : List Symbol) → open_count rest ≡ d → TakesLinks s rest → Goes s b (Asks ∷ rest) a
goes_links [] i s d b a (m, is, more) rest o takes =
    goes_on (stays s b m is) (begun_by (codes "inject") (name i.node ⨾ key (codes ".") ⨾ port i.port ⨾ key (codes "{") ⨾ tags i.tags ⨾ fields i.fields ⨾ wheres i.tests ⨾ key (codes "}")) (λ r. Name ∷ Dot ∷ Port ∷ OpenBrace ∷ Tags ∷ r) s d m a more (Asks ∷ rest) o takes.inject (injection_words i) (λ r. refl))
goes_links (l ∷ ls) i s d b a (m, (x, first, others), more) rest o takes =
    goes_on (begun_by (codes "link") (name l.from ⨾ key (codes ".") ⨾ port l.from_port ⨾ key (codes "->") ⨾ name l.to ⨾ key (codes ".") ⨾ port l.to_port ⨾ key (codes ";")) (λ r. Name ∷ Dot ∷ Port ∷ Arrow ∷ Name ∷ Dot ∷ Port ∷ Semicolon ∷ r) s d b x first (Links ∷ rest) o takes.link (link_words l) (λ r. refl))
    (goes_links ls i (Links ∷ rest) d x a (m, others, more) rest o (behind_link rest))

does_side : (s : SideOf) → Does (side s) (λ rest. Side ∷ rest)
does_side Inward = does_key (codes "in") Side (λ k rest. refl)
does_side Outward = does_key (codes "out") Side (λ k rest. refl)

does_place : (p : RawPlace) → Does (place p) (λ rest. Side ∷ Name ∷ Dot ∷ Port ∷ rest)
does_place p = seq (side p.side) (name p.node ⨾ key (codes ".") ⨾ port p.port) (λ rest. Side ∷ rest) (λ rest. Name ∷ Dot ∷ Port ∷ rest) (does_side p.side) (place_words p.node p.port) (λ rest. refl)

does_with : (c : CondTree) → Does (with_test c ⨾ key (codes ";")) (λ rest. With ∷ rest)
does_with c d b a (m, inl (x, is, test), end) rest o =
    goes_on (goes_key (codes "with") (With ∷ rest) (Test ∷ TestTail ∷ Semicolon ∷ rest) d b x is (λ k. refl) o) (does_test_end c d x a (m, test, end) rest o)
does_with c d b a (m, inr (same, is), end) rest o = goes_on (stays (With ∷ rest) b m is) (goes_key (codes ";") (With ∷ rest) rest d m a end (λ k. refl) o)

does_kept : (t : TargetOf) (p : RawPlace) → Does (target t ⨾ key (codes "at") ⨾ place p) (λ rest. Target ∷ At ∷ Side ∷ Name ∷ Dot ∷ Port ∷ rest)
does_kept t p =
    seq (target t) (key (codes "at") ⨾ place p) (λ rest. Target ∷ rest) (λ rest. At ∷ Side ∷ Name ∷ Dot ∷ Port ∷ rest) (does_target t)
    (seq (key (codes "at")) (place p) (λ rest. At ∷ rest) (λ rest. Side ∷ Name ∷ Dot ∷ Port ∷ rest) (does_key (codes "at") At (λ k rest. refl)) (does_place p) (λ rest. refl))
    (λ rest. refl)

goes_question : (x : AskTree) (d : ℕ) (b m a : List Placed) → question x d b m → key (codes ";") d m a → (rest : List Symbol) → open_count rest ≡ d → Goes (Question ∷ rest) b rest a
goes_question (tree.reach p c) d b m a (x, is, (y, where', with)) end rest o =
    goes_on (goes_key (codes "reach") (Question ∷ rest) (Side ∷ Name ∷ Dot ∷ Port ∷ With ∷ rest) d b x is (λ k. refl) o)
    (goes_on (does_place p d x y where' (With ∷ rest) o) (does_with c d y a (m, with, end) rest o))
goes_question (tree.invariant t p) d b m a is end rest o =
    goes_on (begun_by (codes "invariant") (target t ⨾ key (codes "at") ⨾ place p) (λ r. Target ∷ At ∷ Side ∷ Name ∷ Dot ∷ Port ∷ r) (Question ∷ rest) d b m is (Semicolon ∷ rest) o (λ k. refl) (does_kept t p) (λ r. refl))
    (does_semicolon d m a end rest o)
goes_question (tree.visible t p) d b m a is end rest o =
    goes_on (begun_by (codes "visible") (target t ⨾ key (codes "at") ⨾ place p) (λ r. Target ∷ At ∷ Side ∷ Name ∷ Dot ∷ Port ∷ r) (Question ∷ rest) d b m is (Semicolon ∷ rest) o (λ k. refl) (does_kept t p) (λ r. refl))
    (does_semicolon d m a end rest o)

goes_asks : (xs : List AskTree) (d : ℕ) (b a : List Placed) → asks xs d b a → (rest : List Symbol) → open_count rest ≡ d → Goes (Asks ∷ rest) b (Asks ∷ rest) a
goes_asks [] d b a is rest o = stays (Asks ∷ rest) b a is
goes_asks (x ∷ xs) d b a (m, (y, is, (z, q, end)), others) rest o =
    goes_on (goes_key (codes "ask") (Asks ∷ rest) (Question ∷ Asks ∷ rest) d b y is (λ k. refl) o)
    (goes_on (goes_question x d y z m q end (Asks ∷ rest) o) (goes_asks xs d m a others rest o))

goes_version : (v : Version) (d : ℕ) (b m a : List Placed) → version v d b m → key (codes ";") d m a → (rest : List Symbol) → open_count rest ≡ d → Goes (VersionSymbol ∷ rest) b (nodes_of v ∷ rest) a
goes_version old d b m a is end rest o = goes_on (goes_key (codes "1") (VersionSymbol ∷ rest) (Semicolon ∷ OldNodes ∷ rest) d b m is (λ k. refl) o) (does_semicolon d m a end (OldNodes ∷ rest) o)
goes_version new d b m a is end rest o = goes_on (goes_key (codes "2") (VersionSymbol ∷ rest) (Semicolon ∷ Nodes ∷ rest) d b m is (λ k. refl) o) (does_semicolon d m a end (Nodes ∷ rest) o)

-- the automaton takes the words of a job
pub goes_job : (j : JobTree) (words : List Placed) → IsJob j words → Goes (Start ∷ []) words (Asks ∷ []) []
goes_job j words (v, (x, is, (y, number', (z, semi, (n, ns, (l, ls, (i, inj, qs))))))) =
    goes_on (goes_key (codes "symnet") (Start ∷ []) (VersionSymbol ∷ []) 0 words x is (λ k. refl) refl)
    (goes_on (goes_version v 0 x y z number' semi [] refl)
    (goes_on (goes_nodes v j.net.nodes 0 z n ns [] refl)
    (goes_on (goes_links j.net.links j.injection (nodes_of v ∷ []) 0 n i (l, ls, inj) [] refl (behind_nodes v [])) (goes_asks j.asks 0 i [] qs [] refl))))
