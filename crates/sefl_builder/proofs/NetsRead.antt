-- Nodes, links, injections, questions and jobs are read.
use Rattle.std.proofs.Common.{◌≡◌, ℕ, ◌<◌, inl, inr, true, false, List, [], ◌∷◌, length, Option, None, Some, bytes_eq, codes, if◌then◌else◌, refl, sym, ap, ◌∙◌, subst, arith}
use Rattle.sefl_lex.specs.Words.{is_number, are_digits, have_value}
use Rattle.sefl_syntax.specs.declared.reference.Addr.{Addr}
use Rattle.sefl_syntax.specs.declared.reference.Scope.TheVariants.{Global, Local}
use Rattle.sefl_syntax.specs.declared.reference.Target.{Target}
use Rattle.sefl_syntax.specs.declared.reference.Target.TheVariants.{Header, Meta, Bound}
use Rattle.sefl_syntax.specs.declared.net.Side.{Side}
use Rattle.sefl_syntax.specs.declared.net.Side.TheVariants.{Inward, Outward}
use Rattle.sefl_syntax.specs.declared.net.Style.{Style}
use Rattle.sefl_syntax.specs.declared.net.Style.TheVariants.{Chain, Grouped, Egress}
use Rattle.sefl_syntax.specs.declared.net.TableKind.{TableKind}
use Rattle.sefl_syntax.specs.declared.net.TableKind.TheVariants.{Mac, Fib}
use Rattle.sefl_syntax.specs.declared.net.Link.{Link}
use Rattle.sefl_syntax.specs.declared.job.RawField.{RawField}
use Rattle.sefl_syntax.specs.declared.job.RawPlace.{RawPlace}
use Rattle.sefl_syntax.specs.Trees as tree
use Rattle.sefl_syntax.specs.Trees.{CondTree, always, PortTree, NodeTree, BodyTree, DeclTree, NetTree, InjectionTree, AskTree, JobTree}
use Rattle.sefl_grammar.specs.Word.{Placed, bare}
use Rattle.sefl_grammar.specs.Grammar as grammar
use Rattle.sefl_grammar.specs.Grammar.{◌⨾◌, IsCond, IsBlock}
use Rattle.sefl_builder.specs.declared.version.Version.{Version}
use Rattle.sefl_builder.specs.declared.version.Version.TheVariants.{Old, New}
use Rattle.sefl_builder.specs.Reading.{Reader, then', begins_with, begins_number}
use Rattle.sefl_builder.specs.Leaves.{key, number, port, word}
use Rattle.sefl_builder.specs.Terms.{target}
use Rattle.sefl_builder.specs.Conditions.{cond}
use Rattle.sefl_builder.specs.Instructions.{blocks}
use Rattle.sefl_builder.specs.Nets.{side, spot, port_code, goes_port_code, node, table_kind, style, table, body, decl, goes_decl, link, goes_link, tag, goes_tag, field_value, field, goes_field, where_test, goes_test, injection, place, with_test, reach, target_at, invariant, visible, question, ask, goes_ask, version, heading, net, job}
use Rattle.sefl_builder.proofs.Taking.{Fine, Takes, Steps, TakesMany, done, next, if_so, if_not, takes_key, takes_word, steps_key, key_less, begins, many_none, many_one, takes_all, or_false, or_true, or_first}
use Rattle.sefl_builder.proofs.LeavesRead.{takes_name, takes_number, takes_text, takes_port, takes_target, key_is_no_number}
use Rattle.sefl_builder.proofs.ConditionsRead.{stops_at, takes_cond}
use Rattle.sefl_builder.proofs.InstructionsRead.{version_of, takes_tag_line, takes_block, port_is_number}

takes_side : (s : Side) (d : ℕ) (b a : List Placed) → grammar.side s d b a → Fine b → Takes side s b a
unfolding side
takes_side Inward d b a is l = if_so (begins_with (codes "in")) (word (codes "in") Inward) (word (codes "out") Outward) Inward b a (begins (codes "in") (codes "in") true d b a is refl) (takes_word (codes "in") Inward d b a is l)
takes_side Outward d b a is l = if_not (begins_with (codes "in")) (word (codes "in") Inward) (word (codes "out") Outward) Outward b a (begins (codes "out") (codes "in") false d b a is refl) (takes_word (codes "out") Outward d b a is l)

side_less : (s : Side) (d : ℕ) (b a : List Placed) → grammar.side s d b a → length a < length b
side_less Inward d b a is = key_less (codes "in") d b a is
side_less Outward d b a is = key_less (codes "out") d b a is

side_goes : (s : Side) (d : ℕ) (b a : List Placed) → grammar.side s d b a → goes_port_code (bare b) ≡ true
side_goes Inward d b a is = or_first _ _ (begins (codes "in") (codes "in") true d b a is refl)
side_goes Outward d b a is = or_true _ _ (begins (codes "out") (codes "in") false d b a is refl) (begins (codes "out") (codes "out") true d b a is refl)

takes_spot : (n : List ℕ) (p d : ℕ) (b m1 m2 a : List Placed) → grammar.name n d b m1 → grammar.key (codes ".") d m1 m2 → grammar.port p d m2 a → Fine b → Takes spot (n, p) b a
unfolding spot
takes_spot n p d b m1 m2 a nm dot is l =
    next _ _ n (n, p) b m1 a (takes_name n d b m1 nm l) (λ f. next _ _ tt (n, p) m1 m2 a (takes_key (codes ".") d m1 m2 dot f) (λ f.
    next _ _ p (n, p) m2 a a (takes_port p d m2 a is f) (λ f. done (n, p) a a refl f)))

-- nodes
takes_port_code : (v : grammar.Version) (p : PortTree) (b a : List Placed) → grammar.port_code v p 0 b a → Fine b → Steps (port_code (version_of v)) p b a
unfolding port_code
takes_port_code v p b a (m1, sd, (m2, is, code)) l =
    let first : Takes side p.side b m1 = takes_side p.side 0 b m1 sd l in
    let second : Takes port p.port m1 m2 = takes_port p.port 0 m1 m2 is first.fine in
    let third : Takes (blocks (version_of v) 64) p.code m2 a = (takes_block 0 64 m2 a code refl second.fine).takes in
    record {
      takes = next _ _ p.side p b m1 a first (λ f. next _ _ p.port p m1 m2 a second (λ f. next _ _ p.code p m2 a a third (λ f. done p a a refl f)));
      less = omega (arith, side_less p.side 0 b m1 sd, second.shorter, third.shorter);
    }

takes_port_codes : (v : grammar.Version) (ps : List PortTree) (b a : List Placed) → grammar.port_codes v ps 0 b a → goes_port_code (bare a) ≡ false → Fine b → TakesMany goes_port_code (port_code (version_of v)) ps b a
takes_port_codes v [] b a is stop l = many_none goes_port_code (port_code (version_of v)) b a is l stop
takes_port_codes v (p ∷ ps) b a (m, (m1, sd, is), others) stop l =
    many_one goes_port_code (port_code (version_of v)) p ps b m a (side_goes p.side 0 b m1 sd) (takes_port_code v p b m (m1, sd, is) l) (λ f. takes_port_codes v ps m a others stop f)

takes_node : (v : grammar.Version) (n : NodeTree) (b a : List Placed) → grammar.body v (tree.code n) 0 b a → Fine b → Takes (node (version_of v)) n b a
unfolding node
takes_node v n b a (m1, ins, (m2, arrow, (m3, outs, (m4, brace, (m5, cs, close))))) l =
    next _ _ n.ins n b m1 a (takes_port n.ins 0 b m1 ins l) (λ f. next _ _ tt n m1 m2 a (takes_key (codes "->") 0 m1 m2 arrow f) (λ f.
    next _ _ n.outs n m2 m3 a (takes_port n.outs 0 m2 m3 outs f) (λ f. next _ _ tt n m3 m4 a (takes_key (codes "{") 0 m3 m4 brace f) (λ f.
    next _ _ n.codes n m4 m5 a
    (takes_all _ _ n.codes m4 m5 (takes_port_codes v n.codes m4 m5 cs (or_false _ _ (begins (codes "}") (codes "in") false 0 m5 a close refl) (begins (codes "}") (codes "out") false 0 m5 a close refl)) f))
    (λ f. next _ _ tt n m5 a a (takes_key (codes "}") 0 m5 a close f) (λ f. done n a a refl f))))))

takes_kind : (k : TableKind) (d : ℕ) (b a : List Placed) → grammar.table_kind k d b a → Fine b → Takes table_kind k b a
unfolding table_kind
takes_kind Mac d b a is l = if_so (begins_with (codes "mac")) (word (codes "mac") Mac) (word (codes "fib") Fib) Mac b a (begins (codes "mac") (codes "mac") true d b a is refl) (takes_word (codes "mac") Mac d b a is l)
takes_kind Fib d b a is l = if_not (begins_with (codes "mac")) (word (codes "mac") Mac) (word (codes "fib") Fib) Fib b a (begins (codes "fib") (codes "mac") false d b a is refl) (takes_word (codes "fib") Fib d b a is l)

abbrev other_style : Reader Style
other_style ws = if begins_with (codes "grouped") ws then word (codes "grouped") Grouped ws else word (codes "egress") Egress ws

takes_style : (s : Style) (d : ℕ) (b a : List Placed) → grammar.style s d b a → Fine b → Takes style s b a
unfolding style
takes_style Chain d b a is l = if_so (begins_with (codes "chain")) (word (codes "chain") Chain) other_style Chain b a (begins (codes "chain") (codes "chain") true d b a is refl) (takes_word (codes "chain") Chain d b a is l)
takes_style Grouped d b a is l =
    if_not (begins_with (codes "chain")) (word (codes "chain") Chain) other_style Grouped b a (begins (codes "grouped") (codes "chain") false d b a is refl)
    (if_so (begins_with (codes "grouped")) (word (codes "grouped") Grouped) (word (codes "egress") Egress) Grouped b a (begins (codes "grouped") (codes "grouped") true d b a is refl) (takes_word (codes "grouped") Grouped d b a is l))
takes_style Egress d b a is l =
    if_not (begins_with (codes "chain")) (word (codes "chain") Chain) other_style Egress b a (begins (codes "egress") (codes "chain") false d b a is refl)
    (if_not (begins_with (codes "grouped")) (word (codes "grouped") Grouped) (word (codes "egress") Egress) Egress b a (begins (codes "egress") (codes "grouped") false d b a is refl) (takes_word (codes "egress") Egress d b a is l))

takes_table : (v : grammar.Version) (k : TableKind) (file : List ℕ) (s : Style) (b a : List Placed) → grammar.body v (tree.table k file s) 0 b a → Fine b → Takes table (tree.table k file s) b a
unfolding table
takes_table v k file s b a (m1, eq, (m2, kd, (m3, tx, (m4, st, semi)))) l =
    next _ _ tt (tree.table k file s) b m1 a (takes_key (codes "=") 0 b m1 eq l) (λ f. next _ _ k (tree.table k file s) m1 m2 a (takes_kind k 0 m1 m2 kd f) (λ f.
    next _ _ file (tree.table k file s) m2 m3 a (takes_text file 0 m2 m3 tx f) (λ f. next _ _ s (tree.table k file s) m3 m4 a (takes_style s 0 m3 m4 st f) (λ f.
    next _ _ tt (tree.table k file s) m4 a a (takes_key (codes ";") 0 m4 a semi f) (λ f. done (tree.table k file s) a a refl f)))))

equals_is_no_number : (d : ℕ) (b a : List Placed) → grammar.key (codes "=") d b a → Fine b → begins_number (bare b) ≡ false
unfolding is_number are_digits have_value
equals_is_no_number d b a is l = key_is_no_number (codes "=") d b a is l refl

abbrev code_body : Version → Reader BodyTree
code_body v ws = then' (node v ws) (λ n ws. Some (tree.code n, ws))

takes_body : (v : grammar.Version) (x : BodyTree) (b a : List Placed) → grammar.body v x 0 b a → Fine b → Takes (body (version_of v)) x b a
unfolding body
takes_body v (tree.code n) b a (m1, ins, is) l =
    if_so begins_number (code_body (version_of v)) table (tree.code n) b a (port_is_number n.ins 0 b m1 ins)
    (next _ _ n (tree.code n) b a a (takes_node v n b a (m1, ins, is) l) (λ f. done (tree.code n) a a refl f))
takes_body v (tree.table k file s) b a (m1, eq, is) l =
    if_not begins_number (code_body (version_of v)) table (tree.table k file s) b a (equals_is_no_number 0 b m1 eq l) (takes_table v k file s b a (m1, eq, is) l)

takes_nodes : (v : grammar.Version) (ds : List DeclTree) (b a : List Placed) → grammar.nodes v ds 0 b a → goes_decl (bare a) ≡ false → Fine b → TakesMany goes_decl (decl (version_of v)) ds b a
unfolding decl
takes_nodes v [] b a is stop l = many_none goes_decl (decl (version_of v)) b a is l stop
takes_nodes v (x ∷ xs) b a (m, (m1, is, (m2, nm, inside)), others) stop l =
    many_one goes_decl (decl (version_of v)) x xs b m a (begins (codes "node") (codes "node") true 0 b m1 is refl)
    (steps_key (codes "node") _ x 0 b m1 m is l (λ f. next _ _ x.name x m1 m2 m (takes_name x.name 0 m1 m2 nm f) (λ f. next _ _ x.body x m2 m m (takes_body v x.body m2 m inside f) (λ f. done x m m refl f))))
    (λ f. takes_nodes v xs m a others stop f)

-- links
takes_links : (xs : List Link) (b a : List Placed) → grammar.links xs 0 b a → goes_link (bare a) ≡ false → Fine b → TakesMany goes_link link xs b a
unfolding link
takes_links [] b a is stop l = many_none goes_link link b a is l stop
takes_links (x ∷ xs) b a (m, (m1, is, (m2, n1, (m3, d1, (m4, p1, (m5, arrow, (m6, n2, (m7, d2, (m8, p2, semi)))))))), others) stop l =
    let from : List ℕ × ℕ = (x.from, x.from_port) in
    let to : List ℕ × ℕ = (x.to, x.to_port) in
    many_one goes_link link x xs b m a (begins (codes "link") (codes "link") true 0 b m1 is refl)
    (steps_key (codes "link") _ x 0 b m1 m is l (λ f. next _ _ from x m1 m4 m (takes_spot x.from x.from_port 0 m1 m2 m3 m4 n1 d1 p1 f) (λ f.
    next _ _ tt x m4 m5 m (takes_key (codes "->") 0 m4 m5 arrow f) (λ f. next _ _ to x m5 m8 m (takes_spot x.to x.to_port 0 m5 m6 m7 m8 n2 d2 p2 f) (λ f.
    next _ _ tt x m8 m m (takes_key (codes ";") 0 m8 m semi f) (λ f. done x m m refl f))))))
    (λ f. takes_links xs m a others stop f)

links_no_decl : (xs : List Link) (b a : List Placed) → grammar.links xs 0 b a → goes_decl (bare a) ≡ false → goes_decl (bare b) ≡ false
links_no_decl [] b a is stop = ap (λ m. goes_decl (bare m)) is ∙ stop
links_no_decl (x ∷ xs) b a (m, (m1, is, more), others) stop = begins (codes "link") (codes "node") false 0 b m1 is refl

-- what is injected
takes_tags : (ts : List (List ℕ × Addr)) (b a : List Placed) → grammar.tags ts 0 b a → goes_tag (bare a) ≡ false → Fine b → TakesMany goes_tag tag ts b a
unfolding tag
takes_tags [] b a is stop l = many_none goes_tag tag b a is l stop
takes_tags (t ∷ ts) b a (m, (m1, is, line), others) stop l =
    many_one goes_tag tag t ts b m a (begins (codes "tag") (codes "tag") true 0 b m1 is refl)
    (steps_key (codes "tag") _ t 0 b m1 m is l (λ f. takes_tag_line t.0 t.1 0 m1 m line f))
    (λ f. takes_tags ts m a others stop f)

takes_field_target : (t : Target) (d : ℕ) (b a : List Placed) → grammar.field_target t d b a → Fine b → Takes target t b a
takes_field_target (Header x w) d b a is l = takes_target (Header x w) d b a is l
takes_field_target (Meta Global n w) d b a is l = takes_target (Meta Global n w) d b a is l
takes_field_target (Meta Local n w) d b a is l = absurd is
takes_field_target (Bound var w) d b a is l = absurd is

abbrev value_behind : Reader (Option ℕ)
value_behind ws = then' (key (codes "=") ws) (λ _ ws. then' (number ws) (λ n ws. Some (Some n, ws)))

takes_field_value : (n : Option ℕ) (d : ℕ) (b m a : List Placed) → grammar.field_value n d b m → grammar.key (codes ";") d m a → Fine b → Takes field_value n b m
unfolding field_value
takes_field_value None d b m a is semi l =
    if_not (begins_with (codes "=")) value_behind (λ ws. Some (None, ws)) None b m (ap (λ m. begins_with (codes "=") (bare m)) is ∙ begins (codes ";") (codes "=") false d m a semi refl) (done None b m is l)
takes_field_value (Some n) d b m a (m1, eq, is) semi l =
    if_so (begins_with (codes "=")) value_behind (λ ws. Some (None, ws)) (Some n) b m (begins (codes "=") (codes "=") true d b m1 eq refl)
    (next _ _ tt (Some n) b m1 m (takes_key (codes "=") d b m1 eq l) (λ f. next _ _ n (Some n) m1 m m (takes_number n d m1 m is f) (λ f. done (Some n) m m refl f)))

takes_fields : (fs : List RawField) (b a : List Placed) → grammar.fields fs 0 b a → goes_field (bare a) ≡ false → Fine b → TakesMany goes_field field fs b a
unfolding field
takes_fields [] b a is stop l = many_none goes_field field b a is l stop
takes_fields (x ∷ xs) b a (m, (m1, is, (m2, tg, (m3, value, semi))), others) stop l =
    many_one goes_field field x xs b m a (begins (codes "field") (codes "field") true 0 b m1 is refl)
    (steps_key (codes "field") _ x 0 b m1 m is l (λ f. next _ _ x.target x m1 m2 m (takes_field_target x.target 0 m1 m2 tg f) (λ f.
    next _ _ x.value x m2 m3 m (takes_field_value x.value 0 m2 m3 m value semi f) (λ f. next _ _ tt x m3 m m (takes_key (codes ";") 0 m3 m semi f) (λ f. done x m m refl f)))))
    (λ f. takes_fields xs m a others stop f)

takes_tests : (cs : List CondTree) (b a : List Placed) → grammar.wheres cs 0 b a → goes_test (bare a) ≡ false → Fine b → TakesMany goes_test where_test cs b a
unfolding where_test
takes_tests [] b a is stop l = many_none goes_test where_test b a is l stop
takes_tests (c ∷ cs) b a (m, (m1, is, (m2, inside, semi)), others) stop l =
    many_one goes_test where_test c cs b m a (begins (codes "where") (codes "where") true 0 b m1 is refl)
    (steps_key (codes "where") _ c 0 b m1 m is l (λ f. next _ _ c c m1 m2 m (takes_cond 0 64 m1 m2 inside (stops_at (codes ";") 0 m2 m semi refl refl refl refl) refl f) (λ f.
    next _ _ tt c m2 m m (takes_key (codes ";") 0 m2 m semi f) (λ f. done c m m refl f))))
    (λ f. takes_tests cs m a others stop f)

tests_begin : (t : List ℕ) (cs : List CondTree) (b a : List Placed) → grammar.wheres cs 0 b a → bytes_eq (codes "where") t ≡ false → begins_with t (bare a) ≡ false → begins_with t (bare b) ≡ false
tests_begin t [] b a is e stop = ap (λ m. begins_with t (bare m)) is ∙ stop
tests_begin t (c ∷ cs) b a (m, (m1, is, more), others) e stop = begins (codes "where") t false 0 b m1 is e

fields_begin : (t : List ℕ) (fs : List RawField) (b a : List Placed) → grammar.fields fs 0 b a → bytes_eq (codes "field") t ≡ false → begins_with t (bare a) ≡ false → begins_with t (bare b) ≡ false
fields_begin t [] b a is e stop = ap (λ m. begins_with t (bare m)) is ∙ stop
fields_begin t (x ∷ xs) b a (m, (m1, is, more), others) e stop = begins (codes "field") t false 0 b m1 is e

takes_injection : (i : InjectionTree) (b a : List Placed) → grammar.injection i 0 b a → Fine b → Takes injection i b a
unfolding injection
takes_injection i b a (m1, is, (m2, nm, (m3, dot, (m4, p, (m5, brace, (m6, ts, (m7, fs, (m8, cs, close)))))))) l =
    let spot' : List ℕ × ℕ = (i.node, i.port) in
    let no_test : goes_test (bare m8) ≡ false = begins (codes "}") (codes "where") false 0 m8 a close refl in
    let no_field : goes_field (bare m7) ≡ false = tests_begin (codes "field") i.tests m7 m8 cs refl (begins (codes "}") (codes "field") false 0 m8 a close refl) in
    let no_tag : goes_tag (bare m6) ≡ false = fields_begin (codes "tag") i.fields m6 m7 fs refl (tests_begin (codes "tag") i.tests m7 m8 cs refl (begins (codes "}") (codes "tag") false 0 m8 a close refl)) in
    next _ _ tt i b m1 a (takes_key (codes "inject") 0 b m1 is l) (λ f. next _ _ spot' i m1 m4 a (takes_spot i.node i.port 0 m1 m2 m3 m4 nm dot p f) (λ f.
    next _ _ tt i m4 m5 a (takes_key (codes "{") 0 m4 m5 brace f) (λ f. next _ _ i.tags i m5 m6 a (takes_all _ _ i.tags m5 m6 (takes_tags i.tags m5 m6 ts no_tag f)) (λ f.
    next _ _ i.fields i m6 m7 a (takes_all _ _ i.fields m6 m7 (takes_fields i.fields m6 m7 fs no_field f)) (λ f. next _ _ i.tests i m7 m8 a (takes_all _ _ i.tests m7 m8 (takes_tests i.tests m7 m8 cs no_test f)) (λ f.
    next _ _ tt i m8 a a (takes_key (codes "}") 0 m8 a close f) (λ f. done i a a refl f)))))))

-- questions
takes_place : (p : RawPlace) (d : ℕ) (b a : List Placed) → grammar.place p d b a → Fine b → Takes place p b a
unfolding place
takes_place p d b a (m1, sd, (m2, nm, (m3, dot, is))) l =
    let spot' : List ℕ × ℕ = (p.node, p.port) in
    next _ _ p.side p b m1 a (takes_side p.side d b m1 sd l) (λ f. next _ _ spot' p m1 a a (takes_spot p.node p.port d m1 m2 m3 a nm dot is f) (λ f. done p a a refl f))

abbrev test_behind : Reader CondTree
test_behind ws = then' (key (codes "with") ws) (λ _ ws. cond 64 ws)

takes_with : (c : CondTree) (b m a : List Placed) → grammar.with_test c 0 b m → grammar.key (codes ";") 0 m a → Fine b → Takes with_test c b m
unfolding with_test
takes_with c b m a (inl (m1, is, inside)) semi l =
    if_so (begins_with (codes "with")) test_behind (λ ws. Some (always, ws)) c b m (begins (codes "with") (codes "with") true 0 b m1 is refl)
    (next (key (codes "with")) (λ _ ws. cond 64 ws) tt c b m1 m (takes_key (codes "with") 0 b m1 is l) (λ f. takes_cond 0 64 m1 m inside (stops_at (codes ";") 0 m a semi refl refl refl refl) refl f))
takes_with c b m a (inr (always', is)) semi l =
    if_not (begins_with (codes "with")) test_behind (λ ws. Some (always, ws)) c b m (ap (λ m. begins_with (codes "with") (bare m)) is ∙ begins (codes ";") (codes "with") false 0 m a semi refl)
    (subst (λ x. Takes (λ ws. Some (always, ws)) x b m) (sym always') (done always b m is l))

takes_target_at : (t : Target) (p : RawPlace) (b a : List Placed) → (grammar.target t ⨾ grammar.key (codes "at") ⨾ grammar.place p) 0 b a → Fine b → Takes target_at (t, p) b a
unfolding target_at
takes_target_at t p b a (m1, tg, (m2, at', is)) l =
    next _ _ t (t, p) b m1 a (takes_target t 0 b m1 tg l) (λ f. next _ _ tt (t, p) m1 m2 a (takes_key (codes "at") 0 m1 m2 at' f) (λ f. next _ _ p (t, p) m2 a a (takes_place p 0 m2 a is f) (λ f. done (t, p) a a refl f)))

abbrev other_question : Reader AskTree
other_question ws = if begins_with (codes "invariant") ws then invariant ws else visible ws

takes_question : (q : AskTree) (b m a : List Placed) → grammar.question q 0 b m → grammar.key (codes ";") 0 m a → Fine b → Takes question q b m
unfolding question reach invariant visible
takes_question (tree.reach p c) b m a (m1, is, (m2, pl, with')) semi l =
    if_so (begins_with (codes "reach")) reach other_question (tree.reach p c) b m (begins (codes "reach") (codes "reach") true 0 b m1 is refl)
    (next _ _ tt (tree.reach p c) b m1 m (takes_key (codes "reach") 0 b m1 is l) (λ f. next _ _ p (tree.reach p c) m1 m2 m (takes_place p 0 m1 m2 pl f) (λ f.
    next _ _ c (tree.reach p c) m2 m m (takes_with c m2 m a with' semi f) (λ f. done (tree.reach p c) m m refl f))))
takes_question (tree.invariant t p) b m a (m1, is, more) semi l =
    let pair : Target × RawPlace = (t, p) in
    if_not (begins_with (codes "reach")) reach other_question (tree.invariant t p) b m (begins (codes "invariant") (codes "reach") false 0 b m1 is refl)
    (if_so (begins_with (codes "invariant")) invariant visible (tree.invariant t p) b m (begins (codes "invariant") (codes "invariant") true 0 b m1 is refl)
    (next _ _ tt (tree.invariant t p) b m1 m (takes_key (codes "invariant") 0 b m1 is l) (λ f. next _ _ pair (tree.invariant t p) m1 m m (takes_target_at t p m1 m more f) (λ f. done (tree.invariant t p) m m refl f))))
takes_question (tree.visible t p) b m a (m1, is, more) semi l =
    let pair : Target × RawPlace = (t, p) in
    if_not (begins_with (codes "reach")) reach other_question (tree.visible t p) b m (begins (codes "visible") (codes "reach") false 0 b m1 is refl)
    (if_not (begins_with (codes "invariant")) invariant visible (tree.visible t p) b m (begins (codes "visible") (codes "invariant") false 0 b m1 is refl)
    (next _ _ tt (tree.visible t p) b m1 m (takes_key (codes "visible") 0 b m1 is l) (λ f. next _ _ pair (tree.visible t p) m1 m m (takes_target_at t p m1 m more f) (λ f. done (tree.visible t p) m m refl f))))

takes_asks : (xs : List AskTree) (b a : List Placed) → grammar.asks xs 0 b a → goes_ask (bare a) ≡ false → Fine b → TakesMany goes_ask ask xs b a
unfolding ask
takes_asks [] b a is stop l = many_none goes_ask ask b a is l stop
takes_asks (x ∷ xs) b a (m, (m1, is, (m2, q, semi)), others) stop l =
    many_one goes_ask ask x xs b m a (begins (codes "ask") (codes "ask") true 0 b m1 is refl)
    (steps_key (codes "ask") _ x 0 b m1 m is l (λ f. next _ _ x x m1 m2 m (takes_question x m1 m2 m q semi f) (λ f. next _ _ tt x m2 m m (takes_key (codes ";") 0 m2 m semi f) (λ f. done x m m refl f))))
    (λ f. takes_asks xs m a others stop f)

-- the job
takes_version : (v : grammar.Version) (b a : List Placed) → grammar.version v 0 b a → Fine b → Takes version (version_of v) b a
unfolding version
takes_version grammar.old b a is l = if_so (begins_with (codes "1")) (word (codes "1") Old) (word (codes "2") New) Old b a (begins (codes "1") (codes "1") true 0 b a is refl) (takes_word (codes "1") Old 0 b a is l)
takes_version grammar.new b a is l = if_not (begins_with (codes "1")) (word (codes "1") Old) (word (codes "2") New) New b a (begins (codes "2") (codes "1") false 0 b a is refl) (takes_word (codes "2") New 0 b a is l)

takes_heading : (v : grammar.Version) (b m1 m2 a : List Placed) → grammar.key (codes "symnet") 0 b m1 → grammar.version v 0 m1 m2 → grammar.key (codes ";") 0 m2 a → Fine b → Takes heading (version_of v) b a
unfolding heading
takes_heading v b m1 m2 a is ver semi l =
    next _ _ tt (version_of v) b m1 a (takes_key (codes "symnet") 0 b m1 is l) (λ f. next _ _ (version_of v) (version_of v) m1 m2 a (takes_version v m1 m2 ver f) (λ f.
    next _ _ tt (version_of v) m2 a a (takes_key (codes ";") 0 m2 a semi f) (λ f. done (version_of v) a a refl f)))

takes_net : (v : grammar.Version) (n : NetTree) (b m a c : List Placed) → grammar.nodes v n.nodes 0 b m → grammar.links n.links 0 m a → grammar.key (codes "inject") 0 a c → Fine b → Takes (net (version_of v)) n b a
unfolding net
takes_net v n b m a c ns ls is l =
    next _ _ n.nodes n b m a (takes_all _ _ n.nodes b m (takes_nodes v n.nodes b m ns (links_no_decl n.links m a ls (begins (codes "inject") (codes "node") false 0 a c is refl)) l)) (λ f.
    next _ _ n.links n m a a (takes_all _ _ n.links m a (takes_links n.links m a ls (begins (codes "inject") (codes "link") false 0 a c is refl) f)) (λ f. done n a a refl f))

takes_job : (v : grammar.Version) (j : JobTree) (b : List Placed) → grammar.job v j 0 b [] → Fine b → Takes job j b []
unfolding job
takes_job v j b (m1, is, (m2, ver, (m3, semi, (m4, ns, (m5, ls, (m6, (c, inject, inside), qs)))))) l =
    next _ _ (version_of v) j b m3 [] (takes_heading v b m1 m2 m3 is ver semi l) (λ f. next _ _ j.net j m3 m5 [] (takes_net v j.net m3 m4 m5 c ns ls inject f) (λ f.
    next _ _ j.injection j m5 m6 [] (takes_injection j.injection m5 m6 (c, inject, inside) f) (λ f. next _ _ j.asks j m6 [] [] (takes_all _ _ j.asks m6 [] (takes_asks j.asks m6 [] qs refl f)) (λ f.
    record { fine = f; shorter = omega arith; reads = refl }))))

-- the reader finds the job that the words are of
pub job_read : (j : JobTree) (placed : List Placed) → grammar.IsJob j placed → Fine placed → job (bare placed) ≡ Some (j, [])
job_read j placed (v, is) l = (takes_job v j placed is l).reads
