-- Instructions and blocks are read.
use Rattle.std.proofs.Common.{◌≡◌, ℕ, zero, suc, ◌+◌, true, false, not, List, [], ◌∷◌, Some, bytes_eq, codes, if◌then◌else◌, refl, sym, ap, subst, arith}
use Rattle.sefl_lex.specs.Words.{is_number, are_digits, have_value}
use Rattle.sefl_lex.specs.declared.token.TokenKind.{TokenKind}
use Rattle.sefl_syntax.specs.declared.reference.Addr.{Addr}
use Rattle.sefl_syntax.specs.declared.reference.Target.{Target}
use Rattle.sefl_syntax.specs.Trees as tree
use Rattle.sefl_syntax.specs.Trees.{CondTree, InstrTree, CodeTree, instr_and as code_and}
use Rattle.sefl_syntax.specs.Views.{code_of}
use Rattle.sefl_grammar.specs.Word.{Placed, bare}
use Rattle.sefl_grammar.specs.Grammar as grammar
use Rattle.sefl_grammar.specs.Grammar.{◌⨾◌, IsExpr, IsCond, IsInstr, plain, branch, each, block, IsBlock, braces, IsCode, no_instr, instr_first}
use Rattle.sefl_builder.specs.declared.version.Version.{Version}
use Rattle.sefl_builder.specs.declared.version.Version.TheVariants.{Old, New}
use Rattle.sefl_builder.specs.declared.head.Head.{Head}
use Rattle.sefl_builder.specs.declared.head.Head.TheVariants as head
use Rattle.sefl_builder.specs.Reading.{Reader, then', known, begins_with, begins_number}
use Rattle.sefl_builder.specs.Leaves.{key, skip, name, port, text, word}
use Rattle.sefl_builder.specs.Conditions.{cond, goes_comma, goes_expr}
use Rattle.sefl_builder.specs.Instructions.{head_ahead, way_ahead, target_line, allocate_rest, deallocate_rest, any_rest, assign_rest, set_rest, tag_line, tag_of, tag_rest, retag_rest, untag_rest, constrain_rest, fail_rest, forward_rest, next_port, ports_from, ports, fork_rest, no_op_rest, goes_instr, blocks, if_rest, for_rest, block_here, instr, instrs}
use Rattle.sefl_builder.proofs.Rooms.{rest_is, instr_is, blocks_suc}
use Rattle.sefl_builder.proofs.Taking.{Fine, Takes, Steps, TakesMany, done, next, if_so, if_not, as_read, takes_key, steps_key, key_less, key_depth, begins, at_key, takes_skip, takes_known, many_none, many_one, takes_all, takes_added}
use Rattle.sefl_builder.proofs.LeavesRead.{takes_name, takes_text, takes_port, takes_addr, takes_target, begins_as_number, key_is_no_number}
use Rattle.sefl_builder.proofs.TermsRead.{no_sum, takes_expr}
use Rattle.sefl_builder.proofs.ConditionsRead.{Stops, stops_at, takes_cond, expr_goes, no_expr}

abbrev pub version_of : grammar.Version → Version
version_of grammar.old = Old
version_of grammar.new = New

-- an instruction is read, and does not begin as the end of a block
pub record Begun (v : Version) (room : ℕ) (i : InstrTree) (b a : List Placed) : Type 0 where
  pub goes : goes_instr (bare b) ≡ true
  pub steps : Steps (instr v room) i b a

takes_instr_by : (v : Version) (room : ℕ) (i : InstrTree) (b a : List Placed) → Takes (λ ws. if begins_with (codes "{") ws then block_here v room ws else known (head_ahead ws) (λ h. then' (skip ws) (λ _ ws. rest_is v room h ws))) i b a → Takes (instr v room) i b a
takes_instr_by v room i b a f = as_read (instr v room) _ i b a (instr_is v room (bare b)) f

by_head : (t : List ℕ) (h : Head) (v : Version) (room : ℕ) (i : InstrTree) (d : ℕ) (b m a : List Placed) → grammar.key t d b m
    → ((k : TokenKind) → head_ahead (record { kind = k; text = t } ∷ bare m) ≡ Some h) → bytes_eq t (codes "{") ≡ false → bytes_eq t (codes "}") ≡ false
    → Fine b → (Fine m → Takes (rest_is v room h) i m a) → Begun v room i b a
by_head t h v room i d b m a is ahead brace close l g =
    let skips : Takes skip tt b m = takes_skip t d b m is l in
    let rest : Takes (rest_is v room h) i m a = g skips.fine in
    record {
      goes = ap not (begins t (codes "}") false d b m is close);
      steps = record {
        takes = takes_instr_by v room i b a
            (if_not (begins_with (codes "{")) (block_here v room) (λ ws. known (head_ahead ws) (λ h. then' (skip ws) (λ _ ws. rest_is v room h ws))) i b a (begins t (codes "{") false d b m is brace)
            (takes_known head_ahead (λ h ws. then' (skip ws) (λ _ ws. rest_is v room h ws)) h i b a (at_key head_ahead t d b m is (Some h) ahead)
            (next skip (λ _ ws. rest_is v room h ws) tt i b m a skips (λ f. rest))));
        less = omega (arith, key_less t d b m is, rest.shorter);
      };
    }

takes_target_line : (t : Target) (d : ℕ) (b a : List Placed) → (grammar.target t ⨾ grammar.key (codes ";")) d b a → Fine b → Takes target_line t b a
unfolding target_line
takes_target_line t d b a (m, is, semi) l =
    next _ _ t t b m a (takes_target t d b m is l) (λ f. next _ _ tt t m a a (takes_key (codes ";") d m a semi f) (λ f. done t a a refl f))

takes_allocate : (t : Target) (d : ℕ) (b a : List Placed) → (grammar.target t ⨾ grammar.key (codes ";")) d b a → Fine b → Takes allocate_rest (tree.allocate t) b a
unfolding allocate_rest
takes_allocate t d b a is l = next _ _ t (tree.allocate t) b a a (takes_target_line t d b a is l) (λ f. done (tree.allocate t) a a refl f)

takes_deallocate : (t : Target) (d : ℕ) (b a : List Placed) → (grammar.target t ⨾ grammar.key (codes ";")) d b a → Fine b → Takes deallocate_rest (tree.deallocate t) b a
unfolding deallocate_rest
takes_deallocate t d b a is l = next _ _ t (tree.deallocate t) b a a (takes_target_line t d b a is l) (λ f. done (tree.deallocate t) a a refl f)

any_is_no_expr : (d : ℕ) (b a : List Placed) → grammar.key (codes "any") d b a → Fine b → goes_expr (bare b) ≡ false
unfolding is_number are_digits have_value
any_is_no_expr d b a is l = no_expr (codes "any") d b a is l refl refl

takes_any : (t : Target) (room d : ℕ) (b a : List Placed) → grammar.equation (grammar.target t) (grammar.key (codes "any")) d b a → Fine b → Takes (set_rest room) (tree.assign_any t) b a
unfolding set_rest any_rest
takes_any t room d b a (m1, tg, (m2, eq, (m3, any, semi))) l =
    next _ _ t (tree.assign_any t) b m1 a (takes_target t d b m1 tg l) (λ f. next _ _ tt (tree.assign_any t) m1 m2 a (takes_key (codes "=") d m1 m2 eq f) (λ f.
    if_not goes_expr (assign_rest room t) (any_rest t) (tree.assign_any t) m2 a (any_is_no_expr d m2 m3 any f)
    (next _ _ tt (tree.assign_any t) m2 m3 a (takes_key (codes "any") d m2 m3 any f) (λ f.
    next _ _ tt (tree.assign_any t) m3 a a (takes_key (codes ";") d m3 a semi f) (λ f. done (tree.assign_any t) a a refl f)))))

takes_assign : (t : Target) (e : tree.ExprTree) (room d : ℕ) (b a : List Placed) → grammar.equation (grammar.target t) (IsExpr e) d b a → d + room ≡ 64 → Fine b → Takes (set_rest room) (tree.assign t e) b a
unfolding set_rest assign_rest
takes_assign t e room d b a (m1, tg, (m2, eq, (m3, is, semi))) h l =
    next _ _ t (tree.assign t e) b m1 a (takes_target t d b m1 tg l) (λ f. next _ _ tt (tree.assign t e) m1 m2 a (takes_key (codes "=") d m1 m2 eq f) (λ f.
    if_so goes_expr (assign_rest room t) (any_rest t) (tree.assign t e) m2 a (expr_goes d m2 m3 is f)
    (next _ _ e (tree.assign t e) m2 m3 a (takes_expr d room m2 m3 is (no_sum (codes ";") d m3 a semi refl refl) h f) (λ f.
    next _ _ tt (tree.assign t e) m3 a a (takes_key (codes ";") d m3 a semi f) (λ f. done (tree.assign t e) a a refl f)))))

pub takes_tag_line : (n : List ℕ) (x : Addr) (d : ℕ) (b a : List Placed) → grammar.equation (grammar.name n) (grammar.addr x) d b a → Fine b → Takes tag_line (n, x) b a
unfolding tag_line
takes_tag_line n x d b a (m1, nm, (m2, eq, (m3, is, semi))) l =
    next _ _ n (n, x) b m1 a (takes_name n d b m1 nm l) (λ f. next _ _ tt (n, x) m1 m2 a (takes_key (codes "=") d m1 m2 eq f) (λ f.
    next _ _ x (n, x) m2 m3 a (takes_addr x d m2 m3 is f) (λ f. next _ _ tt (n, x) m3 a a (takes_key (codes ";") d m3 a semi f) (λ f. done (n, x) a a refl f))))

takes_tag : (v : Version) (n : List ℕ) (x : Addr) (d : ℕ) (b a : List Placed) → grammar.equation (grammar.name n) (grammar.addr x) d b a → Fine b → Takes (tag_rest v) (tag_of v n x) b a
unfolding tag_rest
takes_tag v n x d b a is l =
    let pair : List ℕ × Addr = (n, x) in
    next _ _ pair (tag_of v n x) b a a (takes_tag_line n x d b a is l) (λ f. done (tag_of v n x) a a refl f)

takes_retag : (n : List ℕ) (x : Addr) (d : ℕ) (b a : List Placed) → grammar.equation (grammar.name n) (grammar.addr x) d b a → Fine b → Takes (retag_rest New) (tree.set_tag n x) b a
unfolding retag_rest
takes_retag n x d b a is l =
    let pair : List ℕ × Addr = (n, x) in
    next _ _ pair (tree.set_tag n x) b a a (takes_tag_line n x d b a is l) (λ f. done (tree.set_tag n x) a a refl f)

takes_untag : (n : List ℕ) (d : ℕ) (b a : List Placed) → (grammar.name n ⨾ grammar.key (codes ";")) d b a → Fine b → Takes untag_rest (tree.destroy_tag n) b a
unfolding untag_rest
takes_untag n d b a (m, is, semi) l =
    next _ _ n (tree.destroy_tag n) b m a (takes_name n d b m is l) (λ f. next _ _ tt (tree.destroy_tag n) m a a (takes_key (codes ";") d m a semi f) (λ f. done (tree.destroy_tag n) a a refl f))

takes_constrain : (c : CondTree) (room d : ℕ) (b a : List Placed) → (IsCond c ⨾ grammar.key (codes ";")) d b a → d + room ≡ 64 → Fine b → Takes (constrain_rest room) (tree.constrain c) b a
unfolding constrain_rest
takes_constrain c room d b a (m, is, semi) h l =
    next _ _ c (tree.constrain c) b m a (takes_cond d room b m is (stops_at (codes ";") d m a semi refl refl refl refl) h l) (λ f.
    next _ _ tt (tree.constrain c) m a a (takes_key (codes ";") d m a semi f) (λ f. done (tree.constrain c) a a refl f))

takes_fail : (t : List ℕ) (d : ℕ) (b a : List Placed) → (grammar.text t ⨾ grammar.key (codes ";")) d b a → Fine b → Takes fail_rest (tree.fail t) b a
unfolding fail_rest
takes_fail t d b a (m, is, semi) l =
    next _ _ t (tree.fail t) b m a (takes_text t d b m is l) (λ f. next _ _ tt (tree.fail t) m a a (takes_key (codes ";") d m a semi f) (λ f. done (tree.fail t) a a refl f))

takes_forward : (p d : ℕ) (b a : List Placed) → (grammar.port p ⨾ grammar.key (codes ";")) d b a → Fine b → Takes forward_rest (tree.forward p) b a
unfolding forward_rest
takes_forward p d b a (m, is, semi) l =
    next _ _ p (tree.forward p) b m a (takes_port p d b m is l) (λ f. next _ _ tt (tree.forward p) m a a (takes_key (codes ";") d m a semi f) (λ f. done (tree.forward p) a a refl f))

takes_more_ports : (ps : List ℕ) (d : ℕ) (b a : List Placed) → grammar.more_ports ps d b a → goes_comma (bare a) ≡ false → Fine b → TakesMany goes_comma next_port ps b a
unfolding next_port
takes_more_ports [] d b a is stop l = many_none goes_comma next_port b a is l stop
takes_more_ports (p ∷ ps) d b a (x, comma, (y, first, others)) stop l =
    many_one goes_comma next_port p ps b y a (begins (codes ",") (codes ",") true d b x comma refl)
    (steps_key (codes ",") _ p d b x y comma l (λ f. takes_port p d x y first f))
    (λ f. takes_more_ports ps d y a others stop f)

pub port_is_number : (p d : ℕ) (b a : List Placed) → grammar.port p d b a → begins_number (bare b) ≡ true
port_is_number p d b a (low, high, is) = begins_as_number p d b a is

semicolon_is_no_number : (d : ℕ) (b a : List Placed) → grammar.key (codes ";") d b a → Fine b → begins_number (bare b) ≡ false
unfolding is_number are_digits have_value
semicolon_is_no_number d b a is l = key_is_no_number (codes ";") d b a is l refl

abbrev some_ports : Reader (List ℕ)
some_ports ws = then' (port ws) (λ first ws. ports_from first ws)

takes_ports : (ps : List ℕ) (d : ℕ) (b m a : List Placed) → grammar.ports ps d b m → grammar.key (codes ";") d m a → Fine b → Takes ports ps b m
unfolding ports
takes_ports [] d b m a is semi l =
    if_not begins_number some_ports (λ ws. Some ([], ws)) [] b m (semicolon_is_no_number d b a (subst (λ x. grammar.key (codes ";") d x a) (sym is) semi) l) (done [] b m is l)
takes_ports (p ∷ ps) d b m a (x, first, others) semi l =
    if_so begins_number some_ports (λ ws. Some ([], ws)) (p ∷ ps) b m (port_is_number p d b x first)
    (next _ _ p (p ∷ ps) b x m (takes_port p d b x first l) (λ f. takes_added goes_comma next_port p ps x m (takes_more_ports ps d x m others (begins (codes ";") (codes ",") false d m a semi refl) f)))

takes_fork : (ps : List ℕ) (d : ℕ) (b a : List Placed) → (grammar.ports ps ⨾ grammar.key (codes ";")) d b a → Fine b → Takes fork_rest (tree.fork ps) b a
unfolding fork_rest
takes_fork ps d b a (m, is, semi) l =
    next _ _ ps (tree.fork ps) b m a (takes_ports ps d b m a is semi l) (λ f. next _ _ tt (tree.fork ps) m a a (takes_key (codes ";") d m a semi f) (λ f. done (tree.fork ps) a a refl f))

takes_no_op : (d : ℕ) (b a : List Placed) → grammar.key (codes ";") d b a → Fine b → Takes no_op_rest tree.no_op b a
unfolding no_op_rest
takes_no_op d b a semi l = next _ _ tt tree.no_op b a a (takes_key (codes ";") d b a semi l) (λ f. done tree.no_op a a refl f)

takes_statement : (v : grammar.Version) (i : InstrTree) (d room : ℕ) (b a : List Placed) → grammar.statement v i d b a → d + room ≡ 64 → Fine b → Begun (version_of v) room i b a
unfolding head_ahead way_ahead
takes_statement v (tree.allocate t) d room b a (m, is, others) h l = by_head (codes "allocate") head.Allocate _ room _ d b m a is (λ k. refl) refl refl l (λ f. takes_allocate t d m a others f)
takes_statement v (tree.deallocate t) d room b a (m, is, others) h l = by_head (codes "deallocate") head.Deallocate _ room _ d b m a is (λ k. refl) refl refl l (λ f. takes_deallocate t d m a others f)
takes_statement v (tree.assign t e) d room b a (m, is, others) h l = by_head (codes "set") head.Set _ room _ d b m a is (λ k. refl) refl refl l (λ f. takes_assign t e room d m a others h f)
takes_statement v (tree.assign_any t) d room b a (m, is, others) h l = by_head (codes "set") head.Set _ room _ d b m a is (λ k. refl) refl refl l (λ f. takes_any t room d m a others f)
takes_statement grammar.old (tree.create_tag n x) d room b a is h l = absurd is
takes_statement grammar.new (tree.create_tag n x) d room b a (m, is, others) h l = by_head (codes "tag") head.Tag New room _ d b m a is (λ k. refl) refl refl l (λ f. takes_tag New n x d m a others f)
takes_statement grammar.old (tree.set_tag n x) d room b a (m, is, others) h l = by_head (codes "tag") head.Tag Old room _ d b m a is (λ k. refl) refl refl l (λ f. takes_tag Old n x d m a others f)
takes_statement grammar.new (tree.set_tag n x) d room b a (m, is, others) h l = by_head (codes "retag") head.Retag New room _ d b m a is (λ k. refl) refl refl l (λ f. takes_retag n x d m a others f)
takes_statement v (tree.destroy_tag n) d room b a (m, is, others) h l = by_head (codes "untag") head.Untag _ room _ d b m a is (λ k. refl) refl refl l (λ f. takes_untag n d m a others f)
takes_statement v (tree.constrain c) d room b a (m, is, others) h l = by_head (codes "constrain") head.Constrain _ room _ d b m a is (λ k. refl) refl refl l (λ f. takes_constrain c room d m a others h f)
takes_statement v (tree.fail t) d room b a (m, is, others) h l = by_head (codes "fail") head.Fail _ room _ d b m a is (λ k. refl) refl refl l (λ f. takes_fail t d m a others f)
takes_statement v (tree.forward p) d room b a (m, is, others) h l = by_head (codes "forward") head.Forward _ room _ d b m a is (λ k. refl) refl refl l (λ f. takes_forward p d m a others f)
takes_statement v (tree.fork ps) d room b a (m, is, others) h l = by_head (codes "fork") head.Fork _ room _ d b m a is (λ k. refl) refl refl l (λ f. takes_fork ps d m a others f)
takes_statement v tree.no_op d room b a (m, is, others) h l = by_head (codes "noop") head.NoOp _ room _ d b m a is (λ k. refl) refl refl l (λ f. takes_no_op d m a others f)
takes_statement v (tree.branch c first other) d room b a is h l = absurd is
takes_statement v (tree.each var pattern code) d room b a is h l = absurd is
takes_statement v (tree.block code) d room b a is h l = absurd is

-- instructions as a list
pub record Code (v : Version) (code : CodeTree) (room : ℕ) (b a : List Placed) : Type 0 where
  pub is : List InstrTree
  pub are : code_of is ≡ code
  pub takes : TakesMany goes_instr (instr v room) is b a

block_stops : {v : grammar.Version} {code : CodeTree} (d : ℕ) (b a : List Placed) → IsBlock v code d b a → Stops (bare b)
block_stops d b a (braces inside closing open' is close) = stops_at (codes "{") (suc d) b inside open' refl refl refl refl

takes_braces : (v : Version) (code : CodeTree) (d room : ℕ) (b inside closing a : List Placed) → grammar.key (codes "{") (suc d) b inside
    → ((r : ℕ) → suc d + r ≡ 64 → Fine inside → Code v code r inside closing) → grammar.key (codes "}") d closing a → d + room ≡ 64 → Fine b → Steps (blocks v room) code b a
takes_braces v code d zero b inside closing a open' within close h l = absurd (omega (arith, key_depth (codes "{") (suc d) b inside open' l))
takes_braces v code d (suc r) b inside closing a open' within close h l =
    let opened : Takes (key (codes "{")) tt b inside = takes_key (codes "{") (suc d) b inside open' l in
    let found : Code v code r inside closing = within r (omega arith) opened.fine in
    subst (λ c. Steps (blocks v (suc r)) c b a) found.are
    (record {
      takes = as_read (blocks v (suc r)) _ (code_of found.is) b a (blocks_suc v r (bare b))
          (next (key (codes "{")) (λ _ ws. then' (instrs v r ws) (λ is ws. then' (key (codes "}") ws) (λ _ ws. Some (code_of is, ws)))) tt (code_of found.is) b inside a opened (λ f.
          next (instrs v r) (λ is ws. then' (key (codes "}") ws) (λ _ ws. Some (code_of is, ws))) found.is (code_of found.is) inside closing a (takes_all goes_instr (instr v r) found.is inside closing found.takes) (λ f.
          next (key (codes "}")) (λ _ ws. Some (code_of found.is, ws)) tt (code_of found.is) closing a a (takes_key (codes "}") d closing a close f) (λ f. done (code_of found.is) a a refl f))));
      less = omega (arith, key_less (codes "{") (suc d) b inside open', found.takes.shorter, key_less (codes "}") d closing a close);
    })

takes_block_here : (v : Version) (code : CodeTree) (d room : ℕ) (b m a : List Placed) → grammar.key (codes "{") (suc d) b m → Steps (blocks v room) code b a → Begun v room (tree.block code) b a
unfolding block_here
takes_block_here v code d room b m a open' f = record {
  goes = ap not (begins (codes "{") (codes "}") false (suc d) b m open' refl);
  steps = record {
    takes = takes_instr_by v room (tree.block code) b a
        (if_so (begins_with (codes "{")) (block_here v room) (λ ws. known (head_ahead ws) (λ h. then' (skip ws) (λ _ ws. rest_is v room h ws))) (tree.block code) b a (begins (codes "{") (codes "{") true (suc d) b m open' refl)
        (next (blocks v room) (λ code ws. Some (tree.block code, ws)) code (tree.block code) b a a f.takes (λ f. done (tree.block code) a a refl f)));
    less = f.less;
  };
}

takes_if : (v : Version) (c : CondTree) (first other : CodeTree) (d room : ℕ) (b m at' else' no' a : List Placed) → grammar.key (codes "if") d b m
    → (Fine m → Takes (cond room) c m at') → (Fine at' → Takes (blocks v room) first at' else') → grammar.key (codes "else") d else' no' → (Fine no' → Takes (blocks v room) other no' a)
    → Fine b → Begun v room (tree.branch c first other) b a
unfolding head_ahead way_ahead if_rest
takes_if v c first other d room b m at' else' no' a is test yeses other' nos l =
    by_head (codes "if") head.If v room (tree.branch c first other) d b m a is (λ k. refl) refl refl l (λ f.
    next (cond room) _ c (tree.branch c first other) m at' a (test f) (λ f.
    next (blocks v room) _ first (tree.branch c first other) at' else' a (yeses f) (λ f.
    next (key (codes "else")) _ tt (tree.branch c first other) else' no' a (takes_key (codes "else") d else' no' other' f) (λ f.
    next (blocks v room) _ other (tree.branch c first other) no' a a (nos f) (λ f. done (tree.branch c first other) a a refl f)))))

takes_for : (v : Version) (var pattern : List ℕ) (code : CodeTree) (d room : ℕ) (b m a : List Placed) → (grammar.key (codes "for") ⨾ grammar.name var ⨾ grammar.key (codes "in") ⨾ grammar.text pattern) d b m
    → (Fine m → Takes (blocks v room) code m a) → Fine b → Begun v room (tree.each var pattern code) b a
unfolding head_ahead way_ahead for_rest
takes_for v var pattern code d room b m a (m1, is, (m2, nm, (m3, word, tx))) inside l =
    by_head (codes "for") head.For v room (tree.each var pattern code) d b m1 a is (λ k. refl) refl refl l (λ f.
    next name _ var (tree.each var pattern code) m1 m2 a (takes_name var d m1 m2 nm f) (λ f.
    next (key (codes "in")) _ tt (tree.each var pattern code) m2 m3 a (takes_key (codes "in") d m2 m3 word f) (λ f.
    next text _ pattern (tree.each var pattern code) m3 m a (takes_text pattern d m3 m tx f) (λ f.
    next (blocks v room) _ code (tree.each var pattern code) m a a (inside f) (λ f. done (tree.each var pattern code) a a refl f)))))

mutual
  takes_instr : {v : grammar.Version} {i : InstrTree} (d room : ℕ) (b a : List Placed) → IsInstr v i d b a → d + room ≡ 64 → Fine b → Begun (version_of v) room i b a
  takes_instr d room b a (plain {v} {i} is) h l = takes_statement v i d room b a is h l
  takes_instr d room b a (branch {v} {c} {first} {other} at' else' no' (m, is, test) yeses other' nos) h l =
      takes_if (version_of v) c first other d room b m at' else' no' a is (λ f. takes_cond d room m at' test (block_stops d at' else' yeses) h f)
      (λ f. (takes_block d room at' else' yeses h f).takes) other' (λ f. (takes_block d room no' a nos h f).takes) l
  takes_instr d room b a (each {v} {var} {pattern} {body} m is inside) h l =
      takes_for (version_of v) var pattern body d room b m a is (λ f. (takes_block d room m a inside h f).takes) l
  takes_instr d room b a (block is) h l = takes_inner d room b a is h l

  takes_inner : {v : grammar.Version} {code : CodeTree} (d room : ℕ) (b a : List Placed) → IsBlock v code d b a → d + room ≡ 64 → Fine b → Begun (version_of v) room (tree.block code) b a
  takes_inner d room b a (braces {v} {code} inside closing open' is close) h l =
      takes_block_here (version_of v) code d room b inside a open'
      (takes_braces (version_of v) code d room b inside closing a open' (λ r k f. takes_code (suc d) r inside closing is (ap not (begins (codes "}") (codes "}") true d closing a close refl)) k f) close h l)

  pub takes_block : {v : grammar.Version} {code : CodeTree} (d room : ℕ) (b a : List Placed) → IsBlock v code d b a → d + room ≡ 64 → Fine b → Steps (blocks (version_of v) room) code b a
  takes_block d room b a (braces {v} {code} inside closing open' is close) h l =
      takes_braces (version_of v) code d room b inside closing a open' (λ r k f. takes_code (suc d) r inside closing is (ap not (begins (codes "}") (codes "}") true d closing a close refl)) k f) close h l

  takes_code : {v : grammar.Version} {code : CodeTree} (d room : ℕ) (b a : List Placed) → IsCode v code d b a → goes_instr (bare a) ≡ false → d + room ≡ 64 → Fine b → Code (version_of v) code room b a
  takes_code d room b a (no_instr {v} is) stop h l = record { is = []; are = refl; takes = many_none goes_instr (instr (version_of v) room) b a is l stop }
  takes_code d room b a (instr_first {v} {i} {code} m is others) stop h l =
      let one : Begun (version_of v) room i b m = takes_instr d room b m is h l in
      let rest : Code (version_of v) code room m a = takes_code d room m a others stop h one.steps.takes.fine in
      record {
        is = i ∷ rest.is;
        are = ap (code_and i) rest.are;
        takes = many_one goes_instr (instr (version_of v) room) i rest.is b m a one.goes one.steps (λ f. rest.takes);
      }
