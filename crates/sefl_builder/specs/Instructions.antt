-- Instructions and blocks.
use Rattle.std.specs.Prelude.{ℕ, zero, suc, Bool, not, List, [], ◌∷◌, Option, None, Some, codes, if◌then◌else◌}
use Rattle.sefl_syntax.specs.declared.reference.Addr.{Addr}
use Rattle.sefl_syntax.specs.declared.reference.Target.{Target}
use Rattle.sefl_syntax.specs.Trees.{InstrTree, CodeTree, allocate, deallocate, assign, assign_any, create_tag, set_tag, destroy_tag, constrain, fail, branch, each, forward, fork, block, no_op}
use Rattle.sefl_syntax.specs.Views.{code_of}
use Rattle.sefl_grammar.specs.Word.{Word}
use Rattle.sefl_builder.specs.Reading.{Reader, then', known, all, added, begins_with, begins_number}
use Rattle.sefl_builder.specs.Leaves.{key, skip, name, port, text}
use Rattle.sefl_builder.specs.Terms.{addr, expr, target}
use Rattle.sefl_builder.specs.Conditions.{cond, goes_comma, goes_expr}
use Rattle.sefl_builder.specs.declared.version.Version.{Version}
use Rattle.sefl_builder.specs.declared.version.Version.TheVariants.{Old, New}
use Rattle.sefl_builder.specs.declared.head.Head.{Head}
use Rattle.sefl_builder.specs.declared.head.Head.TheVariants as head

-- the word that comes, of those that tell where a packet goes on
unfoldable pub way_ahead : List Word → Option Head
way_ahead ws =
    if begins_with (codes "if") ws then Some head.If
    else (if begins_with (codes "for") ws then Some head.For
    else (if begins_with (codes "forward") ws then Some head.Forward
    else (if begins_with (codes "fork") ws then Some head.Fork
    else (if begins_with (codes "fail") ws then Some head.Fail
    else None))))

-- the word that comes, of those that begin an instruction
unfoldable pub head_ahead : List Word → Option Head
head_ahead ws =
    if begins_with (codes "allocate") ws then Some head.Allocate
    else (if begins_with (codes "deallocate") ws then Some head.Deallocate
    else (if begins_with (codes "set") ws then Some head.Set
    else (if begins_with (codes "tag") ws then Some head.Tag
    else (if begins_with (codes "retag") ws then Some head.Retag
    else (if begins_with (codes "untag") ws then Some head.Untag
    else (if begins_with (codes "constrain") ws then Some head.Constrain
    else (if begins_with (codes "noop") ws then Some head.NoOp
    else way_ahead ws)))))))

-- a target and its semicolon
unfoldable pub target_line : Reader Target
target_line ws = then' (target ws) (λ t ws. then' (key (codes ";") ws) (λ _ ws. Some (t, ws)))

unfoldable pub allocate_rest : Reader InstrTree
allocate_rest ws = then' (target_line ws) (λ t ws. Some (allocate t, ws))

unfoldable pub deallocate_rest : Reader InstrTree
deallocate_rest ws = then' (target_line ws) (λ t ws. Some (deallocate t, ws))

-- an unknown value, behind the equals sign
unfoldable pub any_rest : Target → Reader InstrTree
any_rest t ws = then' (key (codes "any") ws) (λ _ ws. then' (key (codes ";") ws) (λ _ ws. Some (assign_any t, ws)))

unfoldable pub assign_rest : ℕ → Target → Reader InstrTree
assign_rest room t ws = then' (expr room ws) (λ e ws. then' (key (codes ";") ws) (λ _ ws. Some (assign t e, ws)))

unfoldable pub set_rest : ℕ → Reader InstrTree
set_rest room ws =
    then' (target ws) (λ t ws. then' (key (codes "=") ws) (λ _ ws.
    if goes_expr ws then assign_rest room t ws else any_rest t ws))

-- a tag and its address
unfoldable pub tag_line : Reader (List ℕ × Addr)
tag_line ws =
    then' (name ws) (λ n ws. then' (key (codes "=") ws) (λ _ ws. then' (addr ws) (λ a ws. then' (key (codes ";") ws) (λ _ ws. Some ((n, a), ws)))))

-- the first version has no other way to set a tag
abbrev pub tag_of : Version → List ℕ → Addr → InstrTree
tag_of Old n a = set_tag n a
tag_of New n a = create_tag n a

unfoldable pub tag_rest : Version → Reader InstrTree
tag_rest v ws = then' (tag_line ws) (λ t ws. Some (tag_of v t.0 t.1, ws))

unfoldable pub retag_rest : Version → Reader InstrTree
retag_rest Old ws = None
retag_rest New ws = then' (tag_line ws) (λ t ws. Some (set_tag t.0 t.1, ws))

unfoldable pub untag_rest : Reader InstrTree
untag_rest ws = then' (name ws) (λ n ws. then' (key (codes ";") ws) (λ _ ws. Some (destroy_tag n, ws)))

unfoldable pub constrain_rest : ℕ → Reader InstrTree
constrain_rest room ws = then' (cond room ws) (λ c ws. then' (key (codes ";") ws) (λ _ ws. Some (constrain c, ws)))

unfoldable pub fail_rest : Reader InstrTree
fail_rest ws = then' (text ws) (λ t ws. then' (key (codes ";") ws) (λ _ ws. Some (fail t, ws)))

unfoldable pub forward_rest : Reader InstrTree
forward_rest ws = then' (port ws) (λ p ws. then' (key (codes ";") ws) (λ _ ws. Some (forward p, ws)))

unfoldable pub next_port : Reader ℕ
next_port ws = then' (key (codes ",") ws) (λ _ ws. port ws)

-- the port that is known, and those behind commas
abbrev pub ports_from : ℕ → Reader (List ℕ)
ports_from first ws = added (first ∷ []) (all goes_comma next_port ws)

unfoldable pub ports : Reader (List ℕ)
ports ws = if begins_number ws then then' (port ws) (λ first ws. ports_from first ws) else Some ([], ws)

unfoldable pub fork_rest : Reader InstrTree
fork_rest ws = then' (ports ws) (λ ps ws. then' (key (codes ";") ws) (λ _ ws. Some (fork ps, ws)))

unfoldable pub no_op_rest : Reader InstrTree
no_op_rest ws = then' (key (codes ";") ws) (λ _ ws. Some (no_op, ws))

-- what follows the first word of an instruction that has no block
abbrev pub statement_rest : Version → ℕ → Head → Reader InstrTree
statement_rest v room head.Allocate ws = allocate_rest ws
statement_rest v room head.Deallocate ws = deallocate_rest ws
statement_rest v room head.Set ws = set_rest room ws
statement_rest v room head.Tag ws = tag_rest v ws
statement_rest v room head.Retag ws = retag_rest v ws
statement_rest v room head.Untag ws = untag_rest ws
statement_rest v room head.Constrain ws = constrain_rest room ws
statement_rest v room head.Fail ws = fail_rest ws
statement_rest v room head.If ws = None
statement_rest v room head.For ws = None
statement_rest v room head.Forward ws = forward_rest ws
statement_rest v room head.Fork ws = fork_rest ws
statement_rest v room head.NoOp ws = no_op_rest ws

abbrev pub if_by : Reader CodeTree → ℕ → Reader InstrTree
if_by block' room ws =
    then' (cond room ws) (λ c ws. then' (block' ws) (λ first ws. then' (key (codes "else") ws) (λ _ ws. then' (block' ws) (λ other ws. Some (branch c first other, ws)))))

abbrev pub for_by : Reader CodeTree → Reader InstrTree
for_by block' ws =
    then' (name ws) (λ var ws. then' (key (codes "in") ws) (λ _ ws. then' (text ws) (λ pattern ws. then' (block' ws) (λ code ws. Some (each var pattern code, ws)))))

abbrev pub block_by : Reader CodeTree → Reader InstrTree
block_by block' ws = then' (block' ws) (λ code ws. Some (block code, ws))

-- what follows the first word of an instruction
abbrev pub rest_by : Version → Reader CodeTree → ℕ → Head → Reader InstrTree
rest_by v block' room head.If ws = if_by block' room ws
rest_by v block' room head.For ws = for_by block' ws
rest_by v block' room h ws = statement_rest v room h ws

abbrev pub instr_by : Version → Reader CodeTree → ℕ → Reader InstrTree
instr_by v block' room ws =
    if begins_with (codes "{") ws then block_by block' ws
    else known (head_ahead ws) (λ h. then' (skip ws) (λ _ ws. rest_by v block' room h ws))

abbrev pub goes_instr : List Word → Bool
goes_instr ws = not (begins_with (codes "}") ws)

-- a block, where `room` more constructs may be open
unfoldable pub blocks : Version → ℕ → Reader CodeTree
blocks v zero ws = None
blocks v (suc room) ws =
    then' (key (codes "{") ws) (λ _ ws. then' (all goes_instr (instr_by v (blocks v room) room) ws) (λ is ws. then' (key (codes "}") ws) (λ _ ws. Some (code_of is, ws))))

unfoldable pub if_rest : Version → ℕ → Reader InstrTree
if_rest v room ws = if_by (blocks v room) room ws

unfoldable pub for_rest : Version → ℕ → Reader InstrTree
for_rest v room ws = for_by (blocks v room) ws

unfoldable pub block_here : Version → ℕ → Reader InstrTree
block_here v room ws = block_by (blocks v room) ws

unfoldable pub instr : Version → ℕ → Reader InstrTree
instr v room ws = instr_by v (blocks v room) room ws

abbrev pub instrs : Version → ℕ → Reader (List InstrTree)
instrs v room ws = all goes_instr (instr v room) ws
