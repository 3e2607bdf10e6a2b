-- Nodes, links, injections, questions and jobs.
use Rattle.std.specs.Prelude.{ℕ, Bool, ◌||◌, List, [], ◌∷◌, Option, None, Some, codes, if◌then◌else◌}
use Rattle.sefl_syntax.specs.declared.reference.Addr.{Addr}
use Rattle.sefl_syntax.specs.declared.reference.Target.{Target}
use Rattle.sefl_syntax.specs.declared.net.Side.{Side}
use Rattle.sefl_syntax.specs.declared.net.Side.TheVariants.{Inward, Outward}
use Rattle.sefl_syntax.specs.declared.net.Style.{Style}
use Rattle.sefl_syntax.specs.declared.net.Style.TheVariants.{Chain, Grouped, Egress}
use Rattle.sefl_syntax.specs.declared.net.TableKind.{TableKind}
use Rattle.sefl_syntax.specs.declared.net.TableKind.TheVariants.{Mac, Fib}
use Rattle.sefl_syntax.specs.declared.net.Link.{Link}
use Rattle.sefl_syntax.specs.declared.job.RawField.{RawField}
use Rattle.sefl_syntax.specs.declared.job.RawPlace.{RawPlace}
use Rattle.sefl_syntax.specs.Trees as tree
use Rattle.sefl_syntax.specs.Trees.{CondTree, always, PortTree, NodeTree, BodyTree, DeclTree, NetTree, InjectionTree, AskTree, JobTree}
use Rattle.sefl_grammar.specs.Word.{Word}
use Rattle.sefl_builder.specs.Reading.{Found, Reader, then', all, begins_with, begins_number}
use Rattle.sefl_builder.specs.Leaves.{key, name, number, port, text, word}
use Rattle.sefl_builder.specs.Terms.{target}
use Rattle.sefl_builder.specs.Conditions.{cond}
use Rattle.sefl_builder.specs.Instructions.{blocks, tag_line}
use Rattle.sefl_builder.specs.declared.version.Version.{Version}
use Rattle.sefl_builder.specs.declared.version.Version.TheVariants.{Old, New}

unfoldable pub side : Reader Side
side ws =
    if begins_with (codes "in") ws then word (codes "in") Inward ws
    else word (codes "out") Outward ws

-- a node and a port of it
unfoldable pub spot : Reader (List ℕ × ℕ)
spot ws = then' (name ws) (λ n ws. then' (key (codes ".") ws) (λ _ ws. then' (port ws) (λ p ws. Some ((n, p), ws))))

unfoldable pub port_code : Version → Reader PortTree
port_code v ws =
    then' (side ws) (λ s ws. then' (port ws) (λ p ws. then' (blocks v 64 ws) (λ code ws. Some (record { side = s; port = p; code = code }, ws))))

abbrev pub goes_port_code : List Word → Bool
goes_port_code ws = begins_with (codes "in") ws || begins_with (codes "out") ws

abbrev pub port_codes : Version → Reader (List PortTree)
port_codes v ws = all goes_port_code (port_code v) ws

unfoldable pub node : Version → Reader NodeTree
node v ws =
    then' (port ws) (λ ins ws. then' (key (codes "->") ws) (λ _ ws. then' (port ws) (λ outs ws. then' (key (codes "{") ws) (λ _ ws.
    then' (port_codes v ws) (λ cs ws. then' (key (codes "}") ws) (λ _ ws. Some (record { ins = ins; outs = outs; codes = cs }, ws)))))))

unfoldable pub table_kind : Reader TableKind
table_kind ws =
    if begins_with (codes "mac") ws then word (codes "mac") Mac ws
    else word (codes "fib") Fib ws

unfoldable pub style : Reader Style
style ws =
    if begins_with (codes "chain") ws then word (codes "chain") Chain ws
    else (if begins_with (codes "grouped") ws then word (codes "grouped") Grouped ws
    else word (codes "egress") Egress ws)

unfoldable pub table : Reader BodyTree
table ws =
    then' (key (codes "=") ws) (λ _ ws. then' (table_kind ws) (λ k ws. then' (text ws) (λ file ws.
    then' (style ws) (λ s ws. then' (key (codes ";") ws) (λ _ ws. Some (tree.table k file s, ws))))))

unfoldable pub body : Version → Reader BodyTree
body v ws = if begins_number ws then then' (node v ws) (λ n ws. Some (tree.code n, ws)) else table ws

unfoldable pub decl : Version → Reader DeclTree
decl v ws =
    then' (key (codes "node") ws) (λ _ ws. then' (name ws) (λ n ws. then' (body v ws) (λ b ws. Some (record { name = n; body = b }, ws))))

abbrev pub goes_decl : List Word → Bool
goes_decl ws = begins_with (codes "node") ws

abbrev pub nodes : Version → Reader (List DeclTree)
nodes v ws = all goes_decl (decl v) ws

unfoldable pub link : Reader Link
link ws =
    then' (key (codes "link") ws) (λ _ ws. then' (spot ws) (λ a ws. then' (key (codes "->") ws) (λ _ ws. then' (spot ws) (λ b ws.
    then' (key (codes ";") ws) (λ _ ws. Some (record { from = a.0; from_port = a.1; to = b.0; to_port = b.1 }, ws))))))

abbrev pub goes_link : List Word → Bool
goes_link ws = begins_with (codes "link") ws

abbrev pub links : Reader (List Link)
links ws = all goes_link link ws

unfoldable pub tag : Reader (List ℕ × Addr)
tag ws = then' (key (codes "tag") ws) (λ _ ws. tag_line ws)

abbrev pub goes_tag : List Word → Bool
goes_tag ws = begins_with (codes "tag") ws

abbrev pub tags : Reader (List (List ℕ × Addr))
tags ws = all goes_tag tag ws

unfoldable pub field_value : Reader (Option ℕ)
field_value ws =
    if begins_with (codes "=") ws then then' (key (codes "=") ws) (λ _ ws. then' (number ws) (λ n ws. Some (Some n, ws)))
    else Some (None, ws)

unfoldable pub field : Reader RawField
field ws =
    then' (key (codes "field") ws) (λ _ ws. then' (target ws) (λ t ws. then' (field_value ws) (λ n ws.
    then' (key (codes ";") ws) (λ _ ws. Some (record { target = t; value = n }, ws)))))

abbrev pub goes_field : List Word → Bool
goes_field ws = begins_with (codes "field") ws

abbrev pub fields : Reader (List RawField)
fields ws = all goes_field field ws

unfoldable pub where_test : Reader CondTree
where_test ws = then' (key (codes "where") ws) (λ _ ws. then' (cond 64 ws) (λ c ws. then' (key (codes ";") ws) (λ _ ws. Some (c, ws))))

abbrev pub goes_test : List Word → Bool
goes_test ws = begins_with (codes "where") ws

abbrev pub tests : Reader (List CondTree)
tests ws = all goes_test where_test ws

unfoldable pub injection : Reader InjectionTree
injection ws =
    then' (key (codes "inject") ws) (λ _ ws. then' (spot ws) (λ at' ws. then' (key (codes "{") ws) (λ _ ws.
    then' (tags ws) (λ ts ws. then' (fields ws) (λ fs ws. then' (tests ws) (λ cs ws.
    then' (key (codes "}") ws) (λ _ ws. Some (record { node = at'.0; port = at'.1; tags = ts; fields = fs; tests = cs }, ws))))))))

unfoldable pub place : Reader RawPlace
place ws = then' (side ws) (λ s ws. then' (spot ws) (λ at' ws. Some (record { side = s; node = at'.0; port = at'.1 }, ws)))

unfoldable pub with_test : Reader CondTree
with_test ws = if begins_with (codes "with") ws then then' (key (codes "with") ws) (λ _ ws. cond 64 ws) else Some (always, ws)

unfoldable pub reach : Reader AskTree
reach ws = then' (key (codes "reach") ws) (λ _ ws. then' (place ws) (λ p ws. then' (with_test ws) (λ c ws. Some (tree.reach p c, ws))))

unfoldable pub target_at : Reader (Target × RawPlace)
target_at ws = then' (target ws) (λ t ws. then' (key (codes "at") ws) (λ _ ws. then' (place ws) (λ p ws. Some ((t, p), ws))))

unfoldable pub invariant : Reader AskTree
invariant ws = then' (key (codes "invariant") ws) (λ _ ws. then' (target_at ws) (λ a ws. Some (tree.invariant a.0 a.1, ws)))

unfoldable pub visible : Reader AskTree
visible ws = then' (key (codes "visible") ws) (λ _ ws. then' (target_at ws) (λ a ws. Some (tree.visible a.0 a.1, ws)))

unfoldable pub question : Reader AskTree
question ws =
    if begins_with (codes "reach") ws then reach ws
    else (if begins_with (codes "invariant") ws then invariant ws
    else visible ws)

unfoldable pub ask : Reader AskTree
ask ws = then' (key (codes "ask") ws) (λ _ ws. then' (question ws) (λ q ws. then' (key (codes ";") ws) (λ _ ws. Some (q, ws))))

abbrev pub goes_ask : List Word → Bool
goes_ask ws = begins_with (codes "ask") ws

abbrev pub asks : Reader (List AskTree)
asks ws = all goes_ask ask ws

unfoldable pub version : Reader Version
version ws =
    if begins_with (codes "1") ws then word (codes "1") Old ws
    else word (codes "2") New ws

unfoldable pub heading : Reader Version
heading ws = then' (key (codes "symnet") ws) (λ _ ws. then' (version ws) (λ v ws. then' (key (codes ";") ws) (λ _ ws. Some (v, ws))))

unfoldable pub net : Version → Reader NetTree
net v ws = then' (nodes v ws) (λ ns ws. then' (links ws) (λ ls ws. Some (record { nodes = ns; links = ls }, ws)))

-- nothing is left behind it
abbrev pub finished : JobTree → List Word → Found JobTree
finished j [] = Some (j, [])
finished j (w ∷ ws) = None

unfoldable pub job : Reader JobTree
job ws =
    then' (heading ws) (λ v ws. then' (net v ws) (λ n ws. then' (injection ws) (λ i ws. then' (asks ws) (λ as' ws.
    finished (record { net = n; injection = i; asks = as' }) ws))))
