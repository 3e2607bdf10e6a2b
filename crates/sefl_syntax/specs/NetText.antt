-- The canonical texts of nodes and nets.
use Rattle.std.specs.Prelude.{ℕ, List, ◌++◌, codes, decimal}
use Rattle.std.specs.List.{flat_map}
use Rattle.sefl_syntax.specs.declared.net.Style.{Style}
use Rattle.sefl_syntax.specs.declared.net.TableKind.{TableKind}
use Rattle.sefl_syntax.specs.declared.net.Link.{Link}
use Rattle.sefl_syntax.specs.NetWords.{side_text, kind_text, style_text}
use Rattle.sefl_syntax.specs.CodeText.{code_text, quoted}
use Rattle.sefl_syntax.specs.Trees.{PortTree, NodeTree, BodyTree, code, table, DeclTree, NetTree}

-- the code of a port
unfoldable pub port_text : PortTree → List ℕ
port_text p = codes "  " ++ side_text p.side ++ codes " " ++ decimal p.port ++ codes " {\n" ++ code_text (codes "    ") p.code ++ codes "  }\n"

unfoldable pub node_heading : List ℕ → ℕ → ℕ → List ℕ
node_heading name ins outs = codes "node " ++ name ++ codes " " ++ decimal ins ++ codes " -> " ++ decimal outs ++ codes " {\n"

-- a node that is code
unfoldable pub node_text : List ℕ → NodeTree → List ℕ
node_text name n = node_heading name n.ins n.outs ++ flat_map port_text n.codes ++ codes "}\n"

-- a node that is a table
unfoldable pub table_text : List ℕ → TableKind → List ℕ → Style → List ℕ
table_text name kind file style =
    codes "node " ++ name ++ codes " = " ++ kind_text kind ++ codes " " ++ quoted file ++ codes " " ++ style_text style ++ codes ";\n"

abbrev pub body_text : List ℕ → BodyTree → List ℕ
body_text name (code n) = node_text name n
body_text name (table kind file style) = table_text name kind file style

abbrev pub decl_text : DeclTree → List ℕ
decl_text d = body_text d.name d.body

unfoldable pub link_text : Link → List ℕ
link_text l =
    codes "link " ++ l.from ++ codes "." ++ decimal l.from_port ++ codes " -> " ++ l.to ++ codes "." ++ decimal l.to_port ++ codes ";\n"

unfoldable pub net_text : NetTree → List ℕ
net_text n = flat_map decl_text n.nodes ++ flat_map link_text n.links
