-- The trees that the values of the program stand for.
use Rattle.std.specs.Prelude.{List, [], ◌∷◌, map}
use Rattle.sefl_syntax.specs.Trees as tree
use Rattle.sefl_syntax.specs.Trees.{ExprTree, SummandTrees, CondTree, CondTrees, InstrTree, CodeTree, PortTree, NodeTree, BodyTree, DeclTree, NetTree, InjectionTree, AskTree, JobTree}
use Rattle.sefl_syntax.specs.declared.expr.Sign.{Sign}
use Rattle.sefl_syntax.specs.declared.expr.Expr.{Expr, fold-Expr}
use Rattle.sefl_syntax.specs.declared.expr.Expr.TheOpen.{Expr-F}
use Rattle.sefl_syntax.specs.declared.cond.Cond.{Cond, fold-Cond}
use Rattle.sefl_syntax.specs.declared.cond.Cond.TheOpen.{Cond-F}
use Rattle.sefl_syntax.specs.declared.instr.Instr.{Instr, fold-Instr}
use Rattle.sefl_syntax.specs.declared.instr.Instr.TheOpen.{Instr-F}
use Rattle.sefl_syntax.specs.declared.net.PortCode.{PortCode}
use Rattle.sefl_syntax.specs.declared.net.RawNode.{RawNode}
use Rattle.sefl_syntax.specs.declared.net.Body.{Body}
use Rattle.sefl_syntax.specs.declared.net.Body.TheVariants.{Code, Table}
use Rattle.sefl_syntax.specs.declared.net.NodeDecl.{NodeDecl}
use Rattle.sefl_syntax.specs.declared.net.RawNet.{RawNet}
use Rattle.sefl_syntax.specs.declared.job.RawInjection.{RawInjection}
use Rattle.sefl_syntax.specs.declared.job.Ask.{Ask}
use Rattle.sefl_syntax.specs.declared.job.Ask.TheVariants.{Reach, Invariant, Visible}
use Rattle.sefl_syntax.specs.declared.job.Job.{Job}

abbrev pub summands_of : List (Sign × ExprTree) → SummandTrees
summands_of [] = tree.no_summands
summands_of (m ∷ ms) = tree.summand m.0 m.1 (summands_of ms)

abbrev pub conds_of : List CondTree → CondTrees
conds_of [] = tree.no_conds
conds_of (c ∷ cs) = tree.cond_and c (conds_of cs)

abbrev pub code_of : List InstrTree → CodeTree
code_of [] = tree.no_code
code_of (i ∷ is) = tree.instr_and i (code_of is)

-- one level, with each expression inside already seen as its tree
abbrev pub expr_step : Expr-F ExprTree → ExprTree
expr_step (Expr-F.Const n) = tree.constant n
expr_step (Expr-F.Read target) = tree.reading target
expr_step (Expr-F.Sum first rest) = tree.sum first.value (summands_of rest.items)

abbrev pub expr_tree : Expr → ExprTree
expr_tree = fold-Expr ExprTree expr_step

abbrev pub summand_trees : List (Sign × Expr) → SummandTrees
summand_trees ms = summands_of (map (λ m. (m.0, expr_tree m.1)) ms)

abbrev pub cond_step : Cond-F CondTree → CondTree
cond_step Cond-F.True = tree.always
cond_step (Cond-F.Compare rel left right) = tree.compare rel (expr_tree left) (expr_tree right)
cond_step (Cond-F.Member value ranges) = tree.member (expr_tree value) ranges
cond_step (Cond-F.And members) = tree.all_of (conds_of members.items)
cond_step (Cond-F.Or members) = tree.any_of (conds_of members.items)
cond_step (Cond-F.Not member) = tree.negation member.value

abbrev pub cond_tree : Cond → CondTree
cond_tree = fold-Cond CondTree cond_step

abbrev pub cond_trees : List Cond → CondTrees
cond_trees cs = conds_of (map cond_tree cs)

abbrev pub instr_step : Instr-F InstrTree → InstrTree
instr_step (Instr-F.Allocate target) = tree.allocate target
instr_step (Instr-F.Deallocate target) = tree.deallocate target
instr_step (Instr-F.Assign target value) = tree.assign target (expr_tree value)
instr_step (Instr-F.AssignAny target) = tree.assign_any target
instr_step (Instr-F.CreateTag name addr) = tree.create_tag name addr
instr_step (Instr-F.SetTag name addr) = tree.set_tag name addr
instr_step (Instr-F.DestroyTag name) = tree.destroy_tag name
instr_step (Instr-F.Constrain test) = tree.constrain (cond_tree test)
instr_step (Instr-F.Fail text) = tree.fail text
instr_step (Instr-F.If test first other) = tree.branch (cond_tree test) (code_of first.items) (code_of other.items)
instr_step (Instr-F.For var pattern body) = tree.each var pattern (code_of body.items)
instr_step (Instr-F.Forward port) = tree.forward port
instr_step (Instr-F.Fork ports) = tree.fork ports.items
instr_step (Instr-F.Block body) = tree.block (code_of body.items)
instr_step Instr-F.NoOp = tree.no_op

abbrev pub instr_tree : Instr → InstrTree
instr_tree = fold-Instr InstrTree instr_step

abbrev pub code_tree : List Instr → CodeTree
code_tree is = code_of (map instr_tree is)

abbrev pub port_tree : PortCode → PortTree
port_tree p = record { side = p.side; port = p.port; code = code_tree p.code.items }

abbrev pub node_tree : RawNode → NodeTree
node_tree n = record { ins = n.ins; outs = n.outs; codes = map port_tree n.codes.items }

abbrev pub body_tree : Body → BodyTree
body_tree (Code node) = tree.code (node_tree node)
body_tree (Table kind file style) = tree.table kind file style

abbrev pub decl_tree : NodeDecl → DeclTree
decl_tree d = record { name = d.name; body = body_tree d.body }

abbrev pub net_tree : RawNet → NetTree
net_tree n = record { nodes = map decl_tree n.nodes.items; links = n.links.items }

abbrev pub injection_tree : RawInjection → InjectionTree
injection_tree i =
    record { node = i.node; port = i.port; tags = i.tags.items; fields = i.fields.items; tests = map cond_tree i.tests.items }

abbrev pub ask_tree : Ask → AskTree
ask_tree (Reach place test) = tree.reach place (cond_tree test)
ask_tree (Invariant target place) = tree.invariant target place
ask_tree (Visible target place) = tree.visible target place

-- the tree of a job: two jobs with one tree are the same job
abbrev pub job_tree : Job → JobTree
job_tree j = record { net = net_tree j.net; injection = injection_tree j.injection; asks = map ask_tree j.asks.items }
