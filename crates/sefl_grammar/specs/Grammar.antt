-- The grammar of job texts: which words spell which part of a job.
use Rattle.std.specs.Prelude.{ℕ, zero, suc, ℤ, pos, negsuc, ◌≡◌, ◌<◌, ◌≤◌, ◌⊎◌, take, length, List, [], ◌∷◌, ◌++◌, Option, None, Some, codes}
use Rattle.sn_width.specs.declared.rel.Rel.{Rel}
use Rattle.sn_width.specs.declared.rel.Rel.TheVariants.{Eq, Ne, Lt, Le, Gt, Ge}
use Rattle.sefl_lex.specs.Words.{value_of}
use Rattle.sefl_lex.specs.declared.token.TokenKind.TheVariants as kind
use Rattle.sefl_syntax.specs.Trees.{ExprTree, constant, reading, sum, SummandTrees, no_summands, summand, CondTree, always, compare, member, all_of, any_of, negation, CondTrees, no_conds, cond_and, InstrTree, CodeTree, no_code, instr_and, PortTree, NodeTree, BodyTree, DeclTree, NetTree, InjectionTree, AskTree, JobTree}
use Rattle.sefl_syntax.specs.Trees as tree
use Rattle.sefl_syntax.specs.declared.reference.Scope.{Scope}
use Rattle.sefl_syntax.specs.declared.reference.Scope.TheVariants.{Global, Local}
use Rattle.sefl_syntax.specs.declared.reference.Addr.{Addr}
use Rattle.sefl_syntax.specs.declared.reference.Target.{Target}
use Rattle.sefl_syntax.specs.declared.reference.Target.TheVariants.{Header, Meta, Bound}
use Rattle.sefl_syntax.specs.declared.expr.Sign.{Sign}
use Rattle.sefl_syntax.specs.declared.expr.Sign.TheVariants.{Plus, Minus}
use Rattle.sefl_syntax.specs.declared.net.Side.{Side}
use Rattle.sefl_syntax.specs.declared.net.Side.TheVariants.{Inward, Outward}
use Rattle.sefl_syntax.specs.declared.net.Style.{Style}
use Rattle.sefl_syntax.specs.declared.net.Style.TheVariants.{Chain, Grouped, Egress}
use Rattle.sefl_syntax.specs.declared.net.TableKind.{TableKind}
use Rattle.sefl_syntax.specs.declared.net.TableKind.TheVariants.{Mac, Fib}
use Rattle.sefl_syntax.specs.declared.net.Link.{Link}
use Rattle.sefl_syntax.specs.declared.job.RawField.{RawField}
use Rattle.sefl_syntax.specs.declared.job.RawPlace.{RawPlace}
use Rattle.sefl_grammar.specs.Word.{Word, AreWords, Placed, bare}

-- With this many constructs open, the first words begin with a part of a job and go on with the second.
abbrev pub Spelling : Type 1
Spelling = ℕ → List Placed → List Placed → Type 0

infixr 60 ◌⨾◌
-- one part, then the other
abbrev pub ◌⨾◌ : Spelling → Spelling → Spelling
(first ⨾ second) depth before after = (between : List Placed) × first depth before between × second depth between after

-- no word
abbrev pub nothing : Spelling
nothing depth before after = before ≡ after

-- never
abbrev pub never : Spelling
never depth before after = ⊥

-- one word
abbrev pub one : (Word → Type 0) → Spelling
one is depth before after = (word : Word) × is word × (before ≡ record { word = word; depth = depth } ∷ after)

-- a sign or a word of the language
abbrev pub key : List ℕ → Spelling
key text = one (λ word. word.text ≡ text)

abbrev pub name : List ℕ → Spelling
name text = one (λ word. (word.kind ≡ kind.Name) × (word.text ≡ text))

abbrev pub number : ℕ → Spelling
number n = one (λ word. (word.kind ≡ kind.Number) × (value_of word.text ≡ n))

-- what stands between two quotes
abbrev pub text : List ℕ → Spelling
text body = one (λ word. (word.kind ≡ kind.Text) × (word.text ≡ codes "\"" ++ body ++ codes "\""))

-- a number in bounds
abbrev pub number_in : ℕ → ℕ → ℕ → Spelling
number_in least most n depth before after = (least ≤ n) × (n ≤ most) × number n depth before after

abbrev pub port : ℕ → Spelling
port = number_in 0 4294967295

abbrev pub offset : ℕ → Spelling
offset = number_in 0 1048576

abbrev pub width : ℕ → Spelling
width = number_in 1 128

-- an offset that is added, and one that is taken away
abbrev pub ahead : ℤ → Spelling
ahead place depth before after = (n : ℕ) × (place ≡ pos n) × offset n depth before after

abbrev pub minus : ℕ → ℤ
minus zero = pos zero
minus (suc n) = negsuc n

abbrev pub back : ℤ → Spelling
back place depth before after = (n : ℕ) × (place ≡ minus n) × (key (codes "-") ⨾ offset n) depth before after

-- addr = NAME ("+" | "-") OFFSET | ["-"] OFFSET
abbrev pub place_of : Option (List ℕ) → ℤ → Spelling
place_of None place = λ depth before after. ahead place depth before after ⊎ back place depth before after
place_of (Some tag) place = name tag ⨾ (λ depth before after. (key (codes "+") ⨾ ahead place) depth before after ⊎ back place depth before after)

abbrev pub addr : Addr → Spelling
addr a = place_of a.tag a.offset

abbrev pub scope : Scope → Spelling
scope Global = key (codes "global")
scope Local = key (codes "local")

-- target = "head" addr ":" WIDTH | ("global" | "local") NAME ":" WIDTH | "$" NAME ":" WIDTH
abbrev pub target : Target → Spelling
target (Header a w) = key (codes "head") ⨾ addr a ⨾ key (codes ":") ⨾ width w
target (Meta s n w) = scope s ⨾ name n ⨾ key (codes ":") ⨾ width w
target (Bound var w) = key (codes "$") ⨾ name var ⨾ key (codes ":") ⨾ width w

abbrev pub sign : Sign → Spelling
sign Plus = key (codes "+")
sign Minus = key (codes "-")

-- a sum of one member is that member
abbrev pub sum_of : ExprTree → SummandTrees → ExprTree
sum_of first no_summands = first
sum_of first (summand s e rest) = sum first (summand s e rest)

-- expr = operand {("+" | "-") operand}
-- operand = NUMBER | target | "(" expr ")"
mutual
  pub data IsOperand : ExprTree → ℕ → List Placed → List Placed → Type 0 where
    literal : {n depth : ℕ} {before after : List Placed} → number n depth before after → IsOperand (constant n) depth before after
    read : {t : Target} {depth : ℕ} {before after : List Placed} → target t depth before after → IsOperand (reading t) depth before after
    grouped : {e : ExprTree} {depth : ℕ} {before after : List Placed} (inside closing : List Placed) → key (codes "(") (suc depth) before inside → IsExpr e (suc depth) inside closing → key (codes ")") depth closing after → IsOperand e depth before after

  pub data IsExpr : ExprTree → ℕ → List Placed → List Placed → Type 0 where
    members : {first : ExprTree} {rest : SummandTrees} {depth : ℕ} {before after : List Placed} (next : List Placed) → IsOperand first depth before next → IsSummands rest depth next after → IsExpr (sum_of first rest) depth before after

  pub data IsSummands : SummandTrees → ℕ → List Placed → List Placed → Type 0 where
    none : {depth : ℕ} {before after : List Placed} → nothing depth before after → IsSummands no_summands depth before after
    more : {s : Sign} {e : ExprTree} {rest : SummandTrees} {depth : ℕ} {before after : List Placed} (first next : List Placed) → sign s depth before first → IsOperand e depth first next → IsSummands rest depth next after → IsSummands (summand s e rest) depth before after

abbrev pub rel : Rel → Spelling
rel Eq = key (codes "==")
rel Ne = key (codes "!=")
rel Lt = key (codes "<")
rel Le = key (codes "<=")
rel Gt = key (codes ">")
rel Ge = key (codes ">=")

-- range = NUMBER [".." NUMBER]
abbrev pub range : ℕ × ℕ → Spelling
range r depth before after = (number r.0 ⨾ key (codes "..") ⨾ number r.1) depth before after ⊎ ((r.1 ≡ r.0) × number r.0 depth before after)

-- ranges, each behind a comma
abbrev pub more_ranges : List (ℕ × ℕ) → Spelling
more_ranges [] = nothing
more_ranges (r ∷ rs) = key (codes ",") ⨾ range r ⨾ more_ranges rs

abbrev pub ranges : List (ℕ × ℕ) → Spelling
ranges [] = never
ranges (r ∷ rs) = range r ⨾ more_ranges rs

-- a chain of one member is that member
abbrev pub all_from : CondTree → CondTrees → CondTree
all_from first no_conds = first
all_from first (cond_and c rest) = all_of (cond_and first (cond_and c rest))

abbrev pub any_from : CondTree → CondTrees → CondTree
any_from first no_conds = first
any_from first (cond_and c rest) = any_of (cond_and first (cond_and c rest))

-- cond = conj {"or" conj}
-- conj = neg {"and" neg}
-- neg = "not" neg | "true" | "[" cond "]" | expr rel expr | expr "in" "{" range {"," range} "}"
mutual
  pub data IsNeg : CondTree → ℕ → List Placed → List Placed → Type 0 where
    opposite : {c : CondTree} {depth : ℕ} {before after : List Placed} (inside : List Placed) → key (codes "not") (suc depth) before inside → IsNeg c (suc depth) inside after → IsNeg (negation c) depth before after
    truth : {depth : ℕ} {before after : List Placed} → key (codes "true") depth before after → IsNeg always depth before after
    bracketed : {c : CondTree} {depth : ℕ} {before after : List Placed} (inside closing : List Placed) → key (codes "[") (suc depth) before inside → IsCond c (suc depth) inside closing → key (codes "]") depth closing after → IsNeg c depth before after
    comparison : {r : Rel} {left right : ExprTree} {depth : ℕ} {before after : List Placed} → (IsExpr left ⨾ rel r ⨾ IsExpr right) depth before after → IsNeg (compare r left right) depth before after
    membership : {value : ExprTree} {rs : List (ℕ × ℕ)} {depth : ℕ} {before after : List Placed} → (IsExpr value ⨾ key (codes "in") ⨾ key (codes "{") ⨾ ranges rs ⨾ key (codes "}")) depth before after → IsNeg (member value rs) depth before after

  pub data IsConj : CondTree → ℕ → List Placed → List Placed → Type 0 where
    all : {first : CondTree} {rest : CondTrees} {depth : ℕ} {before after : List Placed} (next : List Placed) → IsNeg first depth before next → AreNegs rest depth next after → IsConj (all_from first rest) depth before after

  pub data AreNegs : CondTrees → ℕ → List Placed → List Placed → Type 0 where
    no_neg : {depth : ℕ} {before after : List Placed} → nothing depth before after → AreNegs no_conds depth before after
    and_neg : {c : CondTree} {rest : CondTrees} {depth : ℕ} {before after : List Placed} (first next : List Placed) → key (codes "and") depth before first → IsNeg c depth first next → AreNegs rest depth next after → AreNegs (cond_and c rest) depth before after

  pub data IsCond : CondTree → ℕ → List Placed → List Placed → Type 0 where
    any : {first : CondTree} {rest : CondTrees} {depth : ℕ} {before after : List Placed} (next : List Placed) → IsConj first depth before next → AreConjs rest depth next after → IsCond (any_from first rest) depth before after

  pub data AreConjs : CondTrees → ℕ → List Placed → List Placed → Type 0 where
    no_conj : {depth : ℕ} {before after : List Placed} → nothing depth before after → AreConjs no_conds depth before after
    or_conj : {c : CondTree} {rest : CondTrees} {depth : ℕ} {before after : List Placed} (first next : List Placed) → key (codes "or") depth before first → IsConj c depth first next → AreConjs rest depth next after → AreConjs (cond_and c rest) depth before after

-- the two versions of the text
pub data Version : Type 0 where
  old : Version
  new : Version

abbrev pub version : Version → Spelling
version old = key (codes "1")
version new = key (codes "2")

abbrev pub equation : Spelling → Spelling → Spelling
equation left right = left ⨾ key (codes "=") ⨾ right ⨾ key (codes ";")

-- PORT {"," PORT}, or none
abbrev pub more_ports : List ℕ → Spelling
more_ports [] = nothing
more_ports (p ∷ ps) = key (codes ",") ⨾ port p ⨾ more_ports ps

abbrev pub ports : List ℕ → Spelling
ports [] = nothing
ports (p ∷ ps) = port p ⨾ more_ports ps

-- instructions without blocks: `tag` sets in the first version, and creates in the second; `retag` has no reading in the first
abbrev pub statement : Version → InstrTree → Spelling
statement v (tree.allocate t) = key (codes "allocate") ⨾ target t ⨾ key (codes ";")
statement v (tree.deallocate t) = key (codes "deallocate") ⨾ target t ⨾ key (codes ";")
statement v (tree.assign t e) = key (codes "set") ⨾ equation (target t) (IsExpr e)
statement v (tree.assign_any t) = key (codes "set") ⨾ equation (target t) (key (codes "any"))
statement old (tree.create_tag n a) = never
statement new (tree.create_tag n a) = key (codes "tag") ⨾ equation (name n) (addr a)
statement old (tree.set_tag n a) = key (codes "tag") ⨾ equation (name n) (addr a)
statement new (tree.set_tag n a) = key (codes "retag") ⨾ equation (name n) (addr a)
statement v (tree.destroy_tag n) = key (codes "untag") ⨾ name n ⨾ key (codes ";")
statement v (tree.constrain c) = key (codes "constrain") ⨾ IsCond c ⨾ key (codes ";")
statement v (tree.fail t) = key (codes "fail") ⨾ text t ⨾ key (codes ";")
statement v (tree.forward p) = key (codes "forward") ⨾ port p ⨾ key (codes ";")
statement v (tree.fork ps) = key (codes "fork") ⨾ ports ps ⨾ key (codes ";")
statement v tree.no_op = key (codes "noop") ⨾ key (codes ";")
statement v (tree.branch c first other) = never
statement v (tree.each var pattern body) = never
statement v (tree.block body) = never

-- block = "{" {instr} "}"
mutual
  pub data IsInstr : Version → InstrTree → ℕ → List Placed → List Placed → Type 0 where
    plain : {v : Version} {i : InstrTree} {depth : ℕ} {before after : List Placed} → statement v i depth before after → IsInstr v i depth before after
    branch : {v : Version} {c : CondTree} {first other : CodeTree} {depth : ℕ} {before after : List Placed} (yes else' no : List Placed) → (key (codes "if") ⨾ IsCond c) depth before yes → IsBlock v first depth yes else' → key (codes "else") depth else' no → IsBlock v other depth no after → IsInstr v (tree.branch c first other) depth before after
    each : {v : Version} {var pattern : List ℕ} {body : CodeTree} {depth : ℕ} {before after : List Placed} (next : List Placed) → (key (codes "for") ⨾ name var ⨾ key (codes "in") ⨾ text pattern) depth before next → IsBlock v body depth next after → IsInstr v (tree.each var pattern body) depth before after
    block : {v : Version} {body : CodeTree} {depth : ℕ} {before after : List Placed} → IsBlock v body depth before after → IsInstr v (tree.block body) depth before after

  pub data IsBlock : Version → CodeTree → ℕ → List Placed → List Placed → Type 0 where
    braces : {v : Version} {code : CodeTree} {depth : ℕ} {before after : List Placed} (inside closing : List Placed) → key (codes "{") (suc depth) before inside → IsCode v code (suc depth) inside closing → key (codes "}") depth closing after → IsBlock v code depth before after

  pub data IsCode : Version → CodeTree → ℕ → List Placed → List Placed → Type 0 where
    no_instr : {v : Version} {depth : ℕ} {before after : List Placed} → nothing depth before after → IsCode v no_code depth before after
    instr_first : {v : Version} {i : InstrTree} {code : CodeTree} {depth : ℕ} {before after : List Placed} (next : List Placed) → IsInstr v i depth before next → IsCode v code depth next after → IsCode v (instr_and i code) depth before after

abbrev pub side : Side → Spelling
side Inward = key (codes "in")
side Outward = key (codes "out")

-- code = ("in" | "out") PORT block
abbrev pub port_code : Version → PortTree → Spelling
port_code v p = side p.side ⨾ port p.port ⨾ IsBlock v p.code

abbrev pub port_codes : Version → List PortTree → Spelling
port_codes v [] = nothing
port_codes v (p ∷ ps) = port_code v p ⨾ port_codes v ps

abbrev pub table_kind : TableKind → Spelling
table_kind Mac = key (codes "mac")
table_kind Fib = key (codes "fib")

abbrev pub style : Style → Spelling
style Chain = key (codes "chain")
style Grouped = key (codes "grouped")
style Egress = key (codes "egress")

-- behind its name, a node is COUNT "->" COUNT "{" {code} "}" | "=" ("mac" | "fib") TEXT style ";"
abbrev pub body : Version → BodyTree → Spelling
body v (tree.code n) = port n.ins ⨾ key (codes "->") ⨾ port n.outs ⨾ key (codes "{") ⨾ port_codes v n.codes ⨾ key (codes "}")
body v (tree.table k file s) = key (codes "=") ⨾ table_kind k ⨾ text file ⨾ style s ⨾ key (codes ";")

abbrev pub nodes : Version → List DeclTree → Spelling
nodes v [] = nothing
nodes v (d ∷ ds) = (key (codes "node") ⨾ name d.name ⨾ body v d.body) ⨾ nodes v ds

-- link = "link" NAME "." PORT "->" NAME "." PORT ";"
abbrev pub link : Link → Spelling
link l = key (codes "link") ⨾ name l.from ⨾ key (codes ".") ⨾ port l.from_port ⨾ key (codes "->") ⨾ name l.to ⨾ key (codes ".") ⨾ port l.to_port ⨾ key (codes ";")

abbrev pub links : List Link → Spelling
links [] = nothing
links (l ∷ ls) = link l ⨾ links ls

abbrev pub tags : List (List ℕ × Addr) → Spelling
tags [] = nothing
tags (t ∷ ts) = (key (codes "tag") ⨾ equation (name t.0) (addr t.1)) ⨾ tags ts

-- ftarget = "head" addr ":" WIDTH | "global" NAME ":" WIDTH
abbrev pub field_target : Target → Spelling
field_target (Header a w) = target (Header a w)
field_target (Meta Global n w) = target (Meta Global n w)
field_target (Meta Local n w) = never
field_target (Bound var w) = never

abbrev pub field_value : Option ℕ → Spelling
field_value None = nothing
field_value (Some n) = key (codes "=") ⨾ number n

abbrev pub fields : List RawField → Spelling
fields [] = nothing
fields (f ∷ fs) = (key (codes "field") ⨾ field_target f.target ⨾ field_value f.value ⨾ key (codes ";")) ⨾ fields fs

abbrev pub wheres : List CondTree → Spelling
wheres [] = nothing
wheres (c ∷ cs) = (key (codes "where") ⨾ IsCond c ⨾ key (codes ";")) ⨾ wheres cs

-- inject = "inject" NAME "." PORT "{" {"tag" NAME "=" addr ";"} {"field" ftarget ["=" NUMBER] ";"} {"where" cond ";"} "}"
abbrev pub injection : InjectionTree → Spelling
injection i = key (codes "inject") ⨾ name i.node ⨾ key (codes ".") ⨾ port i.port ⨾ key (codes "{") ⨾ tags i.tags ⨾ fields i.fields ⨾ wheres i.tests ⨾ key (codes "}")

-- place = ("in" | "out") NAME "." PORT
abbrev pub place : RawPlace → Spelling
place p = side p.side ⨾ name p.node ⨾ key (codes ".") ⨾ port p.port

-- a reach without `with` has the test `true`
abbrev pub with_test : CondTree → Spelling
with_test c depth before after = (key (codes "with") ⨾ IsCond c) depth before after ⊎ ((c ≡ always) × nothing depth before after)

-- ask = "ask" ( "reach" place ["with" cond] | ("invariant" | "visible") target "at" place ) ";"
abbrev pub question : AskTree → Spelling
question (tree.reach p c) = key (codes "reach") ⨾ place p ⨾ with_test c
question (tree.invariant t p) = key (codes "invariant") ⨾ target t ⨾ key (codes "at") ⨾ place p
question (tree.visible t p) = key (codes "visible") ⨾ target t ⨾ key (codes "at") ⨾ place p

abbrev pub asks : List AskTree → Spelling
asks [] = nothing
asks (a ∷ as') = (key (codes "ask") ⨾ question a ⨾ key (codes ";")) ⨾ asks as'

-- job = "symnet" ("1" | "2") ";" {node} {link} inject {ask}
abbrev pub job : Version → JobTree → Spelling
job v j = key (codes "symnet") ⨾ version v ⨾ key (codes ";") ⨾ nodes v j.net.nodes ⨾ links j.net.links ⨾ injection j.injection ⨾ asks j.asks

-- the words are those of the job
abbrev pub IsJob : JobTree → List Placed → Type 0
IsJob j words = (v : Version) × job v j 0 words []

-- the words, at some nesting, are those of some job
abbrev pub AreJob : List Word → Type 0
AreJob words = (j : JobTree) × (placed : List Placed) × (bare placed ≡ words) × IsJob j placed

-- Some job begins with the words before the place, none with the words up to it; and where the place is the end of
-- the words, they are no job.
pub record IsUnexpected (words : List Word) (place : ℕ) : Type 0 where
  pub within : place ≤ length words
  pub begun : (more : List Word) × AreWords more × AreJob (take place words ++ more)
  pub stuck : place < length words → (more : List Word) → AreWords more → AreJob (take (suc place) words ++ more) → ⊥
  pub unfinished : place ≡ length words → AreJob words → ⊥
