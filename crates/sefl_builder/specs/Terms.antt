-- Addresses, targets and expressions.
use Rattle.std.specs.Prelude.{ℕ, zero, suc, ℤ, pos, Bool, ◌||◌, List, map, None, Some, codes, if◌then◌else◌}
use Rattle.sefl_syntax.specs.declared.reference.Scope.{Scope}
use Rattle.sefl_syntax.specs.declared.reference.Scope.TheVariants.{Global, Local}
use Rattle.sefl_syntax.specs.declared.reference.Addr.{Addr}
use Rattle.sefl_syntax.specs.declared.reference.Target.{Target}
use Rattle.sefl_syntax.specs.declared.reference.Target.TheVariants.{Header, Meta, Bound}
use Rattle.sefl_syntax.specs.declared.expr.Sign.{Sign}
use Rattle.sefl_syntax.specs.declared.expr.Sign.TheVariants.{Plus, Minus}
use Rattle.sefl_syntax.specs.declared.expr.Expr.{Expr}
use Rattle.sefl_syntax.specs.Trees.{ExprTree, constant, reading}
use Rattle.sefl_syntax.specs.Views.{expr_tree, summands_of}
use Rattle.sefl_grammar.specs.Word.{Word}
use Rattle.sefl_grammar.specs.Grammar.{minus, sum_of}
use Rattle.sefl_builder.specs.Reading.{Reader, then', all, begins_with, begins_name, begins_number}
use Rattle.sefl_builder.specs.Leaves.{key, name, number, offset, width, word}

unfoldable pub ahead : Reader ℤ
ahead ws = then' (offset ws) (λ n ws. Some (pos n, ws))

unfoldable pub back : Reader ℤ
back ws = then' (key (codes "-") ws) (λ _ ws. then' (offset ws) (λ n ws. Some (minus n, ws)))

-- an offset with its sign
unfoldable pub signed : Reader ℤ
signed ws = if begins_with (codes "-") ws then back ws else then' (key (codes "+") ws) (λ _ ws. ahead ws)

-- an offset with a sign where it is taken away
unfoldable pub unsigned : Reader ℤ
unsigned ws = if begins_number ws then ahead ws else back ws

unfoldable pub tagged : Reader Addr
tagged ws = then' (name ws) (λ tag ws. then' (signed ws) (λ z ws. Some (record { tag = Some tag; offset = z }, ws)))

unfoldable pub untagged : Reader Addr
untagged ws = then' (unsigned ws) (λ z ws. Some (record { tag = None; offset = z }, ws))

unfoldable pub addr : Reader Addr
addr ws = if begins_name ws then tagged ws else untagged ws

-- a colon and a width
unfoldable pub sized : Reader ℕ
sized ws = then' (key (codes ":") ws) (λ _ ws. width ws)

unfoldable pub header : Reader Target
header ws = then' (key (codes "head") ws) (λ _ ws. then' (addr ws) (λ a ws. then' (sized ws) (λ w ws. Some (Header a w, ws))))

unfoldable pub scope : Reader Scope
scope ws =
    if begins_with (codes "global") ws then word (codes "global") Global ws
    else word (codes "local") Local ws

unfoldable pub meta : Reader Target
meta ws = then' (scope ws) (λ s ws. then' (name ws) (λ n ws. then' (sized ws) (λ w ws. Some (Meta s n w, ws))))

unfoldable pub bound : Reader Target
bound ws = then' (key (codes "$") ws) (λ _ ws. then' (name ws) (λ n ws. then' (sized ws) (λ w ws. Some (Bound n w, ws))))

unfoldable pub target : Reader Target
target ws = if begins_with (codes "head") ws then header ws else (if begins_with (codes "$") ws then bound ws else meta ws)

unfoldable pub constant_here : Reader ExprTree
constant_here ws = then' (number ws) (λ n ws. Some (constant n, ws))

unfoldable pub reading_here : Reader ExprTree
reading_here ws = then' (target ws) (λ t ws. Some (reading t, ws))

-- an operand, where what stands in parentheses is read so
unfoldable pub operand_by : Reader ExprTree → Reader ExprTree
operand_by group ws =
    if begins_number ws then constant_here ws
    else (if begins_with (codes "(") ws then group ws else reading_here ws)

-- a further member of a sum comes
abbrev pub goes_sum : List Word → Bool
goes_sum ws = begins_with (codes "+") ws || begins_with (codes "-") ws

unfoldable pub sign : Reader Sign
sign ws =
    if begins_with (codes "+") ws then word (codes "+") Plus ws
    else word (codes "-") Minus ws

abbrev pub summand_by : Reader ExprTree → Reader (Sign × ExprTree)
summand_by operand ws = then' (sign ws) (λ s ws. then' (operand ws) (λ e ws. Some ((s, e), ws)))

abbrev pub expr_by : Reader ExprTree → Reader ExprTree
expr_by operand ws =
    then' (operand ws) (λ e ws. then' (all goes_sum (summand_by operand) ws) (λ ms ws. Some (sum_of e (summands_of ms), ws)))

-- an expression in parentheses, where `room` more constructs may be open
unfoldable pub group : ℕ → Reader ExprTree
group zero ws = None
group (suc room) ws =
    then' (key (codes "(") ws) (λ _ ws. then' (expr_by (operand_by (group room)) ws) (λ e ws. then' (key (codes ")") ws) (λ _ ws. Some (e, ws))))

unfoldable pub operand : ℕ → Reader ExprTree
operand room ws = operand_by (group room) ws

unfoldable pub summand : ℕ → Reader (Sign × ExprTree)
summand room ws = summand_by (operand room) ws

abbrev pub summands : ℕ → Reader (List (Sign × ExprTree))
summands room ws = all goes_sum (summand room) ws

unfoldable pub expr : ℕ → Reader ExprTree
expr room ws = then' (operand room ws) (λ e ws. then' (summands room ws) (λ ms ws. Some (sum_of e (summands_of ms), ws)))

abbrev pub member_tree : Sign × Expr → Sign × ExprTree
member_tree m = (m.0, expr_tree m.1)

abbrev pub member_trees : List (Sign × Expr) → List (Sign × ExprTree)
member_trees ms = map member_tree ms
