-- The values of the language as trees, without where they lie in memory.
use Rattle.std.specs.Prelude.{ℕ, List}
use Rattle.sn_width.specs.declared.rel.Rel.{Rel}
use Rattle.sefl_syntax.specs.declared.reference.Addr.{Addr}
use Rattle.sefl_syntax.specs.declared.reference.Target.{Target}
use Rattle.sefl_syntax.specs.declared.expr.Sign.{Sign}
use Rattle.sefl_syntax.specs.declared.net.Side.{Side}
use Rattle.sefl_syntax.specs.declared.net.Style.{Style}
use Rattle.sefl_syntax.specs.declared.net.TableKind.{TableKind}
use Rattle.sefl_syntax.specs.declared.net.Link.{Link}
use Rattle.sefl_syntax.specs.declared.job.RawField.{RawField}
use Rattle.sefl_syntax.specs.declared.job.RawPlace.{RawPlace}

mutual
  pub data ExprTree : Type 0 where
    constant : ℕ → ExprTree
    reading : Target → ExprTree
    sum : ExprTree → SummandTrees → ExprTree

  pub data SummandTrees : Type 0 where
    no_summands : SummandTrees
    summand : Sign → ExprTree → SummandTrees → SummandTrees

mutual
  pub data CondTree : Type 0 where
    always : CondTree
    compare : Rel → ExprTree → ExprTree → CondTree
    member : ExprTree → List (ℕ × ℕ) → CondTree
    all_of : CondTrees → CondTree
    any_of : CondTrees → CondTree
    negation : CondTree → CondTree

  pub data CondTrees : Type 0 where
    no_conds : CondTrees
    cond_and : CondTree → CondTrees → CondTrees

mutual
  pub data InstrTree : Type 0 where
    allocate : Target → InstrTree
    deallocate : Target → InstrTree
    assign : Target → ExprTree → InstrTree
    assign_any : Target → InstrTree
    create_tag : List ℕ → Addr → InstrTree
    set_tag : List ℕ → Addr → InstrTree
    destroy_tag : List ℕ → InstrTree
    constrain : CondTree → InstrTree
    fail : List ℕ → InstrTree
    branch : CondTree → CodeTree → CodeTree → InstrTree
    each : List ℕ → List ℕ → CodeTree → InstrTree
    forward : ℕ → InstrTree
    fork : List ℕ → InstrTree
    block : CodeTree → InstrTree
    no_op : InstrTree

  -- instructions, one after another
  pub data CodeTree : Type 0 where
    no_code : CodeTree
    instr_and : InstrTree → CodeTree → CodeTree

pub record PortTree : Type 0 where
  pub side : Side
  pub port : ℕ
  pub code : CodeTree

pub record NodeTree : Type 0 where
  pub ins : ℕ
  pub outs : ℕ
  pub codes : List PortTree

pub data BodyTree : Type 0 where
  code : NodeTree → BodyTree
  table : TableKind → List ℕ → Style → BodyTree

pub record DeclTree : Type 0 where
  pub name : List ℕ
  pub body : BodyTree

pub record NetTree : Type 0 where
  pub nodes : List DeclTree
  pub links : List Link

pub record InjectionTree : Type 0 where
  pub node : List ℕ
  pub port : ℕ
  pub tags : List (List ℕ × Addr)
  pub fields : List RawField
  pub tests : List CondTree

pub data AskTree : Type 0 where
  reach : RawPlace → CondTree → AskTree
  invariant : Target → RawPlace → AskTree
  visible : Target → RawPlace → AskTree

pub record JobTree : Type 0 where
  pub net : NetTree
  pub injection : InjectionTree
  pub asks : List AskTree
