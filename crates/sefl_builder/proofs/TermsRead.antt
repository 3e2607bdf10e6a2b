-- Expressions are read.
use Rattle.std.proofs.Common.{◌≡◌, ℕ, zero, suc, ◌+◌, ◌<◌, true, false, List, [], ◌∷◌, length, bytes_eq, codes, if◌then◌else◌, refl, ap, subst, arith}
use Rattle.sefl_lex.specs.Words.{is_number, are_digits, have_value}
use Rattle.sefl_syntax.specs.declared.reference.Scope.{Scope}
use Rattle.sefl_syntax.specs.declared.reference.Scope.TheVariants.{Global, Local}
use Rattle.sefl_syntax.specs.declared.reference.Target.{Target}
use Rattle.sefl_syntax.specs.declared.reference.Target.TheVariants.{Header, Meta, Bound}
use Rattle.sefl_syntax.specs.declared.expr.Sign.{Sign}
use Rattle.sefl_syntax.specs.declared.expr.Sign.TheVariants.{Plus, Minus}
use Rattle.sefl_syntax.specs.Trees.{ExprTree, SummandTrees, constant, reading, summand as summand_tree}
use Rattle.sefl_syntax.specs.Views.{summands_of}
use Rattle.sefl_grammar.specs.Word.{Placed, bare}
use Rattle.sefl_grammar.specs.Grammar as grammar
use Rattle.sefl_grammar.specs.Grammar.{◌⨾◌, sum_of, IsOperand, literal, read, grouped, IsExpr, members, IsSummands, none, more}
use Rattle.sefl_builder.specs.Reading.{Reader, begins_with, begins_number}
use Rattle.sefl_builder.specs.Leaves.{word}
use Rattle.sefl_builder.specs.Terms.{constant_here, reading_here, operand_by, goes_sum, sign, group, operand, summand, expr}
use Rattle.sefl_builder.proofs.Taking.{Fine, Takes, TakesMany, done, next, if_so, if_not, takes_key, takes_word, key_less, key_depth, begins, many_none, many_one, takes_all, or_false, or_true, or_first}
use Rattle.sefl_builder.proofs.LeavesRead.{takes_number, takes_target, begins_as_number, key_is_no_number}

scope_is_no_number : (s : Scope) (d : ℕ) (b a : List Placed) → grammar.scope s d b a → Fine b → begins_number (bare b) ≡ false
unfolding is_number are_digits have_value
scope_is_no_number Global d b a is l = key_is_no_number (codes "global") d b a is l refl
scope_is_no_number Local d b a is l = key_is_no_number (codes "local") d b a is l refl

pub target_is_no_number : (t : Target) (d : ℕ) (b a : List Placed) → grammar.target t d b a → Fine b → begins_number (bare b) ≡ false
unfolding is_number are_digits have_value
target_is_no_number (Header x w) d b a (m, word, is) l = key_is_no_number (codes "head") d b m word l refl
target_is_no_number (Meta s n w) d b a (m, word, is) l = scope_is_no_number s d b m word l
target_is_no_number (Bound n w) d b a (m, word, is) l = key_is_no_number (codes "$") d b m word l refl

pub target_is_no_group : (t : Target) (d : ℕ) (b a : List Placed) → grammar.target t d b a → begins_with (codes "(") (bare b) ≡ false
target_is_no_group (Header x w) d b a (m, word, is) = begins (codes "head") (codes "(") false d b m word refl
target_is_no_group (Meta Global n w) d b a (m, word, is) = begins (codes "global") (codes "(") false d b m word refl
target_is_no_group (Meta Local n w) d b a (m, word, is) = begins (codes "local") (codes "(") false d b m word refl
target_is_no_group (Bound n w) d b a (m, word, is) = begins (codes "$") (codes "(") false d b m word refl

pub group_is_no_number : (d : ℕ) (b m : List Placed) → grammar.key (codes "(") d b m → Fine b → begins_number (bare b) ≡ false
unfolding is_number are_digits have_value
group_is_no_number d b m word l = key_is_no_number (codes "(") d b m word l refl

takes_sign : (s : Sign) (d : ℕ) (b a : List Placed) → grammar.sign s d b a → Fine b → Takes sign s b a
unfolding sign
takes_sign Plus d b a is l =
    if_so (begins_with (codes "+")) (word (codes "+") Plus) (word (codes "-") Minus) Plus b a (begins (codes "+") (codes "+") true d b a is refl) (takes_word (codes "+") Plus d b a is l)
takes_sign Minus d b a is l =
    if_not (begins_with (codes "+")) (word (codes "+") Plus) (word (codes "-") Minus) Minus b a (begins (codes "-") (codes "+") false d b a is refl) (takes_word (codes "-") Minus d b a is l)

sign_less : (s : Sign) (d : ℕ) (b a : List Placed) → grammar.sign s d b a → length a < length b
sign_less Plus d b a is = key_less (codes "+") d b a is
sign_less Minus d b a is = key_less (codes "-") d b a is

sign_goes : (s : Sign) (d : ℕ) (b a : List Placed) → grammar.sign s d b a → goes_sum (bare b) ≡ true
sign_goes Plus d b a is = or_first _ _ (begins (codes "+") (codes "+") true d b a is refl)
sign_goes Minus d b a is = or_true _ _ (begins (codes "-") (codes "+") false d b a is refl) (begins (codes "-") (codes "-") true d b a is refl)

-- a word that is no sign goes on with no sum
pub no_sum : (t : List ℕ) (d : ℕ) (b a : List Placed) → grammar.key t d b a → bytes_eq t (codes "+") ≡ false → bytes_eq t (codes "-") ≡ false → goes_sum (bare b) ≡ false
no_sum t d b a is plus minus = or_false _ _ (begins t (codes "+") false d b a is plus) (begins t (codes "-") false d b a is minus)

-- the further members of a sum, as a list
pub record Sums (es : SummandTrees) (room : ℕ) (b a : List Placed) : Type 0 where
  pub ms : List (Sign × ExprTree)
  pub are : summands_of ms ≡ es
  pub takes : TakesMany goes_sum (summand room) ms b a

takes_group : (e : ExprTree) (d room : ℕ) (b inside closing a : List Placed) → grammar.key (codes "(") (suc d) b inside
    → ((r : ℕ) → suc d + r ≡ 64 → Fine inside → Takes (expr r) e inside closing) → grammar.key (codes ")") d closing a → d + room ≡ 64 → Fine b → Takes (group room) e b a
unfolding group expr operand summand
takes_group e d zero b inside closing a open' within close h l = absurd (omega (arith, key_depth (codes "(") (suc d) b inside open' l))
takes_group e d (suc r) b inside closing a open' within close h l =
    next _ _ tt e b inside a (takes_key (codes "(") (suc d) b inside open' l) (λ f.
    next _ _ e e inside closing a (within r (omega arith) f) (λ f.
    next _ _ tt e closing a a (takes_key (codes ")") d closing a close f) (λ f. done e a a refl f)))

takes_sum : (e : ExprTree) (rest : SummandTrees) (room : ℕ) (b m a : List Placed) → Takes (operand room) e b m → (Fine m → Sums rest room m a) → Takes (expr room) (sum_of e rest) b a
unfolding expr
takes_sum e rest room b m a f s =
    let sums : Sums rest room m a = s f.fine in
    subst (λ r. Takes (expr room) (sum_of e r) b a) sums.are
    (next _ _ e _ b m a f (λ f. next _ _ sums.ms _ m a a (takes_all _ _ sums.ms m a sums.takes) (λ f. done _ a a refl f)))

-- what an operand is that is no number
abbrev others : ℕ → Reader ExprTree
others room ws = if begins_with (codes "(") ws then group room ws else reading_here ws

takes_constant : (n d room : ℕ) (b a : List Placed) → grammar.number n d b a → Fine b → Takes (operand room) (constant n) b a
unfolding operand operand_by constant_here
takes_constant n d room b a is l =
    if_so begins_number constant_here (others room) (constant n) b a (begins_as_number n d b a is) (next _ _ n (constant n) b a a (takes_number n d b a is l) (λ f. done (constant n) a a refl f))

takes_reading : (t : Target) (d room : ℕ) (b a : List Placed) → grammar.target t d b a → Fine b → Takes (operand room) (reading t) b a
unfolding operand operand_by reading_here
takes_reading t d room b a is l =
    if_not begins_number constant_here (others room) (reading t) b a (target_is_no_number t d b a is l)
    (if_not (begins_with (codes "(")) (group room) reading_here (reading t) b a (target_is_no_group t d b a is)
    (next _ _ t (reading t) b a a (takes_target t d b a is l) (λ f. done (reading t) a a refl f)))

takes_grouped : (e : ExprTree) (d room : ℕ) (b m a : List Placed) → grammar.key (codes "(") (suc d) b m → Fine b → Takes (group room) e b a → Takes (operand room) e b a
unfolding operand operand_by
takes_grouped e d room b m a open' l f =
    if_not begins_number constant_here (others room) e b a (group_is_no_number (suc d) b m open' l)
    (if_so (begins_with (codes "(")) (group room) reading_here e b a (begins (codes "(") (codes "(") true (suc d) b m open' refl) f)

mutual
  unfolding summand

  pub takes_operand : {e : ExprTree} (d room : ℕ) (b a : List Placed) → IsOperand e d b a → d + room ≡ 64 → Fine b → Takes (operand room) e b a
  takes_operand d room b a (literal {n} is) h l = takes_constant n d room b a is l
  takes_operand d room b a (read {t} is) h l = takes_reading t d room b a is l
  takes_operand {e} d room b a (grouped inside closing open' is close) h l =
      takes_grouped e d room b inside a open' l
      (takes_group e d room b inside closing a open' (λ r k f. takes_expr (suc d) r inside closing is (no_sum (codes ")") d closing a close refl refl) k f) close h l)

  pub takes_expr : {e : ExprTree} (d room : ℕ) (b a : List Placed) → IsExpr e d b a → goes_sum (bare a) ≡ false → d + room ≡ 64 → Fine b → Takes (expr room) e b a
  takes_expr d room b a (members {first} {rest} m is others) stop h l =
      takes_sum first rest room b m a (takes_operand d room b m is h l) (λ f. takes_summands d room m a others stop h f)

  takes_summands : {es : SummandTrees} (d room : ℕ) (b a : List Placed) → IsSummands es d b a → goes_sum (bare a) ≡ false → d + room ≡ 64 → Fine b → Sums es room b a
  takes_summands d room b a (none is) stop h l = record { ms = []; are = refl; takes = many_none goes_sum (summand room) b a is l stop }
  takes_summands d room b a (more {s} {e} {rest} first m sg is others) stop h l =
      let signed : Takes sign s b first = takes_sign s d b first sg l in
      let one : Takes (operand room) e first m = takes_operand d room first m is h signed.fine in
      let sums : Sums rest room m a = takes_summands d room m a others stop h one.fine in
      record {
        ms = (s, e) ∷ sums.ms;
        are = ap (summand_tree s e) sums.are;
        takes = many_one goes_sum (summand room) (s, e) sums.ms b m a (sign_goes s d b first sg)
            (record {
              takes = next _ _ s (s, e) b first m signed (λ f. next _ _ e (s, e) first m m one (λ f. done (s, e) m m refl f));
              less = omega (arith, sign_less s d b first sg, one.shorter);
            }) (λ f. sums.takes);
      }
