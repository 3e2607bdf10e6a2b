-- The texts of addresses, targets and expressions are read as them.
use Rattle.std.proofs.Common.{◌≡◌, ℕ, ℤ, pos, negsuc, int_lt, zero, suc, ◌^◌, ◌<◌, ◌≤◌, ◌⊎◌, inl, inr, Bool, true, false, List, [], ◌∷◌, ◌++◌, Option, None, Some, codes, decimal, if◌then◌else◌, refl, sym, subst, true≢false, arith}
use Rattle.std.proofs.lemmas.List.{append_assoc}
use Rattle.std.proofs.lemmas.Bool.Decides.{nat_tests}
use Rattle.std.specs.Fmt.{signed_decimal}
use Rattle.sefl_lex.specs.declared.token.TokenKind.TheVariants as kind
use Rattle.sefl_syntax.specs.Trees as tree
use Rattle.sefl_syntax.specs.Trees.{ExprTree, SummandTrees}
use Rattle.sefl_syntax.specs.TermText.{tag_text, addr_text, target_text, sign_text, expr_text, operand_text, summands_text}
use Rattle.sefl_syntax.specs.declared.reference.Scope.TheVariants.{Global, Local}
use Rattle.sefl_syntax.specs.declared.reference.Addr.{Addr}
use Rattle.sefl_syntax.specs.declared.reference.Target.{Target}
use Rattle.sefl_syntax.specs.declared.reference.Target.TheVariants.{Header, Meta, Bound}
use Rattle.sefl_syntax.specs.declared.expr.Sign.{Sign}
use Rattle.sefl_syntax.specs.declared.expr.Sign.TheVariants.{Plus, Minus}
use Rattle.sefl_grammar.specs.Word.{Placed, bare}
use Rattle.sefl_grammar.specs.Grammar.{◌⨾◌, key, name, number, offset, width, ahead, back, place_of, addr, target, field_target, sign, IsOperand, literal, read, grouped, IsExpr, members, IsSummands, none, more}
use Rattle.sefl_grammar.proofs.Cut.{Cut, word, alone, apart, decimal_number}
use Rattle.sefl_grammar.proofs.Printing.{Prints, Off, both, same_text, same_part, no_text, spaced, worded, signed_text, sign_alone, Good, Fits, head, lower, assoc3, assoc4, assoc5, prints_number, fits_name, fits_number, fits_number_in, fits_keyed, fits_signed, fits_both, fits_as, before_digit}
use Rattle.sefl_grammar.proofs.Signs.{open_parenthesis, close_parenthesis, colon, plus, dollar, minus_digit}

-- an offset that was found, in the form in which it is printed
data Offset (z : ℤ) (d : ℕ) (a : List Placed) : Type 0 where
  forward : (n : ℕ) → z ≡ pos n → n ≤ 1048576 → d ≤ 64 → Good a → Offset z d a
  backward : (n : ℕ) → z ≡ negsuc n → suc n ≤ 1048576 → d ≤ 64 → Good a → Offset z d a

found_ahead : (z : ℤ) (d : ℕ) (b a : List Placed) → ahead z d b a → Good b → Offset z d a
found_ahead z d b a (n, e, (low, high, is)) good =
    let h = head (λ w. (w.kind ≡ kind.Number) × (_ ≡ n)) d b a is good in
    forward n e high h.low h.good

found_back : (z : ℤ) (d : ℕ) (b a : List Placed) → back z d b a → Good b → Offset z d a
found_back z d b a (zero, e, (m, is, (low, high, spelled))) good =
    let k = head (λ w. w.text ≡ codes "-") d b m is good in
    let h = head (λ w. (w.kind ≡ kind.Number) × (_ ≡ 0)) d m a spelled k.good in
    forward 0 e high h.low h.good
found_back z d b a (suc n, e, (m, is, (low, high, spelled))) good =
    let k = head (λ w. w.text ≡ codes "-") d b m is good in
    let h = head (λ w. (w.kind ≡ kind.Number) × (_ ≡ suc n)) d m a spelled k.good in
    backward n e high h.low h.good

small : (n : ℕ) → n ≤ 1048576 → n < 2 ^ 128
small n h = omega (arith, h)

prints_offset : (n d : ℕ) → d ≤ 64 → n ≤ 1048576 → Prints (decimal n) (offset n d)
prints_offset n d low high = same_part (decimal n) (number n d) (offset n d) (prints_number n d low (small n high)) (λ x y s. (omega arith, high, s))

prints_back : (n d : ℕ) → d ≤ 64 → suc n ≤ 1048576 → Prints (45 ∷ decimal (suc n)) (back (negsuc n) d)
prints_back n d low high =
    same_part (45 ∷ decimal (suc n)) ((key (codes "-") ⨾ offset (suc n)) d) (back (negsuc n) d)
    (worded kind.Sign (codes "-") (decimal (suc n)) d (λ w. w.text ≡ codes "-") (offset (suc n)) low refl (λ rest ok. before_digit 45 (decimal (suc n)) rest refl minus_digit (decimal_number (suc n) (small (suc n) high)).begins_digit) (prints_offset (suc n) d low high))
    (λ x y s. (suc n, refl, s))

prints_plus : (n d : ℕ) → d ≤ 64 → n ≤ 1048576 → Prints (43 ∷ decimal n) ((key (codes "+") ⨾ ahead (pos n)) d)
prints_plus n d low high =
    signed_text 43 (decimal n) d (ahead (pos n)) low refl plus (same_part (decimal n) (offset n d) (ahead (pos n) d) (prints_offset n d low high) (λ x y s. (n, refl, s)))

not_below : (n : ℕ) → int_lt (pos n) (pos 0) ≡ false
not_below n = grind (arith, nat_tests)

-- an offset behind a tag
prints_signed : (tag : List ℕ) (z : ℤ) (d : ℕ) (a : List Placed) → Offset z d a → (e : ℕ) → e ≤ d → Prints tag (name tag e) → Prints (tag_text (Some tag) z ++ signed_decimal z) (place_of (Some tag) z e)
prints_signed tag z d a (forward n is high low good) e h named =
    subst (λ y. Prints (tag_text (Some tag) y ++ signed_decimal y) (place_of (Some tag) y e)) (sym is)
    (same_text ((if int_lt (pos n) (pos 0) then tag else (tag ++ codes "+")) ++ decimal n) (tag ++ 43 ∷ decimal n) (place_of (Some tag) (pos n) e)
    (both tag (43 ∷ decimal n) (name tag) (λ d b a. (key (codes "+") ⨾ ahead (pos n)) d b a ⊎ back (pos n) d b a) e named
    (same_part (43 ∷ decimal n) ((key (codes "+") ⨾ ahead (pos n)) e) (λ b a. (key (codes "+") ⨾ ahead (pos n)) e b a ⊎ back (pos n) e b a) (prints_plus n e (lower e d h low) high) (λ x y s. inl s))
    (λ rest ok. refl))
    (rw (not_below n) (append_assoc tag (codes "+") (decimal n))))
prints_signed tag z d a (backward n is high low good) e h named =
    subst (λ y. Prints (tag_text (Some tag) y ++ signed_decimal y) (place_of (Some tag) y e)) (sym is)
    (both tag (45 ∷ decimal (suc n)) (name tag) (λ d b a. (key (codes "+") ⨾ ahead (negsuc n)) d b a ⊎ back (negsuc n) d b a) e named
    (same_part (45 ∷ decimal (suc n)) (back (negsuc n) e) (λ b a. (key (codes "+") ⨾ ahead (negsuc n)) e b a ⊎ back (negsuc n) e b a) (prints_back n e (lower e d h low) high) (λ x y s. inr s))
    (λ rest ok. refl))

prints_plain : (z : ℤ) (d : ℕ) (a : List Placed) → Offset z d a → (e : ℕ) → e ≤ d → Prints (signed_decimal z) (place_of None z e)
prints_plain z d a (forward n is high low good) e h =
    subst (λ y. Prints (signed_decimal y) (place_of None y e)) (sym is)
    (same_part (decimal n) (offset n e) (place_of None (pos n) e) (prints_offset n e (lower e d h low) high) (λ x y s. inl (n, refl, s)))
prints_plain z d a (backward n is high low good) e h =
    subst (λ y. Prints (signed_decimal y) (place_of None y e)) (sym is)
    (same_part (45 ∷ decimal (suc n)) (back (negsuc n) e) (place_of None (negsuc n) e) (prints_back n e (lower e d h low) high) (λ x y s. inr s))

good_of : (z : ℤ) (d : ℕ) (a : List Placed) → Offset z d a → Good a
good_of z d a (forward n is high low good) = good
good_of z d a (backward n is high low good) = good

found_signed : (z : ℤ) (d : ℕ) (b a : List Placed) → ((key (codes "+") ⨾ ahead z) d b a ⊎ back z d b a) → Good b → Offset z d a
found_signed z d b a (inl (m, plus', is)) good = found_ahead z d m a is (head (λ w. w.text ≡ codes "+") d b m plus' good).good
found_signed z d b a (inr is) good = found_back z d b a is good

fits_place : (tag : Option (List ℕ)) (z : ℤ) (d : ℕ) (b a : List Placed) → place_of tag z d b a → Good b → Fits (tag_text tag z ++ signed_decimal z) (place_of tag z) d a
fits_place None z d b a (inl is) good = let o = found_ahead z d b a is good in record { prints = λ e h. prints_plain z d a o e h; good = good_of z d a o }
fits_place None z d b a (inr is) good = let o = found_back z d b a is good in record { prints = λ e h. prints_plain z d a o e h; good = good_of z d a o }
fits_place (Some tag) z d b a (m, is, more') good =
    let n = fits_name tag d b m is good in
    let o = found_signed z d m a more' n.good in
    record { prints = λ e h. prints_signed tag z d a o e h (n.prints e h); good = good_of z d a o }

pub fits_addr : (x : Addr) (d : ℕ) (b a : List Placed) → addr x d b a → Good b → Fits (addr_text x) (addr x) d a
unfolding addr_text
fits_addr x d b a is good = fits_place x.tag x.offset d b a is good

-- the width behind a part
fits_sized : (w : ℕ) (d : ℕ) (b a : List Placed) → (key (codes ":") ⨾ width w) d b a → Good b → Fits (58 ∷ decimal w) (key (codes ":") ⨾ width w) d a
fits_sized w d b a (m, is, size) good = fits_signed 58 (decimal w) (width w) d b m a is good refl colon (λ g. fits_number_in 1 128 w d m a size g)

fits_placed : (x : Addr) (w : ℕ) (d : ℕ) (b a : List Placed) → (addr x ⨾ key (codes ":") ⨾ width w) d b a → Good b → Fits (addr_text x ++ 58 ∷ decimal w) (addr x ⨾ key (codes ":") ⨾ width w) d a
fits_placed x w d b a (m, is, size) good = fits_both (addr_text x) (58 ∷ decimal w) (addr x) (key (codes ":") ⨾ width w) d m a (fits_addr x d b m is good) (λ g. fits_sized w d m a size g) (λ rest ok. refl)

fits_named : (n : List ℕ) (w : ℕ) (d : ℕ) (b a : List Placed) → (name n ⨾ key (codes ":") ⨾ width w) d b a → Good b → Fits (n ++ 58 ∷ decimal w) (name n ⨾ key (codes ":") ⨾ width w) d a
fits_named n w d b a (m, is, size) good = fits_both n (58 ∷ decimal w) (name n) (key (codes ":") ⨾ width w) d m a (fits_name n d b m is good) (λ g. fits_sized w d m a size g) (λ rest ok. refl)

pub fits_target : (t : Target) (d : ℕ) (b a : List Placed) → target t d b a → Good b → Fits (target_text t) (target t) d a
unfolding target_text
fits_target (Header x w) d b a (m, is, more') good =
    fits_as (codes "head " ++ addr_text x ++ codes ":" ++ decimal w) (codes "head" ++ 32 ∷ (addr_text x ++ 58 ∷ decimal w)) (target (Header x w)) d a
    (fits_keyed (codes "head") (addr_text x ++ 58 ∷ decimal w) (addr x ⨾ key (codes ":") ⨾ width w) d b m a is good refl (λ g. fits_placed x w d m a more' g)) (assoc4 (codes "head ") (addr_text x) (codes ":") (decimal w))
fits_target (Meta Global n w) d b a (m, is, more') good =
    fits_as (codes "global" ++ codes " " ++ n ++ codes ":" ++ decimal w) (codes "global" ++ 32 ∷ (n ++ 58 ∷ decimal w)) (target (Meta Global n w)) d a
    (fits_keyed (codes "global") (n ++ 58 ∷ decimal w) (name n ⨾ key (codes ":") ⨾ width w) d b m a is good refl (λ g. fits_named n w d m a more' g)) (assoc5 (codes "global") (codes " ") n (codes ":") (decimal w))
fits_target (Meta Local n w) d b a (m, is, more') good =
    fits_as (codes "local" ++ codes " " ++ n ++ codes ":" ++ decimal w) (codes "local" ++ 32 ∷ (n ++ 58 ∷ decimal w)) (target (Meta Local n w)) d a
    (fits_keyed (codes "local") (n ++ 58 ∷ decimal w) (name n ⨾ key (codes ":") ⨾ width w) d b m a is good refl (λ g. fits_named n w d m a more' g)) (assoc5 (codes "local") (codes " ") n (codes ":") (decimal w))
fits_target (Bound n w) d b a (m, is, more') good =
    fits_as (codes "$" ++ n ++ codes ":" ++ decimal w) (36 ∷ (n ++ 58 ∷ decimal w)) (target (Bound n w)) d a
    (fits_signed 36 (n ++ 58 ∷ decimal w) (name n ⨾ key (codes ":") ⨾ width w) d b m a is good refl dollar (λ g. fits_named n w d m a more' g)) (assoc4 (codes "$") n (codes ":") (decimal w))

pub fits_field_target : (t : Target) (d : ℕ) (b a : List Placed) → field_target t d b a → Good b → Fits (target_text t) (field_target t) d a
fits_field_target (Header x w) d b a is good = fits_target (Header x w) d b a is good
fits_field_target (Meta Global n w) d b a is good = fits_target (Meta Global n w) d b a is good
fits_field_target (Meta Local n w) d b a is good = absurd is
fits_field_target (Bound n w) d b a is good = absurd is

abbrev is_sum : ExprTree → Bool
is_sum (tree.constant n) = false
is_sum (tree.reading t) = false
is_sum (tree.sum first rest) = true

-- an expression that stands prints as itself, and as an operand where it is no sum
pub record FitsExpr (x : ExprTree) (d : ℕ) (a : List Placed) : Type 0 where
  pub whole : (e : ℕ) → e ≤ d → Prints (expr_text x) (IsExpr x e)
  pub operand : is_sum x ≡ false → (e : ℕ) → e ≤ d → Prints (operand_text x) (IsOperand x e)
  pub good : Good a

-- an operand that stands prints as itself, too
record FitsOperand (x : ExprTree) (d : ℕ) (a : List Placed) : Type 0 where
  whole : (e : ℕ) → e ≤ d → Prints (expr_text x) (IsExpr x e)
  operand : (e : ℕ) → e ≤ d → Prints (operand_text x) (IsOperand x e)
  good : Good a

alone_expr : (x : ExprTree) (t : List ℕ) (e : ℕ) → Prints t (IsOperand x e) → Prints t (IsExpr x e)
alone_expr x t e h = same_part t (IsOperand x e) (IsExpr x e) h (λ b a is. members a is (none refl))

-- a sum in its parentheses
in_parentheses : (x : ExprTree) (t : List ℕ) (e : ℕ) → suc e ≤ 64 → Prints t (IsExpr x (suc e)) → Prints (codes "(" ++ t ++ codes ")") (IsOperand x e)
in_parentheses x t e low h =
    same_text (codes "(" ++ t ++ codes ")") (40 ∷ (t ++ 41 ∷ [])) (IsOperand x e)
    (λ rest after ok cut.
    let close = sign_alone 41 e (omega (arith, low)) refl close_parenthesis rest after ok cut in
    let inner = h (41 ∷ rest) close.before refl close.cut in
    record {
      before = record { word = record { kind = kind.Sign; text = codes "(" }; depth = suc e } ∷ inner.before;
      cut = subst (λ y. Cut (40 ∷ y) (record { kind = kind.Sign; text = codes "(" } ∷ bare inner.before)) (sym (append_assoc t (41 ∷ []) rest)) (word kind.Sign (codes "(") (t ++ 41 ∷ rest) (alone 40 (t ++ 41 ∷ rest) refl open_parenthesis) inner.cut);
      spelled = grouped inner.before close.before (record { kind = kind.Sign; text = codes "(" }, refl, refl) inner.spelled close.spelled;
      shallow = λ s. (low, inner.shallow (close.shallow s));
    })
    (assoc3 (codes "(") t (codes ")"))

operand_inside : (x : ExprTree) (d e : ℕ) (a : List Placed) → suc d ≤ 64 → FitsExpr x (suc d) a → e ≤ d → Prints (operand_text x) (IsOperand x e)
operand_inside (tree.constant n) d e a low f h = f.operand refl e (omega (arith, h))
operand_inside (tree.reading t) d e a low f h = f.operand refl e (omega (arith, h))
operand_inside (tree.sum first rest) d e a low f h =
    in_parentheses (tree.sum first rest) (expr_text (tree.sum first rest)) e (omega (arith, h, low)) (f.whole (suc e) (omega (arith, h)))

sign_off : (s : Sign) (t : List ℕ) → Off (codes " " ++ sign_text s ++ codes " " ++ t)
sign_off Plus t rest ok = refl
sign_off Minus t rest ok = refl

summands_off : (es : SummandTrees) → Off (summands_text es)
summands_off tree.no_summands rest ok = ok
summands_off (tree.summand Plus e es) rest ok = refl
summands_off (tree.summand Minus e es) rest ok = refl

-- a sign of a sum, and what follows it
prints_summand : (s : Sign) (x : ExprTree) (es : SummandTrees) (e : ℕ) → e ≤ 64 → Prints (operand_text x) (IsOperand x e) → Prints (summands_text es) (IsSummands es e) → Prints (summands_text (tree.summand s x es)) (IsSummands (tree.summand s x es) e)
prints_summand Plus x es e low first rest' =
    same_text (codes " " ++ codes "+" ++ codes " " ++ operand_text x ++ summands_text es) (32 ∷ (43 ∷ (32 ∷ (operand_text x ++ summands_text es)))) (IsSummands (tree.summand Plus x es) e)
    (same_part _ ((key (codes "+") ⨾ IsOperand x ⨾ IsSummands es) e) (IsSummands (tree.summand Plus x es) e)
    (spaced 32 (43 ∷ (32 ∷ (operand_text x ++ summands_text es))) ((key (codes "+") ⨾ IsOperand x ⨾ IsSummands es) e) refl
    (signed_text 43 (32 ∷ (operand_text x ++ summands_text es)) e (IsOperand x ⨾ IsSummands es) low refl plus
    (spaced 32 (operand_text x ++ summands_text es) ((IsOperand x ⨾ IsSummands es) e) refl (both (operand_text x) (summands_text es) (IsOperand x) (IsSummands es) e first rest' (summands_off es)))))
    (λ b a is. more is.0 is.2.0 is.1 is.2.1 is.2.2))
    (assoc5 (codes " ") (codes "+") (codes " ") (operand_text x) (summands_text es))
prints_summand Minus x es e low first rest' =
    same_text (codes " " ++ codes "-" ++ codes " " ++ operand_text x ++ summands_text es) (32 ∷ (45 ∷ (32 ∷ (operand_text x ++ summands_text es)))) (IsSummands (tree.summand Minus x es) e)
    (same_part _ ((key (codes "-") ⨾ IsOperand x ⨾ IsSummands es) e) (IsSummands (tree.summand Minus x es) e)
    (spaced 32 (45 ∷ (32 ∷ (operand_text x ++ summands_text es))) ((key (codes "-") ⨾ IsOperand x ⨾ IsSummands es) e) refl
    (worded kind.Sign (codes "-") (32 ∷ (operand_text x ++ summands_text es)) e (λ w. w.text ≡ codes "-") (IsOperand x ⨾ IsSummands es) low refl (λ rest ok. apart 45 32 ((operand_text x ++ summands_text es) ++ rest) refl refl)
    (spaced 32 (operand_text x ++ summands_text es) ((IsOperand x ⨾ IsSummands es) e) refl (both (operand_text x) (summands_text es) (IsOperand x) (IsSummands es) e first rest' (summands_off es)))))
    (λ b a is. more is.0 is.2.0 is.1 is.2.1 is.2.2))
    (assoc5 (codes " ") (codes "-") (codes " ") (operand_text x) (summands_text es))

sign_head : (s : Sign) (d : ℕ) (b a : List Placed) → sign s d b a → Good b → (d ≤ 64) × Good a
sign_head Plus d b a is good = let h = head (λ w. w.text ≡ codes "+") d b a is good in (h.low, h.good)
sign_head Minus d b a is good = let h = head (λ w. w.text ≡ codes "-") d b a is good in (h.low, h.good)

mutual
  fits_operand : {x : ExprTree} (d : ℕ) (b a : List Placed) → IsOperand x d b a → Good b → FitsOperand x d a
  fits_operand d b a (literal {n} is) good =
      let f = fits_number n d b a is good in
      let prints' : (e : ℕ) → e ≤ d → Prints (decimal n) (IsOperand (tree.constant n) e) = λ e h. same_part (decimal n) (number n e) (IsOperand (tree.constant n) e) (f.prints e h) (λ x y s. literal s) in
      record { whole = λ e h. alone_expr (tree.constant n) (decimal n) e (prints' e h); operand = prints'; good = f.good }
  fits_operand d b a (read {t} is) good =
      let f = fits_target t d b a is good in
      let prints' : (e : ℕ) → e ≤ d → Prints (target_text t) (IsOperand (tree.reading t) e) = λ e h. same_part (target_text t) (target t e) (IsOperand (tree.reading t) e) (f.prints e h) (λ x y s. read s) in
      record { whole = λ e h. alone_expr (tree.reading t) (target_text t) e (prints' e h); operand = prints'; good = f.good }
  fits_operand d b a (grouped {e = x} inside closing open' is close) good =
      let o = head (λ w. w.text ≡ codes "(") (suc d) b inside open' good in
      let f = fits_expr (suc d) inside closing is o.good in
      let c = head (λ w. w.text ≡ codes ")") d closing a close f.good in
      record { whole = λ e h. f.whole e (omega (arith, h)); operand = λ e h. operand_inside x d e closing o.low f h; good = c.good }

  pub fits_expr : {x : ExprTree} (d : ℕ) (b a : List Placed) → IsExpr x d b a → Good b → FitsExpr x d a
  fits_expr d b a (members {first = x} next first (none is)) good =
      let f = fits_operand d b next first good in
      record { whole = f.whole; operand = λ no. f.operand; good = subst Good is f.good }
  fits_expr d b a (members {first = x} next first (more {s} {e = y} {rest = ys} start next' is second others)) good =
      let f = fits_operand d b next first good in
      let h = sign_head s d next start is f.good in
      let g = fits_operand d start next' second h.1 in
      let r = fits_summands d next' a others g.good in
      record {
        whole = λ e low. same_part (operand_text x ++ summands_text (tree.summand s y ys)) ((IsOperand x ⨾ IsSummands (tree.summand s y ys)) e) (IsExpr (tree.sum x (tree.summand s y ys)) e)
            (both (operand_text x) (summands_text (tree.summand s y ys)) (IsOperand x) (IsSummands (tree.summand s y ys)) e (f.operand e low) (prints_summand s y ys e (lower e d low h.0) (g.operand e low) (r.prints e low)) (summands_off (tree.summand s y ys)))
            (λ b' a' is'. members is'.0 is'.1 is'.2);
        operand = λ no. absurd (true≢false no);
        good = r.good;
      }

  fits_summands : {xs : SummandTrees} (d : ℕ) (b a : List Placed) → IsSummands xs d b a → Good b → Fits (summands_text xs) (IsSummands xs) d a
  fits_summands d b a (none is) good = record { prints = λ e low. no_text (IsSummands tree.no_summands e) (λ x y s. none s); good = subst Good is good }
  fits_summands d b a (more {s} {e = y} {rest = ys} start next is second others) good =
      let h = sign_head s d b start is good in
      let g = fits_operand d start next second h.1 in
      let r = fits_summands d next a others g.good in
      record { prints = λ e low. prints_summand s y ys e (lower e d low h.0) (g.operand e low) (r.prints e low); good = r.good }
