-- The texts of instructions and blocks are read as them.
use Rattle.std.proofs.Common.{◌≡◌, ℕ, suc, ◌≤◌, true, List, [], ◌∷◌, ◌++◌, codes, decimal, refl, sym, ap, ◌∙◌, subst, arith}
use Rattle.std.proofs.lemmas.List.{append_assoc}
use Rattle.sefl_lex.specs.Bytes.{is_blank}
use Rattle.sefl_lex.specs.Words.{is_name}
use Rattle.sefl_lex.specs.declared.token.TokenKind.TheVariants as kind
use Rattle.sefl_syntax.specs.Trees as tree
use Rattle.sefl_syntax.specs.Trees.{ExprTree, CondTree, InstrTree, CodeTree}
use Rattle.sefl_syntax.specs.TermText.{addr_text, target_text, expr_text, cond_text}
use Rattle.sefl_syntax.specs.CodeText.{more_ports_text, word_text, equation_text, quoted, fork_text, statement_text, deeper, if_heading, for_heading, block_heading, between_blocks, block_end, line_text, instr_text, code_text}
use Rattle.sefl_grammar.specs.Word.{Placed, bare}
use Rattle.sefl_grammar.specs.Grammar.{Spelling, ◌⨾◌, key, name, text, port, addr, target, IsExpr, IsCond, Version, old, new, equation, more_ports, ports, statement, IsInstr, plain, branch, each, block, IsBlock, braces, IsCode, no_instr, instr_first}
use Rattle.sefl_grammar.proofs.Cut.{Cut, blank, word, alone, apart}
use Rattle.sefl_grammar.proofs.Printing.{Part, Printed, Prints, Off, both, same_text, same_part, no_text, spaced, worded, keyed, prints_key, signed_text, sign_alone, Good, Fits, head, lower, assoc3, assoc4, assoc6, fits_name, fits_number_in, fits_text}
use Rattle.sefl_grammar.proofs.PrintedTerms.{fits_addr, fits_target, fits_expr}
use Rattle.sefl_grammar.proofs.PrintedConds.{fits_cond}
use Rattle.sefl_grammar.proofs.Signs.{open_brace, close_brace, semicolon, comma}

-- the text is read as the part, whatever byte follows
abbrev pub PrintsLine : List ℕ → Part → Type 0
PrintsLine text p = (rest : List ℕ) (after : List Placed) → Cut rest (bare after) → Printed text rest p after

pub line_end : (t : List ℕ) (p : Part) → Prints t p → PrintsLine (t ++ 10 ∷ []) p
line_end t p h rest after cut =
    let x = h (10 ∷ rest) after refl (blank 10 rest refl cut) in
    record { before = x.before; cut = subst (λ b. Cut b (bare x.before)) (sym (append_assoc t (10 ∷ []) rest)) x.cut; spelled = x.spelled; shallow = x.shallow }

pub line_both : (t u : List ℕ) (p q : Spelling) (d : ℕ) → PrintsLine t (p d) → PrintsLine u (q d) → PrintsLine (t ++ u) ((p ⨾ q) d)
line_both t u p q d first second rest after cut =
    let y = second rest after cut in
    let x = first (u ++ rest) y.before y.cut in
    record { before = x.before; cut = subst (λ b. Cut b (bare x.before)) (sym (append_assoc t u rest)) x.cut; spelled = (y.before, x.spelled, y.spelled); shallow = λ s. x.shallow (y.shallow s) }

pub line_part : (t : List ℕ) (p q : Part) → PrintsLine t p → ((before after : List Placed) → p before after → q before after) → PrintsLine t q
line_part t p q h f rest after cut = let x = h rest after cut in record { before = x.before; cut = x.cut; spelled = f x.before after x.spelled; shallow = x.shallow }

pub line_text_is : (t u : List ℕ) (p : Part) → PrintsLine u p → t ≡ u → PrintsLine t p
line_text_is t u p h e = subst (λ x. PrintsLine x p) (sym e) h

pub no_line : (p : Part) → ((before after : List Placed) → before ≡ after → p before after) → PrintsLine [] p
no_line p h rest after cut = record { before = after; cut = cut; spelled = h after after refl; shallow = λ s. s }

-- blanks alone
abbrev pub AreBlank : List ℕ → Type 0
AreBlank [] = Unit {0}
AreBlank (c ∷ cs) = (is_blank c ≡ true) × AreBlank cs

blanks_append : (a b : List ℕ) → AreBlank a → AreBlank b → AreBlank (a ++ b)
blanks_append [] b h k = k
blanks_append (c ∷ a) b h k = (h.0, blanks_append a b h.1 k)

pub indented : (indent t : List ℕ) (p : Part) → AreBlank indent → Prints t p → Prints (indent ++ t) p
indented [] t p is h = h
indented (c ∷ indent) t p is h = spaced c (indent ++ t) p is.0 (indented indent t p is.1 h)

deeper_blank : (indent : List ℕ) → AreBlank indent → AreBlank (deeper indent)
unfolding deeper
deeper_blank indent is = blanks_append indent (codes "  ") is (refl, (refl, tt))

-- a part, and the semicolon behind it
pub prints_ended : (t : List ℕ) (p : Spelling) (e : ℕ) → e ≤ 64 → Prints t (p e) → Prints (t ++ 59 ∷ []) ((p ⨾ key (codes ";")) e)
prints_ended t p e low h = both t (59 ∷ []) p (key (codes ";")) e h (sign_alone 59 e low refl semicolon) (λ rest ok. refl)

-- a word of the language, a part and a semicolon
prints_word : (w t : List ℕ) (p : Spelling) (e : ℕ) → e ≤ 64 → is_name w ≡ true → Prints t (p e) → Prints (word_text w t) ((key w ⨾ p ⨾ key (codes ";")) e)
unfolding word_text
prints_word w t p e low is h =
    same_text (w ++ codes " " ++ t ++ codes ";") (w ++ 32 ∷ (t ++ 59 ∷ [])) ((key w ⨾ p ⨾ key (codes ";")) e) (keyed w (t ++ 59 ∷ []) e (p ⨾ key (codes ";")) low is (prints_ended t p e low h)) (assoc4 w (codes " ") t (codes ";"))

-- a sign between blanks, and a part behind it
pub prints_equals : (t : List ℕ) (q : Spelling) (e : ℕ) → e ≤ 64 → Prints t (q e) → Prints (32 ∷ (61 ∷ (32 ∷ t))) ((key (codes "=") ⨾ q) e)
prints_equals t q e low h =
    spaced 32 (61 ∷ (32 ∷ t)) ((key (codes "=") ⨾ q) e) refl (worded kind.Sign (codes "=") (32 ∷ t) e (λ w. w.text ≡ codes "=") q low refl (λ rest ok. apart 61 32 (t ++ rest) refl refl) (spaced 32 t (q e) refl h))

prints_equation : (w t u : List ℕ) (p q : Spelling) (e : ℕ) → e ≤ 64 → is_name w ≡ true → Prints t (p e) → Prints u (q e) → Prints (equation_text w t u) ((key w ⨾ equation p q) e)
unfolding equation_text
prints_equation w t u p q e low is left right =
    same_text (w ++ codes " " ++ t ++ codes " = " ++ u ++ codes ";") (w ++ 32 ∷ (t ++ (32 ∷ (61 ∷ (32 ∷ (u ++ 59 ∷ [])))))) ((key w ⨾ equation p q) e)
    (keyed w (t ++ (32 ∷ (61 ∷ (32 ∷ (u ++ 59 ∷ []))))) e (equation p q) low is
    (both t (32 ∷ (61 ∷ (32 ∷ (u ++ 59 ∷ [])))) p (key (codes "=") ⨾ q ⨾ key (codes ";")) e left (prints_equals (u ++ 59 ∷ []) (q ⨾ key (codes ";")) e low (prints_ended u q e low right)) (λ rest ok. refl)))
    (assoc6 w (codes " ") t (codes " = ") u (codes ";"))

prints_port : (n : ℕ) (t : List ℕ) (q : Spelling) (e : ℕ) → e ≤ 64 → Prints (decimal n) (port n e) → Prints t (q e) → Off t → Prints (44 ∷ (32 ∷ (decimal n ++ t))) ((key (codes ",") ⨾ port n ⨾ q) e)
prints_port n t q e low first others off =
    signed_text 44 (32 ∷ (decimal n ++ t)) e (port n ⨾ q) low refl comma (spaced 32 (decimal n ++ t) ((port n ⨾ q) e) refl (both (decimal n) t (port n) q e first others off))

more_ports_off : (ps : List ℕ) → Off (more_ports_text ps)
more_ports_off [] rest ok = ok
more_ports_off (p ∷ ps) rest ok = refl

fits_more_ports : (ps : List ℕ) (d : ℕ) (b a : List Placed) → more_ports ps d b a → Good b → Fits (more_ports_text ps) (more_ports ps) d a
fits_more_ports [] d b a is good = record { prints = λ e low. no_text (more_ports [] e) (λ x y s. s); good = subst Good is good }
fits_more_ports (p ∷ ps) d b a (m, is, (y, first, others)) good =
    let h = head (λ w. w.text ≡ codes ",") d b m is good in
    let f = fits_number_in 0 4294967295 p d m y first h.good in
    let g = fits_more_ports ps d y a others f.good in
    record {
      prints = λ e low.
          same_text (codes ", " ++ decimal p ++ more_ports_text ps) (44 ∷ (32 ∷ (decimal p ++ more_ports_text ps))) (more_ports (p ∷ ps) e)
          (prints_port p (more_ports_text ps) (more_ports ps) e (lower e d low h.low) (f.prints e low) (g.prints e low) (more_ports_off ps)) (assoc3 (codes ", ") (decimal p) (more_ports_text ps));
      good = g.good;
    }

-- a fork without ports and one with some
fork_none : (e : ℕ) → e ≤ 64 → Prints (fork_text []) ((key (codes "fork") ⨾ ports [] ⨾ key (codes ";")) e)
unfolding fork_text
fork_none e low =
    worded kind.Name (codes "fork") (59 ∷ []) e (λ w. w.text ≡ codes "fork") (ports [] ⨾ key (codes ";")) low refl (λ rest ok. (refl, refl))
    (same_part (59 ∷ []) (key (codes ";") e) ((ports [] ⨾ key (codes ";")) e) (sign_alone 59 e low refl semicolon) (λ x y s. (x, refl, s)))

fork_some : (p : ℕ) (ps : List ℕ) (e : ℕ) → e ≤ 64 → Prints (decimal p) (port p e) → Prints (more_ports_text ps) (more_ports ps e) → Prints (fork_text (p ∷ ps)) ((key (codes "fork") ⨾ ports (p ∷ ps) ⨾ key (codes ";")) e)
unfolding fork_text
fork_some p ps e low first others =
    same_text (codes "fork" ++ (codes " " ++ decimal p ++ more_ports_text ps) ++ codes ";") (codes "fork" ++ 32 ∷ ((decimal p ++ more_ports_text ps) ++ 59 ∷ [])) ((key (codes "fork") ⨾ ports (p ∷ ps) ⨾ key (codes ";")) e)
    (keyed (codes "fork") ((decimal p ++ more_ports_text ps) ++ 59 ∷ []) e (ports (p ∷ ps) ⨾ key (codes ";")) low refl
    (prints_ended (decimal p ++ more_ports_text ps) (ports (p ∷ ps)) e low (both (decimal p) (more_ports_text ps) (port p) (more_ports ps) e first others (more_ports_off ps))))
    (assoc3 (codes "fork") (codes " " ++ decimal p ++ more_ports_text ps) (codes ";") ∙ ap (λ x. codes "fork" ++ (x ++ codes ";")) (assoc3 (codes " ") (decimal p) (more_ports_text ps)))

fits_fork : (ps : List ℕ) (d : ℕ) (b a : List Placed) → (key (codes "fork") ⨾ ports ps ⨾ key (codes ";")) d b a → Good b → Fits (fork_text ps) (key (codes "fork") ⨾ ports ps ⨾ key (codes ";")) d a
fits_fork [] d b a (m, is, (m', none, end)) good =
    let h = head (λ w. w.text ≡ codes "fork") d b m is good in
    let k = head (λ w. w.text ≡ codes ";") d m' a end (subst Good none h.good) in
    record { prints = λ e low. fork_none e (lower e d low h.low); good = k.good }
fits_fork (p ∷ ps) d b a (m, is, (m', (x, first, others), end)) good =
    let h = head (λ w. w.text ≡ codes "fork") d b m is good in
    let f = fits_number_in 0 4294967295 p d m x first h.good in
    let g = fits_more_ports ps d x m' others f.good in
    let k = head (λ w. w.text ≡ codes ";") d m' a end g.good in
    record { prints = λ e low. fork_some p ps e (lower e d low h.low) (f.prints e low) (g.prints e low); good = k.good }

-- a part between a word and a semicolon
fits_word : (w t : List ℕ) (p : Spelling) (d : ℕ) (b a : List Placed) → (key w ⨾ p ⨾ key (codes ";")) d b a → Good b → is_name w ≡ true → ((b' a' : List Placed) → p d b' a' → Good b' → Fits t p d a') → Fits (word_text w t) (key w ⨾ p ⨾ key (codes ";")) d a
fits_word w t p d b a (m, is, (m', part, end)) good valid fits =
    let h = head (λ x. x.text ≡ w) d b m is good in
    let f = fits m m' part h.good in
    let k = head (λ x. x.text ≡ codes ";") d m' a end f.good in
    record { prints = λ e low. prints_word w t p e (lower e d low h.low) valid (f.prints e low); good = k.good }

-- two parts with the sign of an equation between them, behind a word; the word that is printed may be another
fits_equation : (w w' t u : List ℕ) (p q : Spelling) (d : ℕ) (b a : List Placed) → (key w ⨾ equation p q) d b a → Good b → is_name w' ≡ true → ((b' a' : List Placed) → p d b' a' → Good b' → Fits t p d a') → ((b' a' : List Placed) → q d b' a' → Good b' → Fits u q d a')
    → Fits (equation_text w' t u) (key w' ⨾ equation p q) d a
fits_equation w w' t u p q d b a (m, is, (m1, left, (m2, eq, (m3, right, end)))) good valid first second =
    let h = head (λ x. x.text ≡ w) d b m is good in
    let f = first m m1 left h.good in
    let k = head (λ x. x.text ≡ codes "=") d m1 m2 eq f.good in
    let g = second m2 m3 right k.good in
    let l = head (λ x. x.text ≡ codes ";") d m3 a end g.good in
    record { prints = λ e low. prints_equation w' t u p q e (lower e d low h.low) valid (f.prints e low) (g.prints e low); good = l.good }

whole_expr : (x : ExprTree) (d : ℕ) (b a : List Placed) → IsExpr x d b a → Good b → Fits (expr_text x) (IsExpr x) d a
whole_expr x d b a is good = let f = fits_expr d b a is good in record { prints = f.whole; good = f.good }

fits_any : (d : ℕ) (b a : List Placed) → key (codes "any") d b a → Good b → Fits (codes "any") (key (codes "any")) d a
fits_any d b a is good = let h = head (λ x. x.text ≡ codes "any") d b a is good in record { prints = λ e low. prints_key (codes "any") e (lower e d low h.low) refl; good = h.good }

pub quoted_fits : (t : List ℕ) (d : ℕ) (b a : List Placed) → text t d b a → Good b → Fits (quoted t) (text t) d a
unfolding quoted
quoted_fits t d b a is good = fits_text t d b a is good

-- an instruction that stands prints on a line of its own
record FitsInstr (i : InstrTree) (d : ℕ) (a : List Placed) : Type 0 where
  prints : (indent : List ℕ) → AreBlank indent → (e : ℕ) → e ≤ d → PrintsLine (instr_text indent i) (IsInstr new i e)
  good : Good a

on_line : (i : InstrTree) (d : ℕ) (a : List Placed) → ((indent : List ℕ) → instr_text indent i ≡ line_text indent (statement_text i)) → Fits (statement_text i) (statement new i) d a → FitsInstr i d a
unfolding line_text
on_line i d a same f = record {
  prints = λ indent is e low.
      line_text_is (instr_text indent i) (indent ++ statement_text i ++ 10 ∷ []) (IsInstr new i e)
      (line_part (indent ++ statement_text i ++ 10 ∷ []) (statement new i e) (IsInstr new i e) (line_end (indent ++ statement_text i) (statement new i e) (indented indent (statement_text i) (statement new i e) is (f.prints e low))) (λ x y s. plain s))
      (same indent);
  good = f.good;
}

fits_statement : (v : Version) (i : InstrTree) (d : ℕ) (b a : List Placed) → statement v i d b a → Good b → FitsInstr i d a
fits_statement v (tree.allocate t) d b a is good = on_line (tree.allocate t) d a (λ indent. refl) (fits_word (codes "allocate") (target_text t) (target t) d b a is good refl (fits_target t d))
fits_statement v (tree.deallocate t) d b a is good = on_line (tree.deallocate t) d a (λ indent. refl) (fits_word (codes "deallocate") (target_text t) (target t) d b a is good refl (fits_target t d))
fits_statement v (tree.assign t x) d b a is good = on_line (tree.assign t x) d a (λ indent. refl) (fits_equation (codes "set") (codes "set") (target_text t) (expr_text x) (target t) (IsExpr x) d b a is good refl (fits_target t d) (whole_expr x d))
fits_statement v (tree.assign_any t) d b a is good = on_line (tree.assign_any t) d a (λ indent. refl) (fits_equation (codes "set") (codes "set") (target_text t) (codes "any") (target t) (key (codes "any")) d b a is good refl (fits_target t d) (fits_any d))
fits_statement old (tree.create_tag n x) d b a is good = absurd is
fits_statement new (tree.create_tag n x) d b a is good = on_line (tree.create_tag n x) d a (λ indent. refl) (fits_equation (codes "tag") (codes "tag") n (addr_text x) (name n) (addr x) d b a is good refl (fits_name n d) (fits_addr x d))
fits_statement old (tree.set_tag n x) d b a is good = on_line (tree.set_tag n x) d a (λ indent. refl) (fits_equation (codes "tag") (codes "retag") n (addr_text x) (name n) (addr x) d b a is good refl (fits_name n d) (fits_addr x d))
fits_statement new (tree.set_tag n x) d b a is good = on_line (tree.set_tag n x) d a (λ indent. refl) (fits_equation (codes "retag") (codes "retag") n (addr_text x) (name n) (addr x) d b a is good refl (fits_name n d) (fits_addr x d))
fits_statement v (tree.destroy_tag n) d b a is good = on_line (tree.destroy_tag n) d a (λ indent. refl) (fits_word (codes "untag") n (name n) d b a is good refl (fits_name n d))
fits_statement v (tree.constrain c) d b a is good = on_line (tree.constrain c) d a (λ indent. refl) (fits_word (codes "constrain") (cond_text c) (IsCond c) d b a is good refl (fits_cond c d))
fits_statement v (tree.fail t) d b a is good = on_line (tree.fail t) d a (λ indent. refl) (fits_word (codes "fail") (quoted t) (text t) d b a is good refl (quoted_fits t d))
fits_statement v (tree.forward p) d b a is good = on_line (tree.forward p) d a (λ indent. refl) (fits_word (codes "forward") (decimal p) (port p) d b a is good refl (fits_number_in 0 4294967295 p d))
fits_statement v (tree.fork ps) d b a is good = on_line (tree.fork ps) d a (λ indent. refl) (fits_fork ps d b a is good)
fits_statement v tree.no_op d b a (m, is, end) good =
    let h = head (λ x. x.text ≡ codes "noop") d b m is good in
    let k = head (λ x. x.text ≡ codes ";") d m a end h.good in
    on_line tree.no_op d a (λ indent. refl) (record {
      prints = λ e low. worded kind.Name (codes "noop") (59 ∷ []) e (λ w. w.text ≡ codes "noop") (key (codes ";")) (lower e d low h.low) refl (λ rest ok. (refl, refl)) (sign_alone 59 e (lower e d low h.low) refl semicolon);
      good = k.good;
    })
fits_statement v (tree.branch c first other) d b a is good = absurd is
fits_statement v (tree.each var pattern body) d b a is good = absurd is
fits_statement v (tree.block body) d b a is good = absurd is

-- a block from its opening brace to its closing one
abbrev pub braced_text : List ℕ → List ℕ → CodeTree → List ℕ
braced_text inner outer c = 123 ∷ (10 ∷ (code_text inner c ++ (outer ++ 125 ∷ [])))

pub prints_braced : (inner outer : List ℕ) (c : CodeTree) (e : ℕ) → suc e ≤ 64 → AreBlank outer → PrintsLine (code_text inner c) (IsCode new c (suc e)) → Prints (braced_text inner outer c) (IsBlock new c e)
prints_braced inner outer c e low is h rest after ok cut =
    let close = indented outer (125 ∷ []) (key (codes "}") e) is (sign_alone 125 e (omega (arith, low)) refl close_brace) rest after ok cut in
    let code = h ((outer ++ 125 ∷ []) ++ rest) close.before close.cut in
    record {
      before = record { word = record { kind = kind.Sign; text = codes "{" }; depth = suc e } ∷ code.before;
      cut = word kind.Sign (codes "{") (10 ∷ ((code_text inner c ++ (outer ++ 125 ∷ [])) ++ rest)) (alone 123 (10 ∷ ((code_text inner c ++ (outer ++ 125 ∷ [])) ++ rest)) refl open_brace)
          (blank 10 ((code_text inner c ++ (outer ++ 125 ∷ [])) ++ rest) refl (subst (λ x. Cut x (bare code.before)) (sym (append_assoc (code_text inner c) (outer ++ 125 ∷ []) rest)) code.cut));
      spelled = braces code.before close.before (record { kind = kind.Sign; text = codes "{" }, refl, refl) code.spelled close.spelled;
      shallow = λ s. (low, code.shallow (close.shallow s));
    }

-- the shapes of the texts with blocks
branch_shape : (i t c d : List ℕ) → (i ++ codes "if " ++ t ++ codes " {\n") ++ c ++ (i ++ codes "} else {\n") ++ d ++ (i ++ codes "}\n")
    ≡ i ++ (codes "if" ++ 32 ∷ (t ++ (32 ∷ ((123 ∷ (10 ∷ (c ++ (i ++ 125 ∷ [])))) ++ (32 ∷ (codes "else" ++ 32 ∷ (123 ∷ (10 ∷ (d ++ (i ++ 125 ∷ [])))))))))) ++ 10 ∷ []
branch_shape i t c d = simp append_assoc refl

loop_shape : (i var p c : List ℕ) → (i ++ codes "for " ++ var ++ codes " in " ++ p ++ codes " {\n") ++ c ++ (i ++ codes "}\n")
    ≡ i ++ (codes "for" ++ 32 ∷ (var ++ (32 ∷ (codes "in" ++ 32 ∷ (p ++ (32 ∷ (123 ∷ (10 ∷ (c ++ (i ++ 125 ∷ [])))))))))) ++ 10 ∷ []
loop_shape i var p c = simp append_assoc refl

block_shape : (i c : List ℕ) → (i ++ codes "{\n") ++ c ++ (i ++ codes "}\n") ≡ i ++ (123 ∷ (10 ∷ (c ++ (i ++ 125 ∷ [])))) ++ 10 ∷ []
block_shape i c = simp append_assoc refl

-- code that stands prints line by line
pub record FitsCode (c : CodeTree) (d : ℕ) (a : List Placed) : Type 0 where
  pub prints : (indent : List ℕ) → AreBlank indent → (e : ℕ) → e ≤ d → PrintsLine (code_text indent c) (IsCode new c e)
  pub good : Good a

-- and so does a block, one step deeper
pub record FitsBlock (c : CodeTree) (d : ℕ) (a : List Placed) : Type 0 where
  pub prints : (inner outer : List ℕ) → AreBlank inner → AreBlank outer → (e : ℕ) → e ≤ d → Prints (braced_text inner outer c) (IsBlock new c e)
  pub good : Good a

branch_line : (indent : List ℕ) (c : CondTree) (first other : CodeTree) (e : ℕ) → e ≤ 64 → AreBlank indent → Prints (cond_text c) (IsCond c e) → Prints (braced_text (deeper indent) indent first) (IsBlock new first e) → Prints (braced_text (deeper indent) indent other) (IsBlock new other e)
    → PrintsLine (instr_text indent (tree.branch c first other)) (IsInstr new (tree.branch c first other) e)
unfolding if_heading between_blocks block_end
branch_line indent c first other e low is test one two =
    let behind = spaced 32 _ ((key (codes "else") ⨾ IsBlock new other) e) refl (keyed (codes "else") (braced_text (deeper indent) indent other) e (IsBlock new other) low refl two) in
    let blocks = spaced 32 _ ((IsBlock new first ⨾ key (codes "else") ⨾ IsBlock new other) e) refl (both (braced_text (deeper indent) indent first) _ (IsBlock new first) (key (codes "else") ⨾ IsBlock new other) e one behind (λ rest ok. refl)) in
    let whole = keyed (codes "if") _ e (IsCond c ⨾ IsBlock new first ⨾ key (codes "else") ⨾ IsBlock new other) low refl (both (cond_text c) _ (IsCond c) (IsBlock new first ⨾ key (codes "else") ⨾ IsBlock new other) e test blocks (λ rest ok. refl)) in
    line_text_is (instr_text indent (tree.branch c first other)) _ (IsInstr new (tree.branch c first other) e)
    (line_part _ ((key (codes "if") ⨾ IsCond c ⨾ IsBlock new first ⨾ key (codes "else") ⨾ IsBlock new other) e) (IsInstr new (tree.branch c first other) e)
    (line_end _ ((key (codes "if") ⨾ IsCond c ⨾ IsBlock new first ⨾ key (codes "else") ⨾ IsBlock new other) e) (indented indent _ ((key (codes "if") ⨾ IsCond c ⨾ IsBlock new first ⨾ key (codes "else") ⨾ IsBlock new other) e) is whole))
    (λ x y s. branch s.2.0 s.2.2.0 s.2.2.2.0 (s.0, s.1, s.2.1) s.2.2.1 s.2.2.2.1 s.2.2.2.2))
    (branch_shape indent (cond_text c) (code_text (deeper indent) first) (code_text (deeper indent) other))

loop_line : (indent var pattern : List ℕ) (body : CodeTree) (e : ℕ) → e ≤ 64 → AreBlank indent → Prints var (name var e) → Prints (quoted pattern) (text pattern e) → Prints (braced_text (deeper indent) indent body) (IsBlock new body e)
    → PrintsLine (instr_text indent (tree.each var pattern body)) (IsInstr new (tree.each var pattern body) e)
unfolding for_heading block_end
loop_line indent var pattern body e low is named quoted' code =
    let inner = spaced 32 _ (IsBlock new body e) refl code in
    let behind = spaced 32 _ ((key (codes "in") ⨾ text pattern ⨾ IsBlock new body) e) refl (keyed (codes "in") _ e (text pattern ⨾ IsBlock new body) low refl (both (quoted pattern) _ (text pattern) (IsBlock new body) e quoted' inner (λ rest ok. refl))) in
    let whole = keyed (codes "for") _ e (name var ⨾ key (codes "in") ⨾ text pattern ⨾ IsBlock new body) low refl (both var _ (name var) (key (codes "in") ⨾ text pattern ⨾ IsBlock new body) e named behind (λ rest ok. refl)) in
    line_text_is (instr_text indent (tree.each var pattern body)) _ (IsInstr new (tree.each var pattern body) e)
    (line_part _ ((key (codes "for") ⨾ name var ⨾ key (codes "in") ⨾ text pattern ⨾ IsBlock new body) e) (IsInstr new (tree.each var pattern body) e)
    (line_end _ ((key (codes "for") ⨾ name var ⨾ key (codes "in") ⨾ text pattern ⨾ IsBlock new body) e) (indented indent _ ((key (codes "for") ⨾ name var ⨾ key (codes "in") ⨾ text pattern ⨾ IsBlock new body) e) is whole))
    (λ x y s. each s.2.2.2.0 (s.0, s.1, (s.2.0, s.2.1, (s.2.2.0, s.2.2.1, s.2.2.2.1))) s.2.2.2.2))
    (loop_shape indent var (quoted pattern) (code_text (deeper indent) body))

block_line : (indent : List ℕ) (body : CodeTree) (e : ℕ) → AreBlank indent → Prints (braced_text (deeper indent) indent body) (IsBlock new body e) → PrintsLine (instr_text indent (tree.block body)) (IsInstr new (tree.block body) e)
unfolding block_heading block_end
block_line indent body e is code =
    line_text_is (instr_text indent (tree.block body)) (indent ++ braced_text (deeper indent) indent body ++ 10 ∷ []) (IsInstr new (tree.block body) e)
    (line_part _ (IsBlock new body e) (IsInstr new (tree.block body) e) (line_end (indent ++ braced_text (deeper indent) indent body) (IsBlock new body e) (indented indent (braced_text (deeper indent) indent body) (IsBlock new body e) is code)) (λ x y s. block s))
    (block_shape indent (code_text (deeper indent) body))

mutual
  fits_instr : {v : Version} {i : InstrTree} (d : ℕ) (b a : List Placed) → IsInstr v i d b a → Good b → FitsInstr i d a
  fits_instr d b a (plain {v} {i} is) good = fits_statement v i d b a is good
  fits_instr d b a (branch {c} {first} {other} m1 m2 m3 (m, is, test) one is' two) good =
      let h = head (λ x. x.text ≡ codes "if") d b m is good in
      let t = fits_cond c d m m1 test h.good in
      let f = fits_block d m1 m2 one t.good in
      let k = head (λ x. x.text ≡ codes "else") d m2 m3 is' f.good in
      let g = fits_block d m3 a two k.good in
      record {
        prints = λ indent blank' e low. branch_line indent c first other e (lower e d low h.low) blank' (t.prints e low) (f.prints (deeper indent) indent (deeper_blank indent blank') blank' e low) (g.prints (deeper indent) indent (deeper_blank indent blank') blank' e low);
        good = g.good;
      }
  fits_instr d b a (each {var} {pattern} {body} next (m, is, (m1, named, (m2, is', quoted'))) code) good =
      let h = head (λ x. x.text ≡ codes "for") d b m is good in
      let n = fits_name var d m m1 named h.good in
      let k = head (λ x. x.text ≡ codes "in") d m1 m2 is' n.good in
      let q = quoted_fits pattern d m2 next quoted' k.good in
      let f = fits_block d next a code q.good in
      record {
        prints = λ indent blank' e low. loop_line indent var pattern body e (lower e d low h.low) blank' (n.prints e low) (q.prints e low) (f.prints (deeper indent) indent (deeper_blank indent blank') blank' e low);
        good = f.good;
      }
  fits_instr d b a (block {body} code) good =
      let f = fits_block d b a code good in
      record { prints = λ indent blank' e low. block_line indent body e blank' (f.prints (deeper indent) indent (deeper_blank indent blank') blank' e low); good = f.good }

  pub fits_block : {v : Version} {c : CodeTree} (d : ℕ) (b a : List Placed) → IsBlock v c d b a → Good b → FitsBlock c d a
  fits_block d b a (braces {code = c} inside closing open' code close) good =
      let h = head (λ x. x.text ≡ codes "{") (suc d) b inside open' good in
      let f = fits_code (suc d) inside closing code h.good in
      let k = head (λ x. x.text ≡ codes "}") d closing a close f.good in
      record {
        prints = λ inner outer blank' blank'' e low.
            let deep : suc e ≤ 64 = let l = h.low in omega (arith, low, l) in
            prints_braced inner outer c e deep blank'' (f.prints inner blank' (suc e) (omega (arith, low)));
        good = k.good;
      }

  fits_code : {v : Version} {c : CodeTree} (d : ℕ) (b a : List Placed) → IsCode v c d b a → Good b → FitsCode c d a
  fits_code d b a (no_instr is) good = record { prints = λ indent blank' e low. no_line (IsCode new tree.no_code e) (λ x y s. no_instr s); good = subst Good is good }
  fits_code d b a (instr_first {i} {code = c} next first code) good =
      let f = fits_instr d b next first good in
      let g = fits_code d next a code f.good in
      record {
        prints = λ indent blank' e low.
            line_part (instr_text indent i ++ code_text indent c) ((IsInstr new i ⨾ IsCode new c) e) (IsCode new (tree.instr_and i c) e)
            (line_both (instr_text indent i) (code_text indent c) (IsInstr new i) (IsCode new c) e (f.prints indent blank' e low) (g.prints indent blank' e low)) (λ x y s. instr_first s.0 s.1 s.2);
        good = g.good;
      }
