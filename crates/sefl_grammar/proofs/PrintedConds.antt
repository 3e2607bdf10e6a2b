-- The texts of ranges and conditions are read as them.
use Rattle.std.proofs.Common.{◌≡◌, ℕ, suc, ◌^◌, ◌<◌, ◌≤◌, ◌==◌, inl, inr, Bool, true, false, List, [], ◌∷◌, ◌++◌, codes, decimal, if◌then◌else◌, refl, sym, subst, true≢false, arith}
use Rattle.std.proofs.lemmas.List.{append_assoc}
use Rattle.std.proofs.lemmas.Bool.Decides.{nat_tests}
use Rattle.sn_width.specs.Rel.{sign_of}
use Rattle.sn_width.specs.declared.rel.Rel.{Rel}
use Rattle.sn_width.specs.declared.rel.Rel.TheVariants.{Eq, Ne, Lt, Le, Gt, Ge}
use Rattle.sefl_lex.specs.declared.token.TokenKind.TheVariants as kind
use Rattle.sefl_syntax.specs.Trees as tree
use Rattle.sefl_syntax.specs.Trees.{ExprTree, CondTree, CondTrees}
use Rattle.sefl_syntax.specs.TermText.{expr_text, range_text, more_ranges_text, ranges_text, needs_brackets, bracketed as bracketed_text, cond_text, more_conds_text}
use Rattle.sefl_syntax.specs.declared.cond.Joint.TheVariants.{All, Any}
use Rattle.sefl_grammar.specs.Word.{Placed, bare}
use Rattle.sefl_grammar.specs.Grammar.{Spelling, ◌⨾◌, key, number, rel, range, more_ranges, ranges, IsExpr, IsNeg, opposite, truth, bracketed, comparison, membership, IsConj, all, AreNegs, no_neg, and_neg, IsCond, any, AreConjs, no_conj, or_conj}
use Rattle.sefl_grammar.proofs.Cut.{Cut, word, alone, pair, apart}
use Rattle.sefl_grammar.proofs.Printing.{Prints, Off, both, same_text, same_part, no_text, spaced, worded, keyed, prints_key, signed_text, sign_alone, prints_number, Good, Fits, head, lower, assoc3, assoc4, assoc5, number_fits}
use Rattle.sefl_grammar.proofs.PrintedTerms.{fits_expr}
use Rattle.sefl_grammar.proofs.Signs.{open_brace, close_brace, open_bracket, close_bracket, comma}

-- the numbers of a range that stands
record RangeStands (r : ℕ × ℕ) (d : ℕ) (a : List Placed) : Type 0 where
  first : r.0 < 2 ^ 128
  last : r.1 < 2 ^ 128
  low : d ≤ 64
  good : Good a

range_stands : (r : ℕ × ℕ) (d : ℕ) (b a : List Placed) → range r d b a → Good b → RangeStands r d a
range_stands r d b a (inl (m, first', (m', dots, last'))) good =
    let h = head (λ w. (w.kind ≡ kind.Number) × (_ ≡ r.0)) d b m first' good in
    let k = head (λ w. w.text ≡ codes "..") d m m' dots h.good in
    let l = head (λ w. (w.kind ≡ kind.Number) × (_ ≡ r.1)) d m' a last' k.good in
    record { first = number_fits r.0 d b m first' good; last = number_fits r.1 d m' a last' k.good; low = h.low; good = l.good }
range_stands r d b a (inr (same, first')) good =
    let h = head (λ w. (w.kind ≡ kind.Number) × (_ ≡ r.0)) d b a first' good in
    let first'' = number_fits r.0 d b a first' good in
    record { first = first''; last = subst (λ n. n < 2 ^ 128) (sym same) first''; low = h.low; good = h.good }

prints_range_by : (r : ℕ × ℕ) (e : ℕ) (same : Bool) → (r.0 == r.1) ≡ same → e ≤ 64 → r.0 < 2 ^ 128 → r.1 < 2 ^ 128 → Prints (if same then decimal r.0 else (decimal r.0 ++ codes ".." ++ decimal r.1)) (range r e)
prints_range_by r e true is low first' last' = same_part (decimal r.0) (number r.0 e) (range r e) (prints_number r.0 e low first') (λ x y s. inr (sym (grind (arith, nat_tests)), s))
prints_range_by r e false is low first' last' =
    same_text (decimal r.0 ++ codes ".." ++ decimal r.1) (decimal r.0 ++ (46 ∷ (46 ∷ decimal r.1))) (range r e)
    (same_part (decimal r.0 ++ (46 ∷ (46 ∷ decimal r.1))) ((number r.0 ⨾ key (codes "..") ⨾ number r.1) e) (range r e)
    (both (decimal r.0) (46 ∷ (46 ∷ decimal r.1)) (number r.0) (key (codes "..") ⨾ number r.1) e (prints_number r.0 e low first')
    (worded kind.Sign (codes "..") (decimal r.1) e (λ w. w.text ≡ codes "..") (number r.1) low refl (λ rest ok. pair 46 46 (decimal r.1 ++ rest) refl) (prints_number r.1 e low last'))
    (λ rest ok. refl)) (λ x y s. inl s))
    (assoc3 (decimal r.0) (codes "..") (decimal r.1))

prints_range : (r : ℕ × ℕ) (e : ℕ) → e ≤ 64 → r.0 < 2 ^ 128 → r.1 < 2 ^ 128 → Prints (range_text r) (range r e)
unfolding range_text
prints_range r e low first' last' = prints_range_by r e (r.0 == r.1) refl low first' last'

more_off : (rs : List (ℕ × ℕ)) → Off (more_ranges_text rs)
more_off [] rest ok = ok
more_off (r ∷ rs) rest ok = refl

prints_more_range : (r : ℕ × ℕ) (rs : List (ℕ × ℕ)) (e : ℕ) → e ≤ 64 → Prints (range_text r) (range r e) → Prints (more_ranges_text rs) (more_ranges rs e) → Prints (more_ranges_text (r ∷ rs)) (more_ranges (r ∷ rs) e)
prints_more_range r rs e low first' others =
    same_text (codes ", " ++ range_text r ++ more_ranges_text rs) (44 ∷ (32 ∷ (range_text r ++ more_ranges_text rs))) (more_ranges (r ∷ rs) e)
    (signed_text 44 (32 ∷ (range_text r ++ more_ranges_text rs)) e (range r ⨾ more_ranges rs) low refl comma (spaced 32 (range_text r ++ more_ranges_text rs) ((range r ⨾ more_ranges rs) e) refl (both (range_text r) (more_ranges_text rs) (range r) (more_ranges rs) e first' others (more_off rs))))
    (assoc3 (codes ", ") (range_text r) (more_ranges_text rs))

fits_more_ranges : (rs : List (ℕ × ℕ)) (d : ℕ) (b a : List Placed) → more_ranges rs d b a → Good b → Fits (more_ranges_text rs) (more_ranges rs) d a
fits_more_ranges [] d b a is good = record { prints = λ e low. no_text (more_ranges [] e) (λ x y s. s); good = subst Good is good }
fits_more_ranges (r ∷ rs) d b a (m, is, (y, first', others)) good =
    let h = head (λ w. w.text ≡ codes ",") d b m is good in
    let f = range_stands r d m y first' h.good in
    let g = fits_more_ranges rs d y a others f.good in
    record { prints = λ e low. prints_more_range r rs e (lower e d low h.low) (prints_range r e (lower e d low h.low) f.first f.last) (g.prints e low); good = g.good }

fits_ranges : (rs : List (ℕ × ℕ)) (d : ℕ) (b a : List Placed) → ranges rs d b a → Good b → Fits (ranges_text rs) (ranges rs) d a
fits_ranges [] d b a is good = absurd is
fits_ranges (r ∷ rs) d b a (m, first', others) good =
    let f = range_stands r d b m first' good in
    let g = fits_more_ranges rs d m a others f.good in
    record { prints = λ e low. both (range_text r) (more_ranges_text rs) (range r) (more_ranges rs) e (prints_range r e (lower e d low f.low) f.first f.last) (g.prints e low) (more_off rs); good = g.good }

-- the sign of a relation, between blanks, before a text
prints_rel : (r : Rel) (t : List ℕ) (e : ℕ) (q : Spelling) → e ≤ 64 → Prints t (q e) → Prints (32 ∷ (sign_of r ++ 32 ∷ t)) ((rel r ⨾ q) e)
prints_rel Eq t e q low h = spaced 32 _ ((key (codes "==") ⨾ q) e) refl (worded kind.Sign (codes "==") (32 ∷ t) e (λ w. w.text ≡ codes "==") q low refl (λ rest ok. pair 61 61 ((32 ∷ t) ++ rest) refl) (spaced 32 t (q e) refl h))
prints_rel Ne t e q low h = spaced 32 _ ((key (codes "!=") ⨾ q) e) refl (worded kind.Sign (codes "!=") (32 ∷ t) e (λ w. w.text ≡ codes "!=") q low refl (λ rest ok. pair 33 61 ((32 ∷ t) ++ rest) refl) (spaced 32 t (q e) refl h))
prints_rel Lt t e q low h = spaced 32 _ ((key (codes "<") ⨾ q) e) refl (worded kind.Sign (codes "<") (32 ∷ t) e (λ w. w.text ≡ codes "<") q low refl (λ rest ok. apart 60 32 (t ++ rest) refl refl) (spaced 32 t (q e) refl h))
prints_rel Le t e q low h = spaced 32 _ ((key (codes "<=") ⨾ q) e) refl (worded kind.Sign (codes "<=") (32 ∷ t) e (λ w. w.text ≡ codes "<=") q low refl (λ rest ok. pair 60 61 ((32 ∷ t) ++ rest) refl) (spaced 32 t (q e) refl h))
prints_rel Gt t e q low h = spaced 32 _ ((key (codes ">") ⨾ q) e) refl (worded kind.Sign (codes ">") (32 ∷ t) e (λ w. w.text ≡ codes ">") q low refl (λ rest ok. apart 62 32 (t ++ rest) refl refl) (spaced 32 t (q e) refl h))
prints_rel Ge t e q low h = spaced 32 _ ((key (codes ">=") ⨾ q) e) refl (worded kind.Sign (codes ">=") (32 ∷ t) e (λ w. w.text ≡ codes ">=") q low refl (λ rest ok. pair 62 61 ((32 ∷ t) ++ rest) refl) (spaced 32 t (q e) refl h))

rel_head : (r : Rel) (d : ℕ) (b a : List Placed) → rel r d b a → Good b → (d ≤ 64) × Good a
rel_head Eq d b a is good = let h = head (λ w. w.text ≡ codes "==") d b a is good in (h.low, h.good)
rel_head Ne d b a is good = let h = head (λ w. w.text ≡ codes "!=") d b a is good in (h.low, h.good)
rel_head Lt d b a is good = let h = head (λ w. w.text ≡ codes "<") d b a is good in (h.low, h.good)
rel_head Le d b a is good = let h = head (λ w. w.text ≡ codes "<=") d b a is good in (h.low, h.good)
rel_head Gt d b a is good = let h = head (λ w. w.text ≡ codes ">") d b a is good in (h.low, h.good)
rel_head Ge d b a is good = let h = head (λ w. w.text ≡ codes ">=") d b a is good in (h.low, h.good)

fits_comparison : (r : Rel) (x y : ExprTree) (d : ℕ) (b a : List Placed) → (IsExpr x ⨾ rel r ⨾ IsExpr y) d b a → Good b → Fits (cond_text (tree.compare r x y)) (IsNeg (tree.compare r x y)) d a
fits_comparison r x y d b a (m, left, (m', is, right)) good =
    let f = fits_expr d b m left good in
    let h = rel_head r d m m' is f.good in
    let g = fits_expr d m' a right h.1 in
    record {
      prints = λ e low.
          same_text (cond_text (tree.compare r x y)) (expr_text x ++ (32 ∷ (sign_of r ++ 32 ∷ expr_text y))) (IsNeg (tree.compare r x y) e)
          (same_part (expr_text x ++ (32 ∷ (sign_of r ++ 32 ∷ expr_text y))) ((IsExpr x ⨾ rel r ⨾ IsExpr y) e) (IsNeg (tree.compare r x y) e)
          (both (expr_text x) (32 ∷ (sign_of r ++ 32 ∷ expr_text y)) (IsExpr x) (rel r ⨾ IsExpr y) e (f.whole e low) (prints_rel r (expr_text y) e (IsExpr y) (lower e d low h.0) (g.whole e low)) (λ rest ok. refl))
          (λ p q s. comparison s))
          (assoc5 (expr_text x) (codes " ") (sign_of r) (codes " ") (expr_text y));
      good = g.good;
    }

fits_membership : (x : ExprTree) (rs : List (ℕ × ℕ)) (d : ℕ) (b a : List Placed) → (IsExpr x ⨾ key (codes "in") ⨾ key (codes "{") ⨾ ranges rs ⨾ key (codes "}")) d b a → Good b → Fits (cond_text (tree.member x rs)) (IsNeg (tree.member x rs)) d a
fits_membership x rs d b a (m, value, (m1, is, (m2, brace, (m3, rs', close)))) good =
    let f = fits_expr d b m value good in
    let h = head (λ w. w.text ≡ codes "in") d m m1 is f.good in
    let k = head (λ w. w.text ≡ codes "{") d m1 m2 brace h.good in
    let g = fits_ranges rs d m2 m3 rs' k.good in
    let c = head (λ w. w.text ≡ codes "}") d m3 a close g.good in
    record {
      prints = λ e low.
          let low' = lower e d low h.low in
          let behind = both (ranges_text rs) (125 ∷ []) (ranges rs) (key (codes "}")) e (g.prints e low) (sign_alone 125 e low' refl close_brace) (λ rest ok. refl) in
          let braced = signed_text 123 (ranges_text rs ++ 125 ∷ []) e (ranges rs ⨾ key (codes "}")) low' refl open_brace behind in
          let within = spaced 32 _ ((key (codes "in") ⨾ key (codes "{") ⨾ ranges rs ⨾ key (codes "}")) e) refl (keyed (codes "in") (123 ∷ (ranges_text rs ++ 125 ∷ [])) e (key (codes "{") ⨾ ranges rs ⨾ key (codes "}")) low' refl braced) in
          same_text (cond_text (tree.member x rs)) (expr_text x ++ (32 ∷ (codes "in" ++ 32 ∷ (123 ∷ (ranges_text rs ++ 125 ∷ []))))) (IsNeg (tree.member x rs) e)
          (same_part (expr_text x ++ (32 ∷ (codes "in" ++ 32 ∷ (123 ∷ (ranges_text rs ++ 125 ∷ []))))) ((IsExpr x ⨾ key (codes "in") ⨾ key (codes "{") ⨾ ranges rs ⨾ key (codes "}")) e) (IsNeg (tree.member x rs) e)
          (both (expr_text x) (32 ∷ (codes "in" ++ 32 ∷ (123 ∷ (ranges_text rs ++ 125 ∷ [])))) (IsExpr x) (key (codes "in") ⨾ key (codes "{") ⨾ ranges rs ⨾ key (codes "}")) e (f.whole e low) within (λ rest ok. refl))
          (λ p q s. membership s))
          (assoc4 (expr_text x) (codes " in {") (ranges_text rs) (codes "}"));
      good = c.good;
    }

abbrev is_or : CondTree → Bool
is_or (tree.any_of cs) = true
is_or _ = false

abbrev is_chain : CondTree → Bool
is_chain (tree.any_of cs) = true
is_chain (tree.all_of cs) = true
is_chain _ = false

-- a condition that stands prints as one, and as a member of a chain where it needs no brackets
record FitsCond (c : CondTree) (d : ℕ) (a : List Placed) : Type 0 where
  cond : (e : ℕ) → e ≤ d → Prints (cond_text c) (IsCond c e)
  conj : is_or c ≡ false → (e : ℕ) → e ≤ d → Prints (cond_text c) (IsConj c e)
  neg : is_chain c ≡ false → (e : ℕ) → e ≤ d → Prints (cond_text c) (IsNeg c e)
  good : Good a

-- what is negated, and a member of an `and`
abbrev member_text : CondTree → List ℕ
member_text c = bracketed_text (needs_brackets All c) (cond_text c)

-- a member of an `or`
abbrev choice_text : CondTree → List ℕ
choice_text c = bracketed_text (needs_brackets Any c) (cond_text c)

record FitsNeg (c : CondTree) (d : ℕ) (a : List Placed) : Type 0 where
  fits : FitsCond c d a
  member : (e : ℕ) → e ≤ d → Prints (member_text c) (IsNeg c e)

record FitsConj (c : CondTree) (d : ℕ) (a : List Placed) : Type 0 where
  fits : FitsCond c d a
  choice : (e : ℕ) → e ≤ d → Prints (choice_text c) (IsConj c e)

as_conj : (c : CondTree) (t : List ℕ) (e : ℕ) → Prints t (IsNeg c e) → Prints t (IsConj c e)
as_conj c t e h = same_part t (IsNeg c e) (IsConj c e) h (λ b a is. all a is (no_neg refl))

as_cond : (c : CondTree) (t : List ℕ) (e : ℕ) → Prints t (IsConj c e) → Prints t (IsCond c e)
as_cond c t e h = same_part t (IsConj c e) (IsCond c e) h (λ b a is. any a is (no_conj refl))

-- a condition in brackets
in_brackets : (c : CondTree) (t : List ℕ) (e : ℕ) → suc e ≤ 64 → Prints t (IsCond c (suc e)) → Prints (codes "[" ++ t ++ codes "]") (IsNeg c e)
in_brackets c t e low h =
    same_text (codes "[" ++ t ++ codes "]") (91 ∷ (t ++ 93 ∷ [])) (IsNeg c e)
    (λ rest after ok cut.
    let close = sign_alone 93 e (omega (arith, low)) refl close_bracket rest after ok cut in
    let inner = h (93 ∷ rest) close.before refl close.cut in
    record {
      before = record { word = record { kind = kind.Sign; text = codes "[" }; depth = suc e } ∷ inner.before;
      cut = subst (λ y. Cut (91 ∷ y) (record { kind = kind.Sign; text = codes "[" } ∷ bare inner.before)) (sym (append_assoc t (93 ∷ []) rest)) (word kind.Sign (codes "[") (t ++ 93 ∷ rest) (alone 91 (t ++ 93 ∷ rest) refl open_bracket) inner.cut);
      spelled = bracketed inner.before close.before (record { kind = kind.Sign; text = codes "[" }, refl, refl) inner.spelled close.spelled;
      shallow = λ s. (low, inner.shallow (close.shallow s));
    })
    (assoc3 (codes "[") t (codes "]"))

-- what stands in brackets prints as a member
member_inside : (c : CondTree) (d e : ℕ) (a : List Placed) → suc d ≤ 64 → FitsCond c (suc d) a → e ≤ d → Prints (member_text c) (IsNeg c e)
member_inside tree.always d e a low f h = f.neg refl e (omega (arith, h))
member_inside (tree.compare r x y) d e a low f h = f.neg refl e (omega (arith, h))
member_inside (tree.member x rs) d e a low f h = f.neg refl e (omega (arith, h))
member_inside (tree.negation c) d e a low f h = f.neg refl e (omega (arith, h))
member_inside (tree.all_of cs) d e a low f h = in_brackets (tree.all_of cs) (cond_text (tree.all_of cs)) e (omega (arith, h, low)) (f.cond (suc e) (omega (arith, h)))
member_inside (tree.any_of cs) d e a low f h = in_brackets (tree.any_of cs) (cond_text (tree.any_of cs)) e (omega (arith, h, low)) (f.cond (suc e) (omega (arith, h)))

-- no chain
plain : (c : CondTree) (d : ℕ) (a : List Placed) → member_text c ≡ cond_text c → Fits (cond_text c) (IsNeg c) d a → FitsNeg c d a
plain c d a same f = record {
  fits = record {
    cond = λ e h. as_cond c (cond_text c) e (as_conj c (cond_text c) e (f.prints e h));
    conj = λ no e h. as_conj c (cond_text c) e (f.prints e h);
    neg = λ no e h. f.prints e h;
    good = f.good;
  };
  member = λ e h. same_text (member_text c) (cond_text c) (IsNeg c e) (f.prints e h) same;
}

-- a member of an `and` is one of an `or`, too
choice_of : (c : CondTree) (d : ℕ) (a : List Placed) → FitsNeg c d a → (e : ℕ) → e ≤ d → Prints (choice_text c) (IsConj c e)
choice_of tree.always d a f e h = as_conj tree.always (cond_text tree.always) e (f.member e h)
choice_of (tree.compare r x y) d a f e h = as_conj (tree.compare r x y) (cond_text (tree.compare r x y)) e (f.member e h)
choice_of (tree.member x rs) d a f e h = as_conj (tree.member x rs) (cond_text (tree.member x rs)) e (f.member e h)
choice_of (tree.negation c) d a f e h = as_conj (tree.negation c) (cond_text (tree.negation c)) e (f.member e h)
choice_of (tree.all_of cs) d a f e h = f.fits.conj refl e h
choice_of (tree.any_of cs) d a f e h = as_conj (tree.any_of cs) (member_text (tree.any_of cs)) e (f.member e h)

negs_off : (cs : CondTrees) → Off (more_conds_text All cs)
negs_off tree.no_conds rest ok = ok
negs_off (tree.cond_and c cs) rest ok = refl

conjs_off : (cs : CondTrees) → Off (more_conds_text Any cs)
conjs_off tree.no_conds rest ok = ok
conjs_off (tree.cond_and c cs) rest ok = refl

prints_and : (c : CondTree) (cs : CondTrees) (e : ℕ) → e ≤ 64 → Prints (member_text c) (IsNeg c e) → Prints (more_conds_text All cs) (AreNegs cs e) → Prints (more_conds_text All (tree.cond_and c cs)) (AreNegs (tree.cond_and c cs) e)
prints_and c cs e low first' others =
    same_text (more_conds_text All (tree.cond_and c cs)) (32 ∷ (codes "and" ++ 32 ∷ (member_text c ++ more_conds_text All cs))) (AreNegs (tree.cond_and c cs) e)
    (same_part _ ((key (codes "and") ⨾ IsNeg c ⨾ AreNegs cs) e) (AreNegs (tree.cond_and c cs) e)
    (spaced 32 (codes "and" ++ 32 ∷ (member_text c ++ more_conds_text All cs)) ((key (codes "and") ⨾ IsNeg c ⨾ AreNegs cs) e) refl
    (keyed (codes "and") (member_text c ++ more_conds_text All cs) e (IsNeg c ⨾ AreNegs cs) low refl (both (member_text c) (more_conds_text All cs) (IsNeg c) (AreNegs cs) e first' others (negs_off cs))))
    (λ b a is. and_neg is.0 is.2.0 is.1 is.2.1 is.2.2))
    (assoc3 (codes " and ") (member_text c) (more_conds_text All cs))

prints_or : (c : CondTree) (cs : CondTrees) (e : ℕ) → e ≤ 64 → Prints (choice_text c) (IsConj c e) → Prints (more_conds_text Any cs) (AreConjs cs e) → Prints (more_conds_text Any (tree.cond_and c cs)) (AreConjs (tree.cond_and c cs) e)
prints_or c cs e low first' others =
    same_text (more_conds_text Any (tree.cond_and c cs)) (32 ∷ (codes "or" ++ 32 ∷ (choice_text c ++ more_conds_text Any cs))) (AreConjs (tree.cond_and c cs) e)
    (same_part _ ((key (codes "or") ⨾ IsConj c ⨾ AreConjs cs) e) (AreConjs (tree.cond_and c cs) e)
    (spaced 32 (codes "or" ++ 32 ∷ (choice_text c ++ more_conds_text Any cs)) ((key (codes "or") ⨾ IsConj c ⨾ AreConjs cs) e) refl
    (keyed (codes "or") (choice_text c ++ more_conds_text Any cs) e (IsConj c ⨾ AreConjs cs) low refl (both (choice_text c) (more_conds_text Any cs) (IsConj c) (AreConjs cs) e first' others (conjs_off cs))))
    (λ b a is. or_conj is.0 is.2.0 is.1 is.2.1 is.2.2))
    (assoc3 (codes " or ") (choice_text c) (more_conds_text Any cs))

mutual
  fits_neg : {c : CondTree} (d : ℕ) (b a : List Placed) → IsNeg c d b a → Good b → FitsNeg c d a
  fits_neg d b a (opposite {c} inside is inner) good =
      let h = head (λ w. w.text ≡ codes "not") (suc d) b inside is good in
      let f = fits_neg (suc d) inside a inner h.good in
      plain (tree.negation c) d a refl (record {
        prints = λ e low.
            let deep : suc e ≤ 64 = let l = h.low in omega (arith, low, l) in
            let inner' = f.member (suc e) (omega (arith, low)) in
            same_part (codes "not " ++ member_text c) ((key (codes "not") ⨾ IsNeg c) (suc e)) (IsNeg (tree.negation c) e) (keyed (codes "not") (member_text c) (suc e) (IsNeg c) deep refl inner') (λ p q s. opposite s.0 s.1 s.2);
        good = f.fits.good;
      })
  fits_neg d b a (truth is) good =
      let h = head (λ w. w.text ≡ codes "true") d b a is good in
      plain tree.always d a refl (record { prints = λ e low. same_part (codes "true") (key (codes "true") e) (IsNeg tree.always e) (prints_key (codes "true") e (lower e d low h.low) refl) (λ p q s. truth s); good = h.good })
  fits_neg d b a (bracketed {c} inside closing open' inner close) good =
      let h = head (λ w. w.text ≡ codes "[") (suc d) b inside open' good in
      let f = fits_cond' (suc d) inside closing inner h.good in
      let k = head (λ w. w.text ≡ codes "]") d closing a close f.good in
      record {
        fits = record { cond = λ e low. f.cond e (omega (arith, low)); conj = λ no e low. f.conj no e (omega (arith, low)); neg = λ no e low. f.neg no e (omega (arith, low)); good = k.good };
        member = λ e low. member_inside c d e closing h.low f low;
      }
  fits_neg d b a (comparison {r} {left} {right} is) good = plain (tree.compare r left right) d a refl (fits_comparison r left right d b a is good)
  fits_neg d b a (membership {value} {rs} is) good = plain (tree.member value rs) d a refl (fits_membership value rs d b a is good)

  fits_conj : {c : CondTree} (d : ℕ) (b a : List Placed) → IsConj c d b a → Good b → FitsConj c d a
  fits_conj d b a (all {first = c} next first' (no_neg is)) good =
      let f = fits_neg d b next first' good in
      let g : FitsNeg c d a = subst (FitsNeg c d) is f in
      record { fits = g.fits; choice = choice_of c d a g }
  fits_conj d b a (all {first = c} next first' (and_neg {c = c'} {rest = cs} start next' is second others)) good =
      let f = fits_neg d b next first' good in
      let h = head (λ w. w.text ≡ codes "and") d next start is f.fits.good in
      let g = fits_neg d start next' second h.good in
      let r = fits_negs d next' a others g.fits.good in
      let prints' : (e : ℕ) → e ≤ d → Prints (cond_text (tree.all_of (tree.cond_and c (tree.cond_and c' cs)))) (IsConj (tree.all_of (tree.cond_and c (tree.cond_and c' cs))) e) =
      λ e low. same_part (member_text c ++ more_conds_text All (tree.cond_and c' cs)) ((IsNeg c ⨾ AreNegs (tree.cond_and c' cs)) e) (IsConj (tree.all_of (tree.cond_and c (tree.cond_and c' cs))) e)
      (both (member_text c) (more_conds_text All (tree.cond_and c' cs)) (IsNeg c) (AreNegs (tree.cond_and c' cs)) e (f.member e low) (prints_and c' cs e (lower e d low h.low) (g.member e low) (r.prints e low)) (negs_off (tree.cond_and c' cs)))
      (λ p q s. all s.0 s.1 s.2) in
      record {
        fits = record {
          cond = λ e low. as_cond (tree.all_of (tree.cond_and c (tree.cond_and c' cs))) (cond_text (tree.all_of (tree.cond_and c (tree.cond_and c' cs)))) e (prints' e low);
          conj = λ no. prints';
          neg = λ no. absurd (true≢false no);
          good = r.good;
        };
        choice = prints';
      }

  fits_negs : {cs : CondTrees} (d : ℕ) (b a : List Placed) → AreNegs cs d b a → Good b → Fits (more_conds_text All cs) (AreNegs cs) d a
  fits_negs d b a (no_neg is) good = record { prints = λ e low. no_text (AreNegs tree.no_conds e) (λ p q s. no_neg s); good = subst Good is good }
  fits_negs d b a (and_neg {c = c'} {rest = cs} start next' is second others) good =
      let h = head (λ w. w.text ≡ codes "and") d b start is good in
      let g = fits_neg d start next' second h.good in
      let r = fits_negs d next' a others g.fits.good in
      record { prints = λ e low. prints_and c' cs e (lower e d low h.low) (g.member e low) (r.prints e low); good = r.good }

  fits_cond' : {c : CondTree} (d : ℕ) (b a : List Placed) → IsCond c d b a → Good b → FitsCond c d a
  fits_cond' d b a (any {first = c} next first' (no_conj is)) good =
      let f = fits_conj d b next first' good in
      subst (FitsCond c d) is f.fits
  fits_cond' d b a (any {first = c} next first' (or_conj {c = c'} {rest = cs} start next' is second others)) good =
      let f = fits_conj d b next first' good in
      let h = head (λ w. w.text ≡ codes "or") d next start is f.fits.good in
      let g = fits_conj d start next' second h.good in
      let r = fits_conjs d next' a others g.fits.good in
      record {
        cond = λ e low. same_part (choice_text c ++ more_conds_text Any (tree.cond_and c' cs)) ((IsConj c ⨾ AreConjs (tree.cond_and c' cs)) e) (IsCond (tree.any_of (tree.cond_and c (tree.cond_and c' cs))) e)
            (both (choice_text c) (more_conds_text Any (tree.cond_and c' cs)) (IsConj c) (AreConjs (tree.cond_and c' cs)) e (f.choice e low) (prints_or c' cs e (lower e d low h.low) (g.choice e low) (r.prints e low)) (conjs_off (tree.cond_and c' cs)))
            (λ p q s. any s.0 s.1 s.2);
        conj = λ no. absurd (true≢false no);
        neg = λ no. absurd (true≢false no);
        good = r.good;
      }

  fits_conjs : {cs : CondTrees} (d : ℕ) (b a : List Placed) → AreConjs cs d b a → Good b → Fits (more_conds_text Any cs) (AreConjs cs) d a
  fits_conjs d b a (no_conj is) good = record { prints = λ e low. no_text (AreConjs tree.no_conds e) (λ p q s. no_conj s); good = subst Good is good }
  fits_conjs d b a (or_conj {c = c'} {rest = cs} start next' is second others) good =
      let h = head (λ w. w.text ≡ codes "or") d b start is good in
      let g = fits_conj d start next' second h.good in
      let r = fits_conjs d next' a others g.fits.good in
      record { prints = λ e low. prints_or c' cs e (lower e d low h.low) (g.choice e low) (r.prints e low); good = r.good }

-- a condition that stands prints as its text
pub fits_cond : (c : CondTree) (d : ℕ) (b a : List Placed) → IsCond c d b a → Good b → Fits (cond_text c) (IsCond c) d a
fits_cond c d b a is good = let f = fits_cond' d b a is good in record { prints = f.cond; good = f.good }
