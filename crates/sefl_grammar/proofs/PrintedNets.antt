-- The text of a job is read as the job.
use Rattle.std.proofs.Common.{◌≡◌, ℕ, ◌^◌, ◌<◌, ◌≤◌, inl, inr, true, List, [], ◌∷◌, ◌++◌, Option, None, Some, codes, decimal, refl, sym, ◌∙◌, subst, arith}
use Rattle.std.proofs.lemmas.List.{append_assoc, append-nil}
use Rattle.std.specs.List.{flat_map}
use Rattle.sefl_lex.specs.Words.{IsToken, is_name, is_number, are_digits, have_value}
use Rattle.sefl_lex.specs.declared.token.TokenKind.TheVariants as kind
use Rattle.sefl_syntax.specs.Trees as tree
use Rattle.sefl_syntax.specs.Trees.{CondTree, always, PortTree, NodeTree, BodyTree, DeclTree, NetTree, InjectionTree, AskTree, JobTree}
use Rattle.sefl_syntax.specs.TermText.{addr_text, target_text, cond_text}
use Rattle.sefl_syntax.specs.CodeText.{code_text, quoted}
use Rattle.sefl_syntax.specs.NetWords.{side_text, kind_text, style_text}
use Rattle.sefl_syntax.specs.NetText.{port_text, node_heading, node_text, table_text, body_text, decl_text, link_text, net_text}
use Rattle.sefl_syntax.specs.JobText.{tag_line, value_text, field_line, where_line, injection_heading, injection_text, place_text, with_text, reach_text, question_text, ask_text, job_text}
use Rattle.sefl_syntax.specs.declared.reference.Addr.{Addr}
use Rattle.sefl_syntax.specs.declared.reference.Target.{Target}
use Rattle.sefl_syntax.specs.declared.net.Side.{Side}
use Rattle.sefl_syntax.specs.declared.net.Side.TheVariants.{Inward, Outward}
use Rattle.sefl_syntax.specs.declared.net.Style.{Style}
use Rattle.sefl_syntax.specs.declared.net.Style.TheVariants.{Chain, Grouped, Egress}
use Rattle.sefl_syntax.specs.declared.net.TableKind.{TableKind}
use Rattle.sefl_syntax.specs.declared.net.TableKind.TheVariants.{Mac, Fib}
use Rattle.sefl_syntax.specs.declared.net.Link.{Link}
use Rattle.sefl_syntax.specs.declared.job.RawField.{RawField}
use Rattle.sefl_syntax.specs.declared.job.RawPlace.{RawPlace}
use Rattle.sefl_grammar.specs.Word.{AreWords, Placed, bare, AreShallow}
use Rattle.sefl_grammar.specs.Grammar.{Spelling, ◌⨾◌, key, name, number, text, port, addr, target, field_target, field_value, IsCond, Version, old, new, version, equation, IsBlock, side, port_code, port_codes, table_kind, style, body, nodes, link, links, tags, fields, wheres, injection, place, with_test, question, asks, job, IsJob}
use Rattle.sefl_grammar.proofs.Cut.{Cut, nothing_left, pair, decimal_number}
use Rattle.sefl_grammar.proofs.Printing.{Prints, Off, both, same_text, same_part, no_text, spaced, worded, keyed, prints_key, sign_alone, Good, Fits, head, lower, assoc5, fits_name, fits_number, number_fits, fits_number_in, before_digit}
use Rattle.sefl_grammar.proofs.PrintedTerms.{fits_addr, fits_target, fits_field_target}
use Rattle.sefl_grammar.proofs.PrintedConds.{fits_cond}
use Rattle.sefl_grammar.proofs.PrintedCodes.{PrintsLine, line_end, line_both, line_part, line_text_is, no_line, indented, quoted_fits, prints_equals, prints_ended, braced_text, fits_block}
use Rattle.sefl_grammar.proofs.Signs.{open_brace, close_brace, semicolon, dot_digit}

-- a part that stands prints as a line
record FitsLine (t : List ℕ) (p : Spelling) (d : ℕ) (a : List Placed) : Type 0 where
  prints : (e : ℕ) → e ≤ d → PrintsLine t (p e)
  good : Good a

fits_side : (s : Side) (d : ℕ) (b a : List Placed) → side s d b a → Good b → Fits (side_text s) (side s) d a
fits_side Inward d b a is good = let h = head (λ w. w.text ≡ codes "in") d b a is good in record { prints = λ e low. prints_key (codes "in") e (lower e d low h.low) refl; good = h.good }
fits_side Outward d b a is good = let h = head (λ w. w.text ≡ codes "out") d b a is good in record { prints = λ e low. prints_key (codes "out") e (lower e d low h.low) refl; good = h.good }

fits_kind : (k : TableKind) (d : ℕ) (b a : List Placed) → table_kind k d b a → Good b → Fits (kind_text k) (table_kind k) d a
fits_kind Mac d b a is good = let h = head (λ w. w.text ≡ codes "mac") d b a is good in record { prints = λ e low. prints_key (codes "mac") e (lower e d low h.low) refl; good = h.good }
fits_kind Fib d b a is good = let h = head (λ w. w.text ≡ codes "fib") d b a is good in record { prints = λ e low. prints_key (codes "fib") e (lower e d low h.low) refl; good = h.good }

fits_style : (s : Style) (d : ℕ) (b a : List Placed) → style s d b a → Good b → Fits (style_text s) (style s) d a
fits_style Chain d b a is good = let h = head (λ w. w.text ≡ codes "chain") d b a is good in record { prints = λ e low. prints_key (codes "chain") e (lower e d low h.low) refl; good = h.good }
fits_style Grouped d b a is good = let h = head (λ w. w.text ≡ codes "grouped") d b a is good in record { prints = λ e low. prints_key (codes "grouped") e (lower e d low h.low) refl; good = h.good }
fits_style Egress d b a is good = let h = head (λ w. w.text ≡ codes "egress") d b a is good in record { prints = λ e low. prints_key (codes "egress") e (lower e d low h.low) refl; good = h.good }

-- a part between two blanks
between : (t u : List ℕ) (p q : Spelling) (e : ℕ) → Prints t (p e) → Prints u (q e) → Prints (t ++ 32 ∷ u) ((p ⨾ q) e)
between t u p q e first second = both t (32 ∷ u) p q e first (spaced 32 u (q e) refl second) (λ rest ok. refl)

-- the code of a port
port_shape : (s n c : List ℕ) → codes "  " ++ s ++ codes " " ++ n ++ codes " {\n" ++ c ++ codes "  }\n" ≡ codes "  " ++ (s ++ 32 ∷ (n ++ 32 ∷ (123 ∷ (10 ∷ (c ++ (codes "  " ++ 125 ∷ [])))))) ++ 10 ∷ []
port_shape s n c = simp append_assoc refl

fits_port_code : (v : Version) (p : PortTree) (d : ℕ) (b a : List Placed) → port_code v p d b a → Good b → FitsLine (port_text p) (port_code new p) d a
unfolding port_text
fits_port_code v p d b a (m, is, (m', n, code)) good =
    let s = fits_side p.side d b m is good in
    let f = fits_number_in 0 4294967295 p.port d m m' n s.good in
    let c = fits_block d m' a code f.good in
    record {
      prints = λ e low.
          line_text_is (port_text p) _ (port_code new p e)
          (line_end _ (port_code new p e) (indented (codes "  ") _ (port_code new p e) (refl, (refl, tt))
          (between (side_text p.side) _ (side p.side) (port p.port ⨾ IsBlock new p.code) e (s.prints e low)
          (between (decimal p.port) (braced_text (codes "    ") (codes "  ") p.code) (port p.port) (IsBlock new p.code) e (f.prints e low) (c.prints (codes "    ") (codes "  ") (refl, (refl, (refl, (refl, tt)))) (refl, (refl, tt)) e low)))))
          (port_shape (side_text p.side) (decimal p.port) (code_text (codes "    ") p.code));
      good = c.good;
    }

fits_port_codes : (v : Version) (ps : List PortTree) (d : ℕ) (b a : List Placed) → port_codes v ps d b a → Good b → FitsLine (flat_map port_text ps) (port_codes new ps) d a
fits_port_codes v [] d b a is good = record { prints = λ e low. no_line (port_codes new [] e) (λ x y s. s); good = subst Good is good }
fits_port_codes v (p ∷ ps) d b a (m, first, others) good =
    let f = fits_port_code v p d b m first good in
    let g = fits_port_codes v ps d m a others f.good in
    record { prints = λ e low. line_both (port_text p) (flat_map port_text ps) (port_code new p) (port_codes new ps) e (f.prints e low) (g.prints e low); good = g.good }

-- a closing brace on its own line
closing_line : (e : ℕ) → e ≤ 64 → PrintsLine (codes "}\n") (key (codes "}") e)
closing_line e low = line_end (125 ∷ []) (key (codes "}") e) (sign_alone 125 e low refl close_brace)

-- an opening brace ends the line
opening_line : (t : List ℕ) (p : Spelling) (e : ℕ) → e ≤ 64 → Prints t (p e) → PrintsLine (t ++ codes " {\n") ((p ⨾ key (codes "{")) e)
opening_line t p e low h =
    line_text_is (t ++ codes " {\n") ((t ++ 32 ∷ (123 ∷ [])) ++ 10 ∷ []) ((p ⨾ key (codes "{")) e)
    (line_end (t ++ 32 ∷ (123 ∷ [])) ((p ⨾ key (codes "{")) e) (between t (123 ∷ []) p (key (codes "{")) e h (sign_alone 123 e low refl open_brace)))
    (sym (append_assoc t (32 ∷ (123 ∷ [])) (10 ∷ [])))

arrow : (t : List ℕ) (q : Spelling) (e : ℕ) → e ≤ 64 → Prints t (q e) → Prints (32 ∷ (45 ∷ (62 ∷ (32 ∷ t)))) ((key (codes "->") ⨾ q) e)
arrow t q e low h = spaced 32 (45 ∷ (62 ∷ (32 ∷ t))) ((key (codes "->") ⨾ q) e) refl (worded kind.Sign (codes "->") (32 ∷ t) e (λ w. w.text ≡ codes "->") q low refl (λ rest ok. pair 45 62 ((32 ∷ t) ++ rest) refl) (spaced 32 t (q e) refl h))

heading_shape : (n i o : List ℕ) → codes "node " ++ n ++ codes " " ++ i ++ codes " -> " ++ o ++ codes " {\n" ≡ (codes "node" ++ 32 ∷ (n ++ 32 ∷ (i ++ (32 ∷ (45 ∷ (62 ∷ (32 ∷ o))))))) ++ codes " {\n"
heading_shape n i o = simp append_assoc refl

table_shape : (n k f s : List ℕ) → codes "node " ++ n ++ codes " = " ++ k ++ codes " " ++ f ++ codes " " ++ s ++ codes ";\n" ≡ (codes "node" ++ 32 ∷ (n ++ (32 ∷ (61 ∷ (32 ∷ (k ++ 32 ∷ (f ++ 32 ∷ (s ++ 59 ∷ [])))))))) ++ 10 ∷ []
table_shape n k f s = simp append_assoc refl

abbrev decl : Version → DeclTree → Spelling
decl v d = key (codes "node") ⨾ name d.name ⨾ body v d.body

heading_is : (n : List ℕ) (x : NodeTree) (e : ℕ) → (b m a : List Placed) → ((key (codes "node") ⨾ name n ⨾ port x.ins ⨾ key (codes "->") ⨾ port x.outs) ⨾ key (codes "{")) e b m → (port_codes new x.codes ⨾ key (codes "}")) e m a
    → (key (codes "node") ⨾ name n ⨾ body new (tree.code x)) e b a
heading_is n x e b m a (o, (m1, is, (m2, named, (m3, ins, (m4, to, outs)))), open') more = (m1, is, (m2, named, (m3, ins, (m4, to, (o, outs, (m, open', more))))))

fits_body : (v : Version) (n : List ℕ) (x : BodyTree) (d : ℕ) (b a : List Placed) → (key (codes "node") ⨾ name n ⨾ body v x) d b a → Good b → FitsLine (body_text n x) (key (codes "node") ⨾ name n ⨾ body new x) d a
unfolding node_text node_heading table_text
fits_body v n (tree.code x) d b a (m, is, (m1, named, (m2, ins, (m3, to, (m4, outs, (m5, open', (m6, cs, close))))))) good =
    let h = head (λ w. w.text ≡ codes "node") d b m is good in
    let f = fits_name n d m m1 named h.good in
    let i = fits_number_in 0 4294967295 x.ins d m1 m2 ins f.good in
    let k = head (λ w. w.text ≡ codes "->") d m2 m3 to i.good in
    let o = fits_number_in 0 4294967295 x.outs d m3 m4 outs k.good in
    let l = head (λ w. w.text ≡ codes "{") d m4 m5 open' o.good in
    let c = fits_port_codes v x.codes d m5 m6 cs l.good in
    let z = head (λ w. w.text ≡ codes "}") d m6 a close c.good in
    record {
      prints = λ e low.
          let low' = lower e d low h.low in
          let heading = keyed (codes "node") _ e (name n ⨾ port x.ins ⨾ key (codes "->") ⨾ port x.outs) low' refl
          (between n _ (name n) (port x.ins ⨾ key (codes "->") ⨾ port x.outs) e (f.prints e low)
          (both (decimal x.ins) _ (port x.ins) (key (codes "->") ⨾ port x.outs) e (i.prints e low) (arrow (decimal x.outs) (port x.outs) e low' (o.prints e low)) (λ rest ok. refl))) in
          let opened = line_text_is (node_heading n x.ins x.outs) _ (((key (codes "node") ⨾ name n ⨾ port x.ins ⨾ key (codes "->") ⨾ port x.outs) ⨾ key (codes "{")) e) (opening_line _ (key (codes "node") ⨾ name n ⨾ port x.ins ⨾ key (codes "->") ⨾ port x.outs) e low' heading) (heading_shape n (decimal x.ins) (decimal x.outs)) in
          let inner = line_both (flat_map port_text x.codes) (codes "}\n") (port_codes new x.codes) (key (codes "}")) e (c.prints e low) (closing_line e low') in
          line_text_is (node_text n x) (node_heading n x.ins x.outs ++ (flat_map port_text x.codes ++ codes "}\n")) ((key (codes "node") ⨾ name n ⨾ body new (tree.code x)) e)
          (line_part _ ((((key (codes "node") ⨾ name n ⨾ port x.ins ⨾ key (codes "->") ⨾ port x.outs) ⨾ key (codes "{")) ⨾ (port_codes new x.codes ⨾ key (codes "}"))) e) ((key (codes "node") ⨾ name n ⨾ body new (tree.code x)) e)
          (line_both (node_heading n x.ins x.outs) (flat_map port_text x.codes ++ codes "}\n") ((key (codes "node") ⨾ name n ⨾ port x.ins ⨾ key (codes "->") ⨾ port x.outs) ⨾ key (codes "{")) (port_codes new x.codes ⨾ key (codes "}")) e opened inner)
          (λ p q s. heading_is n x e p s.0 q s.1 s.2))
          (append_assoc (node_heading n x.ins x.outs) (flat_map port_text x.codes) (codes "}\n"));
      good = z.good;
    }
fits_body v n (tree.table k file s) d b a (m, is, (m1, named, (m2, eq, (m3, k', (m4, f', (m5, s', end)))))) good =
    let h = head (λ w. w.text ≡ codes "node") d b m is good in
    let f = fits_name n d m m1 named h.good in
    let q = head (λ w. w.text ≡ codes "=") d m1 m2 eq f.good in
    let kd = fits_kind k d m2 m3 k' q.good in
    let fl = quoted_fits file d m3 m4 f' kd.good in
    let st = fits_style s d m4 m5 s' fl.good in
    let z = head (λ w. w.text ≡ codes ";") d m5 a end st.good in
    record {
      prints = λ e low.
          let low' = lower e d low h.low in
          let ended' = prints_ended (style_text s) (style s) e low' (st.prints e low) in
          let filed = between (quoted file) _ (text file) (style s ⨾ key (codes ";")) e (fl.prints e low) ended' in
          let kinded = between (kind_text k) _ (table_kind k) (text file ⨾ style s ⨾ key (codes ";")) e (kd.prints e low) filed in
          let whole = keyed (codes "node") _ e (name n ⨾ body new (tree.table k file s)) low' refl (both n _ (name n) (body new (tree.table k file s)) e (f.prints e low) (prints_equals _ (table_kind k ⨾ text file ⨾ style s ⨾ key (codes ";")) e low' kinded) (λ rest ok. refl)) in
          line_text_is (table_text n k file s) _ ((key (codes "node") ⨾ name n ⨾ body new (tree.table k file s)) e) (line_end _ ((key (codes "node") ⨾ name n ⨾ body new (tree.table k file s)) e) whole) (table_shape n (kind_text k) (quoted file) (style_text s));
      good = z.good;
    }

fits_nodes : (v : Version) (xs : List DeclTree) (d : ℕ) (b a : List Placed) → nodes v xs d b a → Good b → FitsLine (flat_map decl_text xs) (nodes new xs) d a
fits_nodes v [] d b a is good = record { prints = λ e low. no_line (nodes new [] e) (λ x y s. s); good = subst Good is good }
fits_nodes v (x ∷ xs) d b a (m, first, others) good =
    let f = fits_body v x.name x.body d b m first good in
    let g = fits_nodes v xs d m a others f.good in
    record { prints = λ e low. line_both (decl_text x) (flat_map decl_text xs) (decl new x) (nodes new xs) e (f.prints e low) (g.prints e low); good = g.good }

-- a dot, and a port behind it
dotted : (n : ℕ) (t : List ℕ) (q : Spelling) (e : ℕ) → e ≤ 64 → n < 2 ^ 128 → Prints (decimal n) (port n e) → Prints t (q e) → Off t → Prints (46 ∷ (decimal n ++ t)) ((key (codes ".") ⨾ port n ⨾ q) e)
dotted n t q e low small first others off =
    worded kind.Sign (codes ".") (decimal n ++ t) e (λ w. w.text ≡ codes ".") (port n ⨾ q) low refl
    (λ rest ok. subst (IsToken kind.Sign (codes ".")) (sym (append_assoc (decimal n) t rest)) (before_digit 46 (decimal n) (t ++ rest) refl dot_digit (decimal_number n small).begins_digit))
    (both (decimal n) t (port n) q e first others off)

link_shape : (a i b o : List ℕ) → codes "link " ++ a ++ codes "." ++ i ++ codes " -> " ++ b ++ codes "." ++ o ++ codes ";\n" ≡ (codes "link" ++ 32 ∷ (a ++ (46 ∷ (i ++ (32 ∷ (45 ∷ (62 ∷ (32 ∷ (b ++ (46 ∷ (o ++ 59 ∷ []))))))))))) ++ 10 ∷ []
link_shape a i b o = simp append_assoc refl

fits_link : (l : Link) (d : ℕ) (b a : List Placed) → link l d b a → Good b → FitsLine (link_text l) (link l) d a
unfolding link_text
fits_link l d b a (m, is, (m1, from', (m2, dot1, (m3, p1, (m4, to, (m5, to', (m6, dot2, (m7, p2, end)))))))) good =
    let h = head (λ w. w.text ≡ codes "link") d b m is good in
    let f = fits_name l.from d m m1 from' h.good in
    let k1 = head (λ w. w.text ≡ codes ".") d m1 m2 dot1 f.good in
    let n1 = fits_number_in 0 4294967295 l.from_port d m2 m3 p1 k1.good in
    let k2 = head (λ w. w.text ≡ codes "->") d m3 m4 to n1.good in
    let t = fits_name l.to d m4 m5 to' k2.good in
    let k3 = head (λ w. w.text ≡ codes ".") d m5 m6 dot2 t.good in
    let n2 = fits_number_in 0 4294967295 l.to_port d m6 m7 p2 k3.good in
    let z = head (λ w. w.text ≡ codes ";") d m7 a end n2.good in
    record {
      prints = λ e low.
          let low' = lower e d low h.low in
          let second = dotted l.to_port (59 ∷ []) (key (codes ";")) e low' (number_fits l.to_port d m6 m7 p2.2 k3.good) (n2.prints e low) (sign_alone 59 e low' refl semicolon) (λ rest ok. refl) in
          let to'' = both l.to _ (name l.to) (key (codes ".") ⨾ port l.to_port ⨾ key (codes ";")) e (t.prints e low) second (λ rest ok. refl) in
          let first = dotted l.from_port _ (key (codes "->") ⨾ name l.to ⨾ key (codes ".") ⨾ port l.to_port ⨾ key (codes ";")) e low' (number_fits l.from_port d m2 m3 p1.2 k1.good) (n1.prints e low) (arrow _ (name l.to ⨾ key (codes ".") ⨾ port l.to_port ⨾ key (codes ";")) e low' to'') (λ rest ok. refl) in
          let whole = keyed (codes "link") _ e (name l.from ⨾ key (codes ".") ⨾ port l.from_port ⨾ key (codes "->") ⨾ name l.to ⨾ key (codes ".") ⨾ port l.to_port ⨾ key (codes ";")) low' refl (both l.from _ (name l.from) (key (codes ".") ⨾ port l.from_port ⨾ key (codes "->") ⨾ name l.to ⨾ key (codes ".") ⨾ port l.to_port ⨾ key (codes ";")) e (f.prints e low) first (λ rest ok. refl)) in
          line_text_is (link_text l) _ (link l e) (line_end _ (link l e) whole) (link_shape l.from (decimal l.from_port) l.to (decimal l.to_port));
      good = z.good;
    }

fits_links : (ls : List Link) (d : ℕ) (b a : List Placed) → links ls d b a → Good b → FitsLine (flat_map link_text ls) (links ls) d a
fits_links [] d b a is good = record { prints = λ e low. no_line (links [] e) (λ x y s. s); good = subst Good is good }
fits_links (l ∷ ls) d b a (m, first, others) good =
    let f = fits_link l d b m first good in
    let g = fits_links ls d m a others f.good in
    record { prints = λ e low. line_both (link_text l) (flat_map link_text ls) (link l) (links ls) e (f.prints e low) (g.prints e low); good = g.good }

tag_shape : (n x : List ℕ) → codes "  tag " ++ n ++ codes " = " ++ x ++ codes ";\n" ≡ codes "  " ++ (codes "tag" ++ 32 ∷ (n ++ (32 ∷ (61 ∷ (32 ∷ (x ++ 59 ∷ [])))))) ++ 10 ∷ []
tag_shape n x = simp append_assoc refl

fits_tags : (ts : List (List ℕ × Addr)) (d : ℕ) (b a : List Placed) → tags ts d b a → Good b → FitsLine (flat_map tag_line ts) (tags ts) d a
unfolding tag_line
fits_tags [] d b a is good = record { prints = λ e low. no_line (tags [] e) (λ x y s. s); good = subst Good is good }
fits_tags (t ∷ ts) d b a (m, (m1, is, (m2, named, (m3, eq, (m4, at', end)))), others) good =
    let h = head (λ w. w.text ≡ codes "tag") d b m1 is good in
    let f = fits_name t.0 d m1 m2 named h.good in
    let k = head (λ w. w.text ≡ codes "=") d m2 m3 eq f.good in
    let x = fits_addr t.1 d m3 m4 at' k.good in
    let z = head (λ w. w.text ≡ codes ";") d m4 m end x.good in
    let g = fits_tags ts d m a others z.good in
    record {
      prints = λ e low.
          let low' = lower e d low h.low in
          let whole = keyed (codes "tag") _ e (equation (name t.0) (addr t.1)) low' refl (both t.0 _ (name t.0) (key (codes "=") ⨾ addr t.1 ⨾ key (codes ";")) e (f.prints e low) (prints_equals _ (addr t.1 ⨾ key (codes ";")) e low' (prints_ended (addr_text t.1) (addr t.1) e low' (x.prints e low))) (λ rest ok. refl)) in
          line_both (tag_line t) (flat_map tag_line ts) (key (codes "tag") ⨾ equation (name t.0) (addr t.1)) (tags ts) e
          (line_text_is (tag_line t) _ ((key (codes "tag") ⨾ equation (name t.0) (addr t.1)) e) (line_end _ ((key (codes "tag") ⨾ equation (name t.0) (addr t.1)) e) (indented (codes "  ") _ ((key (codes "tag") ⨾ equation (name t.0) (addr t.1)) e) (refl, (refl, tt)) whole)) (tag_shape t.0 (addr_text t.1)))
          (g.prints e low);
      good = g.good;
    }

value_off : (n : Option ℕ) → Off (value_text n ++ 59 ∷ [])
value_off None rest ok = refl
value_off (Some n) rest ok = refl

fits_value : (n : Option ℕ) (d : ℕ) (b a : List Placed) → field_value n d b a → Good b → d ≤ 64 → Fits (value_text n) (field_value n) d a
fits_value None d b a is good low' = record { prints = λ e low. no_text (field_value None e) (λ x y s. s); good = subst Good is good }
fits_value (Some n) d b a (m, is, value) good low' =
    let h = head (λ w. w.text ≡ codes "=") d b m is good in
    let f = fits_number n d m a value h.good in
    record { prints = λ e low. prints_equals (decimal n) (number n) e (lower e d low h.low) (f.prints e low); good = f.good }

field_shape : (t v : List ℕ) → codes "  field " ++ t ++ v ++ codes ";\n" ≡ codes "  " ++ (codes "field" ++ 32 ∷ (t ++ (v ++ 59 ∷ []))) ++ 10 ∷ []
field_shape t v = simp append_assoc refl

fits_fields : (fs : List RawField) (d : ℕ) (b a : List Placed) → fields fs d b a → Good b → FitsLine (flat_map field_line fs) (fields fs) d a
unfolding field_line
fits_fields [] d b a is good = record { prints = λ e low. no_line (fields [] e) (λ x y s. s); good = subst Good is good }
fits_fields (x ∷ xs) d b a (m, (m1, is, (m2, t, (m3, v, end))), others) good =
    let h = head (λ w. w.text ≡ codes "field") d b m1 is good in
    let f = fits_field_target x.target d m1 m2 t h.good in
    let y = fits_value x.value d m2 m3 v f.good h.low in
    let z = head (λ w. w.text ≡ codes ";") d m3 m end y.good in
    let g = fits_fields xs d m a others z.good in
    record {
      prints = λ e low.
          let low' = lower e d low h.low in
          let whole = keyed (codes "field") _ e (field_target x.target ⨾ field_value x.value ⨾ key (codes ";")) low' refl (both (target_text x.target) _ (field_target x.target) (field_value x.value ⨾ key (codes ";")) e (f.prints e low) (prints_ended (value_text x.value) (field_value x.value) e low' (y.prints e low)) (value_off x.value)) in
          line_both (field_line x) (flat_map field_line xs) (key (codes "field") ⨾ field_target x.target ⨾ field_value x.value ⨾ key (codes ";")) (fields xs) e
          (line_text_is (field_line x) _ ((key (codes "field") ⨾ field_target x.target ⨾ field_value x.value ⨾ key (codes ";")) e) (line_end _ ((key (codes "field") ⨾ field_target x.target ⨾ field_value x.value ⨾ key (codes ";")) e) (indented (codes "  ") _ ((key (codes "field") ⨾ field_target x.target ⨾ field_value x.value ⨾ key (codes ";")) e) (refl, (refl, tt)) whole)) (field_shape (target_text x.target) (value_text x.value)))
          (g.prints e low);
      good = g.good;
    }

where_shape : (t : List ℕ) → codes "  where " ++ t ++ codes ";\n" ≡ codes "  " ++ (codes "where" ++ 32 ∷ (t ++ 59 ∷ [])) ++ 10 ∷ []
where_shape t = simp append_assoc refl

fits_wheres : (cs : List CondTree) (d : ℕ) (b a : List Placed) → wheres cs d b a → Good b → FitsLine (flat_map where_line cs) (wheres cs) d a
unfolding where_line
fits_wheres [] d b a is good = record { prints = λ e low. no_line (wheres [] e) (λ x y s. s); good = subst Good is good }
fits_wheres (c ∷ cs) d b a (m, (m1, is, (m2, t, end)), others) good =
    let h = head (λ w. w.text ≡ codes "where") d b m1 is good in
    let f = fits_cond c d m1 m2 t h.good in
    let z = head (λ w. w.text ≡ codes ";") d m2 m end f.good in
    let g = fits_wheres cs d m a others z.good in
    record {
      prints = λ e low.
          let low' = lower e d low h.low in
          let whole = keyed (codes "where") _ e (IsCond c ⨾ key (codes ";")) low' refl (prints_ended (cond_text c) (IsCond c) e low' (f.prints e low)) in
          line_both (where_line c) (flat_map where_line cs) (key (codes "where") ⨾ IsCond c ⨾ key (codes ";")) (wheres cs) e
          (line_text_is (where_line c) _ ((key (codes "where") ⨾ IsCond c ⨾ key (codes ";")) e) (line_end _ ((key (codes "where") ⨾ IsCond c ⨾ key (codes ";")) e) (indented (codes "  ") _ ((key (codes "where") ⨾ IsCond c ⨾ key (codes ";")) e) (refl, (refl, tt)) whole)) (where_shape (cond_text c)))
          (g.prints e low);
      good = g.good;
    }

inject_shape : (n p : List ℕ) → codes "inject " ++ n ++ codes "." ++ p ++ codes " {\n" ≡ (codes "inject" ++ 32 ∷ (n ++ (46 ∷ (p ++ (32 ∷ (123 ∷ [])))))) ++ 10 ∷ []
inject_shape n p = simp append_assoc refl

injection_is : (i : InjectionTree) (e : ℕ) (b m a : List Placed) → (key (codes "inject") ⨾ name i.node ⨾ key (codes ".") ⨾ port i.port ⨾ key (codes "{")) e b m → (tags i.tags ⨾ fields i.fields ⨾ wheres i.tests ⨾ key (codes "}")) e m a → injection i e b a
injection_is i e b m a (m1, is, (m2, named, (m3, dot, (m4, p, brace)))) more = (m1, is, (m2, named, (m3, dot, (m4, p, (m, brace, more)))))

fits_injection : (i : InjectionTree) (d : ℕ) (b a : List Placed) → injection i d b a → Good b → FitsLine (injection_text i) (injection i) d a
unfolding injection_text injection_heading
fits_injection i d b a (m, is, (m1, named, (m2, dot, (m3, p, (m4, brace, (m5, ts, (m6, fs, (m7, cs, close)))))))) good =
    let h = head (λ w. w.text ≡ codes "inject") d b m is good in
    let f = fits_name i.node d m m1 named h.good in
    let k = head (λ w. w.text ≡ codes ".") d m1 m2 dot f.good in
    let n = fits_number_in 0 4294967295 i.port d m2 m3 p k.good in
    let l = head (λ w. w.text ≡ codes "{") d m3 m4 brace n.good in
    let t = fits_tags i.tags d m4 m5 ts l.good in
    let y = fits_fields i.fields d m5 m6 fs t.good in
    let x = fits_wheres i.tests d m6 m7 cs y.good in
    let z = head (λ w. w.text ≡ codes "}") d m7 a close x.good in
    record {
      prints = λ e low.
          let low' = lower e d low h.low in
          let braced = spaced 32 (123 ∷ []) (key (codes "{") e) refl (sign_alone 123 e low' refl open_brace) in
          let port' = dotted i.port (32 ∷ (123 ∷ [])) (key (codes "{")) e low' (number_fits i.port d m2 m3 p.2 k.good) (n.prints e low) braced (λ rest ok. refl) in
          let heading = keyed (codes "inject") _ e (name i.node ⨾ key (codes ".") ⨾ port i.port ⨾ key (codes "{")) low' refl (both i.node _ (name i.node) (key (codes ".") ⨾ port i.port ⨾ key (codes "{")) e (f.prints e low) port' (λ rest ok. refl)) in
          let first = line_text_is (injection_heading i.node i.port) _ ((key (codes "inject") ⨾ name i.node ⨾ key (codes ".") ⨾ port i.port ⨾ key (codes "{")) e) (line_end _ ((key (codes "inject") ⨾ name i.node ⨾ key (codes ".") ⨾ port i.port ⨾ key (codes "{")) e) heading) (inject_shape i.node (decimal i.port)) in
          let tests = line_both (flat_map where_line i.tests) (codes "}\n") (wheres i.tests) (key (codes "}")) e (x.prints e low) (closing_line e low') in
          let fields' = line_both (flat_map field_line i.fields) _ (fields i.fields) (wheres i.tests ⨾ key (codes "}")) e (y.prints e low) tests in
          let tags' = line_both (flat_map tag_line i.tags) _ (tags i.tags) (fields i.fields ⨾ wheres i.tests ⨾ key (codes "}")) e (t.prints e low) fields' in
          line_text_is (injection_text i) (injection_heading i.node i.port ++ (flat_map tag_line i.tags ++ (flat_map field_line i.fields ++ (flat_map where_line i.tests ++ codes "}\n")))) (injection i e)
          (line_part _ (((key (codes "inject") ⨾ name i.node ⨾ key (codes ".") ⨾ port i.port ⨾ key (codes "{")) ⨾ (tags i.tags ⨾ fields i.fields ⨾ wheres i.tests ⨾ key (codes "}"))) e) (injection i e)
          (line_both (injection_heading i.node i.port) _ (key (codes "inject") ⨾ name i.node ⨾ key (codes ".") ⨾ port i.port ⨾ key (codes "{")) (tags i.tags ⨾ fields i.fields ⨾ wheres i.tests ⨾ key (codes "}")) e first tags')
          (λ u w s. injection_is i e u s.0 w s.1 s.2))
          (assoc5 (injection_heading i.node i.port) (flat_map tag_line i.tags) (flat_map field_line i.fields) (flat_map where_line i.tests) (codes "}\n"));
      good = z.good;
    }

fits_place : (p : RawPlace) (d : ℕ) (b a : List Placed) → place p d b a → Good b → Fits (place_text p) (place p) d a
unfolding place_text
fits_place p d b a (m, s, (m1, n, (m2, dot, q))) good =
    let f = fits_side p.side d b m s good in
    let g = fits_name p.node d m m1 n f.good in
    let k = head (λ w. w.text ≡ codes ".") d m1 m2 dot g.good in
    let l = fits_number_in 0 4294967295 p.port d m2 a q k.good in
    record {
      prints = λ e low.
          let low' = lower e d low k.low in
          let dot' = worded kind.Sign (codes ".") (decimal p.port) e (λ w. w.text ≡ codes ".") (port p.port) low' refl (λ rest ok. before_digit 46 (decimal p.port) rest refl dot_digit (decimal_number p.port (number_fits p.port d m2 a q.2 k.good)).begins_digit) (l.prints e low) in
          same_text (side_text p.side ++ codes " " ++ p.node ++ codes "." ++ decimal p.port) (side_text p.side ++ 32 ∷ (p.node ++ (46 ∷ decimal p.port))) (place p e)
          (between (side_text p.side) _ (side p.side) (name p.node ⨾ key (codes ".") ⨾ port p.port) e (f.prints e low) (both p.node (46 ∷ decimal p.port) (name p.node) (key (codes ".") ⨾ port p.port) e (g.prints e low) dot' (λ rest ok. refl)))
          (assoc5 (side_text p.side) (codes " ") p.node (codes ".") (decimal p.port));
      good = l.good;
    }

-- the test of a reach that stands: it prints where it is not always met
with_by : (c : CondTree) (e : ℕ) → e ≤ 64 → Prints (cond_text c) (IsCond c e) → Prints (with_text c) (with_test c e)
with_by always e low h = no_text (with_test always e) (λ x y s. inr (refl, s))
with_by (tree.compare r x y) e low h = same_part _ ((key (codes "with") ⨾ IsCond (tree.compare r x y)) e) (with_test (tree.compare r x y) e) (spaced 32 _ ((key (codes "with") ⨾ IsCond (tree.compare r x y)) e) refl (keyed (codes "with") (cond_text (tree.compare r x y)) e (IsCond (tree.compare r x y)) low refl h)) (λ x y s. inl s)
with_by (tree.member x rs) e low h = same_part _ ((key (codes "with") ⨾ IsCond (tree.member x rs)) e) (with_test (tree.member x rs) e) (spaced 32 _ ((key (codes "with") ⨾ IsCond (tree.member x rs)) e) refl (keyed (codes "with") (cond_text (tree.member x rs)) e (IsCond (tree.member x rs)) low refl h)) (λ x y s. inl s)
with_by (tree.all_of cs) e low h = same_part _ ((key (codes "with") ⨾ IsCond (tree.all_of cs)) e) (with_test (tree.all_of cs) e) (spaced 32 _ ((key (codes "with") ⨾ IsCond (tree.all_of cs)) e) refl (keyed (codes "with") (cond_text (tree.all_of cs)) e (IsCond (tree.all_of cs)) low refl h)) (λ x y s. inl s)
with_by (tree.any_of cs) e low h = same_part _ ((key (codes "with") ⨾ IsCond (tree.any_of cs)) e) (with_test (tree.any_of cs) e) (spaced 32 _ ((key (codes "with") ⨾ IsCond (tree.any_of cs)) e) refl (keyed (codes "with") (cond_text (tree.any_of cs)) e (IsCond (tree.any_of cs)) low refl h)) (λ x y s. inl s)
with_by (tree.negation c) e low h = same_part _ ((key (codes "with") ⨾ IsCond (tree.negation c)) e) (with_test (tree.negation c) e) (spaced 32 _ ((key (codes "with") ⨾ IsCond (tree.negation c)) e) refl (keyed (codes "with") (cond_text (tree.negation c)) e (IsCond (tree.negation c)) low refl h)) (λ x y s. inl s)

fits_with : (c : CondTree) (d : ℕ) (b a : List Placed) → with_test c d b a → Good b → Fits (with_text c) (with_test c) d a
fits_with c d b a (inl (m, is, test)) good =
    let h = head (λ w. w.text ≡ codes "with") d b m is good in
    let f = fits_cond c d m a test h.good in
    record { prints = λ e low. with_by c e (lower e d low h.low) (f.prints e low); good = f.good }
fits_with c d b a (inr (same, is)) good =
    record { prints = λ e low. subst (λ x. Prints (with_text x) (with_test x e)) (sym same) (no_text (with_test always e) (λ x y s. inr (refl, s))); good = subst Good is good }

with_off : (c : CondTree) (t : List ℕ) → Off (59 ∷ t) → Off (with_text c ++ 59 ∷ t)
with_off always t off rest ok = refl
with_off (tree.compare r x y) t off rest ok = refl
with_off (tree.member x rs) t off rest ok = refl
with_off (tree.all_of cs) t off rest ok = refl
with_off (tree.any_of cs) t off rest ok = refl
with_off (tree.negation c) t off rest ok = refl

reach_shape : (p w : List ℕ) → codes "ask reach " ++ p ++ w ++ codes ";\n" ≡ (codes "ask" ++ 32 ∷ (codes "reach" ++ 32 ∷ (p ++ (w ++ 59 ∷ [])))) ++ 10 ∷ []
reach_shape p w = simp append_assoc refl

question_shape : (w t p : List ℕ) → codes "ask " ++ w ++ codes " " ++ t ++ codes " at " ++ p ++ codes ";\n" ≡ (codes "ask" ++ 32 ∷ (w ++ 32 ∷ (t ++ (32 ∷ (codes "at" ++ 32 ∷ (p ++ 59 ∷ [])))))) ++ 10 ∷ []
question_shape w t p = simp append_assoc refl

-- a question, and the semicolon behind it
abbrev asked : AskTree → Spelling
asked x = key (codes "ask") ⨾ question x ⨾ key (codes ";")

reach_is : (p : RawPlace) (c : CondTree) (e : ℕ) (b a : List Placed) → (key (codes "ask") ⨾ key (codes "reach") ⨾ place p ⨾ with_test c ⨾ key (codes ";")) e b a → asked (tree.reach p c) e b a
reach_is p c e b a (m, is, (m1, is', (m2, at', (m3, test, end)))) = (m, is, (m3, (m1, is', (m2, at', test)), end))

kept_is : (w : List ℕ) (t : Target) (p : RawPlace) (e : ℕ) (b a : List Placed) → (key (codes "ask") ⨾ key w ⨾ target t ⨾ key (codes "at") ⨾ place p ⨾ key (codes ";")) e b a → (key (codes "ask") ⨾ (key w ⨾ target t ⨾ key (codes "at") ⨾ place p) ⨾ key (codes ";")) e b a
kept_is w t p e b a (m, is, (m1, is', (m2, t', (m3, at', (m4, p', end))))) = (m, is, (m4, (m1, is', (m2, t', (m3, at', p'))), end))

fits_kept : (w : List ℕ) (t : Target) (p : RawPlace) (d : ℕ) (b a : List Placed) → (key (codes "ask") ⨾ (key w ⨾ target t ⨾ key (codes "at") ⨾ place p) ⨾ key (codes ";")) d b a → Good b → is_name w ≡ true
    → FitsLine (question_text w t p) (key (codes "ask") ⨾ (key w ⨾ target t ⨾ key (codes "at") ⨾ place p) ⨾ key (codes ";")) d a
unfolding question_text
fits_kept w t p d b a (m, is, (m4, (m1, is', (m2, t', (m3, at', p'))), end)) good valid =
    let h = head (λ x. x.text ≡ codes "ask") d b m is good in
    let k = head (λ x. x.text ≡ w) d m m1 is' h.good in
    let f = fits_target t d m1 m2 t' k.good in
    let l = head (λ x. x.text ≡ codes "at") d m2 m3 at' f.good in
    let g = fits_place p d m3 m4 p' l.good in
    let z = head (λ x. x.text ≡ codes ";") d m4 a end g.good in
    record {
      prints = λ e low.
          let low' = lower e d low h.low in
          let placed = spaced 32 _ ((key (codes "at") ⨾ place p ⨾ key (codes ";")) e) refl (keyed (codes "at") _ e (place p ⨾ key (codes ";")) low' refl (prints_ended (place_text p) (place p) e low' (g.prints e low))) in
          let target' = both (target_text t) _ (target t) (key (codes "at") ⨾ place p ⨾ key (codes ";")) e (f.prints e low) placed (λ rest ok. refl) in
          let whole = keyed (codes "ask") _ e (key w ⨾ target t ⨾ key (codes "at") ⨾ place p ⨾ key (codes ";")) low' refl (keyed w _ e (target t ⨾ key (codes "at") ⨾ place p ⨾ key (codes ";")) low' valid target') in
          line_text_is (question_text w t p) _ ((key (codes "ask") ⨾ (key w ⨾ target t ⨾ key (codes "at") ⨾ place p) ⨾ key (codes ";")) e)
          (line_part _ ((key (codes "ask") ⨾ key w ⨾ target t ⨾ key (codes "at") ⨾ place p ⨾ key (codes ";")) e) ((key (codes "ask") ⨾ (key w ⨾ target t ⨾ key (codes "at") ⨾ place p) ⨾ key (codes ";")) e)
          (line_end _ ((key (codes "ask") ⨾ key w ⨾ target t ⨾ key (codes "at") ⨾ place p ⨾ key (codes ";")) e) whole) (λ x y s. kept_is w t p e x y s))
          (question_shape w (target_text t) (place_text p));
      good = z.good;
    }

fits_ask : (x : AskTree) (d : ℕ) (b a : List Placed) → asked x d b a → Good b → FitsLine (ask_text x) (asked x) d a
unfolding reach_text
fits_ask (tree.reach p c) d b a (m, is, (m3, (m1, is', (m2, at', test)), end)) good =
    let h = head (λ x. x.text ≡ codes "ask") d b m is good in
    let k = head (λ x. x.text ≡ codes "reach") d m m1 is' h.good in
    let f = fits_place p d m1 m2 at' k.good in
    let g = fits_with c d m2 m3 test f.good in
    let z = head (λ x. x.text ≡ codes ";") d m3 a end g.good in
    record {
      prints = λ e low.
          let low' = lower e d low h.low in
          let placed = both (place_text p) _ (place p) (with_test c ⨾ key (codes ";")) e (f.prints e low) (prints_ended (with_text c) (with_test c) e low' (g.prints e low)) (with_off c [] (λ rest ok. refl)) in
          let whole = keyed (codes "ask") _ e (key (codes "reach") ⨾ place p ⨾ with_test c ⨾ key (codes ";")) low' refl (keyed (codes "reach") _ e (place p ⨾ with_test c ⨾ key (codes ";")) low' refl placed) in
          line_text_is (reach_text p c) _ (asked (tree.reach p c) e)
          (line_part _ ((key (codes "ask") ⨾ key (codes "reach") ⨾ place p ⨾ with_test c ⨾ key (codes ";")) e) (asked (tree.reach p c) e)
          (line_end _ ((key (codes "ask") ⨾ key (codes "reach") ⨾ place p ⨾ with_test c ⨾ key (codes ";")) e) whole) (λ x y s. reach_is p c e x y s))
          (reach_shape (place_text p) (with_text c));
      good = z.good;
    }
fits_ask (tree.invariant t p) d b a is good = fits_kept (codes "invariant") t p d b a is good refl
fits_ask (tree.visible t p) d b a is good = fits_kept (codes "visible") t p d b a is good refl

fits_asks : (xs : List AskTree) (d : ℕ) (b a : List Placed) → asks xs d b a → Good b → FitsLine (flat_map ask_text xs) (asks xs) d a
fits_asks [] d b a is good = record { prints = λ e low. no_line (asks [] e) (λ x y s. s); good = subst Good is good }
fits_asks (x ∷ xs) d b a (m, first, others) good =
    let f = fits_ask x d b m first good in
    let g = fits_asks xs d m a others f.good in
    record { prints = λ e low. line_both (ask_text x) (flat_map ask_text xs) (asked x) (asks xs) e (f.prints e low) (g.prints e low); good = g.good }

version_head : (v : Version) (d : ℕ) (b a : List Placed) → version v d b a → Good b → Good a
version_head old d b a is good = (head (λ w. w.text ≡ codes "1") d b a is good).good
version_head new d b a is good = (head (λ w. w.text ≡ codes "2") d b a is good).good

version_word : (e : ℕ) → e ≤ 64 → Prints (50 ∷ (59 ∷ [])) ((version new ⨾ key (codes ";")) e)
unfolding is_number are_digits have_value
version_word e low = worded kind.Number (codes "2") (59 ∷ []) e (λ w. w.text ≡ codes "2") (key (codes ";")) low refl (λ rest ok. (refl, refl)) (sign_alone 59 e low refl semicolon)

first_line : (e : ℕ) → e ≤ 64 → PrintsLine (codes "symnet 2;\n") ((key (codes "symnet") ⨾ version new ⨾ key (codes ";")) e)
first_line e low = line_end (codes "symnet 2;") ((key (codes "symnet") ⨾ version new ⨾ key (codes ";")) e) (keyed (codes "symnet") (50 ∷ (59 ∷ [])) e (version new ⨾ key (codes ";")) low refl (version_word e low))

job_is : (j : JobTree) (b m a : List Placed) → (key (codes "symnet") ⨾ version new ⨾ key (codes ";")) 0 b m → (nodes new j.net.nodes ⨾ links j.net.links ⨾ injection j.injection ⨾ asks j.asks) 0 m a → job new j 0 b a
job_is j b m a (m1, is, (m2, v, end')) more = (m1, is, (m2, v, (m, end', more)))

-- the words of the text of a job that the words spell, with nesting to 64
pub record PrintedJob (j : JobTree) : Type 0 where
  pub placed : List Placed
  pub cut : Cut (job_text j) (bare placed)
  pub spelled : IsJob j placed
  pub shallow : AreShallow placed

pub printed_job : (j : JobTree) (placed : List Placed) → IsJob j placed → AreWords (bare placed) → AreShallow placed → PrintedJob j
unfolding job_text net_text
printed_job j placed (v, (m, is, (m1, v', (m2, end', (m3, ns, (m4, ls, (m5, inj, qs))))))) words shallow =
    let h = head (λ w. w.text ≡ codes "symnet") 0 placed m is (record { words = words; shallow = shallow }) in
    let g = version_head v 0 m m1 v' h.good in
    let k = head (λ w. w.text ≡ codes ";") 0 m1 m2 end' g in
    let n = fits_nodes v j.net.nodes 0 m2 m3 ns k.good in
    let l = fits_links j.net.links 0 m3 m4 ls n.good in
    let i = fits_injection j.injection 0 m4 m5 inj l.good in
    let q = fits_asks j.asks 0 m5 [] qs i.good in
    let tail = line_both (injection_text j.injection) (flat_map ask_text j.asks) (injection j.injection) (asks j.asks) 0 (i.prints 0 (omega arith)) (q.prints 0 (omega arith)) in
    let linked = line_both (flat_map link_text j.net.links) _ (links j.net.links) (injection j.injection ⨾ asks j.asks) 0 (l.prints 0 (omega arith)) tail in
    let netted = line_both (flat_map decl_text j.net.nodes) _ (nodes new j.net.nodes) (links j.net.links ⨾ injection j.injection ⨾ asks j.asks) 0 (n.prints 0 (omega arith)) linked in
    let whole = line_both (codes "symnet 2;\n") _ (key (codes "symnet") ⨾ version new ⨾ key (codes ";")) (nodes new j.net.nodes ⨾ links j.net.links ⨾ injection j.injection ⨾ asks j.asks) 0 (first_line 0 (omega arith)) netted [] [] nothing_left in
    record {
      placed = whole.before;
      cut = subst (λ t. Cut t (bare whole.before)) (append-nil _ ∙ sym (job_shape (codes "symnet 2;\n") (flat_map decl_text j.net.nodes) (flat_map link_text j.net.links) (injection_text j.injection) (flat_map ask_text j.asks))) whole.cut;
      spelled = (new, job_is j whole.before whole.spelled.0 [] whole.spelled.1 whole.spelled.2);
      shallow = whole.shallow tt;
    }
  where
    job_shape : (a b c d e : List ℕ) → a ++ (b ++ c) ++ d ++ e ≡ a ++ (b ++ (c ++ (d ++ e)))
    job_shape a b c d e = simp append_assoc refl
