-- What the code of a filter list comes to, where each of its fields reads a number.
use Rattle.std.proofs.Common.{◌≡◌, ◌∙◌, refl, sym, ap, ℕ, suc, ◌+◌, Bool, true, false, true≢false, cond, ◌&&◌, ◌||◌, nat_le, if◌then◌else◌, List, [], ◌∷◌, ◌++◌, length, map, Option, Some, Result, Ok, arith}
use Rattle.std.specs.Prelude.{find, option_map, unwrap_or}
use Rattle.std.specs.List.{AllByRecursion, list_all, list_any}
use Rattle.std.proofs.lemmas.List.Folds.{list_any-append}
use Rattle.sn_width.specs.declared.faults.LayoutFault.{LayoutFault}
use Rattle.sefl_syntax.specs.declared.net.Style.{Style}
use Rattle.sefl_syntax.specs.declared.net.Style.TheVariants.{Chain, Grouped, Egress}
use Rattle.sefl_syntax.specs.Trees.{CondTree, CodeTree, no_code, instr_and}
use Rattle.sefl_syntax.specs.Views.{code_of, conds_of}
use Rattle.table_nodes.specs.declared.field.Field.{Field}
use Rattle.table_nodes.specs.Fields.{cell}
use Rattle.acl_rules.specs.declared.rule.Rule.{Rule}
use Rattle.acl_rules.specs.Covers.{IsRule, permits}
use Rattle.acl_rules.specs.Packets.{AreRanges, Range, each, field_bits, is_in, lies_in}
use Rattle.acl_model.specs.Nodes.{acl_code, action_code, decision, denial, denied, fields, is_same, one_of, range_test, range_tests, rule_decision, rule_test, run_decisions, runs_from}
use Rattle.cell_stacks.specs.Outcome.{and_then, on_ok}
use Rattle.sefl_meaning.specs.Values.{numbers}
use Rattle.sefl_meaning.specs.Carried.{Carried, Scene}
use Rattle.sefl_meaning.specs.Network.{code_size, inner_size}
use Rattle.sefl_meaning.specs.Runs.{Progress, then_run, run_code}
use Rattle.sefl_meaning.specs.Terms.{truth_in, truths_in}
use Rattle.model_laws.specs.Filters.{AllRead, action_row, filter_row}
use Rattle.model_laws.specs.Outcomes.{Outcome, unless}
use Rattle.model_laws.specs.Passing.{read}
use Rattle.model_laws.proofs.Going.{Next, begun, chosen, goes, if_goes}
use Rattle.model_laws.proofs.Passing.{or_false, within_is}

-- ---- which ranges numbers lie in

lies : List Range → List ℕ → List Bool
lies [] ns = []
lies (r ∷ rs) [] = []
lies (r ∷ rs) (n ∷ ns) = lies_in r n ∷ lies rs ns

each_lies : (rs : List Range) (ns : List ℕ) → length rs ≡ length ns → list_all (λ t. t) (lies rs ns) ≡ each lies_in rs ns
unfolding lies
each_lies [] [] same = refl
each_lies [] (n ∷ ns) same = absurd (omega (arith, same))
each_lies (r ∷ rs) [] same = absurd (omega (arith, same))
each_lies (r ∷ rs) (n ∷ ns) same = let less : length rs ≡ length ns = omega (arith, same) in ap (λ b. lies_in r n && b) (each_lies rs ns less)

as_wide : (ws : List ℕ) (rs : List Range) → AreRanges ws rs → length ws ≡ length rs
as_wide [] [] h = refl
as_wide [] (r ∷ rs) h = absurd h
as_wide (w ∷ ws) [] h = absurd h
as_wide (w ∷ ws) (r ∷ rs) h = ap suc (as_wide ws rs h.2)

as_long : (at : Scene) (fs : List Field) (ns : List ℕ) (s : Carried ℕ) → AllRead at fs ns s → length fs ≡ length ns
as_long at [] [] s h = refl
as_long at [] (n ∷ ns) s h = absurd h
as_long at (f ∷ fs) [] s h = absurd h
as_long at (f ∷ fs) (n ∷ ns) s h = ap suc (as_long at fs ns s h.1)

abbrev Truth : Type 0
Truth = Result Bool LayoutFault

module _ (v : List ℕ) (unknowns : ℕ) (at : Scene) (s : Carried ℕ) where
  -- ---- the truths of conditions

  abbrev truth : CondTree → Truth
  truth c = truth_in (numbers v unknowns) at c s

  abbrev AreTruths : List CondTree → List Bool → Type 0
  AreTruths [] [] = Unit {0}
  AreTruths [] (b ∷ bs) = ⊥
  AreTruths (c ∷ cs) [] = ⊥
  AreTruths (c ∷ cs) (b ∷ bs) = (truth c ≡ Ok b) × AreTruths cs bs

  truths_are : (cs : List CondTree) (bs : List Bool) → AreTruths cs bs → truths_in (numbers v unknowns) at (conds_of cs) s ≡ Ok bs
  truths_are [] [] h = refl
  truths_are [] (b ∷ bs) h = absurd h
  truths_are (c ∷ cs) [] h = absurd h
  truths_are (c ∷ cs) (b ∷ bs) h =
      let later = truths_are cs bs h.1 in
      ap (λ (t : Truth). and_then t (λ f. on_ok (λ fs. f ∷ fs) (truths_in (numbers v unknowns) at (conds_of cs) s))) h.0
      ∙ ap (on_ok (λ fs. b ∷ fs)) later

  -- one of several tests
  one_of_is : (cs : List CondTree) (bs : List Bool) → AreTruths cs bs → truth (one_of cs) ≡ Ok (list_any (λ t. t) bs)
  one_of_is [] [] h = refl
  one_of_is [] (b ∷ bs) h = absurd h
  one_of_is (c ∷ []) [] h = absurd h
  one_of_is (c ∷ []) (b ∷ []) h = h.0 ∙ ap Ok (sym (or_false b))
  one_of_is (c ∷ []) (b ∷ d ∷ bs) h = absurd h.1
  one_of_is (c ∷ d ∷ cs) bs h = ap (on_ok (list_any (λ t. t))) (truths_are (c ∷ d ∷ cs) bs h)

  with_last : (cs : List CondTree) (bs : List Bool) (c : CondTree) (b : Bool) → AreTruths cs bs → truth c ≡ Ok b → AreTruths (cs ++ c ∷ []) (bs ++ b ∷ [])
  with_last [] [] c b h is = (is, tt)
  with_last [] (x ∷ bs) c b h is = absurd h
  with_last (x ∷ cs) [] c b h is = absurd h
  with_last (x ∷ cs) (y ∷ bs) c b h is = (h.0, with_last cs bs c b h.1 is)

  -- a field lies in a range
  range_truth : (field : Field) (range : Range) (n : ℕ) → read at (cell field) s ≡ Ok n → truth (range_test field range) ≡ Ok (lies_in range n)
  range_truth field range n is = within_is v unknowns at s field range.0 range.1 ∙ ap (on_ok (λ m. nat_le range.0 m && nat_le m range.1)) is

  ranges_truths : (fs : List Field) (rs : List Range) (ns : List ℕ) → AllRead at fs ns s → AreTruths (range_tests fs rs) (lies rs ns)
  unfolding lies
  ranges_truths [] [] [] h = tt
  ranges_truths [] (r ∷ rs) [] h = tt
  ranges_truths [] rs (n ∷ ns) h = absurd h
  ranges_truths (f ∷ fs) rs [] h = absurd h
  ranges_truths (f ∷ fs) [] (n ∷ ns) h = tt
  ranges_truths (f ∷ fs) (r ∷ rs) (n ∷ ns) h = (range_truth f r n h.0, ranges_truths fs rs ns h.1)

  -- the test of a rule tells whether the rule contains the packet
  rule_truth : (rule : Rule) (packet : List ℕ) → IsRule rule → AllRead at fields packet s → truth (rule_test rule) ≡ Ok (is_in rule.ranges packet)
  rule_truth rule packet box reads =
      ap (on_ok (list_all (λ t. t))) (truths_are (range_tests fields rule.ranges) (lies rule.ranges packet) (ranges_truths fields rule.ranges packet reads))
      ∙ ap Ok (each_lies rule.ranges packet (sym (as_wide field_bits rule.ranges box) ∙ as_long at fields packet s reads))

-- ---- the rows

-- the first rule decides where it contains the packet, and the others where it does not
row_by : (rule : Rule) (b : Bool) (later : Option Rule) (s : Carried ℕ)
    → action_row (unwrap_or (option_map (λ r. r.permits) (cond b (Some rule) later)) false) s
    ≡ (if b then action_row rule.permits s else action_row (unwrap_or (option_map (λ r. r.permits) later) false) s)
row_by rule true later s = refl
row_by rule false later s = refl

module _ (v : List ℕ) (unknowns : ℕ) (at : Scene) (packet : List ℕ) where
  first_row : (rule : Rule) (rules : List Rule) (s : Carried ℕ)
      → (if is_in rule.ranges packet then action_row rule.permits s else filter_row rules packet s) ≡ filter_row (rule ∷ rules) packet s
  first_row rule rules s = sym (row_by rule (is_in rule.ranges packet) (find (λ r. is_in r.ranges packet) rules) s)

  -- ---- the code

  action_goes : (site : ℕ) (permits : Bool) (p : Progress ℕ) (next : Next) → goes v unknowns at site (action_code permits) p next ≡ action_row permits p.state
  action_goes site true p next = refl
  action_goes site false p next = refl

  -- a decision, and then code that comes to a row
  decision_goes : (site : ℕ) (permits : Bool) (test : CondTree) (b : Bool) (is : CodeTree) (p : Progress ℕ) (next : Next) (row : Outcome)
      → truth_in (numbers v unknowns) at test p.state ≡ Ok b
      → goes v unknowns at (suc site + inner_size (decision permits test)) is (begun v unknowns at p) next ≡ row
      → goes v unknowns at site (instr_and (decision permits test) is) p next ≡ (if b then action_row permits p.state else row)
  decision_goes site permits test b is p next row known later =
      let after = suc site + inner_size (decision permits test) in
      let rest : Next = λ p. then_run (run_code v unknowns at after is p) next in
      if_goes v unknowns at site after (suc site) (suc site + code_size (action_code permits)) (truth_in (numbers v unknowns) at test p.state)
      (action_code permits) no_code is (begun v unknowns at p) next
      ∙ ap (λ t. unless t (λ holds. if holds then goes v unknowns at (suc site) (action_code permits) (begun v unknowns at p) rest
      else goes v unknowns at (suc site + code_size (action_code permits)) no_code (begun v unknowns at p) rest)) known
      ∙ chosen v unknowns at b _ _ _ _ (action_goes (suc site) permits (begun v unknowns at p) rest) later

  abbrev AreAll : List Rule → Type 0
  AreAll rules = AllByRecursion IsRule rules

  -- style chain
  chain_goes : (site : ℕ) (rules : List Rule) (p : Progress ℕ) (next : Next) → AreAll rules → AllRead at fields packet p.state
      → goes v unknowns at site (code_of (map rule_decision rules ++ denial ∷ [])) p next ≡ filter_row rules packet p.state
  chain_goes site [] p next all reads = refl
  chain_goes site (rule ∷ rules) p next all reads =
      decision_goes site rule.permits (rule_test rule) (is_in rule.ranges packet) (code_of (map rule_decision rules ++ denial ∷ [])) p next
      (filter_row rules packet p.state) (rule_truth v unknowns at p.state rule packet all.0 reads)
      (chain_goes (suc site + inner_size (rule_decision rule)) rules (begun v unknowns at p) next all.1 reads)
      ∙ first_row rule rules p.state

  -- style grouped: a run so far, and the rules behind it
  abbrev RunGoes : List Rule → Type 0
  RunGoes rules = (site : ℕ) (permits : Bool) (tests : List CondTree) (bs : List Bool) (p : Progress ℕ) (next : Next)
      → AreTruths v unknowns at p.state tests bs → AllRead at fields packet p.state
      → goes v unknowns at site (code_of (runs_from permits tests rules ++ denial ∷ [])) p next
      ≡ (if list_any (λ t. t) bs then action_row permits p.state else filter_row rules packet p.state)

  -- a rule of the same action joins the run
  joins : (permits other : Bool) → is_same permits other ≡ true → permits ≡ other
  joins true true is = refl
  joins true false is = absurd (true≢false (sym is))
  joins false true is = absurd (true≢false (sym is))
  joins false false is = refl

  joined_row : (one two permits : Bool) (s : Carried ℕ) (row : Outcome)
      → (if one || two then action_row permits s else row) ≡ (if one then action_row permits s else (if two then action_row permits s else row))
  joined_row true two permits s row = refl
  joined_row false two permits s row = refl

  runs_go : (rules : List Rule) → AreAll rules → RunGoes rules
  runs_go [] all site permits tests bs p next truths reads =
      decision_goes site permits (one_of tests) (list_any (λ t. t) bs) denied p next (filter_row [] packet p.state)
      (one_of_is v unknowns at p.state tests bs truths) refl
  runs_go (rule ∷ rules) all site permits tests bs p next truths reads = by (is_same permits rule.permits) refl (runs_go rules all.1)
    where
      inside : Bool
      inside = is_in rule.ranges packet

      any : Bool
      any = list_any (λ t. t) bs

      known : truth_in (numbers v unknowns) at (rule_test rule) p.state ≡ Ok (is_in rule.ranges packet)
      known = rule_truth v unknowns at p.state rule packet all.0 reads

      by : (same : Bool) → is_same permits rule.permits ≡ same → RunGoes rules
          → goes v unknowns at site (code_of ((if same then runs_from permits (tests ++ rule_test rule ∷ []) rules
          else decision permits (one_of tests) ∷ runs_from rule.permits (rule_test rule ∷ []) rules) ++ denial ∷ [])) p next
          ≡ (if list_any (λ t. t) bs then action_row permits p.state else filter_row (rule ∷ rules) packet p.state)
      by true is more =
          more site permits (tests ++ rule_test rule ∷ []) (bs ++ is_in rule.ranges packet ∷ []) p next
          (with_last v unknowns at p.state tests bs (rule_test rule) (is_in rule.ranges packet) truths known) reads
          ∙ ap (λ b. if b then action_row permits p.state else filter_row rules packet p.state)
          (list_any-append (λ (t : Bool). t) bs (is_in rule.ranges packet ∷ []) ∙ ap (λ b. list_any (λ t. t) bs || b) (or_false (is_in rule.ranges packet)))
          ∙ joined_row (list_any (λ t. t) bs) (is_in rule.ranges packet) permits p.state (filter_row rules packet p.state)
          ∙ ap (λ row. if list_any (λ t. t) bs then action_row permits p.state else row)
          (ap (λ a. if is_in rule.ranges packet then action_row a p.state else filter_row rules packet p.state) (joins permits rule.permits is)
          ∙ first_row rule rules p.state)
      by false is more =
          decision_goes site permits (one_of tests) (list_any (λ t. t) bs) (code_of (runs_from rule.permits (rule_test rule ∷ []) rules ++ denial ∷ [])) p next
          (filter_row (rule ∷ rules) packet p.state) (one_of_is v unknowns at p.state tests bs truths)
          (more (suc site + inner_size (decision permits (one_of tests))) rule.permits (rule_test rule ∷ []) (is_in rule.ranges packet ∷ [])
          (begun v unknowns at p) next (known, tt) reads
          ∙ ap (λ b. if b then action_row rule.permits p.state else filter_row rules packet p.state) (or_false (is_in rule.ranges packet))
          ∙ first_row rule rules p.state)

  grouped_goes : (site : ℕ) (rules : List Rule) (p : Progress ℕ) (next : Next) → AreAll rules → AllRead at fields packet p.state
      → goes v unknowns at site (code_of (run_decisions rules ++ denial ∷ [])) p next ≡ filter_row rules packet p.state
  grouped_goes site [] p next all reads = refl
  grouped_goes site (rule ∷ rules) p next all reads =
      runs_go rules all.1 site rule.permits (rule_test rule ∷ []) (is_in rule.ranges packet ∷ []) p next
      (rule_truth v unknowns at p.state rule packet all.0 reads, tt) reads
      ∙ ap (λ b. if b then action_row rule.permits p.state else filter_row rules packet p.state) (or_false (is_in rule.ranges packet))
      ∙ first_row rule rules p.state

  pub acl_goes : (style : Style) (rules : List Rule) → (style ≡ Egress → ⊥) → AreAll rules
      → (site : ℕ) (p : Progress ℕ) (next : Next) → AllRead at fields packet p.state
      → goes v unknowns at site (acl_code style rules) p next ≡ filter_row rules packet p.state
  acl_goes Chain rules not_egress all site p next reads = chain_goes site rules p next all reads
  acl_goes Grouped rules not_egress all site p next reads = grouped_goes site rules p next all reads
  acl_goes Egress rules not_egress all site p next reads = absurd (not_egress refl)
