-- What code that only tests one cell does where that cell reads a number.
use Rattle.std.proofs.Common.{◌≡◌, ◌∙◌, refl, sym, ap, subst, ℕ, suc, ◌+◌, ◌%◌, ◌^◌, nat_le, Bool, true, false, not, ◌&&◌, ◌||◌, if◌then◌else◌, List, [], ◌∷◌, Option, None, Some, Ok}
use Rattle.std.specs.List.{list_all, list_any}
use Rattle.std.proofs.Math.Nat.{mod-eq_of_lt}
use Rattle.sn_width.specs.declared.rel.Rel.{Rel}
use Rattle.sn_width.specs.Rel.{relates}
use Rattle.sefl_syntax.specs.declared.reference.Target.{Target}
use Rattle.sefl_syntax.specs.Trees.{ExprTree, constant, reading, sum, CondTree, always, compare, member, all_of, any_of, negation, CondTrees, no_conds, cond_and, InstrTree, allocate, deallocate, assign, assign_any, create_tag, set_tag, destroy_tag, constrain, fail, branch, each, forward, fork, block, no_op, CodeTree, no_code, instr_and}
use Rattle.cell_stacks.specs.Outcome.{and_then, on_ok}
use Rattle.job_items.specs.AtomRules.{atom_width, width_of}
use Rattle.job_items.specs.Atoms.{comparison, membership}
use Rattle.sefl_meaning.specs.declared.walk.Decision.{Decision}
use Rattle.sefl_meaning.specs.declared.walk.Decision.TheVariants.{Then, Else, Pass, Broken}
use Rattle.sefl_meaning.specs.declared.walk.Failure.TheVariants.{Constraint}
use Rattle.sn_ranges.specs.Ranges.{is_member, in_range}
use Rattle.sefl_meaning.specs.Values.{numbers}
use Rattle.sefl_meaning.specs.Carried.{Carried, Scene, read_at}
use Rattle.sefl_meaning.specs.Terms.{compared, looked_up, truth_in, truths_in}
use Rattle.sefl_meaning.specs.Network.{code_size, inner_size}
use Rattle.sefl_meaning.specs.Runs.{Exit, off, go, forked, failed, Progress, Ran, ran, noting, then_next, then_run, unless_fault, run_instr, run_code}
use Rattle.table_nodes.specs.Exits.{operand, holds, all_hold, some_holds, lies_in, first_way, way, way_at}
use Rattle.model_laws.specs.Leaving.{ports_of}
use Rattle.model_laws.specs.Reads.{IsReadOf, IsConstant, TestsIt, AllTestIt, OnlyTests, OnlyTestsAt}

-- the truths of a list of conditions
abbrev truths : ℕ → CondTrees → List Bool
truths a no_conds = []
truths a (cond_and c conds) = holds a c ∷ truths a conds

all_true : (a : ℕ) (conds : CondTrees) → list_all (λ t. t) (truths a conds) ≡ all_hold a conds
all_true a no_conds = refl
all_true a (cond_and c conds) = ap (λ t. holds a c && t) (all_true a conds)

some_true : (a : ℕ) (conds : CondTrees) → list_any (λ t. t) (truths a conds) ≡ some_holds a conds
some_true a no_conds = refl
some_true a (cond_and c conds) = ap (λ t. holds a c || t) (some_true a conds)

-- membership by the two definitions
lies_is_member : (set : List (ℕ × ℕ)) (a : ℕ) → is_member set a ≡ lies_in a set
unfolding is_member in_range
lies_is_member [] a = refl
lies_is_member (r ∷ rs) a = ap (λ b. (nat_le r.0 a && nat_le a r.1) || b) (lies_is_member rs a)

module _ (v : List ℕ) (unknowns : ℕ) (at : Scene) (d : Target) (s : Carried ℕ) (a : ℕ) (reads : read_at at (width_of d) d s ≡ Ok a) where
  compared_at : (rel : Rel) (left right : ExprTree) → IsReadOf d left → IsConstant (width_of d) right
      → compared (numbers v unknowns) at (atom_width (comparison left right)) rel left right s ≡ Ok (relates rel (operand a left) (operand a right))
  compared_at rel (reading target) (constant n) is fits =
      ap (λ t. and_then (read_at at (width_of t) t s) (λ x. Ok (relates rel x (n % 2 ^ width_of t)))) is
      ∙ ap (λ r. and_then r (λ x. Ok (relates rel x (n % 2 ^ width_of d)))) reads
      ∙ ap (λ m. Ok (relates rel a m)) (mod-eq_of_lt fits)
  compared_at rel (constant n) right is fits = absurd is
  compared_at rel (reading target) (reading other) is fits = absurd fits
  compared_at rel (reading target) (sum first rest) is fits = absurd fits
  compared_at rel (sum first rest) right is fits = absurd is

  looked_up_at : (value : ExprTree) (ranges : List (ℕ × ℕ)) → IsReadOf d value
      → looked_up (numbers v unknowns) at (atom_width (membership value ranges)) value ranges s ≡ Ok (lies_in (operand a value) ranges)
  looked_up_at (reading target) ranges is =
      ap (λ t. on_ok (λ x. is_member ranges x) (read_at at (width_of t) t s)) is ∙ ap (λ r. on_ok (λ x. is_member ranges x) r) reads
      ∙ ap Ok (lies_is_member ranges a)
  looked_up_at (constant n) ranges is = absurd is
  looked_up_at (sum first rest) ranges is = absurd is

  mutual
    pub truth_at : (c : CondTree) → TestsIt d c → truth_in (numbers v unknowns) at c s ≡ Ok (holds a c)
    truth_at always t = refl
    truth_at (compare rel left right) t = compared_at rel left right t.0 t.1
    truth_at (member value ranges) t = looked_up_at value ranges t
    truth_at (all_of conds) t = ap (on_ok (list_all (λ t. t))) (truths_at conds t) ∙ ap Ok (all_true a conds)
    truth_at (any_of conds) t = ap (on_ok (list_any (λ t. t))) (truths_at conds t) ∙ ap Ok (some_true a conds)
    truth_at (negation c) t = ap (on_ok not) (truth_at c t)

    truths_at : (conds : CondTrees) → AllTestIt d conds → truths_in (numbers v unknowns) at conds s ≡ Ok (truths a conds)
    truths_at no_conds t = refl
    truths_at (cond_and c conds) t =
        ap (λ r. and_then r (λ f. on_ok (λ fs. f ∷ fs) (truths_in (numbers v unknowns) at conds s))) (truth_at c t.0)
        ∙ ap (on_ok (λ fs. holds a c ∷ fs)) (truths_at conds t.1)

-- a run that changed nothing, and went this way
pub record WentBy (r : Ran) (s : Carried ℕ) (to : Option (List ℕ)) : Type 0 where
  pub state : r.progress.state ≡ s
  pub ports : ports_of r.exit ≡ to

-- noting decisions changes neither
noted : (ds : List Decision) (r : Ran) (s : Carried ℕ) (to : Option (List ℕ)) → WentBy r s to → WentBy (noting ds r) s to
noted ds r s to w = record { state = w.state; ports = w.ports }

stays : (r : Ran) (s : Carried ℕ) (to later : Option (List ℕ)) (ports : List ℕ) → Some ports ≡ to → WentBy r s to → WentBy r s (first_way to later)
stays r s to later ports is w = subst (λ x. WentBy r s x → WentBy r s (first_way x later)) is (λ w. w) w

then_went : (r : Ran) (next : Progress ℕ → Ran) (s : Carried ℕ) (to later : Option (List ℕ))
    → WentBy r s to → ((p : Progress ℕ) → p.state ≡ s → WentBy (next p) s later) → WentBy (then_run r next) s (first_way to later)
then_went r next s to later w n = by r.exit refl
  where
    by : (e : Exit) → r.exit ≡ e → WentBy (then_next e r next) s (first_way to later)
    by off is =
        let none : None ≡ to = sym (ap ports_of is) ∙ w.ports in
        subst (λ x. WentBy (noting r.decisions (next r.progress)) s (first_way x later)) none (noted r.decisions (next r.progress) s later (n r.progress w.state))
    by (go port) is = stays r s to later (port ∷ []) (sym (ap ports_of is) ∙ w.ports) w
    by (forked ports) is = stays r s to later ports (sym (ap ports_of is) ∙ w.ports) w
    by (failed failure site) is = stays r s to later [] (sym (ap ports_of is) ∙ w.ports) w

ran_went : (e : Exit) (p : Progress ℕ) (s : Carried ℕ) → p.state ≡ s → WentBy (ran e p) s (ports_of e)
ran_went e p s is = record { state = is; ports = refl }

-- of two runs, the one that the truth of a test chooses
chosen_went : (b : Bool) (r other : Ran) (s : Carried ℕ) (to away : Option (List ℕ)) → WentBy r s to → WentBy other s away
    → WentBy (if b then r else other) s (if b then to else away)
chosen_went true r other s to away w o = w
chosen_went false r other s to away w o = o

module _ (v : List ℕ) (unknowns : ℕ) (at : Scene) (d : Target) (s : Carried ℕ) (a : ℕ) (reads : read_at at (width_of d) d s ≡ Ok a) where
  -- where the test is true or false
  tested : (site : ℕ) (c : CondTree) (p : Progress ℕ) (next : Bool → Ran) (to : Option (List ℕ)) → p.state ≡ s → TestsIt d c → WentBy (next (holds a c)) s to
      → WentBy (unless_fault site (truth_in (numbers v unknowns) at c p.state) p next) s to
  tested site c p next to is t w =
      subst (λ r. WentBy (unless_fault site r p next) s to) (sym (ap (truth_in (numbers v unknowns) at c) is ∙ truth_at v unknowns at d s a reads c t)) w

  mutual
    pub went_at : (site : ℕ) (i : InstrTree) (p : Progress ℕ) → p.state ≡ s → OnlyTestsAt d i → WentBy (run_instr v unknowns at site i p) s (way_at a i)
    went_at site (allocate target) p is t = absurd t
    went_at site (deallocate target) p is t = absurd t
    went_at site (assign target value) p is t = absurd t
    went_at site (assign_any target) p is t = absurd t
    went_at site (create_tag name addr) p is t = absurd t
    went_at site (set_tag name addr) p is t = absurd t
    went_at site (destroy_tag name) p is t = absurd t
    went_at site (constrain test) p is t =
        tested site test p _ _ is t (chosen_went (holds a test) _ _ s _ _ (noted (Pass ∷ []) _ s _ (ran_went off p s is))
        (noted (Broken ∷ []) _ s _ (ran_went (failed Constraint site) p s is)))
    went_at site (fail text) p is t = ran_went _ p s is
    went_at site (branch test first other) p is t =
        tested site test p _ _ is t.0 (chosen_went (holds a test) _ _ s _ _ (noted (Then ∷ []) _ s _ (went (suc site) first p is t.1))
        (noted (Else ∷ []) _ s _ (went (suc site + code_size first) other p is t.2)))
    went_at site (each var pattern body) p is t = absurd t
    went_at site (forward port) p is t = ran_went (go port) p s is
    went_at site (fork ports) p is t = ran_went (forked ports) p s is
    went_at site (block body) p is t = went (suc site) body p is t
    went_at site no_op p is t = ran_went off p s is

    pub went : (site : ℕ) (code : CodeTree) (p : Progress ℕ) → p.state ≡ s → OnlyTests d code → WentBy (run_code v unknowns at site code p) s (way a code)
    went site no_code p is t = ran_went off p s is
    went site (instr_and i is) p same t =
        then_went _ (run_code v unknowns at (suc site + inner_size i) is) s _ _ (went_at site i (record p { begun = suc p.begun }) same t.0)
        (λ q h. went (suc site + inner_size i) is q h t.1)
