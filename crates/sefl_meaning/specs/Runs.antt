-- The run of one port's code by one packet, in numbers.
use Rattle.std.specs.Prelude.{ℕ, suc, ◌+◌, List, [], ◌∷◌, ◌++◌, length, Result, Ok, Err, if◌then◌else◌}
use Rattle.sn_width.specs.declared.faults.LayoutFault.{LayoutFault}
use Rattle.sefl_syntax.specs.Trees.{InstrTree, CodeTree, allocate, deallocate, assign, assign_any, create_tag, set_tag, destroy_tag, constrain, fail, branch, each, forward, fork, block, no_op, no_code, instr_and}
use Rattle.metadata_scopes.specs.Snapshot.{snapshot}
use Rattle.job_items.specs.AtomRules.{width_of}
use Rattle.sefl_meaning.specs.declared.walk.Decision.{Decision}
use Rattle.sefl_meaning.specs.declared.walk.Decision.TheVariants.{Then, Else, Pass, Broken}
use Rattle.sefl_meaning.specs.declared.walk.Failure.{Failure}
use Rattle.sefl_meaning.specs.declared.walk.Failure.TheVariants.{Layout, Constraint, Message}
use Rattle.sefl_meaning.specs.Values.{numbers}
use Rattle.sefl_meaning.specs.Network.{names_found, code_size, inner_size}
use Rattle.sefl_meaning.specs.Carried.{Carried, Scene, Key}
use Rattle.sefl_meaning.specs.Terms.{truth_in}
use Rattle.sefl_meaning.specs.Steps.{allocated, deallocated, assigned, evaluated, tag_created, tag_set, tag_destroyed}

-- how the run of a port's code ends: off its end, by one port, by a copy for each listed port, or failed at a site
pub data Exit : Type 0 where
  off : Exit
  go : ℕ → Exit
  forked : List ℕ → Exit
  failed : Failure → ℕ → Exit

-- what is carried, the widths of the choices so far, and how many instructions have begun
pub record Progress (V : Type 0) : Type 0 where
  pub state : Carried V
  pub choices : List ℕ
  pub begun : ℕ

-- before any instruction
abbrev pub starting : {V : Type 0} → Carried V → Progress V
starting s = record { state = s; choices = []; begun = 0 }

-- the decisions of a run, what is carried and was counted after it, and how it ended
pub record Ran : Type 0 where
  pub decisions : List Decision
  pub progress : Progress ℕ
  pub exit : Exit

abbrev pub ran : Exit → Progress ℕ → Ran
ran exit p = record { decisions = []; progress = p; exit = exit }

-- the same run with these decisions noted before its own
abbrev pub noting : List Decision → Ran → Ran
noting decisions r = record r { decisions = decisions ++ r.decisions }

-- a fault ends the run at its site and changes nothing
abbrev pub unless_fault : {A : Type 0} → ℕ → Result A LayoutFault → Progress ℕ → (A → Ran) → Ran
unless_fault site (Ok x) p next = next x
unless_fault site (Err fault) p next = ran (failed (Layout fault) site) p

abbrev pub step : ℕ → Result (Carried ℕ) LayoutFault → Progress ℕ → Ran
step site result p = unless_fault site result p (λ next. ran off (record p { state = next }))

-- a run, and the next one where it went off its end
abbrev pub then_next : Exit → Ran → (Progress ℕ → Ran) → Ran
then_next off r next = noting r.decisions (next r.progress)
then_next (go port) r next = r
then_next (forked ports) r next = r
then_next (failed failure site) r next = r

abbrev pub then_run : Ran → (Progress ℕ → Ran) → Ran
then_run r next = then_next r.exit r next

-- a run for each of the keys, one after another
abbrev pub run_iterations : (Key → Progress ℕ → Ran) → List Key → Progress ℕ → Ran
run_iterations body [] p = ran off p
run_iterations body (key ∷ keys) p = then_run (body key p) (run_iterations body keys)

-- the scene of one iteration of a For
abbrev pub in_iteration : Scene → List ℕ → Key → Scene
in_iteration at var key = record at { iterations = record { var = var; owner = key.0; name = key.1 } ∷ at.iterations }

-- the metadata that a For goes over: those that its pattern finds and that are allocated at its start
abbrev pub iterations_of : {V : Type 0} → Scene → List ℕ → Carried V → List Key
iterations_of at pattern s = snapshot at.node (names_found at.net pattern) s.scopes

-- a packet with its choices, which stand behind this many unknown fields
module _ (v : List ℕ) (unknowns : ℕ) where
  abbrev mutual
    -- the instruction at the site, which is counted already
    pub run_instr : Scene → ℕ → InstrTree → Progress ℕ → Ran
    run_instr at site (allocate target) p = step site (allocated at target p.state) p
    run_instr at site (deallocate target) p = step site (deallocated at target p.state) p
    run_instr at site (assign target value) p = step site (evaluated (numbers v unknowns) at target value p.state) p
    run_instr at site (assign_any target) p =
        unless_fault site (assigned at target ((numbers v unknowns).choice (width_of target) (length p.choices)) p.state) p
        (λ next. ran off (record { state = next; choices = p.choices ++ width_of target ∷ []; begun = p.begun }))
    run_instr at site (create_tag name addr) p = step site (tag_created at name addr p.state) p
    run_instr at site (set_tag name addr) p = step site (tag_set at name addr p.state) p
    run_instr at site (destroy_tag name) p = step site (tag_destroyed at name p.state) p
    run_instr at site (constrain test) p = unless_fault site (truth_in (numbers v unknowns) at test p.state) p (λ holds.
        if holds then noting (Pass ∷ []) (ran off p) else noting (Broken ∷ []) (ran (failed Constraint site) p))
    run_instr at site (fail text) p = ran (failed (Message text) site) p
    run_instr at site (branch test first other) p =
        unless_fault site (truth_in (numbers v unknowns) at test p.state) p (λ holds.
        if holds then noting (Then ∷ []) (run_code at (suc site) first p)
        else noting (Else ∷ []) (run_code at (suc site + code_size first) other p))
    run_instr at site (each var pattern body) p =
        run_iterations (λ key p. run_code (in_iteration at var key) (suc site) body p) (iterations_of at pattern p.state) p
    run_instr at site (forward port) p = ran (go port) p
    run_instr at site (fork ports) p = ran (forked ports) p
    run_instr at site (block body) p = run_code at (suc site) body p
    run_instr at site no_op p = ran off p

    -- instructions, one after another, the first one at the site; each is counted as it begins
    pub run_code : Scene → ℕ → CodeTree → Progress ℕ → Ran
    run_code at site no_code p = ran off p
    run_code at site (instr_and i is) p =
        then_run (run_instr at site i (record p { begun = suc p.begun })) (run_code at (suc site + inner_size i) is)
