-- Runs from where the same is carried and as many choices were taken do the same.
use Rattle.std.proofs.Common.{◌≡◌, ℕ, suc, ◌+◌, Bool, true, false, if◌then◌else◌, List, [], ◌∷◌, ◌++◌, length, length-append, refl, ap, subst, arith, Result, Ok, Err}
use Rattle.sn_width.specs.declared.faults.LayoutFault.{LayoutFault}
use Rattle.sefl_syntax.specs.Trees.{InstrTree, CodeTree, allocate, deallocate, assign, assign_any, create_tag, set_tag, destroy_tag, constrain, fail, branch, each, forward, fork, block, no_op, no_code, instr_and}
use Rattle.job_items.specs.AtomRules.{width_of}
use Rattle.sefl_meaning.specs.declared.walk.Decision.{Decision}
use Rattle.sefl_meaning.specs.declared.walk.Decision.TheVariants.{Then, Else, Pass, Broken}
use Rattle.sefl_meaning.specs.declared.walk.Failure.TheVariants.{Constraint}
use Rattle.sefl_meaning.specs.Values.{numbers}
use Rattle.sefl_meaning.specs.Network.{code_size, inner_size}
use Rattle.sefl_meaning.specs.Carried.{Carried, Scene, Key}
use Rattle.sefl_meaning.specs.Terms.{truth_in}
use Rattle.sefl_meaning.specs.Steps.{allocated, deallocated, assigned, evaluated, tag_created, tag_set, tag_destroyed}
use Rattle.sefl_meaning.specs.Runs.{Progress, Exit, off, go, forked, failed, Ran, ran, noting, unless_fault, step, then_next, then_run, run_iterations, in_iteration, iterations_of, run_instr, run_code}
use Rattle.loop_walks.specs.Again.{IsLike}

-- the same decisions and the same exit, and the same is carried then
pub record RanAlike (r s : Ran) : Type 0 where
  pub decisions : r.decisions ≡ s.decisions
  pub exit : r.exit ≡ s.exit
  pub progress : IsLike r.progress s.progress

ended_alike : (exit : Exit) (p q : Progress ℕ) → IsLike p q → RanAlike (ran exit p) (ran exit q)
ended_alike exit p q h = record { decisions = refl; exit = refl; progress = h }

noting_alike : (ds : List Decision) (r s : Ran) → RanAlike r s → RanAlike (noting ds r) (noting ds s)
noting_alike ds r s h = record { decisions = ap (λ es. ds ++ es) h.decisions; exit = h.exit; progress = h.progress }

unless_alike : {A : Type 0} (site : ℕ) (result : Result A LayoutFault) (p q : Progress ℕ) (next other : A → Ran) → IsLike p q
    → ((x : A) → RanAlike (next x) (other x)) → RanAlike (unless_fault site result p next) (unless_fault site result q other)
unless_alike site (Ok x) p q next other h k = k x
unless_alike site (Err fault) p q next other h k = record { decisions = refl; exit = refl; progress = h }

step_alike : (f : Carried ℕ → Result (Carried ℕ) LayoutFault) (site : ℕ) (p q : Progress ℕ) → IsLike p q
    → RanAlike (step site (f p.state) p) (step site (f q.state) q)
step_alike f site p q h =
    subst (λ s. RanAlike (step site (f p.state) p) (step site (f s) q)) h.state
    (unless_alike site (f p.state) p q (λ next. ran off (record p { state = next })) (λ next. ran off (record q { state = next })) h
    (λ next. record { decisions = refl; exit = refl; progress = record { state = refl; choices = h.choices } }))

longer : (ws us : List ℕ) (w : ℕ) → length ws ≡ length us → length (ws ++ w ∷ []) ≡ length (us ++ w ∷ [])
longer ws us w e = omega (arith, e, length-append ws (w ∷ []), length-append us (w ∷ []))

abbrev pub AllAlike : (Progress ℕ → Ran) → Type 0
AllAlike next = (p q : Progress ℕ) → IsLike p q → RanAlike (next p) (next q)

next_alike : (exit : Exit) (r s : Ran) (next : Progress ℕ → Ran) → RanAlike r s → AllAlike next → RanAlike (then_next exit r next) (then_next exit s next)
next_alike off r s next h k =
    let rest = k r.progress s.progress h.progress in
    record { decisions = λ i. h.decisions i ++ rest.decisions i; exit = rest.exit; progress = rest.progress }
next_alike (go port) r s next h k = h
next_alike (forked ports) r s next h k = h
next_alike (failed failure site) r s next h k = h

then_alike : (r s : Ran) (next : Progress ℕ → Ran) → RanAlike r s → AllAlike next → RanAlike (then_run r next) (then_run s next)
then_alike r s next h k =
    subst (λ (exit : Exit). RanAlike (then_next r.exit r next) (then_next exit s next)) h.exit (next_alike r.exit r s next h k)

iterations_alike : (body : Key → Progress ℕ → Ran) → ((key : Key) → AllAlike (body key)) → (keys : List Key) → AllAlike (run_iterations body keys)
iterations_alike body k [] p q h = ended_alike off p q h
iterations_alike body k (key ∷ keys) p q h =
    then_alike (body key p) (body key q) (run_iterations body keys) (k key p q h) (iterations_alike body k keys)

either_alike : (holds : Bool) (r s r' s' : Ran) → RanAlike r s → RanAlike r' s'
    → RanAlike (if holds then r else r') (if holds then s else s')
either_alike true r s r' s' h k = h
either_alike false r s r' s' h k = k

module _ (v : List ℕ) (unknowns : ℕ) where
  test_alike : (at : Scene) (site : ℕ) (result : Result Bool LayoutFault) (p q : Progress ℕ) → IsLike p q
      → (held held' broken broken' : Ran) → RanAlike held held' → RanAlike broken broken'
      → RanAlike (unless_fault site result p (λ holds. if holds then held else broken))
      (unless_fault site result q (λ holds. if holds then held' else broken'))
  test_alike at site result p q h held held' broken broken' k l =
      unless_alike site result p q _ _ h (λ holds. either_alike holds held held' broken broken' k l)

  mutual
    instr_alike : (at : Scene) (site : ℕ) (i : InstrTree) → AllAlike (run_instr v unknowns at site i)
    instr_alike at site (allocate target) p q h = step_alike (allocated at target) site p q h
    instr_alike at site (deallocate target) p q h = step_alike (deallocated at target) site p q h
    instr_alike at site (assign target value) p q h = step_alike (evaluated (numbers v unknowns) at target value) site p q h
    instr_alike at site (assign_any target) p q h =
        subst
        (λ result. RanAlike (run_instr v unknowns at site (assign_any target) p)
        (unless_fault site result q
        (λ next. ran off (record { state = next; choices = q.choices ++ width_of target ∷ []; begun = q.begun }))))
        (λ i. assigned at target ((numbers v unknowns).choice (width_of target) (h.choices i)) (h.state i))
        (unless_alike site (assigned at target ((numbers v unknowns).choice (width_of target) (length p.choices)) p.state) p q
        (λ next. ran off (record { state = next; choices = p.choices ++ width_of target ∷ []; begun = p.begun }))
        (λ next. ran off (record { state = next; choices = q.choices ++ width_of target ∷ []; begun = q.begun })) h
        (λ next. record {
          decisions = refl;
          exit = refl;
          progress = record { state = refl; choices = longer p.choices q.choices (width_of target) h.choices };
        }))
    instr_alike at site (create_tag name addr) p q h = step_alike (tag_created at name addr) site p q h
    instr_alike at site (set_tag name addr) p q h = step_alike (tag_set at name addr) site p q h
    instr_alike at site (destroy_tag name) p q h = step_alike (tag_destroyed at name) site p q h
    instr_alike at site (constrain test) p q h =
        subst
        (λ s. RanAlike (run_instr v unknowns at site (constrain test) p)
        (unless_fault site (truth_in (numbers v unknowns) at test s) q
        (λ holds. if holds then noting (Pass ∷ []) (ran off q) else noting (Broken ∷ []) (ran (failed Constraint site) q)))) h.state
        (test_alike at site (truth_in (numbers v unknowns) at test p.state) p q h (noting (Pass ∷ []) (ran off p)) (noting (Pass ∷ []) (ran off q))
        (noting (Broken ∷ []) (ran (failed Constraint site) p)) (noting (Broken ∷ []) (ran (failed Constraint site) q))
        (noting_alike (Pass ∷ []) (ran off p) (ran off q) (ended_alike off p q h))
        (noting_alike (Broken ∷ []) (ran (failed Constraint site) p) (ran (failed Constraint site) q) (ended_alike (failed Constraint site) p q h)))
    instr_alike at site (fail text) p q h = ended_alike _ p q h
    instr_alike at site (branch test first other) p q h =
        subst
        (λ s. RanAlike (run_instr v unknowns at site (branch test first other) p)
        (unless_fault site (truth_in (numbers v unknowns) at test s) q
        (λ holds. if holds then noting (Then ∷ []) (run_code v unknowns at (suc site) first q)
        else noting (Else ∷ []) (run_code v unknowns at (suc site + code_size first) other q)))) h.state
        (test_alike at site (truth_in (numbers v unknowns) at test p.state) p q h
        (noting (Then ∷ []) (run_code v unknowns at (suc site) first p)) (noting (Then ∷ []) (run_code v unknowns at (suc site) first q))
        (noting (Else ∷ []) (run_code v unknowns at (suc site + code_size first) other p))
        (noting (Else ∷ []) (run_code v unknowns at (suc site + code_size first) other q))
        (noting_alike (Then ∷ []) _ _ (code_alike at (suc site) first p q h))
        (noting_alike (Else ∷ []) _ _ (code_alike at (suc site + code_size first) other p q h)))
    instr_alike at site (each var pattern body) p q h =
        subst
        (λ s. RanAlike (run_instr v unknowns at site (each var pattern body) p)
        (run_iterations (λ key r. run_code v unknowns (in_iteration at var key) (suc site) body r) (iterations_of at pattern s) q)) h.state
        (iterations_alike (λ key r. run_code v unknowns (in_iteration at var key) (suc site) body r)
        (λ key. code_alike (in_iteration at var key) (suc site) body) (iterations_of at pattern p.state) p q h)
    instr_alike at site (forward port) p q h = ended_alike (go port) p q h
    instr_alike at site (fork ports) p q h = ended_alike (forked ports) p q h
    instr_alike at site (block body) p q h = code_alike at (suc site) body p q h
    instr_alike at site no_op p q h = ended_alike off p q h

    pub code_alike : (at : Scene) (site : ℕ) (code : CodeTree) → AllAlike (run_code v unknowns at site code)
    code_alike at site no_code p q h = ended_alike off p q h
    code_alike at site (instr_and i is) p q h =
        then_alike (run_instr v unknowns at site i (record p { begun = suc p.begun })) (run_instr v unknowns at site i (record q { begun = suc q.begun }))
        (run_code v unknowns at (suc site + inner_size i) is)
        (instr_alike at site i (record p { begun = suc p.begun }) (record q { begun = suc q.begun }) (record { state = h.state; choices = h.choices }))
        (code_alike at (suc site + inner_size i) is)
