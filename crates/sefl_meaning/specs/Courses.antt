-- What the code of one port does with values of any kind: a tree of the tests that it meets.
use Rattle.std.specs.Prelude.{ℕ, suc, ◌+◌, List, [], ◌∷◌, ◌++◌, length, Result, Ok, Err}
use Rattle.sn_width.specs.declared.faults.LayoutFault.{LayoutFault}
use Rattle.sefl_syntax.specs.Trees.{InstrTree, CodeTree, allocate, deallocate, assign, assign_any, create_tag, set_tag, destroy_tag, constrain, fail, branch, each, forward, fork, block, no_op, no_code, instr_and}
use Rattle.job_items.specs.AtomRules.{width_of}
use Rattle.sefl_meaning.specs.declared.walk.Failure.TheVariants.{Layout, Constraint, Message}
use Rattle.sefl_meaning.specs.Values.{Values}
use Rattle.sefl_meaning.specs.Network.{code_size, inner_size}
use Rattle.sefl_meaning.specs.Carried.{Carried, Scene, Key}
use Rattle.sefl_meaning.specs.Terms.{truth_in}
use Rattle.sefl_meaning.specs.Steps.{allocated, deallocated, assigned, evaluated, tag_created, tag_set, tag_destroyed}
pub use Rattle.sefl_meaning.specs.Runs.{Progress}
use Rattle.sefl_meaning.specs.Runs.{Exit, off, go, forked, failed, in_iteration, iterations_of}

-- which instruction asks for a truth
pub data Asking : Type 0 where
  at_if : Asking
  at_constrain : Asking

module _ {V : Type 0} where
  abbrev pub with_state : Progress V → Carried V → Progress V
  with_state p s = record p { state = s }

  -- with one more choice, of this width
  abbrev pub chosen : Progress V → ℕ → Carried V → Progress V
  chosen p width s = record p { state = s; choices = p.choices ++ width ∷ [] }

  abbrev pub begin : Progress V → Progress V
  begin p = record p { begun = suc p.begun }

-- code ends, or asks whether a test holds, and goes on either way
pub data Course (V F : Type 0) : Type 0 where
  ends : Progress V → Exit → Course V F
  asks : Asking → Progress V → F → Course V F → Course V F → Course V F

module _ {V F : Type 0} where
  -- what comes where a course goes off its end
  abbrev pub off_or : Exit → Progress V → (Progress V → Course V F) → Course V F
  off_or off p next = next p
  off_or (go port) p next = ends p (go port)
  off_or (forked ports) p next = ends p (forked ports)
  off_or (failed failure site) p next = ends p (failed failure site)

  abbrev pub after : Course V F → (Progress V → Course V F) → Course V F
  after (ends p exit) next = off_or exit p next
  after (asks asking p test held broken) next = asks asking p test (after held next) (after broken next)

  abbrev pub unless_fault : {A : Type 0} → ℕ → Result A LayoutFault → Progress V → (A → Course V F) → Course V F
  unless_fault site (Ok x) p next = next x
  unless_fault site (Err fault) p next = ends p (failed (Layout fault) site)

  abbrev pub step : ℕ → Result (Carried V) LayoutFault → Progress V → Course V F
  step site result p = unless_fault site result p (λ next. ends (with_state p next) off)

  abbrev pub course_iterations : (Key → Progress V → Course V F) → List Key → Progress V → Course V F
  course_iterations body [] p = ends p off
  course_iterations body (key ∷ keys) p = after (body key p) (course_iterations body keys)

module _ {V F : Type 0} (o : Values V F) where
  abbrev mutual
    -- the instruction at the site, which has begun
    pub course_in : Scene → ℕ → InstrTree → Progress V → Course V F
    course_in at site (allocate target) p = step site (allocated at target p.state) p
    course_in at site (deallocate target) p = step site (deallocated at target p.state) p
    course_in at site (assign target value) p = step site (evaluated o at target value p.state) p
    course_in at site (assign_any target) p =
        unless_fault site (assigned at target (o.choice (width_of target) (length p.choices)) p.state) p
        (λ next. ends (chosen p (width_of target) next) off)
    course_in at site (create_tag name addr) p = step site (tag_created at name addr p.state) p
    course_in at site (set_tag name addr) p = step site (tag_set at name addr p.state) p
    course_in at site (destroy_tag name) p = step site (tag_destroyed at name p.state) p
    course_in at site (constrain test) p = unless_fault site (truth_in o at test p.state) p (λ f.
        asks at_constrain p f (ends p off) (ends p (failed Constraint site)))
    course_in at site (fail text) p = ends p (failed (Message text) site)
    course_in at site (branch test first other) p = unless_fault site (truth_in o at test p.state) p (λ f.
        asks at_if p f (course_code at (suc site) first p) (course_code at (suc site + code_size first) other p))
    course_in at site (each var pattern body) p =
        course_iterations (λ key p. course_code (in_iteration at var key) (suc site) body p) (iterations_of at pattern p.state) p
    course_in at site (forward port) p = ends p (go port)
    course_in at site (fork ports) p = ends p (forked ports)
    course_in at site (block body) p = course_code at (suc site) body p
    course_in at site no_op p = ends p off

    -- instructions, one after another, the first one at the site
    pub course_code : Scene → ℕ → CodeTree → Progress V → Course V F
    course_code at site no_code p = ends p off
    course_code at site (instr_and i is) p =
        after (course_in at site i (begin p)) (course_code at (suc site + inner_size i) is)
