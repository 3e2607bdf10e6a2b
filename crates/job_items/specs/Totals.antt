-- What the items of a job have, gathered along the job alone: the counts do not ask what an item looks back at.
use Rattle.std.specs.Prelude.{◌+◌, List, [], ◌∷◌}
use Rattle.sefl_syntax.specs.declared.job.RawField.{RawField}
use Rattle.sefl_syntax.specs.Trees.{CondTree, InstrTree, allocate, deallocate, assign, assign_any, create_tag, set_tag, destroy_tag, constrain, fail, branch, each, forward, fork, block, no_op, CodeTree, no_code, instr_and, PortTree, DeclTree, AskTree, JobTree}
use Rattle.job_items.specs.declared.tally.Tally.{Tally}
use Rattle.job_items.specs.Atoms.{instr_atoms, field_atoms, cond_atoms, ask_atoms}
use Rattle.job_items.specs.Nodes.{codes_of}
use Rattle.job_items.specs.Progress.{progress_of}
use Rattle.job_items.specs.Rules.{Counts, with_instr, with_atoms}

abbrev pub counts_of : Tally → Counts
counts_of t = (progress_of t).counts

-- the counts with an instruction, without those in its blocks
abbrev pub with_own : Counts → InstrTree → Counts
with_own c i = with_atoms (with_instr c i) (instr_atoms i)

abbrev mutual
  -- the counts with the instructions in the blocks of an instruction
  pub with_inner : Counts → InstrTree → Counts
  with_inner c (branch test first other) = with_code (with_code c first) other
  with_inner c (each var pattern body) = with_code c body
  with_inner c (block body) = with_code c body
  with_inner c (allocate target) = c
  with_inner c (deallocate target) = c
  with_inner c (assign target value) = c
  with_inner c (assign_any target) = c
  with_inner c (create_tag name addr) = c
  with_inner c (set_tag name addr) = c
  with_inner c (destroy_tag name) = c
  with_inner c (constrain test) = c
  with_inner c (fail text) = c
  with_inner c (forward port) = c
  with_inner c (fork ports) = c
  with_inner c no_op = c

  pub with_code : Counts → CodeTree → Counts
  with_code c no_code = c
  with_code c (instr_and i is) = with_code (with_inner (with_own c i) i) is

abbrev pub with_ports : Counts → List PortTree → Counts
with_ports c [] = c
with_ports c (p ∷ ps) = with_ports (with_code c p.code) ps

abbrev pub with_decl : Counts → DeclTree → Counts
with_decl c d = with_ports (record c { nodes = c.nodes + 1 }) (codes_of d.body)

abbrev pub with_nodes : Counts → List DeclTree → Counts
with_nodes c [] = c
with_nodes c (d ∷ ds) = with_nodes (with_decl c d) ds

abbrev pub with_field : Counts → RawField → Counts
with_field c f = with_atoms (record c { fields = c.fields + 1 }) (field_atoms f)

abbrev pub with_fields : Counts → List RawField → Counts
with_fields c [] = c
with_fields c (f ∷ fs) = with_fields (with_field c f) fs

abbrev pub with_test : Counts → CondTree → Counts
with_test c test = with_atoms (record c { tests = c.tests + 1 }) (cond_atoms test)

abbrev pub with_tests : Counts → List CondTree → Counts
with_tests c [] = c
with_tests c (test ∷ tests) = with_tests (with_test c test) tests

abbrev pub with_ask : Counts → AskTree → Counts
with_ask c ask = with_atoms (record c { asks = c.asks + 1 }) (ask_atoms ask)

abbrev pub with_asks : Counts → List AskTree → Counts
with_asks c [] = c
with_asks c (ask ∷ asks) = with_asks (with_ask c ask) asks

abbrev pub with_job : Counts → JobTree → Counts
with_job c j = with_asks (with_tests (with_fields (with_nodes c j.net.nodes) j.injection.fields) j.injection.tests) j.asks
