-- How far a walk over the nodes of a job has come.
use Rattle.std.specs.Prelude.{ℕ, ◌+◌, List, [], fold}
use Rattle.sefl_syntax.specs.Trees.{InstrTree, allocate, deallocate, assign, assign_any, create_tag, set_tag, destroy_tag, constrain, fail, branch, each, forward, fork, block, no_op, CodeTree, no_code, instr_and, PortTree, DeclTree, JobTree}
use Rattle.job_items.specs.Nodes.{codes_of}
use Rattle.job_names.specs.Occurrences.{with_first}
use Rattle.job_names.specs.Noted.{Noted, nothing_noted, noted_instr, noted_injection, noted_ask}

-- the names so far, the number of items that are passed, and the patterns so far
pub record Surveyed : Type 0 where
  pub noted : Noted
  pub site : ℕ
  pub patterns : List (List ℕ × ℕ)

abbrev pub nothing_surveyed : Surveyed
nothing_surveyed = record { noted = nothing_noted; site = 0; patterns = [] }

abbrev pub passed : Surveyed → Surveyed
passed s = record { noted = s.noted; site = s.site + 1; patterns = s.patterns }

abbrev pub patterned : Surveyed → InstrTree → Surveyed
patterned s (each var pattern body) = record { noted = s.noted; site = s.site; patterns = with_first s.patterns (pattern, s.site) }
patterned s _ = s

-- an instruction, without those in its blocks
abbrev pub begun : Surveyed → InstrTree → Surveyed
begun s i = passed (patterned (record { noted = noted_instr s.noted i; site = s.site; patterns = s.patterns }) i)

abbrev mutual
  pub surveyed_instr : Surveyed → InstrTree → Surveyed
  surveyed_instr s (branch test first other) = surveyed_code (surveyed_code (begun s (branch test first other)) first) other
  surveyed_instr s (each var pattern body) = surveyed_code (begun s (each var pattern body)) body
  surveyed_instr s (block body) = surveyed_code (begun s (block body)) body
  surveyed_instr s (allocate target) = begun s (allocate target)
  surveyed_instr s (deallocate target) = begun s (deallocate target)
  surveyed_instr s (assign target value) = begun s (assign target value)
  surveyed_instr s (assign_any target) = begun s (assign_any target)
  surveyed_instr s (create_tag name addr) = begun s (create_tag name addr)
  surveyed_instr s (set_tag name addr) = begun s (set_tag name addr)
  surveyed_instr s (destroy_tag name) = begun s (destroy_tag name)
  surveyed_instr s (constrain test) = begun s (constrain test)
  surveyed_instr s (fail text) = begun s (fail text)
  surveyed_instr s (forward port) = begun s (forward port)
  surveyed_instr s (fork ports) = begun s (fork ports)
  surveyed_instr s no_op = begun s no_op

  pub surveyed_code : Surveyed → CodeTree → Surveyed
  surveyed_code s no_code = s
  surveyed_code s (instr_and i is) = surveyed_code (surveyed_instr s i) is

abbrev pub surveyed_port : Surveyed → PortTree → Surveyed
surveyed_port s p = surveyed_code (passed s) p.code

abbrev pub surveyed_decl : Surveyed → DeclTree → Surveyed
surveyed_decl s d = fold surveyed_port (passed s) (codes_of d.body)

abbrev pub surveyed_nodes : JobTree → Surveyed
surveyed_nodes j = fold surveyed_decl nothing_surveyed j.net.nodes

-- the names of the whole job
abbrev pub noted_job : JobTree → Noted
noted_job j = fold noted_ask (noted_injection (surveyed_nodes j).noted j.injection) j.asks
