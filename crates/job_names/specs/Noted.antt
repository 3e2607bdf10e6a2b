-- The names that are noted, part by part of a job.
use Rattle.std.specs.Prelude.{ℕ, List, [], fold}
use Rattle.sefl_syntax.specs.declared.reference.Addr.{Addr}
use Rattle.sefl_syntax.specs.declared.reference.Target.{Target}
use Rattle.sefl_syntax.specs.declared.reference.Target.TheVariants.{Header, Meta, Bound}
use Rattle.sefl_syntax.specs.declared.job.RawField.{RawField}
use Rattle.sefl_syntax.specs.Trees.{ExprTree, constant, reading, sum, SummandTrees, no_summands, summand, CondTree, always, compare, member, all_of, any_of, negation, CondTrees, no_conds, cond_and, InstrTree, allocate, deallocate, assign, assign_any, create_tag, set_tag, destroy_tag, constrain, fail, branch, each, forward, fork, block, no_op, InjectionTree, AskTree, reach, invariant, visible}
use Rattle.job_items.specs.Rules.{with_text, with_names}
use Rattle.job_names.specs.Occurrences.{addr_tags}

-- metadata names and tag names, each once, ascending by bytes
pub record Noted : Type 0 where
  pub metas : List (List ℕ)
  pub tags : List (List ℕ)

abbrev pub nothing_noted : Noted
nothing_noted = record { metas = []; tags = [] }

abbrev pub noted_meta : Noted → List ℕ → Noted
noted_meta n name = record { metas = with_text n.metas name; tags = n.tags }

abbrev pub noted_tag : Noted → List ℕ → Noted
noted_tag n name = record { metas = n.metas; tags = with_text n.tags name }

abbrev pub noted_addr : Noted → Addr → Noted
noted_addr n addr = record { metas = n.metas; tags = with_names n.tags (addr_tags addr) }

abbrev pub noted_target : Noted → Target → Noted
noted_target n (Header addr width) = noted_addr n addr
noted_target n (Meta scope name width) = noted_meta n name
noted_target n (Bound var width) = n

abbrev mutual
  pub noted_expr : Noted → ExprTree → Noted
  noted_expr n (constant k) = n
  noted_expr n (reading target) = noted_target n target
  noted_expr n (sum first rest) = noted_summands (noted_expr n first) rest

  pub noted_summands : Noted → SummandTrees → Noted
  noted_summands n no_summands = n
  noted_summands n (summand sign e rest) = noted_summands (noted_expr n e) rest

abbrev mutual
  pub noted_cond : Noted → CondTree → Noted
  noted_cond n always = n
  noted_cond n (compare rel left right) = noted_expr (noted_expr n left) right
  noted_cond n (member value ranges) = noted_expr n value
  noted_cond n (all_of conds) = noted_conds n conds
  noted_cond n (any_of conds) = noted_conds n conds
  noted_cond n (negation c) = noted_cond n c

  pub noted_conds : Noted → CondTrees → Noted
  noted_conds n no_conds = n
  noted_conds n (cond_and c conds) = noted_conds (noted_cond n c) conds

-- an instruction, without those in its blocks
abbrev pub noted_instr : Noted → InstrTree → Noted
noted_instr n (allocate target) = noted_target n target
noted_instr n (deallocate target) = noted_target n target
noted_instr n (assign target value) = noted_expr (noted_target n target) value
noted_instr n (assign_any target) = noted_target n target
noted_instr n (create_tag name addr) = noted_addr (noted_tag n name) addr
noted_instr n (set_tag name addr) = noted_addr (noted_tag n name) addr
noted_instr n (destroy_tag name) = noted_tag n name
noted_instr n (constrain test) = noted_cond n test
noted_instr n (fail text) = n
noted_instr n (branch test first other) = noted_cond n test
noted_instr n (each var pattern body) = n
noted_instr n (forward port) = n
noted_instr n (fork ports) = n
noted_instr n (block body) = n
noted_instr n no_op = n

abbrev pub noted_line : Noted → List ℕ × Addr → Noted
noted_line n line = noted_addr (noted_tag n line.0) line.1

abbrev pub noted_field : Noted → RawField → Noted
noted_field n f = noted_target n f.target

abbrev pub noted_injection : Noted → InjectionTree → Noted
noted_injection n i = fold noted_cond (fold noted_field (fold noted_line n i.tags) i.fields) i.tests

abbrev pub noted_ask : Noted → AskTree → Noted
noted_ask n (reach place test) = noted_cond n test
noted_ask n (invariant target place) = noted_target n target
noted_ask n (visible target place) = noted_target n target
