-- What is evaluated in instructions, conditions and lines, an atom at a time.
use Rattle.std.specs.Prelude.{ℕ, List, [], ◌∷◌, ◌++◌, option_to_list}
use Rattle.sefl_syntax.specs.declared.reference.Target.{Target}
use Rattle.sefl_syntax.specs.declared.job.RawField.{RawField}
use Rattle.sefl_syntax.specs.Trees.{ExprTree, constant, reading, sum, SummandTrees, no_summands, summand, CondTree, always, compare, member, all_of, any_of, negation, CondTrees, no_conds, cond_and, InstrTree, allocate, deallocate, assign, assign_any, create_tag, set_tag, destroy_tag, constrain, fail, branch, each, forward, fork, block, no_op, AskTree, reach, invariant, visible}

-- what is evaluated at one width: the references that are read or set, the constants, and the ranges
pub record Atom : Type 0 where
  pub reads : List Target
  pub constants : List ℕ
  pub ranges : List (ℕ × ℕ)

abbrev mutual
  pub expr_reads : ExprTree → List Target
  expr_reads (constant n) = []
  expr_reads (reading target) = target ∷ []
  expr_reads (sum first rest) = expr_reads first ++ summand_reads rest

  pub summand_reads : SummandTrees → List Target
  summand_reads no_summands = []
  summand_reads (summand sign e rest) = expr_reads e ++ summand_reads rest

abbrev mutual
  pub expr_constants : ExprTree → List ℕ
  expr_constants (constant n) = n ∷ []
  expr_constants (reading target) = []
  expr_constants (sum first rest) = expr_constants first ++ summand_constants rest

  pub summand_constants : SummandTrees → List ℕ
  summand_constants no_summands = []
  summand_constants (summand sign e rest) = expr_constants e ++ summand_constants rest

-- one comparison is one atom
abbrev pub comparison : ExprTree → ExprTree → Atom
comparison left right =
    record { reads = expr_reads left ++ expr_reads right; constants = expr_constants left ++ expr_constants right; ranges = [] }

-- and so is one membership test
abbrev pub membership : ExprTree → List (ℕ × ℕ) → Atom
membership value ranges = record { reads = expr_reads value; constants = expr_constants value; ranges = ranges }

-- and an assignment, whose target stands first
abbrev pub assignment : Target → ExprTree → Atom
assignment target value = record { reads = target ∷ expr_reads value; constants = expr_constants value; ranges = [] }

-- and a reference by itself, with a value that it is given
abbrev pub lone : Target → List ℕ → Atom
lone target values = record { reads = target ∷ []; constants = values; ranges = [] }

abbrev mutual
  -- the atoms of a condition, from left to right
  pub cond_atoms : CondTree → List Atom
  cond_atoms always = []
  cond_atoms (compare rel left right) = comparison left right ∷ []
  cond_atoms (member value ranges) = membership value ranges ∷ []
  cond_atoms (all_of conds) = conds_atoms conds
  cond_atoms (any_of conds) = conds_atoms conds
  cond_atoms (negation c) = cond_atoms c

  pub conds_atoms : CondTrees → List Atom
  conds_atoms no_conds = []
  conds_atoms (cond_and c conds) = cond_atoms c ++ conds_atoms conds

-- the atoms of an instruction, without those of the instructions in its blocks
abbrev pub instr_atoms : InstrTree → List Atom
instr_atoms (allocate target) = lone target [] ∷ []
instr_atoms (deallocate target) = lone target [] ∷ []
instr_atoms (assign target value) = assignment target value ∷ []
instr_atoms (assign_any target) = lone target [] ∷ []
instr_atoms (constrain test) = cond_atoms test
instr_atoms (branch test first other) = cond_atoms test
instr_atoms (create_tag name addr) = []
instr_atoms (set_tag name addr) = []
instr_atoms (destroy_tag name) = []
instr_atoms (fail text) = []
instr_atoms (each var pattern body) = []
instr_atoms (forward port) = []
instr_atoms (fork ports) = []
instr_atoms (block body) = []
instr_atoms no_op = []

abbrev pub field_atoms : RawField → List Atom
field_atoms f = lone f.target (option_to_list f.value) ∷ []

abbrev pub ask_atoms : AskTree → List Atom
ask_atoms (reach place test) = cond_atoms test
ask_atoms (invariant target place) = lone target [] ∷ []
ask_atoms (visible target place) = lone target [] ∷ []
