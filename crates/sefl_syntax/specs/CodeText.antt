-- The canonical texts of instructions: each on a line of its own, two blanks deeper for each open brace.
use Rattle.std.specs.Prelude.{ℕ, List, [], ◌∷◌, ◌++◌, codes, decimal}
use Rattle.sefl_syntax.specs.TermText.{addr_text, target_text, expr_text, cond_text}
use Rattle.sefl_syntax.specs.Trees.{CondTree, InstrTree, allocate, deallocate, assign, assign_any, create_tag, set_tag, destroy_tag, constrain, fail, branch, each, forward, fork, block, no_op, CodeTree, no_code, instr_and}

-- each port number with a comma before it
abbrev pub more_ports_text : List ℕ → List ℕ
more_ports_text [] = []
more_ports_text (port ∷ ports) = codes ", " ++ decimal port ++ more_ports_text ports

-- port numbers with commas between them, behind a blank where there are any
abbrev pub ports_text : List ℕ → List ℕ
ports_text [] = []
ports_text (port ∷ ports) = codes " " ++ decimal port ++ more_ports_text ports

-- a statement: its word, and what follows
unfoldable pub word_text : List ℕ → List ℕ → List ℕ
word_text word rest = word ++ codes " " ++ rest ++ codes ";"

-- a statement that gives its left side the right one
unfoldable pub equation_text : List ℕ → List ℕ → List ℕ → List ℕ
equation_text word left right = word ++ codes " " ++ left ++ codes " = " ++ right ++ codes ";"

unfoldable pub quoted : List ℕ → List ℕ
quoted text = codes "\"" ++ text ++ codes "\""

unfoldable pub fork_text : List ℕ → List ℕ
fork_text ports = codes "fork" ++ ports_text ports ++ codes ";"

-- an instruction without blocks
abbrev pub statement_text : InstrTree → List ℕ
statement_text (allocate target) = word_text (codes "allocate") (target_text target)
statement_text (deallocate target) = word_text (codes "deallocate") (target_text target)
statement_text (assign target value) = equation_text (codes "set") (target_text target) (expr_text value)
statement_text (assign_any target) = equation_text (codes "set") (target_text target) (codes "any")
statement_text (create_tag name addr) = equation_text (codes "tag") name (addr_text addr)
statement_text (set_tag name addr) = equation_text (codes "retag") name (addr_text addr)
statement_text (destroy_tag name) = word_text (codes "untag") name
statement_text (constrain test) = word_text (codes "constrain") (cond_text test)
statement_text (fail text) = word_text (codes "fail") (quoted text)
statement_text (forward port) = word_text (codes "forward") (decimal port)
statement_text (fork ports) = fork_text ports
statement_text no_op = codes "noop;"
statement_text (branch test first other) = []
statement_text (each var pattern body) = []
statement_text (block body) = []

unfoldable pub deeper : List ℕ → List ℕ
deeper indent = indent ++ codes "  "

unfoldable pub if_heading : List ℕ → CondTree → List ℕ
if_heading indent test = indent ++ codes "if " ++ cond_text test ++ codes " {\n"

unfoldable pub for_heading : List ℕ → List ℕ → List ℕ → List ℕ
for_heading indent var pattern = indent ++ codes "for " ++ var ++ codes " in " ++ quoted pattern ++ codes " {\n"

unfoldable pub block_heading : List ℕ → List ℕ
block_heading indent = indent ++ codes "{\n"

unfoldable pub between_blocks : List ℕ → List ℕ
between_blocks indent = indent ++ codes "} else {\n"

unfoldable pub block_end : List ℕ → List ℕ
block_end indent = indent ++ codes "}\n"

unfoldable pub line_text : List ℕ → List ℕ → List ℕ
line_text indent statement = indent ++ statement ++ codes "\n"

abbrev mutual
  pub instr_text : List ℕ → InstrTree → List ℕ
  instr_text indent (branch test first other) =
      if_heading indent test ++ code_text (deeper indent) first ++ between_blocks indent ++ code_text (deeper indent) other
      ++ block_end indent
  instr_text indent (each var pattern body) = for_heading indent var pattern ++ code_text (deeper indent) body ++ block_end indent
  instr_text indent (block body) = block_heading indent ++ code_text (deeper indent) body ++ block_end indent
  instr_text indent instr = line_text indent (statement_text instr)

  pub code_text : List ℕ → CodeTree → List ℕ
  code_text indent no_code = []
  code_text indent (instr_and i code) = instr_text indent i ++ code_text indent code
