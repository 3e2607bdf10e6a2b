-- The tables that a job names, and the job in which each has its node's code.
use Rattle.std.specs.Prelude.{ℕ, ◌≡◌, ◌⊎◌, List, [], ◌∷◌, Some}
use Rattle.sefl_syntax.specs.declared.net.TableKind.{TableKind}
use Rattle.sefl_syntax.specs.Trees.{NodeTree, BodyTree, code, table, DeclTree, JobTree}
use Rattle.table_files.specs.FileNodes.{IsNodeOf, bad_line}
use Rattle.command_edge.specs.Files.{Files, HasFile, LoadFails}
use Rattle.command_edge.specs.declared.limits.TheConstants.{FILE_LIMIT}
use Rattle.command_edge.specs.declared.fault.InputFault.{InputFault}
use Rattle.command_edge.specs.declared.fault.InputFault.TheVariants.{BadTable, NoMemory}

-- why the bytes of the file under the name give no node
abbrev pub TableFails : TableKind → List ℕ → List ℕ → InputFault → Type 0
TableFails kind name bytes (BadTable own line rule) = (own ≡ name) × (bad_line kind bytes ≡ Some (line, rule))
TableFails kind name bytes NoMemory = Unit {0}
TableFails kind name bytes _ = ⊥

module _ (files : Files) where
  -- the code of a node: its own, or that of the table in the file that it names, in the style that it names
  abbrev pub IsCodeOf : BodyTree → NodeTree → Type 0
  IsCodeOf (code own) node = node ≡ own
  IsCodeOf (table kind name style) node = (bytes : List ℕ) × HasFile files FILE_LIMIT name bytes × IsNodeOf kind bytes style node

  -- why a node has no code: for the file, or the table in it
  abbrev pub CodeFails : BodyTree → InputFault → Type 0
  CodeFails (code own) fault = ⊥
  CodeFails (table kind name style) fault =
      LoadFails files FILE_LIMIT name fault ⊎ ((bytes : List ℕ) × HasFile files FILE_LIMIT name bytes × TableFails kind name bytes fault)

  -- all nodes have code, in order, and with it they are these
  abbrev pub AllFilled : List DeclTree → List DeclTree → Type 0
  AllFilled [] filled = filled ≡ []
  AllFilled (d ∷ ds) filled =
      (node : NodeTree) × IsCodeOf d.body node × (rest : List DeclTree) × AllFilled ds rest × (filled ≡ record { name = d.name; body = code node } ∷ rest)

  -- the first node that has none, has none for this
  abbrev pub FirstUnfilled : List DeclTree → InputFault → Type 0
  FirstUnfilled [] fault = ⊥
  FirstUnfilled (d ∷ ds) fault = CodeFails d.body fault ⊎ ((node : NodeTree) × IsCodeOf d.body node × FirstUnfilled ds fault)

  -- the job is the other, but that each node has code
  pub record IsFilled (j full : JobTree) : Type 0 where
    pub nodes : AllFilled j.net.nodes full.net.nodes
    pub links : full.net.links ≡ j.net.links
    pub injection : full.injection ≡ j.injection
    pub asks : full.asks ≡ j.asks
