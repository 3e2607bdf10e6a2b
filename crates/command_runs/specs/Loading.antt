-- A job whose files are loaded one after another, each once, from state to state of the folder.
use Rattle.std.specs.Prelude.{ℕ, ◌≡◌, ◌⊎◌, List, [], ◌∷◌}
use Rattle.sn_edge.specs.Told.{FolderTold}
use Rattle.sn_edge.specs.declared.folder.Loaded.{Loaded}
use Rattle.sefl_syntax.specs.Trees.{NodeTree, BodyTree, code, table, DeclTree, JobTree}
use Rattle.table_files.specs.FileNodes.{IsNodeOf}
use Rattle.command_edge.specs.Files.{IsLoaded, IsNotLoaded}
use Rattle.command_edge.specs.declared.limits.TheConstants.{FILE_LIMIT}
use Rattle.command_edge.specs.declared.fault.InputFault.{InputFault}
use Rattle.command_runs.specs.Jobs.{IsOnlyJob, ReadFails}
use Rattle.command_runs.specs.Tables.{TableFails}

-- by what folders tell, and by what one load may answer and leave
module _ {S : Type 0} (told : S → FolderTold) (gives : S → List ℕ → ℕ → Loaded → S → Type 0) where
  -- the code of a node: its own, or that of the table in the file that it names, which is loaded
  abbrev pub LoadsCode : S → BodyTree → NodeTree → S → Type 0
  LoadsCode u (code own) node v = (node ≡ own) × (v ≡ u)
  LoadsCode u (table kind name style) node v =
      (bytes : List ℕ) × IsLoaded told gives FILE_LIMIT name u bytes v × IsNodeOf kind bytes style node

  -- why a node has no code: for the file, or the table in it
  abbrev pub LoadsNoCode : S → BodyTree → InputFault → S → Type 0
  LoadsNoCode u (code own) fault v = ⊥
  LoadsNoCode u (table kind name style) fault v =
      IsNotLoaded told gives FILE_LIMIT name u fault v
      ⊎ ((bytes : List ℕ) × IsLoaded told gives FILE_LIMIT name u bytes v × TableFails kind name bytes fault)

  -- the tables of these nodes are loaded in order, and with their code the nodes are those
  abbrev pub LoadsTables : S → List DeclTree → List DeclTree → S → Type 0
  LoadsTables u [] filled v = (filled ≡ []) × (v ≡ u)
  LoadsTables u (d ∷ ds) filled v =
      (node : NodeTree) × (m : S) × LoadsCode u d.body node m × (rest : List DeclTree) × LoadsTables m ds rest v
      × (filled ≡ record { name = d.name; body = code node } ∷ rest)

  -- up to the first that gives none, for this
  abbrev pub LoadsUpTo : S → List DeclTree → InputFault → S → Type 0
  LoadsUpTo u [] fault v = ⊥
  LoadsUpTo u (d ∷ ds) fault v =
      LoadsNoCode u d.body fault v ⊎ ((node : NodeTree) × (m : S) × LoadsCode u d.body node m × LoadsUpTo m ds fault v)

  -- the tables of the job are loaded, and with their code it is the other
  pub record Fills (u : S) (j full : JobTree) (v : S) : Type 0 where
    pub nodes : LoadsTables u j.net.nodes full.net.nodes v
    pub links : full.net.links ≡ j.net.links
    pub injection : full.injection ≡ j.injection
    pub asks : full.asks ≡ j.asks

  -- the file under the name is loaded and has a text of one job, whose tables are loaded then; with their code it is this
  pub record LoadsJob (u : S) (name : List ℕ) (full : JobTree) (v : S) : Type 0 where
    pub bytes : List ℕ
    pub between : S
    pub job : JobTree
    pub file : IsLoaded told gives FILE_LIMIT name u bytes between
    pub text : IsOnlyJob bytes job
    pub tables : Fills between job full v

  -- there is no such job: for the file, its text, or the first of its tables that gives no node
  pub data LoadsNoJob (u : S) (name : List ℕ) (fault : InputFault) (v : S) : Type 0 where
    no_file : IsNotLoaded told gives FILE_LIMIT name u fault v → LoadsNoJob u name fault v
    no_job : (bytes : List ℕ) → IsLoaded told gives FILE_LIMIT name u bytes v → ReadFails bytes fault → LoadsNoJob u name fault v
    no_table : (bytes : List ℕ) (between : S) (job : JobTree) → IsLoaded told gives FILE_LIMIT name u bytes between → IsOnlyJob bytes job
        → LoadsUpTo between job.net.nodes fault v → LoadsNoJob u name fault v
