-- What is loaded is what the folder tells of its files.
use Rattle.std.proofs.Common.{◌≡◌, ◌∙◌, sym, subst, inl, inr, ℕ, List, [], ◌∷◌}
use Rattle.sn_edge.specs.Told.{FolderTold}
use Rattle.sn_edge.specs.declared.folder.Loaded.{Loaded}
use Rattle.sefl_syntax.specs.Trees.{NodeTree, BodyTree, code, table, DeclTree, JobTree}
use Rattle.command_edge.specs.Files.{Files, HasFile, IsLoaded, LoadFails}
use Rattle.command_edge.specs.declared.limits.TheConstants.{FILE_LIMIT}
use Rattle.command_edge.specs.declared.fault.InputFault.{InputFault}
use Rattle.command_runs.specs.Jobs.{HasFilled, JobFails}
use Rattle.command_runs.specs.Loading.{LoadsCode, LoadsJob, LoadsNoCode, LoadsNoJob, LoadsTables, LoadsUpTo, no_file, no_job, no_table}
use Rattle.command_runs.specs.Tables.{AllFilled, CodeFails, FirstUnfilled, IsCodeOf}

module _ {S : Type 0} (told : S → FolderTold) (gives : S → List ℕ → ℕ → Loaded → S → Type 0) (files : Files) where
  -- in the state the folder tells these files
  abbrev pub TellsFiles : S → Type 0
  TellsFiles u = (told u).files ≡ files

  pub file_told : (limit : ℕ) (name bytes : List ℕ) (u v : S) → TellsFiles u → IsLoaded told gives limit name u bytes v → HasFile files limit name bytes × TellsFiles v
  file_told limit name bytes u v tells loaded =
      (subst (λ fs. HasFile fs limit name bytes) tells loaded.file, loaded.kept.files ∙ tells)

  code_told : (body : BodyTree) (node : NodeTree) (u v : S) → TellsFiles u → LoadsCode told gives u body node v → IsCodeOf files body node × TellsFiles v
  code_told (code own) node u v tells loads = (loads.0, subst TellsFiles (sym loads.1) tells)
  code_told (table kind name style) node u v tells (bytes, loaded, is) =
      let (has, later) = file_told FILE_LIMIT name bytes u v tells loaded in ((bytes, has, is), later)

  no_code_told : (body : BodyTree) (fault : InputFault) (u v : S) → TellsFiles u → LoadsNoCode told gives u body fault v → CodeFails files body fault
  no_code_told (code own) fault u v tells h = h
  no_code_told (table kind name style) fault u v tells (inl h) = inl (subst (λ fs. LoadFails fs FILE_LIMIT name fault) tells h.fails)
  no_code_told (table kind name style) fault u v tells (inr (bytes, loaded, fails)) =
      inr (bytes, (file_told FILE_LIMIT name bytes u v tells loaded).0, fails)

  tables_told : (ds filled : List DeclTree) (u v : S) → TellsFiles u → LoadsTables told gives u ds filled v → AllFilled files ds filled × TellsFiles v
  tables_told [] filled u v tells h = (h.0, subst TellsFiles (sym h.1) tells)
  tables_told (d ∷ ds) filled u v tells (node, m, loads, rest, more, is) =
      let (one, between) = code_told d.body node u m tells loads in
      let (others, last) = tables_told ds rest m v between more in
      ((node, one, rest, others, is), last)

  up_to_told : (ds : List DeclTree) (fault : InputFault) (u v : S) → TellsFiles u → LoadsUpTo told gives u ds fault v → FirstUnfilled files ds fault
  up_to_told [] fault u v tells h = h
  up_to_told (d ∷ ds) fault u v tells (inl h) = inl (no_code_told d.body fault u v tells h)
  up_to_told (d ∷ ds) fault u v tells (inr (node, m, loads, h)) =
      let (one, between) = code_told d.body node u m tells loads in inr (node, one, up_to_told ds fault m v between h)

  pub job_told : (name : List ℕ) (full : JobTree) (u v : S) → TellsFiles u → LoadsJob told gives u name full v → HasFilled files name full × TellsFiles v
  job_told name full u v tells loads =
      let (has, between) = file_told FILE_LIMIT name loads.bytes u loads.between tells loads.file in
      let (nodes, last) = tables_told loads.job.net.nodes full.net.nodes loads.between v between loads.tables.nodes in (
        (
          loads.job,
          (loads.bytes, has, loads.text),
          record { nodes = nodes; links = loads.tables.links; injection = loads.tables.injection; asks = loads.tables.asks },
        ),
        last,
      )

  pub no_job_told : (name : List ℕ) (fault : InputFault) (u v : S) → TellsFiles u → LoadsNoJob told gives u name fault v → JobFails files name fault
  no_job_told name fault u v tells (no_file h) = inl (subst (λ fs. LoadFails fs FILE_LIMIT name fault) tells h.fails)
  no_job_told name fault u v tells (no_job bytes loaded reads) = inr (inl (bytes, (file_told FILE_LIMIT name bytes u v tells loaded).0, reads))
  no_job_told name fault u v tells (no_table bytes between job loaded text h) =
      let (has, later) = file_told FILE_LIMIT name bytes u between tells loaded in
      inr (inr (job, (bytes, has, text), up_to_told job.net.nodes fault between v later h))
