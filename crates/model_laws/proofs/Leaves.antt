-- A node whose code only tests one cell lets packets out as the definition by the cell's number says.
use Rattle.std.proofs.Common.{◌≡◌, sym, ap, subst, ℕ, suc, List, [], filter, Ok}
use Rattle.std.specs.Prelude.{is_none, unwrap_or}
use Rattle.sn_width.specs.declared.ids.NodeId.{NodeId}
use Rattle.sefl_syntax.specs.declared.reference.Target.{Target}
use Rattle.sefl_syntax.specs.declared.net.Side.{Side}
use Rattle.sefl_syntax.specs.declared.net.Side.TheVariants.{Inward, Outward}
use Rattle.sefl_syntax.specs.Trees.{NodeTree}
use Rattle.job_items.specs.AtomRules.{width_of}
use Rattle.net_check.specs.Network.{code_at}
use Rattle.table_nodes.specs.Exits.{code_in, exits, passes, way}
use Rattle.sefl_meaning.specs.Network.{Network, code_of}
use Rattle.sefl_meaning.specs.Carried.{Carried, read_at, scene_at}
use Rattle.sefl_meaning.specs.Runs.{Progress, Ran, run_code}
use Rattle.sefl_meaning.specs.Walks.{run_port}
use Rattle.model_laws.specs.Leaving.{goes_out, leaves_by}
use Rattle.model_laws.specs.Reads.{OnlyTests}
use Rattle.model_laws.proofs.Testing.{WentBy, went}

module _ (net : Network) (v : List ℕ) (unknowns : ℕ) (node : NodeId) (raw : NodeTree) (d : Target) (s : Carried ℕ) (a : ℕ)
    (same : (side : Side) (port : ℕ) → code_at net node side port ≡ code_in raw side port)
    (tests : (side : Side) (port : ℕ) → OnlyTests d (code_in raw side port))
    (reads : read_at (scene_at net node) (width_of d) d s ≡ Ok a) where
  port_went : (side : Side) (port : ℕ) (p : Progress ℕ) → p.state ≡ s → WentBy (run_port net v unknowns node side port p) s (way a (code_in raw side port))
  port_went side port p is =
      subst (λ c. WentBy (run_code v unknowns (scene_at net node) (suc (code_of net node side port).0) c p) s (way a (code_in raw side port)))
      (sym (same side port)) (went v unknowns (scene_at net node) d s a reads _ (code_in raw side port) p is (tests side port))

  let_out : (r : Ran) → r.progress.state ≡ s → (port : ℕ) → goes_out net v unknowns node r port ≡ passes raw a port
  let_out r is port = ap is_none (port_went Outward port r.progress is).ports

  pub leaves : (p : Progress ℕ) → p.state ≡ s → leaves_by net v unknowns node p ≡ exits raw a
  leaves p is =
      let r = run_port net v unknowns node Inward 0 p in
      let w = port_went Inward 0 p is in
      λ i. filter (λ port. let_out r w.state port i) (unwrap_or (w.ports i) [])
