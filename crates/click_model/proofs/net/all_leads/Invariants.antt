use Rattle.std.proofs.Common.{◌≡◌, ℕ, List, drop}
use Rattle.std.specs.Prelude.{bytes_eq, unwrap_or}
use Rattle.std.specs.Map.{lookup}
use Rattle.click_model.specs.Nets.{no_leads, leads_from, leads_of}
use Rattle.click_model.proofs.net.all_leads.Given as goal

abbrev pub invariant-loop-link : goal.invariant-loop-link
invariant-loop-link l =
    (name : List ℕ) → leads_from name (unwrap_or (lookup (bytes_eq name) l.leads.entries) no_leads) (drop l.link-index l.links) ≡ leads_of name l.links
