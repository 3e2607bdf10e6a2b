-- Where a link leads.
use Rattle.std.proofs.Common.{◌≡◌, ℕ, Option, None, Some, refl, ap, ◌∙◌}
use Rattle.std.specs.Prelude.{option_map}
use Rattle.sn_width.specs.declared.ids.NodeId.{NodeId}
use Rattle.net_check.specs.Lookups.{port_of}
use Rattle.net_check.specs.Places.{Port}
use Rattle.sefl_meaning.specs.Network.{port_at}

known : (link : Option (NodeId × ℕ)) → link ≡ option_map port_at (option_map port_of link)
known None = refl
known (Some to) = refl

-- where a link leads, from what is told of it
pub link_known : (link : Option (NodeId × ℕ)) (told : Option Port) → option_map port_of link ≡ told → link ≡ option_map port_at told
link_known link told e = known link ∙ ap (option_map port_at) e
