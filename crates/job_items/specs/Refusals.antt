-- Refusals as the code answers them.
use Rattle.std.specs.Prelude.{ℕ, Option, Some, None}
use Rattle.job_items.specs.declared.rule.Rule.{Rule}
use Rattle.job_items.specs.declared.refusal.Refusal.{Refusal}

-- the site and the rule that an answer names
abbrev pub named_in : Option Refusal → Option (ℕ × Rule)
named_in None = None
named_in (Some r) = Some (r.site.0, r.rule)
