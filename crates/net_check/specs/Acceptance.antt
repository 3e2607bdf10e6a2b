-- Acceptance: what is known of each accepted net and injection, and what `accept` answers.
use Rattle.std.specs.Prelude.{◌≡◌, ◌⊎◌, ℕ, List, map, Option, None, Some, Result, Ok, Err}
use Rattle.sefl_syntax.specs.Trees.{JobTree}
use Rattle.job_items.specs.Rules.{refusal}
use Rattle.job_names.specs.Names.{names_of}
use Rattle.sn_width.specs.declared.ids.Site.{Site}
use Rattle.sn_edge.specs.declared.patterns.Found.{Found}
use Rattle.sefl_syntax.specs.Views.{ask_tree}
use Rattle.job_items.specs.declared.rule.Rule.{Rule}
use Rattle.job_items.specs.declared.rule.Rule.TheVariants.{BadPattern}
use Rattle.pattern_answers.specs.Asking.{AsksAll, AsksToRefusal}
use Rattle.net_check.specs.declared.acceptance.Accepted.{Accepted}
use Rattle.net_check.specs.declared.fault.AcceptFault.{AcceptFault}
use Rattle.net_check.specs.declared.fault.AcceptFault.TheVariants.{Refused, NoMemory}
use Rattle.net_check.specs.Sound.{IsSound, IsNetOf, IsGivenEntry}
use Rattle.net_check.specs.Network.{network, entry}

-- the parts are the job's own
pub record IsAcceptedAs (j : JobTree) (a : Accepted) : Type 0 where
  pub sound : IsSound j
  pub net : IsNetOf j (network a.net)
  pub injection : IsGivenEntry j (entry a.injection)
  pub asks : map ask_tree a.asks.items ≡ j.asks

-- by this step from state to state
module _ {S : Type 0} (step : S → List ℕ → List ℕ → Found → S → Type 0) where
  -- the patterns of an accepted net were asked for each name of the job, and find the names that the net lists
  abbrev pub Asked : S → Accepted → S → Type 0
  Asked old a new = AsksAll step a.net.names.metas old a.net.names.patterns a.net.found new

  -- no other rule is broken, and the patterns were asked up to the first that is refused, which the For at the site has first
  abbrev pub IsBadPatternAt : JobTree → S → ℕ → S → Type 0
  IsBadPatternAt j old site new = IsSound j × AsksToRefusal step (names_of j).metas old (names_of j).patterns site new

  -- why a job is refused at the site by the rule
  abbrev pub IsCause : JobTree → S → Site → Rule → S → Type 0
  IsCause j old site rule new = (refusal j ≡ Some (site.0, rule)) ⊎ ((rule ≡ BadPattern) × IsBadPatternAt j old site.0 new)

-- the answer is this refusal, if it is not want of memory
abbrev pub IsRefusedBy : ℕ → Rule → Result Accepted AcceptFault → Type 0
IsRefusedBy site rule (Ok a) = ⊥
IsRefusedBy site rule (Err (Refused s r)) = (s.0 ≡ site) × (r ≡ rule)
IsRefusedBy site rule (Err NoMemory) = Unit {0}

-- Where no other rule is broken and this is the site of the first bad pattern, if there is one: the job is accepted exactly where
-- there is none, else refused there.
abbrev pub IsByPatterns : Option ℕ → Result Accepted AcceptFault → Type 0
IsByPatterns bad (Ok a) = bad ≡ None
IsByPatterns bad (Err (Refused site rule)) = (bad ≡ Some site.0) × (rule ≡ BadPattern)
IsByPatterns bad (Err NoMemory) = Unit {0}

-- a bad pattern at the site of this number, if there is such a site
abbrev pub IsBadPattern : ℕ → AcceptFault → Type 0
IsBadPattern number (Refused site rule) = (site.0 ≡ number) × (rule ≡ BadPattern)
IsBadPattern number NoMemory = Unit {0}
