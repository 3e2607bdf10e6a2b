-- How far a check of items has come, and what it answers.
use denote.Ref.{Bor}
use Rattle.std.specs.Prelude.{◌≡◌, ℕ, List, map, Option, Some, None, Result, Ok, Err}
use Rattle.job_items.specs.declared.rule.Breach.{Breach}
use Rattle.job_items.specs.declared.halt.Halt.{Halt}
use Rattle.job_items.specs.declared.halt.Halt.TheVariants.{Broken, NoMemory}
use Rattle.job_items.specs.declared.tally.Tally.{Tally}
use Rattle.job_items.specs.Items.{Item}
use Rattle.job_items.specs.Atoms.{Atom}
use Rattle.job_items.specs.Rules.{Counts, counted, with_atoms, limit_rows, first_breach, or_else, breach_to_limits, Outcome, went, stopped, outcome}

-- the items that are passed: how many, and their counts
pub record Progress : Type 0 where
  pub site : ℕ
  pub counts : Counts

-- texts that are lent
abbrev pub lent_texts : List (Bor (List ℕ)) → List (List ℕ)
lent_texts texts = map (λ t. t.now) texts

abbrev pub progress_of : Tally → Progress
progress_of t = record {
  site = t.site;
  counts = record {
    nodes = t.nodes;
    names = lent_texts t.names.keys;
    patterns = lent_texts t.patterns.keys;
    instructions = t.instructions;
    ranges = t.ranges;
    fields = t.fields;
    tests = t.tests;
    asks = t.asks;
  };
}

abbrev pub outcome_from : Progress → List Item → Outcome
outcome_from p items = outcome p.site p.counts items

-- a check answers the outcome, or want of memory
abbrev pub Follows : Outcome → Result (Unit {0}) Halt → Progress → Type 0
Follows o (Ok done) p = o ≡ went p.site p.counts
Follows o (Err (Broken b)) p = o ≡ stopped p.site b
Follows o (Err NoMemory) p = Unit {0}

-- what is counted with the item, which is not passed yet
abbrev pub begun : Progress → Item → Progress
begun p item = record { site = p.site; counts = counted p.counts item }

-- an item is counted and breaks no rule up to the limits, or the first that it breaks is answered
abbrev pub Begins : Progress → Item → Result (Unit {0}) Halt → Progress → Type 0
Begins p item (Ok done) q = (breach_to_limits (counted p.counts item) item ≡ None) × (q ≡ begun p item)
Begins p item (Err (Broken b)) q = (breach_to_limits (counted p.counts item) item ≡ Some b) × (q.site ≡ p.site)
Begins p item (Err NoMemory) q = Unit {0}

-- a refused step is refused for want of memory
abbrev pub IsNoMemory : Result (Unit {0}) Halt → Type 0
IsNoMemory (Ok done) = Unit {0}
IsNoMemory (Err halt) = halt ≡ NoMemory

-- atoms are counted, and the breach that was found before, or that of the first limit, is answered
abbrev pub Weighs : Progress → List Atom → Option Breach → ℕ → ℕ → Result (Unit {0}) Halt → Progress → Type 0
Weighs p atoms early ports copies (Ok done) q =
    (or_else early (first_breach (limit_rows (with_atoms p.counts atoms) ports copies)) ≡ None)
    × (q ≡ record { site = p.site; counts = with_atoms p.counts atoms })
Weighs p atoms early ports copies (Err (Broken b)) q =
    (or_else early (first_breach (limit_rows (with_atoms p.counts atoms) ports copies)) ≡ Some b) × (q.site ≡ p.site)
Weighs p atoms early ports copies (Err NoMemory) q = Unit {0}

-- an outcome is told: nothing, or the item that stopped it and the rule that it breaks
abbrev pub Answers : Outcome → Option (ℕ × Breach) → Type 0
Answers o None = (site : ℕ) × (c : Counts) × (o ≡ went site c)
Answers o (Some found) = o ≡ stopped found.0 found.1
