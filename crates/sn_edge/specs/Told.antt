-- What the outside tells, and what every call leaves of it.
use Rattle.std.specs.Prelude.{ℕ, ◌≡◌, ◌≤◌, Bool, List, Option}
use Rattle.std.proofs.Common.{◌∙◌}
use Rattle.std.proofs.Math.Nat.{le_trans}

-- Of a folder: for each name the bytes of its file, or None where there is none, and None as a whole where the folder does not
-- tell; how often the outside failed, a file was absent, and a file passed its limit.
pub record FolderTold : Type 0 where
  pub files : Option (List ℕ → Option (List ℕ))
  pub faults : ℕ
  pub misses : ℕ
  pub excesses : ℕ

-- its files stay, and no count falls
pub record FolderKept (old new : FolderTold) : Type 0 where
  pub files : new.files ≡ old.files
  pub faults : old.faults ≤ new.faults
  pub misses : old.misses ≤ new.misses
  pub excesses : old.excesses ≤ new.excesses

-- the same of two calls, one after the other
pub FolderKept-on : {a b c : FolderTold} → FolderKept a b → FolderKept b c → FolderKept a c
FolderKept-on first second = record {
  files = second.files ∙ first.files;
  faults = le_trans first.faults second.faults;
  misses = le_trans first.misses second.misses;
  excesses = le_trans first.excesses second.excesses;
}

-- Of patterns: whether a pattern, first, matches a name, and which patterns are bad, each where the object tells that; how often
-- one was refused.
pub record PatternsTold : Type 0 where
  pub matches : Option (List ℕ → List ℕ → Bool)
  pub bad : Option (List ℕ → Bool)
  pub refusals : ℕ

-- what they match and which are bad stays, and the count does not fall
pub record PatternsKept (old new : PatternsTold) : Type 0 where
  pub matches : new.matches ≡ old.matches
  pub bad : new.bad ≡ old.bad
  pub refusals : old.refusals ≤ new.refusals

pub PatternsKept-on : {a b c : PatternsTold} → PatternsKept a b → PatternsKept b c → PatternsKept a c
PatternsKept-on first second = record {
  matches = second.matches ∙ first.matches;
  bad = second.bad ∙ first.bad;
  refusals = le_trans first.refusals second.refusals;
}

-- of a sink: the bytes taken so far, where it tells them; how often the outside failed
pub record SinkTold : Type 0 where
  pub taken : Option (List ℕ)
  pub faults : ℕ

-- the count does not fall
pub record SinkKept (old new : SinkTold) : Type 0 where
  pub faults : old.faults ≤ new.faults

pub SinkKept-on : {a b c : SinkTold} → SinkKept a b → SinkKept b c → SinkKept a c
SinkKept-on first second = record { faults = le_trans first.faults second.faults }
