-- What a load's answer says.
use Rattle.std.specs.Prelude.{ℕ, List}
use Rattle.sn_edge.specs.declared.folder.Loaded.{Loaded}
use Rattle.sn_edge.specs.declared.folder.Loaded.TheVariants.{Bytes, Absent, TooBig, Failed, NoMemory}

-- a fact of the bytes, at Bytes
abbrev pub IfBytes : Loaded → (List ℕ → Type 0) → Type 0
IfBytes (Bytes bytes) P = P bytes.items
IfBytes Absent P = Unit {0}
IfBytes TooBig P = Unit {0}
IfBytes Failed P = Unit {0}
IfBytes NoMemory P = Unit {0}

-- a fact at Absent
abbrev pub OnAbsent : Loaded → Type 0 → Type 0
OnAbsent (Bytes bytes) P = Unit {0}
OnAbsent Absent P = P
OnAbsent TooBig P = Unit {0}
OnAbsent Failed P = Unit {0}
OnAbsent NoMemory P = Unit {0}

-- a fact at TooBig
abbrev pub OnTooBig : Loaded → Type 0 → Type 0
OnTooBig (Bytes bytes) P = Unit {0}
OnTooBig Absent P = Unit {0}
OnTooBig TooBig P = P
OnTooBig Failed P = Unit {0}
OnTooBig NoMemory P = Unit {0}

-- a fact at Failed
abbrev pub OnFailed : Loaded → Type 0 → Type 0
OnFailed (Bytes bytes) P = Unit {0}
OnFailed Absent P = Unit {0}
OnFailed TooBig P = Unit {0}
OnFailed Failed P = P
OnFailed NoMemory P = Unit {0}

-- The answer is Absent, or the load stopped: it failed, or there was no memory.
abbrev pub IsAbsentUnlessStopped : Loaded → Type 0
IsAbsentUnlessStopped (Bytes bytes) = ⊥
IsAbsentUnlessStopped Absent = Unit {0}
IsAbsentUnlessStopped TooBig = ⊥
IsAbsentUnlessStopped Failed = Unit {0}
IsAbsentUnlessStopped NoMemory = Unit {0}

-- the answer is TooBig, or the load stopped
abbrev pub IsTooBigUnlessStopped : Loaded → Type 0
IsTooBigUnlessStopped (Bytes bytes) = ⊥
IsTooBigUnlessStopped Absent = ⊥
IsTooBigUnlessStopped TooBig = Unit {0}
IsTooBigUnlessStopped Failed = Unit {0}
IsTooBigUnlessStopped NoMemory = Unit {0}

-- the answer is Bytes, or the load stopped
abbrev pub IsBytesUnlessStopped : Loaded → Type 0
IsBytesUnlessStopped (Bytes bytes) = Unit {0}
IsBytesUnlessStopped Absent = ⊥
IsBytesUnlessStopped TooBig = ⊥
IsBytesUnlessStopped Failed = Unit {0}
IsBytesUnlessStopped NoMemory = Unit {0}
