-- What a put's answer says.
use Rattle.sn_edge.specs.declared.sink.Put.{Put}
use Rattle.sn_edge.specs.declared.sink.Put.TheVariants.{All, Failed, NoMemory}

-- a fact at All
abbrev pub OnAll : Put → Type 0 → Type 0
OnAll All P = P
OnAll Failed P = Unit {0}
OnAll NoMemory P = Unit {0}

-- a fact at Failed
abbrev pub OnFailed : Put → Type 0 → Type 0
OnFailed All P = Unit {0}
OnFailed Failed P = P
OnFailed NoMemory P = Unit {0}

-- a fact at NoMemory
abbrev pub OnNoMemory : Put → Type 0 → Type 0
OnNoMemory All P = Unit {0}
OnNoMemory Failed P = Unit {0}
OnNoMemory NoMemory P = P
