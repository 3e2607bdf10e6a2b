-- What the answer of a search for a pattern says.
use Rattle.sn_edge.specs.declared.patterns.Found.{Found}
use Rattle.sn_edge.specs.declared.patterns.Found.TheVariants.{Yes, No, Bad, NoMemory}

-- a fact at Yes
abbrev pub OnYes : Found → Type 0 → Type 0
OnYes Yes P = P
OnYes No P = Unit {0}
OnYes Bad P = Unit {0}
OnYes NoMemory P = Unit {0}

-- a fact at No
abbrev pub OnNo : Found → Type 0 → Type 0
OnNo Yes P = Unit {0}
OnNo No P = P
OnNo Bad P = Unit {0}
OnNo NoMemory P = Unit {0}

-- a fact at Bad
abbrev pub OnBad : Found → Type 0 → Type 0
OnBad Yes P = Unit {0}
OnBad No P = Unit {0}
OnBad Bad P = P
OnBad NoMemory P = Unit {0}

-- the answer is Bad, or there was no memory
abbrev pub IsBadUnlessStopped : Found → Type 0
IsBadUnlessStopped Yes = ⊥
IsBadUnlessStopped No = ⊥
IsBadUnlessStopped Bad = Unit {0}
IsBadUnlessStopped NoMemory = Unit {0}
