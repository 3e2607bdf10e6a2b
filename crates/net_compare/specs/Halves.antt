-- The comparison of two nets, as it is answered and refused.
use Rattle.std.specs.Prelude.{◌≡◌, ℕ, List, Result, Ok, Err}
use Rattle.net_check.specs.Network.{Entry, Network}
use Rattle.path_questions.specs.Formulas.{explored}
use Rattle.exact_records.specs.Records.{RecordTree}
use Rattle.compare_meaning.specs.Answers.{IsTrueOf}
use Rattle.compare_meaning.specs.Clashes.{IsFirstClash, NoneClash, both_paths}
use Rattle.compare_meaning.specs.Comparing.{Comparison, IsComparison}
use Rattle.compare_meaning.specs.Paths.{Half, paths_of}
use Rattle.net_compare.specs.declared.nets.CompareFault.{CompareFault}
use Rattle.net_compare.specs.declared.nets.CompareFault.TheVariants.{OtherInjection, Widths, NoMemory}
use Rattle.net_compare.specs.declared.comparing.Compared.{Compared}
use Rattle.net_compare.specs.Saying.{compared_seen}

-- a net with its injection and the records of an exploration with this many hops
abbrev pub half_of : ℕ → Network → Entry → List RecordTree → Half
half_of hops net i rs = record { net = net; entry = i; start = explored net i hops; records = rs }

-- The injections are the same and no two paths clash. It is the comparison of the delivered paths, and true of the nets.
pub record IsAnswer (hops : ℕ) (l r : Half) (answer : Comparison) : Type 0 where
  pub own : l.entry.own ≡ r.entry.own
  pub fits : NoneClash (both_paths l r)
  pub is : IsComparison (paths_of l) (paths_of r) answer
  pub right : IsTrueOf hops l r answer

-- The injections differ; or they are the same, and these are the numbers of the first two paths that clash.
abbrev pub IsFaultOf : Half → Half → CompareFault → Type 0
IsFaultOf l r OtherInjection = l.entry.own ≡ r.entry.own → ⊥
IsFaultOf l r (Widths one other) = (l.entry.own ≡ r.entry.own) × IsFirstClash (both_paths l r) one other
IsFaultOf l r NoMemory = Unit {0}

abbrev pub ComparedAs : ℕ → Half → Half → Result Compared CompareFault → Type 0
ComparedAs hops l r (Ok compared) = IsAnswer hops l r (compared_seen compared)
ComparedAs hops l r (Err fault) = IsFaultOf l r fault
