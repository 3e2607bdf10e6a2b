-- What the answers to the questions of a job come from.
use Rattle.std.specs.Prelude.{ℕ, List, map}
use Rattle.net_check.specs.Network.{Network, Entry}
use Rattle.exact_records.specs.Packets.{AreExactFor}
use Rattle.exact_records.specs.Records.{RecordTree}
use Rattle.path_exec.specs.declared.exploration.Ended.{Ended}
use Rattle.path_exec.specs.declared.exploration.Ended.TheVariants as ended
use Rattle.path_questions.specs.declared.placing.AskFault.{AskFault}
use Rattle.path_questions.specs.declared.placing.AskFault.TheVariants as asked
use Rattle.path_questions.specs.declared.placing.BadAsk.{BadAsk}
use Rattle.path_questions.specs.declared.question.Question.{Question}
use Rattle.path_questions.specs.Asked.{question_seen}
use Rattle.queries.specs.Answers.{AreReplies, Reply}
use Rattle.command_edge.specs.declared.ending.Ending.{Ending}
use Rattle.command_edge.specs.declared.ending.Ending.TheVariants.{Done, Partial}
use Rattle.command_edge.specs.declared.fault.OwnFault.{OwnFault}
use Rattle.command_edge.specs.declared.fault.OwnFault.TheVariants as own
use Rattle.explore_command.specs.Explores.{IsEnding}

-- the refusal of a question
abbrev pub refused_by : ℕ → AskFault → OwnFault
refused_by number asked.NoPlace = own.BadAsk number 1
refused_by number asked.NoField = own.BadAsk number 2
refused_by number asked.NoMemory = own.NoMemory

abbrev pub fault_of : BadAsk → OwnFault
fault_of bad = refused_by bad.number bad.fault

abbrev pub ending_of : Ended → Ending
ending_of ended.Whole = Done
ending_of ended.Partial = Partial
ending_of ended.Stopped = Partial

-- the replies are right over the records of an exploration that ends so
pub record AreAnswers (hops limit : ℕ) (net : Network) (i : Entry) (qs : List Question) (ending : Ending) (replies : List Reply) : Type 0 where
  pub records : List RecordTree
  pub exact : AreExactFor net i hops limit records
  pub ends : IsEnding ending records
  pub right : AreReplies net i hops records (map question_seen qs) replies
