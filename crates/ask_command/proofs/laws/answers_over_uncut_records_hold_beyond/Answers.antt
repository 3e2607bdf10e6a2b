use Rattle.ask_command.proofs.Further.{hold_further}
use Rattle.ask_command.proofs.laws.answers_over_uncut_records_hold_beyond.Goals as goal

pub returns : goal.returns
returns c = λ hops limit net i asks ending whole answers uncut more least.
    let there = answers.beyond uncut more least in record {
      questions = answers.questions;
      asked = answers.asked;
      records = answers.records;
      exact = there.0.exact;
      ends = answers.ends;
      replies = answers.replies;
      right = there.1;
      beyond = hold_further net i hops limit answers.records answers.questions answers.replies answers.beyond uncut more least;
      line = answers.line;
    }
