use Rattle.std.proofs.Common.{◌≡◌, ◌++◌, map, drop}
use Rattle.run_text.specs.Tokens.{tokens_of, ending}
use Rattle.run_text.specs.Forms.{list}
use Rattle.queries.specs.Answers.{answer_seen}
use Rattle.ask_command.specs.Texts.{reply_data}
use Rattle.ask_command.proofs.text.write_answer_list.Given as goal

-- what was written, and what is left, is the whole
abbrev pub invariant-loop-answer : goal.invariant-loop-answer
invariant-loop-answer l = l.out ++ ending (map reply_data (map answer_seen (drop l.answer-index l.answers))) ≡ l.fn.out ++ tokens_of (list (map reply_data (map answer_seen l.answers)))
