use Rattle.std.proofs.Common.{◌≡◌, ℕ, ◌+◌, List, Result, is_ok, sym, ap, subst, arith}
use Rattle.std.proofs.ResultArms.{chosen}
use Rattle.sefl_lex.specs.declared.fault.LexFault.{LexFault}
use Rattle.sefl_lex.specs.declared.token.Token.{Token}
use Rattle.sefl_lex.specs.Reads.{IsReadAs, Reads}
use Rattle.sefl_lex.proofs.Reading.{one_answer}
use Rattle.sefl_lex.proofs.Steps.{Progress, start, gap_step, token_step, gap_moves, token_moves, stray_step, long_name_step, no_number_step, no_text_step, end_step}
use Rattle.sefl_lex.proofs.lex.tokens.Goals as goal
use Rattle.sefl_lex.proofs.lex.tokens.Goals.{After-front_of, In-Gap, In-Word, In-Stray, In-LongName, In-NoNumber, In-NoText}

pub loop-at-init : goal.loop-at-init
loop-at-init c = subst (λ (ts : List Token). Progress c.as_bytes-bytes.result.now ts 0) (sym c.new-found.ensures.items) (start c.as_bytes-bytes.result.now)

pub overflow_add-at : goal.overflow_add-at
overflow_add-at c =
    let next = gap_step c.split_at.result.1.now c.loop-at.invariant c.loop-at-test.true c.split_at.ensures.back c.in-Gap.count c.in-Gap.ensures in
    omega (arith, next.within)

pub loop-at-smaller-in-Gap : goal.loop-at-smaller-in-Gap
loop-at-smaller-in-Gap c =
    let moves = gap_moves c.split_at.result.1.now c.loop-at.invariant c.loop-at-test.true c.split_at.ensures.back c.in-Gap.count c.in-Gap.ensures in
    omega (arith, moves)

pub loop-at-preserved-in-Gap : goal.loop-at-preserved-in-Gap
loop-at-preserved-in-Gap c = gap_step c.split_at.result.1.now c.loop-at.invariant c.loop-at-test.true c.split_at.ensures.back c.in-Gap.count c.in-Gap.ensures

pub overflow_add-at-in-Word : goal.overflow_add-at-in-Word
overflow_add-at-in-Word c =
    let next = token_step c.split_at.result.1.now c.loop-at.invariant c.loop-at-test.true c.split_at.ensures.back c.in-Word.kind c.in-Word.count c.in-Word.ensures in
    omega (arith, next.within)

pub loop-at-smaller : goal.loop-at-smaller
loop-at-smaller c =
    let moves = token_moves c.split_at.result.1.now c.loop-at.invariant c.loop-at-test.true c.split_at.ensures.back c.in-Word.kind c.in-Word.count c.in-Word.ensures in
    omega (arith, moves)

pub loop-at-preserved : goal.loop-at-preserved
loop-at-preserved c =
    let pushed = chosen _ _ _ _ c.push.ensures.items (ap is_ok c.in_ok-push-in-Word.was) in
    let next = token_step c.split_at.result.1.now c.loop-at.invariant c.loop-at-test.true c.split_at.ensures.back c.in-Word.kind c.in-Word.count c.in-Word.ensures in
    subst (λ (ts : List Token). Progress c.as_bytes-bytes.result.now ts (c.loop-at.at + c.in-Word.count)) (sym pushed) next

of_text : {bytes text : List ℕ} {answer : Result (List Token) LexFault} → bytes ≡ text → Reads 0 bytes answer → IsReadAs text answer
of_text {bytes} {text} {answer} same reads = subst (λ (l : List ℕ). Reads 0 l answer) same reads

only : {text : List ℕ} {answer : Result (List Token) LexFault} → IsReadAs text answer → (other : Result (List Token) LexFault) → IsReadAs text other → other ≡ answer
only reads other other_reads = one_answer other_reads reads

pub returns-in-Stray-clause-fault : goal.returns-in-Stray-clause-fault
returns-in-Stray-clause-fault c = λ _. of_text c.as_bytes-bytes.ensures.value (stray_step c.split_at.result.1.now c.loop-at.invariant c.loop-at-test.true c.split_at.ensures.back c.in-Stray.ensures)

pub returns-in-Stray-clause-only_fault : goal.returns-in-Stray-clause-only_fault
returns-in-Stray-clause-only_fault c = λ _ other reads. only (of_text c.as_bytes-bytes.ensures.value (stray_step c.split_at.result.1.now c.loop-at.invariant c.loop-at-test.true c.split_at.ensures.back c.in-Stray.ensures)) other reads

pub returns-in-LongName-clause-fault : goal.returns-in-LongName-clause-fault
returns-in-LongName-clause-fault c = λ _. of_text c.as_bytes-bytes.ensures.value (long_name_step c.split_at.result.1.now c.loop-at.invariant c.loop-at-test.true c.split_at.ensures.back c.in-LongName.ensures)

pub returns-in-LongName-clause-only_fault : goal.returns-in-LongName-clause-only_fault
returns-in-LongName-clause-only_fault c = λ _ other reads. only (of_text c.as_bytes-bytes.ensures.value (long_name_step c.split_at.result.1.now c.loop-at.invariant c.loop-at-test.true c.split_at.ensures.back c.in-LongName.ensures)) other reads

pub returns-in-NoNumber-clause-fault : goal.returns-in-NoNumber-clause-fault
returns-in-NoNumber-clause-fault c = λ _. of_text c.as_bytes-bytes.ensures.value (no_number_step c.split_at.result.1.now c.loop-at.invariant c.loop-at-test.true c.split_at.ensures.back c.in-NoNumber.ensures)

pub returns-in-NoNumber-clause-only_fault : goal.returns-in-NoNumber-clause-only_fault
returns-in-NoNumber-clause-only_fault c = λ _ other reads. only (of_text c.as_bytes-bytes.ensures.value (no_number_step c.split_at.result.1.now c.loop-at.invariant c.loop-at-test.true c.split_at.ensures.back c.in-NoNumber.ensures)) other reads

pub returns-in-NoText-clause-fault : goal.returns-in-NoText-clause-fault
returns-in-NoText-clause-fault c = λ _. of_text c.as_bytes-bytes.ensures.value (no_text_step c.split_at.result.1.now c.loop-at.invariant c.loop-at-test.true c.split_at.ensures.back c.in-NoText.ensures)

pub returns-in-NoText-clause-only_fault : goal.returns-in-NoText-clause-only_fault
returns-in-NoText-clause-only_fault c = λ _ other reads. only (of_text c.as_bytes-bytes.ensures.value (no_text_step c.split_at.result.1.now c.loop-at.invariant c.loop-at-test.true c.split_at.ensures.back c.in-NoText.ensures)) other reads

pub returns-clause-tokens : goal.returns-clause-tokens
returns-clause-tokens c = of_text c.as_bytes-bytes.ensures.value (end_step c.loop-at.invariant c.loop-at-test.false)

pub returns-clause-only_tokens : goal.returns-clause-only_tokens
returns-clause-only_tokens c = λ other reads. only (of_text c.as_bytes-bytes.ensures.value (end_step c.loop-at.invariant c.loop-at-test.false)) other reads
