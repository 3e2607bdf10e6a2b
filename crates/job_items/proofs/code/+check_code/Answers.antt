use Rattle.job_items.specs.Places.{place_of}
use Rattle.job_items.specs.Progress.{progress_of}
use Rattle.job_items.proofs.Outcomes.{follows_error}
use Rattle.job_items.proofs.Coding.{stops_in_code, passes_in_code, stops_in_first, goes_on_in_other}
use Rattle.job_items.proofs.code.+check_code.Goals as goal

pub check_code-returns-in_err-check_instr : goal.check_code-returns-in_err-check_instr
check_code-returns-in_err-check_instr t c =
    follows_error _ c.from_residual.result c.in_err-check_instr.field-0.0 (progress_of c.check_instr.new.tally) c.from_residual.ensures.1
    (stops_in_code (progress_of c.args.tally.now) (progress_of c.loop-instr.tally) (place_of c.args.place) c.args.code.now c.loop-instr.instr-index
    c.instr-item.result c.in_err-check_instr.field-0.0 (progress_of c.check_instr.new.tally) c.loop-instr-test.true c.instr-item.is
    c.loop-instr.invariant c.in_err-check_instr.ensures)

pub check_code-loop-instr-preserved : goal.check_code-loop-instr-preserved
check_code-loop-instr-preserved t c =
    passes_in_code (progress_of c.args.tally.now) (progress_of c.loop-instr.tally) (progress_of c.check_instr.new.tally)
    (place_of c.args.place) c.args.code.now c.loop-instr.instr-index c.instr-item.result c.loop-instr-test.true c.instr-item.is
    c.loop-instr.invariant c.in_ok-check_instr.ensures

pub check_instr-returns-in_err-check_code-in-If : goal.check_instr-returns-in_err-check_code-in-If
check_instr-returns-in_err-check_code-in-If t c =
    follows_error _ c.from_residual-in_err-check_code-in-If.result c.in_err-check_code-in-If.field-0.0 (progress_of c.check_code.new.tally)
    c.from_residual-in_err-check_code-in-If.ensures.1
    (stops_in_first (progress_of c.args.tally.now) (progress_of c.begin_instr.new.tally) (progress_of c.step.new.self)
    (place_of c.args.place) c.args.instr.now c.in-If.test c.in-If.first c.in-If.other c.deref.result.now
    c.in_err-check_code-in-If.field-0.0 (progress_of c.check_code.new.tally)
    c.in-If.is c.in_ok-begin_instr.ensures.0 c.in_ok-begin_instr.ensures.1 c.in_ok-step-in-If.ensures.passed c.deref.ensures.value
    c.in_err-check_code-in-If.ensures)

pub check_instr-returns-in_ok-check_code-in-If : goal.check_instr-returns-in_ok-check_code-in-If
check_instr-returns-in_ok-check_code-in-If t c =
    goes_on_in_other (progress_of c.args.tally.now) (progress_of c.begin_instr.new.tally) (progress_of c.step.new.self) (progress_of c.check_code.new.tally)
    (place_of c.args.place) c.args.instr.now c.in-If.test c.in-If.first c.in-If.other c.deref.result.now c.deref-in-If.result.now
    c.check_code-in-If.result (progress_of c.check_code-in-If.new.tally)
    c.in-If.is c.in_ok-begin_instr.ensures.0 c.in_ok-begin_instr.ensures.1 c.in_ok-step-in-If.ensures.passed
    c.deref.ensures.value c.deref-in-If.ensures.value
    c.in_ok-check_code-in-If.ensures c.check_code-in-If.ensures
