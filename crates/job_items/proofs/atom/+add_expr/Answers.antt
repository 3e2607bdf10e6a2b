use Rattle.job_items.specs.Gathered.{lent}
use Rattle.job_items.proofs.Levels.{reads_of_sum, constants_of_sum}
use Rattle.job_items.proofs.atom.+add_expr.Goals as goal

pub add_expr-returns-in_ok-add_expr-in-Sum-clause-reads :
    goal.add_expr-returns-in_ok-add_expr-in-Sum-clause-reads
add_expr-returns-in_ok-add_expr-in-Sum-clause-reads t c =
    reads_of_sum c.args.expr.now c.in-Sum.first c.in-Sum.rest c.deref.result.now c.deref-in-Sum.result.now c.add_summands.result
    (lent c.args.reads.now.items) (lent c.add_expr.new.reads.items) (lent c.add_summands.new.reads.items)
    c.in-Sum.is c.deref.ensures c.deref-in-Sum.ensures.value c.in_ok-add_expr-in-Sum.ensures.reads c.add_summands.ensures.reads

pub add_expr-returns-in_ok-add_expr-in-Sum-clause-constants :
    goal.add_expr-returns-in_ok-add_expr-in-Sum-clause-constants
add_expr-returns-in_ok-add_expr-in-Sum-clause-constants t c =
    constants_of_sum c.args.expr.now c.in-Sum.first c.in-Sum.rest c.deref.result.now c.deref-in-Sum.result.now c.add_summands.result
    c.args.constants.now.items c.add_expr.new.constants.items c.add_summands.new.constants.items
    c.in-Sum.is c.deref.ensures c.deref-in-Sum.ensures.value c.in_ok-add_expr-in-Sum.ensures.constants c.add_summands.ensures.constants
