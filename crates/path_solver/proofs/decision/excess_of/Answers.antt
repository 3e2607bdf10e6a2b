use Rattle.std.proofs.Common.{length, ap, arith}
use Rattle.path_solver.proofs.decision.excess_of.Goals as goal

pub returns-then-count-gt-MOST_COUPLED : goal.returns-then-count-gt-MOST_COUPLED
returns-then-count-gt-MOST_COUPLED c =
    record {
      simply_open = c.requires.simply_open;
      is = ap length c.requires.symbols;
      many = omega (arith, c.if-count-gt-MOST_COUPLED.true);
    }

pub returns-then-count-tried_choices : goal.returns-then-count-tried_choices
returns-then-count-tried_choices c = (
  omega (arith, ap length c.requires.symbols, c.if-count-gt-MOST_COUPLED.false),
  record {
    simply_open = c.requires.simply_open;
    is = c.in_ok-count.ensures;
    many = let h = c.if-count-tried_choices.true in let e = c.tried_choices.ensures in omega (arith, h, e);
  },
)
