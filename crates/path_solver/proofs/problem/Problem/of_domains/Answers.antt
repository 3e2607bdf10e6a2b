use Rattle.std.proofs.Common.{ap, ◌∙◌, arith}
use Rattle.path_formula.specs.Bounds.{lists_of}
use Rattle.path_solver.proofs.Gathering.{domain_pushed, domains_given}
use Rattle.path_solver.proofs.problem.Problem.of_domains.Goals as goal

pub loop-symbol-preserved : goal.loop-symbol-preserved
loop-symbol-preserved c = record {
  steps = domain_pushed c.args.symbols.now c.loop-symbol.symbol-index _ c.loop-symbol.problem.steps.items c.push.new.self.steps.items c.loop-symbol-test.true
      c.loop-symbol.invariant.steps c.in_ok-push.ensures.steps;
  choices = c.in_ok-push.ensures.choices c.args.cond.now c.requires.symbols (ap lists_of c.as_slice.ensures.value ∙ c.in_ok-ranges.ensures)
      c.loop-symbol.invariant.choices;
}

pub returns : goal.returns
returns c =
    domains_given c.args.cond.now c.args.symbols.now c.loop-symbol.symbol-index c.loop-symbol.problem (omega (arith, c.loop-symbol-test.false))
    c.requires.symbols c.loop-symbol.invariant.steps c.loop-symbol.invariant.choices
