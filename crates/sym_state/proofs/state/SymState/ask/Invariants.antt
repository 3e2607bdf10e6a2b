use Rattle.instr_steps.specs.Scenes.{scene_of}
use Rattle.sym_state.proofs.Starting.{AskedTo}
use Rattle.sym_state.proofs.state.SymState.ask.Given as goal

-- the formulas so far, and those of the tests that are left, are all
abbrev pub invariant-loop-test : goal.invariant-loop-test
invariant-loop-test l = AskedTo l.initial.self.unknowns (scene_of l.at) l.tests l.test-index l.initial.self l.self
