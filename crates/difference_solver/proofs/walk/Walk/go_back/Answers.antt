use Rattle.std.proofs.Common.{◌≡◌, ◌-◌, ℕ, length, subst, arith}
use Rattle.std.specs.Global.{Vec}
use Rattle.std.specs.List.{AllZip}
use Rattle.difference_solver.specs.Lifting.{IsLowered}
use Rattle.difference_solver.specs.declared.choice.Step.{Step}
use Rattle.difference_solver.proofs.walk.Walk.go_back.Goals as goal

pub returns-clause-steps : goal.returns-clause-steps
returns-clause-steps c =
    let wide : c.len.result ≡ length c.args.self.now.gathered.items = omega (arith, c.args.self.now.gathered.ok.0) in
    subst (λ (v : Vec Step). AllZip (IsLowered c.args.start (length c.args.self.now.gathered.items - c.args.start)) v.items c.in_ok-self.field-0.items) c.replace-steps.ensures.value
    (subst (λ (n : ℕ). AllZip (IsLowered c.args.start (n - c.args.start)) c.replace-steps.result.items c.in_ok-self.field-0.items) wide c.in_ok-self.ensures)
