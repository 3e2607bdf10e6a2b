use Rattle.std.proofs.Common.{◌≡◌, ◌+◌, ◌∷◌, [], ◌++◌, List, sym, ap, subst, ◌∙◌, arith}
use Rattle.std.specs.Prelude.{All}
use Rattle.std.specs.Global.{Vec}
use Rattle.std.proofs.lemmas.List.Elements.{All-push}
use Rattle.difference_solver.specs.Choices.{lists_of}
use Rattle.difference_solver.specs.Floors.{IsFloor}
use Rattle.difference_solver.specs.declared.floors.Floor.{Floor}
use Rattle.difference_solver.proofs.Flooring.{HaveFloors, have_same, have_more}
use Rattle.difference_solver.proofs.floors.floors_of.Goals as goal
use Rattle.difference_solver.proofs.floors.floors_of.Goals.{in-None, in-Some+in_ok-push-in-Some}

pub loop-before-preserved : goal.loop-before-preserved
loop-before-preserved c =
    let old : List Floor = c.loop-before.floors.items in
    let new : List Floor = c.match-floor_of.floors.items in
    elim c.match-floor_of.branch [
      | in-None w ↦
          let same : c.loop-before.floors.items ≡ c.match-floor_of.floors.items = sym (ap (λ (v : Vec Floor). v.items) w.floors-is) in
          subst (λ (fs : List Floor). All (IsFloor c.args.count (lists_of c.args.choices.now)) fs × HaveFloors (lists_of c.args.choices.now) fs (c.loop-before.before + 1)) same
          (c.loop-before.invariant.0, have_same (lists_of c.args.choices.now) old c.loop-before.before w.in-None.ensures c.loop-before.invariant.1)
      | in-Some+in_ok-push-in-Some w ↦
          let pushed : c.match-floor_of.floors.items ≡ c.loop-before.floors.items ++ w.in-Some.floor ∷ [] = ap (λ (v : Vec Floor). v.items) w.floors-is ∙ w.in_ok-push-in-Some.ensures.items in (
            subst (λ (fs : List Floor). All (IsFloor c.args.count (lists_of c.args.choices.now)) fs) (sym pushed)
                (All-push (IsFloor c.args.count (lists_of c.args.choices.now)) old w.in-Some.floor c.loop-before.invariant.0 w.in-Some.ensures.0),
            have_more (lists_of c.args.choices.now) old new w.in-Some.floor c.loop-before.before pushed w.in-Some.ensures.1 w.in-Some.ensures.2 c.loop-before.invariant.1,
          )
    ]

pub returns : goal.returns
returns c =
    record {
      each = c.loop-before.invariant.0;
      below = λ below u above within. c.loop-before.invariant.1 u above (omega (arith, within, c.loop-before-test.false)) (below u above within);
    }
