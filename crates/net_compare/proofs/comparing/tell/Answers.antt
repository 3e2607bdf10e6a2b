use Rattle.std.proofs.Common.{◌≡◌, ◌∙◌, ℕ, ◌+◌, ◌≤◌, [], ◌∷◌, ◌++◌, arith, drop, length, map, ap, sym, subst}
use Rattle.std.specs.Global.{Vec}
use Rattle.net_compare.specs.Saying.{MissSays, seen_path}
use Rattle.net_compare.specs.declared.judged.Judged.TheVariants.{Met, Open, Out}
use Rattle.std.specs.List.{AllByRecursion}
use Rattle.net_compare.specs.declared.delivery.Delivery.{Delivery}
use Rattle.net_compare.specs.Facings.{FitsWith, IsSound}
use Rattle.net_compare.proofs.Fitting.{all_here, all_mapped}
use Rattle.net_compare.proofs.Telling.{Leads, at_end, leads_at_first, met_here, past_open, past_out}
use Rattle.net_compare.proofs.comparing.tell.Goals.{in-Open+in_ok-push-in-Open, in-Out}
use Rattle.net_compare.proofs.comparing.tell.Goals as goal

pub loop-path-init : goal.loop-path-init
loop-path-init c =
    let none : c.new-numbers.result.items ≡ [] = c.new-numbers.ensures.items in
    subst (Leads (map seen_path c.args.others.now) (map seen_path c.args.own.now) (map seen_path c.args.own.now)) (sym none)
    (leads_at_first (map seen_path c.args.others.now) (map seen_path c.args.own.now))

pub returns-in-Met : goal.returns-in-Met
returns-in-Met c =
    let says : MissSays (map seen_path c.args.others.now) (seen_path c.path-item.result) (Met c.in-Met.values) =
    subst (MissSays (map seen_path c.args.others.now) (seen_path c.path-item.result)) c.in-Met.is c.in_ok-values.ensures in
    met_here (map seen_path c.args.others.now) c.args.own.now c.loop-path.path-index c.path-item.result c.loop-path-test.true c.path-item.is
    c.loop-path.numbers.items c.loop-path.invariant c.in-Met.values says

pub loop-path-preserved : goal.loop-path-preserved
loop-path-preserved c =
    let others = map seen_path c.args.others.now in
    let own = c.args.own.now in
    let n = c.loop-path.path-index in
    let d = c.path-item.result in
    let before = c.loop-path.numbers.items in
    let says = c.in_ok-values.ensures in
    elim c.match-branch-2.branch [
      | in-Open+in_ok-push-in-Open w ↦
          let more : c.match-branch-2.numbers.items ≡ before ++ d.number ∷ [] = ap (λ (v : Vec ℕ). v.items) w.numbers-is ∙ w.in_ok-push-in-Open.ensures.items in
          let said : MissSays others (seen_path d) Open = subst (MissSays others (seen_path d)) w.in-Open.is says in
          subst (Leads others (map seen_path own) (map seen_path (drop (n + 1) own))) (sym more)
          (past_open others own n d c.loop-path-test.true c.path-item.is before c.loop-path.invariant said)
      | in-Out w ↦
          let more : c.match-branch-2.numbers.items ≡ before = ap (λ (v : Vec ℕ). v.items) w.numbers-is in
          let said : MissSays others (seen_path d) Out = subst (MissSays others (seen_path d)) w.in-Out.is says in
          subst (Leads others (map seen_path own) (map seen_path (drop (n + 1) own))) (sym more)
          (past_out others own n d c.loop-path-test.true c.path-item.is before c.loop-path.invariant said)
    ]

pub returns : goal.returns
returns c =
    let f = c.loop-path-test.false in
    let past : length c.args.own.now ≤ c.loop-path.path-index = omega (arith, f) in
    at_end (map seen_path c.args.others.now) c.args.own.now c.loop-path.path-index past c.loop-path.numbers.items c.loop-path.invariant

pub miss-requires-clause-sound : goal.miss-requires-clause-sound
miss-requires-clause-sound c =
    all_here IsSound c.args.own.now c.loop-path.path-index c.path-item.result c.loop-path-test.true c.path-item.is c.requires.sound

pub miss-requires-clause-fits : goal.miss-requires-clause-fits
miss-requires-clause-fits c =
    let Fits = λ (d : Delivery). AllByRecursion (FitsWith (seen_path d)) (map seen_path c.args.others.now) in
    all_here Fits c.args.own.now c.loop-path.path-index c.path-item.result c.loop-path-test.true c.path-item.is
    (all_mapped seen_path (λ p. AllByRecursion (FitsWith p) (map seen_path c.args.others.now)) c.args.own.now c.requires.fit)
