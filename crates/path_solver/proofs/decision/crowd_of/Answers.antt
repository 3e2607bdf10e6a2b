use Rattle.std.proofs.Common.{◌≡◌, ℕ, false, Option, Some, None, sym, arith, rules}
use Rattle.std.specs.Prelude.{is_some}
use Rattle.std.specs.Option.{option_map}
use Rattle.sn_width.specs.declared.ids.SymId.{SymId}
use Rattle.path_cond.specs.Conditions.{first_broken}
use Rattle.interval_solver.specs.Domains.{first_empty}
use Rattle.path_solver.proofs.decision.crowd_of.Goals as goal

-- what is asked for is not there
no_pick : (o p : Option ℕ) → o ≡ p → is_some o ≡ false → p ≡ None
no_pick None p e h = sym e
no_pick (Some pick) p e h = cc

no_symbol : (o : Option SymId) (p : Option ℕ) → option_map (λ (s : SymId). s.0) o ≡ p → is_some o ≡ false → p ≡ None
no_symbol None p e h = sym e
no_symbol (Some s) p e h = cc

pub returns : goal.returns
returns c =
    let cond = c.args.cond.now in
    let sets = c.args.domains.now in
    let unbroken : is_some c.first_broken.result ≡ false = search rules in
    let filled : is_some c.first_empty.result ≡ false = search rules in
    record {
      simply_open = record {
        unbroken = no_pick c.first_broken.result (first_broken cond) c.first_broken.ensures unbroken;
        possible = c.each_symbol_of_filled_domains_has_a_value.ensures cond sets c.requires
            (no_symbol c.first_empty.result (first_empty sets) c.first_empty.ensures filled);
      };
      is = c.coupled_count-count.ensures;
      many = omega (arith, c.if-count-le-MOST_COUPLED.false);
    }
