use Rattle.std.proofs.Common.{sym, ◌∙◌, refl}
use Rattle.sn_ranges.proofs.FaultLemmas.{fault_of-None, member_fits}
use Rattle.sn_ranges.proofs.TestSets.{set_of-only}
use Rattle.sn_ranges.specs.Ranges.{is_member}
use Rattle.sn_ranges.proofs.ranges.Ranges.from_list.Goals as goal

pub sorted-requires : goal.sorted-requires
sorted-requires c = λ k d hk. (fault_of-None c.args.width c.args.list.now (sym c.find_fault.ensures ∙ c.in_default.is) k d hk).0

pub invariant_of-result : goal.invariant_of-result
invariant_of-result c =
    let good = fault_of-None c.args.width c.args.list.now (sym c.find_fault.ensures ∙ c.in_default.is) in
    record {
      ascending = c.in_ok-ranges.ensures.ascending;
      fits = λ v t. member_fits c.args.width c.args.list.now good v (sym (c.in_ok-ranges.ensures.members v) ∙ t);
    }

pub returns-clause-set : goal.returns-clause-set
returns-clause-set c = record {
  same_width = refl;
  canonical = invariant_of-result c;
  members = c.in_ok-ranges.ensures.members;
}

pub returns-clause-set_is : goal.returns-clause-set_is
returns-clause-set_is c = set_of-only c.args.width (is_member c.args.list.now) _ (returns-clause-set c)
