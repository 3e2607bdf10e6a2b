-- What is written has its form.
use Rattle.std.proofs.Common.{◌≡◌, ◌^◌, ◌-◌, ◌<◌, ◌≤◌, ℕ, ℤ, suc, List, [], ◌∷◌, ◌++◌, map, Bool, true, false, Option, Some, None, nat_lt, refl, sym, ap, subst, arith}
use Rattle.std.specs.Prelude.{codes, decimal, pos, negsuc, int_lt, nat_le, if◌then◌else◌, is_some, unwrap_or}
use Rattle.std.specs.List.{AllByRecursion}
use Rattle.std.specs.Option.{option_or}
use Rattle.std.specs.Str.Parse.{digits_value}
use Rattle.std.proofs.lemmas.Bool.Decides.{nat_tests}
use Rattle.std.proofs.lemmas.Int.{ints}
use Rattle.std.proofs.lemmas.Nat.{pow_below}
use Rattle.std.proofs.lemmas.Fmt.{decimal_is_IsNumeral_wide}
use Rattle.serde_json.specs.Data.{Data, string}
use Rattle.serde_json.specs.View.{items_of}
use Rattle.sn_width.specs.declared.ids.NodeId.{NodeId}
use Rattle.sn_width.specs.declared.ids.NameId.{NameId}
use Rattle.sn_width.specs.declared.ids.TagId.{TagId}
use Rattle.sn_width.specs.declared.faults.LayoutFault.{LayoutFault}
use Rattle.sn_width.specs.declared.faults.LayoutFault.TheVariants.{NoTag, AddressRange, NoField, WidthDiffers, Overlap, Unset, NoMeta}
use Rattle.sn_width.specs.Faults.{fault_number}
use Rattle.lin_term.specs.Terms.{LinearTerm, Part, AscendsFrom, CoefficientsFit}
use Rattle.cell_stacks.specs.declared.cell.Cell.{Cell}
use Rattle.sefl_meaning.specs.declared.walk.Decision.{Decision}
use Rattle.sefl_meaning.specs.declared.walk.Decision.TheVariants.{Then, Else, Pass, Broken, Copy}
use Rattle.sefl_meaning.specs.declared.walk.Place.{Place}
use Rattle.sefl_meaning.specs.declared.walk.Failure.{Failure}
use Rattle.sefl_meaning.specs.declared.walk.Failure.TheVariants.{Layout, Constraint, Message}
use Rattle.sefl_meaning.specs.declared.walk.End.{End}
use Rattle.sefl_meaning.specs.declared.walk.End.TheVariants.{Stopped, Delivered, Failed, Cut}
use Rattle.sefl_meaning.specs.Fields.{Fields}
use Rattle.refutation_check.specs.declared.steps.Refute.{Refute}
use Rattle.refutation_check.specs.declared.steps.Refute.TheVariants.{Empty, Domain, Split, Cycle}
use Rattle.refutation_check.specs.declared.outcome.Cause.{Cause}
use Rattle.refutation_check.specs.declared.outcome.Cause.TheVariants.{Outside, Cases, Coupled}
use Rattle.refutation_check.specs.declared.outcome.Verdict.{Verdict}
use Rattle.refutation_check.specs.declared.outcome.Verdict.TheVariants.{Sat, Undecided}
use Rattle.net_check.specs.Network.{Network}
use Rattle.path_records.specs.declared.records.Record.{Record}
use Rattle.path_records.specs.declared.records.Record.TheVariants.{Path, Pruned, Unexplored}
use Rattle.report_shape.specs.declared.part.Part.{Part as Shaped}
use Rattle.report_shape.specs.declared.part.Part.TheVariants as part
use Rattle.report_shape.specs.Forms.{same}
use Rattle.report_shape.specs.Faults.{fault, items_fault, unless, is_within}
use Rattle.report_shape.specs.Numbers.{is_large, large_of}
use Rattle.report_shape.specs.Reduced.{number_in, greatest, is_behind, ascends, is_reduced}
use Rattle.run_text.specs.Names.{node_name}
use Rattle.run_text.specs.Forms.{list, count, value_data, values_data, address_data, decision_data, decisions_data, side_text, place_data, places_data, fault_data, failure_data, end_data, owner_data, tag_data, tags_data, term_part_data, term_parts_data, term_data, given_by, cell_data, cells_data, head_data, heads_data, meta_data, metas_data, fields_data}
use Rattle.record_text.specs.declared.report.Report.{Report}
use Rattle.record_text.specs.Records.{ids_data, step_data, refutation_data, cause_data, verdict_data, before_data, path_data, pruned_data, unexplored_data, record_data, records_data}
use Rattle.record_text.specs.Reports.{state_text, report_members, report_data, data_of}
use Rattle.report_names.specs.Names.{knows, place_named}
use Rattle.report_names.specs.Own.{IsOwnPlace}
use Rattle.report_forms.specs.Fits.{DecisionFits, EndFits, AddressFits, PartFits, TermFits, ValueFits, CellFits, HeadFits, OwnerFits, MetaFits, TagFits, FieldsFit, Fit128, Fit32, CauseFits, VerdictFits, BeforeFits, StepFits, LineFits, RecordFits, ReportFits}

-- no place of the value is refused
abbrev HasForm : Network → Shaped → Data → Type 0
HasForm net p d = fault (knows net) p d ≡ None

none_when : (b : Bool) → b ≡ true → unless b ≡ None
none_when true h = refl
none_when false h = cc

within : (least most n : ℕ) → least ≤ n → n ≤ most → unless (is_within (pos least, pos most) (pos n)) ≡ None
within least most n low high =
    let first : int_lt (pos n) (pos least) ≡ false = grind (arith, ints, nat_tests) in
    let second : int_lt (pos most) (pos n) ≡ false = grind (arith, ints, nat_tests) in
    rw (first, second) refl

below : (a b : ℕ) → nat_lt a b ≡ true → a < b
below a b h = grind (arith, nat_tests)

from : (a b : ℕ) → nat_lt a b ≡ false → b ≤ a
from a b h = grind (arith, nat_tests)

is_below : (a b : ℕ) → a < b → nat_lt a b ≡ true
is_below a b h = grind (arith, nat_tests)

is_up_to : (a b : ℕ) → a ≤ b → nat_le a b ≡ true
is_up_to a b h = grind (arith, nat_tests)

-- ---- reduced terms

abbrev pub PartFits128 : Part → Type 0
PartFits128 p = (p.0.0 < 2 ^ 64) × (p.1 < 2 ^ 128)

abbrev IsBefore : Option ℕ → ℕ → Type 0
IsBefore None n = Unit {0}
IsBefore (Some last) n = last < n

behind : (last : Option ℕ) (n s : ℕ) → IsBefore last n → n ≤ s → is_behind last s ≡ true
behind None n s h k = refl
behind (Some last) n s h k = is_below last s (omega arith)

-- the digits of a large number are large
abbrev pub HasDigits : Type 0
HasDigits = (n : ℕ) → 2 ^ 64 ≤ n → n < 2 ^ 128 → is_large (decimal n) ≡ true

-- the number of the digits of a large one
large_back : (s : List ℕ) (n : ℕ) → is_large s ≡ true → digits_value 10 s ≡ n → large_of s ≡ Some n
large_back s n h e = rw (h, e) refl

number_back : HasDigits → (n : ℕ) (b : Bool) → nat_lt n (2 ^ 64) ≡ b → n < 2 ^ 128 → number_in (if b then count n else string (decimal n)) ≡ n
number_back digits n true e h = refl
number_back digits n false e h =
    ap (λ o. unwrap_or o 0) (large_back (decimal n) n (digits n (from n (2 ^ 64) e) h) (decimal_is_IsNumeral_wide n (omega arith)).1)

pub value_in : HasDigits → (n : ℕ) → n < 2 ^ 128 → number_in (value_data n) ≡ n
value_in digits n h = number_back digits n (nat_lt n (2 ^ 64)) refl h

greatest_is : (w : ℕ) (b : Bool) → nat_lt w 128 ≡ b → w ≤ 128 → (if b then 2 ^ w - 1 else 2 ^ 128 - 1) ≡ 2 ^ w - 1
greatest_is w true e h = refl
greatest_is w false e h = let is : w ≡ 128 = omega (arith, from w 128 e) in ap (λ n. 2 ^ n - 1) (sym is)

-- a number of the width is at most the greatest
fits : (w n : ℕ) → w ≤ 128 → n < 2 ^ w → nat_le n (greatest w) ≡ true
fits w n h low = rw (greatest_is w (nat_lt w 128) refl h) (is_up_to n (2 ^ w - 1) (omega arith))

power_by : (w n : ℕ) (b : Bool) → nat_lt w 128 ≡ b → w ≤ 128 → n < 2 ^ w → n < 2 ^ 128
power_by w n true e h low = let more = pow_below w 128 (below w 128 e) in omega arith
power_by w n false e h low = let is : w ≡ 128 = omega (arith, from w 128 e) in subst (λ k. n < 2 ^ k) is low

pub power_within : (w n : ℕ) → w ≤ 128 → n < 2 ^ w → n < 2 ^ 128
power_within w n h low = power_by w n (nat_lt w 128) refl h low

ascend_on : HasDigits → (last : Option ℕ) (n w : ℕ) (ps : List Part) → w ≤ 128 → IsBefore last n → AscendsFrom n ps → CoefficientsFit w ps → ascends last (greatest w) (items_of (map term_part_data ps)) ≡ true
ascend_on digits last n w [] h before up fit = refl
ascend_on digits last n w (p ∷ ps) h before up fit =
    let c : number_in (value_data p.1) ≡ p.1 = value_in digits p.1 (power_within w p.1 h fit.0.1) in
    rw (behind last n p.0.0 before up.0, c, is_below 0 p.1 fit.0.0, fits w p.1 h fit.0.1) (ascend_on digits (Some p.0.0) (suc p.0.0) w ps h (omega arith) up.1 fit.1)

reduced_true : HasDigits → (w : ℕ) (t : LinearTerm) → TermFits w t → w ≤ 128 → is_reduced (list (count w ∷ term_data t)) ≡ true
unfolding term_parts_data
reduced_true digits w t h most =
    let c : number_in (value_data t.constant) ≡ t.constant = value_in digits t.constant (power_within w t.constant most (subst (λ n. t.constant < 2 ^ n) h.same h.reduced.constant)) in
    let low : t.constant < 2 ^ w = subst (λ n. t.constant < 2 ^ n) h.same h.reduced.constant in
    rw (c, fits w t.constant most low) (ascend_on digits None 0 w t.parts most tt h.reduced.ascending (subst (λ n. CoefficientsFit n t.parts) h.same h.reduced.coefficients))

pub parts_fit : (w : ℕ) (ps : List Part) → w ≤ 128 → AllByRecursion PartFits ps → CoefficientsFit w ps → AllByRecursion PartFits128 ps
parts_fit w [] h all fit = tt
parts_fit w (p ∷ ps) h all fit = ((all.0, power_within w p.1 h fit.0.1), parts_fit w ps h all.1 fit.1)

-- a place of the net is found by its text
abbrev pub FindsPlaces : Type 0
FindsPlaces = (net : Network) (place : Place) → IsOwnPlace net place → place_named net (side_text place.side ++ (node_name net place.node ++ (codes "." ++ decimal place.port))) ≡ Some place

-- so fits the line of a report that does
pub line_fits : (net : Network) (r : Report) → ReportFits net r → LineFits net r.cases r.hops r.limit r.records.items r.refuted
line_fits net r h = record {
  the_cases = h.the_cases;
  least_hops = h.least_hops;
  most_hops = h.most_hops;
  least_limit = h.least_limit;
  most_limit = h.most_limit;
  all_records = h.all_records;
  count = h.refuted;
}

module _ (net : Network) (digits : HasDigits) (places : FindsPlaces) where
  module _ {A : Type 0} (p : Shaped) (data_of : A → Data) (Fits : A → Type 0) (one : (a : A) → Fits a → HasForm net p (data_of a)) where
    all_have_form : (n : ℕ) (xs : List A) → AllByRecursion Fits xs → items_fault (knows net) (same p) n (items_of (map data_of xs)) ≡ None
    all_have_form n [] h = refl
    all_have_form n (x ∷ xs) h = rw (one x h.0) (all_have_form (suc n) xs h.1)

  count_form : (n : ℕ) → n < 2 ^ 64 → HasForm net part.Count (count n)
  count_form n h = within 0 18446744073709551615 n (omega arith) (omega arith)

  id_form : (n : ℕ) → n < 2 ^ 32 → HasForm net part.Id (count n)
  id_form n h = within 0 4294967295 n (omega arith) (omega arith)

  ids_form : (ns : List ℕ) → Fit32 ns → HasForm net part.Ids (ids_data ns)
  unfolding ids_data
  ids_form ns h = rw (all_have_form part.Id count (λ n. n < 2 ^ 32) id_form 0 ns h) refl

  way_form : (n : ℕ) (ns : List ℕ) → Fit32 (n ∷ ns) → HasForm net part.Way (ids_data (n ∷ ns))
  unfolding ids_data
  way_form n ns h = ap (λ o. option_or o None) (all_have_form part.Id count (λ n. n < 2 ^ 32) id_form 0 (n ∷ ns) h)

  decision_form : (d : Decision) → DecisionFits d → HasForm net part.Decision (decision_data d)
  decision_form Then h = refl
  decision_form Else h = refl
  decision_form Pass h = refl
  decision_form Broken h = refl
  decision_form (Copy i) h = within 0 4294967295 i (omega arith) (omega arith)

  decisions_form : (ds : List Decision) → AllByRecursion DecisionFits ds → HasForm net part.Decisions (decisions_data ds)
  unfolding decisions_data
  decisions_form ds h = rw (all_have_form part.Decision decision_data DecisionFits decision_form 0 ds h) refl

  place_form : (p : Place) → IsOwnPlace net p → HasForm net part.Place (place_data net p)
  place_form p h = none_when _ (ap is_some (places net p h))

  places_form : (ps : List Place) → AllByRecursion (IsOwnPlace net) ps → HasForm net part.Places (places_data net ps)
  unfolding places_data
  places_form ps h = rw (all_have_form part.Place (place_data net) (IsOwnPlace net) place_form 0 ps h) refl

  value_by : (n : ℕ) (b : Bool) → nat_lt n (2 ^ 64) ≡ b → n < 2 ^ 128 → HasForm net part.Value (if b then count n else string (decimal n))
  value_by n true e h = within 0 18446744073709551615 n (omega arith) (omega (arith, below n (2 ^ 64) e))
  value_by n false e h = none_when _ (digits n (from n (2 ^ 64) e) h)

  value_form : (n : ℕ) → n < 2 ^ 128 → HasForm net part.Value (value_data n)
  value_form n h = value_by n (nat_lt n (2 ^ 64)) refl h

  values_form : (ns : List ℕ) → Fit128 ns → HasForm net part.Values (values_data ns)
  unfolding values_data
  values_form ns h = rw (all_have_form part.Value value_data (λ n. n < 2 ^ 128) value_form 0 ns h) refl

  -- ---- ends

  number_of_fault : (fault : LayoutFault) (site : ℕ) → site < 2 ^ 32 → HasForm net part.End (fault_data (fault_number fault) site)
  number_of_fault NoTag site h = rw (id_form site h) refl
  number_of_fault AddressRange site h = rw (id_form site h) refl
  number_of_fault NoField site h = rw (id_form site h) refl
  number_of_fault WidthDiffers site h = rw (id_form site h) refl
  number_of_fault Overlap site h = rw (id_form site h) refl
  number_of_fault Unset site h = rw (id_form site h) refl
  number_of_fault NoMeta site h = rw (id_form site h) refl

  failed_form : (failure : Failure) (site : ℕ) → site < 2 ^ 32 → HasForm net part.End (failure_data failure site)
  failed_form (Layout fault) site h = number_of_fault fault site h
  failed_form Constraint site h = rw (id_form site h) refl
  failed_form (Message text) site h = rw (id_form site h) refl

  end_form : (e : End) → EndFits e → HasForm net part.End (end_data e)
  unfolding end_data
  end_form Stopped h = refl
  end_form Delivered h = refl
  end_form Cut h = refl
  end_form (Failed failure site) h = failed_form failure site.0 h

  -- ---- what is carried

  address_form : (z : ℤ) → AddressFits z → HasForm net part.Address (address_data z)
  address_form (pos n) h =
      let fits : is_within (negsuc 2147483647, pos 2147483647) (pos n) ≡ true = grind (arith, ints, nat_tests) in
      none_when (is_within (negsuc 2147483647, pos 2147483647) (pos n)) fits
  address_form (negsuc n) h =
      let fits : is_within (negsuc 2147483647, pos 2147483647) (negsuc n) ≡ true = grind (arith, ints, nat_tests) in
      none_when (is_within (negsuc 2147483647, pos 2147483647) (negsuc n)) fits

  width_form : (w : ℕ) → 1 ≤ w → w ≤ 128 → HasForm net part.Width (count w)
  width_form w low high = within 1 128 w low high

  part_form : (p : Part) → PartFits128 p → HasForm net part.Term (term_part_data p)
  part_form p h = rw (count_form p.0.0 h.0, value_form p.1 h.1) refl

  parts_form : (ps : List Part) → AllByRecursion PartFits128 ps → HasForm net part.Terms (term_parts_data ps)
  unfolding term_parts_data
  parts_form ps h = rw (all_have_form part.Term term_part_data PartFits128 part_form 0 ps h) refl

  value_cell : (w : ℕ) (v : Option LinearTerm) → 1 ≤ w → w ≤ 128 → ValueFits w v → HasForm net part.Cell (list (count w ∷ given_by term_data v))
  value_cell w None low high h = rw (width_form w low high, is_up_to 0 (greatest w) (omega arith)) refl
  value_cell w (Some t) low high h =
      let fit = subst (λ n. CoefficientsFit n t.parts) h.same h.reduced.coefficients in
      let c = power_within w t.constant high (subst (λ n. t.constant < 2 ^ n) h.same h.reduced.constant) in
      rw (width_form w low high, value_form t.constant c, parts_form t.parts (parts_fit w t.parts high h.symbols fit), reduced_true digits w t h high) refl

  cell_form : (cell : Cell LinearTerm) → CellFits cell → HasForm net part.Cell (cell_data term_data cell)
  cell_form cell h = value_cell cell.width cell.value h.0 h.1 h.2

  cells_form : (cells : List (Cell LinearTerm)) → AllByRecursion CellFits cells → HasForm net part.Cells (cells_data term_data cells)
  unfolding cells_data
  cells_form cells h = rw (all_have_form part.Cell (cell_data term_data) CellFits cell_form 0 cells h) refl

  head_form : (head : ℤ × List (Cell LinearTerm)) → HeadFits head → HasForm net part.Head (head_data term_data head.0 head.1)
  unfolding head_data
  head_form head h = rw (address_form head.0 h.0, cells_form head.1 h.1) refl

  heads_form : (heads : List (ℤ × List (Cell LinearTerm))) → AllByRecursion HeadFits heads → HasForm net part.Heads (heads_data term_data heads)
  unfolding heads_data
  heads_form heads h = rw (all_have_form part.Head (λ p. head_data term_data p.0 p.1) HeadFits head_form 0 heads h) refl

  owner_form : (owner : Option NodeId) → OwnerFits net owner → HasForm net part.Owner (owner_data net owner)
  unfolding owner_data
  owner_form None h = refl
  owner_form (Some node) h = none_when _ (ap is_some h)

  meta_form : (meta : Option NodeId × NameId × List (Cell LinearTerm)) → MetaFits net meta → HasForm net part.Meta (meta_data term_data net meta.0 meta.1 meta.2)
  unfolding meta_data
  meta_form meta h = rw (owner_form meta.0 h.0, none_when _ (ap is_some h.1), cells_form meta.2 h.2) refl

  metas_form : (metas : List (Option NodeId × NameId × List (Cell LinearTerm))) → AllByRecursion (MetaFits net) metas → HasForm net part.Metas (metas_data term_data net metas)
  unfolding metas_data
  metas_form metas h = rw (all_have_form part.Meta (λ p. meta_data term_data net p.0 p.1 p.2) (MetaFits net) meta_form 0 metas h) refl

  tag_form : (tag : TagId × ℤ) → TagFits net tag → HasForm net part.Tag (tag_data net tag)
  tag_form tag h = rw (none_when _ (ap is_some h.0), address_form tag.1 h.1) refl

  tags_form : (tags : List (TagId × ℤ)) → AllByRecursion (TagFits net) tags → HasForm net part.Tags (tags_data net tags)
  unfolding tags_data
  tags_form tags h = rw (all_have_form part.Tag (tag_data net) (TagFits net) tag_form 0 tags h) refl

  fields_form : (f : Fields LinearTerm) → FieldsFit net f → HasForm net part.Fields (fields_data term_data net f)
  unfolding fields_data
  fields_form f h = rw (heads_form f.heads h.heads, metas_form f.metas h.metas, tags_form f.tags h.tags) refl

  -- ---- verdicts and refutations

  cause_form : (c : Cause) → CauseFits c → HasForm net part.Cause (cause_data c)
  cause_form (Outside pick values) h = rw (id_form pick h.0, values_form values h.1) refl
  cause_form (Cases n) h = rw (count_form n h) refl
  cause_form (Coupled n) h = rw (count_form n h) refl

  verdict_form : (v : Verdict) → VerdictFits v → HasForm net part.Verdict (verdict_data v)
  unfolding verdict_data
  verdict_form (Sat values) h = rw (values_form values h) refl
  verdict_form (Undecided cause) h = rw (cause_form cause h) refl

  before_form : (b : Option Verdict) → BeforeFits b → HasForm net part.Before (before_data b)
  unfolding before_data verdict_data
  before_form None h = refl
  before_form (Some (Sat values)) h = rw (values_form values h) refl
  before_form (Some (Undecided cause)) h = rw (cause_form cause h) refl

  step_form : (s : Refute) → StepFits s → HasForm net part.Step (step_data s)
  step_form (Empty symbol picks) h = rw (count_form symbol.0 h.0, ids_form picks h.1) refl
  step_form (Domain symbol) h = rw (count_form symbol.0 h) refl
  step_form (Split pick []) h = rw (id_form pick h.0) refl
  step_form (Split pick (number ∷ way)) h = rw (id_form pick h.0, way_form number way h.1) refl
  step_form (Cycle bounds) h = rw (ids_form bounds h) refl

  refutation_form : (steps : List Refute) → AllByRecursion StepFits steps → HasForm net part.Refutation (refutation_data steps)
  unfolding refutation_data
  refutation_form steps h = rw (all_have_form part.Step step_data StepFits step_form 0 steps h) refl

  -- ---- records

  record_form : (r : Record) → RecordFits net r → HasForm net part.Record (record_data net r)
  unfolding path_data pruned_data unexplored_data
  record_form (Path decisions places ended fields verdict) h =
      rw (decisions_form decisions.items h.all_decisions, end_form ended h.the_end, fields_form _ h.the_fields, places_form places.items h.all_places, verdict_form verdict h.the_verdict) refl
  record_form (Pruned decisions before refutation) h = rw (before_form before h.1, decisions_form decisions.items h.0, refutation_form refutation h.2) refl
  record_form (Unexplored decisions) h = rw (decisions_form decisions.items h) refl

  records_form : (rs : List Record) → AllByRecursion (RecordFits net) rs → HasForm net part.Records (records_data net rs)
  unfolding records_data
  records_form rs h = rw (all_have_form part.Record (record_data net) (RecordFits net) record_form 0 rs h) refl

  state_form : (complete : Bool) → HasForm net part.State (string (state_text complete))
  state_form true = refl
  state_form false = refl

  pub line_form : (cases : Option ℕ) (hops limit : ℕ) (records : List Record) (refuted : ℕ) (complete : Bool) → LineFits net cases hops limit records refuted
      → HasForm net part.Report (report_data cases hops limit (records_data net records) refuted complete)
  unfolding report_data report_members
  line_form None hops limit records refuted complete h =
      rw (within 1 256 hops h.least_hops h.most_hops, within 1 100000 limit h.least_limit h.most_limit, records_form records h.all_records, count_form refuted h.count, state_form complete) refl
  line_form (Some n) hops limit records refuted complete h =
      rw (
        within 1 18446744073709551615 n h.the_cases.0 (omega (arith, h.the_cases.1)),
        within 1 256 hops h.least_hops h.most_hops,
        within 1 100000 limit h.least_limit h.most_limit,
        records_form records h.all_records,
        count_form refuted h.count,
        state_form complete,
      ) refl

  pub report_form : (r : Report) → ReportFits net r → HasForm net part.Report (data_of net r)
  report_form r h = line_form r.cases r.hops r.limit r.records.items r.refuted r.complete (line_fits net r h)
