-- The report that JSON shows, by the names of a net: so the JSON of a report that fits fixes it.
use Rattle.std.proofs.Common.{◌≡◌, ◌<◌, ◌≤◌, ◌^◌, ◌==◌, ℕ, ℤ, List, [], ◌∷◌, map, Bool, true, false, Option, Some, None, refl, sym, ap, ◌∙◌, subst}
use Rattle.std.specs.Prelude.{codes, pos, negsuc, bytes_eq, if◌then◌else◌, option_map, option_and_then, unwrap_or}
use Rattle.std.specs.List.{AllByRecursion}
use Rattle.serde_json.specs.Data.{Data, null, Items, no_items, item, Members}
use Rattle.serde_json.specs.Find.{get, at, as_number, as_str, as_array, as_object, as_integer}
use Rattle.serde_json.specs.View.{items_of}
use Rattle.sn_width.specs.declared.ids.NodeId.{NodeId}
use Rattle.sn_width.specs.declared.ids.NameId.{NameId}
use Rattle.sn_width.specs.declared.ids.TagId.{TagId}
use Rattle.sn_width.specs.declared.ids.Site.{Site}
use Rattle.sn_width.specs.declared.faults.LayoutFault.{LayoutFault}
use Rattle.sn_width.specs.declared.faults.LayoutFault.TheVariants.{NoTag, AddressRange, NoField, WidthDiffers, Overlap, Unset, NoMeta}
use Rattle.sn_width.specs.Faults.{fault_number}
use Rattle.lin_term.specs.Terms.{LinearTerm, Part, CoefficientsFit}
use Rattle.cell_stacks.specs.declared.cell.Cell.{Cell}
use Rattle.sefl_syntax.specs.declared.net.Side.TheVariants.{Inward}
use Rattle.sefl_meaning.specs.declared.walk.Decision.{Decision}
use Rattle.sefl_meaning.specs.declared.walk.Decision.TheVariants.{Then, Else, Pass, Broken, Copy}
use Rattle.sefl_meaning.specs.declared.walk.Place.{Place}
use Rattle.sefl_meaning.specs.declared.walk.Failure.{Failure}
use Rattle.sefl_meaning.specs.declared.walk.Failure.TheVariants.{Layout, Constraint, Message}
use Rattle.sefl_meaning.specs.declared.walk.End.{End}
use Rattle.sefl_meaning.specs.declared.walk.End.TheVariants.{Stopped, Delivered, Failed, Cut}
use Rattle.sefl_meaning.specs.Fields.{Fields}
use Rattle.refutation_check.specs.declared.steps.Refute.{Refute}
use Rattle.refutation_check.specs.declared.steps.Refute.TheVariants.{Empty, Domain, Split, Cycle}
use Rattle.refutation_check.specs.declared.outcome.Cause.{Cause}
use Rattle.refutation_check.specs.declared.outcome.Cause.TheVariants.{Outside, Cases, Coupled}
use Rattle.refutation_check.specs.declared.outcome.Verdict.{Verdict}
use Rattle.refutation_check.specs.declared.outcome.Verdict.TheVariants.{Sat, Undecided}
use Rattle.net_check.specs.Network.{Network}
use Rattle.path_records.specs.declared.records.Record.{Record}
use Rattle.path_records.specs.declared.records.Record.TheVariants.{Path, Pruned, Unexplored}
use Rattle.path_records.specs.Shown.{fields_seen}
use Rattle.report_shape.specs.Reduced.{number_in}
use Rattle.run_text.specs.Forms.{list, count, value_data, values_data, address_data, decision_data, decisions_data, place_data, places_data, failure_data, end_data, owner_data, tag_data, tags_data, term_part_data, term_parts_data, term_data, given_by, cell_data, cells_data, head_data, heads_data, meta_data, metas_data, fields_data}
use Rattle.record_text.specs.declared.report.Report.{Report}
use Rattle.record_text.specs.Records.{ids_data, step_data, refutation_data, cause_data, verdict_data, before_data, path_data, pruned_data, unexplored_data, record_data, records_data}
use Rattle.record_text.specs.Reports.{state_text, report_members, report_data, data_of}
use Rattle.report_names.specs.Names.{node_named, meta_named, tag_named, place_named}
use Rattle.report_names.specs.Own.{IsOwnPlace}
use Rattle.report_forms.specs.Seen.{RecordSeen, path, pruned, unexplored, record_seen, ReportSeen, line_seen, report_seen}
use Rattle.report_forms.specs.Fits.{DecisionFits, ValueFits, CellFits, HeadFits, OwnerFits, MetaFits, TagFits, FieldsFit, Fit128, Fit32, CauseFits, VerdictFits, BeforeFits, StepFits, LineFits, RecordFits, ReportFits}
use Rattle.report_forms.proofs.Written.{HasDigits, FindsPlaces, line_fits, value_in, power_within, parts_fit, PartFits128}

-- ---- parts of a value, whatever it is

abbrev member_back : List ℕ → Data → Data
member_back k d = unwrap_or (get k d) null

abbrev item_back : ℕ → Data → Data
item_back i d = unwrap_or (at i d) null

abbrev whole_back : Data → ℤ
whole_back d = unwrap_or (option_and_then as_integer (as_number d)) (pos 0)

abbrev text_back : Data → List ℕ
text_back d = unwrap_or (as_str d) []

abbrev items_back : {B : Type 0} → (Data → B) → Items → List B
items_back f no_items = []
items_back f (item d ds) = f d ∷ items_back f ds

abbrev list_back : {B : Type 0} → (Data → B) → Data → List B
list_back f d = items_back f (unwrap_or (as_array d) no_items)

-- ---- what is shown

abbrev decision_word : List ℕ → Decision
decision_word s = if bytes_eq s (codes "then") then Then else (if bytes_eq s (codes "else") then Else else (if bytes_eq s (codes "pass") then Pass else Broken))

abbrev decision_by : Option (List ℕ) → ℕ → Decision
decision_by (Some s) n = decision_word s
decision_by None n = Copy n

abbrev decision_back : Data → Decision
decision_back d = decision_by (as_str d) (number_in d)

abbrev no_place : Place
no_place = record { node = record { 0 = 0 }; side = Inward; port = 0 }

abbrev place_back : Network → Data → Place
place_back net d = unwrap_or (place_named net (text_back d)) no_place

abbrev fault_back : ℕ → LayoutFault
fault_back n =
    if n == 1 then NoTag else (if n == 2 then AddressRange else (if n == 3 then NoField else (if n == 4 then WidthDiffers else (if n == 5 then Overlap else (if n == 6 then Unset else NoMeta)))))

abbrev failure_back : ℕ → List ℕ → Failure
failure_back n text = if n == 9 then Message text else (if n == 8 then Constraint else Layout (fault_back n))

abbrev end_word : List ℕ → End
end_word s = if bytes_eq s (codes "stopped") then Stopped else (if bytes_eq s (codes "delivered") then Delivered else Cut)

abbrev end_by : Option (List ℕ) → Data → End
end_by (Some s) d = end_word s
end_by None d = Failed (failure_back (number_in (member_back (codes "fault") d)) (text_back (member_back (codes "text") d))) (record { 0 = number_in (member_back (codes "site") d) })

abbrev end_back : Data → End
end_back d = end_by (as_str d) d

abbrev node_back : Network → List ℕ → NodeId
node_back net s = record { 0 = unwrap_or (node_named net s) 0 }

abbrev owner_back : Network → Data → Option NodeId
owner_back net d = option_map (node_back net) (as_str d)

abbrev meta_id_back : Network → Data → NameId
meta_id_back net d = record { 0 = unwrap_or (meta_named net (text_back d)) 0 }

abbrev tag_id_back : Network → Data → TagId
tag_id_back net d = record { 0 = unwrap_or (tag_named net (text_back d)) 0 }

abbrev tag_back : Network → Data → TagId × ℤ
tag_back net d = (tag_id_back net (item_back 0 d), whole_back (item_back 1 d))

abbrev part_back : Data → Part
part_back d = (record { 0 = number_in (item_back 0 d) }, number_in (item_back 1 d))

abbrev term_back : Data → Data → LinearTerm
term_back constant d = record { width = number_in (item_back 0 d); constant = number_in constant; parts = list_back part_back (item_back 2 d) }

abbrev cell_back : Data → Cell LinearTerm
cell_back d = record { width = number_in (item_back 0 d); value = option_map (λ c. term_back c d) (at 1 d) }

abbrev cells_back : Data → List (Cell LinearTerm)
cells_back = list_back cell_back

abbrev head_back : Data → ℤ × List (Cell LinearTerm)
head_back d = (whole_back (item_back 0 d), cells_back (item_back 1 d))

abbrev meta_back : Network → Data → Option NodeId × NameId × List (Cell LinearTerm)
meta_back net d = (owner_back net (item_back 0 d), meta_id_back net (item_back 1 d), cells_back (item_back 2 d))

abbrev fields_back : Network → Data → Fields LinearTerm
fields_back net d = record {
  tags = list_back (tag_back net) (member_back (codes "tags") d);
  heads = list_back head_back (member_back (codes "heads") d);
  metas = list_back (meta_back net) (member_back (codes "metas") d);
}

abbrev values_back : Data → List ℕ
values_back = list_back number_in

abbrev cause_by : List ℕ → Data → Cause
cause_by s d =
    if bytes_eq s (codes "outside") then Outside (number_in (member_back (codes "pick") d)) (values_back (member_back (codes "values") d))
    else (if bytes_eq s (codes "cases") then Cases (number_in (member_back (codes "count") d)) else Coupled (number_in (member_back (codes "count") d)))

abbrev cause_back : Data → Cause
cause_back d = cause_by (text_back (member_back (codes "cause") d)) d

abbrev verdict_by : Option Data → Data → Verdict
verdict_by (Some values) d = Sat (values_back values)
verdict_by None d = Undecided (cause_back (member_back (codes "undecided") d))

abbrev verdict_back : Data → Verdict
verdict_back d = verdict_by (get (codes "sat") d) d

abbrev before_back : Data → Option Verdict
before_back d = option_map (λ (ms : Members). verdict_back d) (as_object d)

abbrev way_back : Option Data → List ℕ
way_back None = []
way_back (Some d) = values_back d

abbrev step_by : List ℕ → Data → Refute
step_by s d =
    if bytes_eq s (codes "empty") then Empty (record { 0 = number_in (item_back 1 d) }) (values_back (item_back 2 d))
    else (if bytes_eq s (codes "domain") then Domain (record { 0 = number_in (item_back 1 d) })
    else (if bytes_eq s (codes "split") then Split (number_in (item_back 1 d)) (way_back (at 2 d)) else Cycle (values_back (item_back 1 d))))

abbrev step_back : Data → Refute
step_back d = step_by (text_back (item_back 0 d)) d

abbrev record_by : List ℕ → Network → Data → RecordSeen
record_by s net d =
    if bytes_eq s (codes "path") then path (list_back decision_back (member_back (codes "decisions") d)) (list_back (place_back net) (member_back (codes "places") d))
    (end_back (member_back (codes "end") d)) (fields_back net (member_back (codes "fields") d)) (verdict_back (member_back (codes "verdict") d))
    else (if bytes_eq s (codes "pruned") then pruned (list_back decision_back (member_back (codes "decisions") d)) (before_back (member_back (codes "before") d))
    (list_back step_back (member_back (codes "refutation") d))
    else unexplored (list_back decision_back (member_back (codes "decisions") d)))

abbrev record_back : Network → Data → RecordSeen
record_back net d = record_by (text_back (member_back (codes "kind") d)) net d

abbrev report_back : Network → Data → ReportSeen
report_back net d = record {
  cases = option_map number_in (get (codes "cases") d);
  hops = number_in (member_back (codes "hops") d);
  limit = number_in (member_back (codes "limit") d);
  records = list_back (record_back net) (member_back (codes "records") d);
  refuted = number_in (member_back (codes "refuted") d);
  complete = bytes_eq (text_back (member_back (codes "state") d)) (codes "done");
}

-- ---- what is written is shown

module _ {A B : Type 0} (shown : A → Data) (back : Data → B) (seen : A → B) (Fits : A → Type 0) (one : (a : A) → Fits a → back (shown a) ≡ seen a) where
  seen_back : (xs : List A) → AllByRecursion Fits xs → items_back back (items_of (map shown xs)) ≡ map seen xs
  seen_back [] h = refl
  seen_back (x ∷ xs) h = λ i. one x h.0 i ∷ seen_back xs h.1 i

module _ {A : Type 0} (shown : A → Data) (back : Data → A) (Fits : A → Type 0) (one : (a : A) → Fits a → back (shown a) ≡ a) where
  all_back : (xs : List A) → AllByRecursion Fits xs → items_back back (items_of (map shown xs)) ≡ xs
  all_back [] h = refl
  all_back (x ∷ xs) h = λ i. one x h.0 i ∷ all_back xs h.1 i

whole_is : (z : ℤ) → whole_back (address_data z) ≡ z
whole_is (pos n) = refl
whole_is (negsuc n) = refl

ids_is : (ns : List ℕ) → Fit32 ns → values_back (ids_data ns) ≡ ns
unfolding ids_data
ids_is ns h = all_back count number_in (λ n. n < 2 ^ 32) (λ n low. refl) ns h

decision_is : (d : Decision) → DecisionFits d → decision_back (decision_data d) ≡ d
decision_is Then h = refl
decision_is Else h = refl
decision_is Pass h = refl
decision_is Broken h = refl
decision_is (Copy i) h = refl

decisions_is : (ds : List Decision) → AllByRecursion DecisionFits ds → list_back decision_back (decisions_data ds) ≡ ds
unfolding decisions_data
decisions_is ds h = all_back decision_data decision_back DecisionFits decision_is ds h

fault_is : (fault : LayoutFault) → fault_back (fault_number fault) ≡ fault
fault_is NoTag = refl
fault_is AddressRange = refl
fault_is NoField = refl
fault_is WidthDiffers = refl
fault_is Overlap = refl
fault_is Unset = refl
fault_is NoMeta = refl

failed_is : (failure : Failure) (site : Site) → end_back (failure_data failure site.0) ≡ Failed failure site
failed_is (Layout NoTag) site = refl
failed_is (Layout AddressRange) site = refl
failed_is (Layout NoField) site = refl
failed_is (Layout WidthDiffers) site = refl
failed_is (Layout Overlap) site = refl
failed_is (Layout Unset) site = refl
failed_is (Layout NoMeta) site = refl
failed_is Constraint site = refl
failed_is (Message text) site = refl

end_is : (e : End) → end_back (end_data e) ≡ e
unfolding end_data
end_is Stopped = refl
end_is Delivered = refl
end_is Cut = refl
end_is (Failed failure site) = failed_is failure site

state_is : (complete : Bool) → bytes_eq (state_text complete) (codes "done") ≡ complete
state_is true = refl
state_is false = refl

module _ (net : Network) (digits : HasDigits) (places : FindsPlaces) where
  place_is : (p : Place) → IsOwnPlace net p → place_back net (place_data net p) ≡ p
  place_is p h = ap (λ o. unwrap_or o no_place) (places net p h)

  places_is : (ps : List Place) → AllByRecursion (IsOwnPlace net) ps → list_back (place_back net) (places_data net ps) ≡ ps
  unfolding places_data
  places_is ps h = all_back (place_data net) (place_back net) (IsOwnPlace net) place_is ps h

  values_is : (ns : List ℕ) → Fit128 ns → values_back (values_data ns) ≡ ns
  unfolding values_data
  values_is ns h = all_back value_data number_in (λ n. n < 2 ^ 128) (value_in digits) ns h

  -- ---- what is carried

  owner_is : (owner : Option NodeId) → OwnerFits net owner → owner_back net (owner_data net owner) ≡ owner
  unfolding owner_data
  owner_is None h = refl
  owner_is (Some node) h = λ i. Some (record { 0 = unwrap_or (h i) 0 })

  tag_is : (tag : TagId × ℤ) → TagFits net tag → tag_back net (tag_data net tag) ≡ tag
  tag_is tag h = λ i. (record { 0 = unwrap_or (h.0 i) 0 }, whole_is tag.1 i)

  tags_is : (tags : List (TagId × ℤ)) → AllByRecursion (TagFits net) tags → list_back (tag_back net) (tags_data net tags) ≡ tags
  unfolding tags_data
  tags_is tags h = all_back (tag_data net) (tag_back net) (TagFits net) tag_is tags h

  part_is : (p : Part) → PartFits128 p → part_back (term_part_data p) ≡ p
  part_is p h = λ i. (p.0, value_in digits p.1 h.1 i)

  parts_is : (ps : List Part) → AllByRecursion PartFits128 ps → list_back part_back (term_parts_data ps) ≡ ps
  unfolding term_parts_data
  parts_is ps h = all_back term_part_data part_back PartFits128 part_is ps h

  value_is : (w : ℕ) (v : Option LinearTerm) → w ≤ 128 → ValueFits w v → cell_back (list (count w ∷ given_by term_data v)) ≡ record { width = w; value = v }
  value_is w None high h = refl
  value_is w (Some t) high h =
      let fit = subst (λ n. CoefficientsFit n t.parts) h.same h.reduced.coefficients in
      let c = value_in digits t.constant (power_within w t.constant high (subst (λ n. t.constant < 2 ^ n) h.same h.reduced.constant)) in
      let ps = parts_is t.parts (parts_fit w t.parts high h.symbols fit) in
      λ i. record { width = w; value = Some (record { width = sym h.same i; constant = c i; parts = ps i }) }

  cell_is : (cell : Cell LinearTerm) → CellFits cell → cell_back (cell_data term_data cell) ≡ cell
  cell_is cell h = value_is cell.width cell.value h.1 h.2

  cells_is : (cells : List (Cell LinearTerm)) → AllByRecursion CellFits cells → cells_back (cells_data term_data cells) ≡ cells
  unfolding cells_data
  cells_is cells h = all_back (cell_data term_data) cell_back CellFits cell_is cells h

  head_is : (head : ℤ × List (Cell LinearTerm)) → HeadFits head → head_back (head_data term_data head.0 head.1) ≡ head
  unfolding head_data
  head_is head h = λ i. (whole_is head.0 i, cells_is head.1 h.1 i)

  heads_is : (heads : List (ℤ × List (Cell LinearTerm))) → AllByRecursion HeadFits heads → list_back head_back (heads_data term_data heads) ≡ heads
  unfolding heads_data
  heads_is heads h = all_back (λ p. head_data term_data p.0 p.1) head_back HeadFits head_is heads h

  meta_is : (meta : Option NodeId × NameId × List (Cell LinearTerm)) → MetaFits net meta → meta_back net (meta_data term_data net meta.0 meta.1 meta.2) ≡ meta
  unfolding meta_data
  meta_is meta h = λ i. (owner_is meta.0 h.0 i, record { 0 = unwrap_or (h.1 i) 0 }, cells_is meta.2 h.2 i)

  metas_is : (metas : List (Option NodeId × NameId × List (Cell LinearTerm))) → AllByRecursion (MetaFits net) metas → list_back (meta_back net) (metas_data term_data net metas) ≡ metas
  unfolding metas_data
  metas_is metas h = all_back (λ p. meta_data term_data net p.0 p.1 p.2) (meta_back net) (MetaFits net) meta_is metas h

  fields_is : (f : Fields LinearTerm) → FieldsFit net f → fields_back net (fields_data term_data net f) ≡ f
  unfolding fields_data
  fields_is f h = λ i. record { tags = tags_is f.tags h.tags i; heads = heads_is f.heads h.heads i; metas = metas_is f.metas h.metas i }

  -- ---- verdicts and refutations

  cause_is : (c : Cause) → CauseFits c → cause_back (cause_data c) ≡ c
  cause_is (Outside pick values) h = ap (Outside pick) (values_is values h.1)
  cause_is (Cases n) h = refl
  cause_is (Coupled n) h = refl

  verdict_is : (v : Verdict) → VerdictFits v → verdict_back (verdict_data v) ≡ v
  unfolding verdict_data
  verdict_is (Sat values) h = ap Sat (values_is values h)
  verdict_is (Undecided cause) h = ap Undecided (cause_is cause h)

  before_is : (b : Option Verdict) → BeforeFits b → before_back (before_data b) ≡ b
  unfolding before_data verdict_data
  before_is None h = refl
  before_is (Some (Sat values)) h = λ i. Some (Sat (values_is values h i))
  before_is (Some (Undecided cause)) h = λ i. Some (Undecided (cause_is cause h i))

  step_is : (s : Refute) → StepFits s → step_back (step_data s) ≡ s
  step_is (Empty symbol picks) h = ap (Empty symbol) (ids_is picks h.1)
  step_is (Domain symbol) h = refl
  step_is (Split pick []) h = refl
  step_is (Split pick (number ∷ way)) h = ap (Split pick) (ids_is (number ∷ way) h.1)
  step_is (Cycle bounds) h = ap Cycle (ids_is bounds h)

  refutation_is : (steps : List Refute) → AllByRecursion StepFits steps → list_back step_back (refutation_data steps) ≡ steps
  unfolding refutation_data
  refutation_is steps h = all_back step_data step_back StepFits step_is steps h

  -- ---- records

  record_is : (r : Record) → RecordFits net r → record_back net (record_data net r) ≡ record_seen r
  unfolding path_data pruned_data unexplored_data
  record_is (Path decisions places' ended fields verdict) h =
      λ i. path (decisions_is decisions.items h.all_decisions i) (places_is places'.items h.all_places i) (end_is ended i) (fields_is (fields_seen fields) h.the_fields i) (verdict_is verdict h.the_verdict i)
  record_is (Pruned decisions before refutation) h = λ i. pruned (decisions_is decisions.items h.0 i) (before_is before h.1 i) (refutation_is refutation h.2 i)
  record_is (Unexplored decisions) h = λ i. unexplored (decisions_is decisions.items h i)

  records_is : (rs : List Record) → AllByRecursion (RecordFits net) rs → list_back (record_back net) (records_data net rs) ≡ map record_seen rs
  unfolding records_data
  records_is rs h = seen_back (record_data net) (record_back net) record_seen (RecordFits net) record_is rs h

  line_is : (cases : Option ℕ) (hops limit : ℕ) (records : List Record) (refuted : ℕ) (complete : Bool) → LineFits net cases hops limit records refuted
      → report_back net (report_data cases hops limit (records_data net records) refuted complete) ≡ line_seen cases hops limit records refuted complete
  unfolding report_data report_members
  line_is None hops limit records refuted complete h =
      λ i. record { cases = None; hops = hops; limit = limit; records = records_is records h.all_records i; refuted = refuted; complete = state_is complete i }
  line_is (Some n) hops limit records refuted complete h =
      λ i. record { cases = Some n; hops = hops; limit = limit; records = records_is records h.all_records i; refuted = refuted; complete = state_is complete i }

  report_is : (r : Report) → ReportFits net r → report_back net (data_of net r) ≡ report_seen r
  report_is r h = line_is r.cases r.hops r.limit r.records.items r.refuted r.complete (line_fits net r h)

  pub report_one : (a b : Report) → ReportFits net a → ReportFits net b → data_of net a ≡ data_of net b → report_seen a ≡ report_seen b
  report_one a b h k same = sym (report_is a h) ∙ ap (report_back net) same ∙ report_is b k

  pub line_one : (cases : Option ℕ) (hops limit : ℕ) (records : List Record) (refuted : ℕ) (complete : Bool) (found : Report)
      → LineFits net cases hops limit records refuted
      → ReportFits net found → report_data cases hops limit (records_data net records) refuted complete ≡ data_of net found
      → report_seen found ≡ line_seen cases hops limit records refuted complete
  line_one cases hops limit records refuted complete found h k same =
      sym (report_is found k) ∙ ap (report_back net) (sym same) ∙ line_is cases hops limit records refuted complete h
