-- Exact records whose numbers are in range fit.
use Rattle.std.proofs.Common.{◌≡◌, refl, sym, subst, ℕ, ℤ, ◌<◌, List, [], ◌∷◌, ◌++◌, length, map, reverse, Option, Some, None, Result, Ok, Err}
use Rattle.std.proofs.lemmas.List.{append-nil}
use Rattle.std.specs.Prelude.{IfOk, flat_map}
use Rattle.std.specs.List.{AllByRecursion}
use Rattle.std.specs.Option.{IfSome}
use Rattle.sn_width.specs.declared.faults.LayoutFault.{LayoutFault}
use Rattle.sn_width.specs.declared.ids.NodeId.{NodeId}
use Rattle.sn_width.specs.declared.ids.NameId.{NameId}
use Rattle.sn_width.specs.declared.ids.TagId.{TagId}
use Rattle.lin_term.specs.Terms.{LinearTerm}
use Rattle.path_formula.specs.Formulas.{FormulaTree}
use Rattle.refutation_check.specs.declared.outcome.Verdict.{Verdict}
use Rattle.cell_stacks.specs.Cells.{bottom_up}
use Rattle.cell_stacks.specs.Outcome.{and_then, on_ok}
use Rattle.cell_stacks.specs.declared.cell.Cell.{Cell}
use Rattle.header_layers.specs.Layout.{tag_pair, tag_pairs}
use Rattle.metadata_scopes.specs.Scopes.{meta_of}
use Rattle.net_check.specs.Network.{Entry, Network}
use Rattle.net_check.specs.Sound.{AreOfOneJob}
use Rattle.sefl_meaning.specs.declared.walk.Decision.{Decision}
use Rattle.sefl_meaning.specs.declared.walk.End.{End}
use Rattle.sefl_meaning.specs.declared.walk.Place.{Place}
use Rattle.sefl_meaning.specs.Carried.{Carried, Key, scene_at}
use Rattle.sefl_meaning.specs.Fields.{Fields, fields_of}
use Rattle.sefl_meaning.specs.Ids.{CarriesOwn, IsKey, IsNode, IsOwner}
use Rattle.sefl_meaning.specs.Injected.{injected, unknown_count, unknown_widths}
use Rattle.sefl_meaning.specs.Runs.{starting}
use Rattle.sefl_meaning.specs.Start.{start_from, start_of, tests_in, tree_from}
use Rattle.sefl_meaning.specs.Trees.{over}
use Rattle.sefl_meaning.specs.Valued.{CarriedFits, Fits}
use Rattle.sefl_meaning.specs.Valued as typed
use Rattle.term_values.specs.Fits.{typed_fits}
use Rattle.term_values.specs.TermValues.{terms}
use Rattle.path_records.specs.Shown.{fields_seen}
use Rattle.path_records.specs.declared.records.Record.{Record}
use Rattle.path_records.specs.declared.records.Record.TheVariants.{Path, Pruned, Unexplored}
use Rattle.exact_records.specs.Exact.{IsGood}
use Rattle.exact_records.specs.Packets.{AreExactFor}
use Rattle.exact_records.specs.Records.{IsPath, SymStart}
use Rattle.exact_records.specs.View.{record_tree, record_trees}
use Rattle.report_names.specs.Own.{IsOwnName, IsOwnNode, IsOwnPlace, IsOwnTag}
use Rattle.report_forms.specs.Fits.{CellFits, FieldsFit, HeadFits, MetaFits, OwnerFits, PathFits, RecordFits, TagFits, ValueFits}
use Rattle.report_forms.specs.Ranges.{CellInRange, FieldsInRange, HeadInRange, MetaInRange, PathInRange, PortFits, RecordInRange, TagInRange, ValueInRange}
use Rattle.report_forms.specs.Below.{Below}
use Rattle.report_forms.proofs.Lists.{all_both, all_flat, all_reverse, all_so}
use Rattle.report_forms.proofs.Ways.{IsOwnRoute, IsOwnTree, own_route}

-- the ids of the net are found by their names
pub record AreFound (net : Network) : Type 0 where
  pub nodes : (node : NodeId) → node.0 < length net.own.nodes → IsOwnNode net node
  pub metas : (name : NameId) → name.0 < length net.names.metas → IsOwnName net name
  pub tags : (tag : TagId) → tag.0 < length net.names.tags → IsOwnTag net tag

-- ---- what is carried

module _ (widths : List ℕ) (same : (w : ℕ) (t : LinearTerm) → Fits (typed_fits widths) w t → t.width ≡ w) where
  value_fits : (w : ℕ) (value : Option LinearTerm) → typed.HeldFits (typed_fits widths) w value → ValueInRange value → ValueFits w value
  value_fits w None h k = tt
  value_fits w (Some t) h k = record { same = same w t h; reduced = k.reduced; symbols = k.symbols }

  cells_fit : (cells : List (Cell LinearTerm)) → AllByRecursion (typed.CellFits (typed_fits widths)) cells → AllByRecursion CellInRange cells
      → AllByRecursion CellFits cells
  cells_fit cells h k =
      all_both (typed.CellFits (typed_fits widths)) CellInRange CellFits (λ cell fits range. (range.0, range.1, value_fits cell.width cell.value fits range.2)) cells h k

  -- from bottom to top
  bottom_fit : (cells : List (Cell LinearTerm)) → AllByRecursion (typed.CellFits (typed_fits widths)) cells → AllByRecursion CellInRange (reverse cells)
      → AllByRecursion CellFits (reverse cells)
  bottom_fit cells h k = cells_fit (reverse cells) (all_reverse (typed.CellFits (typed_fits widths)) cells h) k

  module _ (net : Network) (found : AreFound net) where
    tags_fit : (tags : List (ℕ × List ℤ)) → AllByRecursion (λ p. p.0 < length net.names.tags) tags → AllByRecursion TagInRange (flat_map tag_pairs tags)
        → AllByRecursion (TagFits net) (flat_map tag_pairs tags)
    tags_fit tags h k = all_both (λ tag. IsOwnTag net tag.0) TagInRange (TagFits net) (λ tag own range. (own, range)) (flat_map tag_pairs tags)
        (all_flat (λ p. p.0 < length net.names.tags) (λ tag. IsOwnTag net tag.0) tag_pairs
        (λ p below. all_so (λ tag. IsOwnTag net tag.0) (tag_pair p.0) (λ address. found.tags (record { 0 = p.0 }) below) (reverse p.1)) tags h) k

    owner_fits : (owner : Option NodeId) → IsOwner net owner → OwnerFits net owner
    owner_fits None h = tt
    owner_fits (Some node) h = found.nodes node h

    heads_fit : (heads : List (ℤ × List (Cell LinearTerm))) → typed.StacksFit (typed_fits widths) heads → AllByRecursion HeadInRange (map bottom_up heads)
        → AllByRecursion HeadFits (map bottom_up heads)
    heads_fit [] h k = tt
    heads_fit (head ∷ heads) h k = ((k.0.0, bottom_fit head.1 h.0 k.0.1), heads_fit heads h.1 k.1)

    metas_fit : (metas : List (Key × List (Cell LinearTerm))) → AllByRecursion (λ p. IsKey net p.0) metas → typed.StacksFit (typed_fits widths) metas
        → AllByRecursion MetaInRange (map meta_of metas) → AllByRecursion (MetaFits net) (map meta_of metas)
    metas_fit [] own h k = tt
    metas_fit (meta ∷ metas) own h k = (
      (owner_fits meta.0.0 own.0.0, found.metas meta.0.1 own.0.1, bottom_fit meta.1 h.0 k.0),
      metas_fit metas own.1 h.1 k.1,
    )

    fields_fit : (s : Carried LinearTerm) → CarriesOwn net s → CarriedFits (typed_fits widths) s → FieldsInRange (fields_of s) → FieldsFit net (fields_of s)
    fields_fit s own fits range = record {
      tags = tags_fit s.layers.tags own.tags range.tags;
      heads = heads_fit s.layers.heads fits.heads range.heads;
      metas = metas_fit s.scopes own.metas fits.scopes range.metas;
    }

-- ---- records

module _ (net : Network) (i : Entry) (hops : ℕ) (below : Below net i) (found : AreFound net) where
  abbrev unknowns : List ℕ
  unknowns = unknown_widths i.own.fields

  -- where the exploration starts
  own_start : AreOfOneJob net i → IfOk (start_of (terms (unknown_count i)) net i hops) (λ start. IsOwnTree net unknowns start.tree)
  own_start one = by (injected (terms (unknown_count i)) (scene_at net i.node) i.own) (below.injection one) below.typed_injection
    where
      from : (s : Carried LinearTerm) → IsOwnTree net unknowns (tree_from (terms (unknown_count i)) net i hops s) → (r : Result (List FormulaTree) LayoutFault)
          → IfOk {T = SymStart} (on_ok (λ fs. record { unknowns = unknowns; tests = fs; tree = tree_from (terms (unknown_count i)) net i hops s; most_choices = i.most_choices }) r) (λ start. IsOwnTree net unknowns start.tree)
      from s h (Ok fs) = h
      from s h (Err fault) = tt

      by : (r : Result (Carried LinearTerm) LayoutFault) → ((s : Carried LinearTerm) → r ≡ Ok s → IsNode net i.node × CarriesOwn net s)
          → IfOk r (CarriedFits (typed_fits unknowns)) → IfOk (and_then r (start_from (terms (unknown_count i)) net i hops)) (λ start. IsOwnTree net unknowns start.tree)
      by (Err fault) own fits = tt
      by (Ok s) own fits =
          let is = own s refl in
          from s (
            below.trees (one.0, one.1, one.2) hops i.own.port i.node (starting s) is.0 is.1,
            below.typed_trees hops i.own.port i.node (starting s) (subst (λ ws. CarriedFits (typed_fits ws) s) (sym (append-nil unknowns)) fits),
          ) (tests_in (terms (unknown_count i)) (scene_at net i.node) i.own.tests s)

  module _ (start : SymStart) (own : IsOwnTree net unknowns start.tree) where
    path_fits : (ds : List Decision) (places : List Place) (ended : End) (fields : Fields LinearTerm) (verdict : Verdict)
        → IsPath start ds places ended fields verdict → PathInRange ds places ended fields verdict → PathFits net ds places ended fields verdict
    path_fits ds places ended fields verdict h k =
        let way : IsOwnRoute net unknowns h.way = subst (λ o. IfSome o (IsOwnRoute net unknowns)) h.leads (own_route net unknowns start.tree ds own) in
        let left : IsOwnTree net unknowns (over h.progress ended) = subst (IsOwnTree net unknowns) h.ended way.left in
        record {
          all_decisions = k.all_decisions;
          all_places = all_both (λ place. IsNode net place.node) PortFits (IsOwnPlace net) (λ place there port. (found.nodes place.node there, port)) places
              (subst (AllByRecursion (λ place. IsNode net place.node)) h.places_are way.places) k.all_places;
          the_end = k.the_end;
          the_fields = subst (FieldsFit net) h.fields_are
              (fields_fit (unknowns ++ h.progress.choices) (below.width (unknowns ++ h.progress.choices)) net found h.progress.state left.0 left.1
              (subst FieldsInRange (sym h.fields_are) k.the_fields));
          the_verdict = k.the_verdict;
        }

    record_fits : (r : Record) → IsGood start (record_tree r) → RecordInRange r → RecordFits net r
    record_fits (Path decisions places ended fields verdict) h k = path_fits decisions.items places.items ended (fields_seen fields) verdict h.meaning k
    record_fits (Pruned decisions before refutation) h k = k
    record_fits (Unexplored decisions) h k = k

    all_fit : (rs : List Record) → AllByRecursion (IsGood start) (record_trees rs) → AllByRecursion RecordInRange rs → AllByRecursion (RecordFits net) rs
    all_fit [] h k = tt
    all_fit (r ∷ rs) h k = (record_fits r h.0 k.0, all_fit rs h.1 k.1)

pub records_fit : (net : Network) (i : Entry) (hops limit : ℕ) → Below net i → AreFound net → AreOfOneJob net i → (rs : List Record)
    → AreExactFor net i hops limit (record_trees rs) → AllByRecursion RecordInRange rs → AllByRecursion (RecordFits net) rs
records_fit net i hops limit below found one rs exact range =
    let own : IsOwnTree net (unknown_widths i.own.fields) exact.start.tree =
    subst (λ r. IfOk r (λ start. IsOwnTree net (unknown_widths i.own.fields) start.tree)) exact.explored (own_start net i hops below found one) in
    all_fit net i hops below found exact.start own rs exact.exact.good range
