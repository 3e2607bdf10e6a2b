-- Texts of walks.
use Rattle.std.proofs.Common.{◌≡◌, ◌<◌, ◌^◌, ◌==◌, ℕ, ℤ, List, ◌∷◌, map, Option, Some, None, refl, ap, arith}
use Rattle.std.specs.Prelude.{bytes_eq, codes, if◌then◌else◌, option_map, unwrap_or}
use Rattle.std.specs.List.{AllByRecursion}
use Rattle.serde_json.specs.Data.{Data, no_items}
use Rattle.serde_json.specs.Find.{at, as_str}
use Rattle.serde_json.specs.View.{items_of}
use Rattle.sn_width.specs.Faults.{fault_number}
use Rattle.sn_width.specs.declared.ids.NodeId.{NodeId}
use Rattle.sn_width.specs.declared.ids.NameId.{NameId}
use Rattle.sn_width.specs.declared.ids.TagId.{TagId}
use Rattle.sn_width.specs.declared.ids.Site.{Site}
use Rattle.sn_width.specs.declared.faults.LayoutFault.{LayoutFault}
use Rattle.sn_width.specs.declared.faults.LayoutFault.TheVariants.{NoTag, AddressRange, NoField, WidthDiffers, Overlap, Unset, NoMeta}
use Rattle.sefl_syntax.specs.declared.net.Side.TheVariants.{Inward}
use Rattle.cell_stacks.specs.declared.cell.Cell.{Cell}
use Rattle.sefl_meaning.specs.declared.walk.Decision.{Decision}
use Rattle.sefl_meaning.specs.declared.walk.Decision.TheVariants.{Then, Else, Pass, Broken, Copy}
use Rattle.sefl_meaning.specs.declared.walk.Place.{Place}
use Rattle.sefl_meaning.specs.declared.walk.Failure.{Failure}
use Rattle.sefl_meaning.specs.declared.walk.Failure.TheVariants.{Layout, Constraint, Message}
use Rattle.sefl_meaning.specs.declared.walk.End.{End}
use Rattle.sefl_meaning.specs.declared.walk.End.TheVariants.{Stopped, Delivered, Failed, Cut}
use Rattle.sefl_meaning.specs.Fields.{Fields, fields_of}
use Rattle.sefl_meaning.specs.Walks.{Trail}
use Rattle.net_check.specs.Network.{Network}
use Rattle.run_text.specs.Forms.{list, count, number_parts, value_data, address_data, decision_data, decisions_data, place_data, places_data, failure_data, end_data, owner_data, tag_data, tags_data, given_by, cell_data, cells_data, head_data, heads_data, meta_data, metas_data, fields_data}
use Rattle.run_text.specs.Names.{meta_name, node_name, tag_name}
use Rattle.report_names.specs.Names.{meta_named, node_named, place_named, tag_named}
use Rattle.report_names.specs.Own.{IsOwnPlace}
use Rattle.report_forms.specs.Fits.{DecisionFits, EndFits, OwnerFits, TagFits}
use Rattle.walk_command.specs.WalkTexts.{walk_data, walk_list, walks_data, walks_text}
use Rattle.told_texts.specs.Walks.{CellFits, FieldsFit, HeadFits, MetaFits, NumberFits, WalkFits, WalkTold, walk_told}
use Rattle.told_texts.proofs.Lines.{AreGood, IsGood, ReadsLines, address_good, array_good, count_good, deeper, end_good, item_good, list_good, null_good, object_good, one_good, same_told, text_good, value_good}
use Rattle.told_texts.proofs.Back.{all_back, item_back, list_back, member_back, number_back, text_back, told_back, value_is, whole_back, whole_is}

-- ---- what is shown

abbrev decision_word : List ℕ → Decision
decision_word s = if bytes_eq s (codes "then") then Then else (if bytes_eq s (codes "else") then Else else (if bytes_eq s (codes "pass") then Pass else Broken))

abbrev decision_by : Option (List ℕ) → ℕ → Decision
decision_by (Some s) n = decision_word s
decision_by None n = Copy n

abbrev decision_back : Data → Decision
decision_back d = decision_by (as_str d) (number_back d)

abbrev no_place : Place
no_place = record { node = record { 0 = 0 }; side = Inward; port = 0 }

abbrev place_back : Network → Data → Place
place_back net d = unwrap_or (place_named net (text_back d)) no_place

abbrev fault_back : ℕ → LayoutFault
fault_back n =
    if n == 1 then NoTag else (if n == 2 then AddressRange else (if n == 3 then NoField else (if n == 4 then WidthDiffers else (if n == 5 then Overlap else (if n == 6 then Unset else NoMeta)))))

abbrev failure_back : ℕ → List ℕ → Failure
failure_back n text = if n == 9 then Message text else (if n == 8 then Constraint else Layout (fault_back n))

abbrev end_word : List ℕ → End
end_word s = if bytes_eq s (codes "stopped") then Stopped else (if bytes_eq s (codes "delivered") then Delivered else Cut)

abbrev end_by : Option (List ℕ) → Data → End
end_by (Some s) d = end_word s
end_by None d = Failed (failure_back (number_back (member_back (codes "fault") d)) (text_back (member_back (codes "text") d))) (record { 0 = number_back (member_back (codes "site") d) })

abbrev end_back : Data → End
end_back d = end_by (as_str d) d

abbrev node_back : Network → List ℕ → NodeId
node_back net s = record { 0 = unwrap_or (node_named net s) 0 }

abbrev owner_back : Network → Data → Option NodeId
owner_back net d = option_map (node_back net) (as_str d)

abbrev name_back : Network → Data → NameId
name_back net d = record { 0 = unwrap_or (meta_named net (text_back d)) 0 }

abbrev tag_back : Network → Data → TagId × ℤ
tag_back net d = (record { 0 = unwrap_or (tag_named net (text_back (item_back 0 d))) 0 }, whole_back (item_back 1 d))

abbrev cell_back : Data → Cell ℕ
cell_back d = record { width = number_back (item_back 0 d); value = option_map number_back (at 1 d) }

abbrev head_back : Data → ℤ × List (Cell ℕ)
head_back d = (whole_back (item_back 0 d), list_back cell_back (item_back 1 d))

abbrev meta_back : Network → Data → Option NodeId × NameId × List (Cell ℕ)
meta_back net d = (owner_back net (item_back 0 d), name_back net (item_back 1 d), list_back cell_back (item_back 2 d))

abbrev fields_back : Network → Data → Fields ℕ
fields_back net d = record {
  tags = list_back (tag_back net) (member_back (codes "tags") d);
  heads = list_back head_back (member_back (codes "heads") d);
  metas = list_back (meta_back net) (member_back (codes "metas") d);
}

abbrev walk_back : Network → Data → WalkTold
walk_back net d = record {
  decisions = list_back decision_back (member_back (codes "decisions") d);
  places = list_back (place_back net) (member_back (codes "places") d);
  ended = end_back (member_back (codes "end") d);
  fields = fields_back net (member_back (codes "fields") d);
}

abbrev walks_back : Network → Data → List WalkTold
walks_back net d = list_back (walk_back net) (member_back (codes "walks") d)

-- ---- what is written is shown

-- a place of a net is found by its text
abbrev pub FindsPlaces : Type 0
FindsPlaces = (net : Network) (place : Place) → IsOwnPlace net place → place_named net (text_back (place_data net place)) ≡ Some place

decision_is : (d : Decision) → DecisionFits d → decision_back (decision_data d) ≡ d
decision_is Then h = refl
decision_is Else h = refl
decision_is Pass h = refl
decision_is Broken h = refl
decision_is (Copy i) h = refl

decisions_is : (ds : List Decision) → AllByRecursion DecisionFits ds → list_back decision_back (decisions_data ds) ≡ ds
unfolding decisions_data
decisions_is ds h = all_back decision_data decision_back DecisionFits decision_is ds h

failed_is : (failure : Failure) (site : Site) → end_back (failure_data failure site.0) ≡ Failed failure site
failed_is (Layout NoTag) site = refl
failed_is (Layout AddressRange) site = refl
failed_is (Layout NoField) site = refl
failed_is (Layout WidthDiffers) site = refl
failed_is (Layout Overlap) site = refl
failed_is (Layout Unset) site = refl
failed_is (Layout NoMeta) site = refl
failed_is Constraint site = refl
failed_is (Message text) site = refl

end_is : (e : End) → end_back (end_data e) ≡ e
unfolding end_data
end_is Stopped = refl
end_is Delivered = refl
end_is Cut = refl
end_is (Failed failure site) = failed_is failure site

value_in : (width : ℕ) (v : Option ℕ) → NumberFits v → cell_back (list (count width ∷ given_by number_parts v)) ≡ record { width = width; value = v }
value_in width None h = refl
value_in width (Some n) h = λ i. record { width = width; value = Some (value_is n h i) }

cell_is : (cell : Cell ℕ) → CellFits cell → cell_back (cell_data number_parts cell) ≡ cell
cell_is cell h = value_in cell.width cell.value h.1

cells_is : (cells : List (Cell ℕ)) → AllByRecursion CellFits cells → list_back cell_back (cells_data number_parts cells) ≡ cells
unfolding cells_data
cells_is cells h = all_back (cell_data number_parts) cell_back CellFits cell_is cells h

head_is : (head : ℤ × List (Cell ℕ)) → HeadFits head → head_back (head_data number_parts head.0 head.1) ≡ head
unfolding head_data
head_is head h = λ i. (whole_is head.0 i, cells_is head.1 h.1 i)

heads_is : (heads : List (ℤ × List (Cell ℕ))) → AllByRecursion HeadFits heads → list_back head_back (heads_data number_parts heads) ≡ heads
unfolding heads_data
heads_is heads h = all_back (λ p. head_data number_parts p.0 p.1) head_back HeadFits head_is heads h

module _ (net : Network) (finds : FindsPlaces) where
  place_is : (p : Place) → IsOwnPlace net p → place_back net (place_data net p) ≡ p
  place_is p h = ap (λ o. unwrap_or o no_place) (finds net p h)

  places_is : (ps : List Place) → AllByRecursion (IsOwnPlace net) ps → list_back (place_back net) (places_data net ps) ≡ ps
  unfolding places_data
  places_is ps h = all_back (place_data net) (place_back net) (IsOwnPlace net) place_is ps h

  owner_is : (owner : Option NodeId) → OwnerFits net owner → owner_back net (owner_data net owner) ≡ owner
  unfolding owner_data
  owner_is None h = refl
  owner_is (Some node) h = λ i. Some (record { 0 = unwrap_or (h i) 0 })

  tag_is : (tag : TagId × ℤ) → TagFits net tag → tag_back net (tag_data net tag) ≡ tag
  tag_is tag h = λ i. (record { 0 = unwrap_or (h.0 i) 0 }, whole_is tag.1 i)

  tags_is : (tags : List (TagId × ℤ)) → AllByRecursion (TagFits net) tags → list_back (tag_back net) (tags_data net tags) ≡ tags
  unfolding tags_data
  tags_is tags h = all_back (tag_data net) (tag_back net) (TagFits net) tag_is tags h

  meta_is : (meta : Option NodeId × NameId × List (Cell ℕ)) → MetaFits net meta
      → meta_back net (meta_data number_parts net meta.0 meta.1 meta.2) ≡ meta
  unfolding meta_data
  meta_is meta h = λ i. (owner_is meta.0 h.0 i, record { 0 = unwrap_or (h.1 i) 0 }, cells_is meta.2 h.2 i)

  metas_is : (metas : List (Option NodeId × NameId × List (Cell ℕ))) → AllByRecursion (MetaFits net) metas
      → list_back (meta_back net) (metas_data number_parts net metas) ≡ metas
  unfolding metas_data
  metas_is metas h = all_back (λ p. meta_data number_parts net p.0 p.1 p.2) (meta_back net) (MetaFits net) meta_is metas h

  fields_is : (f : Fields ℕ) → FieldsFit net f → fields_back net (fields_data number_parts net f) ≡ f
  unfolding fields_data
  fields_is f h = λ i. record { tags = tags_is f.tags h.tags i; heads = heads_is f.heads h.heads i; metas = metas_is f.metas h.metas i }

  walk_is : (w : Trail) → WalkFits net w → walk_back net (walk_data net w) ≡ walk_told w
  unfolding walk_data
  walk_is w h = λ i. record {
    decisions = decisions_is w.decisions h.decisions i;
    places = places_is w.places h.places i;
    ended = end_is w.end' i;
    fields = fields_is (fields_of w.state) h.fields i;
  }

  pub walks_is : (ws : List Trail) → AllByRecursion (WalkFits net) ws → walks_back net (walks_data net ws) ≡ map walk_told ws
  unfolding walks_data walk_list
  walks_is ws h = told_back (walk_data net) (walk_back net) walk_told (WalkFits net) walk_is ws h

-- ---- what is written is read back

decision_good : (d : Decision) → DecisionFits d → IsGood 0 (decision_data d)
decision_good Then h = text_good 0 (codes "then")
decision_good Else h = text_good 0 (codes "else")
decision_good Pass h = text_good 0 (codes "pass")
decision_good Broken h = text_good 0 (codes "broken")
decision_good (Copy i) h = count_good 0 i (omega arith)

decisions_good : (ds : List Decision) → AllByRecursion DecisionFits ds → IsGood 1 (decisions_data ds)
unfolding decisions_data
decisions_good ds h = list_good decision_data DecisionFits 0 decision_good ds h

fault_low : (fault : LayoutFault) → fault_number fault < 2 ^ 64
fault_low NoTag = omega arith
fault_low AddressRange = omega arith
fault_low NoField = omega arith
fault_low WidthDiffers = omega arith
fault_low Overlap = omega arith
fault_low Unset = omega arith
fault_low NoMeta = omega arith

failure_good : (failure : Failure) (site : ℕ) → site < 2 ^ 32 → IsGood 1 (failure_data failure site)
failure_good (Layout fault) site low = object_good 0 _ refl (count_good 0 (fault_number fault) (fault_low fault), (count_good 0 site (omega arith), tt))
failure_good Constraint site low = object_good 0 _ refl (count_good 0 8 (omega arith), (count_good 0 site (omega arith), tt))
failure_good (Message text) site low = object_good 0 _ refl (count_good 0 9 (omega arith), (count_good 0 site (omega arith), (text_good 0 text, tt)))

ended_good : (e : End) → EndFits e → IsGood 1 (end_data e)
unfolding end_data
ended_good Stopped h = text_good 1 (codes "stopped")
ended_good Delivered h = text_good 1 (codes "delivered")
ended_good Cut h = text_good 1 (codes "cut")
ended_good (Failed failure site) h = failure_good failure site.0 h

given_good : (v : Option ℕ) → AreGood 0 (items_of (given_by number_parts v))
given_good None = end_good 0
given_good (Some n) = item_good 0 (value_data n) no_items (value_good 0 n) (end_good 0)

cell_good : (cell : Cell ℕ) → CellFits cell → IsGood 1 (cell_data number_parts cell)
cell_good cell h = array_good 0 _ (item_good 0 (count cell.width) _ (count_good 0 cell.width h.0) (given_good cell.value))

cells_good : (cells : List (Cell ℕ)) → AllByRecursion CellFits cells → IsGood 2 (cells_data number_parts cells)
unfolding cells_data
cells_good cells h = list_good (cell_data number_parts) CellFits 1 cell_good cells h

head_good : (head : ℤ × List (Cell ℕ)) → HeadFits head → IsGood 3 (head_data number_parts head.0 head.1)
unfolding head_data
head_good head h =
    array_good 2 _ (item_good 2 (address_data head.0) _ (address_good 2 head.0 h.0)
    (item_good 2 (cells_data number_parts head.1) no_items (cells_good head.1 h.1) (end_good 2)))

heads_good : (heads : List (ℤ × List (Cell ℕ))) → AllByRecursion HeadFits heads → IsGood 4 (heads_data number_parts heads)
unfolding heads_data
heads_good heads h = list_good (λ p. head_data number_parts p.0 p.1) HeadFits 3 head_good heads h

module _ (net : Network) where
  places_good : (ps : List Place) → AllByRecursion (IsOwnPlace net) ps → IsGood 1 (places_data net ps)
  unfolding places_data
  places_good ps h = list_good (place_data net) (IsOwnPlace net) 0 (λ p own. text_good 0 (text_back (place_data net p))) ps h

  owner_good : (owner : Option NodeId) → IsGood 2 (owner_data net owner)
  unfolding owner_data
  owner_good None = null_good 2
  owner_good (Some node) = text_good 2 (node_name net node)

  meta_good : (meta : Option NodeId × NameId × List (Cell ℕ)) → MetaFits net meta → IsGood 3 (meta_data number_parts net meta.0 meta.1 meta.2)
  unfolding meta_data
  meta_good meta h =
      array_good 2 _ (item_good 2 (owner_data net meta.0) _ (owner_good meta.0)
      (item_good 2 _ _ (text_good 2 (meta_name net meta.1))
      (item_good 2 (cells_data number_parts meta.2) no_items (cells_good meta.2 h.2) (end_good 2))))

  metas_good : (metas : List (Option NodeId × NameId × List (Cell ℕ))) → AllByRecursion (MetaFits net) metas → IsGood 4 (metas_data number_parts net metas)
  unfolding metas_data
  metas_good metas h = list_good (λ p. meta_data number_parts net p.0 p.1 p.2) (MetaFits net) 3 meta_good metas h

  tag_good : (tag : TagId × ℤ) → TagFits net tag → IsGood 1 (tag_data net tag)
  tag_good tag h =
      array_good 0 _ (item_good 0 _ _ (text_good 0 (tag_name net tag.0)) (item_good 0 (address_data tag.1) no_items (address_good 0 tag.1 h.1) (end_good 0)))

  tags_good : (tags : List (TagId × ℤ)) → AllByRecursion (TagFits net) tags → IsGood 2 (tags_data net tags)
  unfolding tags_data
  tags_good tags h = list_good (tag_data net) (TagFits net) 1 tag_good tags h

  fields_good : (f : Fields ℕ) → FieldsFit net f → IsGood 5 (fields_data number_parts net f)
  unfolding fields_data
  fields_good f h =
      object_good 4 _ refl (
        heads_good f.heads h.heads,
        (
          metas_good f.metas h.metas,
          (deeper 2 4 (tags_data net f.tags) (omega arith) (tags_good f.tags h.tags), tt),
        ),
      )

  walk_good : (w : Trail) → WalkFits net w → IsGood 6 (walk_data net w)
  unfolding walk_data
  walk_good w h =
      object_good 5 _ refl (
        deeper 1 5 (decisions_data w.decisions) (omega arith) (decisions_good w.decisions h.decisions),
        (
          deeper 1 5 (end_data w.end') (omega arith) (ended_good w.end' h.ended),
          (
            fields_good (fields_of w.state) h.fields,
            (deeper 1 5 (places_data net w.places) (omega arith) (places_good w.places h.places), tt),
          ),
        ),
      )

  walks_good : (ws : List Trail) → AllByRecursion (WalkFits net) ws → IsGood 8 (walks_data net ws)
  unfolding walks_data walk_list
  walks_good ws h = object_good 7 _ refl (one_good 7, (list_good (walk_data net) (WalkFits net) 6 walk_good ws h, tt))

  pub walks_same : ReadsLines → FindsPlaces → (a b : List Trail) → AllByRecursion (WalkFits net) a → AllByRecursion (WalkFits net) b
      → walks_text net a ≡ walks_text net b → map walk_told a ≡ map walk_told b
  unfolding walks_text
  walks_same lines finds a b h k same =
      same_told (walks_data net) (walks_back net) (map walk_told) (AllByRecursion (WalkFits net)) 8 (omega arith) walks_good (walks_is net finds) lines a b h k same
