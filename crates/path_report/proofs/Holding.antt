-- From the form of an object to its members.
use Rattle.std.proofs.Common.{◌≡◌, ◌≤◌, ℕ, List, [], ◌∷◌, Bool, true, false, Option, Some, None, refl, sym, ap, ◌∙◌, subst, arith, String, Global, BTreeMap}
use Rattle.std.specs.Prelude.{◌&&◌, codes, Ok, Err, if◌then◌else◌, nat_le}
use Rattle.std.specs.List.{AllByRecursion}
use Rattle.std.specs.Option.{option_or}
use Rattle.std.specs.Str.{bytes_eq}
use Rattle.std.proofs.lemmas.Bool.Decides.{nat_tests}
use Rattle.std.proofs.lemmas.Slice.Eq.{bytes_eq-Decides}
use Rattle.serde_json.specs.Data.{number, unsigned, string, object, Members, no_members, member}
use Rattle.serde_json.specs.Find.{get_member}
use Rattle.serde_json.specs.View.{view, members_view}
use Rattle.serde_json.specs.declared.value.Value.{Value, Object}
use Rattle.serde_json.proofs.Views.{view-Object}
use Rattle.net_check.specs.Network.{Network}
use Rattle.report_shape.specs.declared.part.Part.{Part}
use Rattle.report_shape.specs.declared.part.Part.TheVariants as part
use Rattle.report_shape.specs.Forms.{Field}
use Rattle.report_shape.specs.Shape.{path_fields, pruned_fields, unexplored_fields, fault_fields, message_fields, carried_fields, counted_fields, outside_fields}
use Rattle.report_shape.specs.Faults.{fault, members_fault, keys_are, part_of, under, picked, if_keys}
use Rattle.report_names.specs.Names.{knows}
use Rattle.path_report.specs.Having.{HasForm, Holds}

pub both : (a b : Bool) → a && b ≡ true → (a ≡ true) × (b ≡ true)
both true b h = (refl, h)
both false b h = cc

pub neither : (a b : Option (List ℕ)) → option_or a b ≡ None → (a ≡ None) × (b ≡ None)
neither None b h = (refl, h)
neither (Some x) b h = cc

pub none_under : (step : List ℕ) (a : Option (List ℕ)) → under step a ≡ None → a ≡ None
none_under step None h = refl
none_under step (Some x) h = cc

module _ (net : Network) where
  holds : (all fs : List Field) (ms : Members) → AllByRecursion (λ (f : Field). part_of all f.0 ≡ f.1) fs → keys_are fs ms ≡ true → members_fault (knows net) all ms ≡ None → Holds net fs ms
  holds all [] no_members parts keys none = refl
  holds all [] (member k d ms) parts keys none = cc
  holds all (f ∷ fs) no_members parts keys none = cc
  holds all (f ∷ fs) (member k d ms) parts keys none =
      let k1 = both (bytes_eq f.0 k) (keys_are fs ms) keys in
      let n1 = neither (under k (fault (knows net) (part_of all k) d)) (members_fault (knows net) all ms) none in
      let same : f.0 ≡ k = (bytes_eq-Decides f.0 k).0 k1.0 in
      let mine : part_of all k ≡ f.1 = ap (part_of all) (sym same) ∙ parts.0 in record {
        value = d;
        rest = ms;
        is = ap (λ l. member l d ms) (sym same);
        form = subst (λ p. HasForm net p d) mine (none_under k (fault (knows net) (part_of all k) d) n1.0);
        next = holds all fs ms parts.1 k1.1 n1.1;
      }

  pub chosen_by : (fs : List Field) (ms : Members) (b : Bool) → keys_are fs ms ≡ b → AllByRecursion (λ (f : Field). part_of fs f.0 ≡ f.1) fs →
      picked (if b then Ok fs else Err None) (λ gs. members_fault (knows net) gs ms) ≡ None → Holds net fs ms
  chosen_by fs ms true keys parts none = holds fs fs ms parts keys none
  chosen_by fs ms false keys parts none = cc

  -- an object whose form is these fields has them
  pub chosen : (fs : List Field) (ms : Members) → AllByRecursion (λ (f : Field). part_of fs f.0 ≡ f.1) fs →
      picked (if_keys fs ms) (λ gs. members_fault (knows net) gs ms) ≡ None → Holds net fs ms
  chosen fs ms parts none = chosen_by fs ms (keys_are fs ms) refl parts none

  pub carried_held : (ms : Members) → HasForm net part.Fields (object ms) → Holds net carried_fields ms
  carried_held ms h = chosen carried_fields ms (refl, (refl, (refl, tt))) h

  pub path_held : (ms : Members) → HasForm net part.Record (object ms) → get_member (codes "kind") ms ≡ Some (string (codes "path")) → Holds net path_fields ms
  path_held ms h e = chosen path_fields ms (refl, (refl, (refl, (refl, (refl, (refl, tt)))))) (rw e at h)

  pub pruned_held : (ms : Members) → HasForm net part.Record (object ms) → get_member (codes "kind") ms ≡ Some (string (codes "pruned")) → Holds net pruned_fields ms
  pruned_held ms h e = chosen pruned_fields ms (refl, (refl, (refl, (refl, tt)))) (rw e at h)

  pub unexplored_held : (ms : Members) → HasForm net part.Record (object ms) → get_member (codes "kind") ms ≡ Some (string (codes "unexplored")) → Holds net unexplored_fields ms
  unexplored_held ms h e = chosen unexplored_fields ms (refl, (refl, tt)) (rw e at h)

  pub cases_held : (ms : Members) → HasForm net part.Cause (object ms) → get_member (codes "cause") ms ≡ Some (string (codes "cases")) → Holds net counted_fields ms
  cases_held ms h e = chosen counted_fields ms (refl, (refl, tt)) (rw e at h)

  pub coupled_held : (ms : Members) → HasForm net part.Cause (object ms) → get_member (codes "cause") ms ≡ Some (string (codes "coupled")) → Holds net counted_fields ms
  coupled_held ms h e = chosen counted_fields ms (refl, (refl, tt)) (rw e at h)

  pub outside_held : (ms : Members) → HasForm net part.Cause (object ms) → get_member (codes "cause") ms ≡ Some (string (codes "outside")) → Holds net outside_fields ms
  outside_held ms h e = chosen outside_fields ms (refl, (refl, (refl, tt))) (rw e at h)

  pub message_held : (ms : Members) → HasForm net part.End (object ms) → get_member (codes "fault") ms ≡ Some (number (unsigned 9)) → Holds net message_fields ms
  message_held ms h e = chosen message_fields ms (refl, (refl, (refl, tt))) (rw e at h)

  pub fault_held : (ms : Members) (n : ℕ) → HasForm net part.End (object ms) → get_member (codes "fault") ms ≡ Some (number (unsigned n)) → 1 ≤ n → n ≤ 8 → Holds net fault_fields ms
  fault_held ms n h e low high =
      let first : nat_le 1 n ≡ true = grind (arith, nat_tests) in
      let second : nat_le n 8 ≡ true = grind (arith, nat_tests) in
      chosen fault_fields ms (refl, (refl, tt)) (rw (e, first, second) at h)

-- the form of a value that is an object
pub object_form : (net : Network) (p : Part) (v : Value) (m : BTreeMap (String Global) Value) → v ≡ Object m → HasForm net p (view v) → HasForm net p (object (members_view m.entries))
object_form net p v m is h = subst (HasForm net p) (ap view is ∙ view-Object m) h
