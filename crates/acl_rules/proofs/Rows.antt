-- The loops over the pairs of two lists, where covers are added.
use Rattle.std.proofs.Common.{◌≡◌, ◌∙◌, refl, sym, ap, subst, ℕ, ◌+◌, ◌≤◌, true, List, [], ◌∷◌, ◌++◌, length, map, arith}
use Rattle.std.specs.Prelude.{slice_get}
use Rattle.std.specs.List.{list_all}
use Rattle.std.proofs.lemmas.List.{map-append}
use Rattle.acl_rules.specs.Comparing.{AreSettled, Joint, is_covered, joint_seen, settled_at}
use Rattle.acl_rules.specs.Pairs.{Grows, IsRowSettled}
use Rattle.acl_rules.specs.declared.joint.JointCover.{JointCover}
use Rattle.acl_rules.specs.declared.rule.Rule.{Rule}
use Rattle.acl_rules.proofs.Growing as growing
use Rattle.acl_rules.proofs.Growing.{RowsTo, SettledTo}

-- covers were added to the first ones, and the pairs of the row so far are settled
pub record RowTo (left right : List Rule) (first now : List JointCover) (row column : ℕ) : Type 0 where
  pub grown : Grows left right (map joint_seen first) (map joint_seen now)
  pub settled : SettledTo left right (map joint_seen now) row column

-- the rows so far are settled, by covers
pub record RowsSettled (left right : List Rule) (now : List JointCover) (row : ℕ) : Type 0 where
  pub covered : list_all (is_covered left right) (map joint_seen now) ≡ true
  pub rows : RowsTo left right (map joint_seen now) row

module _ (left right : List Rule) where
  pub row_begun : (joints : List JointCover) (row : ℕ) → RowTo left right joints joints row 0
  row_begun joints row = record { grown = growing.stays left right (map joint_seen joints); settled = λ j lt. absurd (omega (arith, lt)) }

  pub row_same : (first now : List JointCover) (row column : ℕ) → RowTo left right first now row column
      → settled_at left right (map joint_seen now) row column (slice_get left row) (slice_get right column) ≡ true → RowTo left right first now row (column + 1)
  row_same first now row column h here = record {
    grown = h.grown;
    settled = growing.one_more left right (map joint_seen now) row column h.settled here;
  }

  seen_more : (old new : List JointCover) (joint : JointCover) → new ≡ old ++ joint ∷ [] → map joint_seen new ≡ map joint_seen old ++ joint_seen joint ∷ []
  seen_more old new joint is = ap (map joint_seen) is ∙ map-append joint_seen old (joint ∷ [])

  pub row_covered : (first old new : List JointCover) (joint : JointCover) (row column : ℕ) → new ≡ old ++ joint ∷ [] → RowTo left right first old row column
      → is_covered left right (joint_seen joint) ≡ true
      → settled_at left right (joint_seen joint ∷ []) row column (slice_get left row) (slice_get right column) ≡ true
      → RowTo left right first new row (column + 1)
  row_covered first old new joint row column is h covered here =
      let more = sym (seen_more old new joint is) in
      let grows = growing.added left right (map joint_seen old) (joint_seen joint) covered in
      let all = map joint_seen old ++ joint_seen joint ∷ [] in
      record {
        grown = subst (Grows left right (map joint_seen first)) more (growing.goes_on left right (map joint_seen first) (map joint_seen old) all h.grown grows);
        settled = subst (λ (js : List Joint). SettledTo left right js row (column + 1)) more
            (growing.one_more left right all row column (growing.kept_to left right (map joint_seen old) all row column grows h.settled)
            (growing.by_last left right (map joint_seen old) (joint_seen joint) row column (slice_get left row) (slice_get right column) here));
      }

  pub row_ended : (first now : List JointCover) (row column : ℕ) → length right ≤ column → RowTo left right first now row column
      → Grows left right (map joint_seen first) (map joint_seen now) × IsRowSettled left right (map joint_seen now) row
  row_ended first now row column most h = (h.grown, growing.whole_row left right (map joint_seen now) row column most h.settled)

  pub rows_begun : (joints : List JointCover) → joints ≡ [] → RowsSettled left right joints 0
  rows_begun joints none =
      subst (λ (js : List JointCover). RowsSettled left right js 0) (sym none) (record { covered = refl; rows = λ i lt. absurd (omega (arith, lt)) })

  pub rows_on : (old new : List JointCover) (row : ℕ) → RowsSettled left right old row
      → Grows left right (map joint_seen old) (map joint_seen new) × IsRowSettled left right (map joint_seen new) row → RowsSettled left right new (row + 1)
  rows_on old new row h more = record {
    covered = more.0.covered h.covered;
    rows = growing.row_more left right (map joint_seen new) row (growing.rows_kept left right (map joint_seen old) (map joint_seen new) row more.0 h.rows) more.1;
  }

  pub rows_ended : (joints : List JointCover) (row : ℕ) → length left ≤ row → RowsSettled left right joints row → AreSettled left right (map joint_seen joints)
  rows_ended joints row most h = growing.all_rows left right (map joint_seen joints) row most h.covered h.rows
