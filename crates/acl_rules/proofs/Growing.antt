-- What was settled stays so while covers are added.
use Rattle.std.proofs.Common.{◌≡◌, ◌∙◌, refl, ap, ap₂, subst, ℕ, ◌+◌, ◌<◌, ◌≤◌, ◌⊎◌, Bool, true, false, not, ◌&&◌, ◌||◌, List, [], ◌∷◌, ◌++◌, length, Option, None, Some, arith, inl, inr}
use Rattle.std.specs.Prelude.{slice_get}
use Rattle.std.specs.List.{list_all, list_any}
use Rattle.std.proofs.lemmas.List.Folds.{list_all-append, list_any-append}
use Rattle.std.proofs.lemmas.Option.{slice_get_past}
use Rattle.std.proofs.lemmas.Bool.{cases_lt}
use Rattle.acl_rules.specs.Packets.{Range, meets}
use Rattle.acl_rules.specs.Covers.{covers}
use Rattle.acl_rules.specs.Comparing.{AreSettled, Joint, before, common, has, is_alike, is_covered, is_settled, one_has, settled_at}
use Rattle.acl_rules.specs.Pairs.{Grows, IsJointOf, IsRowSettled, is_had}
use Rattle.acl_rules.specs.declared.rule.Rule.{Rule}

pub or_left : (a b : Bool) → a ≡ true → (a || b) ≡ true
or_left a b h = ap (λ x. x || b) h

pub or_right : (a b : Bool) → b ≡ true → (a || b) ≡ true
or_right true b h = refl
or_right false b h = h

last_of_four : (a b c d e : Bool) → (a || (b || (c || d))) ≡ true → (d ≡ true → e ≡ true) → (a || (b || (c || e))) ≡ true
last_of_four true b c d e h next = refl
last_of_four false true c d e h next = refl
last_of_four false false true d e h next = refl
last_of_four false false false d e h next = next h

both_true : (a b : Bool) → a ≡ true → b ≡ true → (a && b) ≡ true
both_true a b h k = ap₂ ◌&&◌ h k

module _ (left right : List Rule) where
  pub stays : (joints : List Joint) → Grows left right joints joints
  stays joints = record { keeps = λ test h. h; covered = λ h. h }

  pub goes_on : (one other last : List Joint) → Grows left right one other → Grows left right other last → Grows left right one last
  goes_on one other last g k = record { keeps = λ test h. k.keeps test (g.keeps test h); covered = λ h. k.covered (g.covered h) }

  pub added : (old : List Joint) (joint : Joint) → is_covered left right joint ≡ true → Grows left right old (old ++ joint ∷ [])
  added old joint covered = record {
    keeps = λ test h. list_any-append test old (joint ∷ []) ∙ or_left (list_any test old) (list_any test (joint ∷ [])) h;
    covered = λ h. list_all-append (is_covered left right) old (joint ∷ [])
        ∙ both_true (list_all (is_covered left right) old) (list_all (is_covered left right) (joint ∷ [])) h
        (both_true (is_covered left right joint) true covered refl);
  }

  -- covers that settle two rules, among others
  pub kept_settled : (old new : List Joint) (i j : ℕ) (l r : Option Rule) → ((test : Joint → Bool) → list_any test old ≡ true → list_any test new ≡ true)
      → settled_at left right old i j l r ≡ true → settled_at left right new i j l r ≡ true
  kept_settled old new i j None r keeps h = refl
  kept_settled old new i j (Some l) None keeps h = refl
  kept_settled old new i j (Some l) (Some r) keeps h =
      let box = common l.ranges r.ranges in
      last_of_four (is_alike l.permits r.permits) (not (meets l.ranges r.ranges)) (one_has left right i j box)
      (list_any (has i j box) old) (list_any (has i j box) new) h (keeps (has i j box))

  pub by_last : (old : List Joint) (joint : Joint) (i j : ℕ) (l r : Option Rule) → settled_at left right (joint ∷ []) i j l r ≡ true
      → settled_at left right (old ++ joint ∷ []) i j l r ≡ true
  by_last old joint i j l r h =
      kept_settled (joint ∷ []) (old ++ joint ∷ []) i j l r
      (λ test k. list_any-append test old (joint ∷ []) ∙ or_right (list_any test old) (list_any test (joint ∷ [])) k) h

  -- a pair past the end
  pub past : (joints : List Joint) (i j : ℕ) (l r : Option Rule) → r ≡ None → settled_at left right joints i j l r ≡ true
  past joints i j None r none = refl
  past joints i j (Some l) None none = refl
  past joints i j (Some l) (Some r) none = cc

  abbrev pub SettledTo : List Joint → ℕ → ℕ → Type 0
  SettledTo joints i column = (j : ℕ) → j < column → settled_at left right joints i j (slice_get left i) (slice_get right j) ≡ true

  abbrev pub RowsTo : List Joint → ℕ → Type 0
  RowsTo joints row = (i : ℕ) → i < row → IsRowSettled left right joints i

  to_here : (j column : ℕ) (P : ℕ → Type 0) → j < column + 1 → (j < column → P j) → P column → P j
  to_here j column P lt earlier here = by (cases_lt j column)
    where
      by : (j < column) ⊎ (column ≤ j) → P j
      by (inl less) = earlier less
      by (inr most) = subst P (let same : column ≡ j = omega arith in same) here

  pub one_more : (joints : List Joint) (i column : ℕ) → SettledTo joints i column → settled_at left right joints i column (slice_get left i) (slice_get right column) ≡ true
      → SettledTo joints i (column + 1)
  one_more joints i column earlier here j lt = to_here j column (λ j. settled_at left right joints i j (slice_get left i) (slice_get right j) ≡ true) lt (earlier j) here

  pub kept_to : (old new : List Joint) (i column : ℕ) → Grows left right old new → SettledTo old i column → SettledTo new i column
  kept_to old new i column g earlier j lt = kept_settled old new i j (slice_get left i) (slice_get right j) g.keeps (earlier j lt)

  pub whole_row : (joints : List Joint) (i column : ℕ) → length right ≤ column → SettledTo joints i column → IsRowSettled left right joints i
  whole_row joints i column all earlier j = by (cases_lt j column)
    where
      by : (j < column) ⊎ (column ≤ j) → settled_at left right joints i j (slice_get left i) (slice_get right j) ≡ true
      by (inl less) = earlier j less
      by (inr past_it) = past joints i j (slice_get left i) (slice_get right j) (slice_get_past right j (omega arith))

  pub row_more : (joints : List Joint) (row : ℕ) → RowsTo joints row → IsRowSettled left right joints row → RowsTo joints (row + 1)
  row_more joints row earlier here i lt = to_here i row (IsRowSettled left right joints) lt (earlier i) here

  pub rows_kept : (old new : List Joint) (row : ℕ) → Grows left right old new → RowsTo old row → RowsTo new row
  rows_kept old new row g earlier i lt j = kept_settled old new i j (slice_get left i) (slice_get right j) g.keeps (earlier i lt j)

  no_row : (joints : List Joint) (i j : ℕ) (l r : Option Rule) → l ≡ None → settled_at left right joints i j l r ≡ true
  no_row joints i j None r none = refl
  no_row joints i j (Some l) r none = cc

  pub all_rows : (joints : List Joint) (row : ℕ) → length left ≤ row → list_all (is_covered left right) joints ≡ true → RowsTo joints row → AreSettled left right joints
  all_rows joints row all covered earlier = record { covered = covered; pairs = λ i j. by i j (cases_lt i row) }
    where
      by : (i j : ℕ) → (i < row) ⊎ (row ≤ i) → settled_at left right joints i j (slice_get left i) (slice_get right j) ≡ true
      by i j (inl less) = earlier i less j
      by i j (inr past_it) = no_row joints i j (slice_get left i) (slice_get right j) (slice_get_past left i (omega arith))

  -- a cover by the rules before a pair
  pub joint_of : (i j : ℕ) (box : List Range) (joint : Joint) → IsJointOf (before left right i j) i j box joint → is_covered left right joint ≡ true
  joint_of i j box joint h = ap₂ (λ a b. covers (before left right a b) (joint.part ∷ []) joint.steps) h.left h.right ∙ h.covered

  pub settled_had : (joints : List Joint) (i j : ℕ) (l r : Rule) → is_had left right joints i j (common l.ranges r.ranges) ≡ true → is_settled left right joints i j l r ≡ true
  settled_had joints i j l r h =
      or_right (is_alike l.permits r.permits) (not (meets l.ranges r.ranges) || is_had left right joints i j (common l.ranges r.ranges))
      (or_right (not (meets l.ranges r.ranges)) (is_had left right joints i j (common l.ranges r.ranges)) h)

  pub settled_by : (i j : ℕ) (l r : Rule) (joint : Joint) → has i j (common l.ranges r.ranges) joint ≡ true → is_settled left right (joint ∷ []) i j l r ≡ true
  settled_by i j l r joint h =
      settled_had (joint ∷ []) i j l r
      (or_right (one_has left right i j (common l.ranges r.ranges)) (list_any (has i j (common l.ranges r.ranges)) (joint ∷ []))
      (or_left (has i j (common l.ranges r.ranges) joint) false h))
