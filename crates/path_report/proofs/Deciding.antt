-- What decides the form of an object or a list is there, and is one of the words or numbers of a form.
use Rattle.std.proofs.Common.{◌≡◌, ◌≤◌, ◌⊎◌, inl, inr, ℕ, suc, List, [], ◌∷◌, Bool, true, false, Option, Some, None, refl, sym, ap, ◌∙◌, subst, arith, String, Global, string_bytes}
use Rattle.std.specs.Prelude.{◌&&◌, ◌||◌, codes, Result, Ok, Err, if◌then◌else◌, nat_le, option_and_then}
use Rattle.std.specs.Str.{bytes_eq}
use Rattle.std.proofs.lemmas.Bool.Decides.{nat_tests}
use Rattle.std.proofs.lemmas.Slice.Eq.{bytes_eq-Decides}
use Rattle.serde_json.specs.Data.{Data, null, boolean, number, unsigned, negative, float, string, array, object, Items, no_items, item, Members, member}
use Rattle.serde_json.specs.Events.{items_len}
use Rattle.serde_json.specs.Find.{as_number, as_str, as_u64, at, get_member}
use Rattle.serde_json.specs.View.{view}
use Rattle.serde_json.specs.declared.value.Value.{Value}
use Rattle.serde_json.specs.declared.value.Value.{String as Text}
use Rattle.net_check.specs.Network.{Network}
use Rattle.report_shape.specs.declared.part.Part.{Part}
use Rattle.report_shape.specs.declared.part.Part.TheVariants as part
use Rattle.report_shape.specs.Forms.{Field}
use Rattle.report_shape.specs.Forms.{words}
use Rattle.report_shape.specs.Shape.{form, sat_fields, undecided_fields, path_fields, pruned_fields, unexplored_fields, counted_fields, outside_fields, fault_fields, message_fields}
use Rattle.report_shape.specs.Faults.{items_fault, members_fault, keys_are, with_keys, if_keys, for_word, for_number, by_member, decided_by, row_named, row_by_head, fits_row, list_parts, picked, is_one_of}
use Rattle.report_names.specs.Names.{knows}
use Rattle.path_report.specs.Having.{HasForm, Holds}
use Rattle.path_report.proofs.Holding.{both, neither, chosen_by, fault_held}
use Rattle.path_report.proofs.Lists.{view_text}
use Rattle.path_report.proofs.Atoms.{text_is}
use Rattle.path_report.proofs.Rows.{unless_true}

abbrev Picked : Type 0
Picked = Result (List Field) (Option (List ℕ))

-- ---- objects by a word

-- the text is one of the words
abbrev pub IsAmong : List ℕ → List (List ℕ) → Type 0
IsAmong s [] = ⊥
IsAmong s (w ∷ ws) = (w ≡ s) ⊎ IsAmong s ws

abbrev words_of : List (List ℕ × List Field) → List (List ℕ)
words_of [] = []
words_of (c ∷ cs) = c.0 ∷ words_of cs

-- the member of the key is one of the words
pub record IsWord (key : List ℕ) (ws : List (List ℕ)) (ms : Members) : Type 0 where
  pub text : List ℕ
  pub is : get_member key ms ≡ Some (string text)
  pub among : IsAmong text ws

module _ (net : Network) (key : List ℕ) (ms : Members) where
  among_by : (c : List ℕ × List Field) (cs : List (List ℕ × List Field)) (s : List ℕ) (b : Bool) → bytes_eq c.0 s ≡ b →
      (picked (for_word key cs s ms) (λ fs. members_fault (knows net) fs ms) ≡ None → IsAmong s (words_of cs)) →
      picked (if b then if_keys c.1 ms else for_word key cs s ms) (λ fs. members_fault (knows net) fs ms) ≡ None → IsAmong s (words_of (c ∷ cs))
  among_by c cs s true e next h = inl ((bytes_eq-Decides c.0 s).0 e)
  among_by c cs s false e next h = inr (next h)

  among : (cs : List (List ℕ × List Field)) (s : List ℕ) → picked (for_word key cs s ms) (λ fs. members_fault (knows net) fs ms) ≡ None → IsAmong s (words_of cs)
  among [] s h = cc
  among (c ∷ cs) s h = among_by c cs s (bytes_eq c.0 s) refl (among cs s) h

  spelt : (cs : List (List ℕ × List Field)) (d : Data) → get_member key ms ≡ Some d →
      picked (decided_by key (as_str d) (λ s. for_word key cs s ms)) (λ fs. members_fault (knows net) fs ms) ≡ None → IsWord key (words_of cs) ms
  spelt cs null e h = cc
  spelt cs (boolean b) e h = cc
  spelt cs (number n) e h = cc
  spelt cs (string s) e h = record { text = s; is = e; among = among cs s h }
  spelt cs (array ds) e h = cc
  spelt cs (object os) e h = cc

  worded : (cs : List (List ℕ × List Field)) (o : Option Data) → get_member key ms ≡ o →
      picked (by_member key o as_str (λ s. for_word key cs s ms)) (λ fs. members_fault (knows net) fs ms) ≡ None → IsWord key (words_of cs) ms
  worded cs None e h = cc
  worded cs (Some d) e h = spelt cs d e h

module _ (net : Network) where
  pub kind_word : (ms : Members) → HasForm net part.Record (object ms) → IsWord (codes "kind") (codes "path" ∷ codes "pruned" ∷ codes "unexplored" ∷ []) ms
  kind_word ms h =
      worded net (codes "kind") ms ((codes "path", path_fields) ∷ (codes "pruned", pruned_fields) ∷ (codes "unexplored", unexplored_fields) ∷ [])
      (get_member (codes "kind") ms) refl h

  pub cause_word : (ms : Members) → HasForm net part.Cause (object ms) → IsWord (codes "cause") (codes "cases" ∷ codes "coupled" ∷ codes "outside" ∷ []) ms
  cause_word ms h =
      worded net (codes "cause") ms ((codes "cases", counted_fields) ∷ (codes "coupled", counted_fields) ∷ (codes "outside", outside_fields) ∷ [])
      (get_member (codes "cause") ms) refl h

-- ---- ends by the number of their fault

pub record IsFault (ms : Members) : Type 0 where
  pub n : ℕ
  pub is : get_member (codes "fault") ms ≡ Some (number (unsigned n))
  pub low : 1 ≤ n
  pub high : n ≤ 9

in_range : (a b n : ℕ) → nat_le a n && nat_le n b ≡ true → (a ≤ n) × (n ≤ b)
in_range a b n h =
    let two = both (nat_le a n) (nat_le n b) h in
    let first = two.0 in
    let second = two.1 in
    let low : a ≤ n = grind (arith, nat_tests) in
    let high : n ≤ b = grind (arith, nat_tests) in
    (low, high)

module _ (net : Network) (ms : Members) where
  ninth_by : (n : ℕ) (b : Bool) → nat_le 9 n && nat_le n 9 ≡ b →
      picked (if b then if_keys message_fields ms else for_number (codes "fault") [] n ms) (λ fs. members_fault (knows net) fs ms) ≡ None → (1 ≤ n) × (n ≤ 9)
  ninth_by n true e h = let r = in_range 9 9 n e in (omega (arith, r.0), r.1)
  ninth_by n false e h = cc

  eighth_by : (n : ℕ) (b : Bool) → nat_le 1 n && nat_le n 8 ≡ b →
      picked (if b then if_keys fault_fields ms else for_number (codes "fault") ((9, 9, message_fields) ∷ []) n ms) (λ fs. members_fault (knows net) fs ms) ≡ None → (1 ≤ n) × (n ≤ 9)
  eighth_by n true e h = let r = in_range 1 8 n e in (r.0, omega (arith, r.1))
  eighth_by n false e h = ninth_by n (nat_le 9 n && nat_le n 9) refl h

  faulted : (d : Data) → get_member (codes "fault") ms ≡ Some d →
      picked (decided_by (codes "fault") (option_and_then as_u64 (as_number d)) (λ n. for_number (codes "fault") ((1, 8, fault_fields) ∷ (9, 9, message_fields) ∷ []) n ms)) (λ fs. members_fault (knows net) fs ms) ≡ None →
      IsFault ms
  faulted null e h = cc
  faulted (boolean b) e h = cc
  faulted (number (unsigned n)) e h = let r = eighth_by n (nat_le 1 n && nat_le n 8) refl h in record { n = n; is = e; low = r.0; high = r.1 }
  faulted (number (negative z)) e h = cc
  faulted (number (float x)) e h = cc
  faulted (string s) e h = cc
  faulted (array ds) e h = cc
  faulted (object os) e h = cc

  fault_by : (o : Option Data) → get_member (codes "fault") ms ≡ o →
      picked (by_member (codes "fault") o (λ d. option_and_then as_u64 (as_number d)) (λ n. for_number (codes "fault") ((1, 8, fault_fields) ∷ (9, 9, message_fields) ∷ []) n ms)) (λ fs. members_fault (knows net) fs ms) ≡ None →
      IsFault ms
  fault_by None e h = cc
  fault_by (Some d) e h = faulted d e h

  pub fault_number_form : HasForm net part.End (object ms) → IsFault ms
  fault_number_form h = fault_by (get_member (codes "fault") ms) refl h

  -- ---- verdicts by their key

  verdict_second : (b : Bool) → keys_are undecided_fields ms ≡ b → picked (let r : Picked = if b then Ok undecided_fields else Err None in r) (λ fs. members_fault (knows net) fs ms) ≡ None → Holds net undecided_fields ms
  verdict_second b e h = chosen_by net undecided_fields ms b e (refl, tt) h

  verdict_by : (b : Bool) → keys_are sat_fields ms ≡ b → picked (if b then Ok sat_fields else with_keys (undecided_fields ∷ []) ms) (λ fs. members_fault (knows net) fs ms) ≡ None →
      Holds net sat_fields ms ⊎ Holds net undecided_fields ms
  verdict_by true e h = inl (chosen_by net sat_fields ms true e (refl, tt) h)
  verdict_by false e h = inr (verdict_second (keys_are undecided_fields ms) refl h)

  pub verdict_held : HasForm net part.Verdict (object ms) → Holds net sat_fields ms ⊎ Holds net undecided_fields ms
  verdict_held h = verdict_by (keys_are sat_fields ms) refl h

  pub undecided_has_no_sat : Holds net undecided_fields ms → get_member (codes "sat") ms ≡ None
  undecided_has_no_sat l = ap (get_member (codes "sat")) (l.is ∙ ap (member (codes "undecided") l.value) l.next)

  sat_has : (l : Holds net sat_fields ms) → get_member (codes "sat") ms ≡ Some l.value
  sat_has l = ap (get_member (codes "sat")) l.is

  sat_by : (d : Data) → Some d ≡ get_member (codes "sat") ms → Holds net sat_fields ms ⊎ Holds net undecided_fields ms → Holds net sat_fields ms
  sat_by d e (inl l) = l
  sat_by d e (inr l) = let none = undecided_has_no_sat l in cc

  pub sat_of : HasForm net part.Verdict (object ms) → (d : Data) → Some d ≡ get_member (codes "sat") ms → Holds net sat_fields ms
  sat_of h d e = sat_by d e (verdict_held h)

  undecided_by : None ≡ get_member (codes "sat") ms → Holds net sat_fields ms ⊎ Holds net undecided_fields ms → Holds net undecided_fields ms
  undecided_by e (inl l) = let some = sat_has l in cc
  undecided_by e (inr l) = l

  pub undecided_of : HasForm net part.Verdict (object ms) → None ≡ get_member (codes "sat") ms → Holds net undecided_fields ms
  undecided_of h e = undecided_by e (verdict_held h)

-- ---- steps of a refutation by their first word

-- the first item is one of these words
pub record IsHeaded (ws : List (List ℕ)) (d : Data) : Type 0 where
  pub text : List ℕ
  pub is : at 0 d ≡ Some (string text)
  pub among : IsAmong text ws

abbrev heads_of : List (List ℕ × ℕ × List Part) → List (List ℕ)
heads_of [] = []
heads_of (h ∷ hs) = h.0 ∷ heads_of hs

module _ (net : Network) where
  step_by : (h : List ℕ × ℕ × List Part) (hs : List (List ℕ × ℕ × List Part)) (s : List ℕ) (count : ℕ) (ds : Items) (b : Bool) → bytes_eq h.0 s ≡ b →
      (picked (row_named hs s count) (λ parts. items_fault (knows net) parts 0 ds) ≡ None → IsAmong s (heads_of hs)) →
      picked (if b then fits_row h.1 h.2 count else row_named hs s count) (λ parts. items_fault (knows net) parts 0 ds) ≡ None → IsAmong s (heads_of (h ∷ hs))
  step_by h hs s count ds true e next k = inl ((bytes_eq-Decides h.0 s).0 e)
  step_by h hs s count ds false e next k = inr (next k)

  step_among : (hs : List (List ℕ × ℕ × List Part)) (s : List ℕ) (count : ℕ) (ds : Items) → picked (row_named hs s count) (λ parts. items_fault (knows net) parts 0 ds) ≡ None → IsAmong s (heads_of hs)
  step_among [] s count ds k = cc
  step_among (h ∷ hs) s count ds k = step_by h hs s count ds (bytes_eq h.0 s) refl (step_among hs s count ds) k

  headed_by : (hs : List (List ℕ × ℕ × List Part)) (d : Data) (ds : Items) → picked (row_by_head hs (item d ds)) (λ parts. items_fault (knows net) parts 0 (item d ds)) ≡ None → IsHeaded (heads_of hs) (array (item d ds))
  headed_by hs null ds k = cc
  headed_by hs (boolean b) ds k = cc
  headed_by hs (number n) ds k = cc
  headed_by hs (string s) ds k = record { text = s; is = refl; among = step_among hs s (suc (items_len ds)) (item (string s) ds) k }
  headed_by hs (array es) ds k = cc
  headed_by hs (object ms) ds k = cc

  pub step_word : (d : Data) → HasForm net part.Step d → IsHeaded (codes "empty" ∷ codes "domain" ∷ codes "split" ∷ codes "cycle" ∷ []) d
  step_word null h = cc
  step_word (boolean b) h = cc
  step_word (number n) h = cc
  step_word (string s) h = cc
  step_word (array no_items) h = cc
  step_word (array (item d ds)) h =
      headed_by ((codes "empty", 3, part.Word ∷ part.Count ∷ part.Ids ∷ []) ∷ (codes "domain", 2, part.Word ∷ part.Count ∷ []) ∷ (codes "split", 2, part.Word ∷ part.Id ∷ part.Way ∷ []) ∷ (codes "cycle", 2, part.Word ∷ part.Ids ∷ []) ∷ [])
      d ds (neither (picked (list_parts (form part.Step).list (item d ds)) (λ parts. items_fault (knows net) parts 0 (item d ds))) None h).0
  step_word (object ms) h = cc

-- ---- texts that are words

one_by : (w s : List ℕ) (ws : List (List ℕ)) (b : Bool) → bytes_eq w s ≡ b → (is_one_of s ws ≡ true → IsAmong s ws) → b || is_one_of s ws ≡ true → IsAmong s (w ∷ ws)
one_by w s ws true e next h = inl ((bytes_eq-Decides w s).0 e)
one_by w s ws false e next h = inr (next h)

one_of : (s : List ℕ) (ws : List (List ℕ)) → is_one_of s ws ≡ true → IsAmong s ws
one_of s [] h = cc
one_of s (w ∷ ws) h = one_by w s ws (bytes_eq w s) refl (one_of s ws) h

module _ (net : Network) where
  pub decision_word : (s : List ℕ) → HasForm net part.Decision (string s) → IsAmong s (codes "then" ∷ codes "else" ∷ codes "pass" ∷ codes "broken" ∷ [])
  decision_word s h = one_of s (codes "then" ∷ codes "else" ∷ codes "pass" ∷ codes "broken" ∷ []) (unless_true (is_one_of s (codes "then" ∷ codes "else" ∷ codes "pass" ∷ codes "broken" ∷ [])) h)

  pub end_word : (s : List ℕ) → HasForm net part.End (string s) → IsAmong s (codes "stopped" ∷ codes "delivered" ∷ codes "cut" ∷ [])
  end_word s h = one_of s (codes "stopped" ∷ codes "delivered" ∷ codes "cut" ∷ []) (unless_true (is_one_of s (codes "stopped" ∷ codes "delivered" ∷ codes "cut" ∷ [])) h)

  pub state_word : (d : Data) → HasForm net part.State d → (s : List ℕ) × (d ≡ string s) × IsAmong s (codes "done" ∷ codes "partial" ∷ [])
  state_word d h =
      let t = text_is net part.State (words (codes "done" ∷ codes "partial" ∷ [])) refl d h in
      (t.0, t.1, one_of t.0 (codes "done" ∷ codes "partial" ∷ []) t.2)

-- ---- none of the words

no_three : (a b c s : List ℕ) → IsAmong s (a ∷ b ∷ c ∷ []) → (s ≡ a → ⊥) → (s ≡ b → ⊥) → (s ≡ c → ⊥) → ⊥
no_three a b c s (inl h) x y z = x (sym h)
no_three a b c s (inr (inl h)) x y z = y (sym h)
no_three a b c s (inr (inr (inl h))) x y z = z (sym h)
no_three a b c s (inr (inr (inr h))) x y z = h

no_four : (a b c d s : List ℕ) → IsAmong s (a ∷ b ∷ c ∷ d ∷ []) → (s ≡ a → ⊥) → (s ≡ b → ⊥) → (s ≡ c → ⊥) → (s ≡ d → ⊥) → ⊥
no_four a b c d s (inl h) x y z w = x (sym h)
no_four a b c d s (inr h) x y z w = no_three b c d s h y z w

module _ (net : Network) (v : Value) (t : String Global) (s : List ℕ) (is : v ≡ Text t) (same : s ≡ string_bytes t) where
  shows : view v ≡ string s
  shows = ap view is ∙ view_text t ∙ ap string (sym same)

  pub no_decision : HasForm net part.Decision (view v) → (s ≡ codes "then" → ⊥) → (s ≡ codes "else" → ⊥) → (s ≡ codes "pass" → ⊥) → (s ≡ codes "broken" → ⊥) → ⊥
  no_decision h = no_four (codes "then") (codes "else") (codes "pass") (codes "broken") s (decision_word net s (subst (HasForm net part.Decision) shows h))

  pub no_end : HasForm net part.End (view v) → (s ≡ codes "stopped" → ⊥) → (s ≡ codes "delivered" → ⊥) → (s ≡ codes "cut" → ⊥) → ⊥
  no_end h = no_three (codes "stopped") (codes "delivered") (codes "cut") s (end_word net s (subst (HasForm net part.End) shows h))

module _ (net : Network) (d x : Data) (h : HasForm net part.Step d) (first : Some x ≡ at 0 d) where
  word_is : string (step_word net d h).text ≡ x
  word_is = let e = (step_word net d h).is in cc (e, first)

  pub step_has_word : as_str x ≡ None → ⊥
  step_has_word none = let e = ap as_str word_is in cc (e, none)

  pub no_step : (s : List ℕ) → as_str x ≡ Some s → (s ≡ codes "empty" → ⊥) → (s ≡ codes "domain" → ⊥) → (s ≡ codes "split" → ⊥) → (s ≡ codes "cycle" → ⊥) → ⊥
  no_step s some =
      let e : (step_word net d h).text ≡ s = let k = ap as_str word_is in cc (k, some) in
      no_four (codes "empty") (codes "domain") (codes "split") (codes "cycle") s (subst (λ k. IsAmong k (codes "empty" ∷ codes "domain" ∷ codes "split" ∷ codes "cycle" ∷ [])) e (step_word net d h).among)

-- the members of a fault that is no Fail
module _ (net : Network) (ms : Members) (n : ℕ) (h : HasForm net part.End (object ms)) (e : get_member (codes "fault") ms ≡ Some (number (unsigned n))) where
  number_is : (fault_number_form net ms h).n ≡ n
  number_is = let k = (fault_number_form net ms h).is in cc (k, e)

  pub fault_of : (n ≡ 9 → ⊥) → Holds net fault_fields ms
  fault_of other =
      let low : 1 ≤ n = subst (λ k. 1 ≤ k) number_is (fault_number_form net ms h).low in
      let most : n ≤ 9 = subst (λ k. k ≤ 9) number_is (fault_number_form net ms h).high in
      let high : n ≤ 8 = omega (arith, most, other) in
      fault_held net ms n h e low high
