-- What `replay` of all records comes to is one thing.
use Rattle.std.proofs.Common.{◌≡◌, ◌∙◌, ◌⊎◌, inl, inr, sym, ap, subst, ℕ, List, [], map, None, Some, Result, Ok, Err}
use Rattle.net_check.specs.Network.{Network, Entry, with_choices}
use Rattle.exact_records.specs.Records.{RecordTree, SymStart}
use Rattle.record_text.specs.declared.report.Report.{Report}
use Rattle.report_forms.specs.Seen as seen
use Rattle.record_checks.specs.Counts.{counts_of}
use Rattle.record_checks.specs.declared.counts.Confirmed.{Confirmed}
use Rattle.whole_checks.specs.Confirming.{Answer, ConfirmsBehind, HaveOneAnswer}
use Rattle.whole_checks.specs.declared.fault.WholeFault.{WholeFault}
use Rattle.whole_checks.specs.declared.fault.WholeFault.TheVariants.{NoMemory as NoWhole}
use Rattle.path_replay.specs.Replaying.{ConfirmsWholeFor}
use Rattle.command_edge.specs.Puts.{Outcome, text, refused}
use Rattle.command_edge.specs.declared.fault.OwnFault.TheVariants.{BadReport, NotConfirmed}
use Rattle.replay_command.specs.Counted.{confirmed_text}
use Rattle.replay_command.specs.Replays.{IsBadReport, choices_of}
use Rattle.replay_command.specs.Wholes.{HasHead, IsOther, IsWholeText, OfRead, Told, WholeOf, told_by, told_of}
use Rattle.replay_command.proofs.OnceLemmas.{IsOneReport, fault_or_report, same_bad, same_report, tree_of, trees_seen}

-- ---- one report

told_seen : seen.ReportSeen → Told
told_seen r = record {
  most = choices_of r.cases;
  hops = r.hops;
  records = map tree_of r.records;
  limit = r.limit;
  refuted = r.refuted;
  complete = r.complete;
}

told_is : (r : Report) → told_by r ≡ told_seen (seen.report_seen r)
unfolding told_seen
told_is r = λ l. record {
  most = choices_of r.cases;
  hops = r.hops;
  records = trees_seen r.records.items l;
  limit = r.limit;
  refuted = r.refuted;
  complete = r.complete;
}

module _ (one : IsOneReport) (net : Network) (bytes : List ℕ) where
  -- a fact of the report of the bytes is one of any report of them
  of_read : (P Q : Told → Type 0) (a : OfRead net bytes P) (b : OfRead net bytes Q) → Q (told_by a.report)
  of_read P Q a b =
      subst Q (told_is b.report ∙ (ap told_seen (same_report one net bytes b.report a.report b.reads a.reads) ∙ sym (told_is a.report))) b.holds

  bad_or_read : (kind : ℕ) (pointer : List ℕ) (P : Told → Type 0) → IsBadReport net bytes kind pointer → OfRead net bytes P → ⊥
  bad_or_read kind pointer P bad of = fault_or_report one net bytes bad.fault (kind, pointer) of.report bad.reads bad.told of.reads

-- ---- one answer of its records

same_ok : {A E : Type 0} {a b : A} → ◌≡◌ {A = Result A E} (Ok a) (Ok b) → a ≡ b
same_ok e = cc e

same_err : {A E : Type 0} {a b : E} → ◌≡◌ {A = Result A E} (Err a) (Err b) → a ≡ b
same_err e = cc e

ok_err : {A E : Type 0} (a : A) (b : E) → ◌≡◌ {A = Result A E} (Ok a) (Err b) → ⊥
ok_err a b e = cc e

none_some : {A : Type 0} (x : A) → None ≡ Some x → ⊥
none_some x e = cc e

same_some : {A : Type 0} {a b : A} → Some a ≡ Some b → a ≡ b
same_some e = cc e

module _ (law : (s : SymStart) (xs : List RecordTree) → HaveOneAnswer s xs) (net : Network) (i : Entry) (hops : ℕ) (xs : List RecordTree) where
  one_answer : (a b : Answer) → ConfirmsWholeFor net i hops xs a → ConfirmsWholeFor net i hops xs b → (a ≡ Err NoWhole) ⊎ (b ≡ Err NoWhole) ⊎ (a ≡ b)
  one_answer a b (inl e) k = inl e
  one_answer a b (inr h) (inl e) = inr (inl e)
  one_answer a b (inr h) (inr k) =
      let same : k.start ≡ h.start = same_ok (sym k.explored ∙ h.explored) in
      inr (inr (law h.start xs a b h.holds (subst (λ s. ConfirmsBehind s None 0 (counts_of []) xs b) same k.holds)))

  same_counts : (c d : Confirmed) → ConfirmsWholeFor net i hops xs (Ok c) → ConfirmsWholeFor net i hops xs (Ok d) → c ≡ d
  same_counts c d h k =
      elim (one_answer (Ok c) (Ok d) h k) [
        | inl e ↦ absurd (ok_err c NoWhole e)
        | inr (inl e) ↦ absurd (ok_err d NoWhole e)
        | inr (inr e) ↦ same_ok e
      ]

  -- a fault that is told is no want of memory
  told_fault : (fault : WholeFault) (x : ℕ × ℕ) → told_of fault ≡ Some x → fault ≡ NoWhole → ⊥
  told_fault fault x told e = none_some x (sym (ap told_of e) ∙ told)

  counts_or_fault : (c : Confirmed) (fault : WholeFault) (x : ℕ × ℕ) → told_of fault ≡ Some x → ConfirmsWholeFor net i hops xs (Ok c) → ConfirmsWholeFor net i hops xs (Err fault) → ⊥
  counts_or_fault c fault x told h k =
      elim (one_answer (Ok c) (Err fault) h k) [
        | inl e ↦ ok_err c NoWhole e
        | inr (inl e) ↦ told_fault fault x told (same_err e)
        | inr (inr e) ↦ ok_err c fault e
      ]

  same_told : (f g : WholeFault) (x y : ℕ × ℕ) → told_of f ≡ Some x → told_of g ≡ Some y → ConfirmsWholeFor net i hops xs (Err f) → ConfirmsWholeFor net i hops xs (Err g) → x ≡ y
  same_told f g x y told told' h k =
      elim (one_answer (Err f) (Err g) h k) [
        | inl e ↦ absurd (told_fault f x told (same_err e))
        | inr (inl e) ↦ absurd (told_fault g y told' (same_err e))
        | inr (inr e) ↦ same_some (sym told ∙ (ap told_of (same_err e) ∙ told'))
      ]

module _ (law : (s : SymStart) (xs : List RecordTree) → HaveOneAnswer s xs) (net : Network) (i : Entry) (t : Told) where
  text_or_other : (whole : List ℕ) (number kind : ℕ) → IsWholeText net i t whole → IsOther net i t number kind → ⊥
  text_or_other whole number kind h (inl k) =
      counts_or_fault law net (with_choices t.most i) t.hops t.records h.counts k.fault (number, kind) k.told h.confirms k.confirms
  text_or_other whole number kind h (inr k) =
      k.other.0 (subst (HasHead t) (same_counts law net (with_choices t.most i) t.hops t.records h.counts k.counts h.confirms k.confirms) h.head)

  same_texts : (whole other : List ℕ) → IsWholeText net i t whole → IsWholeText net i t other → whole ≡ other
  same_texts whole other h k =
      h.written ∙ (ap confirmed_text (same_counts law net (with_choices t.most i) t.hops t.records h.counts k.counts h.confirms k.confirms) ∙ sym k.written)

  same_others : (number other kind also : ℕ) → IsOther net i t number kind → IsOther net i t other also → refused (NotConfirmed number kind) ≡ refused (NotConfirmed other also)
  same_others number other kind also (inl h) (inl k) =
      ap (λ (x : ℕ × ℕ). refused (NotConfirmed x.0 x.1))
      (same_told law net (with_choices t.most i) t.hops t.records h.fault k.fault (number, kind) (other, also) h.told k.told h.confirms k.confirms)
  same_others number other kind also (inl h) (inr k) =
      absurd (counts_or_fault law net (with_choices t.most i) t.hops t.records k.counts h.fault (number, kind) h.told k.confirms h.confirms)
  same_others number other kind also (inr h) (inl k) =
      absurd (counts_or_fault law net (with_choices t.most i) t.hops t.records h.counts k.fault (other, also) k.told h.confirms k.confirms)
  same_others number other kind also (inr h) (inr k) =
      λ l. refused (NotConfirmed ((h.other.1 ∙ sym k.other.1) l) ((h.other.2 ∙ sym k.other.2) l))

module _ (one : IsOneReport) (law : (s : SymStart) (xs : List RecordTree) → HaveOneAnswer s xs) (net : Network) (i : Entry) (bytes : List ℕ) where
  pub wholes_once : (a b : Outcome) → WholeOf net i bytes a → WholeOf net i bytes b → a ≡ b
  wholes_once (text e w) (text e' w') h k =
      let ends = h.0 ∙ sym k.0 in
      let texts = same_texts law net i (told_by h.1.report) w w' h.1.holds (of_read one net bytes _ _ h.1 k.1) in
      λ l. text (ends l) (texts l)
  wholes_once (text e w) (refused (BadReport kind pointer)) h k = absurd (bad_or_read one net bytes kind pointer _ k h.1)
  wholes_once (text e w) (refused (NotConfirmed number kind)) h k =
      absurd (text_or_other law net i (told_by h.1.report) w number kind h.1.holds (of_read one net bytes _ _ h.1 k))
  wholes_once (text e w) (refused f) h k = absurd k
  wholes_once (refused (BadReport kind pointer)) (text e w) h k = absurd (bad_or_read one net bytes kind pointer _ h k.1)
  wholes_once (refused (BadReport kind pointer)) (refused (BadReport kind' pointer')) h k = same_bad one net bytes kind kind' pointer pointer' h k
  wholes_once (refused (BadReport kind pointer)) (refused (NotConfirmed number kind')) h k = absurd (bad_or_read one net bytes kind pointer _ h k)
  wholes_once (refused (BadReport kind pointer)) (refused f) h k = absurd k
  wholes_once (refused (NotConfirmed number kind)) (text e w) h k =
      absurd (text_or_other law net i (told_by k.1.report) w number kind k.1.holds (of_read one net bytes _ _ k.1 h))
  wholes_once (refused (NotConfirmed number kind)) (refused (BadReport kind' pointer)) h k = absurd (bad_or_read one net bytes kind' pointer _ k h)
  wholes_once (refused (NotConfirmed number kind)) (refused (NotConfirmed number' kind')) h k =
      same_others law net i (told_by h.report) number number' kind kind' h.holds (of_read one net bytes _ _ h k)
  wholes_once (refused (NotConfirmed number kind)) (refused f) h k = absurd k
  wholes_once (refused f) b h k = absurd h
