-- What was written where the sink failed is a beginning of one text.
use Rattle.std.proofs.Common.{◌≡◌, ◌⊎◌, inl, inr, refl, sym, subst, true, ℕ, List, [], ◌∷◌, ◌++◌}
use Rattle.std.proofs.lemmas.List.{map-append}
use Rattle.sn_edge.specs.Pieces.{IsPrefix, IsPrefix-append, IsPrefix-behind}
use Rattle.net_check.specs.Network.{Network, Entry}
use Rattle.path_records.specs.declared.records.Record.{Record}
use Rattle.exact_records.specs.View.{record_tree, record_trees}
use Rattle.record_text.specs.Reports.{head_text}
use Rattle.record_lines.specs.Lines.{has_some, is_written, piece_text, records_text, refuted_count, written_of}
use Rattle.path_records.specs.declared.sides.RefutedSides.{RefutedSides}
use Rattle.path_records.specs.declared.sides.RefutedSides.TheVariants.{Written, Counted}
use Rattle.command_edge.specs.declared.ending.Ending.{Ending}
use Rattle.explore_command.specs.Explores.{BehindHead, IsCut, IsCutInRecord, IsCutInTail, IsReport, IsSoFar, end_of, is_done, said_by}
use Rattle.explore_command.proofs.PutLemmas.{Joins}

-- the piece of a record comes behind those of the others
abbrev pub ComesBehind : Type 0
ComesBehind = (net : Network) (sides : RefutedSides) (items : List Record) (item : Record) → is_written sides item ≡ true
    → records_text net (written_of sides (items ++ item ∷ [])) ≡ records_text net (written_of sides items) ++ piece_text net (has_some (written_of sides items)) item

none_written : (net : Network) (sides : RefutedSides) → [] ≡ records_text net (written_of sides [])
none_written net Written = refl
none_written net Counted = refl

module _ (joins : Joins) (behind : ComesBehind) (hops limit : ℕ) (sides : RefutedSides) (net : Network) (i : Entry) where
  abbrev pub Begins : List ℕ → Type 0
  Begins part =
      ((ending : Ending) × (whole : List ℕ) × IsReport hops limit sides net i ending whole × IsPrefix part whole)
      ⊎ ((whole : List ℕ) × BehindHead (said_by i) hops limit (IsSoFar hops limit sides net i) whole × IsPrefix part whole)

  none_so_far : IsSoFar hops limit sides net i []
  none_so_far = record { records = []; exact = record { is = inl refl }; pieces = none_written net sides }

  in_head : (part : List ℕ) → IsPrefix part (head_text (said_by i) hops limit) → Begins part
  in_head part h = inr (head_text (said_by i) hops limit ++ [], ([], none_so_far, refl), IsPrefix-append part (head_text (said_by i) hops limit) [] h)

  with_last : (own : List ℕ) → (cut : IsCutInRecord hops limit sides net i own) → IsSoFar hops limit sides net i (records_text net (written_of sides (cut.done ++ cut.last ∷ [])))
  with_last own cut = record {
    records = cut.done ++ cut.last ∷ [];
    exact = record { is = inr (record_trees cut.done, record_tree cut.last, map-append record_tree cut.done (cut.last ∷ []), cut.exact) };
    pieces = refl;
  }

  in_record : (own : List ℕ) → IsCutInRecord hops limit sides net i own → Begins (head_text (said_by i) hops limit ++ own)
  in_record own cut =
      let before = records_text net (written_of sides cut.done) in
      let piece = piece_text net (has_some (written_of sides cut.done)) cut.last in
      let all = records_text net (written_of sides (cut.done ++ cut.last ∷ [])) in
      let begins : IsPrefix own all =
      subst (λ s. IsPrefix s all) (sym cut.pieces)
      (subst (IsPrefix (before ++ cut.own)) (sym (behind net sides cut.done cut.last cut.put)) (IsPrefix-behind before cut.own piece cut.begins)) in
      inr (head_text (said_by i) hops limit ++ all, (all, with_last own cut, refl), IsPrefix-behind (head_text (said_by i) hops limit) own all begins)

  in_tail : (own : List ℕ) → IsCutInTail hops limit sides net i own → Begins (head_text (said_by i) hops limit ++ own)
  in_tail own cut =
      let before = records_text net (written_of sides cut.records) in
      let tail = end_of cut.ending cut.records in
      let begins : IsPrefix own (before ++ tail) =
      subst (λ s. IsPrefix s (before ++ tail)) (sym cut.pieces) (IsPrefix-behind before cut.own tail cut.begins) in
      inl (
        cut.ending,
        head_text (said_by i) hops limit ++ (before ++ tail),
        record {
          records = cut.records;
          found = cut.found;
          line = sym (joins net (said_by i) hops limit (written_of sides cut.records) (refuted_count cut.records) (is_done cut.ending));
        },
        IsPrefix-behind (head_text (said_by i) hops limit) own (before ++ tail) begins,
      )

  pub cut_begins : (part : List ℕ) → IsCut hops limit sides net i part → Begins part
  cut_begins part (inl h) = in_head part h
  cut_begins part (inr (own, inl cut, is)) = subst Begins (sym is) (in_record own cut)
  cut_begins part (inr (own, inr cut, is)) = subst Begins (sym is) (in_tail own cut)
