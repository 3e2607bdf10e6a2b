-- What the pieces of records leave in a sink.
use Rattle.std.proofs.Common.{◌≡◌, ◌∙◌, ap, sym, subst, refl, ℕ, ◌+◌, ◌<◌, ◌^◌, arith, Bool, true, false, List, [], ◌∷◌, ◌++◌, map, append_assoc}
use Rattle.std.proofs.lemmas.Bool.{true≢false}
use Rattle.std.proofs.lemmas.List.{append-nil, map-append}
use Rattle.std.proofs.lemmas.List.Elements.{filter-append}
use Rattle.std.proofs.lemmas.Str.{IsUtf8-append, IsUtf8-nil}
use Rattle.std.specs.Prelude.{IsUtf8, filter, fold}
use Rattle.std.specs.List.{AllByRecursion}
use Rattle.serde_json.specs.Data.{Data}
use Rattle.serde_json.specs.Written.{comma_if, compact_text}
use Rattle.net_check.specs.Network.{Network}
use Rattle.path_exec.specs.Handing.{Handed}
use Rattle.path_records.specs.declared.records.Record.{Record}
use Rattle.symbolic_engine.specs.declared.found.Found.{Found}
use Rattle.symbolic_engine.specs.Recorded.{ByRecords}
use Rattle.report_forms.specs.Ranges.{RecordInRange}
use Rattle.record_text.specs.Records.{record_data}
use Rattle.record_text.specs.Reports.{record_pieces}
use Rattle.std.specs.Io.KnownBytes.{append_known}
use Rattle.sn_edge.specs.Pieces.{IsPrefix}
use Rattle.sn_edge.specs.Put.{OnAll, OnNoMemory}
use Rattle.sn_edge.specs.Putting.{Takes, TakesPart, TakesUntil}
use Rattle.sn_edge.specs.Told.{SinkTold}
use Rattle.sn_edge.proofs.Putting.{part_alone, part_behind, takes_both, takes_one, until_behind, until_none}
use Rattle.sn_edge.specs.declared.sink.Put.{Put}
use Rattle.sn_edge.specs.declared.sink.Put.TheVariants.{All, Failed, NoMemory}
use Rattle.record_lines.specs.Lines.{AreOfTypes, HasLines, PutAs, StopsInLine, has_some, is_written, piece_text, records_text, refuted_by, refuted_count, written_of}
use Rattle.path_records.specs.declared.sides.RefutedSides.{RefutedSides}
use Rattle.path_records.specs.declared.sides.RefutedSides.TheVariants.{Written, Counted}

-- the answers of a put, as one fact
pub put_as : {K : Type 0} (told : K → SinkTold) (gives : K → List ℕ → Put → K → Type 0) (u v : K) (piece : List ℕ) (answer : Put) → gives u piece answer v
    → OnAll answer ((told v).taken ≡ append_known (told u).taken piece) → OnNoMemory answer ((told v).taken ≡ (told u).taken)
    → ((part : List ℕ) × IsPrefix part piece × ((told v).taken ≡ append_known (told u).taken part)) → PutAs told gives u v piece answer
put_as told gives u v piece All put all nothing part = takes_one told gives u v piece put all
put_as told gives u v piece Failed put all nothing (part, begins, taken) = (part, begins, part_alone told gives u v piece part put begins taken)
put_as told gives u v piece NoMemory put all nothing part = until_none told gives u v piece put nothing

-- one more at the end
pieces_later : (ds : List Data) (d : Data) → record_pieces true (ds ++ d ∷ []) ≡ record_pieces true ds ++ (comma_if true ++ compact_text d)
pieces_later [] d = ap (λ s. comma_if true ++ s) (append-nil (compact_text d))
pieces_later (x ∷ ds) d =
    ap (λ s. comma_if true ++ (compact_text x ++ s)) (pieces_later ds d)
    ∙ (ap (λ s. comma_if true ++ s) (sym (append_assoc (compact_text x) (record_pieces true ds) (comma_if true ++ compact_text d)))
    ∙ sym (append_assoc (comma_if true) (compact_text x ++ record_pieces true ds) (comma_if true ++ compact_text d)))

text_with : (net : Network) (items : List Record) (item : Record) → records_text net (items ++ item ∷ []) ≡ records_text net items ++ piece_text net (has_some items) item
text_with net [] item = append-nil (compact_text (record_data net item))
text_with net (x ∷ items) item =
    ap (λ ds. compact_text (record_data net x) ++ record_pieces true ds) (map-append (record_data net) items (item ∷ []))
    ∙ (ap (λ s. compact_text (record_data net x) ++ s) (pieces_later (map (record_data net) items) (record_data net item))
    ∙ sym (append_assoc (compact_text (record_data net x)) (record_pieces true (map (record_data net) items)) (comma_if true ++ compact_text (record_data net item))))

-- a record that is written, and one that is not
written_with : (sides : RefutedSides) (items : List Record) (item : Record) → is_written sides item ≡ true
    → written_of sides (items ++ item ∷ []) ≡ written_of sides items ++ item ∷ []
written_with Written items item is = refl
written_with Counted items item is = filter-append (is_written Counted) items (item ∷ []) ∙ ap (λ xs. written_of Counted items ++ xs) (rw (is) refl)

written_without : (sides : RefutedSides) (items : List Record) (item : Record) → is_written sides item ≡ false
    → written_of sides (items ++ item ∷ []) ≡ written_of sides items
written_without Written items item is = absurd (true≢false is)
written_without Counted items item is =
    filter-append (is_written Counted) items (item ∷ [])
    ∙ (ap (λ xs. written_of Counted items ++ xs) (let alone : filter (is_written Counted) (item ∷ []) ≡ [] = rw (is) refl in alone)
    ∙ append-nil (written_of Counted items))

pub written_behind : (net : Network) (sides : RefutedSides) (items : List Record) (item : Record) → is_written sides item ≡ true
    → records_text net (written_of sides (items ++ item ∷ [])) ≡ records_text net (written_of sides items) ++ piece_text net (has_some (written_of sides items)) item
written_behind net sides items item is = ap (records_text net) (written_with sides items item is) ∙ text_with net (written_of sides items) item

has_some_with : {A : Type 0} (xs : List A) (x : A) → has_some (xs ++ x ∷ []) ≡ true
has_some_with [] x = refl
has_some_with (y ∷ xs) x = refl

counted_from : (first : ℕ) (items : List Record) (item : Record)
    → fold (λ n x. n + refuted_by x) first (items ++ item ∷ []) ≡ fold (λ n x. n + refuted_by x) first items + refuted_by item
counted_from first [] item = refl
counted_from first (x ∷ items) item = counted_from (first + refuted_by x) items item

count_with : (items : List Record) (item : Record) → refuted_count (items ++ item ∷ []) ≡ refuted_count items + refuted_by item
count_with items item = counted_from 0 items item

-- the empty list, and one record more
ranges_with : (items : List Record) (item : Record) → AllByRecursion RecordInRange items → RecordInRange item → AllByRecursion RecordInRange (items ++ item ∷ [])
ranges_with [] item all one = (one, tt)
ranges_with (x ∷ items) item all one = (all.0, ranges_with items item all.1 one)

pub none_of_types : (net : Network) (sides : RefutedSides) → AreOfTypes net sides []
none_of_types net Written = record { ranges = tt; few = omega arith; utf8 = IsUtf8-nil }
none_of_types net Counted = record { ranges = tt; few = omega arith; utf8 = IsUtf8-nil }

module _ {K : Type 0} (told : K → SinkTold) (gives : K → List ℕ → Put → K → Type 0) (net : Network) (sides : RefutedSides) (IsFirst : K → Type 0) where
  abbrev Lines : K → RefutedSides → Bool → Bool → ℕ → List Record → Type 0
  Lines = HasLines told gives net sides IsFirst

  -- before memory ended
  module _ (own_sides : RefutedSides) (over : Bool) (goes_on : over ≡ false) (before now : K) (some : Bool) (refuted : ℕ) where
    opened : (items : List Record) → Lines before own_sides over some refuted items → Lines before own_sides false some refuted items
    opened items has = subst (λ b. Lines before own_sides b some refuted items) goes_on has

    -- the piece of one more was put
    pub one_more : (item : Record) → is_written own_sides item ≡ true → RecordInRange item → IsUtf8 (piece_text net some item) → (count : ℕ) → count < 2 ^ 64
        → count ≡ refuted + refuted_by item → Takes told gives before (piece_text net some item) now
        → (items : List Record) → Lines before own_sides over some refuted items → Lines now own_sides over true count (items ++ item ∷ [])
    one_more item put range utf8 count small counts takes items lines =
        let has = opened items lines in
        let is : is_written sides item ≡ true = subst (λ s. is_written s item ≡ true) has.same_sides put in
        let before_it = written_of sides items in
        let counted : count ≡ refuted_count (items ++ item ∷ []) = counts ∙ (ap (λ n. n + refuted_by item) has.counted ∙ sym (count_with items item)) in
        let all : Lines now own_sides false true count (items ++ item ∷ []) = record {
          same_sides = has.same_sides;
          start = has.start;
          first = has.first;
          puts = subst (λ bytes. Takes told gives has.start bytes now) (sym (written_behind net sides items item is))
              (takes_both told gives has.start before now (records_text net before_it) (piece_text net (has_some before_it) item) has.puts
              (subst (λ b. Takes told gives before (piece_text net b item) now) has.has takes));
          has = sym (has_some_with before_it item) ∙ ap has_some (sym (written_with sides items item is));
          counted = counted;
          of_types = record {
            ranges = ranges_with items item has.of_types.ranges range;
            few = subst (λ n. n < 2 ^ 64) counted small;
            utf8 = subst IsUtf8 (sym (written_behind net sides items item is))
                (IsUtf8-append (records_text net before_it) (piece_text net (has_some before_it) item) has.of_types.utf8
                (subst (λ b. IsUtf8 (piece_text net b item)) has.has utf8));
          };
        } in subst (λ b. Lines now own_sides b true count (items ++ item ∷ [])) (sym goes_on) all

    -- one more is not written
    pub one_counted : (item : Record) → is_written own_sides item ≡ false → RecordInRange item → (count : ℕ) → count < 2 ^ 64 → count ≡ refuted + refuted_by item
        → (items : List Record) → Lines before own_sides over some refuted items → Lines before own_sides over some count (items ++ item ∷ [])
    one_counted item left range count small counts items lines =
        let has = opened items lines in
        let is : is_written sides item ≡ false = subst (λ s. is_written s item ≡ false) has.same_sides left in
        let same : written_of sides items ≡ written_of sides (items ++ item ∷ []) = sym (written_without sides items item is) in
        let counted : count ≡ refuted_count (items ++ item ∷ []) = counts ∙ (ap (λ n. n + refuted_by item) has.counted ∙ sym (count_with items item)) in
        let all : Lines before own_sides false some count (items ++ item ∷ []) = record {
          same_sides = has.same_sides;
          start = has.start;
          first = has.first;
          puts = subst (λ xs. Takes told gives has.start (records_text net xs) before) same has.puts;
          has = has.has ∙ ap has_some same;
          counted = counted;
          of_types = record {
            ranges = ranges_with items item has.of_types.ranges range;
            few = subst (λ n. n < 2 ^ 64) counted small;
            utf8 = subst (λ xs. IsUtf8 (records_text net xs)) same has.of_types.utf8;
          };
        } in subst (λ b. Lines before own_sides b some count (items ++ item ∷ [])) (sym goes_on) all

    -- a beginning of its piece was put
    pub stops_in : (item : Record) → is_written own_sides item ≡ true → ((part : List ℕ) × IsPrefix part (piece_text net some item) × TakesPart told gives before part now)
        → (items : List Record) → Lines before own_sides over some refuted items → StopsInLine told gives net sides IsFirst now (items ++ item ∷ [])
    stops_in item put (part, begins, takes) items lines =
        let has = opened items lines in record {
          done = items;
          last = item;
          is = refl;
          put = subst (λ s. is_written s item ≡ true) has.same_sides put;
          part = part;
          begins = subst (λ b. IsPrefix part (piece_text net b item)) has.has begins;
          start = has.start;
          first = has.first;
          puts = part_behind told gives has.start before now (records_text net (written_of sides items)) part has.puts takes;
        }

    -- there was no memory for it
    none_more : TakesUntil told gives before [] now → (items : List Record) → Lines before own_sides over some refuted items → Lines now own_sides true some refuted items
    none_more none items lines =
        let has = opened items lines in record {
          same_sides = has.same_sides;
          start = has.start;
          first = has.first;
          puts = subst (λ bytes. TakesUntil told gives has.start bytes now) (append-nil (records_text net (written_of sides items)))
              (until_behind told gives has.start before now (records_text net (written_of sides items)) [] has.puts none);
          has = has.has;
          counted = has.counted;
          of_types = has.of_types;
        }

    pub none_found : TakesUntil told gives before [] now → (items : List (Handed Found)) → ByRecords (Lines before own_sides over some refuted) items
        → ByRecords (Lines now own_sides true some refuted) items
    none_found none items by = record { records = by.records; same = by.same; are = none_more none by.records by.are }
