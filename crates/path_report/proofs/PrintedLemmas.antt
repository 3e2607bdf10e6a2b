-- The pieces of a printed report make its text.
use Rattle.std.proofs.Common.{◌≡◌, ◌∙◌, ◌+◌, ◌≤◌, arith, ap, refl, sym, subst, length, ℕ, true, false, List, [], ◌∷◌, ◌++◌, map, Vec, Global, append_assoc}
use Rattle.std.proofs.lemmas.List.{append-nil, length-append, map-append}
use Rattle.std.specs.List.{AllByRecursion}
use Rattle.serde_json.specs.Data.{Data}
use Rattle.serde_json.specs.Written.{comma_if, compact_text}
use Rattle.net_check.specs.Network.{Network}
use Rattle.path_records.specs.declared.records.Record.{Record}
use Rattle.record_text.specs.Records.{record_data}
use Rattle.record_text.specs.Reports.{head_text, record_pieces, report_text, tail_text}
use Rattle.record_text.specs.declared.report.Report.{Report}
use Rattle.report_forms.specs.Fits.{RecordFits}
use Rattle.kept_texts.specs.Kept.{has_some, piece}
use Rattle.path_report.specs.Printed.{BeginsWith, BeginsWithAll, IsOpened, IsPrinted, IsRead, Reading}

-- one more at the end
later_with : (ds : List Data) (d : Data) → record_pieces true (ds ++ d ∷ []) ≡ record_pieces true ds ++ piece true d
later_with [] d = ap (λ s. comma_if true ++ s) (append-nil (compact_text d))
later_with (x ∷ ds) d =
    ap (λ s. comma_if true ++ (compact_text x ++ s)) (later_with ds d)
    ∙ (ap (λ s. comma_if true ++ s) (sym (append_assoc (compact_text x) (record_pieces true ds) (piece true d)))
    ∙ sym (append_assoc (comma_if true) (compact_text x ++ record_pieces true ds) (piece true d)))

pieces_with : (net : Network) (items : List Record) (item : Record) →
    record_pieces false (map (record_data net) (items ++ item ∷ [])) ≡ record_pieces false (map (record_data net) items) ++ piece (has_some items) (record_data net item)
pieces_with net [] item = append-nil (compact_text (record_data net item))
pieces_with net (x ∷ items) item =
    ap (λ ds. compact_text (record_data net x) ++ record_pieces true ds) (map-append (record_data net) items (item ∷ []))
    ∙ (ap (λ s. compact_text (record_data net x) ++ s) (later_with (map (record_data net) items) (record_data net item))
    ∙ sym (append_assoc (compact_text (record_data net x)) (record_pieces true (map (record_data net) items)) (piece true (record_data net item))))

all_with : {A : Type 0} (P : A → Type 0) (xs : List A) (x : A) → AllByRecursion P xs → P x → AllByRecursion P (xs ++ x ∷ [])
all_with P [] x all h = (h, tt)
all_with P (y ∷ xs) x all h = (all.0, all_with P xs x all.1 h)

-- so of what was pushed, and of what was mapped
pub pushed : {A : Type 0} (P : A → Type 0) (xs ys : List A) (x : A) → ys ≡ xs ++ x ∷ [] → AllByRecursion P xs → P x → AllByRecursion P ys
pushed P xs ys x is all h = subst (AllByRecursion P) (sym is) (all_with P xs x all h)

pub mapped : {A B : Type 0} (P : B → Type 0) (f : A → B) (xs : List A) → AllByRecursion (λ x. P (f x)) xs → AllByRecursion P (map f xs)
mapped P f [] all = tt
mapped P f (x ∷ xs) all = (all.0, mapped P f xs all.1)

one_more : (net : Network) (items : List Record) (item : Record) (bytes left rest : List ℕ) →
    BeginsWithAll net items bytes left → BeginsWith net (has_some items) item left rest → BeginsWithAll net (items ++ item ∷ []) bytes rest
one_more net items item bytes left rest all one =
    let front = record_pieces false (map (record_data net) items) in
    let this = piece (has_some items) (record_data net item) in record {
      text = all.text ∙ ap (λ s. front ++ s) one.text ∙ sym (append_assoc front this rest) ∙ ap (λ s. s ++ rest) (sym (pieces_with net items item));
      fits = all_with (RecordFits net) items item all.fits one.fits;
    }

-- these records were read since the text began
pub record AreRead (net : Network) (text : List ℕ) (items : List Record) (u : Reading) : Type 0 where
  pub begins : BeginsWithAll net items text u.left
  pub later : u.later ≡ has_some items
  pub few : length items + length u.left ≤ length text

pub none_read : (net : Network) (text : List ℕ) (u : Reading) → u.later ≡ false → u.left ≡ text → AreRead net text [] u
none_read net text u first is = record {
  begins = record { text = sym is; fits = tt };
  later = first;
  few = let same = ap length is in omega (arith, same);
}

some_behind : {A : Type 0} (xs : List A) (x : A) → true ≡ has_some (xs ++ x ∷ [])
some_behind [] x = refl
some_behind (y ∷ xs) x = refl

one_longer : {A : Type 0} (xs : List A) (x : A) → length (xs ++ x ∷ []) ≡ length xs + 1
one_longer xs x = length-append xs (x ∷ [])

-- one record more
pub read_more : (net : Network) (text : List ℕ) (items : List Record) (u : Reading) (item : Record) (v : Reading) → AreRead net text items u → IsRead net u item v
    → AreRead net text (items ++ item ∷ []) v
read_more net text items u item v all one = record {
  begins = one_more net items item text u.left v.left all.begins (subst (λ b. BeginsWith net b item u.left v.left) all.later one.begins);
  later = one.later ∙ some_behind items item;
  few =
      let longer = one_longer items item in
      let shorter = one.shorter in
      let few = all.few in
      omega (arith, longer, shorter, few);
}

pub goes_on : (net : Network) (text : List ℕ) (items more : List Record) (u : Reading) (item : Record) (v : Reading) → more ≡ items ++ item ∷ []
    → AreRead net text items u → IsRead net u item v → AreRead net text more v
goes_on net text items more u item v pushed all one = subst (λ xs. AreRead net text xs v) (sym pushed) (read_more net text items u item v all one)

-- a report is its pieces
abbrev pub JoinsPieces : Type 0
JoinsPieces = (net : Network) (report : Report) →
    report_text net report ≡ head_text report.cases report.hops report.limit ++ (record_pieces false (map (record_data net) report.records.items) ++ tail_text report.refuted report.complete)

-- the report that has these around its records
abbrev pub framing : Report → Vec Record Global → Report
framing frame records = record { cases = frame.cases; hops = frame.hops; limit = frame.limit; records = records; refuted = frame.refuted; complete = frame.complete }

pub printed : JoinsPieces → (net : Network) (bytes : List ℕ) (frame : Report) (start : Reading) (records : Vec Record Global) →
    IsOpened net bytes frame start → BeginsWithAll net records.items start.left [] → IsPrinted net bytes (framing frame records)
printed joins net bytes frame start records opened all =
    let middle = start.left in
    let tail = opened.tail in
    let pieces = record_pieces false (map (record_data net) records.items) in
    let text : middle ≡ pieces = all.text ∙ append-nil pieces in record {
      utf8 = opened.utf8;
      text =
          opened.cut ∙ ap (λ s. s ++ (middle ++ tail)) opened.framed.before ∙ ap (λ s. head_text frame.cases frame.hops frame.limit ++ (s ++ tail)) text
          ∙ ap (λ s. head_text frame.cases frame.hops frame.limit ++ (pieces ++ s)) opened.framed.behind ∙ sym (joins net (framing frame records));
      fits = record {
        the_cases = opened.framed.fits.the_cases;
        least_hops = opened.framed.fits.least_hops;
        most_hops = opened.framed.fits.most_hops;
        least_limit = opened.framed.fits.least_limit;
        most_limit = opened.framed.fits.most_limit;
        all_records = all.fits;
        refuted = opened.framed.fits.refuted;
      };
    }
