-- Texts that are joined by commas, and where each begins.
use Rattle.std.proofs.Common.{◌≡◌, ◌∙◌, ap, sym, subst, refl, ℕ, zero, suc, ◌+◌, ◌<◌, ◌≤◌, arith, Bool, true, false, List, [], ◌∷◌, ◌++◌, length, take, map, Some, None, append_assoc, drop, get_or}
use Rattle.std.specs.Prelude.{slice_get, slice_index}
use Rattle.std.proofs.lemmas.List.{append-nil, drop_more, get_or_at, length-append, map-append, take-append-drop, take-map, take_all, take_at}
use Rattle.serde_json.specs.Data.{Data}
use Rattle.serde_json.specs.Written.{comma_if, compact_text}
use Rattle.record_text.specs.Reports.{record_pieces}
use Rattle.kept_texts.specs.Kept.{AreKept, Grows, has_some, piece, starts_from}

-- more of them
all_later : (xs ys : List Data) → record_pieces true (xs ++ ys) ≡ record_pieces true xs ++ record_pieces true ys
all_later [] ys = refl
all_later (x ∷ xs) ys =
    ap (λ s. 44 ∷ (compact_text x ++ s)) (all_later xs ys)
    ∙ ap (λ s. 44 ∷ s) (sym (append_assoc (compact_text x) (record_pieces true xs) (record_pieces true ys)))

join : (xs ys : List Data) → record_pieces false (xs ++ ys) ≡ record_pieces false xs ++ record_pieces (has_some xs) ys
join [] ys = refl
join (x ∷ xs) ys =
    ap (λ s. compact_text x ++ s) (all_later xs ys)
    ∙ sym (append_assoc (compact_text x) (record_pieces true xs) (record_pieces true ys))

with_last : (xs : List Data) (d : Data) → record_pieces false (xs ++ d ∷ []) ≡ record_pieces false xs ++ piece (has_some xs) d
with_last xs d = join xs (d ∷ []) ∙ ap (λ s. record_pieces false xs ++ (comma_if (has_some xs) ++ s)) (append-nil (compact_text d))

-- where they begin
length_with : (later : Bool) (d : Data) (ds : List Data) → length (record_pieces later (d ∷ ds)) ≡ length (piece later d) + length (record_pieces true ds)
length_with later d ds =
    ap length (sym (append_assoc (comma_if later) (compact_text d) (record_pieces true ds)))
    ∙ length-append (piece later d) (record_pieces true ds)

starts_with : (n : ℕ) (later : Bool) (ds : List Data) (d : Data)
    → starts_from n later (ds ++ d ∷ []) ≡ starts_from n later ds ++ (n + length (record_pieces later ds)) ∷ []
starts_with n later [] d = let same : n ≡ n + 0 = omega arith in ap (λ m. m ∷ []) same
starts_with n later (x ∷ ds) d =
    let all = length_with later x ds in
    let same : n + length (piece later x) + length (record_pieces true ds) ≡ n + length (record_pieces later (x ∷ ds)) = omega (arith, all) in
    ap (λ ns. n ∷ ns) (starts_with (n + length (piece later x)) true ds d ∙ ap (λ m. starts_from (n + length (piece later x)) true ds ++ m ∷ []) same)

starts_take : (k n : ℕ) (later : Bool) (ds : List Data) → take k (starts_from n later ds) ≡ starts_from n later (take k ds)
starts_take zero n later ds = refl
starts_take (suc k) n later [] = refl
starts_take (suc k) n later (d ∷ ds) = ap (λ ns. n ∷ ns) (starts_take k (n + length (piece later d)) true ds)

start_at : (ds : List Data) (n : ℕ) (later : Bool) (k s : ℕ) → slice_get (starts_from n later ds) k ≡ Some s → s ≡ n + length (record_pieces later (take k ds))
start_at [] n later k s e = cc
start_at (d ∷ ds) n later zero s e = let same : s ≡ n = cc in omega arith
start_at (d ∷ ds) n later (suc k) s e =
    let is = start_at ds (n + length (piece later d)) true k s e in
    omega (arith, length_with later d (take k ds), is)

none_from : (ds : List Data) (n : ℕ) (later : Bool) (k : ℕ) → slice_get (starts_from n later ds) k ≡ None → length ds ≤ k
none_from [] n later k e = omega arith
none_from (d ∷ ds) n later zero e = cc
none_from (d ∷ ds) n later (suc k) e = let short = none_from ds (n + length (piece later d)) true k e in omega (arith, short)

-- the piece that begins there
begins : (ds : List Data) (n : ℕ) (k s : ℕ) → slice_get (starts_from n true ds) k ≡ Some s → (rest : List ℕ) × (record_pieces true (drop k ds) ≡ 44 ∷ rest)
begins [] n k s e = cc
begins (d ∷ ds) n zero s e = (compact_text d ++ record_pieces true ds, refl)
begins (d ∷ ds) n (suc k) s e = begins ds (n + length (piece true d)) k s e

parts : (k : ℕ) (ds : List Data) → record_pieces false ds ≡ record_pieces false (take k ds) ++ record_pieces (has_some (take k ds)) (drop k ds)
parts k ds = ap (record_pieces false) (sym (take-append-drop k ds)) ∙ join (take k ds) (drop k ds)

text_cut : (ds : List Data) (k s : ℕ) → slice_get (starts_from 0 false ds) k ≡ Some s → take s (record_pieces false ds) ≡ record_pieces false (take k ds)
text_cut ds k s e =
    let at = start_at ds 0 false k s e in
    ap (take s) (parts k ds) ∙ take_at (record_pieces false (take k ds)) (record_pieces (has_some (take k ds)) (drop k ds)) s (omega (arith, at))

abbrev IsCut : List ℕ → ℕ → Type 0
IsCut t s = (s ≤ length t) × (0 < s → s < length t → 128 ≤ slice_index t s → 192 ≤ slice_index t s)

is_cut : (ds : List Data) (k s : ℕ) → slice_get (starts_from 0 false ds) k ≡ Some s → IsCut (record_pieces false ds) s
is_cut [] k s e = cc
is_cut (d ∷ ds) zero s e = let none : s ≡ 0 = cc in (omega arith, λ some _ _. absurd (omega arith))
is_cut (d ∷ ds) (suc k) s e =
    let front = record_pieces false (take (suc k) (d ∷ ds)) in
    let at = start_at (d ∷ ds) 0 false (suc k) s e in
    let (rest, comma) = begins ds (0 + length (piece false d)) k s e in
    let whole : record_pieces false (d ∷ ds) ≡ front ++ 44 ∷ rest = parts (suc k) (d ∷ ds) ∙ ap (λ t. front ++ t) comma in
    let read : slice_index (record_pieces false (d ∷ ds)) s ≡ 44 = ap (λ t. slice_index t s) whole ∙ get_or_at front 44 rest 0 s (omega (arith, at)) in
    (omega (arith, at, ap length whole, length-append front (44 ∷ rest)), λ _ _ high. absurd (omega (arith, read, high)))

module _ {T : Type 0} (shown : T → Data) where
  pub none_kept : AreKept (map shown []) [] []
  none_kept = record { places = refl; joined = refl }

  pub kept_with : (ms : List T) (m : T) (starts text longer : List ℕ) → AreKept (map shown ms) starts text
      → Grows (piece (has_some ms) (shown m)) text longer → AreKept (map shown (ms ++ m ∷ [])) (starts ++ length text ∷ []) longer
  kept_with ms m starts text longer kept grows =
      let all : map shown (ms ++ m ∷ []) ≡ map shown ms ++ shown m ∷ [] = map-append shown ms (m ∷ []) in
      let some : has_some ms ≡ has_some (map shown ms) = same_some ms in
      let same : length (record_pieces false (map shown ms)) ≡ 0 + length (record_pieces false (map shown ms)) = omega arith in
      record {
        places = rw (kept.places, kept.joined, all) (ap (λ n. starts_from 0 false (map shown ms) ++ n ∷ []) same ∙ sym (starts_with 0 false (map shown ms) (shown m)));
        joined = grows.gained ∙ (rw (kept.joined, all, some) (sym (with_last (map shown ms) (shown m))));
      }
    where
      same_some : (ms : List T) → has_some ms ≡ has_some (map shown ms)
      same_some [] = refl
      same_some (x ∷ xs) = refl

  pub kept_cut : (ms : List T) (starts text : List ℕ) (k s : ℕ) → AreKept (map shown ms) starts text → slice_get starts k ≡ Some s
      → AreKept (map shown (take k ms)) (take k starts) (take s text)
  kept_cut ms starts text k s kept e =
      let at : slice_get (starts_from 0 false (map shown ms)) k ≡ Some s = ap (λ ns. slice_get ns k) (sym kept.places) ∙ e in
      record {
        places = ap (take k) kept.places ∙ (starts_take k 0 false (map shown ms) ∙ ap (starts_from 0 false) (take-map shown k ms));
        joined = ap (take s) kept.joined ∙ (text_cut (map shown ms) k s at ∙ ap (record_pieces false) (take-map shown k ms));
      }

  pub may_cut : (ms : List T) (starts text : List ℕ) (k s : ℕ) → AreKept (map shown ms) starts text → slice_get starts k ≡ Some s → IsCut text s
  may_cut ms starts text k s kept e = subst (λ t. IsCut t s) (sym kept.joined) (is_cut (map shown ms) k s (ap (λ ns. slice_get ns k) (sym kept.places) ∙ e))

  pub none_cut : (ms : List T) (starts text : List ℕ) (k : ℕ) → AreKept (map shown ms) starts text → slice_get starts k ≡ None → ms ≡ take k ms
  none_cut ms starts text k kept e =
      let short = none_from (map shown ms) 0 false k (ap (λ ns. slice_get ns k) (sym kept.places) ∙ e) in
      sym (take_all k ms (omega (arith, short, length_shown ms)))
    where
      length_shown : (ms : List T) → length (map shown ms) ≡ length ms
      length_shown [] = refl
      length_shown (x ∷ xs) = ap suc (length_shown xs)

-- one more of the members that are left
pub followed : {T : Type 0} (old new rest list : List T) (i : ℕ) (x : T) → i < length rest → x ≡ get_or rest i x → new ≡ old ++ x ∷ []
    → old ++ drop i rest ≡ list → new ++ drop (i + 1) rest ≡ list
followed old new rest list i x within read added is =
    ap (λ s. s ++ drop (i + 1) rest) added
    ∙ (append_assoc old (x ∷ []) (drop (i + 1) rest)
    ∙ (ap (λ s. old ++ s) (ap (λ y. y ∷ drop (i + 1) rest) read ∙ sym (drop_more rest i x within))
    ∙ is))
