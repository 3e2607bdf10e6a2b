-- Lists that a loop gathers from bytes.
use Rattle.std.proofs.Common.{ℕ, ◌≡◌, ◌≢◌, ◌+◌, ◌<◌, ◌≤◌, List, [], ◌∷◌, ◌++◌, length, map, take, drop, sym, ap, ap₂, subst, refl, ◌∙◌, append_assoc, append-nil, take-append-drop, length-append, arith, IsUtf8, IfNone, Option, None, Some}
use Rattle.std.proofs.lemmas.List.{map-append}
use Rattle.std.specs.Int.{w64, from_le_bytes}
use Rattle.caller_edge.specs.Lists.{Has, IsNext, IsNextFile, IsNextText}

-- what was cut off behind the length is a part
pub part_found : (bytes head left part rest : List ℕ) (size : ℕ) → head ≡ take 8 bytes → left ≡ drop 8 bytes → 8 ≤ length bytes → size ≡ from_le_bytes w64 head
    → part ≡ take size left → rest ≡ drop size left → length part ≡ size → IsNext bytes part rest
part_found bytes head left part rest size is_head is_left whole is_size is_part is_rest len = record {
  whole = whole;
  size = ap (λ (xs : List ℕ). from_le_bytes w64 xs) (sym is_head) ∙ sym is_size ∙ sym len;
  is = sym is_left ∙ sym (take-append-drop size left) ∙ ap₂ (λ (xs ys : List ℕ). xs ++ ys) (sym is_part) (sym is_rest);
}

-- there is none where fewer bytes are left than the length says
pub no_room : (bytes head left : List ℕ) (size : ℕ) → head ≡ take 8 bytes → left ≡ drop 8 bytes → size ≡ from_le_bytes w64 head → length left < size
    → (part rest : List ℕ) → IsNext bytes part rest → ⊥
no_room bytes head left size is_head is_left is_size short part rest next =
    let long : length left ≡ length part + length rest = ap length (is_left ∙ next.is) ∙ length-append part rest in
    let same : size ≡ length part = is_size ∙ ap (λ (xs : List ℕ). from_le_bytes w64 xs) is_head ∙ next.size in
    absurd (omega (arith, long, same, short))

-- a list that is split at one length is split in one way
split_once : (p q r s : List ℕ) → length p ≡ length q → p ++ r ≡ q ++ s → (p ≡ q) × (r ≡ s)
split_once [] [] r s len is = (refl, is)
split_once [] (y ∷ q) r s len is = absurd (omega (arith, len))
split_once (x ∷ p) [] r s len is = absurd (omega (arith, len))
split_once (x ∷ p) (y ∷ q) r s len is =
    let lens : length p ≡ length q = omega (arith, len) in
    let heads : x ≡ y = grind (arith, is) in
    let tails : p ++ r ≡ q ++ s = grind (arith, is) in
    let (same, rest) = split_once p q r s lens tails in (ap₂ (λ (z : ℕ) (zs : List ℕ). z ∷ zs) heads same, rest)

-- the first part is one, and so is what is behind it
part_once : (bytes p q r s : List ℕ) → IsNext bytes p r → IsNext bytes q s → (p ≡ q) × (r ≡ s)
part_once bytes p q r s one other = split_once p q r s (sym one.size ∙ other.size) (sym one.is ∙ other.is)

text_once : (bytes p q r s : List ℕ) → IsNextText bytes p r → IsNextText bytes q s → (p ≡ q) × (r ≡ s)
text_once bytes p q r s one other = part_once bytes p q r s one.0 other.0

file_once : (bytes : List ℕ) (p q : List ℕ × List ℕ) (r s : List ℕ) → IsNextFile bytes p r → IsNextFile bytes q s → (p ≡ q) × (r ≡ s)
file_once bytes (n, f) (m, g) r s (behind, named, file) (back, other, last) =
    let (names, same) = text_once bytes n m behind back named other in
    let (files, rests) = part_once behind f g r s file (subst (λ (b : List ℕ). IsNext b g s) (sym same) last) in
    (ap₂ (λ (a b : List ℕ). (a, b)) names files, rests)

-- a first part that is no text
pub not_text : (bytes part left : List ℕ) → IsNext bytes part left → (IsUtf8 part → ⊥) → (text rest : List ℕ) → IsNextText bytes text rest → ⊥
not_text bytes part left one none text rest next = none (subst (λ (xs : List ℕ). IsUtf8 xs) (sym (part_once bytes part text left rest one next.0).0) next.1)

-- behind a name there is no part
pub not_file : (bytes name behind : List ℕ) → IsNextText bytes name behind → ((part rest : List ℕ) → IsNext behind part rest → ⊥)
    → (file : List ℕ × List ℕ) (rest : List ℕ) → IsNextFile bytes file rest → ⊥
not_file bytes name behind named none (n, f) rest (back, other, last) =
    none f rest (subst (λ (b : List ℕ). IsNext b f rest) (sym (text_once bytes name n behind back named other).1) last)

-- a list with no member
pub empty : (xs : List ℕ) → length xs ≡ 0 → xs ≡ []
empty [] none = refl
empty (x ∷ xs) none = absurd (omega (arith, none))

-- what a push adds to the views of a list's items
pub pushed : {A B : Type 0} (f : A → B) (old new : List A) (a : A) (b : B) → new ≡ old ++ a ∷ [] → f a ≡ b → map f new ≡ map f old ++ b ∷ []
pushed {A} {B} f old new a b is same =
    ap (λ (xs : List A). map f xs) is ∙ map-append f old (a ∷ []) ∙ ap (λ (x : B). map f old ++ x ∷ []) same

-- a fact for None, where it holds
pub if_none : {A : Type 0} (o : Option A) (P : Type 0) → P → IfNone o P
if_none None P p = p
if_none (Some x) P p = tt

no_part : (p r : List ℕ) → IsNext [] p r → ⊥
no_part p r next = absurd (omega (arith, next.whole))

no_text : (p r : List ℕ) → IsNextText [] p r → ⊥
no_text p r next = no_part p r next.0

no_file : (p : List ℕ × List ℕ) (r : List ℕ) → IsNextFile [] p r → ⊥
no_file (n, f) r (behind, named, file) = no_part n behind named.0

-- whatever the rest has, the whole has what was found and that; and nothing else
pub record IsSoFar {X : Type 0} (Next : List ℕ → X → List ℕ → Type 0) (whole left : List ℕ) (found : List X) : Type 0 where
  pub has : (more : List X) → Has Next left more → Has Next whole (found ++ more)
  pub only : (all : List X) → Has Next whole all → (more : List X) × Has Next left more × (all ≡ found ++ more)

module _ (X : Type 0) (Next : List ℕ → X → List ℕ → Type 0)
    (once : (bytes : List ℕ) (x y : X) (r s : List ℕ) → Next bytes x r → Next bytes y s → (x ≡ y) × (r ≡ s))
    (none : (x : X) (r : List ℕ) → Next [] x r → ⊥) where
  pub begun : (whole : List ℕ) → IsSoFar Next whole whole []
  begun whole = record { has = λ more h. h; only = λ all h. (all, h, refl) }

  -- what has an item more
  item_left : (left rest : List ℕ) (x : X) (more : List X) → Next left x rest → Has Next left more
      → (others : List X) × Has Next rest others × (more ≡ x ∷ others)
  item_left left rest x [] next ends = absurd (none x rest (subst (λ (b : List ℕ). Next b x rest) ends next))
  item_left left rest x (y ∷ ys) next (back, other, has) =
      let (same, rests) = once left x y rest back next other in
      (ys, subst (λ (b : List ℕ). Has Next b ys) (sym rests) has, ap (λ (z : X). z ∷ ys) (sym same))

  pub goes_on : (whole left rest : List ℕ) (found new : List X) (x : X) → new ≡ found ++ x ∷ [] → IsSoFar Next whole left found → Next left x rest
      → IsSoFar Next whole rest new
  goes_on whole left rest found new x is far next = subst (λ (items : List X). IsSoFar Next whole rest items) (sym is) (record {
    has = λ more h. subst (λ (items : List X). Has Next whole items) (sym (append_assoc found (x ∷ []) more)) (far.has (x ∷ more) (rest, next, h));
    only = λ all h.
        let (more, has, same) = far.only all h in
        let (others, left', one) = item_left left rest x more next has in
        (others, left', same ∙ ap (λ (items : List X). found ++ items) one ∙ sym (append_assoc found (x ∷ []) others));
  })

  -- nothing is left
  pub ended : (whole left : List ℕ) (found : List X) → left ≡ [] → IsSoFar Next whole left found → Has Next whole found
  ended whole left found ends far = subst (λ (items : List X). Has Next whole items) (append-nil found) (far.has [] ends)

  -- what is left begins with no item
  pub stopped : (whole left : List ℕ) (found : List X) → left ≢ [] → ((x : X) (r : List ℕ) → Next left x r → ⊥) → IsSoFar Next whole left found
      → (all : List X) → Has Next whole all → ⊥
  stopped whole left found more stops far all h = no_more left (far.only all h).0 more stops (far.only all h).1
    where
      no_more : (left : List ℕ) (others : List X) → left ≢ [] → ((x : X) (r : List ℕ) → Next left x r → ⊥) → Has Next left others → ⊥
      no_more left [] more stops ends = more ends
      no_more left (x ∷ xs) more stops (rest, next, has) = stops x rest next

  -- the bytes have one list
  pub has_once : (bytes : List ℕ) (one other : List X) → Has Next bytes one → Has Next bytes other → one ≡ other
  has_once bytes [] [] a b = refl
  has_once bytes [] (y ∷ ys) ends (rest, next, has) = absurd (none y rest (subst (λ (b : List ℕ). Next b y rest) ends next))
  has_once bytes (x ∷ xs) [] (rest, next, has) ends = absurd (none x rest (subst (λ (b : List ℕ). Next b x rest) ends next))
  has_once bytes (x ∷ xs) (y ∷ ys) (rest, next, has) (back, other, last) =
      let (same, rests) = once bytes x y rest back next other in
      ap₂ (λ (z : X) (zs : List X). z ∷ zs) same (has_once rest xs ys has (subst (λ (b : List ℕ). Has Next b ys) (sym rests) last))

-- the same of texts, and of files
abbrev pub TextsSoFar : List ℕ → List ℕ → List (List ℕ) → Type 0
TextsSoFar = IsSoFar IsNextText

abbrev pub FilesSoFar : List ℕ → List ℕ → List (List ℕ × List ℕ) → Type 0
FilesSoFar = IsSoFar IsNextFile

pub texts_begun : (whole : List ℕ) → TextsSoFar whole whole []
texts_begun = begun (List ℕ) IsNextText text_once no_text

pub texts_go_on : (whole left rest : List ℕ) (found new : List (List ℕ)) (x : List ℕ) → new ≡ found ++ x ∷ [] → TextsSoFar whole left found → IsNextText left x rest
    → TextsSoFar whole rest new
texts_go_on = goes_on (List ℕ) IsNextText text_once no_text

pub texts_end : (whole left : List ℕ) (found : List (List ℕ)) → left ≡ [] → TextsSoFar whole left found → Has IsNextText whole found
texts_end = ended (List ℕ) IsNextText text_once no_text

pub texts_stop : (whole left : List ℕ) (found : List (List ℕ)) → left ≢ [] → ((x r : List ℕ) → IsNextText left x r → ⊥) → TextsSoFar whole left found
    → (all : List (List ℕ)) → Has IsNextText whole all → ⊥
texts_stop = stopped (List ℕ) IsNextText text_once no_text

pub texts_once : (bytes : List ℕ) (one other : List (List ℕ)) → Has IsNextText bytes one → Has IsNextText bytes other → one ≡ other
texts_once = has_once (List ℕ) IsNextText text_once no_text

pub files_begun : (whole : List ℕ) → FilesSoFar whole whole []
files_begun = begun (List ℕ × List ℕ) IsNextFile file_once no_file

pub files_go_on : (whole left rest : List ℕ) (found new : List (List ℕ × List ℕ)) (x : List ℕ × List ℕ) → new ≡ found ++ x ∷ [] → FilesSoFar whole left found
    → IsNextFile left x rest → FilesSoFar whole rest new
files_go_on = goes_on (List ℕ × List ℕ) IsNextFile file_once no_file

pub files_end : (whole left : List ℕ) (found : List (List ℕ × List ℕ)) → left ≡ [] → FilesSoFar whole left found → Has IsNextFile whole found
files_end = ended (List ℕ × List ℕ) IsNextFile file_once no_file

pub files_stop : (whole left : List ℕ) (found : List (List ℕ × List ℕ)) → left ≢ [] → ((x : List ℕ × List ℕ) (r : List ℕ) → IsNextFile left x r → ⊥)
    → FilesSoFar whole left found → (all : List (List ℕ × List ℕ)) → Has IsNextFile whole all → ⊥
files_stop = stopped (List ℕ × List ℕ) IsNextFile file_once no_file

pub files_once : (bytes : List ℕ) (one other : List (List ℕ × List ℕ)) → Has IsNextFile bytes one → Has IsNextFile bytes other → one ≡ other
files_once = has_once (List ℕ × List ℕ) IsNextFile file_once no_file
