-- Lists of texts and of files as bytes: each part behind its length, in eight bytes with the lowest first.
use Rattle.std.specs.Prelude.{ℕ, ◌≡◌, ◌≤◌, List, [], ◌∷◌, ◌++◌, length, take, drop, IsUtf8}
use Rattle.std.specs.Int.{w64, from_le_bytes}

-- the bytes begin with this part, and this is behind it
pub record IsNext (bytes part rest : List ℕ) : Type 0 where
  pub whole : 8 ≤ length bytes
  pub size : from_le_bytes w64 (take 8 bytes) ≡ length part
  pub is : drop 8 bytes ≡ part ++ rest

-- the part is a text
abbrev pub IsNextText : List ℕ → List ℕ → List ℕ → Type 0
IsNextText bytes text rest = IsNext bytes text rest × IsUtf8 text

-- two parts are a file: its name, which is a text, and then its bytes
abbrev pub IsNextFile : List ℕ → List ℕ × List ℕ → List ℕ → Type 0
IsNextFile bytes (name, file) rest = (behind : List ℕ) × IsNextText bytes name behind × IsNext behind file rest

-- the bytes are just these items, one behind the other
abbrev pub Has : {X : Type 0} → (List ℕ → X → List ℕ → Type 0) → List ℕ → List X → Type 0
Has Next bytes [] = bytes ≡ []
Has Next bytes (x ∷ xs) = (rest : List ℕ) × Next bytes x rest × Has Next rest xs

abbrev pub HasTexts : List ℕ → List (List ℕ) → Type 0
HasTexts = Has IsNextText

abbrev pub HasFiles : List ℕ → List (List ℕ × List ℕ) → Type 0
HasFiles = Has IsNextFile
