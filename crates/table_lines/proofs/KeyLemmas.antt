-- What is read as the key of a row is one.
use Rattle.std.proofs.Common.{◌≡◌, refl, ap, subst, ℕ, zero, suc, ◌+◌, ◌*◌, ◌/◌, ◌^◌, ◌≤◌, ◌<◌, Bool, true, false, nat_le, if◌then◌else◌, List, [], ◌∷◌, Option, None, Some, arith}
use Rattle.std.specs.Prelude.{IfSome, bytes_eq, codes}
use Rattle.std.specs.List.{list_all}
use Rattle.std.proofs.lemmas.Bool.Decides.{nat_tests}
use Rattle.std.proofs.Math.Nat.{div-mul-le_self}
use Rattle.sefl_syntax.specs.declared.net.TableKind.{TableKind}
use Rattle.sefl_syntax.specs.declared.net.TableKind.TheVariants.{Mac, Fib}
use Rattle.table_lines.specs.declared.content.Content.{Content}
use Rattle.table_lines.specs.declared.content.Content.TheVariants.{Skipped, Bad, Ports, Row}
use Rattle.table_lines.specs.declared.pieces.Separator.TheVariants.{Slash}
use Rattle.table_lines.specs.Pieces.{pieces}
use Rattle.table_lines.specs.Words.{is_ascii_byte, before_comment, words}
use Rattle.table_lines.specs.Numbers.{number, plain_number, at_most}
use Rattle.table_lines.specs.Addresses.{if_some, separator_of, base_of, digits_of, part_of, bytes_from, address_of, size_of, first_address, cut_prefix, prefix_of, mac_key, key_of}
use Rattle.table_lines.specs.Contents.{header_of, row_of, two_words, words_say, content_of}
use Rattle.table_lines.specs.Laws.{IsKey}
use Rattle.table_lines.proofs.NumberLemmas.{byte_more}

at_most_is : (limit : ℕ) (found : Option ℕ) → IfSome (at_most limit found) (λ n. n ≤ limit)
at_most_is limit None = tt
at_most_is limit (Some n) = by (nat_le n limit) refl
  where
    by : (b : Bool) → nat_le n limit ≡ b → IfSome (if b then Some n else None) (λ n. n ≤ limit)
    by true h = grind (arith, nat_tests, h)
    by false h = tt

bytes_small : (kind : TableKind) (n m value : ℕ) (ps : List (List ℕ)) → value < 256 ^ m → IfSome (bytes_from kind n value ps) (λ a. a < 256 ^ (m + n))
bytes_small kind zero m value [] room = let same : m ≡ m + 0 = omega arith in subst (λ k. value < 256 ^ k) same room
bytes_small kind zero m value (p ∷ ps) room = tt
bytes_small kind (suc n) m value [] room = tt
bytes_small kind (suc n) m value (p ∷ ps) room =
    by (part_of kind p) (at_most_is 255 (number (base_of kind) (digits_of kind) p))
    (λ byte most. bytes_small kind n (m + 1) (value * 256 + byte) ps (byte_more value byte m most room))
  where
    same : (m + 1) + n ≡ m + suc n
    same = omega arith

    by : (o : Option ℕ) → IfSome o (λ byte. byte ≤ 255)
        → ((byte : ℕ) → byte ≤ 255 → IfSome (bytes_from kind n (value * 256 + byte) ps) (λ a. a < 256 ^ ((m + 1) + n)))
        → IfSome (if_some o (λ byte. bytes_from kind n (value * 256 + byte) ps)) (λ a. a < 256 ^ (m + suc n))
    by None most rest = tt
    by (Some byte) most rest = moved (bytes_from kind n (value * 256 + byte) ps) (rest byte most)
      where
        moved : (o : Option ℕ) → IfSome o (λ a. a < 256 ^ ((m + 1) + n)) → IfSome o (λ a. a < 256 ^ (m + suc n))
        moved None h = tt
        moved (Some a) h = omega (arith, h, ap (λ k. 256 ^ k) same)

first_small : (address length : ℕ) → address < 2 ^ 32 → first_address address length < 2 ^ 32
first_small address length less = let h : address / size_of length * size_of length ≤ address = div-mul-le_self address (size_of length) in omega (arith, h, less)

cut_is : (address length : Option ℕ) → IfSome address (λ a. a < 2 ^ 32) → IfSome length (λ n. n ≤ 32) → IfSome (cut_prefix address length) (λ key. IsKey Fib key.0 key.1)
cut_is None length small short = tt
cut_is (Some address) None small short = tt
cut_is (Some address) (Some length) small short = (short, address / size_of length, refl, first_small address length small)

prefix_is : (ps : List (List ℕ)) → IfSome (prefix_of ps) (λ key. IsKey Fib key.0 key.1)
prefix_is [] = tt
prefix_is (address ∷ []) = tt
prefix_is (address ∷ length ∷ []) =
    cut_is (address_of Fib address) (at_most 32 (plain_number length)) (bytes_small Fib 4 0 0 (pieces (separator_of Fib) address) (omega arith)) (at_most_is 32 (plain_number length))
prefix_is (address ∷ length ∷ more ∷ later) = tt

mac_is : (address : Option ℕ) → IfSome address (λ a. a < 2 ^ 48) → IfSome (mac_key address) (λ key. IsKey Mac key.0 key.1)
mac_is None small = tt
mac_is (Some address) small = (refl, small)

pub key_is : (kind : TableKind) (word : List ℕ) → IfSome (key_of kind word) (λ key. IsKey kind key.0 key.1)
key_is Mac word = mac_is (address_of Mac word) (bytes_small Mac 6 0 0 (pieces (separator_of Mac) word) (omega arith))
key_is Fib word = prefix_is (pieces Slash word)

-- a row of a line has a key
abbrev pub IsFine : TableKind → Content → Type 0
IsFine kind Skipped = Unit {0}
IsFine kind Bad = Unit {0}
IsFine kind (Ports n) = Unit {0}
IsFine kind (Row key port) = IsKey kind key.0 key.1

row_fine : (kind : TableKind) (key : Option (ℕ × ℕ)) (port : Option ℕ) → IfSome key (λ key. IsKey kind key.0 key.1) → IsFine kind (row_of key port)
row_fine kind None port is = tt
row_fine kind (Some key) None is = tt
row_fine kind (Some key) (Some port) is = is

header_fine : (kind : TableKind) (found : Option ℕ) → IsFine kind (header_of found)
header_fine kind None = tt
header_fine kind (Some n) = by _
  where
    by : (b : Bool) → IsFine kind (if b then Ports n else Bad)
    by true = tt
    by false = tt

two_fine : (kind : TableKind) (first second : List ℕ) → IsFine kind (two_words kind first second)
two_fine kind first second = by (bytes_eq first (codes "ports"))
  where
    by : (b : Bool) → IsFine kind (if b then header_of (plain_number second) else row_of (key_of kind first) (plain_number second))
    by true = header_fine kind (plain_number second)
    by false = row_fine kind (key_of kind first) (plain_number second) (key_is kind first)

words_fine : (kind : TableKind) (ws : List (List ℕ)) → IsFine kind (words_say kind ws)
words_fine kind [] = tt
words_fine kind (first ∷ []) = tt
words_fine kind (first ∷ second ∷ []) = two_fine kind first second
words_fine kind (first ∷ second ∷ third ∷ later) = tt

pub content_fine : (kind : TableKind) (line : List ℕ) → IsFine kind (content_of kind line)
content_fine kind line = by (list_all is_ascii_byte line)
  where
    by : (b : Bool) → IsFine kind (if b then words_say kind (words (before_comment line)) else Bad)
    by true = words_fine kind (words (before_comment line))
    by false = tt
