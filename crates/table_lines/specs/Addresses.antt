-- Addresses and prefixes.
use Rattle.std.specs.Prelude.{ℕ, zero, suc, ◌+◌, ◌-◌, ◌*◌, ◌/◌, ◌^◌, List, [], ◌∷◌, Option, None, Some}
use Rattle.sefl_syntax.specs.declared.net.TableKind.{TableKind}
use Rattle.sefl_syntax.specs.declared.net.TableKind.TheVariants.{Mac, Fib}
use Rattle.table_lines.specs.declared.pieces.Separator.{Separator}
use Rattle.table_lines.specs.declared.pieces.Separator.TheVariants.{Colon, Dot, Slash}
use Rattle.table_lines.specs.Pieces.{pieces}
use Rattle.table_lines.specs.Numbers.{number, plain_number, at_most}

abbrev pub if_some : {A B : Type 0} → Option A → (A → Option B) → Option B
if_some None next = None
if_some (Some x) next = next x

-- the base of a part of an address, its most digits, how many parts there are, and what stands between them
abbrev pub base_of : TableKind → ℕ
base_of Mac = 16
base_of Fib = 10

abbrev pub digits_of : TableKind → ℕ
digits_of Mac = 2
digits_of Fib = 3

abbrev pub parts_of : TableKind → ℕ
parts_of Mac = 6
parts_of Fib = 4

abbrev pub separator_of : TableKind → Separator
separator_of Mac = Colon
separator_of Fib = Dot

-- a part is a byte; it may have leading zeros
abbrev pub part_of : TableKind → List ℕ → Option ℕ
part_of kind piece = at_most 255 (number (base_of kind) (digits_of kind) piece)

-- the number whose bytes are this many parts, behind the bytes of a number
abbrev pub bytes_from : TableKind → ℕ → ℕ → List (List ℕ) → Option ℕ
bytes_from kind zero value [] = Some value
bytes_from kind zero value (piece ∷ later) = None
bytes_from kind (suc n) value [] = None
bytes_from kind (suc n) value (piece ∷ later) = if_some (part_of kind piece) (λ byte. bytes_from kind n (value * 256 + byte) later)

abbrev pub address_of : TableKind → List ℕ → Option ℕ
address_of kind word = bytes_from kind (parts_of kind) 0 (pieces (separator_of kind) word)

-- how many IPv4 addresses a prefix has, by its length
abbrev pub size_of : ℕ → ℕ
size_of length = 2 ^ (32 - length)

-- the address with the bits past the length at 0
abbrev pub first_address : ℕ → ℕ → ℕ
first_address address length = address / size_of length * size_of length

abbrev pub cut_prefix : Option ℕ → Option ℕ → Option (ℕ × ℕ)
cut_prefix None length = None
cut_prefix (Some address) None = None
cut_prefix (Some address) (Some length) = Some (first_address address length, length)

-- an address and a length, from what stands between slashes
abbrev pub prefix_of : List (List ℕ) → Option (ℕ × ℕ)
prefix_of [] = None
prefix_of (address ∷ []) = None
prefix_of (address ∷ length ∷ []) = cut_prefix (address_of Fib address) (at_most 32 (plain_number length))
prefix_of (address ∷ length ∷ more ∷ later) = None

-- all bits of an address of Ethernet count
abbrev pub mac_key : Option ℕ → Option (ℕ × ℕ)
mac_key None = None
mac_key (Some address) = Some (address, 48)

-- what a row is about: an address, or a prefix
abbrev pub key_of : TableKind → List ℕ → Option (ℕ × ℕ)
key_of Mac word = mac_key (address_of Mac word)
key_of Fib word = prefix_of (pieces Slash word)
