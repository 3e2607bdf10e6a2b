-- The patterns and rules of arguments.
use Rattle.std.specs.Prelude.{ℕ, ◌+◌, ◌-◌, ◌^◌, Bool, true, false, ◌||◌, bytes_eq, codes, if◌then◌else◌, List, [], ◌∷◌, ◌++◌, Option, None, Some, option_map}
use Rattle.sefl_syntax.specs.declared.net.TableKind.TheVariants.{Fib}
use Rattle.table_lines.specs.Words.{words}
use Rattle.table_lines.specs.Addresses.{address_of, key_of, if_some}
use Rattle.click_elements.specs.declared.class.Direction.{Direction}
use Rattle.click_elements.specs.declared.class.Direction.TheVariants.{Source, Destination}
use Rattle.click_elements.specs.declared.class.Primitive.{Primitive}
use Rattle.click_elements.specs.declared.class.Primitive.TheVariants as primitive
use Rattle.click_elements.specs.Classes.{RuleSeen}
use Rattle.click_model.specs.declared.expect.Expect.{Expect}
use Rattle.click_model.specs.declared.expect.Expect.TheVariants.{First, Kind, Host, Net, Port, Proto, Protocol, Joint}
use Rattle.click_model.specs.declared.expect.Heard.{Heard}
use Rattle.click_model.specs.declared.expect.Heard.TheVariants.{Refused, Goes, Puts}
use Rattle.click_model.specs.Arguments.{number_to}

-- the first word of a primitive
abbrev pub first_word : List ℕ → Heard
first_word word =
    if bytes_eq word (codes "-") || bytes_eq word (codes "all") then Puts primitive.All
    else (if bytes_eq word (codes "src") then Goes (Kind Source)
    else (if bytes_eq word (codes "dst") then Goes (Kind Destination)
    else (if bytes_eq word (codes "ip") then Goes Proto
    else (if bytes_eq word (codes "tcp") then Puts (primitive.Protocol 6)
    else (if bytes_eq word (codes "udp") then Puts (primitive.Protocol 17)
    else (if bytes_eq word (codes "icmp") then Puts (primitive.Protocol 1) else Refused))))))

abbrev pub kind_word : Direction → List ℕ → Heard
kind_word direction word =
    if bytes_eq word (codes "host") then Goes (Host direction)
    else (if bytes_eq word (codes "net") then Goes (Net direction)
    else (if bytes_eq word (codes "port") then Goes (Port direction) else Refused))

abbrev pub host : Direction → Option ℕ → Heard
host direction None = Refused
host direction (Some address) = Puts (primitive.Host direction address)

-- the addresses of a prefix, from the first one to the last
abbrev pub net : Direction → Option (ℕ × ℕ) → Heard
net direction None = Refused
net direction (Some key) = Puts (primitive.Net direction key.0 (key.0 + 2 ^ (32 - key.1) - 1))

abbrev pub port : Direction → Option ℕ → Heard
port direction None = Refused
port direction (Some number) = Puts (primitive.Port direction number)

abbrev pub protocol : Option ℕ → Heard
protocol None = Refused
protocol (Some number) = Puts (primitive.Protocol number)

-- where such a word is expected, the pattern goes on with it
abbrev pub expected : Bool → Expect → Heard
expected true next = Goes next
expected false next = Refused

-- what a word says where such a one is expected
abbrev pub heard : Expect → List ℕ → Heard
heard First word = first_word word
heard (Kind direction) word = kind_word direction word
heard (Host direction) word = host direction (address_of Fib word)
heard (Net direction) word = net direction (key_of Fib word)
heard (Port direction) word = port direction (number_to 65535 (Some word))
heard Proto word = expected (bytes_eq word (codes "proto")) Protocol
heard Protocol word = protocol (number_to 255 (Some word))
heard Joint word = expected (bytes_eq word (codes "&&") || bytes_eq word (codes "and")) First

-- a pattern ends behind a primitive
abbrev pub finished : Expect → List Primitive → Option (List Primitive)
finished First found = None
finished (Kind direction) found = None
finished (Host direction) found = None
finished (Net direction) found = None
finished (Port direction) found = None
finished Proto found = None
finished Protocol found = None
finished Joint found = Some found

abbrev pub went : Heard → List Primitive → (Expect → List Primitive → Option (List Primitive)) → Option (List Primitive)
went Refused found next = None
went (Goes expect) found next = next expect found
went (Puts p) found next = next Joint (found ++ p ∷ [])

-- the primitives of words, behind those found so far
abbrev pub primitives : Expect → List Primitive → List (List ℕ) → Option (List Primitive)
primitives expect found [] = finished expect found
primitives expect found (word ∷ later) = went (heard expect word) found (λ expect found. primitives expect found later)

abbrev pub pattern_of : List (List ℕ) → Option (List Primitive)
pattern_of ws = primitives First [] ws

-- the patterns of arguments, behind those found so far
abbrev pub patterns_from : List (List Primitive) → List (List ℕ) → Option (List (List Primitive))
patterns_from found [] = Some found
patterns_from found (argument ∷ later) = if_some (pattern_of (words argument)) (λ p. patterns_from (found ++ p ∷ []) later)

-- whether packets that pass are let through
abbrev pub allows : List ℕ → Option Bool
allows word =
    if bytes_eq word (codes "allow") then Some true
    else (if bytes_eq word (codes "deny") || bytes_eq word (codes "drop") then Some false else None)

abbrev pub rule_of : List (List ℕ) → Option RuleSeen
rule_of [] = None
rule_of (word ∷ later) = if_some (allows word) (λ lets. option_map (λ p. record { allows = lets; pattern = p }) (pattern_of later))

-- the rules of arguments, behind those found so far
abbrev pub rules_from : List RuleSeen → List (List ℕ) → Option (List RuleSeen)
rules_from found [] = Some found
rules_from found (argument ∷ later) = if_some (rule_of (words argument)) (λ r. rules_from (found ++ r ∷ []) later)
