-- The commands, and the words that give them.
use Rattle.std.specs.Prelude.{ℕ, ◌≤◌, ◌<◌, ◌^◌, Bool, true, false, List, [], ◌∷◌, map, String, string_bytes, codes, Option, Some, None, option_map, option_and_then, if◌then◌else◌}
use Rattle.std.specs.Option.{option_or}
use Rattle.std.specs.Str.{bytes_eq}
use Rattle.std.specs.declared.alloc.Global.{Global}
use Rattle.command_words.specs.Forms.{Form, Text, read_form, value_of}
use Rattle.command_words.specs.Numbers.{count_of, number_in, number_or, seed_of}
use Rattle.net_check.specs.declared.injection.TheConstants.{USUAL_CHOICES}
use Rattle.command_words.specs.declared.command.TheConstants.{HOPS, LIMIT, MOST_ANSWER_LIMIT, MOST_BOXES, MOST_HOPS, MOST_LIMIT}
use Rattle.command_words.specs.declared.command.Command.{Command as CommandOf}
use Rattle.command_words.specs.declared.command.Command.TheVariants as given
use Rattle.command_words.specs.declared.command.Extent.{Extent}
use Rattle.command_words.specs.declared.command.Extent.TheVariants.{Each, Whole}
use Rattle.command_words.specs.declared.command.FilterStyle.{FilterStyle}
use Rattle.command_words.specs.declared.command.FilterStyle.TheVariants as filter
use Rattle.command_words.specs.declared.command.Packets.{Packets}
use Rattle.command_words.specs.declared.command.Packets.TheVariants.{One, Lines}
use Rattle.command_words.specs.declared.command.Open.{Open}
use Rattle.command_words.specs.declared.command.Open.TheVariants.{Numbers, Visits}
use Rattle.path_records.specs.declared.sides.RefutedSides.{RefutedSides}
use Rattle.path_records.specs.declared.sides.RefutedSides.TheVariants.{Written, Counted}
use Rattle.sefl_syntax.specs.declared.net.Style.{Style}
use Rattle.sefl_syntax.specs.declared.net.Style.TheVariants.{Chain, Grouped, Egress}
use Rattle.sefl_syntax.specs.declared.net.TableKind.{TableKind}
use Rattle.sefl_syntax.specs.declared.net.TableKind.TheVariants.{Mac, Fib}
use Rattle.command_words.specs.declared.command.Verb.{Verb}
use Rattle.command_words.specs.declared.command.Verb.TheVariants.{Explore, Walk, Replay, Ask, Loops, Compare, Model, Click, Acl, Rules, BothRules, Grow}

-- a command, with the names of the files that it reads, and what its options give
pub data Command : Type 0 where
  -- the job; hops, limit and a bound on choices of cases, and what is written of pruned records
  explore : Text → ℕ → ℕ → ℕ → RefutedSides → Command
  -- the job and the packet; hops and limit
  walk : Text → Text → ℕ → ℕ → Command
  -- the job and the packets; hops and limit
  walk_lines : Text → Text → ℕ → ℕ → Command
  -- the job and the report
  replay : Text → Text → Command
  -- the same, of all of its records together
  replay_whole : Text → Text → Command
  -- the job; hops, limit and a bound on choices of cases
  ask : Text → ℕ → ℕ → ℕ → Command
  -- the job; the same, and what is written of paths without a loop
  loops : Text → ℕ → ℕ → ℕ → Open → Command
  -- the job and the other one; hops, limit and a bound on choices of cases; and whether paths that are cut are counted
  compare : Text → Text → ℕ → ℕ → ℕ → Bool → Command
  -- a table's file; and the style of its node
  model : TableKind → Text → Style → Command
  -- the file of a Click configuration
  click : Text → Command
  -- a filter list's file; and the style of its node
  acl : Text → FilterStyle → Command
  -- a filter list's file
  rules : Text → Command
  -- a filter list's file and the other one
  both_rules : Text → Text → Command
  -- the seed of a job, and the number of its boxes
  grow : ℕ → ℕ → Command

abbrev pub command_of : CommandOf → Command
command_of (given.Explore job hops limit cases pruned) = explore job.now hops limit cases pruned
command_of (given.Walk job packet hops limit) = walk job.now packet.now hops limit
command_of (given.WalkLines job packets hops limit) = walk_lines job.now packets.now hops limit
command_of (given.Replay job report) = replay job.now report.now
command_of (given.ReplayWhole job report) = replay_whole job.now report.now
command_of (given.Ask job hops limit cases) = ask job.now hops limit cases
command_of (given.Loops job hops limit cases detail) = loops job.now hops limit cases detail
command_of (given.Compare job other hops limit cases counts_cut) = compare job.now other.now hops limit cases counts_cut
command_of (given.Model table file style) = model table file.now style
command_of (given.Click file) = click file.now
command_of (given.Acl file style) = acl file.now style
command_of (given.Rules file) = rules file.now
command_of (given.BothRules file other) = both_rules file.now other.now
command_of (given.Grow seed boxes) = grow seed boxes

-- numbers of options are in their ranges, the limit at most this
abbrev pub AreInRange : ℕ → ℕ → ℕ → Type 0
AreInRange most hops limit = (1 ≤ hops) × (hops ≤ MOST_HOPS) × (1 ≤ limit) × (limit ≤ most)

-- and so is the bound on choices of cases
abbrev pub AreBounds : ℕ → ℕ → ℕ → ℕ → Type 0
AreBounds most hops limit cases = AreInRange most hops limit × (1 ≤ cases) × (cases < 2 ^ 64)

abbrev pub HasRanges : Command → Type 0
HasRanges (explore job hops limit cases pruned) = AreBounds MOST_LIMIT hops limit cases
HasRanges (walk job packet hops limit) = AreInRange MOST_LIMIT hops limit
HasRanges (walk_lines job packets hops limit) = AreInRange MOST_LIMIT hops limit
HasRanges (replay job report) = Unit {0}
HasRanges (replay_whole job report) = Unit {0}
HasRanges (ask job hops limit cases) = AreBounds MOST_ANSWER_LIMIT hops limit cases
HasRanges (loops job hops limit cases detail) = AreBounds MOST_ANSWER_LIMIT hops limit cases
HasRanges (compare job other hops limit cases counts_cut) = AreBounds MOST_ANSWER_LIMIT hops limit cases
HasRanges (model table file style) = Unit {0}
HasRanges (click file) = Unit {0}
HasRanges (acl file style) = Unit {0}
HasRanges (rules file) = Unit {0}
HasRanges (both_rules file other) = Unit {0}
HasRanges (grow seed boxes) = (1 ≤ boxes) × (boxes ≤ MOST_BOXES)

-- what the words behind a command's name may be
abbrev pub form_of_verb : Verb → Form
form_of_verb Explore = record { positionals = codes "JOB" ∷ []; options = codes "hops" ∷ codes "limit" ∷ codes "pruned" ∷ codes "cases" ∷ [] }
form_of_verb Walk = record { positionals = codes "JOB" ∷ codes "PACKET" ∷ []; options = codes "hops" ∷ codes "limit" ∷ codes "packets" ∷ [] }
form_of_verb Replay = record { positionals = codes "JOB" ∷ codes "REPORT" ∷ []; options = codes "records" ∷ [] }
form_of_verb Ask = record { positionals = codes "JOB" ∷ []; options = codes "hops" ∷ codes "limit" ∷ codes "cases" ∷ [] }
form_of_verb Loops =
    record { positionals = codes "JOB" ∷ []; options = codes "hops" ∷ codes "open" ∷ codes "limit" ∷ codes "cases" ∷ [] }
form_of_verb Compare =
    record { positionals = codes "JOB" ∷ codes "OTHER" ∷ []; options = codes "hops" ∷ codes "limit" ∷ codes "cases" ∷ codes "cut" ∷ [] }
form_of_verb (Model table) = record { positionals = codes "FILE" ∷ []; options = codes "style" ∷ [] }
form_of_verb Click = record { positionals = codes "FILE" ∷ []; options = [] }
form_of_verb Acl = record { positionals = codes "FILE" ∷ []; options = codes "style" ∷ [] }
form_of_verb Rules = record { positionals = codes "FILE" ∷ []; options = [] }
form_of_verb BothRules = record { positionals = codes "FILE" ∷ codes "OTHER" ∷ []; options = [] }
form_of_verb Grow = record { positionals = codes "SEED" ∷ codes "NODES" ∷ []; options = [] }

-- the command of a name
abbrev pub verb_of : Text → Option Verb
verb_of word =
    if bytes_eq word (codes "explore") then Some Explore
    else if bytes_eq word (codes "walk") then Some Walk
    else if bytes_eq word (codes "replay") then Some Replay
    else if bytes_eq word (codes "ask") then Some Ask
    else if bytes_eq word (codes "loops") then Some Loops
    else if bytes_eq word (codes "compare") then Some Compare
    else if bytes_eq word (codes "rules") then Some Rules
    else if bytes_eq word (codes "grow") then Some Grow
    else None

-- the command of the name behind `model`
abbrev pub model_of : Text → Option Verb
model_of word =
    if bytes_eq word (codes "mac") then Some (Model Mac)
    else if bytes_eq word (codes "fib") then Some (Model Fib)
    else if bytes_eq word (codes "click") then Some Click
    else if bytes_eq word (codes "acl") then Some Acl
    else None

-- the command that the first words name, and the words behind its name
abbrev pub named : List Text → Option (Verb × List Text)
named [] = None
named (word ∷ []) = option_map (λ verb. (verb, [])) (verb_of word)
named (word ∷ kind ∷ rest) =
    if bytes_eq word (codes "model") then option_map (λ verb. (verb, rest)) (model_of kind)
    else option_map (λ verb. (verb, kind ∷ rest)) (verb_of word)

abbrev pub pruned_of : Text → Option RefutedSides
pruned_of word =
    if bytes_eq word (codes "all") then Some Written
    else if bytes_eq word (codes "count") then Some Counted
    else None

abbrev pub pruned_or_all : Option Text → Option RefutedSides
pruned_or_all None = Some Written
pruned_or_all (Some word) = pruned_of word

-- the bound on choices of cases that a word says: a number from 1 on of 64 bits, or the greatest, which no count is above
abbrev pub cases_of : Text → Option ℕ
cases_of word = if bytes_eq word (codes "all") then Some 18446744073709551615 else count_of word

abbrev pub cases_or_usual : Option Text → Option ℕ
cases_or_usual None = Some USUAL_CHOICES
cases_or_usual (Some word) = cases_of word

abbrev pub open_of : Text → Option Open
open_of word =
    if bytes_eq word (codes "numbers") then Some Numbers
    else if bytes_eq word (codes "visits") then Some Visits
    else None

abbrev pub open_or_numbers : Option Text → Option Open
open_or_numbers None = Some Numbers
open_or_numbers (Some word) = open_of word

abbrev pub extent_of : Text → Option Extent
extent_of word =
    if bytes_eq word (codes "each") then Some Each
    else if bytes_eq word (codes "whole") then Some Whole
    else None

abbrev pub extent_or_each : Option Text → Option Extent
extent_or_each None = Some Each
extent_or_each (Some word) = extent_of word

-- whether paths that are cut are counted
abbrev pub cut_of : Text → Option Bool
cut_of word =
    if bytes_eq word (codes "omit") then Some false
    else if bytes_eq word (codes "count") then Some true
    else None

abbrev pub cut_or_omit : Option Text → Option Bool
cut_or_omit None = Some false
cut_or_omit (Some word) = cut_of word

abbrev pub packets_of : Text → Option Packets
packets_of word =
    if bytes_eq word (codes "one") then Some One
    else if bytes_eq word (codes "lines") then Some Lines
    else None

abbrev pub packets_or_one : Option Text → Option Packets
packets_or_one None = Some One
packets_or_one (Some word) = packets_of word

-- what is walked, by how many packets the file has
abbrev pub walk_of : Packets → Text → Text → ℕ → ℕ → Command
walk_of One = walk
walk_of Lines = walk_lines

-- and what is confirmed
abbrev pub replay_of : Extent → Text → Text → Command
replay_of Each = replay
replay_of Whole = replay_whole

abbrev pub style_of : Text → Option Style
style_of word =
    if bytes_eq word (codes "chain") then Some Chain
    else if bytes_eq word (codes "grouped") then Some Grouped
    else if bytes_eq word (codes "egress") then Some Egress
    else None

abbrev pub style_or_grouped : Option Text → Option Style
style_or_grouped None = Some Grouped
style_or_grouped (Some word) = style_of word

-- the node of a filter list has two styles
abbrev pub filter_style_of : Text → Option FilterStyle
filter_style_of word =
    if bytes_eq word (codes "chain") then Some filter.Chain
    else if bytes_eq word (codes "grouped") then Some filter.Grouped
    else None

abbrev pub filter_style_or_grouped : Option Text → Option FilterStyle
filter_style_or_grouped None = Some filter.Grouped
filter_style_or_grouped (Some word) = filter_style_of word

-- of values by their names
module _ (value : Text → Option Text) where
  abbrev pub hops_in : Option ℕ
  hops_in = number_or 1 MOST_HOPS HOPS (value (codes "hops"))

  abbrev pub limit_in : ℕ → Option ℕ
  limit_in most = number_or 1 most LIMIT (value (codes "limit"))

  abbrev pub pruned_in : Option RefutedSides
  pruned_in = pruned_or_all (value (codes "pruned"))

  abbrev pub open_in : Option Open
  open_in = open_or_numbers (value (codes "open"))

  abbrev pub cases_in : Option ℕ
  cases_in = cases_or_usual (value (codes "cases"))

  abbrev pub with_bounds : ℕ → (ℕ → ℕ → Option Command) → Option Command
  with_bounds most next = option_and_then (λ hops. option_and_then (next hops) (limit_in most)) hops_in

  abbrev pub explore_from : Option Command
  explore_from =
      option_and_then (λ job. with_bounds MOST_LIMIT (λ hops limit. option_and_then (λ cases. option_map (explore job hops limit cases) pruned_in) cases_in))
      (value (codes "JOB"))

  abbrev pub packets_in : Option Packets
  packets_in = packets_or_one (value (codes "packets"))

  abbrev pub walk_from : Option Command
  walk_from =
      option_and_then (λ job. option_and_then (λ packet. with_bounds MOST_LIMIT (λ hops limit. option_map (λ packets. walk_of packets job packet hops limit) packets_in)) (value (codes "PACKET")))
      (value (codes "JOB"))

  abbrev pub style_in : Option Style
  style_in = style_or_grouped (value (codes "style"))

  abbrev pub extent_in : Option Extent
  extent_in = extent_or_each (value (codes "records"))

  abbrev pub replay_from : Option Command
  replay_from = option_and_then (λ job. option_and_then (λ report. option_map (λ extent. replay_of extent job report) extent_in) (value (codes "REPORT"))) (value (codes "JOB"))

  abbrev pub ask_from : Option Command
  ask_from = option_and_then (λ job. with_bounds MOST_ANSWER_LIMIT (λ hops limit. option_map (ask job hops limit) cases_in)) (value (codes "JOB"))

  abbrev pub loops_from : Option Command
  loops_from =
      option_and_then (λ job. with_bounds MOST_ANSWER_LIMIT (λ hops limit. option_and_then (λ cases. option_map (loops job hops limit cases) open_in) cases_in))
      (value (codes "JOB"))

  abbrev pub cut_in : Option Bool
  cut_in = cut_or_omit (value (codes "cut"))

  abbrev pub compare_from : Option Command
  compare_from =
      option_and_then
      (λ job. option_and_then (λ other. with_bounds MOST_ANSWER_LIMIT (λ hops limit. option_and_then (λ cases. option_map (compare job other hops limit cases) cut_in) cases_in))
      (value (codes "OTHER")))
      (value (codes "JOB"))

  abbrev pub model_from : TableKind → Option Command
  model_from table = option_and_then (λ file. option_map (model table file) style_in) (value (codes "FILE"))

  abbrev pub click_from : Option Command
  click_from = option_map click (value (codes "FILE"))

  abbrev pub filter_style_in : Option FilterStyle
  filter_style_in = filter_style_or_grouped (value (codes "style"))

  abbrev pub acl_from : Option Command
  acl_from = option_and_then (λ file. option_map (acl file) filter_style_in) (value (codes "FILE"))

  abbrev pub rules_from : Option Command
  rules_from = option_map rules (value (codes "FILE"))

  abbrev pub both_rules_from : Option Command
  both_rules_from = option_and_then (λ file. option_map (both_rules file) (value (codes "OTHER"))) (value (codes "FILE"))

  abbrev pub boxes_in : Option ℕ
  boxes_in = option_and_then (number_in 1 MOST_BOXES) (value (codes "NODES"))

  abbrev pub grow_from : Option Command
  grow_from = option_and_then (λ word. option_and_then (λ seed. option_map (grow seed) boxes_in) (seed_of word)) (value (codes "SEED"))

-- the command with these values
abbrev pub command_from : Verb → (Text → Option Text) → Option Command
command_from Explore = explore_from
command_from Walk = walk_from
command_from Replay = replay_from
command_from Ask = ask_from
command_from Loops = loops_from
command_from Compare = compare_from
command_from (Model table) = λ value. model_from value table
command_from Click = click_from
command_from Acl = acl_from
command_from Rules = rules_from
command_from BothRules = both_rules_from
command_from Grow = grow_from

-- the words behind a name, in the form of a command, with numbers in their ranges
abbrev pub read_as : Verb → List Text → Option Command
read_as verb words = option_and_then (λ given. command_from verb (value_of given)) (read_form (form_of_verb verb) words)

-- what the name stands for where the words have no reading in its first form: `rules` has one for two lists
abbrev pub second_of : Verb → Option Verb
second_of Rules = Some BothRules
second_of verb = None

abbrev pub read_second : Option Verb → List Text → Option Command
read_second None words = None
read_second (Some verb) words = read_as verb words

abbrev pub read_verb : Verb → List Text → Option Command
read_verb verb words = option_or (read_as verb words) (read_second (second_of verb) words)

-- the reading of the words: the first name the command, and those behind have a reading in one of its forms
abbrev pub read_command : List Text → Option Command
read_command words = option_and_then (λ p. read_verb p.0 p.1) (named words)

abbrev pub reading : List (String Global) → Option Command
reading words = read_command (map (λ w. string_bytes w) words)
