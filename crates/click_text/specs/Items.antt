-- The elements of a text's statements, in the order of the text.
use Rattle.std.specs.Prelude.{ℕ, Bool, true, false, List, [], ◌∷◌, ◌++◌, option_map, Option, None, Some, Result, Ok, Err}
use Rattle.click_text.specs.declared.stage.Stage.{Stage}
use Rattle.click_text.specs.declared.stage.Stage.TheVariants.{Between, Named, Classed, Argued, OutNumber, InNumber, Joining}
use Rattle.click_text.specs.declared.stage.Move.{Move}
use Rattle.click_text.specs.declared.stage.Move.TheVariants.{Refused, Goes, Puts, Names, Classes, Argues, Outputs, Inputs}
use Rattle.click_text.specs.declared.item.Item.{Item}
use Rattle.click_text.specs.declared.item.Partial.{Partial}
use Rattle.click_text.specs.declared.item.Step.{Step}
use Rattle.click_text.specs.declared.item.Step.TheVariants as step
use Rattle.click_text.specs.declared.fault.Unread.{Unread}
use Rattle.click_text.specs.declared.fault.Unread.TheVariants.{BadLine}
use Rattle.click_text.specs.Tokens.{TokenSeen, tokens_of}
use Rattle.click_text.specs.Numbers.{number}
use Rattle.click_text.specs.Stages.{move_of}

-- an element where it stands: its name with its line, its class and arguments where it is declared there,
-- whether a connection leads to it from the item before it and by which input, and by which output one leads on
pub record ItemSeen : Type 0 where
  pub line : ℕ
  pub name : List ℕ
  pub class : Option (List ℕ)
  pub arguments : List ℕ
  pub joined : Bool
  pub input : ℕ
  pub output : ℕ

abbrev pub seen_item : Item → ItemSeen
seen_item i = record {
  line = i.line;
  name = i.name.now;
  class = option_map (λ word. word.now) i.class;
  arguments = i.arguments.now;
  joined = i.joined;
  input = i.input;
  output = i.output;
}

-- how far a statement has come, with the item that is read
pub record PartialSeen : Type 0 where
  pub stage : Stage
  pub item : ItemSeen

abbrev pub seen_partial : Partial → PartialSeen
seen_partial p = record { stage = p.stage; item = seen_item p.item }

-- what comes of a token: it is refused, the statement goes on, or the item is whole
pub data StepSeen : Type 0 where
  refused : StepSeen
  goes : PartialSeen → StepSeen
  puts : Stage → StepSeen

abbrev pub seen_step : Step → StepSeen
seen_step step.Refused = refused
seen_step (step.Goes p) = goes (seen_partial p)
seen_step (step.Puts stage) = puts stage

abbrev pub is_joining : Stage → Bool
is_joining Joining = true
is_joining stage = false

-- before anything is read of an item; ports that are not written are 0
abbrev pub blank : Stage → PartialSeen
blank stage = record {
  stage = stage;
  item = record { line = 0; name = []; class = None; arguments = []; joined = is_joining stage; input = 0; output = 0 };
}

abbrev pub with_name : ItemSeen → TokenSeen → StepSeen
with_name i t = goes (record { stage = Named; item = record i { line = t.line; name = t.word } })

abbrev pub with_class : ItemSeen → TokenSeen → StepSeen
with_class i t = goes (record { stage = Classed; item = record i { class = Some t.word } })

abbrev pub with_arguments : ItemSeen → TokenSeen → StepSeen
with_arguments i t = goes (record { stage = Argued; item = record i { arguments = t.word } })

-- a number of more than 32 bits is no port
abbrev pub with_output : ItemSeen → Option ℕ → StepSeen
with_output i None = refused
with_output i (Some port) = goes (record { stage = OutNumber; item = record i { output = port } })

abbrev pub with_input : ItemSeen → Option ℕ → StepSeen
with_input i None = refused
with_input i (Some port) = goes (record { stage = InNumber; item = record i { input = port } })

abbrev pub made : ItemSeen → TokenSeen → Move → StepSeen
made i t Refused = refused
made i t (Goes stage) = goes (record { stage = stage; item = i })
made i t (Puts stage) = puts stage
made i t Names = with_name i t
made i t Classes = with_class i t
made i t Argues = with_arguments i t
made i t Outputs = with_output i (number t.word)
made i t Inputs = with_input i (number t.word)

abbrev pub step_of : PartialSeen → TokenSeen → StepSeen
step_of p t = made p.item t (move_of p.stage t.kind)

-- what was read so far: whole items, and what is read of the next one
pub record State : Type 0 where
  pub items : List ItemSeen
  pub partial : PartialSeen

abbrev pub taken : State → ℕ → StepSeen → Result State Unread
taken s line refused = Err (BadLine line)
taken s line (goes p) = Ok (record s { partial = p })
taken s line (puts stage) = Ok (record { items = s.items ++ s.partial.item ∷ []; partial = blank stage })

-- one step and then the other, or the first fault
abbrev pub and_then : {A B : Type 0} → Result A Unread → (A → Result B Unread) → Result B Unread
and_then (Ok x) next = next x
and_then (Err e) next = Err e

-- what comes of tokens, one after another: the items, or the line of the first that the grammar does not allow
abbrev pub items_from : State → List TokenSeen → Result (List ItemSeen) Unread
items_from s [] = Ok s.items
items_from s (t ∷ later) = and_then (taken s t.line (step_of s.partial t)) (λ s. items_from s later)

abbrev pub items_of : List ℕ → Result (List ItemSeen) Unread
items_of bytes = items_from (record { items = []; partial = blank Between }) (tokens_of bytes)
