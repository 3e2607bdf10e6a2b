-- What the grammar of statements allows.
use Rattle.click_text.specs.declared.token.TokenKind.{TokenKind}
use Rattle.click_text.specs.declared.token.TokenKind.TheVariants.{Name, Number, Arrow, Colons, OpenPort, ClosePort, Semicolon, Arguments, OpenArguments, End}
use Rattle.click_text.specs.declared.stage.Stage.{Stage}
use Rattle.click_text.specs.declared.stage.Stage.TheVariants.{Between, Named, Declaring, Classed, Argued, Unclosed, OutOpen, OutNumber, OutClosed, Joining, InOpen, InNumber, InClosed, Ended}
use Rattle.click_text.specs.declared.stage.Move.{Move}
use Rattle.click_text.specs.declared.stage.Move.TheVariants.{Refused, Goes, Puts, Names, Classes, Argues, Outputs, Inputs}

-- before a statement: an element, or the end of the text
abbrev pub statement_move : TokenKind → Move
statement_move Name = Names
statement_move End = Goes Ended
statement_move kind = Refused

-- behind an element: a connection, another statement or the end
abbrev pub element_move : TokenKind → Move
element_move Arrow = Puts Joining
element_move Semicolon = Puts Between
element_move End = Puts Ended
element_move kind = Refused

-- where an output port may follow
abbrev pub argued_move : TokenKind → Move
argued_move OpenPort = Goes OutOpen
argued_move kind = element_move kind

-- where arguments may follow, too; some that are not closed end in the midst of a statement
abbrev pub classed_move : TokenKind → Move
classed_move Arguments = Argues
classed_move OpenArguments = Goes Unclosed
classed_move kind = argued_move kind

-- where a class may follow
abbrev pub named_move : TokenKind → Move
named_move Colons = Goes Declaring
named_move kind = argued_move kind

-- where a name, a number or a bracket has to follow
abbrev pub name_move : TokenKind → Move → Move
name_move Name allowed = allowed
name_move kind allowed = Refused

abbrev pub number_move : TokenKind → Move → Move
number_move Number allowed = allowed
number_move kind allowed = Refused

abbrev pub close_move : TokenKind → Stage → Move
close_move ClosePort next = Goes next
close_move kind next = Refused

-- behind an arrow
abbrev pub arrow_move : TokenKind → Move
arrow_move OpenPort = Goes InOpen
arrow_move Name = Names
arrow_move kind = Refused

abbrev pub move_of : Stage → TokenKind → Move
move_of Between kind = statement_move kind
move_of Named kind = named_move kind
move_of Declaring kind = name_move kind Classes
move_of Classed kind = classed_move kind
move_of Argued kind = argued_move kind
move_of Unclosed kind = Refused
move_of OutOpen kind = number_move kind Outputs
move_of OutNumber kind = close_move kind OutClosed
move_of OutClosed kind = element_move kind
move_of Joining kind = arrow_move kind
move_of InOpen kind = number_move kind Inputs
move_of InNumber kind = close_move kind InClosed
move_of InClosed kind = name_move kind Names
move_of Ended kind = Refused
