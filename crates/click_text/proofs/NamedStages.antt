-- Which stages of a statement have read an element's name, and that the grammar's moves respect it.
use Rattle.std.proofs.Common.{◌≡◌, refl, Bool, true, false, not, ◌&&◌, ◌||◌}
use Rattle.click_text.specs.declared.token.TokenKind.{TokenKind}
use Rattle.click_text.specs.declared.token.TokenKind.TheVariants.{Name, Number, Arrow, Colons, OpenPort, ClosePort, Semicolon, Arguments, OpenArguments, Stray, End}
use Rattle.click_text.specs.declared.stage.Stage.{Stage}
use Rattle.click_text.specs.declared.stage.Stage.TheVariants.{Between, Named, Declaring, Classed, Argued, Unclosed, OutOpen, OutNumber, OutClosed, Joining, InOpen, InNumber, InClosed, Ended}
use Rattle.click_text.specs.declared.stage.Move.{Move}
use Rattle.click_text.specs.declared.stage.Move.TheVariants.{Refused, Goes, Puts, Names, Classes, Argues, Outputs, Inputs}
use Rattle.click_text.specs.Stages.{move_of}

abbrev pub is_named : Stage → Bool
is_named Between = false
is_named Named = true
is_named Declaring = true
is_named Classed = true
is_named Argued = true
is_named Unclosed = true
is_named OutOpen = true
is_named OutNumber = true
is_named OutClosed = true
is_named Joining = false
is_named InOpen = false
is_named InNumber = false
is_named InClosed = false
is_named Ended = false

abbrev pub is_name_kind : TokenKind → Bool
is_name_kind Name = true
is_name_kind Number = false
is_name_kind Arrow = false
is_name_kind Colons = false
is_name_kind OpenPort = false
is_name_kind ClosePort = false
is_name_kind Semicolon = false
is_name_kind Arguments = false
is_name_kind OpenArguments = false
is_name_kind Stray = false
is_name_kind End = false

abbrev pub implies : Bool → Bool → Bool
implies a b = not a || b

-- a move goes on with a name that was read, reads one, or ends an element that has one
abbrev pub keeps : Stage → TokenKind → Move → Bool
keeps s k Refused = true
keeps s k (Goes t) = implies (is_named t) (is_named s)
keeps s k (Puts t) = is_named s && not (is_named t)
keeps s k Names = is_name_kind k
keeps s k Classes = is_named s
keeps s k Argues = is_named s
keeps s k Outputs = is_named s
keeps s k Inputs = true

pub moves_keep : (s : Stage) (k : TokenKind) → keeps s k (move_of s k) ≡ true
moves_keep Between Name = refl
moves_keep Between Number = refl
moves_keep Between Arrow = refl
moves_keep Between Colons = refl
moves_keep Between OpenPort = refl
moves_keep Between ClosePort = refl
moves_keep Between Semicolon = refl
moves_keep Between Arguments = refl
moves_keep Between OpenArguments = refl
moves_keep Between Stray = refl
moves_keep Between End = refl
moves_keep Named Name = refl
moves_keep Named Number = refl
moves_keep Named Arrow = refl
moves_keep Named Colons = refl
moves_keep Named OpenPort = refl
moves_keep Named ClosePort = refl
moves_keep Named Semicolon = refl
moves_keep Named Arguments = refl
moves_keep Named OpenArguments = refl
moves_keep Named Stray = refl
moves_keep Named End = refl
moves_keep Declaring Name = refl
moves_keep Declaring Number = refl
moves_keep Declaring Arrow = refl
moves_keep Declaring Colons = refl
moves_keep Declaring OpenPort = refl
moves_keep Declaring ClosePort = refl
moves_keep Declaring Semicolon = refl
moves_keep Declaring Arguments = refl
moves_keep Declaring OpenArguments = refl
moves_keep Declaring Stray = refl
moves_keep Declaring End = refl
moves_keep Classed Name = refl
moves_keep Classed Number = refl
moves_keep Classed Arrow = refl
moves_keep Classed Colons = refl
moves_keep Classed OpenPort = refl
moves_keep Classed ClosePort = refl
moves_keep Classed Semicolon = refl
moves_keep Classed Arguments = refl
moves_keep Classed OpenArguments = refl
moves_keep Classed Stray = refl
moves_keep Classed End = refl
moves_keep Argued Name = refl
moves_keep Argued Number = refl
moves_keep Argued Arrow = refl
moves_keep Argued Colons = refl
moves_keep Argued OpenPort = refl
moves_keep Argued ClosePort = refl
moves_keep Argued Semicolon = refl
moves_keep Argued Arguments = refl
moves_keep Argued OpenArguments = refl
moves_keep Argued Stray = refl
moves_keep Argued End = refl
moves_keep Unclosed Name = refl
moves_keep Unclosed Number = refl
moves_keep Unclosed Arrow = refl
moves_keep Unclosed Colons = refl
moves_keep Unclosed OpenPort = refl
moves_keep Unclosed ClosePort = refl
moves_keep Unclosed Semicolon = refl
moves_keep Unclosed Arguments = refl
moves_keep Unclosed OpenArguments = refl
moves_keep Unclosed Stray = refl
moves_keep Unclosed End = refl
moves_keep OutOpen Name = refl
moves_keep OutOpen Number = refl
moves_keep OutOpen Arrow = refl
moves_keep OutOpen Colons = refl
moves_keep OutOpen OpenPort = refl
moves_keep OutOpen ClosePort = refl
moves_keep OutOpen Semicolon = refl
moves_keep OutOpen Arguments = refl
moves_keep OutOpen OpenArguments = refl
moves_keep OutOpen Stray = refl
moves_keep OutOpen End = refl
moves_keep OutNumber Name = refl
moves_keep OutNumber Number = refl
moves_keep OutNumber Arrow = refl
moves_keep OutNumber Colons = refl
moves_keep OutNumber OpenPort = refl
moves_keep OutNumber ClosePort = refl
moves_keep OutNumber Semicolon = refl
moves_keep OutNumber Arguments = refl
moves_keep OutNumber OpenArguments = refl
moves_keep OutNumber Stray = refl
moves_keep OutNumber End = refl
moves_keep OutClosed Name = refl
moves_keep OutClosed Number = refl
moves_keep OutClosed Arrow = refl
moves_keep OutClosed Colons = refl
moves_keep OutClosed OpenPort = refl
moves_keep OutClosed ClosePort = refl
moves_keep OutClosed Semicolon = refl
moves_keep OutClosed Arguments = refl
moves_keep OutClosed OpenArguments = refl
moves_keep OutClosed Stray = refl
moves_keep OutClosed End = refl
moves_keep Joining Name = refl
moves_keep Joining Number = refl
moves_keep Joining Arrow = refl
moves_keep Joining Colons = refl
moves_keep Joining OpenPort = refl
moves_keep Joining ClosePort = refl
moves_keep Joining Semicolon = refl
moves_keep Joining Arguments = refl
moves_keep Joining OpenArguments = refl
moves_keep Joining Stray = refl
moves_keep Joining End = refl
moves_keep InOpen Name = refl
moves_keep InOpen Number = refl
moves_keep InOpen Arrow = refl
moves_keep InOpen Colons = refl
moves_keep InOpen OpenPort = refl
moves_keep InOpen ClosePort = refl
moves_keep InOpen Semicolon = refl
moves_keep InOpen Arguments = refl
moves_keep InOpen OpenArguments = refl
moves_keep InOpen Stray = refl
moves_keep InOpen End = refl
moves_keep InNumber Name = refl
moves_keep InNumber Number = refl
moves_keep InNumber Arrow = refl
moves_keep InNumber Colons = refl
moves_keep InNumber OpenPort = refl
moves_keep InNumber ClosePort = refl
moves_keep InNumber Semicolon = refl
moves_keep InNumber Arguments = refl
moves_keep InNumber OpenArguments = refl
moves_keep InNumber Stray = refl
moves_keep InNumber End = refl
moves_keep InClosed Name = refl
moves_keep InClosed Number = refl
moves_keep InClosed Arrow = refl
moves_keep InClosed Colons = refl
moves_keep InClosed OpenPort = refl
moves_keep InClosed ClosePort = refl
moves_keep InClosed Semicolon = refl
moves_keep InClosed Arguments = refl
moves_keep InClosed OpenArguments = refl
moves_keep InClosed Stray = refl
moves_keep InClosed End = refl
moves_keep Ended Name = refl
moves_keep Ended Number = refl
moves_keep Ended Arrow = refl
moves_keep Ended Colons = refl
moves_keep Ended OpenPort = refl
moves_keep Ended ClosePort = refl
moves_keep Ended Semicolon = refl
moves_keep Ended Arguments = refl
moves_keep Ended OpenArguments = refl
moves_keep Ended Stray = refl
moves_keep Ended End = refl
