-- Where the statements of a job's text begin.
use Rattle.std.specs.Prelude.{ℕ, ◌-◌, ◌==◌, Bool, true, false, if◌then◌else◌, List, [], ◌∷◌, Option, None, Some, codes, bytes_eq}
use Rattle.sefl_lex.specs.declared.token.Token.{Token}
use Rattle.sefl_lex.specs.Reads.{word_of}
use Rattle.fault_places.specs.declared.stage.Mark.{Mark}
use Rattle.fault_places.specs.declared.stage.Mark.TheVariants.{Open, Close, Semicolon, In, Else, Ask, Other}
use Rattle.fault_places.specs.declared.stage.Stage.{Stage}
use Rattle.fault_places.specs.declared.stage.Stage.TheVariants.{Fresh, Inside, BehindIn, Ranges}
use Rattle.fault_places.specs.declared.stage.Sought.{Sought}
use Rattle.fault_places.specs.declared.stage.Sought.TheVariants.{Items, Questions}

-- what a word is to the statements
abbrev pub mark_of : List ℕ → Mark
mark_of word =
    if bytes_eq word (codes "{") then Open
    else if bytes_eq word (codes "}") then Close
    else if bytes_eq word (codes ";") then Semicolon
    else if bytes_eq word (codes "in") then In
    else if bytes_eq word (codes "else") then Else
    else if bytes_eq word (codes "ask") then Ask
    else Other

-- a statement may begin with it
abbrev pub is_first : Mark → Bool
is_first Open = true
is_first Close = false
is_first Semicolon = false
is_first In = true
is_first Else = false
is_first Ask = true
is_first Other = true

abbrev pub is_ask : Mark → Bool
is_ask Open = false
is_ask Close = false
is_ask Semicolon = false
is_ask In = false
is_ask Else = false
is_ask Ask = true
is_ask Other = false

-- where the next word stands: a brace and a semicolon end what came before
abbrev pub behind_word : Mark → Stage
behind_word Open = Fresh
behind_word Close = Fresh
behind_word Semicolon = Fresh
behind_word In = BehindIn
behind_word Else = Inside
behind_word Ask = Inside
behind_word Other = Inside

-- the same behind what follows `in`: a brace there opens a list of ranges
abbrev pub behind_in : Mark → Stage
behind_in Open = Ranges
behind_in Close = Fresh
behind_in Semicolon = Fresh
behind_in In = BehindIn
behind_in Else = Inside
behind_in Ask = Inside
behind_in Other = Inside

-- the same in such a list
abbrev pub behind_range : Mark → Stage
behind_range Open = Ranges
behind_range Close = Inside
behind_range Semicolon = Ranges
behind_range In = Ranges
behind_range Else = Ranges
behind_range Ask = Ranges
behind_range Other = Ranges

abbrev pub behind : Stage → Mark → Stage
behind Fresh mark = behind_word mark
behind Inside mark = behind_word mark
behind BehindIn mark = behind_in mark
behind Ranges mark = behind_range mark

abbrev pub is_sought : Sought → Mark → Bool
is_sought Items mark = is_first mark
is_sought Questions mark = is_ask mark

-- a statement that is counted begins with the word there
abbrev pub counts : Sought → Stage → Mark → Bool
counts sought Fresh mark = is_sought sought mark
counts sought Inside mark = false
counts sought BehindIn mark = false
counts sought Ranges mark = false

abbrev pub mark_at : List ℕ → Token → Mark
mark_at text t = mark_of (word_of text t)

-- the first byte of the statement behind this many others, where the first of these words stands so
abbrev pub statement_from : List ℕ → Sought → Stage → ℕ → List Token → Option ℕ
statement_from text sought stage left [] = None
statement_from text sought stage left (t ∷ ts) =
    if counts sought stage (mark_at text t)
    then (if left == 0 then Some t.start else statement_from text sought (behind stage (mark_at text t)) (left - 1) ts)
    else statement_from text sought (behind stage (mark_at text t)) left ts

-- the first byte of the statement of this number, from 0; the line of the version is none
abbrev pub statement_start : List ℕ → Sought → ℕ → List Token → Option ℕ
statement_start text sought number tokens = statement_from text sought Inside number tokens
