-- The numbers of the statuses, and what is told of them.
use Rattle.std.specs.Prelude.{ℕ, ◌≤◌, ℤ, List, [], ◌++◌, length, codes, decimal}
use Rattle.std.specs.Fmt.{signed_decimal}
use Rattle.aseba_check.specs.declared.error.CheckError.{CheckError}
use Rattle.aseba_check.specs.declared.error.CheckError.TheVariants as check
use Rattle.aseba_tree.specs.declared.pos.Pos.{Pos}
use Rattle.aseba_lexer.specs.declared.error.LexError.{LexError}
use Rattle.aseba_lexer.specs.declared.error.LexError.TheVariants as lex
use Rattle.aseba_parser.specs.declared.error.SyntaxError.{SyntaxError}
use Rattle.aseba_parser.specs.declared.error.SyntaxError.TheVariants as syntax
use Rattle.aseba_expand.specs.declared.error.ExpandError.{ExpandError}
use Rattle.aseba_expand.specs.declared.error.ExpandError.TheVariants as expand
use Rattle.aseba_codegen.specs.declared.error.GenError.{GenError}
use Rattle.aseba_codegen.specs.declared.error.GenError.TheVariants as gen
use Rattle.aseba_compile.specs.declared.refusal.Refusal.{Refusal as Reason}
use Rattle.aseba_compile.specs.declared.refusal.Refusal.TheVariants.{Lex, Syntax, Check, Expand, Gen, Mem}
use Rattle.aseba_tools.specs.declared.status.Status.{Status}
use Rattle.aseba_tools.specs.declared.status.Status.TheVariants.{Done, Usage, Absent, ReadFault, Refused, BadProject, BadScript, WriteFault, Memory, TooBig, BadFrame, NoNode, DialFault, LongStream}
use Rattle.aseba_tools.specs.declared.status.StatusLine.{StatusLine}
use Rattle.aseba_tools.specs.declared.status.StatusLine.TheVariants.{Nothing, Words, Name, Number, Refusal}

-- a place: its line and its column
abbrev pub place_text : Pos → List ℕ
place_text at = decimal at.line ++ codes ":" ++ decimal at.col

-- a fault of this name at a place
abbrev pub fault_text : Pos → List ℕ → List ℕ
fault_text at name = place_text at ++ codes " " ++ name

-- a number behind its name
abbrev pub field_text : List ℕ → ℕ → List ℕ
field_text name number = codes " " ++ name ++ codes " " ++ decimal number

-- the same with a sign where it is below 0
abbrev pub signed_field_text : List ℕ → ℤ → List ℕ
signed_field_text name number = codes " " ++ name ++ codes " " ++ signed_decimal number

-- what there is too little of, with how much is needed and how much there is
abbrev pub need_text : List ℕ → ℕ → ℕ → List ℕ
need_text name need have = name ++ field_text (codes "need") need ++ field_text (codes "have") have

-- Why bytes are no tokens. Want of memory, here and below, is told by a status of its own.
abbrev pub lex_text : LexError → List ℕ
lex_text (lex.BadByte at) = fault_text at (codes "BadByte")
lex_text (lex.BadNumber at) = fault_text at (codes "BadNumber")
lex_text (lex.OpenComment at) = fault_text at (codes "OpenComment")
lex_text lex.Mem = codes "Mem"

-- why tokens are no program
abbrev pub syntax_text : SyntaxError → List ℕ
syntax_text (syntax.Syntax at) = fault_text at (codes "Syntax")
syntax_text (syntax.TooDeep at) = fault_text at (codes "TooDeep")
syntax_text syntax.Mem = codes "Mem"

-- a fault of two numbers that differ, of an index, and of a subroutine that no call reaches
abbrev pub sizes_text : Pos → List ℕ → (want got : ℤ) → List ℕ
sizes_text at name want got = fault_text at name ++ signed_field_text (codes "want") want ++ signed_field_text (codes "got") got

abbrev pub index_text : Pos → (size index : ℤ) → List ℕ
index_text at size index = fault_text at (codes "IndexOut") ++ signed_field_text (codes "size") size ++ signed_field_text (codes "index") index

abbrev pub far_text : Pos → (start : ℕ) → List ℕ
far_text at start = fault_text at (codes "SubroutineFar") ++ field_text (codes "start") start

-- why a tree isn't sound
abbrev pub check_text : CheckError → List ℕ
check_text (check.Unknown at) = fault_text at (codes "Unknown")
check_text (check.Duplicate at) = fault_text at (codes "Duplicate")
check_text (check.NotConstant at) = fault_text at (codes "NotConstant")
check_text (check.ConstantDivision at) = fault_text at (codes "ConstantDivision")
check_text (check.ZeroStep at) = fault_text at (codes "ZeroStep")
check_text (check.BadSize at want got) = sizes_text at (codes "BadSize") want got
check_text (check.IndexOut at size index) = index_text at size index
check_text (check.NotScalar at) = fault_text at (codes "NotScalar")
check_text (check.EventSize at want got) = sizes_text at (codes "EventSize") want got
check_text (check.ArgCount at want got) = sizes_text at (codes "ArgCount") want got
check_text (check.Recursion at) = fault_text at (codes "Recursion")
check_text (check.VariablesFull need have) = need_text (codes "VariablesFull") need have
check_text (check.SubroutineFar at start) = far_text at start
check_text check.Mem = codes "Mem"

-- what a sound source needs more of than there is
abbrev pub expand_text : ExpandError → List ℕ
expand_text (expand.VariablesFull need have) = need_text (codes "VariablesFull") need have
expand_text expand.Mem = codes "Mem"

abbrev pub code_text : GenError → List ℕ
code_text (gen.CodeFull need have) = need_text (codes "CodeFull") need have
code_text (gen.StackFull need have) = need_text (codes "StackFull") need have
code_text gen.Mem = codes "Mem"

-- the name of a refusal with its place and its numbers
abbrev pub refusal_text : Reason → List ℕ
refusal_text (Lex error) = lex_text error
refusal_text (Syntax error) = syntax_text error
refusal_text (Check error) = check_text error
refusal_text (Expand error) = expand_text error
refusal_text (Gen error) = code_text error
refusal_text Mem = codes "Mem"

-- the status by which the program ends, and the line that is told of it: nothing where all was done
abbrev pub row_of : Status → ℕ × List ℕ
row_of Done = (0, [])
row_of Usage = (1, codes "aseba: bad command line\n")
row_of (Absent file) = (2, codes "aseba: no file " ++ file ++ codes "\n")
row_of ReadFault = (3, codes "aseba: read failed\n")
row_of (Refused refusal) = (4, codes "aseba: refused " ++ refusal_text refusal ++ codes "\n")
row_of (BadProject line) = (5, codes "aseba: project line " ++ decimal line ++ codes "\n")
row_of (BadScript line) = (6, codes "aseba: script line " ++ decimal line ++ codes "\n")
row_of WriteFault = (7, codes "aseba: write failed\n")
row_of Memory = (8, codes "aseba: out of memory\n")
row_of (TooBig file) = (9, codes "aseba: too big " ++ file ++ codes "\n")
row_of (BadFrame place) = (10, codes "aseba: bad frame at " ++ decimal place ++ codes "\n")
row_of (NoNode name) = (11, codes "aseba: no node " ++ name ++ codes "\n")
row_of DialFault = (12, codes "aseba: no connection\n")
row_of LongStream = (13, codes "aseba: stream too long\n")

abbrev pub number_of : Status → ℕ
number_of status = (row_of status).0

abbrev pub message_of : Status → List ℕ
message_of status = (row_of status).1

-- the text of a line as the code has it, and that the words in front of its number are few
abbrev pub line_text : StatusLine → List ℕ
line_text Nothing = []
line_text (Words words) = words.now
line_text (Name head name) = head.now ++ name.now ++ codes "\n"
line_text (Number head number) = head.now ++ decimal number ++ codes "\n"
line_text (Refusal refusal) = codes "aseba: refused " ++ refusal_text refusal.now ++ codes "\n"

abbrev pub HasShortHead : StatusLine → Type 0
HasShortHead (Number head number) = length head.now ≤ 32
HasShortHead _ = Unit {0}
