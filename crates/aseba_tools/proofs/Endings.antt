-- A call of which all is right, and in which no count of faults rose, ends well.
use Rattle.std.proofs.Common.{◌≡◌, ℕ, Bool, true, false, true≢false, refl, sym, ◌∙◌, ap, subst, inl, inr, List, [], ◌∷◌, ◌++◌, Option, None, Some, arith}
use Rattle.std.specs.Prelude.{◌||◌, MatchBool, IfSome, IsSomeAnd}
use Rattle.aseba_edge.specs.Counts.{Counts}
use Rattle.aseba_edge.specs.Link.{Input, IsUnread}
use Rattle.aseba_edge.specs.declared.poll.PollAnswer.{PollAnswer}
use Rattle.aseba_message.specs.Cut.{IsGoodStream}
use Rattle.aseba_node.specs.NodeState.{NodeState, new_node}
use Rattle.aseba_node.specs.Session.{Gave, bytes_of}
use Rattle.aseba_tree.specs.Code.{Project, Source}
use Rattle.aseba_tree.specs.State.{Program}
use Rattle.aseba_tree.specs.Soundness.{Sound}
use Rattle.aseba_tree.specs.Tokens.{behind, first_place, bad_byte, bad_number, open_comment}
use Rattle.aseba_tree.specs.View.{project_view}
use Rattle.aseba_lexer.specs.declared.error.LexError.{LexError}
use Rattle.aseba_lexer.specs.declared.error.LexError.TheVariants as lex
use Rattle.aseba_lexer.proofs.CutLaws.{is-decided}
use Rattle.aseba_parser.specs.Parsed as parser
use Rattle.aseba_parser.specs.declared.error.SyntaxError.{SyntaxError}
use Rattle.aseba_parser.specs.declared.error.SyntaxError.TheVariants as syntax
use Rattle.aseba_parser.proofs.Parses.{parsed_decided}
use Rattle.aseba_check.specs.declared.error.CheckError.{CheckError}
use Rattle.aseba_check.specs.declared.error.CheckError.TheVariants as check
use Rattle.aseba_expand.specs.declared.error.ExpandError.{ExpandError}
use Rattle.aseba_expand.specs.declared.error.ExpandError.TheVariants as expand
use Rattle.aseba_codegen.specs.declared.error.GenError.{GenError}
use Rattle.aseba_codegen.specs.declared.error.GenError.TheVariants as gen
use Rattle.aseba_compile.specs.Answered.{OfOnlyTree}
use Rattle.aseba_compile.specs.Checking.{IsCheckFault}
use Rattle.aseba_compile.specs.Coding.{IsExpandFault, IsCodeFault}
use Rattle.aseba_compile.specs.Reading.{IsOnlyTree, IsLexFault, HasSyntaxFault}
use Rattle.aseba_compile.specs.Refused.{IsTreeRefused}
use Rattle.aseba_compile.specs.declared.refusal.Refusal.{Refusal}
use Rattle.aseba_compile.specs.declared.refusal.Refusal.TheVariants.{Lex, Syntax, Check, Expand, Gen, Mem}
use Rattle.aseba_tools.specs.Address.{address_of}
use Rattle.aseba_tools.specs.Command.{Command, Did, Does}
use Rattle.aseba_tools.specs.Command.Command.{sim, compile, node, dump, rec, play, migrate, massloader, make}
use Rattle.aseba_tools.specs.CodeWritten.{CodeWritten, IsCodeOf}
use Rattle.aseba_tools.specs.Dialing.{Dialing}
use Rattle.aseba_tools.specs.Dumped.{Dumped, WroteDump}
use Rattle.aseba_tools.specs.Ending.{EndsWell, Stayed, NoneBlamed, IsInside, IsRightScript, AreRight, HasGoodInput, IsRight, blames_file}
use Rattle.aseba_tools.specs.FileText.{IsFileText, NotRead, most_text, most_dumped}
use Rattle.aseba_tools.specs.Given.{Held, NotGiven}
use Rattle.aseba_tools.specs.Joined.{HadSession, Joined, NodeRan}
use Rattle.aseba_tools.specs.Meant.{HasBadLine}
use Rattle.aseba_tools.specs.Outcome.{CountsBoth, is_dial_fault, is_read_fault, is_write_fault}
use Rattle.aseba_tools.specs.ProjectWord.{NoFileProject, NoProject, is_default}
use Rattle.aseba_tools.specs.Simulated.{Ran, Simulated, WithScript}
use Rattle.aseba_tools.specs.Words.{Unread}
use Rattle.aseba_tools.specs.Written.{IsReason, OfSoundTree, Worked}
use Rattle.aseba_tools.specs.declared.project.Allowed.{Allowed}
use Rattle.aseba_tools.specs.declared.project.Allowed.TheVariants.{AnyNatives, KnownNatives}
use Rattle.aseba_tools.specs.declared.status.Status.{Status}
use Rattle.aseba_tools.specs.declared.status.Status.TheVariants as status

-- Counts that didn't rise

pub not-own : (failed : Bool) (before after : ℕ) → Counts failed before after → Stayed before after → failed ≡ false
not-own true before after counts stayed = absurd (stayed counts.cause)
not-own false before after counts stayed = refl

neither : (failed own of_link : Bool) → failed ≡ (own || of_link) → own ≡ false → of_link ≡ false → failed ≡ false
neither failed own of_link e first second = e ∙ ap (λ b. b || of_link) first ∙ second

pub not-failed : (failed : Bool) (before after link : ℕ) → CountsBoth failed before after link → Stayed before after → Stayed 0 link → failed ≡ false
not-failed failed before after link counts stayed none =
    neither failed counts.own counts.of_link counts.either (not-own counts.own before after counts.count stayed) (not-own counts.of_link 0 link counts.link_count none)

-- A source that is sound and inside the node's numbers isn't refused

not-lex : (project : Project) (text : List ℕ) (source : Source) (error : LexError) → IsOnlyTree project text source → IsLexFault text error → ⊥
not-lex project text source (lex.BadByte at) only fault = (is-decided text).never_both only.reads.tokens bad_byte at only.reads.lexed fault
not-lex project text source (lex.BadNumber at) only fault = (is-decided text).never_both only.reads.tokens bad_number at only.reads.lexed fault
not-lex project text source (lex.OpenComment at) only fault = (is-decided text).never_both only.reads.tokens open_comment at only.reads.lexed fault
not-lex project text source lex.Mem only fault = fault

not-syntax : (project : Project) (text : List ℕ) (source : Source) (error : SyntaxError) → IsOnlyTree project text source → HasSyntaxFault project text error → ⊥
not-syntax project text source (syntax.Syntax at) only has =
    (parsed_decided project has.tokens (behind first_place text)).never_both source at
    (subst (λ ts. parser.IsTreeOf project ts source) ((is-decided text).one_list only.reads.tokens has.tokens only.reads.lexed has.lexed) (record { spelled = only.reads.spelled; well = only.well })).spelled
    has.fault.0
not-syntax project text source (syntax.TooDeep at) only has =
    subst (λ ts. parser.IsNestedWell project ts) ((is-decided text).one_list only.reads.tokens has.tokens only.reads.lexed has.lexed) only.well at has.fault
not-syntax project text source syntax.Mem only has = has.fault

not-check : (program : Program) (error : CheckError) → Sound program → IsCheckFault program error → ⊥
not-check program check.Mem sound fault = fault
not-check program _ sound fault = cc

not-expand : (program : Program) (error : ExpandError) → IsInside program → IsExpandFault program error → ⊥
not-expand program (expand.VariablesFull need have) inside (need-is, have-is, fewer, near) = omega arith
not-expand program expand.Mem inside fault = fault

not-code : (program : Program) (error : GenError) → IsInside program → IsCodeFault program error → ⊥
not-code program (gen.CodeFull need have) inside (need-is, have-is, fewer) = omega arith
not-code program (gen.StackFull need have) inside (need-is, have-is, fewer, near) = omega arith
not-code program gen.Mem inside fault = fault

-- what the tree of a text isn't refused for
abbrev in_project : Project → Source → Program
in_project project source = record { project = project; source = source }

same-tree : (project : Project) (text : List ℕ) (refusal : Refusal) (right : OfSoundTree project text IsInside) → OfOnlyTree project text (λ source. IsTreeRefused source refusal)
    → IsTreeRefused (in_project project right.source) refusal
same-tree project text refusal right refused =
    subst (λ source. IsTreeRefused (in_project project source) refusal) (right.only.only refused.source refused.only.reads) refused.holds

pub not-refused : (project : Project) (text : List ℕ) (refusal : Refusal) → OfSoundTree project text IsInside → IsReason project text refusal → ⊥
not-refused project text (Lex error) right reason = not-lex project text right.source error right.only reason
not-refused project text (Syntax error) right reason = not-syntax project text right.source error right.only reason
not-refused project text (Check error) right reason = not-check (in_project project right.source) error right.sound (same-tree project text (Check error) right reason)
not-refused project text (Expand error) right reason = not-expand (in_project project right.source) error right.holds (same-tree project text (Expand error) right reason).1
not-refused project text (Gen error) right reason = not-code (in_project project right.source) error right.holds (same-tree project text (Gen error) right reason).1
not-refused project text Mem right reason = reason

-- Files that aren't to blame

never : {P : Type 0} {b : Bool} → b ≡ true → b ≡ false → P
never blamed innocent = absurd (true≢false (sym blamed ∙ innocent))

unread : (most : ℕ) (name : List ℕ) (held : Option (Option (List ℕ))) (s : Status) → NotRead most name held s → blames_file s ≡ false → is_read_fault s ≡ false → EndsWell s
unread most name held status.Memory why innocent fault = inr refl
unread most name held status.ReadFault why innocent fault = never refl fault
unread most name held (status.Absent file) why innocent fault = never refl innocent
unread most name held (status.TooBig file) why innocent fault = never refl innocent
unread most name held _ why innocent fault = absurd why

no-file-project : (allowed : Allowed) (word : List ℕ) (held : Option (Option (List ℕ))) (s : Status) → NoFileProject allowed word held s → blames_file s ≡ false → is_read_fault s ≡ false → EndsWell s
no-file-project allowed word held (status.BadProject line) why innocent fault = never refl innocent
no-file-project allowed word held status.Memory why innocent fault = inr refl
no-file-project allowed word held status.ReadFault why innocent fault = never refl fault
no-file-project allowed word held (status.Absent file) why innocent fault = never refl innocent
no-file-project allowed word held (status.TooBig file) why innocent fault = never refl innocent
no-file-project allowed word held _ why innocent fault = absurd why

no-project : (allowed : Allowed) (word : List ℕ) (held : Option (Option (List ℕ))) (s : Status) → NoProject allowed word held s → blames_file s ≡ false → is_read_fault s ≡ false → EndsWell s
no-project allowed word held s why innocent fault = pick (is_default word) why
  where
    pick : (b : Bool) → MatchBool b (s ≡ status.Memory) (NoFileProject allowed word held s) → EndsWell s
    pick true memory = inr memory
    pick false none = no-file-project allowed word held s none innocent fault

not-given : (allowed : Allowed) (word source : List ℕ) (files : Held) (s : Status) → NotGiven allowed word source files s → blames_file s ≡ false → is_read_fault s ≡ false → EndsWell s
not-given allowed word source files s (inl none) innocent fault = no-project allowed word (files word) s none innocent fault
not-given allowed word source files s (inr none) innocent fault = unread most_text source (files source) s none.unread innocent fault

-- Sources that are worked on

worked : (project : Project) (text : List ℕ) (IsWhole : List ℕ → Type 0) (before after : Option (List ℕ)) (s : Status) → OfSoundTree project text IsInside → is_write_fault s ≡ false
    → Worked project text IsWhole before after s → EndsWell s
worked project text IsWhole before after status.Done right fault did = inl refl
worked project text IsWhole before after status.Memory right fault did = inr refl
worked project text IsWhole before after status.WriteFault right fault did = never refl fault
worked project text IsWhole before after (status.Refused refusal) right fault did = absurd (not-refused project text refusal right did.0)
worked project text IsWhole before after _ right fault did = absurd did

-- Runs with a script

-- no line of a script is bad for the source
abbrev HasNoBadLine : Project → List ℕ → Option (List ℕ) → Type 0
HasNoBadLine project text script = (line : ℕ) → OfSoundTree project text (λ program. HasBadLine program script line) → ⊥

ran : (project : Project) (text : List ℕ) (script : Option (List ℕ)) (ticks : ℕ) (before after : Option (List ℕ)) (s : Status) → OfSoundTree project text IsInside → HasNoBadLine project text script
    → is_write_fault s ≡ false → Ran project text script ticks before after s → EndsWell s
ran project text script ticks before after (status.BadScript line) right good fault did = absurd (good line did.0)
ran project text script ticks before after status.Done right good fault did = inl refl
ran project text script ticks before after status.Memory right good fault did = inr refl
ran project text script ticks before after status.WriteFault right good fault did = never refl fault
ran project text script ticks before after (status.Refused refusal) right good fault did = absurd (not-refused project text refusal right did.0)
ran project text script ticks before after _ right good fault did = absurd did

with-script : (project : Project) (text : List ℕ) (script : Option (List ℕ)) (files : Held) (ticks : ℕ) (before after : Option (List ℕ)) (s : Status) → OfSoundTree project text IsInside
    → IsRightScript script files project text → is_read_fault s ≡ false → is_write_fault s ≡ false
    → WithScript script files before after s (λ script_text. Ran project text script_text ticks before after s) → EndsWell s
with-script project text None files ticks before after s right good no_read no_write did =
    ran project text None ticks before after s right (λ line bad. bad.holds) no_write did
with-script project text (Some name) files ticks before after s right good no_read no_write (inl none) = unread most_text name (files name) s none.0 (good.0 s none.0) no_read
with-script project text (Some name) files ticks before after s right good no_read no_write (inr did) =
    ran project text (Some did.text) ticks before after s right (λ line bad. good.1 did.text line did.read bad) no_write did.holds

-- The tools

abbrev NoFault : Status → Type 0
NoFault s = (is_read_fault s ≡ false) × (is_write_fault s ≡ false) × (is_dial_fault s ≡ false)

simulated : (word source : List ℕ) (script : Option (List ℕ)) (files : Held) (ticks : ℕ) (before after : Option (List ℕ)) (s : Status) → AreRight KnownNatives word source files (IsRightScript script files)
    → NoFault s → Simulated word source script files ticks before after s → EndsWell s
simulated word source script files ticks before after s right fault (inl none) = not-given KnownNatives word source files s none.0 (right.none_blamed s none.0) fault.0
simulated word source script files ticks before after s right fault (inr did) =
    with-script (project_view did.project) did.text script files ticks before after s (right.sound did.project did.text did.given) (right.more did.project did.text did.given) fault.0 fault.1 did.holds

compiled : (word source : List ℕ) (files : Held) (before after : Option (List ℕ)) (s : Status) → AreRight AnyNatives word source files (λ given text. Unit {0})
    → NoFault s → CodeWritten word source files before after s → EndsWell s
compiled word source files before after s right fault (inl none) = not-given AnyNatives word source files s none.0 (right.none_blamed s none.0) fault.0
compiled word source files before after s right fault (inr did) =
    worked (project_view did.project) did.text (IsCodeOf (project_view did.project) did.text) before after s (right.sound did.project did.text did.given) fault.1 did.holds

-- what was given of an input that had given nothing
all-given : (answers : List PollAnswer) (before after : Option (Input PollAnswer)) → Gave before answers after → IfSome before IsUnread
    → IsSomeAnd after (λ input. IsGoodStream (bytes_of input.given)) → IsGoodStream (bytes_of answers)
all-given answers None after gave fresh good = absurd (subst (λ a. IsSomeAnd a (λ input. IsGoodStream (bytes_of input.given))) gave good)
all-given answers (Some b) None gave fresh good = absurd gave
all-given answers (Some b) (Some a) gave fresh good = subst (λ given. IsGoodStream (bytes_of given)) (gave.given ∙ ap (λ first. first ++ answers) fresh.0) good

no-bad-frame : (n : NodeState) (address : List ℕ) (turns : ℕ) (d : Dialing) (place : ℕ) → HasGoodInput d.polled → HadSession n address turns d (status.BadFrame place) → ⊥
no-bad-frame n address turns d place good had =
    true≢false
    (sym had.holds.bad.bad
    ∙ all-given (had.holds.answers ++ had.holds.last ∷ []) had.before.input had.after.input had.holds.gave had.unread
    (subst (λ polled. HasGoodInput polled) had.polled good))

node-ran : (n : NodeState) (address : List ℕ) (turns : ℕ) (d : Dialing) (s : Status) → HasGoodInput d.polled → NoFault s → NodeRan n address turns d s → EndsWell s
node-ran n address turns d status.Done good fault did = inl refl
node-ran n address turns d status.Memory good fault did = inr refl
node-ran n address turns d status.DialFault good fault did = never refl fault.2
node-ran n address turns d status.ReadFault good fault did = never refl fault.0
node-ran n address turns d status.WriteFault good fault did = never refl fault.1
node-ran n address turns d (status.BadFrame place) good fault did = absurd (no-bad-frame n address turns d place good did)
node-ran n address turns d _ good fault did = absurd did.holds

joined : (word address : List ℕ) (held : Option (Option (List ℕ))) (turns : ℕ) (d : Dialing) (s : Status) → NoneBlamed (NoProject KnownNatives word held) → HasGoodInput d.polled
    → NoFault s → Joined word address held turns d s → EndsWell s
joined word address held turns d s innocent good fault (inl none) = no-project KnownNatives word held s none.0 (innocent s none.0) fault.0
joined word address held turns d s innocent good fault (inr did) = node-ran (new_node did.project) address turns d s good fault did.holds

wrote-dump : (bytes : List ℕ) (before after : Option (List ℕ)) (s : Status) → IsGoodStream bytes → is_write_fault s ≡ false → WroteDump bytes before after s → EndsWell s
wrote-dump bytes before after status.Done good fault did = inl refl
wrote-dump bytes before after status.Memory good fault did = inr refl
wrote-dump bytes before after status.WriteFault good fault did = never refl fault
wrote-dump bytes before after (status.BadFrame place) good fault did = never did.0.bad good
wrote-dump bytes before after _ good fault did = absurd did

dumped : (file : List ℕ) (held : Option (Option (List ℕ))) (before after : Option (List ℕ)) (s : Status) → NoneBlamed (NotRead most_dumped file held)
    → ((bytes : List ℕ) → IsFileText most_dumped held bytes → IsGoodStream bytes) → NoFault s → Dumped file held before after s → EndsWell s
dumped file held before after s innocent good fault (inl none) = unread most_dumped file held s none.0 (innocent s none.0) fault.0
dumped file held before after s innocent good fault (inr did) = wrote-dump did.bytes before after s (good did.bytes did.read) fault.1 did.wrote

-- a command that was done
does : (command : Command) (files : Held) (before after : Option (List ℕ)) (d : Dialing) (s : Status) → IsRight command files d.polled → NoFault s → Does command files before after d s → EndsWell s
does (sim project source ticks script) files before after d s right fault did = simulated project source script files ticks before after s right fault did.0
does (compile project source) files before after d s right fault did = compiled project source files before after s right fault did.0
does (node project target turns) files before after d s right fault did = of_address (address_of target) did.1
  where
    of_address : (address : Option (List ℕ)) → IsSomeAnd address (λ address. Joined project address (files project) turns d s) → EndsWell s
    of_address None joins = absurd joins
    of_address (Some address) joins = joined project address (files project) turns d s right.0 right.1 fault joins
does (dump target project raw) files before after d s right fault did = dumped target (files target) before after s right.0 right.1 fault did.0
does (rec target project) files before after d s right fault did = absurd right
does (play recording target) files before after d s right fault did = absurd right
does (migrate recording project) files before after d s right fault did = absurd right
does (massloader project source target nodes) files before after d s right fault did = absurd right
does (make seed ticks) files before after d s right fault did = absurd right

-- words that are a command and weren't read
not-unread : (command : Command) (s : Status) → Unread (Some command) s → EndsWell s
not-unread command status.Usage none = cc
not-unread command status.Memory none = inr refl
not-unread command _ none = absurd none

pub ends_well : (asked : Option Command) (files : Held) (before after : Option (List ℕ)) (d : Dialing) (s : Status) → Did asked files before after d s
    → IsSomeAnd asked (λ command. IsRight command files d.polled) → is_read_fault s ≡ false → is_write_fault s ≡ false → is_dial_fault s ≡ false → EndsWell s
ends_well None files before after d s did right no_read no_write no_dial = absurd right
ends_well (Some command) files before after d s (inl none) right no_read no_write no_dial = not-unread command s none.0
ends_well (Some command) files before after d s (inr did) right no_read no_write no_dial = does command files before after d s right (no_read, no_write, no_dial) did
