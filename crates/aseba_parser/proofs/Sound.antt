-- Declarations, parts and programs: what is read is spelled so.
use Rattle.std.proofs.Common.{◌≡◌, refl, ℕ, List, [], ◌∷◌, ◌++◌, true}
use Rattle.std.proofs.lemmas.List.{append_assoc, append-nil}
use Rattle.aseba_tree.specs.declared.token.Token.{Token}
use Rattle.aseba_tree.specs.declared.token.TokenKind.{TokenKind}
use Rattle.aseba_tree.specs.declared.token.Key.{Key}
use Rattle.aseba_tree.specs.declared.token.Sign.{Sign}
use Rattle.aseba_tree.specs.Code.{Place, Decl, Handler, Source, Project}
use Rattle.aseba_tree.specs.Spells.{place, any_level, SpellsSize, no_size, a_size, SpellsValue, no_value, a_value, SpellsDecls, no_decls, a_decl, SpellsParts, no_parts, a_handler, a_sub, Spells}
use Rattle.aseba_parser.specs.Reading.{is_sign, is_key, inside_of, size_read, Given, value_read, decl_read, begins_part, part_of, the_end, program_read}
use Rattle.aseba_parser.proofs.Laws.{EachReadIsSpelled}
use Rattle.aseba_parser.proofs.Means.{Told, done, fault, behind_first, behind, finally, told_as, by_test, is_the_sign, behind_sign, behind_key, behind_name, Many, no_more, another, all_read, behind_opened}
use Rattle.aseba_parser.proofs.SoundExpr.{ReadsExpr, blind, blind_reads, inside_reads, expr_reads}
use Rattle.aseba_parser.proofs.SoundStmt.{stmts_reads}

-- declarations
size_reads : (depth : ℕ) (tokens : List Token) → Told SpellsSize tokens (size_read depth tokens)
size_reads depth [] = done (no_size refl refl)
size_reads depth (t ∷ rest) = by_test (is_sign Sign.OpenBracket t.kind)
    (λ is_open. behind_opened ReadsExpr (inside_of depth) (inside_reads depth) blind blind_reads (λ read reads. behind (reads any_level rest) (λ e inner after d. behind_sign Sign.CloseBracket (λ closing last is_close.
    done (a_size t closing inner e (is_the_sign Sign.OpenBracket t is_open) is_close refl refl d)))))
    (λ is_none. done (no_size refl refl))

abbrev ValueSo : Place → List Token → Given → Type 0
ValueSo named used given = SpellsValue named used given.equals given.value

value_reads : (depth : ℕ) (named : Place) (tokens : List Token) → Told (ValueSo named) tokens (value_read depth named tokens)
value_reads depth named [] = done (no_value refl refl refl)
value_reads depth named (t ∷ rest) = by_test (is_sign Sign.Assign t.kind)
    (λ is_assign. behind_first (finally _ (expr_reads depth any_level rest) (λ e inner d. a_value t inner e (is_the_sign Sign.Assign t is_assign) refl refl refl d)))
    (λ is_none. done (no_value refl refl refl))

-- a declaration in front of any others
abbrev OneDecl : List Token → Decl → Type 0
OneDecl used d = (rest : List Token) (others : List Decl) → SpellsDecls rest others → SpellsDecls (used ++ rest) (d ∷ others)

decl_reads : (depth : ℕ) (tokens : List Token) → Told OneDecl tokens (decl_read depth tokens)
decl_reads depth tokens = behind_key Key.Var (λ word after_word is_word. behind_name _ (λ variable name after_name is_name. behind (size_reads depth after_name) (λ size sized after dsize.
    finally _ (value_reads depth (place variable) after) (λ given given_tokens dvalue more others ds.
    a_decl word variable sized given_tokens more name size given.value given.equals others is_word is_name (simp append_assoc) refl dsize dvalue ds))))

decls_in_a_row : (tokens : List Token) (ds : List Decl) → Many Decl OneDecl tokens ds → SpellsDecls tokens ds
decls_in_a_row tokens ds (no_more no_tokens none) = no_decls no_tokens none
decls_in_a_row tokens ds (another first rest d others parts are one more) = rw (parts, are) (one rest others (decls_in_a_row rest others more))

-- a part in front of any others
abbrev OnePart : Project → List Token → Handler → Type 0
OnePart project used h = (rest : List Token) (others : List Handler) → SpellsParts project rest others → SpellsParts project (used ++ rest) (h ∷ others)

part_by_reads : (project : Project) (depth : ℕ) (t : Token) (rest : List Token) (kind : TokenKind) → t.kind ≡ kind → begins_part kind ≡ true → Told (OnePart project) (t ∷ rest) (part_of project depth (t ∷ rest))
part_by_reads project depth t rest (TokenKind.Key Key.OnEvent) is begins = behind_first (behind_name _ (λ event name after is_name. finally _ (stmts_reads project depth after) (λ body inner d more others ds.
    a_handler t event inner more name body others is is_name refl (rw is refl) d ds)))
part_by_reads project depth t rest (TokenKind.Key Key.Sub) is begins = behind_first (behind_name _ (λ named name after is_name. finally _ (stmts_reads project depth after) (λ body inner d more others ds.
    a_sub t named inner more name body others is is_name refl (rw is refl) d ds)))
part_by_reads project depth t rest _ is begins = absurd (cc begins)

parts_in_a_row : (project : Project) (tokens : List Token) (hs : List Handler) → Many Handler (OnePart project) tokens hs → SpellsParts project tokens hs
parts_in_a_row project tokens hs (no_more no_tokens none) = no_parts no_tokens none
parts_in_a_row project tokens hs (another first rest h others parts are one more) = rw (parts, are) (one rest others (parts_in_a_row project rest others more))

-- the whole program
end_reads : (project : Project) (source : Source) (before : List Token) → Spells project source before → (tokens : List Token) → Told (λ more source. Spells project source (before ++ more)) tokens (the_end source tokens)
end_reads project source before d [] = done (rw append-nil d)
end_reads project source before d (t ∷ rest) = fault ([], source, rw append-nil d)

pub program_reads : (project : Project) (depth : ℕ) (tokens : List Token) → Told (λ used source. Spells project source used) tokens (program_read project depth tokens)
program_reads project depth tokens =
    behind (all_read (is_key Key.Var) (decl_read depth) (λ t rest begins. decl_reads depth (t ∷ rest)) tokens) (λ ds decl_tokens after_vars dds.
    behind (stmts_reads project depth after_vars) (λ init init_tokens after_init dinit.
    behind (all_read begins_part (part_of project depth) (λ t rest begins. part_by_reads project depth t rest t.kind refl begins) after_init) (λ hs part_tokens rest dhs.
    told_as (end_reads project (record { vars = ds; init = init; parts = hs }) (decl_tokens ++ (init_tokens ++ part_tokens)) (record {
      decl_tokens = decl_tokens;
      init_tokens = init_tokens;
      part_tokens = part_tokens;
      in_order = refl;
      decls = decls_in_a_row decl_tokens ds dds;
      init = dinit;
      parts = parts_in_a_row project part_tokens hs dhs;
    }) rest) (λ source used d. simp append_assoc at d))))

pub each_read_is_spelled : EachReadIsSpelled
each_read_is_spelled project depth tokens = (program_reads project depth tokens).means
