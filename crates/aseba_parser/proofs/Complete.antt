-- What is spelled is read: the value, or the fault at the first token that is nested too deep.
use Rattle.std.proofs.Common.{◌≡◌, ◌∙◌, ℕ, zero, suc, ◌≤◌, Bool, true, false, List, [], ◌∷◌, ◌++◌, length, refl, sym, ap, subst, arith, length-append}
use Rattle.std.proofs.lemmas.List.{append-nil}
use Rattle.aseba_tree.specs.declared.token.Token.{Token}
use Rattle.aseba_tree.specs.declared.token.TokenKind.{TokenKind}
use Rattle.aseba_tree.specs.declared.token.Key.{Key}
use Rattle.aseba_tree.specs.Code.{Name, Stmts, Decl, Handler, Source, Project}
use Rattle.aseba_tree.specs.Spells.{place, IsName, SpellsParts, no_parts, a_handler, a_sub}
use Rattle.aseba_tree.specs.Nest.{stmts_nests, decls_nests, parts_nests, nests}
use Rattle.aseba_parser.specs.Reading.{Read, taken, next, is_key, many, all_of, stmts_read, block_of, begins_part, part_of, the_end, program_read}
use Rattle.aseba_parser.proofs.Laws.{first_above, outcome, EachSpelledIsRead}
use Rattle.aseba_parser.proofs.Outcome.{reply, Fits, fits_both, reply_first, reply_next, reply_made, reply_map, reply_outcome}
use Rattle.aseba_parser.proofs.OutcomeSteps.{reply_named, many_end, many_more}
use Rattle.aseba_parser.proofs.CompleteBehind.{Begun, fresh, closes, fresh_stmt, fresh_closing, closing_part, begun_both, no_var_behind}
use Rattle.aseba_parser.proofs.CompleteRows.{AreStmtsRead}
use Rattle.aseba_parser.proofs.CompleteStmts.{are_read, each_stmts}
use Rattle.aseba_parser.proofs.CompleteDecls.{AreDeclsRead, each_decls}

-- The tokens up to the end are read as those parts one by one, if no fewer are allowed than there are tokens.
record ArePartsRead (project : Project) (used : List Token) (hs : List Handler) (ns : List ℕ) : Type 0 where
  fits : Fits ns used
  begins : Begun begins_part used
  loops : (depth fuel : ℕ) → length used ≤ fuel → many begins_part (part_of project depth) fuel used ≡ reply depth ns used hs

part_made : Token → Token → Name → Bool → Stmts → Handler
part_made word named name is_sub body = record { line = word.at.line; place = place named; is_sub = is_sub; name = name; body = body }

part_reads : (project : Project) (depth : ℕ) (word named : Token) (inner rest : List Token) (name : Name) (is_sub : Bool) (body : Stmts) (nb : List ℕ) → IsName name named → is_key Key.Sub word.kind ≡ is_sub → AreStmtsRead project inner body nb → Begun closes rest
    → part_of project depth (word ∷ named ∷ (inner ++ rest)) ≡ reply depth (0 ∷ 0 ∷ nb) (word ∷ named ∷ (inner ++ rest)) (part_made word named name is_sub body)
unfolding part_made
part_reads project depth word named inner rest name is_sub body nb is_name sub db closed =
    let made = λ (is_sub : Bool) (body : Stmts). part_made word named name is_sub body in
    reply_named depth nb named (inner ++ rest) name (made (is_key Key.Sub word.kind) body) _ is_name
    (ap (λ (r : Read Stmts). next r (λ body behind. taken (made (is_key Key.Sub word.kind) body) behind)) (db.reads depth rest closed)
    ∙ reply_map depth nb (inner ++ rest) body (made (is_key Key.Sub word.kind) body) (λ body behind. taken (made (is_key Key.Sub word.kind) body) behind) (λ rest. refl))
    ∙ ap (λ (b : Bool). reply depth (0 ∷ nb) (named ∷ (inner ++ rest)) (made b body)) sub
    ∙ sym (reply_first depth (0 ∷ nb) word (named ∷ (inner ++ rest)) (made is_sub body))

part_loops : (project : Project) (word named : Token) (inner rest : List Token) (name : Name) (is_sub : Bool) (body : Stmts) (others : List Handler) (nb ms : List ℕ) → begins_part word.kind ≡ true → IsName name named → is_key Key.Sub word.kind ≡ is_sub
    → AreStmtsRead project inner body nb → ArePartsRead project rest others ms → (depth fuel : ℕ) → length (word ∷ named ∷ (inner ++ rest)) ≤ fuel
    → many begins_part (part_of project depth) fuel (word ∷ named ∷ (inner ++ rest)) ≡ reply depth (0 ∷ 0 ∷ (nb ++ ms)) (word ∷ named ∷ (inner ++ rest)) (part_made word named name is_sub body ∷ others)
part_loops project word named inner rest name is_sub body others nb ms begins is_name sub db ds depth zero enough = absurd (omega arith)
part_loops project word named inner rest name is_sub body others nb ms begins is_name sub db ds depth (suc fuel) enough =
    let longer = length-append inner rest in
    many_more begins_part (part_of project depth) depth fuel (0 ∷ 0 ∷ nb) ms word (named ∷ inner) rest (part_made word named name is_sub body) others begins db.fits
    (part_reads project depth word named inner rest name is_sub body nb is_name sub db (closing_part rest ds.begins)) (ds.loops depth fuel (omega (arith, longer, enough)))

a_part_read : (project : Project) (word named : Token) (inner rest : List Token) (name : Name) (is_sub : Bool) (body : Stmts) (others : List Handler) (nb ms : List ℕ) → begins_part word.kind ≡ true → IsName name named → is_key Key.Sub word.kind ≡ is_sub
    → AreStmtsRead project inner body nb → ArePartsRead project rest others ms
    → ArePartsRead project (word ∷ named ∷ (inner ++ rest)) (record { line = word.at.line; place = place named; is_sub = is_sub; name = name; body = body } ∷ others) (0 ∷ 0 ∷ (nb ++ ms))
unfolding part_made
a_part_read project word named inner rest name is_sub body others nb ms begins is_name sub db ds = record {
  fits = fits_both nb ms inner rest db.fits ds.fits;
  begins = begins;
  loops = part_loops project word named inner rest name is_sub body others nb ms begins is_name sub db ds;
}

parts_equal : (project : Project) (used tokens : List Token) (hs wanted : List Handler) (ns : List ℕ) → tokens ≡ used → wanted ≡ hs → ArePartsRead project used hs ns → ArePartsRead project tokens wanted ns
parts_equal project used tokens hs wanted ns p q h = subst (λ (ts : List Token). ArePartsRead project ts wanted ns) (sym p) (subst (λ (x : List Handler). ArePartsRead project used x ns) (sym q) h)

each_parts : {project : Project} {tokens : List Token} {hs : List Handler} (d : SpellsParts project tokens hs) → ArePartsRead project tokens hs (parts_nests d)
each_parts {project} (no_parts all tree) = parts_equal project [] _ [] _ [] all tree (record { fits = tt; begins = tt; loops = λ depth fuel enough. many_end begins_part (part_of project depth) fuel [] tt })
each_parts {project} (a_handler word event inner rest name body others is_word is_name all tree db ds) =
    parts_equal project (word ∷ event ∷ (inner ++ rest)) _ (record { line = word.at.line; place = place event; is_sub = false; name = name; body = body } ∷ others) _ (0 ∷ 0 ∷ (stmts_nests db ++ parts_nests ds)) all tree
    (a_part_read project word event inner rest name false body others (stmts_nests db) (parts_nests ds) (ap begins_part is_word) is_name (ap (λ (k : TokenKind). is_key Key.Sub k) is_word) (are_read project inner body (stmts_nests db) (each_stmts db)) (each_parts ds))
each_parts {project} (a_sub word named inner rest name body others is_word is_name all tree db ds) =
    parts_equal project (word ∷ named ∷ (inner ++ rest)) _ (record { line = word.at.line; place = place named; is_sub = true; name = name; body = body } ∷ others) _ (0 ∷ 0 ∷ (stmts_nests db ++ parts_nests ds)) all tree
    (a_part_read project word named inner rest name true body others (stmts_nests db) (parts_nests ds) (ap begins_part is_word) is_name (ap (λ (k : TokenKind). is_key Key.Sub k) is_word) (are_read project inner body (stmts_nests db) (each_stmts db)) (each_parts ds))

-- the parts and the end of the text
parts_read : (project : Project) (depth : ℕ) (ds : List Decl) (init : Stmts) (tokens : List Token) (hs : List Handler) (ns : List ℕ) → ArePartsRead project tokens hs ns
    → next (all_of begins_part (part_of project depth) tokens) (λ hs behind. the_end (record { vars = ds; init = init; parts = hs }) behind) ≡ reply depth ns tokens (record { vars = ds; init = init; parts = hs })
parts_read project depth ds init tokens hs ns d =
    let ending = λ (hs : List Handler) (behind : List Token). the_end (record { vars = ds; init = init; parts = hs }) behind in
    let made : Source = record { vars = ds; init = init; parts = hs } in
    ap (λ (r : Read (List Handler)). next r ending) (d.loops depth (length tokens) (omega arith))
    ∙ subst (λ (ts : List Token). next (reply depth ns ts hs) ending ≡ reply depth ns ts made) (append-nil tokens) (reply_made depth ns tokens [] hs made ending d.fits refl)

program_reads : (project : Project) (depth : ℕ) (vars inits parts : List Token) (source : Source) (nd ni np : List ℕ) → AreDeclsRead vars source.vars nd → AreStmtsRead project inits source.init ni → ArePartsRead project parts source.parts np
    → program_read project depth (vars ++ (inits ++ parts)) ≡ reply depth (nd ++ (ni ++ np)) (vars ++ (inits ++ parts)) source
program_reads project depth vars inits parts source nd ni np dd di dp =
    let closed = closing_part parts dp.begins in
    let behind_init = λ (ds : List Decl) (init : Stmts) (after : List Token). next (all_of begins_part (part_of project depth) after) (λ hs behind. the_end (record { vars = ds; init = init; parts = hs }) behind) in
    let behind_vars = λ (ds : List Decl) (after : List Token). next (stmts_read project depth (block_of project depth) after) (behind_init ds) in
    let longer = length-append vars (inits ++ parts) in
    ap (λ (r : Read (List Decl)). next r behind_vars)
    (dd.loops depth (length (vars ++ (inits ++ parts))) (inits ++ parts) (omega (arith, longer)) (begun_both _ fresh inits parts di.begins fresh_stmt (fresh_closing parts closed)) (no_var_behind inits parts di.begins closed))
    ∙ reply_next depth nd (ni ++ np) vars (inits ++ parts) source.vars source behind_vars dd.fits
    (ap (λ (r : Read Stmts). next r (behind_init source.vars)) (di.reads depth parts closed)
    ∙ reply_next depth ni np inits parts source.init source (behind_init source.vars) di.fits (parts_read project depth source.vars source.init parts source.parts np dp))

pub each_spelled_is_read : EachSpelledIsRead
each_spelled_is_read project source tokens d depth =
    let dd = each_decls d.decls in
    let di = are_read project d.init_tokens source.init (stmts_nests d.init) (each_stmts d.init) in
    let dp = each_parts d.parts in
    let all = d.decl_tokens ++ (d.init_tokens ++ d.part_tokens) in
    let fits = fits_both (decls_nests d.decls) (stmts_nests d.init ++ parts_nests d.parts) d.decl_tokens (d.init_tokens ++ d.part_tokens) dd.fits
    (fits_both (stmts_nests d.init) (parts_nests d.parts) d.init_tokens d.part_tokens di.fits dp.fits) in
    subst (λ (ts : List Token). program_read project depth ts ≡ outcome (first_above depth (nests d)) ts [] source) (sym d.in_order)
    (program_reads project depth d.decl_tokens d.init_tokens d.part_tokens source (decls_nests d.decls) (stmts_nests d.init) (parts_nests d.parts) dd di dp
    ∙ ap (λ (ts : List Token). reply depth (nests d) ts source) (sym (append-nil all))
    ∙ reply_outcome depth (nests d) all [] source fits)
