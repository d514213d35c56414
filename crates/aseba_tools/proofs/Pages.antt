-- A page on which text is gathered before it is written.
use Rattle.std.proofs.Common.{◌≡◌, ℕ, List, ◌++◌, Option, ap, sym, ◌∙◌, subst, append_assoc}
use Rattle.aseba_edge.specs.Sink.{TookFirst}
use Rattle.aseba_tools.specs.Page.{Gathered}
use Rattle.aseba_edge.proofs.Puts.{took_after, first_after}

-- more text comes behind a text that was gathered
module _ {before mid : Option (List ℕ)} {page text page' : List ℕ} (g : Gathered before page text mid page') (more : List ℕ) where
  together : g.written ++ (page' ++ more) ≡ page ++ (text ++ more)
  together = sym (append_assoc g.written page' more) ∙ ap (λ t. t ++ more) g.all ∙ append_assoc page text more

  -- it was gathered too
  pub gathered_more : {after : Option (List ℕ)} {page'' : List ℕ} → Gathered mid page' more after page'' → Gathered before page (text ++ more) after page''
  gathered_more {after} {page''} h =
      record {
        written = g.written ++ h.written;
        took = took_after before mid after g.written h.written g.took h.took;
        all = append_assoc g.written h.written page'' ∙ ap (λ t. g.written ++ t) h.all ∙ together;
      }

  -- it wasn't all written
  pub gathered_cut : {after : Option (List ℕ)} → TookFirst mid (page' ++ more) after → TookFirst before (page ++ (text ++ more)) after
  gathered_cut {after} part =
      subst (λ (t : List ℕ). TookFirst before t after) together (first_after before mid after g.written (page' ++ more) g.took part)
