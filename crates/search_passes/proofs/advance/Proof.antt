-- `search_passes::advance` meets its contract: the search stops, or goes on. Assumes nothing.
use mathlib.Core.Path.{sym, ap, ◌∙◌, subst}
use Prim.Native.Nat.{ℕ, ◌≤◌}
use borrow.Author.Rules.{rules}
use Rattle.search_laws.specs.Advancing.{Right, decided-so, decided-right, stopped-running, going-running, decided-used}
use Rattle.search_laws.specs.Steps.{LinksAlong}
use Rattle.search_laws.specs.StepLaws.{remembers-links, remembers-passes}
use Rattle.search_laws.specs.Meanings.{counts_in}
use Rattle.search_laws.specs.declared.Outcome.{Outcome}
use Rattle.search_state.specs.Layout.{row_cells}
use Rattle.search_passes.proofs.advance.Statement.{statement}
use Rattle.search_passes.proofs.advance.Tie as tie

go-on-requires : tie.Need-go_on-requires
go-on-requires c κs =
    let s = c in
    let u = decided-used s.args.state s.args.fate s.requires.full s.requires.room s.requires.limit in
    let hints = c.remember_hint in
    let same = ap (λ (z : Outcome). (counts_in z).used) (sym c.in-Going.ensures) in (
      record {
        opens = record {
          table = hints.ensures.size ∙ s.requires.remember.table;
          count = s.requires.passes.count;
          old = s.requires.start;
          used = subst (λ (n : ℕ). n ≤ row_cells) same u;
          links = subst (λ (n : ℕ). LinksAlong n hints.new.table) same (remembers-links hints.ensures u s.requires.links);
        };
        pass = s.requires.pass;
      },
      s.requires.here,
      remembers-passes hints.ensures s.requires.passes,
    )

returns : tie.Need-returns-in-Going
returns c P L start j₀ j d x =
    going-running x L _ c.remember_hint.ensures (c.in-Going.ensures ∙ decided-so x) (c.go_on.ensures P L)

returns-2 : tie.Need-returns-in-Stopped
returns-2 c P L start j₀ j d x =
    rw c.stop.ensures (stopped-running x _ (subst (Right x) (sym (c.in-Stopped.ensures ∙ decided-so x)) (decided-right x)) _)

pub advance_spec : {M : Type 1} → statement M
advance_spec = tie.close (tie.spec (λ c κs. search rules) (λ c κs. search rules) (λ c. search rules) go-on-requires (λ c. search rules) (λ c κs. search rules) (λ c. search rules) returns (λ c. search rules) returns-2)
