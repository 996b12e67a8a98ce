use Rattle.std.proofs.Common.{◌∙◌, codes, refl, sym}
use Rattle.clap.proofs.WalkLemmas.{first_value-rows}
use Rattle.clap.specs.Words.{found_of}
use Rattle.tip_words.proofs.Chains.{first_is, none_is, same}
use Rattle.tip_words.proofs.reading.order_to_do.Goals as goal

pub returns-then-eq : goal.returns-then-eq
returns-then-eq c = (same c.args.name.now (codes "serve") (sym c.eq.ensures ∙ c.if-eq.true), c.text_in.ensures, c.sessions_in.ensures)

pub returns : goal.returns
returns c =
    let serve = sym c.eq.ensures ∙ c.if-eq.false in
    let rows = sym c.eq-2.ensures ∙ c.if-eq-2.false in
    let check = sym c.eq-3.ensures ∙ c.if-eq-3.false in (
      same c.args.name.now (codes "play") (first_is _ _ c.requires (none_is _ _ serve (none_is _ _ rows (none_is _ _ check refl)))),
      c.get_str-2.ensures ∙ first_value-rows (found_of c.args.found.now) (codes "store"),
    )

pub returns-then-eq-3 : goal.returns-then-eq-3
returns-then-eq-3 c = (
  same c.args.name.now (codes "check") (sym c.eq-3.ensures ∙ c.if-eq-3.true),
  c.get_str.ensures ∙ first_value-rows (found_of c.args.found.now) (codes "config"),
  c.get_str-then-eq-3.ensures ∙ first_value-rows (found_of c.args.found.now) (codes "store"),
)
