use Rattle.std.proofs.Common.{◌∙◌, codes, refl, subst, sym}
use Rattle.tip_words.proofs.Chains.{none_is, same}
use Rattle.clap.specs.Words.{found_of, rows_of}
use Rattle.tip_words.specs.Orders.{Says}
use Rattle.tip_words.proofs.reading.order_to_ask.Goals as goal

pub returns-then-eq-5-clause-some : goal.returns-then-eq-5-clause-some
returns-then-eq-5-clause-some c = subst (λ name. Says (name, rows_of (found_of c.args.found.now)) c.order_to_operate.result) (sym (same c.args.name.now (codes "ask") (sym c.eq-5.ensures ∙ c.if-eq-5.true))) c.order_to_operate.ensures

pub returns-clause-none : goal.returns-clause-none
returns-clause-none c = λ nobody.
    let ping = sym c.eq.ensures ∙ c.if-eq.false in
    let query = sym c.eq-2.ensures ∙ c.if-eq-2.false in
    let settle = sym c.eq-3.ensures ∙ c.if-eq-3.false in
    let send = sym c.eq-4.ensures ∙ c.if-eq-4.false in
    let ask = sym c.eq-5.ensures ∙ c.if-eq-5.false in
    none_is _ _ ping (none_is _ _ query (none_is _ _ settle (none_is _ _ send (none_is _ _ ask refl))))
