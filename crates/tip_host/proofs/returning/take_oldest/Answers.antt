use Rattle.std.proofs.Common.{◌∙◌, ◌++◌, ◌∷◌, [], Some, ap, append-nil, refl, sym}
use Rattle.std.proofs.lemmas.Option.{none-some}
use Rattle.tip_table.specs.Kept.{of}
use Rattle.tip_host.proofs.Taking.{nobody, taken_first, taken_others, taken_over}
use Rattle.tip_host.proofs.returning.take_oldest.Goals as goal

pub returns-in_default-clause-takes : goal.returns-in_default-clause-takes
returns-in_default-clause-takes g c = record {
  waited = refl;
  none = λ is. nobody (of c.args.work.now c.args.realm) (c.in_default.ensures.none.0 refl);
  goes = sym (append-nil (of c.args.out.now c.args.realm));
  others = λ other differ. (refl, refl);
}

pub returns-clause-takes : goal.returns-clause-takes
returns-clause-takes g c =
    let sent = c.new.ensures.sent ∙ c.in_ok-sent.ensures ∙ c.party-party.ensures ∙ c.item-2.ensures in
    let first = taken_first c.args.work.now c.args.realm c.in-Some.place c.item.result.now c.in-Some.ensures.some c.item.ensures in
    record {
      waited = first ∙ ap (λ xs. c.item.result.now ∷ xs) (sym (c.remove.ensures.left c.args.realm)) ∙ ap (λ p. p ∷ of c.remove.new.self c.args.realm) (sym sent);
      none = λ is. absurd (none-some _ (sym is));
      goes = c.add.ensures.added ∙ ap (λ xs. xs ++ c.from_item.result ∷ []) (c.in_ok-reserve.ensures.items c.args.realm) ∙ ap (λ p. of c.args.out.now c.args.realm ++ p ∷ []) (c.from_item.ensures ∙ c.in_ok-noted.ensures ∙ c.party-party.ensures ∙ c.item-2.ensures ∙ sym sent);
      others = λ other differ. (c.remove.ensures.left other ∙ taken_others c.args.work.now c.args.realm c.in-Some.place c.item.result.now c.in-Some.ensures.some c.item.ensures other differ, c.add.ensures.others other differ ∙ c.in_ok-reserve.ensures.items other);
    }

pub returns-clause-out : goal.returns-clause-out
returns-clause-out g c =
    taken_over c.args.work.now c.args.realm c.in-Some.place c.from_item.result c.in-Some.ensures.some (c.item.ensures ∙ ap Some (sym (c.from_item.ensures ∙ c.in_ok-noted.ensures ∙ c.party-party.ensures ∙ c.item-2.ensures)))
    c.remove.new.self c.args.out.now c.reserve.new.self c.add.new.self c.remove.ensures.left c.in_ok-reserve.ensures.items c.add.ensures.added c.add.ensures.others
