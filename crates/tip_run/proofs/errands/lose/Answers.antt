-- The party that was taken out is lost.
use Rattle.std.proofs.Common.{◌≡◌, ◌≢◌, ℕ, Some, ap, subst, sym}
use Rattle.std.specs.Prelude.{IfSome, option_map}
use Rattle.tip_host.specs.Works.{Takes, left_out}
use Rattle.tip_table.specs.Kept.{of}
use Rattle.tip_run.specs.Moves.{IsLost, at_work}
use Rattle.tip_run.proofs.errands.lose.Goals as goal

pub returns-clause-made : goal.returns-clause-made
returns-clause-made g c = λ earlier.
    let sent = c.in-Some.lost.sent in
    let old = c.args.host.now in
    let between = c.take_work.new.self in
    let new = c.lose.new.self in
    let noted = c.args.pass.now.noted in
    let here : c.in-Some.lost.realm ≡ c.args.realm = subst (λ found. IfSome found (λ work. work.realm ≡ c.args.realm)) c.in-Some.is c.in_ok-lost.ensures.realm in
    subst (IsLost (at_work old noted earlier) (at_work new noted earlier) c.args.realm) (sym c.in_ok-party.ensures) (record {
      between = at_work between noted earlier;
      taken = record {
        takes = subst (λ found. Takes c.args.realm (option_map (λ party. party.sent) found) old.books.work between.books.work old.books.out between.books.out) c.in-Some.is c.in_ok-lost.ensures.takes;
        rest = ap (λ h. at_work h noted earlier) c.in_ok-lost.ensures.rest;
      };
      lost = subst (λ (p : ℕ). of new.books.out p ≡ left_out (Some sent) (of between.books.out p)) here c.in-Ok.ensures.lost;
      others = subst (λ (p : ℕ). (other : ℕ) → other ≢ p → of new.books.out other ≡ of between.books.out other) here c.in-Ok.ensures.others;
      rest = ap (λ h. at_work h noted earlier) c.in-Ok.ensures.rest;
    })
