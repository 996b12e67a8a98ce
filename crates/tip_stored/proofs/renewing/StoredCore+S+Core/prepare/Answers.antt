-- What was read of the realm that is there.
use Rattle.std.proofs.Common.{◌≡◌, ◌∙◌, ◌<◌, ap, arith, rules, subst}
use Rattle.std.proofs.lemmas.Bool.Decides.{nat_tests}
use Rattle.tip_core.specs.Hosted.{realm as realm_at}
use Rattle.tip_machine.specs.declared.head.Head.{Head}
use Rattle.tip_recovery.proofs.Rereading.{again_epoch, again_realm}
use Rattle.tip_rows.specs.Logs.{last_epoch}
use Rattle.tip_stored.specs.Loading.{IsIts, IsRead, IsReasonToRead}
use Rattle.tip_stored.specs.Renewing.{IsReasonToRenew}
use Rattle.tip_stored.proofs.Opening.{handed_on}
use Rattle.tip_stored.proofs.Renewals.{ended, is_there, its_head, looked_up, other_epoch, other_rows, unread}
use Rattle.tip_stored.proofs.renewing.StoredCore+S+Core.prepare.Goals.{then-not-is_read_again-via-then-not-is_read_again, then-not-is_read_again-via-else-not-is_read_again+then-epoch-head}
use Rattle.tip_stored.proofs.renewing.StoredCore+S+Core.prepare.Goals as goal

pub returns-in_err-fresh-clause-reason : goal.returns-in_err-fresh-clause-reason
returns-in_err-fresh-clause-reason g c = λ log state stood there true_now.
    let here = looked_up c.heads.result.now c.args.realm c.in-Some.head.now (realm_at c.args.self.now.core c.args.realm) c.in-Some.ensures.lookup.3.0 c.in-Some.ensures.lookup.1 (c.heads.ensures c.args.realm) in
    let name = ap (λ (h : Head). h.name) (its_head (realm_at c.args.self.now.core c.args.realm) c.in-Some.head.now here state there) in
    let why = c.in_err-fresh.field-0.0 in
    handed_on (IsReasonToRenew log state c.args.recovery.now) c.from_residual.result _ c.from_residual.ensures.1
    (unread log state c.args.recovery.now why (subst (λ n. IsReasonToRead log n why) name (c.in_err-fresh.ensures.reason log stood true_now)))

pub returns-then-epoch-clause-reason : goal.returns-then-epoch-clause-reason
returns-then-epoch-clause-reason g c = λ log state stood there true_now.
    let here = looked_up c.heads.result.now c.args.realm c.in-Some.head.now (realm_at c.args.self.now.core c.args.realm) c.in-Some.ensures.lookup.3.0 c.in-Some.ensures.lookup.1 (c.heads.ensures c.args.realm) in
    let head = its_head (realm_at c.args.self.now.core c.args.realm) c.in-Some.head.now here state there in
    ended log state.head.name c.in_ok-fresh.fresh (subst (λ (h : Head). IsRead log h.name c.in_ok-fresh.fresh) head (c.in_ok-fresh.ensures.read log stood true_now)) (grind (arith, c.epoch.ensures))

pub returns-then-not-is_adopted-clause-reason : goal.returns-then-not-is_adopted-clause-reason
returns-then-not-is_adopted-clause-reason g c = λ log state stood there true_now.
    let here = looked_up c.heads.result.now c.args.realm c.in-Some.head.now (realm_at c.args.self.now.core c.args.realm) c.in-Some.ensures.lookup.3.0 c.in-Some.ensures.lookup.1 (c.heads.ensures c.args.realm) in
    let head = its_head (realm_at c.args.self.now.core c.args.realm) c.in-Some.head.now here state there in
    let same : c.in-Some.head.now.epoch ≡ state.head.epoch = ap (λ (h : Head). h.epoch) head in
    let now : c.in_ok-fresh.fresh.epoch ≡ state.head.epoch = grind (arith, same) in (
      record {
        fresh = c.in_ok-fresh.fresh;
        read = subst (λ (h : Head). IsRead log h.name c.in_ok-fresh.fresh) head (c.in_ok-fresh.ensures.read log stood true_now);
        its = subst (λ (h : Head). IsIts h.name c.in_ok-fresh.fresh) head c.in_ok-fresh.ensures.own;
        epoch = now;
        rises = grind (arith, now, c.epoch.ensures, c.epoch.type_inv);
        again = search rules;
      },
      search rules,
    )

pub returns-then-not-is_read_again-clause-reason : goal.returns-then-not-is_read_again-clause-reason
returns-then-not-is_read_again-clause-reason g c = λ log state stood there true_now.
    let here = looked_up c.heads.result.now c.args.realm c.in-Some.head.now (realm_at c.args.self.now.core c.args.realm) c.in-Some.ensures.lookup.3.0 c.in-Some.ensures.lookup.1 (c.heads.ensures c.args.realm) in
    let head = its_head (realm_at c.args.self.now.core c.args.realm) c.in-Some.head.now here state there in
    let its = subst (λ (h : Head). IsIts h.name c.in_ok-fresh.fresh) head c.in_ok-fresh.ensures.own in
    let rises : c.in_ok-fresh.fresh.epoch < last_epoch = grind (arith, c.epoch.ensures, c.epoch.type_inv) in
    elim c.then-not-is_read_again.branch [
      | then-not-is_read_again-via-then-not-is_read_again w ↦
          let read = c.in_ok-fresh.ensures.read log stood (search rules) in
          other_rows log state c.args.recovery.now c.in_ok-fresh.fresh (subst (λ (h : Head). IsRead log h.name c.in_ok-fresh.fresh) head read) its rises (search rules)
      | then-not-is_read_again-via-else-not-is_read_again+then-epoch-head w ↦
          let read = c.in_ok-fresh.ensures.read log stood (search rules) in
          let same : c.in-Some.head.now.epoch ≡ state.head.epoch = ap (λ (h : Head). h.epoch) head in
          other_epoch log state c.args.recovery.now c.in_ok-fresh.fresh (subst (λ (h : Head). IsRead log h.name c.in_ok-fresh.fresh) head read) its rises (grind (arith, nat_tests, same))
    ]

pub returns-then-not-is_adopted-clause-absent : goal.returns-then-not-is_adopted-clause-absent
returns-then-not-is_adopted-clause-absent g c =
    let here = looked_up c.heads.result.now c.args.realm c.in-Some.head.now (realm_at c.args.self.now.core c.args.realm) c.in-Some.ensures.lookup.3.0 c.in-Some.ensures.lookup.1 (c.heads.ensures c.args.realm) in
    λ none. absurd (is_there (realm_at c.args.self.now.core c.args.realm) c.in-Some.head.now here none)

pub returns-in_err-room-clause-absent : goal.returns-in_err-room-clause-absent
returns-in_err-room-clause-absent g c =
    let here = looked_up c.heads.result.now c.args.realm c.in-Some.head.now (realm_at c.args.self.now.core c.args.realm) c.in-Some.ensures.lookup.3.0 c.in-Some.ensures.lookup.1 (c.heads.ensures c.args.realm) in
    λ none. absurd (is_there (realm_at c.args.self.now.core c.args.realm) c.in-Some.head.now here none)

pub returns-clause-here : goal.returns-clause-here
returns-clause-here g c =
    let here = looked_up c.heads.result.now c.args.realm c.in-Some.head.now (realm_at c.args.self.now.core c.args.realm) c.in-Some.ensures.lookup.3.0 c.in-Some.ensures.lookup.1 (c.heads.ensures c.args.realm) in
    is_there (realm_at c.args.self.now.core c.args.realm) c.in-Some.head.now here

pub returns-clause-absent : goal.returns-clause-absent
returns-clause-absent g c =
    let here = looked_up c.heads.result.now c.args.realm c.in-Some.head.now (realm_at c.args.self.now.core c.args.realm) c.in-Some.ensures.lookup.3.0 c.in-Some.ensures.lookup.1 (c.heads.ensures c.args.realm) in
    λ none. absurd (is_there (realm_at c.args.self.now.core c.args.realm) c.in-Some.head.now here none)

pub returns-clause-read : goal.returns-clause-read
returns-clause-read g c =
    let here = looked_up c.heads.result.now c.args.realm c.in-Some.head.now (realm_at c.args.self.now.core c.args.realm) c.in-Some.ensures.lookup.3.0 c.in-Some.ensures.lookup.1 (c.heads.ensures c.args.realm) in
    λ state there.
    let head = its_head (realm_at c.args.self.now.core c.args.realm) c.in-Some.head.now here state there in
    let same : c.in-Some.head.now.epoch ≡ state.head.epoch = ap (λ (h : Head). h.epoch) head in (
      c.in_ok-fresh.fresh,
      grind (arith, same),
      search rules,
      λ log stood true_now. subst (λ (h : Head). IsRead log h.name c.in_ok-fresh.fresh) head (c.in_ok-fresh.ensures.read log stood true_now),
      subst (λ (h : Head). IsIts h.name c.in_ok-fresh.fresh) head c.in_ok-fresh.ensures.own,
    )

pub returns-clause-named : goal.returns-clause-named
returns-clause-named g c =
    let here = looked_up c.heads.result.now c.args.realm c.in-Some.head.now (realm_at c.args.self.now.core c.args.realm) c.in-Some.ensures.lookup.3.0 c.in-Some.ensures.lookup.1 (c.heads.ensures c.args.realm) in
    λ state there. again_realm c.args.recovery.now c.in_ok-fresh.fresh (search rules) ∙ c.in_ok-fresh.ensures.own.name ∙ ap (λ (h : Head). h.name) (its_head (realm_at c.args.self.now.core c.args.realm) c.in-Some.head.now here state there)

pub returns-clause-epoch : goal.returns-clause-epoch
returns-clause-epoch g c =
    let here = looked_up c.heads.result.now c.args.realm c.in-Some.head.now (realm_at c.args.self.now.core c.args.realm) c.in-Some.ensures.lookup.3.0 c.in-Some.ensures.lookup.1 (c.heads.ensures c.args.realm) in
    λ state there.
    let same : c.in-Some.head.now.epoch ≡ state.head.epoch = ap (λ (h : Head). h.epoch) (its_head (realm_at c.args.self.now.core c.args.realm) c.in-Some.head.now here state there) in
    let now : c.in_ok-fresh.fresh.epoch ≡ state.head.epoch = grind (arith, same) in
    (again_epoch c.args.recovery.now c.in_ok-fresh.fresh (search rules) ∙ now, grind (arith, now, c.epoch.ensures, c.epoch.type_inv))
