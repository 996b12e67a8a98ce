use Rattle.std.proofs.Common.{◌≡◌, ◌<◌, ◌+◌, ◌∙◌, ap, inl, inr, map, refl, subst, sym}
use Rattle.std.specs.Prelude.{IsSomeAnd, slice_get}
use Rattle.std.proofs.lemmas.Bool.{true≢false}
use Rattle.std.proofs.lemmas.Option.{same_Some}
use Rattle.tip_core.specs.Hosted.{realm}
use Rattle.tip_journal.proofs.LawLemmas.{renewed-others}
use Rattle.tip_journal.specs.Journal.{begun}
use Rattle.tip_journal.specs.Journals.{IsWithdrawable, renewed}
use Rattle.tip_kept.specs.Keeping.{rows_at}
use Rattle.tip_machine.specs.States.{State}
use Rattle.tip_outbox.specs.Waiting.{waiting}
use Rattle.tip_recovery.specs.Adopting.{loaded}
use Rattle.tip_table.specs.Kept.{of}
use Rattle.tip_host.proofs.Honestly.{still_honest}
use Rattle.tip_host.proofs.Journals.{bare_renewed}
use Rattle.tip_host.proofs.Renewals.{as_core_says, can_rise, later_so, never_renewed, next_state, renewed_honest, renewed_known, withdrawable, withdrawn}
use Rattle.tip_host.specs.Books.{Books, IsHonest, out_of}
use Rattle.tip_host.specs.Entries.{bare}
use Rattle.tip_host.proofs.host.Host.renew.Goals as goal

pub returns-in_default-clause-lines : goal.returns-in_default-clause-lines
returns-in_default-clause-lines g c =
    let none = rw (← c.self.view_is) at c.in_default.ensures in
    never_renewed c.renew.result c.self.inside.stored.is_stopped (realm c.self.inside.stored.core c.args.realm) _ none c.renew.ensures.here c.renew.ensures.running c.renew.ensures.renewed (λ state left is. is.rises) _

pub returns-in_default-clause-stored : goal.returns-in_default-clause-stored
returns-in_default-clause-stored g c =
    let none = rw (← c.self.view_is) at c.in_default.ensures in
    never_renewed c.renew.result c.self.inside.stored.is_stopped (realm c.self.inside.stored.core c.args.realm) _ none c.renew.ensures.here c.renew.ensures.running c.renew.ensures.renewed (λ state left is. is.rises) _

pub returns-in_default-clause-reason : goal.returns-in_default-clause-reason
returns-in_default-clause-reason g c = rw (← c.self.view_is) (λ log state stands here true.
    let none = rw (← c.self.view_is) at c.in_default.ensures in
    as_core_says c.renew.result c.self.inside.stored.is_stopped (realm c.self.inside.stored.core c.args.realm) log state _ c.args.recovery none here c.renew.ensures.stopping (c.renew.ensures.reason log state stands here true))

pub returns-then-not-are_stored-clause-reason : goal.returns-then-not-are_stored-clause-reason
returns-then-not-are_stored-clause-reason g c = rw (← c.self.view_is) (λ log state stands here true.
    let some = rw (← c.self.view_is) at c.in-Some.ensures in
    inl (refl, λ same. true≢false (sym (c.are_stored.ensures.same.1 same) ∙ c.if-not-are_stored.true), can_rise c.self.inside.stored.is_stopped (realm c.self.inside.stored.core c.args.realm) c.in-Some.epoch state some here))

pub returns-in_default-begin-clause-reason : goal.returns-in_default-begin-clause-reason
returns-in_default-begin-clause-reason g c = rw (← c.self.view_is) (λ log state stands here true. inr (λ not_last runs. c.are_stored.ensures.same.0 c.if-not-are_stored.false, tt))

pub returns-in-Err-clause-reason : goal.returns-in-Err-clause-reason
returns-in-Err-clause-reason g c = rw (← c.self.view_is) (λ log state stands here true. inr (λ not_last runs. c.are_stored.ensures.same.0 c.if-not-are_stored.false, c.in-Err.ensures.reason log state stands here true))

pub begin-requires-clause-later : goal.begin-requires-clause-later
begin-requires-clause-later g c = later_so c.self.inside.stored.core c.self.inside.books c.args.realm c.self.inside.stored.is_stopped c.in-Some.epoch c.self.invariant (rw (← c.self.view_is) at c.in-Some.ensures)

pub invariant_of-self-in-Ok-renew : goal.invariant_of-self-in-Ok-renew
invariant_of-self-in-Ok-renew g c =
    let found = next_state c.self.inside.stored.is_stopped (realm c.self.inside.stored.core c.args.realm) c.in-Some.epoch (rw (← c.self.view_is) at c.in-Some.ensures) in
    let again = c.in-Ok-renew.ensures.renewed found.0 found.1 in
    let rest : c.clear.new.books ≡ record c.self.inside.books { journals = c.begin.new.books.journals; outboxes = c.clear.new.books.outboxes } = c.clear.ensures.rest ∙ ap (λ (b : Books). record b { outboxes = c.clear.new.books.outboxes }) c.begin.ensures.rest in
    renewed_honest c.self.inside.stored.core c.renew-2.new.self.core c.self.inside.books c.begin.new.books c.clear.new.books c.args.realm found.0 c.in-Some.epoch c.args.recovery.rows c.self.invariant found.1 found.2
    (c.are_stored.ensures.same.0 c.if-not-are_stored.false) c.are_stored.ensures.rising (c.in-Ok.ensures.boxed again.adopted) again.rises again.state_is c.in-Ok-renew.ensures.others
    c.in-Ok.ensures.begun (ap (λ (b : Books). b.journals) rest) (ap (λ (b : Books). b.retired) rest) (ap (λ (b : Books). b.rows) rest) (ap (λ (b : Books). b.work) rest) (ap (λ (b : Books). b.out) rest)

pub withdraw-requires-clause-last : goal.withdraw-requires-clause-last
withdraw-requires-clause-last g c =
    let later = later_so c.self.inside.stored.core c.self.inside.books c.args.realm c.self.inside.stored.is_stopped c.in-Some.epoch c.self.invariant (rw (← c.self.view_is) at c.in-Some.ensures) in
    subst (λ js. IsSomeAnd (slice_get js c.args.realm) IsWithdrawable) (sym c.in-Ok.ensures.begun) (withdrawable (λ journal. journal.epoch < c.in-Some.epoch) c.self.inside.books.journals c.args.realm c.in-Some.epoch (map loaded c.args.recovery.rows) later)

pub invariant_of-self-in-Err : goal.invariant_of-self-in-Err
invariant_of-self-in-Err g c =
    let old = c.self.inside.books in
    let back : c.withdraw.new.books ≡ old = withdrawn old c.begin.new.books c.withdraw.new.books c.args.realm c.in-Some.epoch c.args.recovery.rows c.in-Ok.ensures.begun c.begin.ensures.rest c.withdraw.ensures in
    subst (IsHonest c.renew-2.new.self.core) (sym back) (still_honest c.self.inside.stored.core c.renew-2.new.self.core old old (record { realms = c.in-Err.ensures.same; out = λ place. refl; rows = λ place. refl; journals = refl }) refl refl c.self.invariant)

pub returns-in-Ok-renew-clause-journal : goal.returns-in-Ok-renew-clause-journal
returns-in-Ok-renew-clause-journal g c = rw (← c.self.view_is) (λ state here.
    let rows = map loaded c.args.recovery.rows in
    let found = next_state c.self.inside.stored.is_stopped (realm c.self.inside.stored.core c.args.realm) c.in-Some.epoch (rw (← c.self.view_is) at c.in-Some.ensures) in
    let same : found.0 ≡ state = same_Some found.0 state (sym found.1 ∙ here) in
    ap (λ (b : Books). bare b.journals) c.clear.ensures.rest ∙ ap bare c.in-Ok.ensures.begun ∙ bare_renewed c.self.inside.books.journals c.args.realm (begun c.in-Some.epoch rows) ∙ ap (λ e. renewed c.args.realm (begun e rows) (bare c.self.inside.books.journals)) (found.2 ∙ ap (λ (s : State). s.head.epoch + 1) same))

pub returns-in-Ok-renew-clause-others : goal.returns-in-Ok-renew-clause-others
returns-in-Ok-renew-clause-others g c = rw (← c.self.view_is) (record {
  realms = c.in-Ok-renew.ensures.others;
  journals = λ other differ. ap (λ js. slice_get js other) (ap (λ (b : Books). bare b.journals) c.clear.ensures.rest ∙ ap bare c.in-Ok.ensures.begun ∙ bare_renewed c.self.inside.books.journals c.args.realm (begun c.in-Some.epoch (map loaded c.args.recovery.rows))) ∙ renewed-others (bare c.self.inside.books.journals) c.args.realm other (begun c.in-Some.epoch (map loaded c.args.recovery.rows)) differ;
  lines = λ other number differ. c.clear.ensures.others other number differ ∙ ap (λ (b : Books). waiting b.outboxes other number) c.begin.ensures.rest;
})

pub returns-in-Err-clause-others : goal.returns-in-Err-clause-others
returns-in-Err-clause-others g c =
    let old = c.self.inside.books in
    let back : c.withdraw.new.books ≡ old = withdrawn old c.begin.new.books c.withdraw.new.books c.args.realm c.in-Some.epoch c.args.recovery.rows c.in-Ok.ensures.begun c.begin.ensures.rest c.withdraw.ensures in
    rw (← c.self.view_is) (record {
      realms = λ other differ. c.in-Err.ensures.same other;
      journals = λ other differ. ap (λ (b : Books). slice_get (bare b.journals) other) back;
      lines = λ other number differ. ap (λ (b : Books). waiting b.outboxes other number) back;
    })

pub returns-in-Err-clause-still : goal.returns-in-Err-clause-still
returns-in-Err-clause-still g c =
    let old = c.self.inside.books in
    let back : c.withdraw.new.books ≡ old = withdrawn old c.begin.new.books c.withdraw.new.books c.args.realm c.in-Some.epoch c.args.recovery.rows c.in-Ok.ensures.begun c.begin.ensures.rest c.withdraw.ensures in
    rw (← c.self.view_is) (ap (λ (b : Books). bare b.journals) back, ap (λ (b : Books). b.outboxes) back)

pub returns-in-Err-clause-kept : goal.returns-in-Err-clause-kept
returns-in-Err-clause-kept g c =
    let old = c.self.inside.books in
    let back : c.withdraw.new.books ≡ old = withdrawn old c.begin.new.books c.withdraw.new.books c.args.realm c.in-Some.epoch c.args.recovery.rows c.in-Ok.ensures.begun c.begin.ensures.rest c.withdraw.ensures in
    rw (← c.self.view_is) (λ place. ap (λ (b : Books). rows_at b.rows place) back)

pub returns-in-Err-clause-out : goal.returns-in-Err-clause-out
returns-in-Err-clause-out g c =
    let old = c.self.inside.books in
    let back : c.withdraw.new.books ≡ old = withdrawn old c.begin.new.books c.withdraw.new.books c.args.realm c.in-Some.epoch c.args.recovery.rows c.in-Ok.ensures.begun c.begin.ensures.rest c.withdraw.ensures in
    rw (← c.self.view_is) (λ place. ap (λ (b : Books). out_of b place) back)

pub returns-in_default-clause-known : goal.returns-in_default-clause-known
returns-in_default-clause-known g c = λ state here.
    let none = rw (← c.self.view_is) at c.in_default.ensures in
    never_renewed c.renew.result c.self.inside.stored.is_stopped (realm c.self.inside.stored.core c.args.realm) _ none c.renew.ensures.here c.renew.ensures.running c.renew.ensures.renewed (λ state left is. is.rises) _

pub returns-in-Ok-renew-clause-known : goal.returns-in-Ok-renew-clause-known
returns-in-Ok-renew-clause-known g c = rw (← c.self.view_is) (λ state here.
    let found = next_state c.self.inside.stored.is_stopped (realm c.self.inside.stored.core c.args.realm) c.in-Some.epoch (rw (← c.self.view_is) at c.in-Some.ensures) in
    let same : found.0 ≡ state = same_Some found.0 state (sym found.1 ∙ here) in
    let again = c.in-Ok-renew.ensures.renewed state here in
    let rest : c.clear.new.books ≡ record c.self.inside.books { journals = c.begin.new.books.journals; outboxes = c.clear.new.books.outboxes } = c.clear.ensures.rest ∙ ap (λ (b : Books). record b { outboxes = c.clear.new.books.outboxes }) c.begin.ensures.rest in
    renewed_known c.self.inside.stored.core c.renew-2.new.self.core c.self.inside.books c.begin.new.books c.clear.new.books c.args.realm state c.in-Some.epoch c.args.recovery.rows c.self.invariant here (found.2 ∙ ap (λ (s : State). s.head.epoch + 1) same)
    (c.are_stored.ensures.same.0 c.if-not-are_stored.false) c.are_stored.ensures.rising (c.in-Ok.ensures.boxed again.adopted) again.rises again.state_is c.in-Ok-renew.ensures.others
    c.in-Ok.ensures.begun (ap (λ (b : Books). b.journals) rest) (ap (λ (b : Books). b.retired) rest) (ap (λ (b : Books). b.rows) rest) (ap (λ (b : Books). b.work) rest) (ap (λ (b : Books). b.out) rest))

pub returns-in-Err-clause-taken : goal.returns-in-Err-clause-taken
returns-in-Err-clause-taken g c =
    let old = c.self.inside.books in
    let back : c.withdraw.new.books ≡ old = withdrawn old c.begin.new.books c.withdraw.new.books c.args.realm c.in-Some.epoch c.args.recovery.rows c.in-Ok.ensures.begun c.begin.ensures.rest c.withdraw.ensures in
    rw (← c.self.view_is) (λ place. ap (λ (b : Books). of b.out place) back)
