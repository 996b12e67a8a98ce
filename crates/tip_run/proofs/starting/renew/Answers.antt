-- The realm is renewed by what was read of it, with these boxes.
use Rattle.std.proofs.Common.{◌∙◌, inl, inr, ap, map, refl, rules, subst, sym}
use Rattle.std.specs.Prelude.{slice_get}
use Rattle.std.specs.Result.{result_err}
use Rattle.std.proofs.lemmas.Bool.{true≢false}
use Rattle.std.proofs.lemmas.Option.{same_Some}
use Rattle.tip_core.specs.Hosted.{realm}
use Rattle.tip_honest.specs.Hosts.{IsRenewed}
use Rattle.tip_host.specs.Entries.{bare}
use Rattle.tip_host.specs.Hosts.{known}
use Rattle.tip_host.specs.Renewals.{IsReason}
use Rattle.tip_kept.specs.Keeping.{rows_at}
use Rattle.tip_outbox.specs.Waiting.{waiting}
use Rattle.tip_recovery.specs.Adopting.{loaded}
use Rattle.tip_rows.specs.Logs.{counted}
use Rattle.tip_stored.specs.Renewing.{is_refused}
use Rattle.tip_table.specs.Kept.{of}
use Rattle.tip_run.proofs.Begun.{is_there, reads_still}
use Rattle.tip_run.proofs.starting.renew.Goals as goal

pub returns-in-Ok-renew-clause-renewed : goal.returns-in-Ok-renew-clause-renewed
returns-in-Ok-renew-clause-renewed g c = λ noted earlier.
    let old = c.args.host.now in
    let read = c.doubts.new.self in
    let new = c.renew.new.self in
    let there = is_there (realm read.stored.core c.args.realm) c.in-Ok-renew.ensures.here in
    let rises = c.in-Ok-renew.ensures.store there.0 there.1 in
    let kept_but = c.in-Ok-renew.ensures.others in
    record {
      state = there.0;
      read = c.in-Ok.recovery;
      recovery = c.adopt_all.new.self;
      boxes_are = search rules;
      boxes_fit = search rules;
      between = read.stored.store;
      reads = c.in-Ok.ensures.store;
      is_read = λ log stood truth. c.in-Ok.ensures.read log there.0 stood (sym (ap (λ h. realm h.stored.core c.args.realm) c.in-Ok.ensures.rest) ∙ there.1) truth;
      rises = record { rows = rises.rows; counts = rises.counts; truth = rises.truth; stop = rises.stop; due = rises.due };
      again = c.in-Ok-renew.ensures.renewed there.0 there.1;
      renewed = subst (λ k. IsRenewed k (known new) c.args.realm there.0 (map loaded c.adopt_all.new.self.rows)) (ap known c.in-Ok.ensures.rest) (c.in-Ok-renew.ensures.known there.0 there.1);
      lines = c.in-Ok-renew.ensures.lines;
      others = record {
        realms = λ other differ. kept_but.realms other differ ∙ ap (λ h. realm h.stored.core other) c.in-Ok.ensures.rest;
        journals = λ other differ. kept_but.journals other differ ∙ ap (λ h. slice_get (bare h.books.journals) other) c.in-Ok.ensures.rest;
        lines = λ other number differ. kept_but.lines other number differ ∙ ap (λ h. waiting h.books.outboxes other number) c.in-Ok.ensures.rest;
      };
      out = λ other. c.in-Ok-renew.ensures.taken other ∙ ap (λ h. of h.books.out other) c.in-Ok.ensures.rest;
      names = c.in-Ok-renew.ensures.names;
      stopped = c.in-Ok-renew.ensures.stopped ∙ ap (λ h. h.stored.is_stopped) c.in-Ok.ensures.rest;
      noted = refl;
      earlier = refl;
    }

pub returns-in-Err-clause-why : goal.returns-in-Err-clause-why
returns-in-Err-clause-why g c = (λ none. same_Some _ _ (ap result_err (c.in-Err.ensures.absent none)), λ log state stood there truth. inl (c.in-Err.ensures.reason log state stood there truth))

pub returns-then-not-adopt_all-clause-why : goal.returns-then-not-adopt_all-clause-why
returns-then-not-adopt_all-clause-why g c = (c.in-Ok.ensures.here, c.in-Ok.recovery, search rules, λ log state stood there truth. c.in-Ok.ensures.read log state stood there truth)

pub returns-clause-why : goal.returns-clause-why
returns-clause-why g c = (
  λ none. absurd (c.in-Ok.ensures.here none),
  λ log state stood there truth.
      let rest = c.in-Ok.ensures.rest in
      let now = ap (λ h. realm h.stored.core c.args.realm) rest ∙ there in
      inr (
        c.in-Ok.recovery,
        c.adopt_all.new.self,
        c.in-Ok.ensures.read log state stood there ((c.in-Err-renew.ensures.store state now).truth truth),
        search rules,
        subst (λ rows. IsReason log state rows c.adopt_all.new.self c.in-Err-renew.fault) (ap (λ h. rows_at h.books.rows c.args.realm) rest)
            (c.in-Err-renew.ensures.reason log state (reads_still g.S.RowLog.keeping c.args.host.now.stored.store c.doubts.new.self.stored.store _ log c.in-Ok.ensures.store stood) now truth),
        λ is. true≢false (sym (c.in-Err-renew.ensures.stopping.0 is) ∙ ap (λ h. h.stored.is_stopped) rest ∙ c.requires.rest.running),
      ),
)

-- What the store has counted

pub returns-in-Err-clause-counts : goal.returns-in-Err-clause-counts
returns-in-Err-clause-counts g c = c.in-Err.ensures.store.counts

pub returns-then-not-adopt_all-clause-counts : goal.returns-then-not-adopt_all-clause-counts
returns-then-not-adopt_all-clause-counts g c = c.in-Ok.ensures.store.counts

pub returns-clause-counts : goal.returns-clause-counts
returns-clause-counts g c =
    let there = is_there (realm c.args.host.now.stored.core c.args.realm) c.in-Ok.ensures.here in
    let now = ap (λ h. realm h.stored.core c.args.realm) c.in-Ok.ensures.rest ∙ there.1 in
    (c.in-Err-renew.ensures.store there.0 now).counts ∙ ap (λ n. counted (is_refused c.in-Err-renew.fault) n) c.in-Ok.ensures.store.counts
