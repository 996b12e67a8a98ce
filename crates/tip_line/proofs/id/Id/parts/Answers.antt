use Rattle.std.proofs.Common.{sym, ap, ◌∙◌}
use Rattle.std.proofs.lemmas.Bool.{false≢true}
use Rattle.tip_line.specs.Words.{is_realm}
use Rattle.std.specs.Fmt.{decimal}
use Rattle.tip_line.proofs.IdLemmas.{taken_apart}
use Rattle.tip_line.proofs.id.Id.parts.Goals as goal

pub returns-in_err-realm-clause-only : goal.returns-in_err-realm-clause-only
returns-in_err-realm-clause-only c = λ realm epoch connection number given.
    let t = taken_apart c.args.self.now realm epoch connection number given in
    absurd (c.in_err-realm.ensures.only realm _ t.realm_whole (c.as_str.ensures.same ∙ t.first))

pub returns-in_err-epoch-clause-only : goal.returns-in_err-epoch-clause-only
returns-in_err-epoch-clause-only c = λ realm epoch connection number given.
    let t = taken_apart c.args.self.now realm epoch connection number given in
    let first = c.in_ok-realm.ensures.only realm _ t.realm_whole (c.as_str.ensures.same ∙ t.first) in
    absurd (c.in_err-epoch.ensures.only (decimal epoch) _ t.epoch_whole first.1)

pub returns-in_err-connection-clause-only : goal.returns-in_err-connection-clause-only
returns-in_err-connection-clause-only c = λ realm epoch connection number given.
    let t = taken_apart c.args.self.now realm epoch connection number given in
    let first = c.in_ok-realm.ensures.only realm _ t.realm_whole (c.as_str.ensures.same ∙ t.first) in
    let second = c.in_ok-epoch.ensures.only (decimal epoch) _ t.epoch_whole first.1 in
    absurd (c.in_err-connection.ensures.only (decimal connection) _ t.connection_whole second.1)

pub returns-then-not-is_realm-clause-only : goal.returns-then-not-is_realm-clause-only
returns-then-not-is_realm-clause-only c = λ realm epoch connection number given.
    let t = taken_apart c.args.self.now realm epoch connection number given in
    let first = c.in_ok-realm.ensures.only realm _ t.realm_whole (c.as_str.ensures.same ∙ t.first) in
    false≢true (sym c.if-not-is_realm.true ∙ c.is_realm.ensures ∙ ap is_realm (c.as_bytes.ensures.value ∙ first.0) ∙ given.realm_is)

pub returns-in_err-number_of-clause-only : goal.returns-in_err-number_of-clause-only
returns-in_err-number_of-clause-only c = λ realm epoch connection number given.
    let t = taken_apart c.args.self.now realm epoch connection number given in
    let first = c.in_ok-realm.ensures.only realm _ t.realm_whole (c.as_str.ensures.same ∙ t.first) in
    let second = c.in_ok-epoch.ensures.only (decimal epoch) _ t.epoch_whole first.1 in
    let none = c.in_err-number_of.ensures.only epoch given.epoch_fits second.0 in
    absurd (cc)

pub returns-in_err-number_of-2-clause-only : goal.returns-in_err-number_of-2-clause-only
returns-in_err-number_of-2-clause-only c = λ realm epoch connection number given.
    let t = taken_apart c.args.self.now realm epoch connection number given in
    let first = c.in_ok-realm.ensures.only realm _ t.realm_whole (c.as_str.ensures.same ∙ t.first) in
    let second = c.in_ok-epoch.ensures.only (decimal epoch) _ t.epoch_whole first.1 in
    let third = c.in_ok-connection.ensures.only (decimal connection) _ t.connection_whole second.1 in
    let none = c.in_err-number_of-2.ensures.only connection given.connection_fits third.0 in
    absurd (cc)

pub returns-in_err-number_of-3-clause-only : goal.returns-in_err-number_of-3-clause-only
returns-in_err-number_of-3-clause-only c = λ realm epoch connection number given.
    let t = taken_apart c.args.self.now realm epoch connection number given in
    let first = c.in_ok-realm.ensures.only realm _ t.realm_whole (c.as_str.ensures.same ∙ t.first) in
    let second = c.in_ok-epoch.ensures.only (decimal epoch) _ t.epoch_whole first.1 in
    let third = c.in_ok-connection.ensures.only (decimal connection) _ t.connection_whole second.1 in
    let none = c.in_err-number_of-3.ensures.only number given.number_fits third.1 in
    absurd (cc)

pub returns-clause-only : goal.returns-clause-only
returns-clause-only c = λ realm epoch connection number given.
    let t = taken_apart c.args.self.now realm epoch connection number given in
    let first = c.in_ok-realm.ensures.only realm _ t.realm_whole (c.as_str.ensures.same ∙ t.first) in
    let second = c.in_ok-epoch.ensures.only (decimal epoch) _ t.epoch_whole first.1 in
    let third = c.in_ok-connection.ensures.only (decimal connection) _ t.connection_whole second.1 in
    let epoch_is = c.in_ok-number_of.ensures.only epoch given.epoch_fits second.0 in
    let connection_is = c.in_ok-number_of-2.ensures.only connection given.connection_fits third.0 in
    let number_is = c.in_ok-number_of-3.ensures.only number given.number_fits third.1 in
    (first.0, cc, cc, cc)
