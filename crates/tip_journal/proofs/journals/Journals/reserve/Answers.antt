use Rattle.std.proofs.Common.{ap, sym, subst, ◌∙◌, arith, length, refl}
use Rattle.std.proofs.lemmas.List.Elements.{All-get_or, All-set}
use Rattle.tip_journal.specs.Journal.{with_room}
use Rattle.tip_journal.specs.Journals.{IsHistory, entries_of, room_of, last_of, with_last}
use Rattle.tip_journal.proofs.HistoryLemmas.{entries_of-with_room, last_of-with_last, changed_at-read, current-read, current-set, is_history-with_last, numbered-last}
use Rattle.tip_journal.proofs.journals.Journals.reserve.Goals as goal

pub invariant_of-self : goal.invariant_of-self
invariant_of-self g c =
    let old = c.index_mut-history.result.now in
    let is : IsHistory old = subst IsHistory (sym c.index_mut-history.ensures.value) (All-get_or IsHistory c.self.inside.realms.items c.args.realm old (omega (arith, ap length c.self.view_is, c.requires)) c.self.invariant) in
    All-set IsHistory c.self.inside.realms.items c.args.realm c.reserve.new.self
    (subst IsHistory (sym c.reserve.ensures.same) (is_history-with_last old (with_room (room_of (last_of c.reserve.new.self))) is (λ _. refl) (λ x at. numbered-last old x is at)))
    c.self.invariant

pub returns-clause-ok : goal.returns-clause-ok
returns-clause-ok g c = rw (current-set c.self.inside.realms.items c.args.realm c.reserve.new.self (omega (arith, ap length c.self.view_is, c.requires))) c.reserve.ensures.ok

pub returns-clause-room_is_kept : goal.returns-clause-room_is_kept
returns-clause-room_is_kept g c =
    rw (current-set c.self.inside.realms.items c.args.realm c.reserve.new.self (omega (arith, ap length c.self.view_is, c.requires)), current-read c.args.self.now c.args.realm c.index_mut-history.result.now c.requires (rw (← c.self.view_is) c.index_mut-history.ensures.value)) c.reserve.ensures.room_is_kept

pub returns-clause-has_room : goal.returns-clause-has_room
returns-clause-has_room g c =
    rw (current-read c.args.self.now c.args.realm c.index_mut-history.result.now c.requires (rw (← c.self.view_is) c.index_mut-history.ensures.value)) c.reserve.ensures.has_room

pub returns-clause-same : goal.returns-clause-same
returns-clause-same g c =
    rw (current-set c.self.inside.realms.items c.args.realm c.reserve.new.self (omega (arith, ap length c.self.view_is, c.requires)), c.self.view_is)
    (changed_at-read c.args.self.now c.args.realm (with_last (with_room (room_of (last_of c.reserve.new.self)))) c.index_mut-history.result.now c.reserve.new.self (rw (← c.self.view_is) c.index_mut-history.ensures.value) c.reserve.ensures.same)

pub returns-clause-number : goal.returns-clause-number
returns-clause-number g c =
    let old = c.index_mut-history.result.now in
    let room = room_of (last_of c.reserve.new.self) in
    rw (current-set c.self.inside.realms.items c.args.realm c.reserve.new.self (omega (arith, ap length c.self.view_is, c.requires)), current-read c.args.self.now c.args.realm old c.requires (rw (← c.self.view_is) c.index_mut-history.ensures.value))
    (ap (λ history. entries_of (last_of history)) c.reserve.ensures.same ∙ ap entries_of (last_of-with_last old (with_room room)) ∙ entries_of-with_room (last_of old) room)
