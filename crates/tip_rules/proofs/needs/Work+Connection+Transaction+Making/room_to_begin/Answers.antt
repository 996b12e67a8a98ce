use Rattle.std.proofs.Common.{ap, length, nat_lt, Some, sym, ◌∙◌, ◌&&◌}
use Rattle.std.specs.Prelude.{nat_le}
use Rattle.std.specs.Option.{option_copied}
use Rattle.tip_rules.specs.Works.{work_of}
use Rattle.tip_rules.proofs.Needing.{begun_own, needed_there}
use Rattle.tip_rules.proofs.needs.Work+Connection+Transaction+Making.room_to_begin.Goals as goal

pub returns : goal.returns
returns g c = λ opened.
    let item = c.in-Some-own.connection.now in
    let begins = sym c.begins_on.ensures ∙ c.in-Some.is in
    let here = begun_own c.args.self.now c.args.event.now c.in-Some.number begins (Some item) (ap option_copied (sym c.in-Some-own.is) ∙ c.requires.own) in
    needed_there c.args.self.now c.args.event.now c.in-Some.number begins item here
    (ap (λ boxes. nat_lt (length (work_of c.args.self.now).state.transactions) (work_of c.args.self.now).state.head.limits.transactions && nat_le (length (work_of c.args.self.now).state.head.branches) boxes) (sym c.len.ensures) ∙ sym c.if-not-has_room.ensures)
    c.next_key-key.result c.next_key-key.ensures c.in_ok-room_for.field-0 c.in_ok-room_for.ensures
