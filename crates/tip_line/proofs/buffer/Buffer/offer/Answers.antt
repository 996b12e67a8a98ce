use Rattle.std.proofs.Common.{vec_len, vec_capacity, ap, arith}
use Rattle.tip_line.specs.declared.buffer.Buffer.{Buffer}
use Rattle.tip_line.specs.Buffered.{pending}
use Rattle.tip_line.proofs.ReadingLemmas.{open_where_nothing, nothing_left}
use Rattle.tip_line.proofs.buffer.Buffer.offer.Goals as goal
use Rattle.tip_line.proofs.buffer.Buffer.offer.Goals.{then-room-piece, else-room-piece}

pub returns-clause-fits : goal.returns-clause-fits
returns-clause-fits g c = λ nothing.
    elim c.if-room-piece.branch [
      | then-room-piece w ↦
          let within = open_where_nothing (pending w.find.new.self) w.find.result w.find.ensures.found (nothing_left (pending c.args.self.now) (pending w.find.new.self) w.find.ensures.passed nothing) in
          let room = w.make_room.ensures.room within in
          let len = ap (λ (b : Buffer _). vec_len b.octets) w.self-is in
          let capacity = ap (λ (b : Buffer _). vec_capacity b.octets) w.self-is in
          omega arith
      | else-room-piece w ↦
          let len = ap (λ (b : Buffer _). vec_len b.octets) w.self-is in
          let capacity = ap (λ (b : Buffer _). vec_capacity b.octets) w.self-is in
          omega arith
    ]
