-- What an instruction says.
use Rattle.std.specs.Prelude.{ℕ, List, [], ◌∷◌, ◌++◌}
use Rattle.tip_line.specs.Fields.{fields_of}
use Rattle.tip_machine.specs.declared.connection.Purpose.{Purpose}
use Rattle.tip_machine.specs.declared.connection.Purpose.TheVariants as purpose
use Rattle.tip_script.specs.Scripts.{Move, Declare, Label, Open, Dial, Feed, Lose, Push, Pull, Go, Drop, Resume, Refuse, Renew, Restart, Asking, octets_in, plans_of}
use Rattle.tip_script.specs.declared.asking.Aim.{Aim}
use Rattle.tip_script.specs.declared.asking.Aim.TheVariants as aim
use Rattle.tip_script.specs.declared.asking.Asked.{Asked}
use Rattle.tip_script.specs.declared.instruction.Octets.{Octets}
use Rattle.tip_script.specs.declared.instruction.Octets.TheVariants as octets
use Rattle.tip_script.specs.declared.instruction.Instruction.{Instruction}
use Rattle.tip_script.specs.declared.instruction.Instruction.TheVariants as instruction

-- the octets that come
abbrev pub octets_of : Octets → List ℕ
octets_of (octets.Text text) = text.now ++ 10 ∷ []
octets_of (octets.Hex digits) = octets_in digits.now

-- the purpose that an aim is
abbrev pub purpose_of : Aim → Purpose
purpose_of aim.Plain = purpose.Plain
purpose_of (aim.Query id) = purpose.Query id.now
purpose_of (aim.Reconnect id place) = purpose.Reconnect id.now place

-- the connection and the identifier of a request
abbrev pub asking_of : Asked → Asking
asking_of asked = record { realm = asked.realm.now; connection = asked.connection; id = asked.id.now }

-- the move that an instruction is
abbrev pub move_by : Instruction → Move
move_by (instruction.Realm name address branches limits) = Declare name.now address.now branches limits
move_by (instruction.Labels realm labels) = Label realm.now (fields_of 32 labels.now)
move_by (instruction.Open realm kinds) = Open realm.now (plans_of kinds.now)
move_by (instruction.Dial realm address kinds aim) = Dial realm.now address.now (plans_of kinds.now) (purpose_of aim)
move_by (instruction.Feed realm connection octets) = Feed realm.now connection (octets_of octets)
move_by (instruction.Lost realm connection) = Lose realm.now connection
move_by (instruction.Push asked) = Push asked.realm.now asked.connection asked.id.now
move_by (instruction.Pull asked) = Pull asked.realm.now asked.connection asked.id.now
move_by (instruction.Go realm) = Go realm.now
move_by (instruction.Drop realm) = Drop realm.now
move_by (instruction.Resume realm id) = Resume realm.now id.now
move_by (instruction.Refuse realm) = Refuse realm.now
move_by (instruction.Renew realm) = Renew realm.now
move_by instruction.Restart = Restart
