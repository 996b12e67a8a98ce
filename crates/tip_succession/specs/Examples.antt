-- A worked example (ours): a process ends once it has decided to commit, and the next one declares another address, other limits and a
-- branch more.
use Rattle.std.specs.Prelude.{false, List, [], ◌∷◌, ◌++◌, codes, None}
use Rattle.tip_machine.specs.Moves.{Move, World, fresh, led_to}
use Rattle.tip_machine.specs.Agreement.Traces.{Moment}
use Rattle.tip_machine.specs.Examples.Scripts.{Line, adopted, at, connects, hears, id, moves_of, north, resumes, yes}
use Rattle.tip_machine.specs.declared.head.Head.{Head}
use Rattle.tip_line.specs.declared.command.Command.TheVariants as command
use Rattle.tip_succession.specs.Agreement.{all_moments}
use Rattle.tip_succession.specs.Processes.{Process, begun_by}

-- the branch has voted, its row is stored, and the party that is to tell it to commit is out
abbrev pub moves : List Move
moves = moves_of (fresh north) (connects (at 1 1) None (yes 11 ∷ []) ++ (hears (at 1 1) command.Begin ∷ hears (at 1 1) command.Commit ∷ Line.Goes ∷ []))

abbrev pub left : World
left = led_to (fresh north) moves

abbrev pub head : Head
head = record {
  name = north.name;
  address = codes "m.x";
  limits = record { connections = 2; transactions = 2; boxes = 4; entries = 50 };
  branches = (1, codes "b1") ∷ (2, codes "b2") ∷ [];
  epoch = 2;
  given = 0;
  entries = 0;
}

-- the transaction is resumed, and its branch told to commit
abbrev pub next : Process
next = record {
  head = head;
  boxes = adopted left.rows;
  moves = moves_of (begun_by (record { head = head; boxes = adopted left.rows; moves = []; in_peace = false }) left) (resumes id ∷ Line.Goes ∷ []);
  in_peace = false;
}

abbrev pub moments : List Moment
moments = all_moments (fresh north) moves (next ∷ [])
