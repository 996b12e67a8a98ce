-- What a session hands in of what it reads.
use Rattle.std.specs.Prelude.{◌≡◌, ◌≤◌, ◌*◌, ⊤, length, ℕ, List, ◌++◌, map, Option}
use Rattle.std.specs.Io.KnownBytes.{Consumes, IsAtEnd}
use Rattle.tip_line.specs.Reading.{Item, Text, Bad, items_of}
use Rattle.tip_machine.specs.Events.{heard_of}
use Rattle.tip_machine.specs.declared.event.Heard.{Heard}
use Rattle.tip_machine.specs.declared.event.Heard.TheVariants.{Malformed}
use Rattle.tip_session.specs.declared.ended.Ended.{Ended}
use Rattle.tip_session.specs.declared.ended.Ended.TheVariants as ended

-- what a line of a stream says
abbrev pub heard_in : Item → Heard
heard_in (Text text) = heard_of text
heard_in (Bad cause) = Malformed

-- what a stream of octets says
abbrev pub says : List ℕ → List Heard
says octets = map heard_in (items_of octets)

-- a front of these, in order, is new
abbrev pub IsFront : List Heard → List Heard → List Heard → Type 0
IsFront all old new = (front : List Heard) × (later : List Heard) × (all ≡ front ++ later) × (new ≡ old ++ front)

-- it comes as a line is handed in
abbrev pub IsEarly : Ended → Type 0
IsEarly ended.AtEnd = ⊥
IsEarly ended.Spoilt = ⊥
IsEarly ended.Refused = ⊤
IsEarly ended.ReadFault = ⊥
IsEarly ended.TurnLimit = ⊥
IsEarly ended.Gone = ⊤
IsEarly (ended.Failed fault) = ⊤
IsEarly ended.NoMemory = ⊥
IsEarly ended.Endless = ⊤

-- where the input ended, and nothing else did, all was handed in; where no reads were left, each of them gave an octet
abbrev pub IsAll : Ended → ℕ → List ℕ → List Heard → List Heard → Option (List ℕ) → Type 0
IsAll ended.AtEnd turns read old new after = (new ≡ old ++ says read) × IsAtEnd after
IsAll ended.Spoilt turns read old new after = (more : List ℕ) → new ≡ old ++ says (read ++ more)
IsAll ended.Refused turns read old new after = ⊤
IsAll ended.ReadFault turns read old new after = ⊤
IsAll ended.TurnLimit turns read old new after = turns ≤ length read
IsAll ended.Gone turns read old new after = ⊤
IsAll (ended.Failed fault) turns read old new after = ⊤
IsAll ended.NoMemory turns read old new after = ⊤
IsAll ended.Endless turns read old new after = ⊤

-- WHAT WAS HANDED IN OF WHAT WAS READ by so many reads: a front of it, in order; all of it where the input ended and nothing
-- else ended the session.
pub record HandsIn (result : Ended) (turns : ℕ) (old new : List Heard) (before after : Option (List ℕ)) : Type 0 where
  pub read : List ℕ
  pub consumed : Consumes before after read
  pub front : (more : List ℕ) → IsFront (says (read ++ more)) old new
  pub all : IsAll result turns read old new after
  pub bound : length read ≤ turns * 1024

-- so many reads took this, of 1,024 octets at most
abbrev pub TakesWithin : ℕ → Option (List ℕ) → Option (List ℕ) → Type 0
TakesWithin turns before after = (read : List ℕ) × Consumes before after read × (length read ≤ turns * 1024)
