-- Why a session takes no more lines, and how it ends.
use Rattle.std.specs.Prelude.{◌≡◌, ◌≤◌, ◌⊎◌, ⊤, length, ℕ, Bool, true, false, List, [], ◌∷◌, ◌++◌, Option, Some, None}
use Rattle.tip_machine.specs.declared.event.Heard.{Heard}
use Rattle.tip_session.specs.Desks.{Step, Line, Lost, Back, Seen, IsOpen, has_lost, lines_in, noting, nothing}
use Rattle.tip_session.specs.Sessions.{IsEarly, says}
use Rattle.tip_machine.specs.declared.event.Heard.TheVariants.{Malformed}
use Rattle.tip_session.specs.declared.session_end.SessionEnd.{SessionEnd}
use Rattle.tip_session.specs.declared.session_end.SessionEnd.TheVariants as session
use Rattle.tip_session.specs.declared.desk.DeskFault.{DeskFault}
use Rattle.tip_session.specs.declared.ended.Ended.{Ended}
use Rattle.tip_session.specs.declared.ended.Ended.TheVariants as ended
use Rattle.tip_session.specs.declared.given.Given.{Given}

-- what the desk told that was quiet before
abbrev pub given_of : Ended → Given
given_of ended.AtEnd = nothing
given_of ended.Spoilt = nothing
given_of ended.Refused = record nothing { refused = true }
given_of ended.ReadFault = nothing
given_of ended.TurnLimit = nothing
given_of ended.Gone = record nothing { gone = true }
given_of (ended.Failed f) = noting nothing f
given_of ended.NoMemory = nothing
given_of ended.Endless = record nothing { halted = true }

-- no errand is out, but behind an endless row of them
abbrev pub HasBack : Ended → Seen → Type 0
HasBack ended.AtEnd s = s.owed ≡ None
HasBack ended.Spoilt s = s.owed ≡ None
HasBack ended.Refused s = s.owed ≡ None
HasBack ended.ReadFault s = s.owed ≡ None
HasBack ended.TurnLimit s = s.owed ≡ None
HasBack ended.Gone s = s.owed ≡ None
HasBack (ended.Failed f) s = s.owed ≡ None
HasBack ended.NoMemory s = s.owed ≡ None
HasBack ended.Endless s = ⊤

abbrev pub HasBackSoFar : Option Ended → Seen → Type 0
HasBackSoFar None s = s.owed ≡ None
HasBackSoFar (Some end) s = HasBack end s

-- errands alone
abbrev pub only_back : List Step → Bool
only_back [] = true
only_back (Line heard ∷ steps) = false
only_back (Lost ∷ steps) = false
only_back (Back name ∷ steps) = only_back steps

-- what is told where errands are done
abbrev pub run_given : Given → Option Ended → Given
run_given g None = g
run_given g (Some ended.AtEnd) = g
run_given g (Some ended.Spoilt) = g
run_given g (Some ended.Refused) = g
run_given g (Some ended.ReadFault) = g
run_given g (Some ended.TurnLimit) = g
run_given g (Some ended.Gone) = g
run_given g (Some (ended.Failed f)) = noting g f
run_given g (Some ended.NoMemory) = g
run_given g (Some ended.Endless) = record g { halted = true }

-- a row of errands ends by a fault of the desk, or not at all
abbrev pub EndsErrands : Option Ended → Type 0
EndsErrands None = ⊤
EndsErrands (Some ended.AtEnd) = ⊥
EndsErrands (Some ended.Spoilt) = ⊥
EndsErrands (Some ended.Refused) = ⊥
EndsErrands (Some ended.ReadFault) = ⊥
EndsErrands (Some ended.TurnLimit) = ⊥
EndsErrands (Some ended.Gone) = ⊥
EndsErrands (Some (ended.Failed f)) = ⊤
EndsErrands (Some ended.NoMemory) = ⊥
EndsErrands (Some ended.Endless) = ⊤

-- an errand and those that come of it came back, each once, unless the desk refused one
pub record Runs (s t : Seen) (result : Option Ended) : Type 0 where
  pub backs : List Step
  pub steps : t.steps ≡ s.steps ++ backs
  pub only : only_back backs ≡ true
  pub given : t.given ≡ run_given s.given result
  pub back : HasBackSoFar result t
  pub ends : EndsErrands result

abbrev pub given_after : Option Ended → Given
given_after None = nothing
given_after (Some end) = given_of end

abbrev pub IsEarlyIn : Option Ended → Type 0
IsEarlyIn None = ⊤
IsEarlyIn (Some end) = IsEarly end

abbrev pub IsLineOf : Heard → Option Ended → List Heard → Type 0
IsLineOf heard None lines = lines ≡ heard ∷ []
IsLineOf heard (Some end) lines = (lines ≡ heard ∷ []) ⊎ (lines ≡ [])

-- a line was handed in, and what came of it is done; or the session takes no more lines
pub record Hands (heard : Heard) (s t : Seen) (result : Option Ended) : Type 0 where
  pub before : List Step
  pub steps : t.steps ≡ s.steps ++ before
  pub lines : IsLineOf heard result (lines_in before)
  pub calm : has_lost before ≡ false
  pub given : t.given ≡ given_after result
  pub back : HasBackSoFar result t
  pub early : IsEarlyIn result

-- lines were handed in so far, and the connection was not lost
pub record Handed (s t : Seen) : Type 0 where
  pub before : List Step
  pub steps : t.steps ≡ s.steps ++ before
  pub calm : has_lost before ≡ false
  pub open_yet : IsOpen t

-- no more lines are taken, and the connection was not lost yet
pub record Paused (s t : Seen) (end : Ended) : Type 0 where
  pub before : List Step
  pub steps : t.steps ≡ s.steps ++ before
  pub calm : has_lost before ≡ false
  pub given : t.given ≡ given_of end
  pub back : HasBack end t

-- behind the last line comes the loss, once, and errands alone behind it
pub record IsLoss (after : List Step) : Type 0 where
  pub backs : List Step
  pub whole : after ≡ Lost ∷ backs
  pub only : only_back backs ≡ true

-- the desk told a fault
abbrev pub HasFault : Given → Type 0
HasFault g = (f : DeskFault) × (noting g f ≡ g)

-- what was stepped behind the last line: nothing; or the loss, which the desk took or refused
abbrev pub Losses : Given → List Step → Type 0
Losses g after = ((g.lost ≡ false) × (after ≡ [])) ⊎ ((g.lost ≡ true) × (IsLoss after ⊎ ((after ≡ []) × HasFault g)))

-- WHY A SESSION ENDS SO
abbrev pub Stands : SessionEnd → Given → Type 0
Stands session.PeerClosed g = (g.halted ≡ false) × (((g.gone ≡ true) × (g.lost ≡ false)) ⊎ ((g.gone ≡ false) × (g.lost ≡ true)))
Stands session.ReadFault g = (g.halted ≡ false) × (g.gone ≡ false) × (g.lost ≡ true)
Stands session.WriteFault g = ⊥
Stands session.TurnLimit g = (g.gone ≡ false) × (((g.lost ≡ true) × (g.halted ≡ false)) ⊎ (g.halted ≡ true))
Stands session.HostStopped g = (g.halted ≡ false) × (g.gone ≡ false) × (g.stopped ≡ true)
Stands session.PassMismatch g = (g.halted ≡ false) × (g.gone ≡ false) × (g.mismatch ≡ true)
Stands session.Memory g = (g.gone ≡ false) × (g.halted ≡ true)

-- each errand came back, or the row of errands had no end
abbrev pub AllBack : SessionEnd → Seen → Type 0
AllBack end s = (s.owed ≡ None) ⊎ ((end ≡ session.TurnLimit) × (s.given.halted ≡ true))

-- the loss was told, if it was to be, and what came of it is done
pub record SaysLost (s t : Seen) (result : Option Ended) : Type 0 where
  pub after : List Step
  pub steps : t.steps ≡ s.steps ++ after
  pub loss : IsLoss after ⊎ ((after ≡ []) × HasFault t.given)
  pub given : t.given ≡ run_given (record s.given { lost = true }) result
  pub back : HasBackSoFar result t
  pub ends : EndsErrands result

-- why the peer is said to have closed
abbrev pub Closes : Ended → Given → Type 0
Closes ended.AtEnd g = ⊤
Closes ended.Spoilt g = ⊤
Closes ended.Refused g = g.refused ≡ true
Closes ended.ReadFault g = ⊥
Closes ended.TurnLimit g = ⊥
Closes ended.Gone g = g.gone ≡ true
Closes (ended.Failed f) g = g.frozen ≡ true
Closes ended.NoMemory g = ⊥
Closes ended.Endless g = ⊥

-- why the reads are said to be over: they were made, or a row of errands had no end
abbrev pub Limits : Ended → Given → Type 0
Limits end g = (end ≡ ended.TurnLimit) ⊎ (g.halted ≡ true)

-- the session ended, where no more lines were taken
pub record Finishes (end : Ended) (s t : Seen) (result : SessionEnd) : Type 0 where
  pub after : List Step
  pub steps : t.steps ≡ s.steps ++ after
  pub losses : Losses t.given after
  pub stands : Stands result t.given
  pub back : AllBack result t
  pub closes : result ≡ session.PeerClosed → Closes end t.given
  pub limits : result ≡ session.TurnLimit → Limits end t.given

-- WHAT A SESSION STEPS, AND HOW IT ENDS
pub record IsServed (s t : Seen) (result : SessionEnd) : Type 0 where
  pub before : List Step
  pub after : List Step
  pub steps : t.steps ≡ s.steps ++ (before ++ after)
  pub calm : has_lost before ≡ false
  pub losses : Losses t.given after
  pub stands : Stands result t.given
  pub back : AllBack result t

-- the last item of a stream that has a fault was handed in
pub record LastHands (s t : Seen) (end : Ended) : Type 0 where
  pub before : List Step
  pub steps : t.steps ≡ s.steps ++ before
  pub ends : (IsEarly end × ((lines_in before ≡ Malformed ∷ []) ⊎ (lines_in before ≡ []))) ⊎ ((end ≡ ended.Spoilt) × (lines_in before ≡ Malformed ∷ []))
  pub calm : has_lost before ≡ false
  pub given : t.given ≡ given_of end
  pub back : HasBack end t

-- how it ends where the loss was said
abbrev pub EndsSo : SessionEnd → SessionEnd → Given → Type 0
EndsSo end session.PeerClosed g = (g.halted ≡ false) × (end ≡ session.PeerClosed)
EndsSo end session.ReadFault g = (g.halted ≡ false) × (end ≡ session.ReadFault)
EndsSo end session.WriteFault g = end ≡ session.WriteFault
EndsSo end session.TurnLimit g = ((g.halted ≡ false) × (end ≡ session.TurnLimit)) ⊎ (g.halted ≡ true)
EndsSo end session.HostStopped g = (end ≡ session.HostStopped) ⊎ ((g.halted ≡ false) × (g.stopped ≡ true))
EndsSo end session.PassMismatch g = (end ≡ session.PassMismatch) ⊎ ((g.halted ≡ false) × (g.mismatch ≡ true))
EndsSo end session.Memory g = (end ≡ session.Memory) ⊎ (g.halted ≡ true)

-- what was told before stays, and so the loss is told
pub record KeepsTold (g h : Given) : Type 0 where
  pub gone : h.gone ≡ g.gone
  pub refused : h.refused ≡ g.refused
  pub frozen : g.frozen ≡ true → h.frozen ≡ true
  pub lost : h.lost ≡ true

-- the connection was lost, once, and what came of that is done
pub record Settles (end : SessionEnd) (s t : Seen) (result : SessionEnd) : Type 0 where
  pub after : List Step
  pub steps : t.steps ≡ s.steps ++ after
  pub loss : IsLoss after ⊎ ((after ≡ []) × HasFault t.given)
  pub kept : KeepsTold s.given t.given
  pub so : EndsSo end result t.given
  pub back : AllBack result t

-- the whole stream was handed in, or the desk did not take more
abbrev pub Closing : List ℕ → Seen → Seen → Type 0
Closing octets s t = (t.given.gone ≡ true) ⊎ ((t.given.refused ≡ true) ⊎ ((t.given.frozen ≡ true) ⊎ (lines_in t.steps ≡ lines_in s.steps ++ says octets)))

-- so many reads gave an octet each, or a row of errands had no end
abbrev pub Exhausts : ℕ → List ℕ → Seen → Type 0
Exhausts turns octets t = (turns ≤ length octets) ⊎ (t.given.halted ≡ true)
