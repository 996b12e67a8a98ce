-- What errands, lines and the loss of a connection add to what a desk saw.
use Rattle.std.proofs.Common.{◌≡◌, ◌≤◌, length, length-append, ◌⊎◌, ℕ, ◌∙◌, true, false, List, [], ◌∷◌, ◌++◌, Option, Some, None, IfSome, refl, sym, ap, subst, inl, inr, arith}
use Rattle.std.proofs.lemmas.List.{append_assoc, append-nil}
use Rattle.tip_machine.specs.declared.event.Heard.{Heard}
use Rattle.tip_machine.specs.declared.event.Heard.TheVariants.{Malformed}
use Rattle.tip_session.specs.Desks.{Name, Step, Line, Lost, Back, Seen, IsOpen, faulted, halting, has_lost, line_of, lines_in, losing, noting, nothing, refusing, stepped, told}
use Rattle.std.specs.Io.KnownBytes.{Consumes, IsAtEnd}
use Rattle.tip_session.specs.Ends.{Closes, Closing, EndsErrands, Exhausts, Limits, Finishes, Handed, Hands, HasBack, IsEarlyIn, IsLineOf, LastHands, Losses, Paused, Runs, SaysLost, given_after, given_of, only_back, run_given}
use Rattle.tip_session.specs.Sessions.{HandsIn, IsAll, IsEarly, IsFront, says}
use Rattle.tip_line.specs.declared.lines.Cause.{Cause}
use Rattle.tip_intake.specs.Intake.{Comes}
use Rattle.tip_intake.specs.declared.intake.Coming.TheVariants as coming
use Rattle.tip_intake.specs.declared.intake.Intake.{Intake}
use Rattle.tip_session.proofs.Listening.{IsBehind, behind_fault, ends_spoilt, ends_there, front_of_all}
use Rattle.tip_session.specs.declared.session_end.SessionEnd.{SessionEnd}
use Rattle.tip_session.specs.declared.session_end.SessionEnd.TheVariants as session
use Rattle.tip_session.specs.declared.desk.DeskFault.{DeskFault}
use Rattle.tip_session.specs.declared.desk.DeskFault.TheVariants as fault
use Rattle.tip_session.specs.declared.ended.Ended.{Ended}
use Rattle.tip_session.specs.declared.ended.Ended.TheVariants as ended
use Rattle.tip_session.specs.declared.given.Given.{Given}

back_last : (xs : List Step) (n : Name) → only_back xs ≡ true → only_back (xs ++ Back n ∷ []) ≡ true
back_last [] n only = refl
back_last (Line heard ∷ xs) n only = only
back_last (Lost ∷ xs) n only = only
back_last (Back name ∷ xs) n only = back_last xs n only

pub lines_append : (xs ys : List Step) → lines_in (xs ++ ys) ≡ lines_in xs ++ lines_in ys
lines_append [] ys = refl
lines_append (x ∷ xs) ys = ap (λ l. line_of x ++ l) (lines_append xs ys) ∙ sym (append_assoc (line_of x) (lines_in xs) (lines_in ys))

pub calm_append : (xs ys : List Step) → has_lost xs ≡ false → has_lost ys ≡ false → has_lost (xs ++ ys) ≡ false
calm_append [] ys calm also = also
calm_append (Line heard ∷ xs) ys calm also = calm_append xs ys calm also
calm_append (Lost ∷ xs) ys calm also = calm
calm_append (Back name ∷ xs) ys calm also = calm_append xs ys calm also

pub no_lines : (xs : List Step) → only_back xs ≡ true → lines_in xs ≡ []
no_lines [] only = refl
no_lines (Line heard ∷ xs) only = grind (arith, only)
no_lines (Lost ∷ xs) only = grind (arith, only)
no_lines (Back name ∷ xs) only = no_lines xs only

no_loss : (xs : List Step) → only_back xs ≡ true → has_lost xs ≡ false
no_loss [] only = refl
no_loss (Line heard ∷ xs) only = grind (arith, only)
no_loss (Lost ∷ xs) only = grind (arith, only)
no_loss (Back name ∷ xs) only = no_loss xs only

-- Errands

-- errands came back so far, and this one is out
pub record Ran (s t : Seen) (out : Option Name) : Type 0 where
  pub backs : List Step
  pub steps : t.steps ≡ s.steps ++ backs
  pub only : only_back backs ≡ true
  pub given : t.given ≡ s.given
  pub owed : t.owed ≡ out

pub ran_nothing : (s : Seen) (owed : Option Name) → s.owed ≡ owed → Ran s s owed
ran_nothing s owed out = record { backs = []; steps = sym (append-nil s.steps); only = refl; given = refl; owed = out }

pub ran_on : (s t u : Seen) (n : Name) (owed more : Option Name) → Ran s t owed → u ≡ stepped t (Back n) more → Ran s u more
ran_on s t u n owed more ran is = record {
  backs = ran.backs ++ Back n ∷ [];
  steps = ap (λ (x : Seen). x.steps) is ∙ ap (λ x. x ++ Back n ∷ []) ran.steps ∙ append_assoc s.steps ran.backs (Back n ∷ []);
  only = back_last ran.backs n ran.only;
  given = ap (λ (x : Seen). x.given) is ∙ ran.given;
  owed = ap (λ (x : Seen). x.owed) is;
}

pub ran_ends : (s t : Seen) → Ran s t None → Runs s t None
ran_ends s t ran = record { backs = ran.backs; steps = ran.steps; only = ran.only; given = ran.given; back = ran.owed; ends = tt }

pub ran_fails : (s t u : Seen) (owed : Option Name) (f : DeskFault) → Ran s t owed → u ≡ record (faulted t f) { owed = None } → Runs s u (Some (ended.Failed f))
ran_fails s t u owed f ran is = record {
  backs = ran.backs;
  steps = ap (λ (x : Seen). x.steps) is ∙ ran.steps;
  only = ran.only;
  given = ap (λ (x : Seen). x.given) is ∙ ap (λ g. noting g f) ran.given;
  back = ap (λ (x : Seen). x.owed) is;
  ends = tt;
}

pub ran_endless : (s t u : Seen) (owed : Option Name) → Ran s t owed → u ≡ halting t → Runs s u (Some ended.Endless)
ran_endless s t u owed ran is = record {
  backs = ran.backs;
  steps = ap (λ (x : Seen). x.steps) is ∙ ran.steps;
  only = ran.only;
  given = ap (λ (x : Seen). x.given) is ∙ ap (λ (g : Given). record g { halted = true }) ran.given;
  back = tt;
  ends = tt;
}

-- The loss

pub loss_runs : (s t u : Seen) (owed : Option Name) (result : Option Ended) → t ≡ losing (stepped s Lost owed) → Runs t u result → SaysLost s u result
loss_runs s t u owed result is runs = record {
  after = Lost ∷ runs.backs;
  steps = runs.steps ∙ ap (λ (x : Seen). x.steps ++ runs.backs) is ∙ append_assoc s.steps (Lost ∷ []) runs.backs;
  loss = inl (record { backs = runs.backs; whole = refl; only = runs.only });
  given = runs.given ∙ ap (λ (x : Seen). run_given x.given result) is;
  back = runs.back;
  ends = runs.ends;
}

noted_twice : (g : Given) (f : DeskFault) → noting (noting g f) f ≡ noting g f
noted_twice g fault.Stopped = refl
noted_twice g fault.PassMismatch = refl
noted_twice g fault.Frozen = refl
noted_twice g fault.Memory = refl

lost_noted : (g : Given) (f : DeskFault) → record (noting g f) { lost = true } ≡ noting (record g { lost = true }) f
lost_noted g fault.Stopped = refl
lost_noted g fault.PassMismatch = refl
lost_noted g fault.Frozen = refl
lost_noted g fault.Memory = refl

pub loss_fails : (s t : Seen) (f : DeskFault) → s.owed ≡ None → t ≡ losing (faulted s f) → SaysLost s t (Some (ended.Failed f))
loss_fails s t f none is =
    let given : t.given ≡ noting (record s.given { lost = true }) f = ap (λ (x : Seen). x.given) is ∙ lost_noted s.given f in
    record {
      after = [];
      steps = ap (λ (x : Seen). x.steps) is ∙ sym (append-nil s.steps);
      loss = inr (refl, (f, ap (λ g. noting g f) given ∙ noted_twice (record s.given { lost = true }) f ∙ sym given));
      given = given;
      back = ap (λ (x : Seen). x.owed) is ∙ none;
      ends = tt;
    }

-- A line

run_after : (result : Option Ended) → EndsErrands result → run_given nothing result ≡ given_after result
run_after None ends = refl
run_after (Some ended.AtEnd) ends = absurd ends
run_after (Some ended.Spoilt) ends = absurd ends
run_after (Some ended.Refused) ends = absurd ends
run_after (Some ended.ReadFault) ends = absurd ends
run_after (Some ended.TurnLimit) ends = absurd ends
run_after (Some ended.Gone) ends = absurd ends
run_after (Some (ended.Failed f)) ends = refl
run_after (Some ended.NoMemory) ends = absurd ends
run_after (Some ended.Endless) ends = refl

run_early : (result : Option Ended) → EndsErrands result → IsEarlyIn result
run_early None ends = tt
run_early (Some ended.AtEnd) ends = absurd ends
run_early (Some ended.Spoilt) ends = absurd ends
run_early (Some ended.Refused) ends = absurd ends
run_early (Some ended.ReadFault) ends = absurd ends
run_early (Some ended.TurnLimit) ends = absurd ends
run_early (Some ended.Gone) ends = absurd ends
run_early (Some (ended.Failed f)) ends = tt
run_early (Some ended.NoMemory) ends = absurd ends
run_early (Some ended.Endless) ends = tt

run_line : (heard : Heard) (result : Option Ended) (lines : List Heard) → lines ≡ heard ∷ [] → IsLineOf heard result lines
run_line heard None lines is = is
run_line heard (Some end) lines is = inl is

pub hands_work : (heard : Heard) (s u t : Seen) (owed : Option Name) (result : Option Ended) → IsOpen s → u ≡ stepped s (Line heard) owed → Runs u t result → Hands heard s t result
hands_work heard s u t owed result open_yet is runs = record {
  before = Line heard ∷ runs.backs;
  steps = runs.steps ∙ ap (λ (x : Seen). x.steps ++ runs.backs) is ∙ append_assoc s.steps (Line heard ∷ []) runs.backs;
  lines = run_line heard result (heard ∷ lines_in runs.backs) (ap (λ l. heard ∷ l) (no_lines runs.backs runs.only));
  calm = no_loss runs.backs runs.only;
  given = runs.given ∙ ap (λ g. run_given g result) (ap (λ (x : Seen). x.given) is ∙ open_yet.quiet) ∙ run_after result runs.ends;
  back = runs.back;
  early = run_early result runs.ends;
}

pub hands_line : (heard : Heard) (s t : Seen) → IsOpen s → t ≡ stepped s (Line heard) None → Hands heard s t None
hands_line heard s t open_yet is = record {
  before = Line heard ∷ [];
  steps = ap (λ (x : Seen). x.steps) is;
  lines = refl;
  calm = refl;
  given = ap (λ (x : Seen). x.given) is ∙ open_yet.quiet;
  back = ap (λ (x : Seen). x.owed) is;
  early = tt;
}

-- no line was taken
pub hands_none : (heard : Heard) (s t : Seen) (end : Ended) → t.steps ≡ s.steps → t.given ≡ given_of end → HasBack end t → IsEarly end → Hands heard s t (Some end)
hands_none heard s t end steps given back early = record {
  before = [];
  steps = steps ∙ sym (append-nil s.steps);
  lines = inr refl;
  calm = refl;
  given = given;
  back = back;
  early = early;
}

pub hands_fault : (heard : Heard) (s t : Seen) (f : DeskFault) → IsOpen s → t ≡ faulted s f → Hands heard s t (Some (ended.Failed f))
hands_fault heard s t f open_yet is = hands_none heard s t (ended.Failed f) (ap (λ (x : Seen). x.steps) is) (ap (λ (x : Seen). x.given) is ∙ ap (λ g. noting g f) open_yet.quiet) (ap (λ (x : Seen). x.owed) is ∙ open_yet.none_out) tt

pub hands_gone : (heard : Heard) (s t : Seen) → IsOpen s → t ≡ told s (record s.given { gone = true }) → Hands heard s t (Some ended.Gone)
hands_gone heard s t open_yet is = hands_none heard s t ended.Gone (ap (λ (x : Seen). x.steps) is) (ap (λ (x : Seen). x.given) is ∙ ap (λ (g : Given). record g { gone = true }) open_yet.quiet) (ap (λ (x : Seen). x.owed) is ∙ open_yet.none_out) tt

pub hands_refused : (heard : Heard) (s t : Seen) → IsOpen s → (t ≡ refusing s) ⊎ (t ≡ refusing (stepped s (Line heard) None)) → Hands heard s t (Some ended.Refused)
hands_refused heard s t open_yet (inl is) = hands_none heard s t ended.Refused (ap (λ (x : Seen). x.steps) is) (ap (λ (x : Seen). x.given) is ∙ ap (λ (g : Given). record g { refused = true }) open_yet.quiet) (ap (λ (x : Seen). x.owed) is ∙ open_yet.none_out) tt
hands_refused heard s t open_yet (inr is) = record {
  before = Line heard ∷ [];
  steps = ap (λ (x : Seen). x.steps) is;
  lines = inl refl;
  calm = refl;
  given = ap (λ (x : Seen). x.given) is ∙ ap (λ (g : Given). record g { refused = true }) open_yet.quiet;
  back = ap (λ (x : Seen). x.owed) is;
  early = tt;
}

-- What lines add

lines_gained : (s t : Seen) (before : List Step) (lines : List Heard) → t.steps ≡ s.steps ++ before → lines_in before ≡ lines → lines_in t.steps ≡ lines_in s.steps ++ lines
lines_gained s t before lines steps is = ap lines_in steps ∙ lines_append s.steps before ∙ ap (λ l. lines_in s.steps ++ l) is

pub hands_whole : (heard : Heard) (s t : Seen) → Hands heard s t None → lines_in t.steps ≡ lines_in s.steps ++ heard ∷ []
hands_whole heard s t hands = lines_gained s t hands.before (heard ∷ []) hands.steps hands.lines

front_of : (heard : Heard) (s t : Seen) (before : List Step) → t.steps ≡ s.steps ++ before → (lines_in before ≡ heard ∷ []) ⊎ (lines_in before ≡ []) → IsFront (heard ∷ []) (lines_in s.steps) (lines_in t.steps)
front_of heard s t before steps (inl is) = (heard ∷ [], [], refl, lines_gained s t before (heard ∷ []) steps is)
front_of heard s t before steps (inr is) = ([], heard ∷ [], refl, lines_gained s t before [] steps is)

pub hands_front : (heard : Heard) (s t : Seen) (end : Ended) → Hands heard s t (Some end) → IsFront (heard ∷ []) (lines_in s.steps) (lines_in t.steps)
hands_front heard s t end hands = front_of heard s t hands.before hands.steps hands.lines

pub open_after : (heard : Heard) (s t : Seen) → Hands heard s t None → IsOpen t
open_after heard s t hands = record { quiet = hands.given; none_out = hands.back }

pub handed_nothing : (s : Seen) → IsOpen s → Handed s s
handed_nothing s open_yet = record { before = []; steps = sym (append-nil s.steps); calm = refl; open_yet = open_yet }

pub handed_on : (heard : Heard) (s t u : Seen) → Handed s t → Hands heard t u None → Handed s u
handed_on heard s t u handed hands = record {
  before = handed.before ++ hands.before;
  steps = hands.steps ∙ ap (λ x. x ++ hands.before) handed.steps ∙ append_assoc s.steps handed.before hands.before;
  calm = calm_append handed.before hands.before handed.calm hands.calm;
  open_yet = open_after heard t u hands;
}

pub paused_there : (heard : Heard) (s t u : Seen) (end : Ended) → Handed s t → Hands heard t u (Some end) → Paused s u end
paused_there heard s t u end handed hands = record {
  before = handed.before ++ hands.before;
  steps = hands.steps ∙ ap (λ x. x ++ hands.before) handed.steps ∙ append_assoc s.steps handed.before hands.before;
  calm = calm_append handed.before hands.before handed.calm hands.calm;
  given = hands.given;
  back = hands.back;
}

pub paused_last : (s t u : Seen) (end : Ended) → Handed s t → LastHands t u end → Paused s u end
paused_last s t u end handed hands = record {
  before = handed.before ++ hands.before;
  steps = hands.steps ∙ ap (λ x. x ++ hands.before) handed.steps ∙ append_assoc s.steps handed.before hands.before;
  calm = calm_append handed.before hands.before handed.calm hands.calm;
  given = hands.given;
  back = hands.back;
}

pub paused_here : (s t : Seen) (end : Ended) → Handed s t → nothing ≡ given_of end → HasBack end t → Paused s t end
paused_here s t end handed given back = record { before = handed.before; steps = handed.steps; calm = handed.calm; given = handed.open_yet.quiet ∙ given; back = back }

-- The last item of a stream

pub last_early : (s t : Seen) (end : Ended) → Hands Malformed s t (Some end) → LastHands s t end
last_early s t end hands = record { before = hands.before; steps = hands.steps; ends = inl (hands.early, hands.lines); calm = hands.calm; given = hands.given; back = hands.back }

pub last_after : (s u t : Seen) (end : Ended) → Hands Malformed s u None → t.steps ≡ u.steps → t.given ≡ given_of end → HasBack end t → IsEarly end ⊎ (end ≡ ended.Spoilt) → LastHands s t end
last_after s u t end hands steps given back (inl early) = record { before = hands.before; steps = steps ∙ hands.steps; ends = inl (early, inl hands.lines); calm = hands.calm; given = given; back = back }
last_after s u t end hands steps given back (inr spoilt) = record { before = hands.before; steps = steps ∙ hands.steps; ends = inr (spoilt, hands.lines); calm = hands.calm; given = given; back = back }

last_front : (t u : Seen) (end : Ended) (hands : LastHands t u end) → (lines_in hands.before ≡ Malformed ∷ []) ⊎ (lines_in hands.before ≡ []) → IsFront (Malformed ∷ []) (lines_in t.steps) (lines_in u.steps)
last_front t u end hands is = front_of Malformed t u hands.before hands.steps is

last_by : (end : Ended) (turns count left : ℕ) (old : List Heard) (t u : Seen) (lines : List ℕ) (before now : Option (List ℕ)) (hands : LastHands t u end) → IsBehind turns count left old (lines_in t.steps) lines before now → ((more : List ℕ) → says (lines ++ more) ≡ Malformed ∷ []) → (IsEarly end × ((lines_in hands.before ≡ Malformed ∷ []) ⊎ (lines_in hands.before ≡ []))) ⊎ ((end ≡ ended.Spoilt) × (lines_in hands.before ≡ Malformed ∷ [])) → HandsIn end turns old (lines_in u.steps) before now
last_by end turns count left old t u lines before now hands so comes (inl early) = ends_there end turns count left old (lines_in t.steps) (lines_in u.steps) lines Malformed before now so (λ more. ([], comes more)) (last_front t u end hands early.1) early.0
last_by end turns count left old t u lines before now hands so comes (inr spoilt) = ends_spoilt end turns count left old (lines_in t.steps) (lines_in u.steps) lines before now so comes (lines_gained t u hands.before (Malformed ∷ []) hands.steps spoilt.1) spoilt.0

-- the last item was handed in
pub last_hands_in : {T : Type 0} (IsHeard : List ℕ → T → Type 0) (end : Ended) (turns count : ℕ) (old : List Heard) (t u : Seen) (i j : Intake) (before now after : Option (List ℕ)) (cause : Cause) → LastHands t u end → IsBehind turns count i.reads_left old (lines_in t.steps) i.lines before now → Comes IsHeard i j now after (coming.Fault cause) → HandsIn end turns old (lines_in u.steps) before after
last_hands_in IsHeard end turns count old t u i j before now after cause hands so comes =
    let behind = behind_fault IsHeard turns count old (lines_in t.steps) i j before now after cause so comes in
    last_by end turns count j.reads_left old t u (i.lines ++ comes.read) before after hands behind.0 behind.1 hands.ends

-- A session

lines_behind : (g : Given) (after : List Step) → Losses g after → lines_in after ≡ []
lines_behind g after (inl none) = ap lines_in none.1
lines_behind g after (inr (lost, inl loss)) = ap lines_in loss.whole ∙ no_lines loss.backs loss.only
lines_behind g after (inr (lost, inr refused)) = ap lines_in refused.0

finished_lines : (end : Ended) (s t : Seen) (result : SessionEnd) → Finishes end s t result → lines_in t.steps ≡ lines_in s.steps
finished_lines end s t result ends = lines_gained s t ends.after [] ends.steps (lines_behind t.given ends.after ends.losses) ∙ append-nil (lines_in s.steps)

pub served_front : (end : Ended) (turns : ℕ) (s m t : Seen) (before after : Option (List ℕ)) (result : SessionEnd) → HandsIn end turns (lines_in s.steps) (lines_in m.steps) before after → Finishes end m t result → IfSome before (λ octets. IsFront (says octets) (lines_in s.steps) (lines_in t.steps))
served_front end turns s m t None after result hands ends = tt
served_front end turns s m t (Some octets) after result hands ends = subst (λ n. IsFront (says octets) (lines_in s.steps) n) (sym (finished_lines end m t result ends)) (front_of_all end turns octets (lines_in s.steps) (lines_in m.steps) after hands)

all_read : (octets read : List ℕ) (after : Option (List ℕ)) → Consumes (Some octets) after read → IsAtEnd after → read ≡ octets
all_read octets read None consumed end = absurd consumed
all_read octets read (Some rest) consumed end = sym (append-nil read) ∙ ap (λ r. read ++ r) (sym end) ∙ sym consumed

spoilt_read : (octets read : List ℕ) (old new : List Heard) (after : Option (List ℕ)) → Consumes (Some octets) after read → ((more : List ℕ) → new ≡ old ++ says (read ++ more)) → new ≡ old ++ says octets
spoilt_read octets read old new None consumed all = absurd consumed
spoilt_read octets read old new (Some rest) consumed all = all rest ∙ ap (λ o. old ++ says o) (sym consumed)

closing : (end : Ended) (turns : ℕ) (octets : List ℕ) (s m t : Seen) (after : Option (List ℕ)) → HandsIn end turns (lines_in s.steps) (lines_in m.steps) (Some octets) after → lines_in t.steps ≡ lines_in m.steps → Closes end t.given → Closing octets s t
closing ended.AtEnd turns octets s m t after hands same closes = inr (inr (inr (same ∙ hands.all.0 ∙ ap (λ o. lines_in s.steps ++ says o) (all_read octets hands.read after hands.consumed hands.all.1))))
closing ended.Spoilt turns octets s m t after hands same closes = inr (inr (inr (same ∙ spoilt_read octets hands.read (lines_in s.steps) (lines_in m.steps) after hands.consumed hands.all)))
closing ended.Refused turns octets s m t after hands same closes = inr (inl closes)
closing ended.ReadFault turns octets s m t after hands same closes = absurd closes
closing ended.TurnLimit turns octets s m t after hands same closes = absurd closes
closing ended.Gone turns octets s m t after hands same closes = inl closes
closing (ended.Failed f) turns octets s m t after hands same closes = inr (inr (inl closes))
closing ended.NoMemory turns octets s m t after hands same closes = absurd closes
closing ended.Endless turns octets s m t after hands same closes = absurd closes

pub served_whole : (end : Ended) (turns : ℕ) (s m t : Seen) (before after : Option (List ℕ)) (result : SessionEnd) → HandsIn end turns (lines_in s.steps) (lines_in m.steps) before after → Finishes end m t result → IfSome before (λ octets. result ≡ session.PeerClosed → Closing octets s t)
served_whole end turns s m t None after result hands ends = tt
served_whole end turns s m t (Some octets) after result hands ends = λ peer. closing end turns octets s m t after hands (finished_lines end m t result ends) (ends.closes peer)

read_within : (octets read : List ℕ) (after : Option (List ℕ)) → Consumes (Some octets) after read → length read ≤ length octets
read_within octets read None consumed = absurd consumed
read_within octets read (Some rest) consumed = let both = ap length consumed ∙ length-append read rest in omega (arith, both)

limited : (end : Ended) (turns : ℕ) (octets : List ℕ) (old new : List Heard) (t : Seen) (after : Option (List ℕ)) → HandsIn end turns old new (Some octets) after → Limits end t.given → Exhausts turns octets t
limited end turns octets old new t after hands (inl is) =
    let made : turns ≤ length hands.read = subst (λ e. IsAll e turns hands.read old new after) is hands.all in
    let within = read_within octets hands.read after hands.consumed in
    inl (omega (arith, made, within))
limited end turns octets old new t after hands (inr halted) = inr halted

pub served_limit : (end : Ended) (turns : ℕ) (s m t : Seen) (before after : Option (List ℕ)) (result : SessionEnd) → HandsIn end turns (lines_in s.steps) (lines_in m.steps) before after → Finishes end m t result → IfSome before (λ octets. result ≡ session.TurnLimit → Exhausts turns octets t)
served_limit end turns s m t None after result hands ends = tt
served_limit end turns s m t (Some octets) after result hands ends = λ limit. limited end turns octets (lines_in s.steps) (lines_in m.steps) t after hands (ends.limits limit)
