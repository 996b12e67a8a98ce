-- What playing a script has written.
use Rattle.std.proofs.Common.{◌≡◌, inl, inr, ◌++◌, ℕ, List, [], Option, Some, None, append-nil, refl, sym, subst}
use Rattle.std.specs.Io.KnownBytes.{Appends}
use Rattle.std.specs.Prelude.{Err, IfSome, Ok, Result}
use Rattle.tip_rows.specs.Logs.{Keeping}
use Rattle.tip_scene.specs.Acts.{Basis}
use Rattle.tip_play.specs.Transcripts.{IsFront, Transcribes, TranscribesOn, closing_text, ended, in_memory, lines_of, played_of, transcript}
use Rattle.tip_play.specs.declared.fault.PlayFault.{PlayFault}
use Rattle.tip_play.specs.declared.fault.PlayFault.TheVariants as fault
use Rattle.tip_history.specs.Alone.{AreApart}
use Rattle.tip_history.specs.Histories.{AreWritten, IsTold, asked_by, declared_by, left_by}
use Rattle.tip_history.specs.Tellings.{Tells, TellsOn}
use Rattle.tip_history.proofs.Playing.{told_lines, told_script}
use Rattle.tip_history.proofs.Scripts.{script_apart}

module _ (basis : Basis) (written : AreWritten basis) (script : List ℕ) (rest old new : Option (List ℕ)) where
  -- a front of the transcript
  of_all : (front later : List ℕ) → transcript basis script ≡ front ++ later → Appends old new front → Tells basis script rest old new
  of_all front later whole appends = record {
    lines = lines_of script;
    read = inl refl;
    front = front;
    later = later;
    written = appends;
    told = subst (IsTold basis (declared_by basis (lines_of script)) (asked_by basis (lines_of script)) (left_by basis (lines_of script))) whole (told_script basis written script);
    apart = subst (AreApart basis (lines_of script)) whole (script_apart basis written (lines_of script));
  }

  all_of_it : Appends old new (transcript basis script) → Tells basis script rest old new
  all_of_it appends = of_all (transcript basis script) [] (sym (append-nil (transcript basis script))) appends

  a_front : IsFront basis script old new → Tells basis script rest old new
  a_front is = of_all is.front is.later is.whole is.written

  pub tells : (result : Result (Unit {0}) PlayFault) → Transcribes basis script rest old new result → Tells basis script rest old new
  tells (Ok done) is = all_of_it is.1
  tells (Err (fault.Script line)) is = all_of_it is.1
  tells (Err fault.Read) is = record {
    lines = ended is.read;
    read = inr (is.read, is.consumed, refl);
    front = (played_of basis is.read).printed;
    later = closing_text basis (played_of basis is.read).ending;
    written = is.written;
    told = told_lines basis written (ended is.read);
    apart = script_apart basis written (ended is.read);
  }
  tells (Err fault.Write) is = a_front is
  tells (Err fault.Memory) is = a_front is
  tells (Err fault.Store) is = a_front is

-- rows in memory, of which none was stored
pub memory_is_written : AreWritten in_memory
memory_is_written declaration = record {
  rises = refl;
  rows = record { rising = refl; spelled = refl; earlier = refl };
  known_once = refl;
}

pub tells_if : (script rest old new : Option (List ℕ)) (result : Result (Unit {0}) PlayFault) → IfSome script (λ s. Transcribes in_memory s rest old new result) → IfSome script (λ s. Tells in_memory s rest old new)
tells_if None rest old new result is = tt
tells_if (Some script) rest old new result is = tells in_memory memory_is_written script rest old new result is

pub tells_on : {S : Type 0} (kept : Keeping S) (basis : Basis) (written : AreWritten basis) (script : List ℕ) (rest old new : Option (List ℕ)) (result : Result S (PlayFault × S)) → TranscribesOn kept basis script rest old new result → TellsOn kept basis script rest old new result
tells_on kept basis written script rest old new (Ok store) is = λ reliable. tells basis written script rest old new (Ok tt) (is reliable)
tells_on kept basis written script rest old new (Err why) is = λ reliable. tells basis written script rest old new (Err why.0) (is reliable)
