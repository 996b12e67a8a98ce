-- How a script has ended.
use Rattle.std.proofs.Common.{◌≡◌, ◌∷◌, ℕ, List, [], Option, Some, None, Ok, Err, IfSome, Result, append-nil, inl, inr, refl, sym, ◌∙◌}
use Rattle.std.proofs.lemmas.Option.{none-some}
use Rattle.tip_rows.specs.Logs.{Keeping, IsSpoiled, empty_log}
use Rattle.tip_rows.specs.Memory.{Memory, is_due_in, log_of}
use Rattle.tip_scene.specs.Acts.{Basis, is_covered}
use Rattle.tip_script.specs.Scripts.{Move, Declare, Label, Open, Dial, Feed, Lose, Push, Pull, Go, Drop, Resume, Refuse, Renew, Restart, move_of}
use Rattle.tip_scene.specs.Stages.{IsBasis, Trusts}
use Rattle.std.specs.Io.KnownBytes.{Appends, Keeps}
use Rattle.std.specs.Prelude.{IfOk, IsErrOf, false, true}
use Rattle.std.specs.List.{list_all}
use Rattle.std.proofs.lemmas.Bool.{and_from}
use Rattle.tip_play.specs.Endings.{ended, unflushed}
use Rattle.tip_play.specs.Transcripts.{IsFront, Transcribes, TranscribesOn, covers_all, in_memory, lines_of, played_of, transcript}
use Rattle.tip_play.specs.declared.fault.PlayFault.{PlayFault}
use Rattle.tip_play.specs.declared.fault.PlayFault.TheVariants as fault

appends_kept : (old mid new : Option (List ℕ)) (bs : List ℕ) → Appends old mid bs → Keeps mid new → Appends old new bs
appends_kept None mid new bs written same = tt
appends_kept (Some x) None new bs written same = absurd written
appends_kept (Some x) (Some y) None bs written same = absurd same
appends_kept (Some x) (Some y) (Some z) bs written same = same ∙ written

module _ {S : Type 0} (kept : Keeping S) (basis : Basis) where
  pub trusts_unflushed : (old : S) (result : Result S (PlayFault × S)) → Trusts kept old (λ store. store) result → Trusts kept old (λ store. store) (unflushed result)
  trusts_unflushed old (Ok store) trusts = trusts
  trusts_unflushed old (Err (fault.Script line, store)) trusts = trusts
  trusts_unflushed old (Err (fault.Read, store)) trusts = trusts
  trusts_unflushed old (Err (fault.Write, store)) trusts = trusts
  trusts_unflushed old (Err (fault.Memory, store)) trusts = trusts
  trusts_unflushed old (Err (fault.Store, store)) trusts = trusts

  -- what was written stays
  kept_front : (script : List ℕ) (old mid new : Option (List ℕ)) → Keeps mid new → IsFront basis script old mid → IsFront basis script old new
  kept_front script old mid new same so = record { front = so.front; later = so.later; whole = so.whole; written = appends_kept old mid new so.front so.written same }

  kept_one : (script : List ℕ) (rest old mid new : Option (List ℕ)) (result : Result (Unit {0}) PlayFault) → Keeps mid new → Transcribes basis script rest old mid result → Transcribes basis script rest old new result
  kept_one script rest old mid new (Ok done) same is = (is.0, appends_kept old mid new (transcript basis script) is.1 same)
  kept_one script rest old mid new (Err (fault.Script line)) same is = (is.0, appends_kept old mid new (transcript basis script) is.1 same)
  kept_one script rest old mid new (Err fault.Read) same is = record { read = is.read; consumed = is.consumed; written = appends_kept old mid new (played_of basis is.read).printed is.written same }
  kept_one script rest old mid new (Err fault.Write) same is = kept_front script old mid new same is
  kept_one script rest old mid new (Err fault.Memory) same is = kept_front script old mid new same is
  kept_one script rest old mid new (Err fault.Store) same is = kept_front script old mid new same is

  kept_on : (script : List ℕ) (rest old mid new : Option (List ℕ)) (result : Result S (PlayFault × S)) → Keeps mid new → TranscribesOn kept basis script rest old mid result → TranscribesOn kept basis script rest old new result
  kept_on script rest old mid new (Ok store) same is = λ truth. kept_one script rest old mid new (Ok tt) same (is truth)
  kept_on script rest old mid new (Err fault) same is = λ truth. kept_one script rest old mid new (Err fault.0) same (is truth)

  pub all_kept : (whole rest old mid new : Option (List ℕ)) (result : Result S (PlayFault × S)) → Keeps mid new → IfSome whole (λ script. covers_all basis script ≡ true → TranscribesOn kept basis script rest old mid result) → IfSome whole (λ script. covers_all basis script ≡ true → TranscribesOn kept basis script rest old new result)
  all_kept None rest old mid new result same is = tt
  all_kept (Some script) rest old mid new result same is = λ covers. kept_on script rest old mid new result same (is covers)

  one_unflushed : (script : List ℕ) (rest old new : Option (List ℕ)) (result : Result S (PlayFault × S)) → TranscribesOn kept basis script rest old new result → TranscribesOn kept basis script rest old new (unflushed result)
  one_unflushed script rest old new (Ok store) is = λ truth. record { front = transcript basis script; later = []; whole = sym (append-nil (transcript basis script)); written = (is truth).1 }
  one_unflushed script rest old new (Err (fault.Script line, store)) is = λ truth. record { front = transcript basis script; later = []; whole = sym (append-nil (transcript basis script)); written = (is truth).1 }
  one_unflushed script rest old new (Err (fault.Read, store)) is = is
  one_unflushed script rest old new (Err (fault.Write, store)) is = is
  one_unflushed script rest old new (Err (fault.Memory, store)) is = is
  one_unflushed script rest old new (Err (fault.Store, store)) is = is

  -- what was written may not be there
  pub all_unflushed : (whole rest old new : Option (List ℕ)) (result : Result S (PlayFault × S)) → IfSome whole (λ script. covers_all basis script ≡ true → TranscribesOn kept basis script rest old new result) → IfSome whole (λ script. covers_all basis script ≡ true → TranscribesOn kept basis script rest old new (unflushed result))
  all_unflushed None rest old new result is = tt
  all_unflushed (Some script) rest old new result is = λ covers. one_unflushed script rest old new result (is covers)

pub never_unflushed : {S : Type 0} (P : S → Type 0) (result : Result S (PlayFault × S)) → IfOk (unflushed result) P
never_unflushed P (Ok store) = tt
never_unflushed P (Err (fault.Script line, store)) = tt
never_unflushed P (Err (fault.Read, store)) = tt
never_unflushed P (Err (fault.Write, store)) = tt
never_unflushed P (Err (fault.Memory, store)) = tt
never_unflushed P (Err (fault.Store, store)) = tt

-- Rows in memory

abbrev pub rows_kept : Keeping Memory
rows_kept = record { stands = λ s log. log_of s ≡ log; may_leave = λ s log. log_of s ≡ log; is_true = λ s. Unit {0}; faults = λ s. s.faults; is_due = is_due_in }

sound : (name : List ℕ) → ¬ IsSpoiled empty_log name
sound name (inl bad) = none-some bad.0 bad.1
sound name (inr (inl stray)) = absurd (cc)
sound name (inr (inr unread)) = absurd (cc)

-- nothing is stored of any realm
pub is_blank : (store : Memory) → log_of store ≡ empty_log → ((name : List ℕ) → is_due_in store name ≡ false) → IsBasis rows_kept in_memory store
is_blank store empty none_due = record {
  log = empty_log;
  stood = empty;
  before = λ name covers. record { epoch = refl; rising = refl; same = λ key. refl; sound = sound name };
  none_due = λ name covers. none_due name;
}

one_ended : (script : List ℕ) (rest old new : Option (List ℕ)) (result : Result Memory (PlayFault × Memory)) → TranscribesOn rows_kept in_memory script rest old new result → Transcribes in_memory script rest old new (ended result)
one_ended script rest old new (Ok store) is = is tt
one_ended script rest old new (Err (fault.Script line, store)) is = is tt
one_ended script rest old new (Err (fault.Read, store)) is = is tt
one_ended script rest old new (Err (fault.Write, store)) is = is tt
one_ended script rest old new (Err (fault.Memory, store)) is = is tt
one_ended script rest old new (Err (fault.Store, store)) is = is tt

-- the basis of rows in memory covers each realm
covered_line : (line : Option Move) → is_covered in_memory line ≡ true
covered_line None = refl
covered_line (Some (Declare name address branches limits)) = refl
covered_line (Some (Label realm labels)) = refl
covered_line (Some (Open realm plans)) = refl
covered_line (Some (Dial realm address plans purpose)) = refl
covered_line (Some (Feed realm connection octets)) = refl
covered_line (Some (Lose realm connection)) = refl
covered_line (Some (Push realm connection id)) = refl
covered_line (Some (Pull realm connection superior)) = refl
covered_line (Some (Go realm)) = refl
covered_line (Some (Drop realm)) = refl
covered_line (Some (Resume realm id)) = refl
covered_line (Some (Refuse realm)) = refl
covered_line (Some (Renew realm)) = refl
covered_line (Some Restart) = refl

covered_lines : (lines : List (List ℕ)) → list_all (λ line. is_covered in_memory (move_of line)) lines ≡ true
covered_lines [] = refl
covered_lines (line ∷ lines) = and_from (is_covered in_memory (move_of line)) (list_all (λ l. is_covered in_memory (move_of l)) lines) (covered_line (move_of line)) (covered_lines lines)

pub never_blamed : (result : Result Memory (PlayFault × Memory)) → IsErrOf (ended result) fault.Store → ⊥
never_blamed (Ok store) is = absurd cc
never_blamed (Err (fault.Script line, store)) is = absurd cc
never_blamed (Err (fault.Read, store)) is = absurd cc
never_blamed (Err (fault.Write, store)) is = absurd cc
never_blamed (Err (fault.Memory, store)) is = absurd cc
never_blamed (Err (fault.Store, store)) is = absurd cc

pub all_ended : (whole rest old new : Option (List ℕ)) (result : Result Memory (PlayFault × Memory)) → IfSome whole (λ script. covers_all in_memory script ≡ true → TranscribesOn rows_kept in_memory script rest old new result) → IfSome whole (λ script. Transcribes in_memory script rest old new (ended result))
all_ended None rest old new result is = tt
all_ended (Some script) rest old new result is = one_ended script rest old new result (is (covered_lines (lines_of script)))
