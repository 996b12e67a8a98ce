-- A REALM IS TRUE TO ITS WORD (ours, for RFC 2371, sections 10, 13 and 15): what the branches of each transaction were told so
-- far, and what a party that is out will tell them, fits what has become of the transaction. This is carried through a run.
use Rattle.std.specs.Prelude.{◌≡◌, ℕ, ◌==◌, ◌&&◌, ◌||◌, not, Bool, true, false, List, Option, Some, None, is_none, if◌then◌else◌}
use Rattle.std.specs.List.{list_all, list_any}
use Rattle.std.specs.Option.{option_map_or}
use Rattle.std.specs.Str.{bytes_eq}
use Rattle.tip_branch.specs.Notes.{PartyNotes}
use Rattle.tip_branch.specs.declared.member.Errand.{Errand}
use Rattle.tip_branch.specs.declared.member.Errand.TheVariants as errand
use Rattle.tip_rows.specs.Keys.{Key}
use Rattle.tip_rows.specs.Logs.{row_at}
use Rattle.tip_txn.specs.declared.answer.Phase.{Phase}
use Rattle.tip_txn.specs.declared.answer.Phase.TheVariants.{Active, Asking, Prepared, Committed, Aborted}
use Rattle.tip_machine.specs.Agreement.{is_committed_row}
use Rattle.tip_machine.specs.Agreement.Verdicts.{Verdict, is_abort, is_commit, told}
use Rattle.tip_machine.specs.Answers.{identifier}
use Rattle.tip_machine.specs.Given.{was_given}
use Rattle.tip_machine.specs.Invariants.Bounds.{is_spelled}
use Rattle.tip_machine.specs.Moves.{World}
use Rattle.tip_machine.specs.Outputs.{Output}
use Rattle.tip_machine.specs.States.{transaction_of}
use Rattle.tip_machine.specs.Types.{PartyPlace, Transaction}
use Rattle.tip_machine.specs.declared.transaction.PartyPlace.TheVariants.{Out}

-- The word that was given to the branches of a transaction
pub record Word : Type 0 where
  -- one was told to commit, or a party is out to tell it
  pub commit : Bool
  -- one was told to abort, or a party is out that will
  pub abort : Bool
  -- a party is out to vote for it
  pub awaited : Bool

-- What a party that is out will tell its branches. What votes for a transaction of an earlier start can only be rolled back
abbrev pub verdict_of : ℕ → Errand → ℕ → Option Verdict
verdict_of now errand.Idle epoch = None
verdict_of now errand.Vote epoch = if epoch == now then None else Some Verdict.Abort
verdict_of now errand.Commit epoch = Some Verdict.Commit
verdict_of now errand.Abort epoch = Some Verdict.Abort

abbrev pub is_to_vote : Errand → Bool
is_to_vote errand.Idle = false
is_to_vote errand.Vote = true
is_to_vote errand.Commit = false
is_to_vote errand.Abort = false

-- a party of this transaction will tell such a verdict
abbrev pub will_tell : (Verdict → Bool) → ℕ → List ℕ → PartyNotes → Bool
will_tell test now id party = bytes_eq id party.id && option_map_or test (verdict_of now party.errand party.epoch) false

-- a party of this transaction, of this start, is out to vote
abbrev pub will_vote : ℕ → List ℕ → PartyNotes → Bool
will_vote now id party = bytes_eq id party.id && ((party.epoch == now) && is_to_vote party.errand)

-- the word on the transaction of an identifier, after so much was shown
abbrev pub word_of : World → List Output → List ℕ → Word
word_of world shown id =
    let now = world.state.head.epoch in
    let said = told world.state.head.name id shown in
    record {
      commit = list_any is_commit said || list_any (will_tell is_commit now id) world.errands;
      abort = list_any is_abort said || list_any (will_tell is_abort now id) world.errands;
      awaited = list_any (will_vote now id) world.errands;
    }

-- the party that votes for it does not come back, so it can only be aborted
abbrev pub is_lost : PartyPlace → Bool → Bool
is_lost (Out errand.Vote) awaited = not awaited
is_lost place awaited = false

-- THE TABLE: by the phase of a transaction, the word that may have been given
abbrev pub fits_in : Phase → PartyPlace → Word → Bool
fits_in Active place word = not word.commit && not word.abort
fits_in Asking place word = not word.commit && (not word.abort || is_lost place word.awaited)
fits_in Prepared place word = not word.commit && not word.abort
fits_in Committed place word = not word.abort
fits_in Aborted place word = not word.commit

-- of one that is gone either was told, never both
abbrev pub fits : Option Transaction → Word → Bool
fits None word = not (word.commit && word.abort)
fits (Some t) word = fits_in t.phase t.place word

-- no branch of a party that goes out has a call from before
abbrev pub is_uncalled : PartyNotes → Bool
is_uncalled party = list_all (λ member. is_none member.call) party.members

-- it is the identifier of a key of this realm, one that fits
abbrev pub IsOurs : List ℕ → List ℕ → Type 0
IsOurs realm id = (key : Key) × (is_spelled key ≡ true) × (id ≡ identifier realm key)

-- a branch of the transaction of this identifier was told a verdict, or a party of it is out
abbrev pub is_spoken_of : World → List Output → List ℕ → Bool
is_spoken_of world shown id = list_any (λ verdict. true) (told world.state.head.name id shown) || list_any (λ party. bytes_eq id party.id) world.errands

-- ALL OF IT, of a world that was reached once so much was shown
pub record IsTrueTo (shown : List Output) (world : World) : Type 0 where
  pub fits : (key : Key) → is_spelled key ≡ true → fits (transaction_of key world.state) (word_of world shown (identifier world.state.head.name key)) ≡ true
  -- none but a transaction that was made has any word
  pub given : (key : Key) → is_spelled key ≡ true → let word = word_of world shown (identifier world.state.head.name key) in word.commit || word.abort ≡ true → was_given world.state key ≡ true
  pub uncalled : list_all is_uncalled world.errands ≡ true
  -- no other identifier is spoken of
  pub ours : (id : List ℕ) → is_spoken_of world shown id ≡ true → IsOurs world.state.head.name id

-- Its row

-- the row of this key is a committed one
abbrev pub has_committed_row : Key → World → Bool
has_committed_row key world = option_map_or is_committed_row (row_at key world.rows) false
