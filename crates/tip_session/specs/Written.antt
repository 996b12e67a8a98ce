-- What a writer writes of the items that its desk gives.
use Rattle.std.specs.Prelude.{◌≡◌, ◌⊎◌, Bool, true, false, ℕ, List, [], ◌∷◌, ◌++◌, Option, Some, None}
use Rattle.std.specs.List.{flat_map}
use Rattle.std.specs.Io.KnownBytes.{Appends}
use Rattle.tip_line.specs.Command as commands
use Rattle.tip_line.specs.Response as responses
use Rattle.tip_machine.specs.Answers.{command_of, response_of}
use Rattle.tip_machine.specs.declared.answer.Item.{Item}
use Rattle.tip_machine.specs.declared.answer.Item.TheVariants.{Say, Ask, Close}
use Rattle.tip_writing.specs.Fronts.{IsFrontOf}
use Rattle.tip_session.specs.Desks.{Gave, Seen, halting, told}
use Rattle.tip_session.specs.declared.desk.Outgoing.{Outgoing}
use Rattle.tip_session.specs.declared.desk.Outgoing.TheVariants as out
use Rattle.tip_session.specs.declared.session_end.SessionEnd.{SessionEnd}
use Rattle.tip_session.specs.declared.session_end.SessionEnd.TheVariants as session
use Rattle.tip_session.specs.declared.writing.Written.{Written}
use Rattle.tip_session.specs.declared.writing.Written.TheVariants as written

-- what an item is on the wire: a line with its end; a closing is nothing (RFC 2371, section 11)
abbrev pub item_line : List ℕ → Item → List ℕ
item_line realm (Say said) = responses.printed (response_of realm said) ++ 13 ∷ 10 ∷ []
item_line realm (Ask asked) = commands.printed (command_of realm asked) ++ 13 ∷ 10 ∷ []
item_line realm Close = []

abbrev pub is_close : Item → Bool
is_close (Say said) = false
is_close (Ask asked) = false
is_close Close = true

abbrev pub has_close : List Item → Bool
has_close [] = false
has_close (Say said ∷ items) = has_close items
has_close (Ask asked ∷ items) = has_close items
has_close (Close ∷ items) = true

abbrev pub written_of : List ℕ → List Item → List ℕ
written_of realm items = flat_map (item_line realm) items

abbrev pub IsPrinted : List ℕ → Item → Option (List ℕ) → Type 0
IsPrinted realm item None = item ≡ Close
IsPrinted realm item (Some text) = (is_close item ≡ false) × (text ≡ item_line realm item)

-- what one item adds
abbrev pub WritesItem : List ℕ → Item → Option (List ℕ) → Option (List ℕ) → Written → Type 0
WritesItem realm item old new written.Line = (is_close item ≡ false) × Appends old new (item_line realm item)
WritesItem realm item old new written.Closing = (item ≡ Close) × Appends old new []
WritesItem realm item old new written.Fault = (is_close item ≡ false) × IsFrontOf (item_line realm item) old new
WritesItem realm item old new written.Memory = (is_close item ≡ false) × Appends old new []

-- all that was given so far was lines, and was written
pub record Wrote {D : Type 0} (gives : D → Outgoing → D → Type 0) (seen : D → Seen) (realm : List ℕ) (d e : D) (old new : Option (List ℕ)) : Type 0 where
  pub items : List Item
  pub gave : Gave gives d items e
  pub lines : has_close items ≡ false
  pub text : Appends old new (written_of realm items)
  pub still : seen e ≡ seen d

-- how a writer ends: by an item of the desk or its word, behind all that was given before; m is the desk that gave the last
abbrev pub EndsWriting : {D : Type 0} → (D → Outgoing → D → Type 0) → List ℕ → List Item → D → D → Seen → Seen → Option (List ℕ) → Option (List ℕ) → SessionEnd → Type 0
EndsWriting gives realm items m l s t old new session.PeerClosed = Appends old new (written_of realm items) × ((gives m out.Gone l × (t ≡ told s (record s.given { gone = true }))) ⊎ (gives m (out.Next Close) l × (t ≡ s)))
EndsWriting gives realm items m l s t old new session.ReadFault = ⊥
EndsWriting gives realm items m l s t old new session.WriteFault = (last : Item) × gives m (out.Next last) l × (is_close last ≡ false) × (t ≡ s) × IsFrontOf (written_of realm (items ++ last ∷ [])) old new
EndsWriting gives realm items m l s t old new session.TurnLimit = ⊥
EndsWriting gives realm items m l s t old new session.HostStopped = Appends old new (written_of realm items) × ((gives m out.Stopped l × (t ≡ told s (record s.given { stopped = true }))) ⊎ (t ≡ halting s))
EndsWriting gives realm items m l s t old new session.PassMismatch = ⊥
EndsWriting gives realm items m l s t old new session.Memory = (last : Item) × gives m (out.Next last) l × (is_close last ≡ false) × (t ≡ halting s) × Appends old new (written_of realm items)

-- WHAT A WRITER WRITES: the lines that the desk gave, in order, each with its end, and nothing else; it takes no step
pub record WritesOut {D : Type 0} (gives : D → Outgoing → D → Type 0) (seen : D → Seen) (realm : List ℕ) (d e : D) (old new : Option (List ℕ)) (result : SessionEnd) : Type 0 where
  pub items : List Item
  pub before_last : D
  pub after_last : D
  pub gave : Gave gives d items before_last
  pub lines : has_close items ≡ false
  pub ends : EndsWriting gives realm items before_last after_last (seen d) (seen e) old new result
