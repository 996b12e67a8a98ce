-- What lines give that wait, and what is read behind them.
use Rattle.std.proofs.Common.{◌≡◌, ◌≤◌, ◌+◌, ◌*◌, ◌∙◌, ℕ, List, [], ◌++◌, length, take, min, arith, length-append, Option, Some, None, Ok, Err, option_map, sym, ap, subst}
use Rattle.std.proofs.lemmas.List.{append_assoc, append-nil, take_all}
use Rattle.std.proofs.KnownBytes.{Consumes-nil, Consumes-trans}
use Rattle.std.specs.Io.KnownBytes.{Consumes}
use Rattle.tip_line.specs.Reading.{Text, Reads, Leaves, Gives as ReaderGives, item_of, items_of}
use Rattle.tip_line.specs.declared.lines.Cause.{Cause}
use Rattle.tip_line.specs.declared.lines.Line.{Line as ALine}
use Rattle.tip_line.specs.declared.lines.Line.TheVariants as line
use Rattle.tip_line.proofs.GivenLines.{given_behind, fault_given, nothing_given}
use Rattle.tip_line.proofs.ReadingLemmas.{nothing_left}
use Rattle.tip_intake.specs.Intake.{Adds, Begins, Comes, GivesSame, HasNone, IsFault, Spends}
use Rattle.tip_intake.specs.declared.intake.Coming.TheVariants.{Line, Fault, End}
use Rattle.tip_intake.specs.declared.intake.InputEnd.{InputEnd}
use Rattle.tip_intake.specs.declared.intake.InputEnd.TheVariants.{AtEnd, ReadFault, NoReadsLeft}
use Rattle.tip_intake.specs.declared.intake.Intake.{Intake}

-- A reader of lines gives what its stream gives

pub fault_begins : (old new : List ℕ) (r : Option ALine) (cause : Cause) → ReaderGives old (option_map item_of r) new → r ≡ Some (line.Bad cause) → IsFault old cause × GivesSame old new
fault_begins old new r cause given is =
    let left = subst (λ s. ReaderGives old (option_map item_of s) new) is given in
    (fault_given old new r cause given is, λ more. sym (given_behind old [] new left.1 more))

pub nothing_begins : (old new : List ℕ) (r : Option ALine) → ReaderGives old (option_map item_of r) new → r ≡ None → Reads new [] × HasNone old new
nothing_begins old new r given is =
    let none = nothing_given old new r given is in
    let left = subst (λ s. ReaderGives old (option_map item_of s) new) is given in
    (nothing_left old new left.1 left.0, (ap items_of (sym (append-nil old)) ∙ none.0, none.1))

-- a whole piece is taken in where no line waits
pub offered : (old piece new : List ℕ) (count : ℕ) → Reads old [] → length piece ≤ 1024 → count ≤ length piece → (Reads old [] → min (length piece) 1024 ≤ count) → Leaves (old ++ take count piece) [] new → GivesSame (old ++ piece) new
offered old piece new count nothing short bound fits leaves more =
    let room = fits nothing in
    let all : take count piece ≡ piece = take_all count piece (omega arith) in
    sym (given_behind (old ++ piece) [] new (subst (λ p. Leaves (old ++ p) [] new) all leaves) more)

-- Reading on

-- what was read so far, by so many pieces, and what waits of it
pub record IsBehind (old : Intake) (lines : List ℕ) (reads_left : ℕ) (before now : Option (List ℕ)) : Type 0 where
  pub read : List ℕ
  pub consumed : Consumes before now read
  pub same : GivesSame (old.lines ++ read) lines
  pub pieces : ℕ
  pub at_least : pieces ≤ length read
  pub at_most : length read ≤ pieces * 1024
  pub reads : old.reads_left ≡ pieces + reads_left

pub nothing_read : (old : Intake) (before : Option (List ℕ)) → IsBehind old old.lines old.reads_left before before
nothing_read old before = record {
  read = [];
  consumed = Consumes-nil before;
  same = λ more. ap (λ l. items_of (l ++ more)) (sym (append-nil old.lines));
  pieces = 0;
  at_least = omega arith;
  at_most = omega arith;
  reads = omega arith;
}

pub read_on : (old : Intake) (lines taken new : List ℕ) (left less : ℕ) (before now after : Option (List ℕ)) → IsBehind old lines left before now → GivesSame lines taken → Adds taken new now after (Ok tt) → less + 1 ≡ left → IsBehind old new less before after
read_on old lines taken new left less before now after so same added spent =
    let length_read : length (so.read ++ added.0) ≡ length so.read + length added.0 = length-append so.read added.0 in
    let at_least = so.at_least in
    let at_most = so.at_most in
    let one = added.1 in
    let short = added.2 in
    let reads = so.reads in
    record {
      read = so.read ++ added.0;
      consumed = Consumes-trans before now after so.read added.0 so.consumed added.3;
      same = λ more.
          added.4 more
          ∙ ap items_of (append_assoc taken added.0 more)
          ∙ same (added.0 ++ more)
          ∙ so.same (added.0 ++ more)
          ∙ ap items_of (append_assoc old.lines so.read (added.0 ++ more) ∙ ap (λ l. old.lines ++ l) (sym (append_assoc so.read added.0 more)) ∙ sym (append_assoc old.lines (so.read ++ added.0) more));
      pieces = so.pieces + 1;
      at_least = omega (arith, length_read, at_least, one);
      at_most = omega (arith, length_read, at_most, short);
      reads = omega (arith, reads, spent);
    }

consumed_no_more : (before now after : Option (List ℕ)) (read : List ℕ) → Consumes before now read → Consumes now after [] → Consumes before after read
consumed_no_more before now after read some none = subst (Consumes before after) (append-nil read) (Consumes-trans before now after read [] some none)

-- What comes

pub comes_line : {T : Type 0} (IsHeard : List ℕ → T → Type 0) (old new : Intake) (lines text : List ℕ) (before now : Option (List ℕ)) (heard : T) → IsBehind old lines new.reads_left before now → IsHeard text heard → Begins lines (Text text) new.lines → Comes IsHeard old new before now (Line heard)
comes_line IsHeard old new lines text before now heard so is begins = record {
  read = so.read;
  consumed = so.consumed;
  gives = (text, is, λ more. sym (so.same more) ∙ begins more);
  pieces = so.pieces;
  at_least = so.at_least;
  at_most = so.at_most;
  reads = so.reads;
}

pub comes_fault : {T : Type 0} (IsHeard : List ℕ → T → Type 0) (old new : Intake) (lines : List ℕ) (before now : Option (List ℕ)) (cause : Cause) → IsBehind old lines new.reads_left before now → IsFault lines cause × GivesSame lines new.lines → Comes IsHeard old new before now (Fault cause)
comes_fault IsHeard old new lines before now cause so fault = record {
  read = so.read;
  consumed = so.consumed;
  gives = (λ more. sym (so.same more) ∙ fault.0 more, λ more. fault.1 more ∙ so.same more);
  pieces = so.pieces;
  at_least = so.at_least;
  at_most = so.at_most;
  reads = so.reads;
}

-- where none of these lines has come whole, none of what was read has
none_read : (old : Intake) (lines taken : List ℕ) (left : ℕ) (before now : Option (List ℕ)) (so : IsBehind old lines left before now) → HasNone lines taken → HasNone (old.lines ++ so.read) taken
none_read old lines taken left before now so none =
    (ap items_of (sym (append-nil (old.lines ++ so.read))) ∙ sym (so.same []) ∙ ap items_of (append-nil lines) ∙ none.0, λ more. none.1 more ∙ so.same more)

pub comes_end : {T : Type 0} (IsHeard : List ℕ → T → Type 0) (old new : Intake) (lines taken : List ℕ) (left : ℕ) (before now after : Option (List ℕ)) (end : InputEnd) → IsBehind old lines left before now → HasNone lines taken → Adds taken new.lines now after (Err end) → Spends left new.reads_left (Err end) → Comes IsHeard old new before after (End end)
comes_end IsHeard old new lines taken left before now after AtEnd so none adds spent =
    let reads = so.reads in
    record {
      read = so.read;
      consumed = consumed_no_more before now after so.read so.consumed adds.0;
      gives = (subst (HasNone (old.lines ++ so.read)) (sym adds.1) (none_read old lines taken left before now so none), adds.2);
      pieces = so.pieces;
      at_least = so.at_least;
      at_most = so.at_most;
      reads = omega (arith, reads, spent);
    }
comes_end IsHeard old new lines taken left before now after ReadFault so none adds spent =
    let reads = so.reads in
    record {
      read = so.read;
      consumed = consumed_no_more before now after so.read so.consumed adds.0;
      gives = subst (HasNone (old.lines ++ so.read)) (sym adds.1) (none_read old lines taken left before now so none);
      pieces = so.pieces;
      at_least = so.at_least;
      at_most = so.at_most;
      reads = omega (arith, reads, spent);
    }
comes_end IsHeard old new lines taken left before now after NoReadsLeft so none adds spent =
    let reads = so.reads in
    let was = spent.1 in
    record {
      read = so.read;
      consumed = consumed_no_more before now after so.read so.consumed adds.0;
      gives = subst (HasNone (old.lines ++ so.read)) (sym adds.1) (none_read old lines taken left before now so none);
      pieces = so.pieces;
      at_least = so.at_least;
      at_most = so.at_most;
      reads = (spent.0, omega (arith, reads, was));
    }
