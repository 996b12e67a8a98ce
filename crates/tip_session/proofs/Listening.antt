-- What was handed in of what was read, and what waits of it.
use Rattle.std.proofs.Common.{◌≡◌, ◌≤◌, ◌+◌, ◌*◌, ◌∙◌, ℕ, Bool, true, false, List, [], ◌∷◌, ◌++◌, map, length, length-append, if◌then◌else◌, arith, Option, Some, None, refl, sym, ap, subst}
use Rattle.std.proofs.lemmas.List.{append_assoc, append-nil, length-map}
use Rattle.std.proofs.KnownBytes.{Consumes-nil, Consumes-trans}
use Rattle.std.specs.Io.KnownBytes.{Consumes}
use Rattle.std.specs.List.{list_all}
use Rattle.tip_line.specs.Octets.{is_end, is_space, text_of}
use Rattle.tip_line.specs.Reading.{Item, Text, cause_of, items_from, items_of, said, unless}
use Rattle.tip_line.specs.declared.lines.Cause.{Cause}
use Rattle.tip_intake.specs.Intake.{Comes}
use Rattle.tip_intake.specs.declared.intake.Coming.TheVariants as coming
use Rattle.tip_intake.specs.declared.intake.InputEnd.{InputEnd}
use Rattle.tip_intake.specs.declared.intake.InputEnd.TheVariants as input
use Rattle.tip_intake.specs.declared.intake.Intake.{Intake}
use Rattle.tip_machine.specs.Events.{heard_of}
use Rattle.tip_machine.specs.declared.event.Heard.{Heard}
use Rattle.tip_machine.specs.declared.event.Heard.TheVariants.{Malformed}
use Rattle.tip_session.specs.Sessions.{HandsIn, IsAll, IsEarly, IsFront, heard_in, says}
use Rattle.tip_session.specs.declared.ended.Ended.{Ended}
use Rattle.tip_session.specs.declared.ended.Ended.TheVariants as ended

-- A stream gives no more items than it has octets

said_short : (blank : Bool) (text : List ℕ) → length (if blank then [] else Text text ∷ []) ≤ 1
said_short true text = omega arith
said_short false text = omega arith

unless_short : (cause : Option Cause) (items : List Item) (count : ℕ) → length items ≤ count → length (unless cause items) ≤ count + 1
unless_short None items count short = omega (arith, short)
unless_short (Some cause) items count short = omega (arith, short)

octet_short : (is_last : Bool) (first rest open_yet : List Item) (count : ℕ) → length first ≤ 1 → length rest ≤ count → length open_yet ≤ count + 1 → length (if is_last then first ++ rest else open_yet) ≤ count + 1
octet_short true first rest open_yet count one short also = let both = length-append first rest in omega (arith, one, short, both)
octet_short false first rest open_yet count one short also = also

items_short : (line octets : List ℕ) → length (items_from line octets) ≤ length octets
items_short line [] = omega arith
items_short line (octet ∷ rest) =
    let short : length (items_from line (octet ∷ rest)) ≤ length rest + 1 = octet_short (is_end octet) (said line) (items_from [] rest) (unless (cause_of (length line) octet) (items_from (line ++ octet ∷ []) rest)) (length rest) (said_short (list_all is_space line) (text_of line)) (items_short [] rest) (unless_short (cause_of (length line) octet) (items_from (line ++ octet ∷ []) rest) (length rest) (items_short (line ++ octet ∷ []) rest)) in
    omega (arith, short)

says_short : (octets : List ℕ) → length (says octets) ≤ length octets
says_short octets = let short = items_short [] octets in let same = length-map (items_of octets) heard_in in omega (arith, short, same)

-- Reading on

-- so many lines were handed in of what was read so far, by these turns and those that are left, and the lines still say the rest
pub record IsBehind (turns count left : ℕ) (old taken : List Heard) (lines : List ℕ) (before now : Option (List ℕ)) : Type 0 where
  pub read : List ℕ
  pub consumed : Consumes before now read
  pub handed : List Heard
  pub gained : taken ≡ old ++ handed
  pub many : length handed ≡ count
  pub same : (more : List ℕ) → says (read ++ more) ≡ handed ++ says (lines ++ more)
  pub reads : turns ≤ length read + left
  pub most : length read + left * 1024 ≤ turns * 1024

pub nothing_read : (turns : ℕ) (old : List Heard) (before : Option (List ℕ)) → IsBehind turns 0 turns old old [] before before
nothing_read turns old before = record { read = []; consumed = Consumes-nil before; handed = []; gained = sym (append-nil old); many = refl; same = λ more. refl; reads = omega arith; most = omega arith }

-- octets are read behind the lines that wait
read_on : (turns count left less : ℕ) (old taken : List Heard) (lines read : List ℕ) (before now after : Option (List ℕ)) → IsBehind turns count left old taken lines before now → Consumes now after read → left ≤ length read + less → length read + less * 1024 ≤ left * 1024 → IsBehind turns count less old taken (lines ++ read) before after
read_on turns count left less old taken lines read before now after so more spent within = record {
  read = so.read ++ read;
  consumed = Consumes-trans before now after so.read read so.consumed more;
  handed = so.handed;
  gained = so.gained;
  many = so.many;
  same = λ later. ap says (append_assoc so.read read later) ∙ so.same (read ++ later) ∙ ap (λ l. so.handed ++ says l) (sym (append_assoc lines read later));
  reads = let both = length-append so.read read in let reads = so.reads in omega (arith, both, reads, spent);
  most = let both = length-append so.read read in let most = so.most in omega (arith, both, most, within);
}

line_taken : (turns count left : ℕ) (old taken after : List Heard) (lines new : List ℕ) (heard : Heard) (before now : Option (List ℕ)) → IsBehind turns count left old taken lines before now → ((more : List ℕ) → says (lines ++ more) ≡ heard ∷ says (new ++ more)) → after ≡ taken ++ heard ∷ [] → IsBehind turns (count + 1) left old after new before now
line_taken turns count left old taken after lines new heard before now so comes gained = record {
  read = so.read;
  consumed = so.consumed;
  handed = so.handed ++ heard ∷ [];
  gained = gained ∙ ap (λ t. t ++ heard ∷ []) so.gained ∙ append_assoc old so.handed (heard ∷ []);
  many = let both = length-append so.handed (heard ∷ []) in let many = so.many in omega (arith, both, many);
  same = λ more. so.same more ∙ ap (λ s. so.handed ++ s) (comes more) ∙ sym (append_assoc so.handed (heard ∷ []) (says (new ++ more)));
  reads = so.reads;
  most = so.most;
}

-- What comes next

-- what was read and waits, once something came
behind_line : {T : Type 0} (IsHeard : List ℕ → T → Type 0) (turns count : ℕ) (old taken : List Heard) (i j : Intake) (before now after : Option (List ℕ)) (heard : T) → IsBehind turns count i.reads_left old taken i.lines before now → (comes : Comes IsHeard i j now after (coming.Line heard)) → IsBehind turns count j.reads_left old taken (i.lines ++ comes.read) before after
behind_line IsHeard turns count old taken i j before now after heard so comes =
    read_on turns count i.reads_left j.reads_left old taken i.lines comes.read before now after so comes.consumed (let least = comes.at_least in let reads = comes.reads in omega (arith, least, reads)) (let at_most = comes.at_most in let reads = comes.reads in omega (arith, at_most, reads))

says_line : {T : Type 0} (IsHeard : List ℕ → T → Type 0) (i j : Intake) (now after : Option (List ℕ)) (made : T) (heard : Heard) → (comes : Comes IsHeard i j now after (coming.Line made)) → ((text : List ℕ) → IsHeard text made → heard ≡ heard_of text) → (more : List ℕ) → says ((i.lines ++ comes.read) ++ more) ≡ heard ∷ says (j.lines ++ more)
says_line IsHeard i j now after made heard comes is more = ap (map heard_in) (comes.gives.2 more) ∙ ap (λ h. h ∷ says (j.lines ++ more)) (sym (is comes.gives.0 comes.gives.1))

-- a line came, and was handed in
pub line_on : {T : Type 0} (IsHeard : List ℕ → T → Type 0) (turns count : ℕ) (old taken gained : List Heard) (i j : Intake) (before now after : Option (List ℕ)) (made : T) (heard : Heard) → IsBehind turns count i.reads_left old taken i.lines before now → Comes IsHeard i j now after (coming.Line made) → ((text : List ℕ) → IsHeard text made → heard ≡ heard_of text) → gained ≡ taken ++ heard ∷ [] → IsBehind turns (count + 1) j.reads_left old gained j.lines before after
line_on IsHeard turns count old taken gained i j before now after made heard so comes is more =
    line_taken turns count j.reads_left old taken gained (i.lines ++ comes.read) j.lines heard before after (behind_line IsHeard turns count old taken i j before now after made so comes) (says_line IsHeard i j now after made heard comes is) more

early_is_all : (end : Ended) (turns : ℕ) (read : List ℕ) (old new : List Heard) (after : Option (List ℕ)) → IsEarly end → IsAll end turns read old new after
early_is_all ended.AtEnd turns read old new after early = absurd early
early_is_all ended.Spoilt turns read old new after early = absurd early
early_is_all ended.Refused turns read old new after early = tt
early_is_all ended.ReadFault turns read old new after early = tt
early_is_all ended.TurnLimit turns read old new after early = absurd early
early_is_all ended.Gone turns read old new after early = tt
early_is_all (ended.Failed fault) turns read old new after early = tt
early_is_all ended.NoMemory turns read old new after early = tt
early_is_all ended.Endless turns read old new after early = tt

-- the session ends as a line is handed in
pub ends_there : (end : Ended) (turns count left : ℕ) (old taken new : List Heard) (lines : List ℕ) (heard : Heard) (before now : Option (List ℕ)) → IsBehind turns count left old taken lines before now → ((more : List ℕ) → (rest : List Heard) × (says (lines ++ more) ≡ heard ∷ rest)) → IsFront (heard ∷ []) taken new → IsEarly end → HandsIn end turns old new before now
ends_there end turns count left old taken new lines heard before now so comes gains early = record {
  read = so.read;
  consumed = so.consumed;
  front = λ more.
      let rest = comes more in (
        so.handed ++ gains.0,
        gains.1 ++ rest.0,
        so.same more ∙ ap (λ s. so.handed ++ s) (rest.1 ∙ ap (λ s. s ++ rest.0) gains.2 ∙ append_assoc gains.0 gains.1 rest.0) ∙ sym (append_assoc so.handed gains.0 (gains.1 ++ rest.0)),
        gains.3 ∙ ap (λ t. t ++ gains.0) so.gained ∙ append_assoc old so.handed gains.0,
      );
  all = early_is_all end turns so.read old new now early;
  bound = let most = so.most in omega (arith, most);
}

pub ends_at_line : {T : Type 0} (IsHeard : List ℕ → T → Type 0) (end : Ended) (turns count : ℕ) (old taken new : List Heard) (i j : Intake) (before now after : Option (List ℕ)) (made : T) (heard : Heard) → IsBehind turns count i.reads_left old taken i.lines before now → Comes IsHeard i j now after (coming.Line made) → ((text : List ℕ) → IsHeard text made → heard ≡ heard_of text) → IsFront (heard ∷ []) taken new → IsEarly end → HandsIn end turns old new before after
ends_at_line IsHeard end turns count old taken new i j before now after made heard so comes is gains early =
    ends_there end turns count j.reads_left old taken new (i.lines ++ comes.read) heard before after (behind_line IsHeard turns count old taken i j before now after made so comes) (λ more. (_, says_line IsHeard i j now after made heard comes is more)) gains early

-- the session ends where no line is handed in
ends_here : (end : Ended) (turns count left : ℕ) (old taken : List Heard) (lines : List ℕ) (before now : Option (List ℕ)) → (so : IsBehind turns count left old taken lines before now) → IsAll end turns so.read old taken now → HandsIn end turns old taken before now
ends_here end turns count left old taken lines before now so all = record {
  read = so.read;
  consumed = so.consumed;
  front = λ more. (so.handed, says (lines ++ more), so.same more, so.gained);
  all = all;
  bound = let most = so.most in omega (arith, most);
}

-- there was no memory for the reader of lines
pub ends_first : (turns : ℕ) (old : List Heard) (before : Option (List ℕ)) → HandsIn ended.NoMemory turns old old before before
ends_first turns old before = ends_here ended.NoMemory turns 0 turns old old [] before before (nothing_read turns old before) tt

-- there was none for a line
pub ends_without_memory : {T : Type 0} (IsHeard : List ℕ → T → Type 0) (turns count : ℕ) (old taken : List Heard) (i j : Intake) (before now after : Option (List ℕ)) (made : T) → IsBehind turns count i.reads_left old taken i.lines before now → Comes IsHeard i j now after (coming.Line made) → HandsIn ended.NoMemory turns old taken before after
ends_without_memory IsHeard turns count old taken i j before now after made so comes =
    ends_here ended.NoMemory turns count j.reads_left old taken (i.lines ++ comes.read) before after (behind_line IsHeard turns count old taken i j before now after made so comes) tt

-- what was read where the input ended or the read failed: that read gave nothing
behind_end : {T : Type 0} (IsHeard : List ℕ → T → Type 0) (turns count : ℕ) (old taken : List Heard) (i j : Intake) (before now after : Option (List ℕ)) (end : InputEnd) → IsBehind turns count i.reads_left old taken i.lines before now → (comes : Comes IsHeard i j now after (coming.End end)) → i.reads_left ≡ comes.pieces + j.reads_left + 1 → IsBehind turns count (j.reads_left + 1) old taken (i.lines ++ comes.read) before after
behind_end IsHeard turns count old taken i j before now after end so comes reads =
    read_on turns count i.reads_left (j.reads_left + 1) old taken i.lines comes.read before now after so comes.consumed (let least = comes.at_least in omega (arith, least, reads)) (let at_most = comes.at_most in omega (arith, at_most, reads))

pub ends_at_end : {T : Type 0} (IsHeard : List ℕ → T → Type 0) (turns count : ℕ) (old taken : List Heard) (i j : Intake) (before now after : Option (List ℕ)) → IsBehind turns count i.reads_left old taken i.lines before now → Comes IsHeard i j now after (coming.End input.AtEnd) → HandsIn ended.AtEnd turns old taken before after
ends_at_end IsHeard turns count old taken i j before now after so comes =
    let lines = i.lines ++ comes.read in
    let on = behind_end IsHeard turns count old taken i j before now after input.AtEnd so comes comes.reads in
    let nothing : says lines ≡ [] = ap (map heard_in) comes.gives.0.0 in
    ends_here ended.AtEnd turns count (j.reads_left + 1) old taken lines before after on
    (on.gained ∙ ap (λ s. old ++ s) (sym (append-nil on.handed) ∙ ap (λ s. on.handed ++ s) (sym nothing ∙ ap says (sym (append-nil lines))) ∙ sym (on.same []) ∙ ap says (append-nil on.read)), comes.gives.1)

pub ends_at_fault : {T : Type 0} (IsHeard : List ℕ → T → Type 0) (turns count : ℕ) (old taken : List Heard) (i j : Intake) (before now after : Option (List ℕ)) → IsBehind turns count i.reads_left old taken i.lines before now → Comes IsHeard i j now after (coming.End input.ReadFault) → HandsIn ended.ReadFault turns old taken before after
ends_at_fault IsHeard turns count old taken i j before now after so comes =
    ends_here ended.ReadFault turns count (j.reads_left + 1) old taken (i.lines ++ comes.read) before after (behind_end IsHeard turns count old taken i j before now after input.ReadFault so comes comes.reads) tt

pub ends_at_limit : {T : Type 0} (IsHeard : List ℕ → T → Type 0) (turns count : ℕ) (old taken : List Heard) (i j : Intake) (before now after : Option (List ℕ)) → IsBehind turns count i.reads_left old taken i.lines before now → Comes IsHeard i j now after (coming.End input.NoReadsLeft) → HandsIn ended.TurnLimit turns old taken before after
ends_at_limit IsHeard turns count old taken i j before now after so comes =
    let reads = comes.reads.1 in
    let on : IsBehind turns count 0 old taken (i.lines ++ comes.read) before after =
    read_on turns count i.reads_left 0 old taken i.lines comes.read before now after so comes.consumed (let least = comes.at_least in omega (arith, reads, least)) (let at_most = comes.at_most in omega (arith, reads, at_most)) in
    ends_here ended.TurnLimit turns count 0 old taken (i.lines ++ comes.read) before after on (let all = on.reads in omega (arith, all))

-- more lines were handed in than there may be reads
pub ends_counting : (turns count left : ℕ) (old taken : List Heard) (lines : List ℕ) (before now : Option (List ℕ)) → IsBehind turns count left old taken lines before now → turns ≤ count → HandsIn ended.TurnLimit turns old taken before now
ends_counting turns count left old taken lines before now so within =
    let says_all : says so.read ≡ so.handed ++ says (lines ++ []) = ap says (sym (append-nil so.read)) ∙ so.same [] in
    let short : length (says so.read) ≤ length so.read = says_short so.read in
    let split : length (says so.read) ≡ length so.handed + length (says (lines ++ [])) = ap length says_all ∙ length-append so.handed (says (lines ++ [])) in
    let many = so.many in
    ends_here ended.TurnLimit turns count left old taken lines before now so (omega (arith, short, split, many, within))

-- the stream's last item is a fault, which was handed in
pub ends_spoilt : (end : Ended) (turns count left : ℕ) (old taken new : List Heard) (lines : List ℕ) (before now : Option (List ℕ)) → IsBehind turns count left old taken lines before now → ((more : List ℕ) → says (lines ++ more) ≡ Malformed ∷ []) → new ≡ taken ++ Malformed ∷ [] → end ≡ ended.Spoilt → HandsIn end turns old new before now
ends_spoilt end turns count left old taken new lines before now so comes gains is =
    let gained : new ≡ old ++ (so.handed ++ Malformed ∷ []) = gains ∙ ap (λ t. t ++ Malformed ∷ []) so.gained ∙ append_assoc old so.handed (Malformed ∷ []) in
    let same : (more : List ℕ) → says (so.read ++ more) ≡ so.handed ++ Malformed ∷ [] = λ more. so.same more ∙ ap (λ s. so.handed ++ s) (comes more) in
    subst (λ e. HandsIn e turns old new before now) (sym is) (record {
      read = so.read;
      consumed = so.consumed;
      front = λ more. (so.handed ++ Malformed ∷ [], [], same more ∙ sym (append-nil (so.handed ++ Malformed ∷ [])), gained);
      all = λ more. gained ∙ ap (λ s. old ++ s) (sym (same more));
      bound = let most = so.most in omega (arith, most);
    })

-- what was read where a fault came
pub behind_fault : {T : Type 0} (IsHeard : List ℕ → T → Type 0) (turns count : ℕ) (old taken : List Heard) (i j : Intake) (before now after : Option (List ℕ)) (cause : Cause) → IsBehind turns count i.reads_left old taken i.lines before now → (comes : Comes IsHeard i j now after (coming.Fault cause)) → IsBehind turns count j.reads_left old taken (i.lines ++ comes.read) before after × ((more : List ℕ) → says ((i.lines ++ comes.read) ++ more) ≡ Malformed ∷ [])
behind_fault IsHeard turns count old taken i j before now after cause so comes =
    (read_on turns count i.reads_left j.reads_left old taken i.lines comes.read before now after so comes.consumed (let least = comes.at_least in let reads = comes.reads in omega (arith, least, reads)) (let at_most = comes.at_most in let reads = comes.reads in omega (arith, at_most, reads)), λ more. ap (map heard_in) (comes.gives.0 more))

-- of what a reader tells that it has, a front was handed in
pub front_of_all : (end : Ended) (turns : ℕ) (octets : List ℕ) (old new : List Heard) (after : Option (List ℕ)) → HandsIn end turns old new (Some octets) after → IsFront (says octets) old new
front_of_all end turns octets old new None hands = absurd hands.consumed
front_of_all end turns octets old new (Some rest) hands = subst (λ o. IsFront (says o) old new) (sym hands.consumed) (hands.front rest)
