-- What a writer wrote so far.
use Rattle.std.proofs.Common.{◌≡◌, ◌∙◌, ℕ, true, false, List, [], ◌∷◌, ◌++◌, Option, refl, sym, ap, subst, inl, inr}
use Rattle.std.proofs.lemmas.List.{append_assoc, append-nil}
use Rattle.std.proofs.KnownBytes.{Appends-nil, Appends-trans}
use Rattle.std.specs.Io.KnownBytes.{Appends}
use Rattle.tip_machine.specs.declared.answer.Item.{Item}
use Rattle.tip_machine.specs.declared.answer.Item.TheVariants.{Say, Ask, Close}
use Rattle.tip_writing.specs.Fronts.{IsFrontOf}
use Rattle.tip_session.specs.Desks.{Gave, Seen, giving, halting, told}
use Rattle.tip_session.specs.declared.desk.Outgoing.{Outgoing}
use Rattle.tip_session.specs.Written.{Wrote, WritesOut, has_close, is_close, item_line, written_of}
use Rattle.tip_session.specs.declared.session_end.SessionEnd.TheVariants as session
use Rattle.tip_session.specs.declared.desk.Outgoing.TheVariants as out

close_last : (items : List Item) (item : Item) → has_close items ≡ false → is_close item ≡ false → has_close (items ++ item ∷ []) ≡ false
close_last [] (Say said) none line = refl
close_last [] (Ask asked) none line = refl
close_last [] Close none line = line
close_last (Say said ∷ items) item none line = close_last items item none line
close_last (Ask asked ∷ items) item none line = close_last items item none line
close_last (Close ∷ items) item none line = none

written_last : (realm : List ℕ) (items : List Item) (item : Item) → written_of realm (items ++ item ∷ []) ≡ written_of realm items ++ item_line realm item
written_last realm [] item = append-nil (item_line realm item)
written_last realm (x ∷ items) item = ap (λ l. item_line realm x ++ l) (written_last realm items item) ∙ sym (append_assoc (item_line realm x) (written_of realm items) (item_line realm item))

gave_last : {D : Type 0} (gives : D → Outgoing → D → Type 0) (d e f : D) (items : List Item) (item : Item) → Gave gives d items e → gives e (out.Next item) f → Gave gives d (items ++ item ∷ []) f
gave_last gives d e f [] item gave last = (f, subst (λ x. gives x (out.Next item) f) (sym gave) last, refl)
gave_last gives d e f (x ∷ items) item gave last = (gave.0, gave.1, gave_last gives gave.0 e f items item gave.2 last)

pub wrote_nothing : {D : Type 0} (gives : D → Outgoing → D → Type 0) (seen : D → Seen) (realm : List ℕ) (d : D) (old : Option (List ℕ)) → Wrote gives seen realm d d old old
wrote_nothing gives seen realm d old = record { items = []; gave = refl; lines = refl; text = Appends-nil old; still = refl }

pub wrote_on : {D : Type 0} (gives : D → Outgoing → D → Type 0) (seen : D → Seen) (realm : List ℕ) (d e f : D) (old mid new : Option (List ℕ)) (item : Item) → Wrote gives seen realm d e old mid → seen f ≡ giving (seen e) (out.Next item) → gives e (out.Next item) f → (is_close item ≡ false) × Appends mid new (item_line realm item) → Wrote gives seen realm d f old new
wrote_on gives seen realm d e f old mid new item wrote is last line = record {
  items = wrote.items ++ item ∷ [];
  gave = gave_last gives d e f wrote.items item wrote.gave last;
  lines = close_last wrote.items item wrote.lines line.0;
  text = subst (Appends old new) (sym (written_last realm wrote.items item)) (Appends-trans old mid new (written_of realm wrote.items) (item_line realm item) wrote.text line.1);
  still = is ∙ wrote.still;
}

pub writes_gone : {D : Type 0} (gives : D → Outgoing → D → Type 0) (seen : D → Seen) (realm : List ℕ) (d e f : D) (old new : Option (List ℕ)) → Wrote gives seen realm d e old new → seen f ≡ giving (seen e) out.Gone → gives e out.Gone f → WritesOut gives seen realm d f old new session.PeerClosed
writes_gone gives seen realm d e f old new wrote is last = record {
  items = wrote.items;
  before_last = e;
  after_last = f;
  gave = wrote.gave;
  lines = wrote.lines;
  ends = (wrote.text, inl (last, is ∙ ap (λ (s : Seen). told s (record s.given { gone = true })) wrote.still));
}

pub writes_stopped : {D : Type 0} (gives : D → Outgoing → D → Type 0) (seen : D → Seen) (realm : List ℕ) (d e f : D) (old new : Option (List ℕ)) → Wrote gives seen realm d e old new → seen f ≡ giving (seen e) out.Stopped → gives e out.Stopped f → WritesOut gives seen realm d f old new session.HostStopped
writes_stopped gives seen realm d e f old new wrote is last = record {
  items = wrote.items;
  before_last = e;
  after_last = f;
  gave = wrote.gave;
  lines = wrote.lines;
  ends = (wrote.text, inl (last, is ∙ ap (λ (s : Seen). told s (record s.given { stopped = true })) wrote.still));
}

pub writes_halted : {D : Type 0} (gives : D → Outgoing → D → Type 0) (seen : D → Seen) (realm : List ℕ) (d e f : D) (old new : Option (List ℕ)) → Wrote gives seen realm d e old new → seen f ≡ halting (seen e) → WritesOut gives seen realm d f old new session.HostStopped
writes_halted gives seen realm d e f old new wrote is = record {
  items = wrote.items;
  before_last = e;
  after_last = f;
  gave = wrote.gave;
  lines = wrote.lines;
  ends = (wrote.text, inr (is ∙ ap halting wrote.still));
}

pub writes_close : {D : Type 0} (gives : D → Outgoing → D → Type 0) (seen : D → Seen) (realm : List ℕ) (d e f : D) (old mid new : Option (List ℕ)) (item : Item) → Wrote gives seen realm d e old mid → seen f ≡ giving (seen e) (out.Next item) → gives e (out.Next item) f → (item ≡ Close) × Appends mid new [] → WritesOut gives seen realm d f old new session.PeerClosed
writes_close gives seen realm d e f old mid new item wrote is last close = record {
  items = wrote.items;
  before_last = e;
  after_last = f;
  gave = wrote.gave;
  lines = wrote.lines;
  ends = (subst (Appends old new) (append-nil (written_of realm wrote.items)) (Appends-trans old mid new (written_of realm wrote.items) [] wrote.text close.1), inr (subst (λ i. gives e (out.Next i) f) close.0 last, is ∙ wrote.still));
}

front_on : (text line : List ℕ) (old mid new : Option (List ℕ)) → Appends old mid text → IsFrontOf line mid new → IsFrontOf (text ++ line) old new
front_on text line old mid new wrote front = record {
  front = text ++ front.front;
  later = front.later;
  whole = ap (λ l. text ++ l) front.whole ∙ sym (append_assoc text front.front front.later);
  written = Appends-trans old mid new text front.front wrote front.written;
}

pub writes_fault : {D : Type 0} (gives : D → Outgoing → D → Type 0) (seen : D → Seen) (realm : List ℕ) (d e f : D) (old mid new : Option (List ℕ)) (item : Item) → Wrote gives seen realm d e old mid → seen f ≡ giving (seen e) (out.Next item) → gives e (out.Next item) f → (is_close item ≡ false) × IsFrontOf (item_line realm item) mid new → WritesOut gives seen realm d f old new session.WriteFault
writes_fault gives seen realm d e f old mid new item wrote is last front = record {
  items = wrote.items;
  before_last = e;
  after_last = f;
  gave = wrote.gave;
  lines = wrote.lines;
  ends = (item, last, front.0, is ∙ wrote.still, subst (λ l. IsFrontOf l old new) (sym (written_last realm wrote.items item)) (front_on (written_of realm wrote.items) (item_line realm item) old mid new wrote.text front.1));
}

pub writes_memory : {D : Type 0} (gives : D → Outgoing → D → Type 0) (seen : D → Seen) (realm : List ℕ) (d e f h : D) (old mid new : Option (List ℕ)) (item : Item) → Wrote gives seen realm d e old mid → seen f ≡ giving (seen e) (out.Next item) → gives e (out.Next item) f → seen h ≡ halting (seen f) → (is_close item ≡ false) × Appends mid new [] → WritesOut gives seen realm d h old new session.Memory
writes_memory gives seen realm d e f h old mid new item wrote is last halt line = record {
  items = wrote.items;
  before_last = e;
  after_last = f;
  gave = wrote.gave;
  lines = wrote.lines;
  ends = (item, last, line.0, halt ∙ ap halting (is ∙ wrote.still), subst (Appends old new) (append-nil (written_of realm wrote.items)) (Appends-trans old mid new (written_of realm wrote.items) [] wrote.text line.1));
}
