-- One realm that starts again while the others run.
use Rattle.std.proofs.Common.{◌≡◌, ◌≢◌, ◌+◌, ◌++◌, if◌then◌else◌, ◌==◌, ℕ, Bool, true, false, List, [], Option, Some, None, append-nil, append_assoc, map, refl, sym, ap, subst, ◌∙◌}
use Rattle.std.specs.Prelude.{Err, IsTrue, Ok, OnOk, Result}
use Rattle.std.specs.List.{flat_map}
use Rattle.std.specs.Option.{option_and_then}
use Rattle.std.specs.Str.{bytes_eq}
use Rattle.std.proofs.lemmas.Option.{none-some, same_Some}
use Rattle.tip_branch.specs.declared.branch.Badge.{Badge}
use Rattle.tip_core.specs.Hosted.{HaveNames, realm}
use Rattle.tip_stored.proofs.Parts.{renewed_known, renewed_others, renewed_part, rises}
use Rattle.tip_stored.specs.Loading.{IsRead}
use Rattle.tip_stored.specs.Renewing.{IsRenewed}
use Rattle.tip_machine.proofs.Storing.{same_rows}
use Rattle.tip_machine.specs.Moves as Moves
use Rattle.tip_machine.specs.Recovery.{restarted}
use Rattle.tip_machine.specs.Types.{Transaction}
use Rattle.tip_machine.specs.declared.head.Head.{Head}
use Rattle.tip_recovery.specs.Adopting.{Recovery, Unfinished, adopted_all, loaded, unadopted}
use Rattle.tip_rows.specs.Keys.{Key}
use Rattle.tip_rows.specs.Logs.{Keeping, IsPart, IsSpent, Log, last_epoch, with_raised}
use Rattle.tip_rows.specs.declared.row.Row.{Row}
use Rattle.tip_transcript.specs.Printing.{refusal_text, shown_text, start_text}
use Rattle.tip_line.specs.declared.refusal.Refusal.TheVariants.{EpochEnd, Refused}
use Rattle.tip_actor.proofs.Doing.{leaves_on, stays}
use Rattle.tip_actor.proofs.Leaving.{left_here, shown_each}
use Rattle.tip_actor.proofs.Serving.{itself}
use Rattle.tip_actor.specs.Acting.{Acting, boxes_in, renewed, renews, willing_boxes}
use Rattle.tip_actor.specs.Halting.{AllStay, Halts, around}
use Rattle.tip_actor.specs.Standing.{Actor, AreReadings, StoredCore, IsActing, IsDone, IsStored, Leaves}
use Rattle.tip_scene.proofs.Again.{boxes_of_rows, boxes_unadopted, loads_same}
use Rattle.tip_scene.proofs.Begun.{row_text, said_all}
use Rattle.tip_scene.specs.Rising.{IsWilling, willing_rows}

-- Rows that were read

-- what is read of a realm is what the script says of it
pub read_rows : (log : Log) (name : List ℕ) (epoch : ℕ) (rows : List (Key × Row)) (recovery : Recovery) → IsPart log name epoch rows → IsRead log name recovery → recovery.rows ≡ map (unadopted name) rows
read_rows log name epoch rows recovery part read = read.unadopted ∙ ap (map (unadopted name)) (same_rows read.rows rows read.part.rising part.rising (λ key. read.part.same key ∙ sym (part.same key)))

-- the rows have willing boxes
pub has_willing : (acting : Acting) (name : List ℕ) (old new : List Unfinished) (lots : List (List Badge)) → name ≡ acting.name → old ≡ map (unadopted name) acting.world.rows → lots ≡ map (λ row. willing_boxes row.row) old → new ≡ adopted_all lots old → new ≡ willing_rows acting
has_willing acting name old new lots named old_is lots_are adopted =
    let own : old ≡ map (unadopted acting.name) acting.world.rows = old_is ∙ ap (λ n. map (unadopted n) acting.world.rows) named in
    adopted ∙ ap (λ b. adopted_all b old) (lots_are ∙ ap (map (λ (row : Unfinished). willing_boxes row.row)) own ∙ boxes_unadopted acting.name acting.world.rows) ∙ ap (adopted_all (boxes_of_rows acting.world.rows)) own

-- What is printed

pub three : (old a b c one two new : List ℕ) → one ≡ old ++ a → two ≡ one ++ b → new ≡ two ++ c → new ≡ old ++ (a ++ (b ++ c))
three old a b c one two new first second third = third ∙ ap (λ t. t ++ c) second ∙ ap (λ t. (t ++ b) ++ c) first ∙ append_assoc (old ++ a) b c ∙ append_assoc old a (b ++ c)

pub said_anew : (acting : Acting) (name : List ℕ) (epoch : ℕ) (rows : List Unfinished) → name ≡ acting.name → acting.due ≡ false → epoch ≡ acting.world.state.head.epoch + 1 → rows ≡ willing_rows acting →
    left_here name acting.world.state.transactions ++ (start_text name epoch ++ flat_map (row_text name) rows) ≡ (renewed acting.due acting).printed
said_anew acting name epoch rows named due epoch_is rows_are =
    ap (λ n. left_here n acting.world.state.transactions ++ (start_text n epoch ++ flat_map (row_text n) rows)) named
    ∙ ap (λ text. text ++ (start_text acting.name epoch ++ flat_map (row_text acting.name) rows)) (shown_each acting.name (λ (transaction : Transaction). Moves.drops_at transaction.place) acting.world.state.transactions)
    ∙ ap (λ e. shown_text acting.name (Moves.drops_here acting.world.state) ++ (start_text acting.name e ++ flat_map (row_text acting.name) rows)) epoch_is
    ∙ ap (λ r. shown_text acting.name (Moves.drops_here acting.world.state) ++ (start_text acting.name (acting.world.state.head.epoch + 1) ++ flat_map (row_text acting.name) r)) rows_are
    ∙ ap (λ text. shown_text acting.name (Moves.drops_here acting.world.state) ++ (start_text acting.name (acting.world.state.head.epoch + 1) ++ text)) (said_all acting.name (boxes_of_rows acting.world.rows) acting.world.rows)
    ∙ sym (ap (λ b. (renewed b acting).printed) due)

-- The realm afterwards

pub not_due : (b : Bool) → (IsTrue b → ⊥) → b ≡ false
not_due true never = absurd (never refl)
not_due false never = refl

module _ {S : Type 0} (kept : Keeping S) (stored_core new : StoredCore S) (place : ℕ) (actor actor' : Actor) (acting : Acting) (is : IsActing kept stored_core place actor acting) where
  own_name : actor.name ≡ acting.world.state.head.name
  own_name = is.own.name ∙ sym is.named

  -- it has started again, by what is stored of it
  state_again : (recovery : Recovery) → IsWilling recovery acting → IsRenewed kept recovery acting.world.state stored_core.store new.store (realm new.core place) → realm new.core place ≡ Some (Moves.restarted_from (boxes_in acting.world.rows) acting.world)
  state_again recovery willing after = after.state_is ∙ ap (λ rows. Some (restarted (Moves.risen acting.world.state.head) rows)) (ap (map loaded) willing ∙ sym (loads_same acting.name acting.world.rows is.stored.part.rising))

  module _ (stood : (log : Log) → kept.stands stored_core.store log → kept.stands new.store (with_raised acting.world.state.head.name log)) (spent : IsSpent (kept.is_due stored_core.store) (kept.is_due new.store) acting.world.state.head.name) where
    leaves_renewed : ((other : ℕ) → other ≢ place → realm new.core other ≡ realm stored_core.core other) → Leaves kept stored_core new place actor.name
    leaves_renewed others =
        let name = acting.world.state.head.name in record {
          realms = others;
          due = λ other differ. spent other ∙ ap (λ n. if bytes_eq n other then false else kept.is_due stored_core.store other) (sym own_name) ∙ rw differ refl;
          stored = λ other epoch rows differ stored. record {
            log = with_raised name stored.log;
            stood = stood stored.log stored.stood;
            part = renewed_others stored.log name other epoch rows (ap (λ n. bytes_eq n other) (sym own_name) ∙ differ) stored.part;
            known = renewed_known stored.log name other ∙ stored.known;
          };
        }

    -- what is stored of it
    stored_again : (acting.world.state.head.epoch == last_epoch) ≡ false → IsStored kept new.store acting.world.state.head.name (renewed false acting).acting.world.state.head.epoch (renewed false acting).acting.world.rows
    stored_again not_last =
        let name = acting.world.state.head.name in
        let log = is.stored.log in
        let epoch = rises log name acting.world.state.head.epoch acting.world.rows is.stored.part is.stored.known not_last in
        record {
          log = with_raised name log;
          stood = stood log is.stored.stood;
          part = subst (λ e. IsPart (with_raised name log) name e acting.world.rows) epoch (renewed_part log name acting.world.state.head.epoch acting.world.rows is.stored.part is.stored.known);
          known = renewed_known log name name ∙ is.stored.known;
        }

    -- however far it has come
    pub halts_renewed : acting.due ≡ false → (acting.world.state.head.epoch == last_epoch) ≡ false → ((other : ℕ) → other ≢ place → realm new.core other ≡ realm stored_core.core other) → Halts kept stored_core.store new.store actor.name (around (Some (renewed acting.due acting)) acting)
    halts_renewed due not_last others = subst (λ b. Halts kept stored_core.store new.store actor.name (around (Some (renewed b acting)) acting)) (sym due) (record {
      point = 1;
      named = sym is.own.name;
      own = subst (λ n. IsStored kept new.store n (renewed false acting).acting.world.state.head.epoch acting.world.rows) is.named (stored_again not_last);
      others = (leaves_renewed others).stored;
    })

    pub renews_so : (recovery : Recovery) → IsWilling recovery acting → IsRenewed kept recovery acting.world.state stored_core.store new.store (realm new.core place) →
        (IsTrue (kept.is_due stored_core.store acting.world.state.head.name) → ⊥) → (acting.world.state.head.epoch == last_epoch) ≡ false →
        ((other : ℕ) → other ≢ place → realm new.core other ≡ realm stored_core.core other) → HaveNames new.core →
        actor'.name ≡ actor.name → actor'.readers.items ≡ [] → actor'.errands ≡ actor.errands → actor'.is_due ≡ actor.is_due →
        (printed printed' : List ℕ) → printed' ≡ printed ++ (renewed acting.due acting).printed → IsDone kept stored_core new place actor actor' printed printed' (renewed acting.due acting)
    renews_so recovery willing after never not_last others names name' readers' errands' due' printed printed' text =
        let name = acting.world.state.head.name in
        let due : acting.due ≡ false = sym is.served.due_is ∙ not_due (kept.is_due stored_core.store name) never in
        subst (λ b. IsDone kept stored_core new place actor actor' printed printed' (renewed b acting)) (sym due) (record {
          own = record {
            served = record {
              state_is = state_again recovery willing after;
              names = names;
              due_is = spent name ∙ rw (itself name) (sym due);
            };
            stored = stored_again not_last;
            named = is.named;
            own = record {
              name = name' ∙ is.own.name;
              errands = ap (λ e. e.items) errands' ∙ is.own.errands;
              due = due' ∙ is.own.due;
              readings = subst (λ rs. AreReadings rs []) (sym readers') tt;
            };
          };
          leaves = leaves_renewed others;
          name = name';
          text = subst (λ b. printed' ≡ printed ++ (renewed b acting).printed) due text;
        })

  -- the store was to refuse it
  pub refuses_so : ((log : Log) → kept.stands stored_core.store log → kept.stands new.store log) → IsSpent (kept.is_due stored_core.store) (kept.is_due new.store) acting.world.state.head.name → ((other : ℕ) → realm new.core other ≡ realm stored_core.core other) →
      actor.is_due ≡ true → actor'.name ≡ actor.name → actor'.readers ≡ actor.readers → actor'.errands ≡ actor.errands → actor'.is_due ≡ false →
      (printed printed' : List ℕ) → printed' ≡ printed ++ refusal_text actor.name Refused → IsDone kept stored_core new place actor actor' printed printed' (renewed acting.due acting)
  refuses_so stood spent same due name' readers' errands' due' printed printed' text =
      let name = acting.world.state.head.name in
      let was_due : acting.due ≡ true = sym is.own.due ∙ due in
      subst (λ b. IsDone kept stored_core new place actor actor' printed printed' (renewed b acting)) (sym was_due) (record {
        own = record {
          served = record {
            state_is = same place ∙ is.served.state_is;
            names = λ p q this that here there. is.served.names p q this that (sym (same p) ∙ here) (sym (same q) ∙ there);
            due_is = spent name ∙ rw (itself name) refl;
          };
          stored = record { log = is.stored.log; stood = stood is.stored.log is.stored.stood; part = is.stored.part; known = is.stored.known };
          named = is.named;
          own = record {
            name = name' ∙ is.own.name;
            errands = ap (λ e. e.items) errands' ∙ is.own.errands;
            due = due';
            readings = subst (λ (rs : _). AreReadings rs.items acting.readings) (sym readers') is.own.readings;
          };
        };
        leaves = record {
          realms = λ other differ. same other;
          due = λ other differ. spent other ∙ ap (λ n. if bytes_eq n other then false else kept.is_due stored_core.store other) (sym own_name) ∙ rw differ refl;
          stored = λ other epoch rows differ stored. record { log = stored.log; stood = stood stored.log stored.stood; part = stored.part; known = stored.known };
        };
        name = name';
        text = text ∙ ap (λ n. printed ++ refusal_text n Refused) is.own.name ∙ ap (λ t. printed ++ t) (sym (append-nil (refusal_text acting.name Refused)));
      })

-- The next epoch

module _ (head : Head) (found : Option Head) (result : Option ℕ) (there : found ≡ Some head) (is : result ≡ option_and_then (λ (h : Head). if h.epoch == last_epoch then None else Some (h.epoch + 1)) found) where
  of_head : result ≡ (if head.epoch == last_epoch then None else Some (head.epoch + 1))
  of_head = is ∙ ap (option_and_then (λ (h : Head). if h.epoch == last_epoch then None else Some (h.epoch + 1))) there

  pub was_last : result ≡ None → (head.epoch == last_epoch) ≡ true
  was_last none = by (head.epoch == last_epoch) (sym of_head ∙ none) where
    by : (b : Bool) → (if b then None else Some (head.epoch + 1)) ≡ None → b ≡ true
    by true same = refl
    by false same = absurd (none-some (head.epoch + 1) (sym same))

  pub not_last : (epoch : ℕ) → result ≡ Some epoch → (epoch ≡ head.epoch + 1) × ((head.epoch == last_epoch) ≡ false)
  not_last epoch some = by (head.epoch == last_epoch) (sym of_head ∙ some) where
    by : (b : Bool) → (if b then None else Some (head.epoch + 1)) ≡ Some epoch → (epoch ≡ head.epoch + 1) × (b ≡ false)
    by true same = absurd (none-some epoch same)
    by false same = (sym (same_Some (head.epoch + 1) epoch same), refl)

-- The whole

module _ {S : Type 0} (kept : Keeping S) (stored_core : StoredCore S) (place : ℕ) (actor : Actor) (acting : Acting) (is : IsActing kept stored_core place actor acting) where
  pub at_its_end : (printed printed' : List ℕ) → (acting.world.state.head.epoch == last_epoch) ≡ true → printed' ≡ printed ++ refusal_text actor.name EpochEnd → IsDone kept stored_core stored_core place actor actor printed printed' (renews acting)
  at_its_end printed printed' last text = rw last (record {
    own = is;
    leaves = stays kept stored_core place actor.name;
    name = refl;
    text = text ∙ ap (λ n. printed ++ refusal_text n EpochEnd) is.own.name;
  })

  pub renews_all : (mid stored_core' : StoredCore S) (actor' : Actor) (printed printed' : List ℕ) → (acting.world.state.head.epoch == last_epoch) ≡ false → Leaves kept stored_core mid place actor.name → IsDone kept mid stored_core' place actor actor' printed printed' (renewed acting.due acting) → IsDone kept stored_core stored_core' place actor actor' printed printed' (renews acting)
  renews_all mid stored_core' actor' printed printed' not_last first done = rw not_last (record {
    own = done.own;
    leaves = leaves_on kept stored_core mid stored_core' place actor.name first done.leaves;
    name = done.name;
    text = done.text;
  })

  -- however far it has come, behind a reading
  pub renews_so_far : (mid : StoredCore S) (new : S) → (acting.world.state.head.epoch == last_epoch) ≡ false → AllStay kept stored_core.store mid.store → Halts kept mid.store new actor.name (around (Some (renewed acting.due acting)) acting) → Halts kept stored_core.store new actor.name (around (Some (renews acting)) acting)
  renews_so_far mid new not_last stays so = rw not_last (record {
    point = so.point;
    named = so.named;
    own = so.own;
    others = λ other epoch rows differ stored. so.others other epoch rows differ (stays other epoch rows stored);
  })

-- where nothing but a reading was done
pub still_stored : {S : Type 0} (kept : Keeping S) (old new : S) → ((log : Log) → kept.stands old log → kept.stands new log) → (name : List ℕ) (epoch : ℕ) (rows : List (Key × Row)) → IsStored kept old name epoch rows → IsStored kept new name epoch rows
still_stored kept old new stood name epoch rows stored = record { log = stored.log; stood = stood stored.log stored.stood; part = stored.part; known = stored.known }

module _ {S : Type 0} (kept : Keeping S) (stored_core mid : StoredCore S) (core : mid.core ≡ stored_core.core) (stood : (log : Log) → kept.stands stored_core.store log → kept.stands mid.store log) (due : (name : List ℕ) → kept.is_due mid.store name ≡ kept.is_due stored_core.store name) (place : ℕ) where
  pub acts_still : (actor : Actor) (acting : Acting) → IsActing kept stored_core place actor acting → IsActing kept mid place actor acting
  acts_still actor acting acts = record {
    served = record {
      state_is = ap (λ c. realm c place) core ∙ acts.served.state_is;
      names = subst HaveNames (sym core) acts.served.names;
      due_is = due acting.world.state.head.name ∙ acts.served.due_is;
    };
    stored = still_stored kept stored_core.store mid.store stood acting.world.state.head.name acting.world.state.head.epoch acting.world.rows acts.stored;
    named = acts.named;
    own = acts.own;
  }

  pub leaves_still : (name : List ℕ) → Leaves kept stored_core mid place name
  leaves_still name = record {
    realms = λ other differ. ap (λ c. realm c other) core;
    due = λ other differ. due other;
    stored = λ other epoch rows differ stored. still_stored kept stored_core.store mid.store stood other epoch rows stored;
  }

-- of each realm that it may be
pub for_each : {T E A : Type 0} (Q P : A → Type 0) (result : Result T E) → ((a : A) → Q a → OnOk result (P a)) → OnOk result ((a : A) → Q a → P a)
for_each Q P (Ok x) all = all
for_each Q P (Err fault) all = tt
