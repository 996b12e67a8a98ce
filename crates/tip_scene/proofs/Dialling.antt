-- A connection that we open, if what is said of it are words.
use Rattle.tip_rows.specs.Logs.{Keeping}
use Rattle.std.proofs.Common.{◌≡◌, ℕ, Bool, true, false, List, None, Some, subst}
use Rattle.std.specs.Prelude.{if◌then◌else◌}
use Rattle.std.proofs.lemmas.Option.{same_Some}
use Rattle.tip_machine.specs.Types.{Event}
use Rattle.tip_actor.specs.Acting.{Acting, happens}
use Rattle.tip_actor.specs.Standing.{Actor, StoredCore, IsDone, Tells}

pub dialled : {S : Type 0} (kept : Keeping S) (stored_core stored_core' : StoredCore S) (place : ℕ) (actor actor' : Actor) (printed printed' : List ℕ) (acting : Acting) (are_words : Bool) (dial event : Event) → Some event ≡ (if are_words then Some dial else None) → IsDone kept stored_core stored_core' place actor actor' printed printed' (happens event acting) → Tells kept stored_core stored_core' place actor actor' printed printed' true (if are_words then Some (happens dial acting) else None)
dialled kept stored_core stored_core' place actor actor' printed printed' acting true dial event is done = subst (λ e. IsDone kept stored_core stored_core' place actor actor' printed printed' (happens e acting)) (same_Some event dial is) done
dialled kept stored_core stored_core' place actor actor' printed printed' acting false dial event is done = absurd (cc)
