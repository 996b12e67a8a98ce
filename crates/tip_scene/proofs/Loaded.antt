-- Realms that were loaded, each at its place.
use Rattle.std.proofs.Common.{◌≡◌, ◌+◌, ◌<◌, ℕ, Bool, true, List, Some, None, arith, cond, map, nat_lt, option_map, refl, sym, ap, subst, ◌∙◌}
use Rattle.std.specs.Prelude.{Ok, is_some, slice_get}
use Rattle.std.proofs.lemmas.Bool.Decides.{nat_tests}
use Rattle.tip_core.specs.Hosted.{realm}
use Rattle.tip_stored.proofs.Opening.{named_at, no_start, read_at, start_at}
use Rattle.tip_stored.proofs.Parts.{can_open, number_of, opened_known, opened_part}
use Rattle.tip_stored.specs.Loading.{Loads, names_of, opened, start_of}
use Rattle.tip_stored.specs.Recovering.{Recovering}
use Rattle.tip_stored.specs.declared.realm_spec.RealmSpec.{RealmSpec}
use Rattle.tip_machine.proofs.Storing.{same_rows}
use Rattle.tip_machine.specs.Heads.{starting}
use Rattle.tip_machine.specs.States.{started}
use Rattle.tip_recovery.specs.Adopting.{Recovery, unadopted}
use Rattle.tip_rows.specs.Keys.{Key}
use Rattle.tip_rows.specs.Logs.{Keeping, IsPart, Log, last_epoch, raised_number}
use Rattle.tip_rows.specs.declared.row.Row.{Row}
use Rattle.tip_actor.specs.Acting.{Reading}
use Rattle.tip_actor.specs.Standing.{IsStored}
use Rattle.tip_scene.specs.Acts.{world_of}
use Rattle.tip_scene.specs.Rising.{IsWaiting}

-- A REALM THAT WAS LOADED, of which these rows were stored in this epoch
pub record IsLoaded {S : Type 0} (kept : Keeping S) (store : S) (recovering : Recovering S) (place : ℕ) (spec : RealmSpec) (epoch : ℕ) (rows : List (Key × Row)) : Type 0 where
  pub recovery : Recovery
  pub there : slice_get recovering.realms place ≡ Some recovery
  pub risen : recovery.epoch ≡ epoch + 1
  pub unadopted_are : recovery.rows ≡ map (unadopted spec.name) rows
  pub stored : IsStored kept recovering.store spec.name (epoch + 1) rows
  pub due : kept.is_due recovering.store spec.name ≡ kept.is_due store spec.name
  pub core : realm recovering.core place ≡ Some (started (starting (start_of spec recovery.epoch)))

module _ {S : Type 0} (kept : Keeping S)
    (specs : List RealmSpec) (store : S) (recovering : Recovering S) (loads : Loads kept specs store (Ok recovering)) where
  -- no other realm has started
  pub beyond : (place : ℕ) → slice_get specs place ≡ None → realm recovering.core place ≡ None
  beyond place none = loads.realms place ∙ ap (option_map (λ start. started (starting start))) (no_start specs recovering.realms place none)

  pub loaded_at : kept.is_true recovering.store → (place : ℕ) (spec : RealmSpec) (log : Log) (epoch : ℕ) (rows : List (Key × Row)) → slice_get specs place ≡ Some spec → kept.stands store log → IsPart log spec.name epoch rows → IsLoaded kept store recovering place spec epoch rows
  loaded_at truth place spec log epoch rows here stood part =
      let names = names_of specs in
      let named = named_at specs place spec here in
      let way = loads.ok.rows log stood in
      let read = read_at (opened names log) specs recovering.realms place spec (loads.read log stood truth) here in
      let own = opened_part names place log spec.name epoch rows named part in
      let below : epoch < last_epoch = can_open names place log spec.name epoch rows named part (loads.risen log stood truth spec.name) in
      let less : nat_lt epoch last_epoch ≡ true = grind (arith, nat_tests, below) in
      let number : raised_number epoch ≡ epoch + 1 = ap (λ b. cond b (epoch + 1) epoch) less in
      record {
        recovery = read.0;
        there = read.1;
        risen = number_of (sym read.2.part.epoch ∙ own.epoch) ∙ number;
        unadopted_are = read.2.unadopted ∙ ap (map (unadopted spec.name)) (same_rows read.2.rows rows read.2.part.rising own.rising (λ key. read.2.part.same key ∙ sym (own.same key)));
        stored = record {
          log = way.0;
          stood = way.2;
          part = subst (λ l. IsPart l spec.name (epoch + 1) rows) (sym way.1) (subst (λ e. IsPart (opened names log) spec.name e rows) number own);
          known = ap (λ (l : Log). is_some (l.epochs spec.name)) way.1 ∙ opened_known names place log spec.name epoch rows named part;
        };
        due = loads.ok.due log stood spec.name;
        core = loads.realms place ∙ ap (option_map (λ start. started (starting start))) (start_at specs recovering.realms place spec read.0 here read.1);
      }

-- its rows wait for boxes
pub waits : {S : Type 0} (kept : Keeping S) (store : S) (recovering : Recovering S) (place : ℕ) (spec : RealmSpec) (epoch : ℕ) (rows : List (Key × Row)) (name : List ℕ) (due : Bool) (readings : List Reading) → IsLoaded kept store recovering place spec epoch rows → spec.name ≡ name → kept.is_due store spec.name ≡ due →
    IsWaiting kept recovering place (record { name = name; world = world_of (starting (start_of spec (epoch + 1))) rows; due = due; readings = readings })
waits kept store recovering place spec epoch rows name due readings is named due_is = record {
  recovery = is.recovery;
  there = is.there;
  core = is.core ∙ ap (λ e. Some (started (starting (start_of spec e)))) is.risen;
  state = refl;
  epoch = is.risen;
  rows = is.unadopted_are ∙ ap (λ n. map (unadopted n) rows) named;
  stored = is.stored;
  due = is.due ∙ due_is;
  named = named;
}
