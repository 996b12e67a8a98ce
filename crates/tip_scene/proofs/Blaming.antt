-- Why the store is blamed where a script ends.
use Rattle.std.proofs.Common.{◌≡◌, ◌≢◌, ◌+◌, ◌<◌, ◌≤◌, ◌⊎◌, ◌==◌, ◌∷◌, ℕ, zero, suc, Bool, true, false, List, [], length, map, option_map, Option, Some, None, arith, inl, inr, refl, sym, ap, ◌∙◌, subst}
use Rattle.std.specs.Prelude.{◌%◌, ◌^◌, Err, IfErr, IfOk, IsErrOf, Ok, OnOk, Result, slice_get}
use Rattle.std.specs.Cmp.{unsigned_Decides}
use Rattle.std.proofs.lemmas.Bool.{and_from, false≢true}
use Rattle.std.proofs.lemmas.Option.{none-some, same_Some}
use Rattle.tip_actor.proofs.Lists.{partner}
use Rattle.tip_rows.specs.Logs.{IsSpoiled, Keeping, Log, counted}
use Rattle.tip_stored.specs.Loading as Loading
use Rattle.tip_stored.specs.Loading.{IsReason, is_refusal_to_load}
use Rattle.tip_stored.specs.Renewing.{IsReasonToDoubt, IsReasonToRenew, is_refused}
use Rattle.tip_stored.specs.declared.loading.LoadFault.{LoadFault}
use Rattle.tip_stored.specs.declared.loading.LoadFault.TheVariants as load
use Rattle.tip_stored.specs.declared.realm_spec.RealmSpec.{RealmSpec}
use Rattle.tip_stored.specs.declared.renewing.RenewFault.{RenewFault}
use Rattle.tip_stored.specs.declared.renewing.RenewFault.TheVariants as renew
use Rattle.tip_stored.specs.Recovering.{HasBegun, HaveBegun, Recovering, are_for_each}
use Rattle.tip_machine.specs.Heads.{starting}
use Rattle.tip_recovery.specs.Adopting.{Recovery, Unfinished, are_for, are_for_all, unadopted}
use Rattle.tip_rows.specs.Keys.{Key}
use Rattle.tip_rows.specs.Rows.{branches_of}
use Rattle.tip_rows.specs.declared.row.Row.{Row}
use Rattle.tip_actor.specs.Acting.{Acting, willing, willing_boxes}
use Rattle.tip_actor.specs.Faults.{of_load_fault, of_renew_fault}
use Rattle.tip_actor.specs.declared.fault.ActFault.{ActFault}
use Rattle.tip_actor.specs.declared.fault.ActFault.TheVariants as act
use Rattle.tip_actor.specs.Standing.{Actor, StoredCore}
use Rattle.tip_core.specs.Hosted.{realm}
use Rattle.tip_machine.specs.States.{State, started}
use Rattle.tip_scene.proofs.Again.{after, boxes_of_recovery, boxes_of_rows, boxes_unadopted, mapped_at, same_lists, unmapped_at}
use Rattle.tip_scene.specs.Acts.{Basis, Declaring, Playing, Stage}
use Rattle.tip_scene.specs.Blaming.{Accuses, AreUnread, Blames, CannotStart, HasRefused, IsAtFault, IsBlamed, IsNotRenewed, Spares, blamed, judged, specs_in}
use Rattle.tip_scene.specs.Boxes.{box_count, boxes_for, branch_count, row_count}
use Rattle.tip_scene.specs.Faults.{of_act_fault}
use Rattle.tip_scene.specs.Rising.{AreWaiting, IsWilling}
use Rattle.tip_scene.specs.Scenes.{Moved, Scene}
use Rattle.tip_scene.specs.Stages.{APlaying, AStage, Declared, Declares, IsDeclared, IsStage, Serves, Trusts, store_of}
use Rattle.tip_scene.specs.declared.declared.Declaration.{Declaration}
use Rattle.tip_scene.specs.declared.stage.Stage.TheVariants as stage
use Rattle.tip_scene.specs.Standing.{IsMoved, IsScene}
use Rattle.tip_scene.specs.declared.fault.LineFault.{LineFault}
use Rattle.tip_scene.specs.declared.fault.LineFault.TheVariants as line

-- The count of refusals

next_differs : (n : ℕ) → (n + 1) % 2 ^ 64 ≢ n
next_differs n same = absurd (omega (arith, same))

pub refuses : {S : Type 0} (kept : Keeping S) (old new : S) → kept.faults new ≡ counted true (kept.faults old) → HasRefused kept old new
refuses kept old new more same = next_differs (kept.faults old) (sym more ∙ same)

pub refused_since : {S : Type 0} (kept : Keeping S) (old mid new : S) → kept.faults mid ≡ kept.faults old → HasRefused kept mid new → HasRefused kept old new
refused_since kept old mid new before since same = since (same ∙ sym before)

pub err_same : {T E : Type 0} {x y : E} → ◌≡◌ {A = Result T E} (Err x) (Err y) → x ≡ y
err_same same = cc

-- How a line has ended

module _ {S : Type 0} (kept : Keeping S) (old new : S) (may : Bool) (before after : ℕ) (end : Result (Unit {0}) LineFault) where
  pub judged_counts : (result : Result (Unit {0}) LineFault) → may ≡ false → before ≡ kept.faults old → after ≡ kept.faults new → result ≡ judged may (before == after) end → OnOk result (kept.faults new ≡ kept.faults old)
  judged_counts result off was now is = subst (λ r. OnOk r (kept.faults new ≡ kept.faults old)) (sym is) (by may (before == after) off refl end) where
    by : (m same : Bool) → m ≡ false → (before == after) ≡ same → (end : Result (Unit {0}) LineFault) → OnOk (judged m same end) (kept.faults new ≡ kept.faults old)
    by true same off e end = absurd (false≢true (sym off))
    by false true off e (Ok done) = sym now ∙ sym ((unsigned_Decides before after).0 e) ∙ was
    by false true off e (Err line.NotUnderstood) = tt
    by false true off e (Err line.Memory) = tt
    by false true off e (Err line.Store) = tt
    by false false off e (Ok done) = tt
    by false false off e (Err why) = tt

  pub judged_refused : may ≡ false → before ≡ kept.faults old → after ≡ kept.faults new → judged may (before == after) end ≡ Err line.Store → HasRefused kept old new
  judged_refused off was now bad same = false≢true (sym (by may (before == after) off end bad) ∙ (unsigned_Decides before after).1 (was ∙ sym same ∙ sym now)) where
    by : (m same : Bool) → m ≡ false → (end : Result (Unit {0}) LineFault) → judged m same end ≡ Err line.Store → same ≡ false
    by true same off end is = absurd (false≢true (sym off))
    by false false off end is = refl
    by false true off (Ok x) is = absurd cc
    by false true off (Err line.NotUnderstood) is = absurd cc
    by false true off (Err line.Memory) is = absurd cc
    by false true off (Err line.Store) is = absurd cc

  -- one that has ended for want of memory was refused nothing
  pub judged_spares : may ≡ false → before ≡ kept.faults old → after ≡ kept.faults new → judged may (before == after) end ≡ Err line.Memory → kept.faults new ≡ kept.faults old
  judged_spares off was now short = by may (before == after) off refl end short where
    by : (m same : Bool) → m ≡ false → (before == after) ≡ same → (end : Result (Unit {0}) LineFault) → judged m same end ≡ Err line.Memory → kept.faults new ≡ kept.faults old
    by true same off e end is = absurd (false≢true (sym off))
    by false true off e end is = sym now ∙ sym ((unsigned_Decides before after).0 e) ∙ was
    by false false off e (Ok done) is = absurd cc
    by false false off e (Err line.NotUnderstood) is = absurd cc
    by false false off e (Err line.Memory) is = absurd cc
    by false false off e (Err line.Store) is = absurd cc

-- What a fault says by the count

module _ {S : Type 0} (kept : Keeping S) (old new : S) (may : Bool) (before after : ℕ) (off : may ≡ false) (was : before ≡ kept.faults old) (now : after ≡ kept.faults new) where
  -- it blamed the store before, or the store has refused
  pub blamed_for : (why : LineFault) → blamed may (before == after) why ≡ line.Store → (why ≡ line.Store) ⊎ HasRefused kept old new
  blamed_for why is = by may (before == after) off refl why is where
    by : (m same : Bool) → m ≡ false → (before == after) ≡ same → (why : LineFault) → blamed m same why ≡ line.Store → (why ≡ line.Store) ⊎ HasRefused kept old new
    by true same off e why is = absurd (false≢true (sym off))
    by false true off e why is = inl is
    by false false off e line.NotUnderstood is = absurd cc
    by false false off e line.Memory is = inr (λ same. false≢true (sym e ∙ (unsigned_Decides before after).1 (was ∙ sym same ∙ sym now)))
    by false false off e line.Store is = inl refl

  pub blamed_spares : (why : LineFault) → blamed may (before == after) why ≡ line.Memory → kept.faults new ≡ kept.faults old
  blamed_spares why short = by may (before == after) off refl why short where
    by : (m same : Bool) → m ≡ false → (before == after) ≡ same → (why : LineFault) → blamed m same why ≡ line.Memory → kept.faults new ≡ kept.faults old
    by true same off e why is = absurd (false≢true (sym off))
    by false true off e why is = sym now ∙ sym ((unsigned_Decides before after).0 e) ∙ was
    by false false off e line.NotUnderstood is = absurd cc
    by false false off e line.Memory is = absurd cc
    by false false off e line.Store is = absurd cc

pub blamed_not : (may same : Bool) (why : LineFault) → blamed may same why ≡ line.NotUnderstood → why ≡ line.NotUnderstood
blamed_not true same why is = is
blamed_not false true why is = is
blamed_not false false line.NotUnderstood is = refl
blamed_not false false line.Memory is = absurd cc
blamed_not false false line.Store is = absurd cc

-- one that may not stand here is none that the store is to blame for
pub judged_not : (may same : Bool) (end : Result (Unit {0}) LineFault) → judged may same end ≡ Err line.NotUnderstood → end ≡ Err line.NotUnderstood
judged_not true same end is = is
judged_not false true (Ok done) is = absurd cc
judged_not false true (Err line.NotUnderstood) is = refl
judged_not false true (Err line.Memory) is = absurd cc
judged_not false true (Err line.Store) is = absurd cc
judged_not false false (Ok done) is = absurd cc
judged_not false false (Err line.NotUnderstood) is = refl
judged_not false false (Err line.Memory) is = absurd cc
judged_not false false (Err line.Store) is = absurd cc

-- what was done is what it was
pub serves_judged : {S : Type 0} (kept : Keeping S) (printed printed' : List ℕ) (moved : Moved) (playing : APlaying S) (may same : Bool) (end : Result (Unit {0}) LineFault) → Serves kept printed printed' moved playing end → Serves kept printed printed' moved playing (judged may same end)
serves_judged kept printed printed' moved playing true same end serves = serves
serves_judged kept printed printed' moved playing false true (Ok done) serves = serves
serves_judged kept printed printed' moved playing false true (Err line.NotUnderstood) serves = serves
serves_judged kept printed printed' moved playing false true (Err line.Memory) serves = tt
serves_judged kept printed printed' moved playing false true (Err line.Store) serves = tt
serves_judged kept printed printed' moved playing false false (Ok done) serves = tt
serves_judged kept printed printed' moved playing false false (Err line.NotUnderstood) serves = serves
serves_judged kept printed printed' moved playing false false (Err line.Memory) serves = tt
serves_judged kept printed printed' moved playing false false (Err line.Store) serves = tt

-- a fault that is no word on the line says nothing of what it did
pub serves_not : {S : Type 0} (kept : Keeping S) (printed printed' : List ℕ) (moved : Moved) (playing : APlaying S) (why : LineFault) → (why ≡ line.NotUnderstood → ⊥) → Serves kept printed printed' moved playing (Err why)
serves_not kept printed printed' moved playing line.NotUnderstood known = absurd (known refl)
serves_not kept printed printed' moved playing line.Memory known = tt
serves_not kept printed printed' moved playing line.Store known = tt

pub serves_when : {S : Type 0} (kept : Keeping S) (printed printed' : List ℕ) (moved : Moved) (playing : APlaying S) {A : Type 0} (result : Result (Unit {0}) LineFault) → (IsErrOf result line.NotUnderstood → ⊥) → OnOk result A → (A → IsMoved kept playing.stored_core playing.actors.items printed printed' moved) → Serves kept printed printed' moved playing result
serves_when kept printed printed' moved playing (Ok done) understood on_ok moves = moves on_ok
serves_when kept printed printed' moved playing (Err line.NotUnderstood) understood on_ok moves = absurd (understood refl)
serves_when kept printed printed' moved playing (Err line.Memory) understood on_ok moves = tt
serves_when kept printed printed' moved playing (Err line.Store) understood on_ok moves = tt

-- Realms that can't start

memory_is_not : act.Memory ≢ act.Store
memory_is_not same = absurd cc

module _ {S : Type 0} (kept : Keeping S) (old new : S) where
  pub not_loaded : (specs : List RealmSpec) (fault : LoadFault) → kept.faults new ≡ counted (is_refusal_to_load fault) (kept.faults old) → ((log : Log) → kept.stands old log → kept.is_true new → IsReason specs log fault) → of_load_fault fault ≡ act.Store →
      HasRefused kept old new ⊎ ((why : LoadFault) × ((log : Log) → kept.stands old log → kept.is_true new → CannotStart specs log why))
  not_loaded specs load.Refused counts reason store = inl (refuses kept old new counts)
  not_loaded specs load.EpochEnd counts reason store = inr (load.EpochEnd, reason)
  not_loaded specs load.BadRow counts reason store = inr (load.BadRow, reason)
  not_loaded specs load.Memory counts reason store = absurd (memory_is_not store)
  not_loaded specs load.BadRealm counts reason store = inr (load.BadRealm, reason)

  pub not_read : (acting : Acting) (fault : RenewFault) → kept.faults new ≡ counted (is_refused fault) (kept.faults old) → ((log : Log) → kept.stands old log → kept.is_true new → IsReasonToDoubt log acting.world.state.head.name fault) → of_renew_fault fault ≡ act.Store → kept.is_true new → ((log : Log) × kept.stands old log) →
      HasRefused kept old new ⊎ IsNotRenewed kept old new acting
  not_read acting renew.Stopped counts reason store is some = absurd (reason some.0 some.1 is)
  not_read acting renew.NoRealm counts reason store is some = absurd (reason some.0 some.1 is)
  not_read acting renew.NotRead counts reason store is some = inl (refuses kept old new counts)
  not_read acting renew.BadRow counts reason store is some = inr (renew.BadRow, λ log stood truth. inl (reason log stood truth))
  not_read acting renew.EpochEnd counts reason store is some = absurd (reason some.0 some.1 is)
  not_read acting renew.NotInDoubt counts reason store is some = absurd (reason some.0 some.1 is)
  not_read acting renew.Unadopted counts reason store is some = absurd (reason some.0 some.1 is)
  not_read acting renew.NotRaised counts reason store is some = absurd (reason some.0 some.1 is)
  not_read acting renew.Memory counts reason store is some = absurd (memory_is_not store)

  pub not_renewed : (acting : Acting) (recovery : Recovery) (fault : RenewFault) → IsWilling recovery acting → fault ≢ renew.Stopped → kept.faults new ≡ counted (is_refused fault) (kept.faults old) → ((log : Log) → kept.stands old log → kept.is_true new → IsReasonToRenew log acting.world.state recovery fault) → of_renew_fault fault ≡ act.Store →
      HasRefused kept old new ⊎ IsNotRenewed kept old new acting
  not_renewed acting recovery renew.Stopped willing runs counts reason store = absurd (runs refl)
  not_renewed acting recovery renew.NoRealm willing runs counts reason store = inr (renew.NoRealm, λ log stood truth. inr (recovery, willing, reason log stood truth))
  not_renewed acting recovery renew.NotRead willing runs counts reason store = inl (refuses kept old new counts)
  not_renewed acting recovery renew.BadRow willing runs counts reason store = inr (renew.BadRow, λ log stood truth. inr (recovery, willing, reason log stood truth))
  not_renewed acting recovery renew.EpochEnd willing runs counts reason store = inr (renew.EpochEnd, λ log stood truth. inr (recovery, willing, reason log stood truth))
  not_renewed acting recovery renew.NotInDoubt willing runs counts reason store = inr (renew.NotInDoubt, λ log stood truth. inr (recovery, willing, reason log stood truth))
  not_renewed acting recovery renew.Unadopted willing runs counts reason store = inr (renew.Unadopted, λ log stood truth. inr (recovery, willing, reason log stood truth))
  not_renewed acting recovery renew.NotRaised willing runs counts reason store = inl (refuses kept old new counts)
  not_renewed acting recovery renew.Memory willing runs counts reason store = absurd (memory_is_not store)

pub renews_since : {S : Type 0} (kept : Keeping S) (old mid new : S) (acting : Acting) → kept.faults mid ≡ kept.faults old → ((log : Log) → kept.stands old log → kept.stands mid log) → HasRefused kept mid new ⊎ IsNotRenewed kept mid new acting → HasRefused kept old new ⊎ IsNotRenewed kept old new acting
renews_since kept old mid new acting same stood (inl since) = inl (refused_since kept old mid new same since)
renews_since kept old mid new acting same stood (inr unfit) = inr (unfit.0, λ log was truth. unfit.1 log (stood log was) truth)

-- What was not read

module _ {S : Type 0} (kept : Keeping S) where
  -- one of the realms was not
  pub unread_in : (old mid new : S) (names : List (List ℕ)) (place : ℕ) (name : List ℕ) → slice_get names place ≡ Some name → kept.faults mid ≡ kept.faults old → ((log : Log) → kept.stands old log → kept.stands mid log) → AreUnread kept mid new (name ∷ []) → AreUnread kept old new names
  unread_in old mid new names place name here same stood (inl since) = inl (refused_since kept old mid new same since)
  unread_in old mid new names place name here same stood (inr unread) =
      let own : name ≡ unread.1 = only name unread.1 unread.0 unread.2 in
      inr (place, name, here, λ log was truth. subst (IsSpoiled log) (sym own) (unread.3 log (stood log was) truth)) where
        only : (one name : List ℕ) (place : ℕ) → slice_get (one ∷ []) place ≡ Some name → one ≡ name
        only one name zero here = same_Some one name here
        only one name (suc place) here = absurd (none-some name here)

  -- where each is whole
  pub never_spoiled : (old new : S) (names : List (List ℕ)) → ((place : ℕ) (name : List ℕ) → slice_get names place ≡ Some name → (log : Log) × kept.stands old log × (¬ IsSpoiled log name)) → kept.is_true new → AreUnread kept old new names → HasRefused kept old new
  never_spoiled old new names sound truth (inl since) = since
  never_spoiled old new names sound truth (inr unread) = let whole = sound unread.0 unread.1 unread.2 in absurd (whole.2 (unread.3 whole.0 whole.1 truth))

  pub all_whole : (stored_core : StoredCore S) (actors : List Actor) (scene : Scene) → IsScene kept stored_core actors scene → (place : ℕ) (name : List ℕ) → slice_get (map (λ (a : Actor). a.name) actors) place ≡ Some name → (log : Log) × kept.stands stored_core.store log × (¬ IsSpoiled log name)
  all_whole stored_core actors scene is place name here =
      let was = unmapped_at (λ (a : Actor). a.name) actors place name here in
      let mate = partner actors scene place was.0 is.count was.1 in
      let acts = is.each place was.0 mate.0 was.1 mate.1 in
      (acts.stored.log, acts.stored.stood, subst (λ n. ¬ IsSpoiled acts.stored.log n) (acts.named ∙ sym acts.own.name ∙ sym was.2) acts.stored.part.sound)

  -- The realms that start again

  unmapped : {X Y : Type 0} (f : X → Y) (xs : List X) (place : ℕ) → slice_get xs place ≡ None → slice_get (map f xs) place ≡ None
  unmapped f [] place none = refl
  unmapped f (x ∷ xs) zero none = absurd (none-some x (sym none))
  unmapped f (x ∷ xs) (suc place) none = unmapped f xs place none

  spec_at : (stored_core : StoredCore S) (actors : List Actor) (scene : Scene) → IsScene kept stored_core actors scene → (place : ℕ) (found : Option Acting) → slice_get scene place ≡ found → option_map (λ (state : State). Loading.spec_of state.head) (realm stored_core.core place) ≡ slice_get (specs_in (Playing scene)) place
  spec_at stored_core actors scene is place None none = ap (option_map (λ (state : State). Loading.spec_of state.head)) (is.beyond place none) ∙ sym (unmapped (λ (acting : Acting). Loading.spec_of acting.world.state.head) scene place none)
  spec_at stored_core actors scene is place (Some acting) here =
      let mate = partner scene actors place acting (sym is.count) here in
      ap (option_map (λ (state : State). Loading.spec_of state.head)) (is.each place mate.0 acting mate.1 here).served.state_is ∙ sym (mapped_at (λ (acting : Acting). Loading.spec_of acting.world.state.head) scene place acting here)

  pub specs_again : (stored_core : StoredCore S) (actors : List Actor) (scene : Scene) (specs : List RealmSpec) → IsScene kept stored_core actors scene → ((place : ℕ) → slice_get specs place ≡ option_map (λ (state : State). Loading.spec_of state.head) (realm stored_core.core place)) → specs ≡ specs_in (Playing scene)
  specs_again stored_core actors scene specs is specs_are = same_lists specs (specs_in (Playing scene)) (λ place. specs_are place ∙ spec_at stored_core actors scene is place (slice_get scene place) refl)

  pub start_blamed : (old new : S) (now : Stage) (specs : List RealmSpec) → specs ≡ specs_in now → (fault : LoadFault) → kept.faults new ≡ counted (is_refusal_to_load fault) (kept.faults old) → ((log : Log) → kept.stands old log → kept.is_true new → IsReason specs log fault) → of_load_fault fault ≡ act.Store → IsAtFault kept old now new
  start_blamed old new now specs is fault counts reason store = told (not_loaded kept old new (specs_in now) fault counts (λ log stood sure. subst (λ l. IsReason l log fault) is (reason log stood sure)) store) where
    told : HasRefused kept old new ⊎ ((why : LoadFault) × ((log : Log) → kept.stands old log → kept.is_true new → CannotStart (specs_in now) log why)) → IsAtFault kept old now new
    told (inl since) = inl since
    told (inr why) = inr (inl why)

pub renew_blamed : {S : Type 0} (kept : Keeping S) (old new : S) (scene : Scene) (place : ℕ) (acting : Acting) → slice_get scene place ≡ Some acting → HasRefused kept old new ⊎ IsNotRenewed kept old new acting → IsAtFault kept old (Playing scene) new
renew_blamed kept old new scene place acting here (inl since) = inl since
renew_blamed kept old new scene place acting here (inr unfit) = inr (inr (place, acting, here, unfit))

pub blamed_at_fault : {S : Type 0} (kept : Keeping S) (old new : S) (now : Stage) (why : LineFault) → (why ≡ line.Store) ⊎ HasRefused kept old new → (why ≡ line.Store → IsAtFault kept old now new) → IsAtFault kept old now new
blamed_at_fault kept old new now why (inl is) so = so is
blamed_at_fault kept old new now why (inr since) so = inl since

-- who declares a realm asks no store
pub never_asked : (more : Option (List Declaration)) (now : List Declaration) (result : Result (Unit {0}) LineFault) (why : LineFault) → Declares more now result → result ≡ Err why → why ≡ line.Store → ⊥
never_asked more now result why declares is same = subst (Declares more now) (is ∙ ap Err same) declares

pub act_store : (fault : ActFault) → of_act_fault fault ≡ line.Store → fault ≡ act.Store
act_store act.Memory is = absurd cc
act_store act.Store is = refl

pub act_memory : (fault : ActFault) → of_act_fault fault ≡ line.Memory → fault ≡ act.Memory
act_memory act.Memory is = refl
act_memory act.Store is = absurd cc

pub act_known : (fault : ActFault) → of_act_fault fault ≡ line.NotUnderstood → ⊥
act_known act.Memory is = absurd cc
act_known act.Store is = absurd cc

-- Where memory ended nothing was refused

spared_load : (fault : LoadFault) → of_load_fault fault ≡ act.Memory → is_refusal_to_load fault ≡ false
spared_load load.Refused is = absurd cc
spared_load load.EpochEnd is = absurd cc
spared_load load.BadRow is = absurd cc
spared_load load.Memory is = refl
spared_load load.BadRealm is = absurd cc

pub start_spares : {S : Type 0} (kept : Keeping S) (old new : S) (fault : LoadFault) → kept.faults new ≡ counted (is_refusal_to_load fault) (kept.faults old) → of_load_fault fault ≡ act.Memory → kept.faults new ≡ kept.faults old
start_spares kept old new fault counts is = counts ∙ ap (λ refused. counted refused (kept.faults old)) (spared_load fault is)

-- a restart keeps the rows
pub boxes_again : (scene : Scene) → box_count None (map after scene) ≡ box_count None scene
boxes_again [] = refl
boxes_again (acting ∷ scene) = ap (λ n. boxes_for acting.world.rows + n) (boxes_again scene)

-- What a stage blames

module _ {S : Type 0} (kept : Keeping S) where
  -- as it is told of a line
  pub told_on : (why because : S → Type 0) (fault : ActFault) (store : S) (told : LineFault) → told ≡ of_act_fault fault → ((new : S) → why new → because new) → Accuses kept act.Store why (fault, store) → Accuses kept line.Store because (told, store)
  told_on why because fault store told is weaker accuses = λ bad truth. weaker store (accuses (act_store fault (sym is ∙ bad)) truth)

  -- REALMS THAT RISE, whose store is the one from which they were read
  module _ {T : Type 0} (store : T → S) (mid : S) where
    pub risen_trusts : (old : S) (result : Result T (ActFault × S)) → IfOk result (λ x. store x ≡ mid) → IfErr result (λ fault. fault.1 ≡ mid) → (kept.is_true mid → kept.is_true old) → Trusts kept old store result
    risen_trusts old (Ok x) same back trusts = λ truth. trusts (subst kept.is_true same truth)
    risen_trusts old (Err fault) same back trusts = λ truth. trusts (subst kept.is_true back truth)

    pub risen_spares : (old : S) (result : Result T (ActFault × S)) → IfErr result (λ fault. fault.1 ≡ mid) → kept.faults mid ≡ kept.faults old → Spares kept act.Memory old result
    risen_spares old (Ok x) back same = tt
    risen_spares old (Err fault) back same = λ short. ap kept.faults back ∙ same

    pub risen_so : (P : T → Type 0) (result : Result T (ActFault × S)) → IfOk result (λ x. store x ≡ mid) → (kept.is_true mid → IfOk result P) → IfOk result (λ x. kept.is_true (store x) → P x)
    risen_so P (Ok x) same all = λ truth. all (subst kept.is_true same truth)
    risen_so P (Err fault) same all = tt

    -- and that had enough boxes
    pub risen_blamed : (why : S → Type 0) (boxes wanted : ℕ) (result : Result T (ActFault × S)) → wanted ≤ boxes → IfErr result (λ fault. fault.1 ≡ mid) → (kept.is_true mid → IfErr result (λ fault. fault.0 ≡ act.Store → boxes < wanted)) → Blames kept act.Store why result
    risen_blamed why boxes wanted (Ok x) enough back few = tt
    risen_blamed why boxes wanted (Err fault) enough back few = λ bad truth. (let lacks = few (subst kept.is_true back truth) bad in absurd (omega (arith, enough, lacks)))

  pub at_fault : (basis : Basis) (stage : AStage S) (now : Stage) (old new : S) → IsStage kept basis stage now → kept.faults (store_of stage) ≡ kept.faults old → IsAtFault kept (store_of stage) now new → IsBlamed kept basis old new
  at_fault basis stage now old new is same (inl since) = inl (refused_since kept old (store_of stage) new same since)
  at_fault basis stage now old new is same (inr unfit) = inr (record { stage = stage; now = now; stands = is; unfit = unfit })

  pub play_accused_at : {E : Type 0} (blame : E) (basis : Basis) (playing : APlaying S) (scene : Scene) (old : S) (fault : E × S) → (kept.is_true fault.1 → kept.is_true playing.stored_core.store) → kept.faults playing.stored_core.store ≡ kept.faults old → (kept.is_true playing.stored_core.store → IsScene kept playing.stored_core playing.actors.items scene) →
      (kept.is_true playing.stored_core.store → IsScene kept playing.stored_core playing.actors.items scene → Accuses kept blame (IsAtFault kept playing.stored_core.store (Playing scene)) fault) → Accuses kept blame (IsBlamed kept basis old) fault
  play_accused_at blame basis playing scene old fault trusts same is accuses = λ bad truth. (let sure = trusts truth in at_fault basis (stage.Playing playing) (Playing scene) old fault.1 (is sure) same (accuses sure (is sure) bad truth))

  pub play_accused : {E : Type 0} (blame : E) (basis : Basis) (playing : APlaying S) (now : Stage) (Enough : Stage → Type 0) (fault : E × S) → IsStage kept basis (stage.Playing playing) now → Enough now →
      ((scene : Scene) → IsScene kept playing.stored_core playing.actors.items scene → Enough (Playing scene) → Accuses kept blame (IsAtFault kept playing.stored_core.store (Playing scene)) fault) → Accuses kept blame (IsBlamed kept basis playing.stored_core.store) fault
  play_accused blame basis playing (Declaring declarations) Enough fault is enough accuses = absurd is
  play_accused blame basis playing (Playing scene) Enough fault is enough accuses = λ bad truth. at_fault basis (stage.Playing playing) (Playing scene) playing.stored_core.store fault.1 is refl (accuses scene is enough bad truth)

  pub start_accused : {E : Type 0} (blame : E) (basis : Basis) (realms : Declared S) (now : Stage) (Enough : Stage → Type 0) (fault : E × S) → IsStage kept basis (stage.Declaring realms) now → Enough now →
      ((declarations : List Declaration) → IsDeclared kept basis realms declarations → Enough (Declaring declarations) → Accuses kept blame (IsAtFault kept realms.store (Declaring declarations)) fault) → Accuses kept blame (IsBlamed kept basis realms.store) fault
  start_accused blame basis realms (Declaring declarations) Enough fault is enough accuses = λ bad truth. at_fault basis (stage.Declaring realms) (Declaring declarations) realms.store fault.1 is refl (accuses declarations is enough bad truth)
  start_accused blame basis realms (Playing scene) Enough fault is enough accuses = absurd is

  pub of_declared : {X : Type 0} (basis : Basis) (realms : Declared S) (now : Stage) → IsStage kept basis (stage.Declaring realms) now → ((declarations : List Declaration) → IsDeclared kept basis realms declarations → X) → X
  of_declared basis realms (Declaring declarations) is all = all declarations is
  of_declared basis realms (Playing scene) is all = absurd is

  pub declared_at : (basis : Basis) (realms : Declared S) (now : Stage) (P : Stage → Type 0) → IsStage kept basis (stage.Declaring realms) now → ((declarations : List Declaration) → IsDeclared kept basis realms declarations → P (Declaring declarations)) → P now
  declared_at basis realms (Declaring declarations) P is all = all declarations is
  declared_at basis realms (Playing scene) P is all = absurd is

  pub of_playing : {X : Type 0} (basis : Basis) (playing : APlaying S) (now : Stage) → IsStage kept basis (stage.Playing playing) now → ((scene : Scene) → IsScene kept playing.stored_core playing.actors.items scene → X) → X
  of_playing basis playing (Declaring declarations) is all = absurd is
  of_playing basis playing (Playing scene) is all = all scene is

-- Boxes for rows that wait

length_willing : (count : ℕ) → length (willing count) ≡ count
length_willing zero = refl
length_willing (suc count) = ap suc (length_willing count)

fits_one : (name : List ℕ) (stored : Key × Row) → are_for (willing_boxes stored.1) (unadopted name stored) ≡ true
fits_one name stored = and_from (length (willing_boxes stored.1) == length (branches_of stored.1)) true ((unsigned_Decides (length (willing_boxes stored.1)) (length (branches_of stored.1))).1 (length_willing (length (branches_of stored.1)))) refl

fits_rows : (name : List ℕ) (rows : List (Key × Row)) → are_for_all (boxes_of_rows rows) (map (unadopted name) rows) ≡ true
fits_rows name [] = refl
fits_rows name (stored ∷ rows) = and_from (are_for (willing_boxes stored.1) (unadopted name stored)) (are_for_all (boxes_of_rows rows) (map (unadopted name) rows)) (fits_one name stored) (fits_rows name rows)

pub fits_all : (name : List ℕ) (found : List Unfinished) (rows : List (Key × Row)) → found ≡ map (unadopted name) rows → are_for_all (map (λ (row : Unfinished). willing_boxes row.row) found) found ≡ true
fits_all name found rows is = subst (λ l. are_for_all (map (λ (row : Unfinished). willing_boxes row.row) l) l ≡ true) (sym is) (ap (λ boxes. are_for_all boxes (map (unadopted name) rows)) (boxes_unadopted name rows) ∙ fits_rows name rows)

counts_unadopted : (name : List ℕ) (rows : List (Key × Row)) → row_count (map (unadopted name) rows) ≡ boxes_for rows
counts_unadopted name [] = refl
counts_unadopted name (stored ∷ rows) = ap (λ n. length (branches_of stored.1) + n) (counts_unadopted name rows)

pub counts_all : (name : List ℕ) (found : List Unfinished) (rows : List (Key × Row)) → found ≡ map (unadopted name) rows → row_count found ≡ boxes_for rows
counts_all name found rows is = ap row_count is ∙ counts_unadopted name rows

-- one that waits at each place, and no others
abbrev AreTheirRows : List Recovery → Scene → Type 0
AreTheirRows realms scene = (place : ℕ) (acting : Acting) → slice_get scene place ≡ Some acting → (recovery : Recovery) × (slice_get realms place ≡ Some recovery) × (recovery.rows ≡ map (unadopted acting.name) acting.world.rows)

pub all_fit : (realms : List Recovery) (scene : Scene) → AreTheirRows realms scene → ((place : ℕ) → slice_get scene place ≡ None → slice_get realms place ≡ None) → (branch_count realms ≡ box_count None scene) × (are_for_each (map boxes_of_recovery realms) realms ≡ true)
all_fit [] [] rows none = (refl, refl)
all_fit [] (acting ∷ scene) rows none = absurd (none-some (rows 0 acting refl).0 (rows 0 acting refl).1)
all_fit (recovery ∷ realms) [] rows none = absurd (none-some recovery (sym (none 0 refl)))
all_fit (recovery ∷ realms) (acting ∷ scene) rows none =
    let own = rows 0 acting refl in
    let is : recovery.rows ≡ map (unadopted acting.name) acting.world.rows = ap (λ (r : Recovery). r.rows) (same_Some recovery own.0 own.1) ∙ own.2 in
    let more = all_fit realms scene (λ place. rows (suc place)) (λ place. none (suc place)) in (
      ap (λ n. n + branch_count realms) (counts_all acting.name recovery.rows acting.world.rows is) ∙ ap (λ n. boxes_for acting.world.rows + n) more.0,
      and_from (are_for_all (boxes_of_recovery recovery) recovery.rows) (are_for_each (map boxes_of_recovery realms) realms) (fits_all acting.name recovery.rows acting.world.rows is) more.1,
    )

-- where realms wait
module _ {S : Type 0} (kept : Keeping S) (recovering : Recovering S) (scene : Scene) (begun : HaveBegun recovering.core recovering.realms) (waiting : AreWaiting kept recovering scene) where
  beyond_all : (place : ℕ) → slice_get scene place ≡ None → slice_get recovering.realms place ≡ None
  beyond_all place none = by (slice_get recovering.realms place) (subst (λ state. HasBegun state (slice_get recovering.realms place)) (waiting.beyond place none) (begun.each place)) where
    by : (found : Option Recovery) → HasBegun None found → found ≡ None
    by None has = refl
    by (Some recovery) has = absurd (none-some (started (starting has.0)) has.1)

  pub waiting_fit : (branch_count recovering.realms ≡ box_count None scene) × (are_for_each (map boxes_of_recovery recovering.realms) recovering.realms ≡ true)
  waiting_fit = all_fit recovering.realms scene (λ place acting here. (let is = waiting.each place acting here in (is.recovery, is.there, is.rows))) beyond_all
