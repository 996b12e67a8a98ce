-- What a store has of a realm where something ends before all of it is done.
use Rattle.std.proofs.Common.{◌≡◌, ◌∙◌, ℕ, zero, suc, false, List, Option, Some, None, true, refl, sym, ap, subst}
use Rattle.std.proofs.lemmas.Option.{none-some}
use Rattle.std.specs.Str.{bytes_eq}
use Rattle.tip_rows.specs.Keys.{Key}
use Rattle.tip_rows.specs.Logs.{Keeping, Log}
use Rattle.tip_rows.specs.declared.row.Row.{Row}
use Rattle.tip_actor.specs.Acting.{Acting, Done, goes_on, takes, takes_next}
use Rattle.tip_actor.specs.Halting.{AllStay, Halts, IsStoredAs, around}
use Rattle.tip_actor.specs.Standing.{Actor, IsActing, IsDone, IsStored, StoredCore, Tells}

-- one line more is taken behind those that were
pub one_further : (count : ℕ) (acting : Acting) (done : Done) → takes_next (takes count acting).acting ≡ Some done → (takes (suc count) acting).acting ≡ done.acting
one_further zero acting done is = ap (λ o. (goes_on o acting (takes zero)).acting) is
one_further (suc count) acting done is = by (takes_next acting) refl (one_further count) where
  by : (next : Option Done) → takes_next acting ≡ next → ((from : Acting) (done : Done) → takes_next (takes count from).acting ≡ Some done → (takes (suc count) from).acting ≡ done.acting) → (takes (suc (suc count)) acting).acting ≡ done.acting
  by None none further = absurd (none-some done (sym none ∙ subst (λ o. takes_next (goes_on o acting (takes count)).acting ≡ Some done) none is))
  by (Some first) next further = ap (λ o. (goes_on o acting (takes (suc count))).acting) next ∙ further first.acting done (subst (λ o. takes_next (goes_on o acting (takes count)).acting ≡ Some done) next is)

module _ {S : Type 0} (kept : Keeping S) where
  -- what was read, and no more, is stored still
  pub all_stood : (old new : S) → ((log : Log) → kept.stands old log → kept.stands new log) → AllStay kept old new
  all_stood old new stood name epoch rows stored = record { log = stored.log; stood = stood stored.log stored.stood; part = stored.part; known = stored.known }

  pub all_same : (old new : S) → new ≡ old → AllStay kept old new
  all_same old new same name epoch rows stored = subst (λ s. IsStored kept s name epoch rows) (sym same) stored

  -- a realm at work is stored as it is
  pub stored_as : (stored_core : StoredCore S) (place : ℕ) (actor : Actor) (acting : Acting) → IsActing kept stored_core place actor acting → IsStoredAs kept stored_core.store acting
  stored_as stored_core place actor acting is = subst (λ n. IsStored kept stored_core.store n acting.world.state.head.epoch acting.world.rows) is.named is.stored

  -- nothing was stored yet
  pub not_begun : (stored_core : StoredCore S) (new : S) (place : ℕ) (actor : Actor) (acting : Acting) (points : ℕ → Acting) → points 0 ≡ acting → IsActing kept stored_core place actor acting → AllStay kept stored_core.store new → Halts kept stored_core.store new actor.name points
  not_begun stored_core new place actor acting points first is stays = record {
    point = 0;
    named = ap (λ (a : Acting). a.name) first ∙ sym is.own.name;
    own = subst (IsStoredAs kept new) (sym first) (stays acting.name acting.world.state.head.epoch acting.world.rows (stored_as stored_core place actor acting is));
    others = λ other epoch rows differ stored. stays other epoch rows stored;
  }

  -- it was done whole
  pub all_done : (stored_core stored_core' : StoredCore S) (place : ℕ) (actor actor' : Actor) (printed printed' : List ℕ) (acting : Acting) (done : Done) → IsDone kept stored_core stored_core' place actor actor' printed printed' done → Halts kept stored_core.store stored_core'.store actor.name (around (Some done) acting)
  all_done stored_core stored_core' place actor actor' printed printed' acting done is = record {
    point = 1;
    named = sym is.own.own.name ∙ is.name;
    own = stored_as stored_core' place actor' done.acting is.own;
    others = is.leaves.stored;
  }

  -- or it may not be told
  pub all_told : (stored_core stored_core' : StoredCore S) (place : ℕ) (actor actor' : Actor) (printed printed' : List ℕ) (acting : Acting) (did : Option Done) → Tells kept stored_core stored_core' place actor actor' printed printed' true did → Halts kept stored_core.store stored_core'.store actor.name (around did acting)
  all_told stored_core stored_core' place actor actor' printed printed' acting None told = absurd told
  all_told stored_core stored_core' place actor actor' printed printed' acting (Some done) told = all_done stored_core stored_core' place actor actor' printed printed' acting done told

  -- so it is of another that is stored alike, before and behind
  module _ (old new : S) (name other : List ℕ) (from acting : Acting) (done done' : Done) (named : name ≡ other) (same : from.name ≡ acting.name) (stored : IsStoredAs kept new from → IsStoredAs kept new acting) (same' : done.acting.name ≡ done'.acting.name) (stored' : IsStoredAs kept new done.acting → IsStoredAs kept new done'.acting) (so : Halts kept old new name (around (Some done) from)) where
    rest : (realm : List ℕ) (epoch : ℕ) (rows : List (Key × Row)) → bytes_eq other realm ≡ false → IsStored kept old realm epoch rows → IsStored kept new realm epoch rows
    rest realm epoch rows differ = so.others realm epoch rows (ap (λ n. bytes_eq n realm) named ∙ differ)

    at : (point : ℕ) → (around (Some done) from point).name ≡ name → IsStoredAs kept new (around (Some done) from point) → Halts kept old new other (around (Some done') acting)
    at zero is own = record { point = 0; named = sym same ∙ is ∙ named; own = stored own; others = rest }
    at (suc more) is own = record { point = 1; named = sym same' ∙ is ∙ named; own = stored' own; others = rest }

    pub halts_as : Halts kept old new other (around (Some done') acting)
    halts_as = at so.point so.named so.own
