-- Lines that are taken until none may be taken.
use Rattle.tip_rows.specs.Logs.{Keeping}
use Rattle.std.proofs.Common.{◌≡◌, ◌≤◌, ◌∙◌, ◌++◌, ℕ, suc, zero, List, Some, None, arith, refl, sym, ap, subst}
use Rattle.std.specs.Str.{bytes_eq}
use Rattle.std.proofs.lemmas.List.{append_assoc, append-nil}
use Rattle.tip_machine.specs.Types.{Event}
use Rattle.tip_actor.specs.Acting.{Acting, Done, Reading, behind, count_of, goes_on, happens, quiet, takes, takes_next}
use Rattle.tip_actor.specs.Halting.{AllStay, Halts, IsStoredAs, around, taken}
use Rattle.tip_actor.specs.Standing.{Actor, Acts, StoredCore, IsActing, IsActor, IsDone, IsNextLine, Leaves}
use Rattle.tip_actor.proofs.Counting.{lowers}
use Rattle.tip_actor.proofs.Doing.{leaves_on, stays}
use Rattle.tip_actor.proofs.Halting.{one_further, stored_as}

-- one line more
one_more : (left : ℕ) (acting : Acting) (done : Done) → takes_next acting ≡ Some done → count_of acting.readings ≤ left → (fewer : ℕ) × (count_of done.acting.readings ≤ fewer) × (takes left acting ≡ behind done.printed (takes fewer done.acting))
one_more zero acting done takes_ enough = absurd (let less = lowers acting done takes_ in omega (arith, less, enough))
one_more (suc left) acting done takes_ enough = (left, let less = lowers acting done takes_ in omega (arith, less, enough), ap (λ o. goes_on o acting (takes left)) takes_)

nothing_more : (left : ℕ) (acting : Acting) → takes_next acting ≡ None → takes left acting ≡ quiet acting
nothing_more zero acting none = refl
nothing_more (suc left) acting none = ap (λ o. goes_on o acting (takes left)) none

module _ {S : Type 0} (kept : Keeping S) where
  -- so many lines more are enough, behind what was done so far
  pub record Settles (start stored_core : StoredCore S) (place : ℕ) (first actor : Actor) (before printed : List ℕ) (acting : Acting) : Type 0 where
    pub now : Done
    pub done : IsDone kept start stored_core place first actor before printed now
    pub count : ℕ
    pub so_far : (takes count acting).acting ≡ now.acting
    pub left : ℕ
    pub enough : count_of now.acting.readings ≤ left
    pub same : takes (count_of acting.readings) acting ≡ behind now.printed (takes left now.acting)

  pub settles_first : (stored_core : StoredCore S) (place : ℕ) (actor : Actor) (printed : List ℕ) (acting : Acting) → IsActing kept stored_core place actor acting → Settles stored_core stored_core place actor actor printed printed acting
  settles_first stored_core place actor printed acting is = record {
    now = quiet acting;
    done = record { own = is; leaves = stays kept stored_core place actor.name; name = refl; text = sym (append-nil printed) };
    count = 0;
    so_far = refl;
    left = count_of acting.readings;
    enough = omega arith;
    same = refl;
  }

  -- a realm whose next line was taken out of its reader
  without_line : (stored_core : StoredCore S) (place : ℕ) (actor actor' : Actor) (acting : Acting) (readings : List Reading) → IsActing kept stored_core place actor acting → IsActor actor' (record acting { readings = readings }) → IsActing kept stored_core place actor' (record acting { readings = readings })
  without_line stored_core place actor actor' acting readings is own = record { served = is.served; stored = is.stored; named = is.named; own = own }

  pub settles_on : (start stored_core stored_core' : StoredCore S) (place : ℕ) (first actor mid actor' : Actor) (before printed printed' : List ℕ) (acting : Acting) (event : Event) (so : Settles start stored_core place first actor before printed acting) →
      IsNextLine mid so.now.acting event → Acts kept stored_core stored_core' place mid actor' printed printed' (happens event) → Settles start stored_core' place first actor' before printed' acting
  settles_on start stored_core stored_core' place first actor mid actor' before printed printed' acting event so next acts =
      let without = record so.now.acting { readings = next.readings } in
      let name : mid.name ≡ actor.name = next.stands.name ∙ sym so.done.own.own.name in
      let done = acts without (without_line stored_core place actor mid so.now.acting next.readings so.done.own next.stands) in
      let more = one_more so.left so.now.acting (happens event without) next.takes so.enough in
      record {
        now = behind so.now.printed (happens event without);
        done = record {
          own = done.own;
          leaves = leaves_on kept start stored_core stored_core' place first.name so.done.leaves (subst (Leaves kept stored_core stored_core' place) (name ∙ so.done.name) done.leaves);
          name = done.name ∙ name ∙ so.done.name;
          text = done.text ∙ ap (λ t. t ++ (happens event without).printed) so.done.text ∙ append_assoc before so.now.printed (happens event without).printed;
        };
        count = suc so.count;
        so_far = one_further so.count acting (happens event without) (ap takes_next so.so_far ∙ next.takes);
        left = more.0;
        enough = more.1;
        same = so.same ∙ ap (behind so.now.printed) more.2 ∙ ap (λ t. record (takes more.0 (happens event without).acting) { printed = t }) (sym (append_assoc so.now.printed (happens event without).printed (takes more.0 (happens event without).acting).printed));
      }

  pub settled : (start stored_core : StoredCore S) (place : ℕ) (first actor last : Actor) (before printed : List ℕ) (acting : Acting) (so : Settles start stored_core place first actor before printed acting) → takes_next so.now.acting ≡ None → IsActor last so.now.acting → IsDone kept start stored_core place first last before printed (takes (count_of acting.readings) acting)
  settled start stored_core place first actor last before printed acting so none is =
      subst (IsDone kept start stored_core place first last before printed) (sym (so.same ∙ ap (behind so.now.printed) (nothing_more so.left so.now.acting none) ∙ ap (λ t. record { printed = t; acting = so.now.acting }) (append-nil so.now.printed)))
      (record { own = record { served = so.done.own.served; stored = so.done.own.stored; named = so.done.own.named; own = is }; leaves = so.done.leaves; name = is.name ∙ sym so.done.own.own.name ∙ so.done.name; text = so.done.text })

  -- Where it ends before that

  module _ (start stored_core : StoredCore S) (place : ℕ) (first actor : Actor) (before printed : List ℕ) (acting : Acting) (so : Settles start stored_core place first actor before printed acting) (new : S) where
    -- between two lines
    pub halts_between : AllStay kept stored_core.store new → Halts kept start.store new first.name (taken acting)
    halts_between stays = record {
      point = so.count;
      named = ap (λ (a : Acting). a.name) so.so_far ∙ sym so.done.own.own.name ∙ so.done.name;
      own = subst (IsStoredAs kept new) (sym so.so_far) (stays so.now.acting.name so.now.acting.world.state.head.epoch so.now.acting.world.rows (stored_as kept stored_core place actor so.now.acting so.done.own));
      others = λ other epoch rows differ stored. stays other epoch rows (so.done.leaves.stored other epoch rows differ stored);
    }

    -- or at one
    module _ (mid : Actor) (event : Event) (next : IsNextLine mid so.now.acting event) where
      abbrev without : Acting
      without = record so.now.acting { readings = next.readings }

      name : mid.name ≡ first.name
      name = next.stands.name ∙ sym so.done.own.own.name ∙ so.done.name

      further : (takes (suc so.count) acting).acting ≡ (happens event without).acting
      further = one_further so.count acting (happens event without) (ap takes_next so.so_far ∙ next.takes)

      at : (step : Halts kept stored_core.store new mid.name (around (Some (happens event without)) without)) (point : ℕ) → (around (Some (happens event without)) without point).name ≡ mid.name → IsStoredAs kept new (around (Some (happens event without)) without point) → Halts kept start.store new first.name (taken acting)
      at step zero is own = record {
        point = so.count;
        named = ap (λ (a : Acting). a.name) so.so_far ∙ is ∙ name;
        own = subst (IsStoredAs kept new) (sym so.so_far) own;
        others = λ other epoch rows differ stored. step.others other epoch rows (ap (λ n. bytes_eq n other) name ∙ differ) (so.done.leaves.stored other epoch rows differ stored);
      }
      at step (suc more) is own = record {
        point = suc so.count;
        named = ap (λ (a : Acting). a.name) further ∙ is ∙ name;
        own = subst (IsStoredAs kept new) (sym further) own;
        others = λ other epoch rows differ stored. step.others other epoch rows (ap (λ n. bytes_eq n other) name ∙ differ) (so.done.leaves.stored other epoch rows differ stored);
      }

      pub halts_taking : ((a : Acting) → IsActing kept stored_core place mid a → Halts kept stored_core.store new mid.name (around (Some (happens event a)) a)) → Halts kept start.store new first.name (taken acting)
      halts_taking halts = let step = halts without (without_line stored_core place actor mid so.now.acting next.readings so.done.own next.stands) in at step step.point step.named step.own
