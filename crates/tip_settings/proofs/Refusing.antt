-- What a fault says of what was to be read.
use Rattle.std.proofs.Common.{◌≡◌, ◌≢◌, ◌+◌, ℕ, false, List, [], ◌∷◌, length, map, codes, Option, Some, None, Result, Ok, Err, IfErr, IsErr, IsErrAnd, MatchResult, add-one, refl, subst, sym, arith}
use Rattle.tip_settings.proofs.Items.{no_items_read, none_among}
use Rattle.tip_settings.specs.Configurations.{document_of}
use Rattle.tip_settings.specs.Documents.{array_at, each_of}
use Rattle.tip_settings.specs.Faults.{IsWrongAmong, IsWrongAt, Lacks, Refuses}
use Rattle.tip_settings.specs.Reasons.{IsWhy, IsWrong, has_realms}
use Rattle.tip_settings.specs.Realms.{realm_of, setting_of}
use Rattle.tip_settings.specs.declared.config.RealmConfig.{RealmConfig}
use Rattle.tip_settings.specs.declared.fault.ConfigFault.{ConfigFault}
use Rattle.tip_settings.specs.declared.fault.ConfigFault.TheVariants.{Memory, Syntax, Store, Realms, Realm}
use Rattle.tip_settings.specs.declared.fault.RealmFault.{RealmFault}
use Rattle.tip_settings.specs.declared.fault.RealmFault.TheVariants as realm_fault
use Rattle.tip_settings.specs.declared.fault.Wanted.{Wanted}
use Rattle.toml.specs.Data.{Data, Items, Members, as_table, get_item}
use Rattle.toml.specs.View.{items_view}
use Rattle.toml.specs.declared.value.Value.{Value}

-- each fault but want of memory
refusal : {A : Type 0} (fault : ConfigFault) (read : Option A) → Refuses fault read → fault ≢ Memory → read ≡ None
refusal Memory read refuses other = absurd (other refl)
refusal (Syntax line) read refuses other = refuses
refusal Store read refuses other = refuses
refusal Realms read refuses other = refuses
refusal (Realm place wanted) read refuses other = refuses

pub read_refused : {X A : Type 0} (result : Result X ConfigFault) (read : Option A) → IfErr result (λ fault. Refuses fault read) → IfErr result (λ fault. fault ≢ Memory → read ≡ None)
read_refused (Ok x) read h = search
read_refused (Err fault) read h = refusal fault read h

refuses_more : {A B : Type 0} (fault : ConfigFault) (here : Option B) (whole : Option A) → Refuses fault here → (here ≡ None → whole ≡ None) → Refuses fault whole
refuses_more Memory here whole refuses none = tt
refuses_more (Syntax line) here whole refuses none = none refuses
refuses_more Store here whole refuses none = none refuses
refuses_more Realms here whole refuses none = none refuses
refuses_more (Realm place wanted) here whole refuses none = none refuses

-- what one step refuses the whole refuses
pub refused_by : {X A B : Type 0} (result : Result X ConfigFault) (fault : ConfigFault) (here : Option B) (whole : Option A) → IsErr result × IsErrAnd result (λ e. e ≡ fault)
    → Refuses fault here → (here ≡ None → whole ≡ None) → IfErr result (λ e. Refuses e whole)
refused_by (Ok x) fault here whole h refuses none = absurd (cc)
refused_by (Err e) fault here whole h refuses none = subst (λ f. Refuses f whole) (sym h.1) (refuses_more fault here whole refuses none)

wrong_among : (fault : ConfigFault) (index : ℕ) (items : Items) (value : Data) → get_item index items ≡ Some value → IsWrongAt (index + 1) fault value → IsWrongAmong fault items
wrong_among Memory index items value there wrong = tt
wrong_among (Syntax line) index items value there wrong = wrong
wrong_among Store index items value there wrong = wrong
wrong_among Realms index items value there wrong = none_among as_table index items value there wrong
wrong_among (Realm place wanted) index items value there wrong = rw (wrong.0, add-one) (rw there wrong.1)

-- what is wrong with one item is wrong with the array
pub wrong_by : {X : Type 0} (result : Result X ConfigFault) (fault : ConfigFault) (index : ℕ) (items : Items) (value : Data) → IsErr result × IsErrAnd result (λ e. e ≡ fault)
    → get_item index items ≡ Some value → IsWrongAt (index + 1) fault value → IfErr result (λ e. IsWrongAmong e items)
wrong_by (Ok x) fault index items value h there wrong = absurd (cc)
wrong_by (Err e) fault index items value h there wrong = subst (λ f. IsWrongAmong f items) (sym h.1) (wrong_among fault index items value there wrong)

why_of : (fault : ConfigFault) (octets : List ℕ) (table : Members) → document_of octets ≡ Some table → IsWrong fault table → IsWhy fault octets
why_of Memory octets table is wrong = tt
why_of (Syntax line) octets table is wrong = absurd wrong
why_of Store octets table is wrong = (table, is, wrong)
why_of Realms octets table is wrong = (table, is, wrong)
why_of (Realm place wanted) octets table is wrong = (table, is, wrong)

-- what is wrong with a document is wrong with its octets
pub why : {X : Type 0} (result : Result X ConfigFault) (octets : List ℕ) (table : Members) → document_of octets ≡ Some table → IfErr result (λ fault. IsWrong fault table) → IfErr result (λ fault. IsWhy fault octets)
why (Ok x) octets table is h = search
why (Err fault) octets table is h = why_of fault octets table is h

lacks_more : {A B : Type 0} (wanted : Wanted) (fault : RealmFault) (here : Option B) (whole : Option A) → Lacks wanted fault here → (here ≡ None → whole ≡ None) → Lacks wanted fault whole
lacks_more wanted realm_fault.Memory here whole lacks none = tt
lacks_more wanted (realm_fault.Wrong what) here whole lacks none = (lacks.0, none lacks.1)

-- what one step lacks the whole lacks
pub lacked_by : {X A B : Type 0} (seen : X → A) (wanted : Wanted) (result : Result X RealmFault) (fault : RealmFault) (here : Option B) (whole : Option A) → IsErr result × IsErrAnd result (λ e. e ≡ fault)
    → Lacks wanted fault here → (here ≡ None → whole ≡ None) → MatchResult result (λ x. whole ≡ Some (seen x)) (λ e. Lacks wanted e whole)
lacked_by seen wanted (Ok x) fault here whole h lacks none = absurd (cc)
lacked_by seen wanted (Err e) fault here whole h lacks none = subst (λ f. Lacks wanted f whole) (sym h.1) (lacks_more wanted fault here whole lacks none)

-- an array of which no realm is read has no items
pub no_realms : (document : Members) (items values : List Value) (realms : List RealmConfig) → Some (items_view items) ≡ array_at (codes "realm") document → values ≡ items
    → each_of realm_of (items_view values) ≡ Some (map setting_of realms) → length realms ≡ 0 → has_realms document ≡ false
no_realms document items values [] there same read none =
    rw (← there, ← same) (rw (no_items_read realm_of as_table (items_view values) read) refl)
no_realms document items values (realm ∷ realms) there same read none = absurd (omega arith)
