-- The items of an array, read one after another.
use Rattle.std.proofs.Common.{◌≡◌, ℕ, zero, suc, ◌+◌, ◌<◌, ◌≤◌, List, [], ◌∷◌, ◌++◌, length, drop, get_or, map, Option, Some, None, append-nil, refl, sym, ap, ◌∙◌, append_assoc}
use Rattle.std.proofs.lemmas.List.{drop_all, map-append}
use Rattle.tip_rows.specs.Reading.{◌>>=◌}
use Rattle.toml.proofs.Views.{items_view-drop}
use Rattle.toml.specs.Data.{Data, Items, no_items, item, get_item}
use Rattle.toml.specs.View.{items_view, view}
use Rattle.toml.specs.declared.value.Value.{Value}
use Rattle.tip_settings.specs.Documents.{each_of}

-- what is read in front of the others
abbrev pub behind : {A : Type 0} → List A → Option (List A) → Option (List A)
behind done rest = rest >>= (λ xs. Some (done ++ xs))

behind_more : {A : Type 0} (done : List A) (x : A) (rest : Option (List A)) → behind done (rest >>= (λ xs. Some (x ∷ xs))) ≡ behind (done ++ x ∷ []) rest
behind_more done x None = refl
behind_more done x (Some xs) = ap Some (sym (append_assoc done (x ∷ []) xs))

-- one item more is read
pub one_more : {A : Type 0} (read : Data → Option A) (values : List Value) (index : ℕ) (value : Value) (done : List A) (x : A) → index < length values → value ≡ get_or values index value
    → each_of read (items_view values) ≡ behind done (each_of read (items_view (drop index values))) → read (view value) ≡ Some x
    → each_of read (items_view values) ≡ behind (done ++ x ∷ []) (each_of read (items_view (drop (index + 1) values)))
unfolding each_of
one_more read values index value done x within is so_far here =
    so_far ∙ ap (λ items. behind done (each_of read items)) (items_view-drop values index value within)
    ∙ ap (λ first. behind done (first >>= (λ y. each_of read (items_view (drop (index + 1) values)) >>= (λ ys. Some (y ∷ ys))))) (ap (λ v. read (view v)) (sym is) ∙ here)
    ∙ behind_more done x (each_of read (items_view (drop (index + 1) values)))

-- the same items in front
pub followed : {A : Type 0} (read : Data → Option A) (values : List Value) (index : ℕ) (done new : List A) → new ≡ done → each_of read (items_view values) ≡ behind done (each_of read (items_view (drop index values)))
    → each_of read (items_view values) ≡ behind new (each_of read (items_view (drop index values)))
followed read values index done new same so_far = so_far ∙ ap (λ xs. behind xs (each_of read (items_view (drop index values)))) (sym same)

-- the same, where each is kept in another form
pub one_more_kept : {X A : Type 0} (seen : X → A) (read : Data → Option A) (values : List Value) (index : ℕ) (value : Value) (old new : List X) (x : X) → index < length values → value ≡ get_or values index value
    → new ≡ old ++ x ∷ [] → each_of read (items_view values) ≡ behind (map seen old) (each_of read (items_view (drop index values))) → read (view value) ≡ Some (seen x)
    → each_of read (items_view values) ≡ behind (map seen new) (each_of read (items_view (drop (index + 1) values)))
one_more_kept seen read values index value old new x within is pushed so_far here =
    followed read values (index + 1) (map seen old ++ seen x ∷ []) (map seen new) (ap (map seen) pushed ∙ map-append seen old (x ∷ []))
    (one_more read values index value (map seen old) (seen x) within is so_far here)

-- an item that is not read
pub not_read : {A : Type 0} (read : Data → Option A) (values : List Value) (index : ℕ) (value : Value) (done : List A) → index < length values → value ≡ get_or values index value
    → each_of read (items_view values) ≡ behind done (each_of read (items_view (drop index values))) → read (view value) ≡ None
    → each_of read (items_view values) ≡ None
unfolding each_of
not_read read values index value done within is so_far here =
    so_far ∙ ap (λ items. behind done (each_of read items)) (items_view-drop values index value within)
    ∙ ap (λ first. behind done (first >>= (λ y. each_of read (items_view (drop (index + 1) values)) >>= (λ ys. Some (y ∷ ys))))) (ap (λ v. read (view v)) (sym is) ∙ here)

-- an item that is not read, at its index
pub none_among : {A : Type 0} (read : Data → Option A) (index : ℕ) (items : Items) (value : Data) → get_item index items ≡ Some value → read value ≡ None → each_of read items ≡ None
unfolding each_of
none_among read index no_items value there none = absurd (cc)
none_among read zero (item first rest) value there none = let same : first ≡ value = cc in rw same (rw none refl)
none_among read (suc index) (item first rest) value there none = nothing_behind (read first) (each_of read rest) (none_among read index rest value there none) where
  nothing_behind : {A : Type 0} (x : Option A) (xs : Option (List A)) → xs ≡ None → (x >>= (λ y. xs >>= (λ ys. Some (y ∷ ys)))) ≡ None
  nothing_behind None xs e = refl
  nothing_behind (Some x) xs e = rw e refl

-- where nothing is read there are no items
pub no_items_read : {A B : Type 0} (read : Data → Option A) (other : Data → Option B) (items : Items) → each_of read items ≡ Some [] → each_of other items ≡ Some []
unfolding each_of
no_items_read read other no_items none = refl
no_items_read read other (item first rest) none = absurd (some_read (read first) (each_of read rest) none) where
  some_read : {A : Type 0} (x : Option A) (xs : Option (List A)) → ¬ ((x >>= (λ y. xs >>= (λ ys. Some (y ∷ ys)))) ≡ Some [])
  some_read None xs e = cc
  some_read (Some x) None e = cc
  some_read (Some x) (Some xs) e = cc

-- all are read
pub all_read : {A : Type 0} (read : Data → Option A) (values : List Value) (index : ℕ) (done : List A) → length values ≤ index
    → each_of read (items_view values) ≡ behind done (each_of read (items_view (drop index values))) → each_of read (items_view values) ≡ Some done
unfolding each_of
all_read read values index done over so_far = so_far ∙ ap (λ left. behind done (each_of read (items_view left))) (drop_all index values over) ∙ ap Some (append-nil done)
