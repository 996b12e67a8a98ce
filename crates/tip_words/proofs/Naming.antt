-- Words in which `clap` finds no fault name one of the orders.
use Rattle.std.proofs.Common.{◌≡◌, ◌∙◌, ℕ, Bool, cond, not, ◌&&◌, ◌||◌, true, false, List, [], ◌∷◌, Option, Some, None, refl, sym, ap, codes, is_some, true≢false}
use Rattle.std.specs.Prelude.{IsSomeAnd, option_map}
use Rattle.std.specs.List.{fold, list_any}
use Rattle.std.specs.Str.{bytes_eq}
use Rattle.std.proofs.lemmas.Slice.Eq.{bytes_eq-Decides}
use Rattle.clap.specs.Words.{App, Kinds, Row, Rule, Shape, Text, built, fault_of, is_simple, is_simple_and_free, subcommand_of}
use Rattle.clap.specs.Lexer.{long_of, short_of}
use Rattle.clap.specs.Kinds.{check_kinds, or_else}
use Rattle.clap.specs.Facts.{explicit_source}
use Rattle.clap.specs.Takes.{is_given}
use Rattle.clap.specs.Faults.{check_fault, defaults_fault, entered_fault, level_fault, other_fault, settle_fault, step_fault, walk_fault, word_fault}
use Rattle.clap.specs.Simple.{argument_words, built_leaf, entered, help_shape, inherited, label_of, marked_built, names_of, on_top, rows_at, with_leaf_noted}
use Rattle.clap.specs.Walk.{Held, Names, Outcome, Step, Waiting, Walk, after_flag, after_step, arg_by_index, answers_to, bundle, done, finished, idle, long_met, arg_by_long, long_or_other, next, nothing_held, option, plain, plain_word, positional, refused, settled, short_or_plain, subcommand, subcommand_met, subcommand_or_other, to_positional, trailing, value, waits, walk, walk_from, walked, walked_from, word_met}
use Rattle.clap.proofs.OnLiterals.{clap_on_literals}
use Rattle.tip_words.specs.Commands.{alone, ask, bare_ask, check, ping, play, query, rows, send, serve, sessions, settle, tipd}
use Rattle.tip_words.specs.Orders.{is_command}

nothing_first : (a b : Kinds) → or_else a b ≡ [] → a ≡ []
nothing_first [] b none = refl
nothing_first (kind ∷ kinds) b none = none

nothing_second : (a b : Kinds) → or_else a b ≡ [] → b ≡ []
nothing_second [] b none = none
nothing_second (kind ∷ kinds) b none = cc

-- it is not `help`
abbrev IsNoHelp : Text → Type 0
IsNoHelp name = bytes_eq name (codes "help") ≡ false

abbrev StepsNoHelp : Step → Type 0
StepsNoHelp (subcommand name) = IsNoHelp name
StepsNoHelp _ = Unit {0}

abbrev StopsNoHelp : Option (Text × List Text) → Type 0
StopsNoHelp None = Unit {0}
StopsNoHelp (Some stop) = IsNoHelp stop.0

plain_is_none : (c : List Rule) (waiting : Waiting) (word : Text) (h : Held) → StepsNoHelp (plain_word c waiting word h).1
plain_is_none c (option id) word h = tt
plain_is_none c idle word h = tt
plain_is_none c positional word h = tt

flag_is_none : (c : List Rule) (waiting : Waiting) (word : Text) (h : Held) (outcome : Outcome) → StepsNoHelp (after_flag c waiting word h outcome).1
flag_is_none c waiting word h done = tt
flag_is_none c waiting word h (waits id) = tt
flag_is_none c waiting word h plain = plain_is_none c waiting word h
flag_is_none c waiting word h refused = plain_is_none c waiting word h

short_is_none : (c : List Rule) (waiting : Waiting) (word : Text) (flags : Option Text) (h : Held) → StepsNoHelp (short_or_plain c waiting word flags h).1
short_is_none c waiting word None h = plain_is_none c waiting word h
short_is_none c waiting word (Some flags) h = flag_is_none c waiting word (bundle c flags h).0 (bundle c flags h).1

long_is_none : (c : List Rule) (waiting : Waiting) (word : Text) (long : Option (Text × Option Text)) (h : Held) → StepsNoHelp (long_or_other c waiting word long h).1
long_is_none c waiting word None h = short_is_none c waiting word (short_of word) h
long_is_none c waiting word (Some p) h = flag_is_none c waiting word (long_met c (arg_by_long c p.0) p.1 h).0 (long_met c (arg_by_long c p.0) p.1 h).1

-- `help` among the subcommands is a fault
help_is_fault : (is enabled : Bool) (kinds : Kinds) → (kinds ≡ [] → ⊥) → enabled ≡ true → cond (is && enabled) kinds [] ≡ [] → is ≡ false
help_is_fault true enabled kinds some on none = absurd (some (rw on at none))
help_is_fault false enabled kinds some on none = refl

-- a word that is a subcommand, and no fault, is no `help`
other_is_none : (s : Shape) (found : Option Text) (waiting : Waiting) (position : ℕ) (word : Text) (h : Held) → s.disable_help_subcommand ≡ false
    → other_fault s found word h ≡ [] → StepsNoHelp (subcommand_or_other s.rules found waiting position word h).1
other_is_none s (Some name) waiting position word h on none =
    help_is_fault (bytes_eq name (codes "help")) (not s.disable_help_subcommand) _ (λ e. cc) (ap not on) none
other_is_none s None waiting position word h on none = go (bytes_eq word (45 ∷ 45 ∷ []))
  where
    go : (b : Bool) → StepsNoHelp (cond b (h, trailing position) (long_or_other s.rules waiting word (long_of word) h)).1
    go true = tt
    go false = long_is_none s.rules waiting word (long_of word) h

met_is_none : (s : Shape) (names : Names) (is_trailing : Bool) (waiting : Waiting) (position : ℕ) (word : Text) (h : Held) → s.disable_help_subcommand ≡ false
    → word_fault s names is_trailing waiting word h ≡ [] → StepsNoHelp (word_met s.rules names is_trailing waiting position word h).1
met_is_none s names true waiting position word h on none = tt
met_is_none s names false waiting position word h on none = other_is_none s (subcommand_met names waiting word) waiting position word h on none

taken_is_none : (c : List Rule) (word : Text) (w : Walk) (h : Held) (found : Option Rule) → StopsNoHelp w.stopped → StopsNoHelp (to_positional c found word w h).stopped
taken_is_none c word w h None none = none
taken_is_none c word w h (Some rule) none = tt

after_is_none : (c : List Rule) (word : Text) (w : Walk) (h : Held) (step : Step) → StopsNoHelp w.stopped → StepsNoHelp step → StopsNoHelp (after_step c word w h step).stopped
after_is_none c word w h (next waiting) none no_help = none
after_is_none c word w h (trailing position) none no_help = none
after_is_none c word w h (subcommand name) none no_help = no_help
after_is_none c word w h value none no_help = taken_is_none c word w h (arg_by_index c w.position) none

turn_is_none : (s : Shape) (names : Names) (w : Walk) (word : Text) (stopped : Option (Text × List Text)) → w.stopped ≡ stopped → s.disable_help_subcommand ≡ false
    → StopsNoHelp w.stopped → cond (is_some stopped) [] (or_else (word_fault s names w.is_trailing w.waiting word w.held)
    (step_fault s w.position (word_met s.rules names w.is_trailing w.waiting w.position word w.held).0 (word_met s.rules names w.is_trailing w.waiting w.position word w.held).1)) ≡ []
    → StopsNoHelp (walked_from s.rules names stopped w word).stopped
turn_is_none s names w word (Some stop) is on none fault = rw is at none
turn_is_none s names w word None is on none fault =
    after_is_none s.rules word w _ _ none (met_is_none s names w.is_trailing w.waiting w.position word w.held on (nothing_first _ _ fault))

walk_is_none : (s : Shape) (names : Names) (w : Walk) (words : List Text) → s.disable_help_subcommand ≡ false
    → StopsNoHelp w.stopped → walk_fault s names w words ≡ [] → StopsNoHelp (fold (walked s.rules names) w words).stopped
unfolding walk_fault walked
walk_is_none s names w [] on none fault = none
walk_is_none s names w (word ∷ rest) on none fault =
    walk_is_none s names (walked s.rules names w word) rest on
    (turn_is_none s names w word w.stopped refl on none (nothing_first _ _ fault)) (nothing_second _ _ fault)

-- of several subcommands, the last of which is `help`
module _ {A B : Type 0} (f : A → B) (P : B → Type 0) where
  abbrev MayHold : Option A → Type 0
  MayHold found = is_some (option_map f found) ≡ true → IsSomeAnd (option_map f found) P

  this_or : (a : A) (rest : Option A) → P (f a) → MayHold rest → (is_a : Bool) → MayHold (cond is_a (Some a) rest)
  this_or a rest pa behind true found = pa
  this_or a rest pa behind false found = behind found

  not_last : (a : A) (is_a : Bool) → is_a ≡ false → MayHold (cond is_a (Some a) None)
  not_last a true unlike found = absurd (true≢false unlike)
  not_last a false unlike found = absurd (true≢false (sym found))

-- no `help`, seen from its side
help_is_other : (name : Text) → IsNoHelp name → (is : Bool) → bytes_eq (codes "help") name ≡ is → (is || false) ≡ false
help_is_other name unlike false same = refl
help_is_other name unlike true same =
    let here : codes "help" ≡ name = (bytes_eq-Decides (codes "help") name).0 same in
    let there : bytes_eq name (codes "help") ≡ true = (bytes_eq-Decides name (codes "help")).1 (sym here) in
    absurd (true≢false (sym there ∙ unlike))

-- a subcommand, as it is built below `tipd`
abbrev below : App → Shape
below app = built_leaf (inherited (on_top with_leaf_noted (on_top marked_built tipd)).top app.top)

-- the subcommand of `tipd` at which a walk stops
entered_is_order : (stop : Option (Text × List Text)) → StopsNoHelp stop → is_some (entered (built tipd) stop) ≡ true
    → IsSomeAnd (entered (built tipd) stop) (λ found. is_command found.0 ≡ true)
unfolding tipd alone play serve rows check ping query settle send ask bare_ask
entered_is_order None none found = absurd (true≢false (sym found))
entered_is_order (Some stop) none found =
    let met : Shape → Bool = λ s. answers_to stop.0 (label_of s) in
    let rows_of : Shape → Text × List Row = λ s. rows_at s stop.1 in
    let IsOrder : Text × List Row → Type 0 = λ found. is_command found.0 ≡ true in
    this_or rows_of IsOrder (below play) _ refl
    (this_or rows_of IsOrder (below serve) _ refl
    (this_or rows_of IsOrder (below rows) _ refl
    (this_or rows_of IsOrder (below check) _ refl
    (this_or rows_of IsOrder (below ping) _ refl
    (this_or rows_of IsOrder (below query) _ refl
    (this_or rows_of IsOrder (below settle) _ refl
    (this_or rows_of IsOrder (below send) _ refl
    (this_or rows_of IsOrder (below ask) _ refl
    (not_last rows_of IsOrder (built_leaf help_shape) (met (built_leaf help_shape)) (help_is_other stop.0 none _ refl))
    (met (below ask))) (met (below send))) (met (below settle))) (met (below query))) (met (below ping))) (met (below check))) (met (below rows))) (met (below serve))) (met (below play)) found

-- a level without a fault
level_is_faultless : (s : Shape) (names : Names) (h : Held) (words : List Text) (has : Bool) (below : Kinds) → level_fault s names h words has below ≡ []
    → (walk_fault s names (walk_from h) words ≡ []) × (check_fault s (finished s.rules (walk s.rules names h words).held) has ≡ [])
level_is_faultless s names h words has below fault =
    let end = (walk s.rules names h words).held in
    let walking = walk_fault s names (walk_from h) words in
    let settling = settle_fault s.rules s.args_override_self end in
    let defaults = defaults_fault (settled s.rules end).rows s.rules in
    let checking = check_fault s (finished s.rules end) has in
    let after = nothing_second walking (or_else below (or_else settling (or_else defaults checking))) fault in (
      nothing_first walking (or_else below (or_else settling (or_else defaults checking))) fault,
      nothing_second defaults checking (nothing_second settling (or_else defaults checking) (nothing_second below (or_else settling (or_else defaults checking)) after)),
    )

-- a command that needs a subcommand has one
has_subcommand : (has x y : Bool) → check_kinds (not has && (false && x)) (not has && true) y ≡ [] → has ≡ true
has_subcommand true x y none = refl
has_subcommand false x y none = cc

pub names_order : (words : List Text) → fault_of tipd words ≡ [] → IsSomeAnd (subcommand_of tipd words) (λ found. is_command found.0 ≡ true)
unfolding tipd alone
names_order words fault =
    let app = built tipd in
    let given = argument_words tipd words in
    let end = walk app.top.rules (names_of app) nothing_held given in
    let faultless = level_is_faultless app.top (names_of app) nothing_held given (is_some (entered app end.stopped)) (entered_fault app end.stopped) fault in
    let none : StopsNoHelp end.stopped = walk_is_none app.top (names_of app) (walk_from nothing_held) given refl tt faultless.0 in
    let rows_at_end = finished app.top.rules end.held in
    entered_is_order end.stopped none (has_subcommand (is_some (entered app end.stopped)) (not (list_any (λ r. explicit_source r.source) rows_at_end))
    (not (false && is_some (entered app end.stopped)) && list_any (λ a. a.required && not (is_given a.id rows_at_end)) app.top.rules) faultless.1)

pub is_simple_tipd : is_simple tipd ≡ true
unfolding clap_on_literals tipd alone play serve rows check sessions ping query settle send ask bare_ask
is_simple_tipd = refl

pub is_free_tipd : is_simple_and_free tipd ≡ true
unfolding clap_on_literals tipd alone play serve rows check sessions ping query settle send ask bare_ask
is_free_tipd = refl
