-- The lines of a script. Their fields stand between single spaces, and a line that is empty says nothing.
use Rattle.std.specs.Prelude.{ℕ, ◌%◌, ◌==◌, List, [], ◌∷◌, ◌++◌, length, map, Bool, true, false, ◌&&◌, ◌||◌, nat_le, Option, Some, None, Result, Ok, Err, codes, if◌then◌else◌}
use Rattle.std.specs.List.{list_all, join_with_byte}
use Rattle.std.specs.Str.{bytes_eq}
use Rattle.hex.specs.Hex.{decode_of}
use Rattle.hex.specs.declared.error.FromHexError.{FromHexError}
use Rattle.tip_branch.specs.declared.branch.Plan.{Plan}
use Rattle.tip_branch.specs.declared.branch.Plan.TheVariants as plan
use Rattle.tip_line.specs.Fields.{fields_of}
use Rattle.tip_line.specs.Ids.{number_in}
use Rattle.tip_line.specs.Words.{is_realm, has_octets}
use Rattle.tip_machine.specs.declared.connection.Purpose.{Purpose}
use Rattle.tip_machine.specs.declared.connection.Purpose.TheVariants as purpose
use Rattle.tip_machine.specs.declared.head.Limits.{Limits}

-- what a line says
pub data Move : Type 0 where
  -- a realm is declared
  Declare : (name : List ℕ) → (address : List ℕ) → (branches : ℕ) → (limits : Limits) → Move
  -- the branches of a realm's transactions have these labels, by number
  Label : (realm : List ℕ) → (labels : List (List ℕ)) → Move
  -- another manager opens a connection of a realm, and boxes of these plans come with it
  Open : (realm : List ℕ) → (plans : List Plan) → Move
  -- we open a connection of a realm for a purpose, and boxes of these plans come with it
  Dial : (realm : List ℕ) → (address : List ℕ) → (plans : List Plan) → (purpose : Purpose) → Move
  -- octets come on a connection
  Feed : (realm : List ℕ) → (connection : ℕ) → (octets : List ℕ) → Move
  -- a connection is lost
  Lose : (realm : List ℕ) → (connection : ℕ) → Move
  -- a transaction of the realm is to be pushed to the other side of a connection
  Push : (realm : List ℕ) → (connection : ℕ) → (id : List ℕ) → Move
  -- a transaction of the other side is to be pulled here
  Pull : (realm : List ℕ) → (connection : ℕ) → (superior : List ℕ) → Move
  -- the realm's oldest errand is done, and its party comes back
  Go : (realm : List ℕ) → Move
  -- the realm's oldest errand is lost
  Drop : (realm : List ℕ) → Move
  -- the realm goes on with a transaction that is committed
  Resume : (realm : List ℕ) → (id : List ℕ) → Move
  -- the realm's next change of rows is to be refused
  Refuse : (realm : List ℕ) → Move
  -- the realm starts again while the others run
  Renew : (realm : List ℕ) → Move
  -- the process starts again
  Restart : Move

-- the realm that it is of; a restart is of all
abbrev pub realm_of : Move → Option (List ℕ)
realm_of (Declare name address branches limits) = Some name
realm_of (Label realm labels) = Some realm
realm_of (Open realm plans) = Some realm
realm_of (Dial realm address plans purpose) = Some realm
realm_of (Feed realm connection octets) = Some realm
realm_of (Lose realm connection) = Some realm
realm_of (Push realm connection id) = Some realm
realm_of (Pull realm connection superior) = Some realm
realm_of (Go realm) = Some realm
realm_of (Drop realm) = Some realm
realm_of (Resume realm id) = Some realm
realm_of (Refuse realm) = Some realm
realm_of (Renew realm) = Some realm
realm_of Restart = None

-- does a realm start again? then the boxes that come with the move are for the branches of its stored rows
abbrev pub is_start : Move → Bool
is_start (Renew realm) = true
is_start Restart = true
is_start other = false

-- the boxes that a move names
abbrev pub plans_with : Move → List Plan
plans_with (Open realm plans) = plans
plans_with (Dial realm address plans purpose) = plans
plans_with other = []

abbrev pub plans_in : Option Move → List Plan
plans_in None = []
plans_in (Some move) = plans_with move

-- what is left of a line, spaces included
abbrev pub rest_of : List (List ℕ) → List ℕ
rest_of fields = join_with_byte 32 fields

infixl 10 ◌>>=◌
abbrev pub ◌>>=◌ : {A B : Type 0} → Option A → (A → Option B) → Option B
None >>= f = None
(Some x) >>= f = f x

abbrev pub realm_in : List ℕ → Option (List ℕ)
realm_in field = if is_realm field then Some field else None

-- Hexadecimal digits

abbrev pub is_decimal : ℕ → Bool
is_decimal octet = nat_le 48 octet && nat_le octet 57

abbrev pub is_letter : ℕ → Bool
is_letter octet = nat_le 97 octet && nat_le octet 102

abbrev pub is_digit : ℕ → Bool
is_digit octet = is_decimal octet || is_letter octet

-- one or more pairs of 0 to 9 and a to f
abbrev pub is_hex : List ℕ → Bool
is_hex digits = has_octets digits && (length digits % 2 == 0) && list_all is_digit digits

abbrev pub decoded : Result (List ℕ) FromHexError → List ℕ
decoded (Ok octets) = octets
decoded (Err why) = []

-- the octets that the pairs say
abbrev pub octets_in : List ℕ → List ℕ
octets_in digits = decoded (decode_of digits)

-- Boxes, a letter for each: y votes yes, n no, r read-only; l votes yes, and its first commit is answered Later

abbrev pub plan_of : ℕ → Plan
plan_of octet = if octet == 121 then plan.Yes else if octet == 110 then plan.No else if octet == 114 then plan.ReadOnly else plan.Late

abbrev pub plans_of : List ℕ → List Plan
plans_of kinds = map plan_of kinds

abbrev pub is_kind : ℕ → Bool
is_kind octet = (octet == 121) || (octet == 110) || (octet == 114) || (octet == 108)

abbrev pub are_kinds : List ℕ → Bool
are_kinds field = has_octets field && list_all is_kind field

-- the letters of a field; - stands for none
abbrev pub kinds_in : List ℕ → Option (List ℕ)
kinds_in field = if bytes_eq field (codes "-") then Some [] else if are_kinds field then Some field else None

-- The forms of a line, by the fields behind its first word

-- CONNECTIONS TRANSACTIONS BRANCHES BOXES ENTRIES: how many branches each transaction has, and the limits
unfoldable pub sizes_in : List (List ℕ) → Option (ℕ × Limits)
sizes_in (connections ∷ transactions ∷ branches ∷ boxes ∷ entries ∷ []) = do
  c ← number_in connections
  t ← number_in transactions
  b ← number_in branches
  x ← number_in boxes
  e ← number_in entries
  Some (b, record { connections = c; transactions = t; boxes = x; entries = e })
sizes_in fields = None

-- realm NAME ADDRESS and the sizes
unfoldable pub declaration : List (List ℕ) → Option Move
declaration (name ∷ address ∷ numbers) = do
  realm ← realm_in name
  sizes ← sizes_in numbers
  Some (Declare realm address sizes.0 sizes.1)
declaration fields = None

-- labels REALM LABEL LABEL ..
unfoldable pub labelling : List (List ℕ) → Option Move
labelling (realm ∷ label ∷ labels) = do
  name ← realm_in realm
  Some (Label name (label ∷ labels))
labelling fields = None

-- open REALM BOXES
unfoldable pub opening : List (List ℕ) → Option Move
opening (realm ∷ boxes) = do
  name ← realm_in realm
  kinds ← kinds_in (rest_of boxes)
  Some (Open name (plans_of kinds))
opening fields = None

-- line REALM CONNECTION TEXT: the text and the end of a line
unfoldable pub text_line : List (List ℕ) → Option Move
text_line (realm ∷ connection ∷ text) = do
  name ← realm_in realm
  number ← number_in connection
  if has_octets (rest_of text) then Some (Feed name number (rest_of text ++ 10 ∷ [])) else None
text_line fields = None

-- raw REALM CONNECTION HEX
unfoldable pub hex_octets : List (List ℕ) → Option Move
hex_octets (realm ∷ connection ∷ digits) = do
  name ← realm_in realm
  number ← number_in connection
  if is_hex (rest_of digits) then Some (Feed name number (octets_in (rest_of digits))) else None
hex_octets fields = None

-- lost REALM CONNECTION
unfoldable pub loss : List (List ℕ) → Option Move
loss (realm ∷ connection ∷ []) = do
  name ← realm_in realm
  number ← number_in connection
  Some (Lose name number)
loss fields = None

-- plain, query ID, or reconnect ID NUMBER: what a connection is dialled for
unfoldable pub purpose_in : List (List ℕ) → Option Purpose
purpose_in (word ∷ []) = if bytes_eq word (codes "plain") then Some purpose.Plain else None
purpose_in (word ∷ id ∷ []) = if bytes_eq word (codes "query") then Some (purpose.Query id) else None
purpose_in (word ∷ id ∷ place ∷ []) = if bytes_eq word (codes "reconnect") then number_in place >>= (λ number. Some (purpose.Reconnect id number)) else None
purpose_in fields = None

-- dial REALM ADDRESS BOXES and the purpose
unfoldable pub dialling : List (List ℕ) → Option Move
dialling (realm ∷ address ∷ boxes ∷ words) = do
  name ← realm_in realm
  kinds ← kinds_in boxes
  purpose ← purpose_in words
  Some (Dial name address (plans_of kinds) purpose)
dialling fields = None

-- a connection of a realm, and an identifier
pub record Asking : Type 0 where
  pub realm : List ℕ
  pub connection : ℕ
  pub id : List ℕ

-- REALM CONNECTION ID
unfoldable pub asking : List (List ℕ) → Option Asking
asking (realm ∷ connection ∷ id ∷ []) = do
  name ← realm_in realm
  number ← number_in connection
  Some (record { realm = name; connection = number; id = id })
asking fields = None

-- dial REALM ADDRESS BOXES PURPOSE, push REALM CONNECTION ID and pull REALM CONNECTION ID
unfoldable pub request_in : List ℕ → List (List ℕ) → Option Move
request_in word fields =
    if bytes_eq word (codes "dial") then dialling fields
    else if bytes_eq word (codes "push") then asking fields >>= (λ asked. Some (Push asked.realm asked.connection asked.id))
    else if bytes_eq word (codes "pull") then asking fields >>= (λ asked. Some (Pull asked.realm asked.connection asked.id))
    else None

-- a realm, and no more
unfoldable pub realm_alone : List (List ℕ) → Option (List ℕ)
realm_alone (realm ∷ []) = realm_in realm
realm_alone fields = None

-- resume REALM ID
unfoldable pub resumption : List (List ℕ) → Option Move
resumption (realm ∷ id ∷ []) = do
  name ← realm_in realm
  Some (Resume name id)
resumption fields = None

-- restart, and no more
unfoldable pub restarting : List (List ℕ) → Option Move
restarting [] = Some Restart
restarting fields = None

-- go, drop, refuse or renew REALM, resume REALM ID, restart, and labels REALM LABELS; else what we ask of other managers
unfoldable pub order_in : List ℕ → List (List ℕ) → Option Move
order_in word fields =
    if bytes_eq word (codes "go") then realm_alone fields >>= (λ realm. Some (Go realm))
    else if bytes_eq word (codes "drop") then realm_alone fields >>= (λ realm. Some (Drop realm))
    else if bytes_eq word (codes "refuse") then realm_alone fields >>= (λ realm. Some (Refuse realm))
    else if bytes_eq word (codes "renew") then realm_alone fields >>= (λ realm. Some (Renew realm))
    else if bytes_eq word (codes "resume") then resumption fields
    else if bytes_eq word (codes "restart") then restarting fields
    else if bytes_eq word (codes "labels") then labelling fields
    else request_in word fields

-- what a line says; None where it is not understood
unfoldable pub move_in : List (List ℕ) → Option Move
move_in (word ∷ fields) =
    if bytes_eq word (codes "realm") then declaration fields
    else if bytes_eq word (codes "open") then opening fields
    else if bytes_eq word (codes "line") then text_line fields
    else if bytes_eq word (codes "raw") then hex_octets fields
    else if bytes_eq word (codes "lost") then loss fields
    else order_in word fields
move_in [] = None

abbrev pub move_of : List ℕ → Option Move
move_of line = move_in (fields_of 32 line)
