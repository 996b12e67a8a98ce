-- The lines of a stream of octets (RFC 2371, section 11).
use Rattle.std.specs.Prelude.{◌≡◌, ℕ, List, [], ◌∷◌, ◌++◌, length, true, false, if◌then◌else◌, Option, Some, None, ◌↔◌, ◌<◌, ◌==◌}
use Rattle.std.specs.List.{list_all}
use Rattle.tip_line.specs.Octets.{is_end, is_printable, is_space, IsWithin, text_of}
use Rattle.tip_line.specs.Stops.{IsCause}
use Rattle.tip_line.specs.declared.lines.Cause.{Cause}
use Rattle.tip_line.specs.declared.lines.Cause.TheVariants.{TooLong, Octet}
use Rattle.tip_line.specs.declared.lines.Line.{Line}
use Rattle.tip_line.specs.declared.lines.Line.TheVariants as line

-- what a stream gives, one after another
pub data Item : Type 0 where
  Text : List ℕ → Item
  Bad : Cause → Item

-- a line's text, or nothing where the line is blank
abbrev pub said : List ℕ → List Item
said line = if list_all is_space line then [] else Text (text_of line) ∷ []

-- A stream and what it gives, by how its first line stops: it has not ended; it is ended by CR or LF, and a stream
-- goes on behind it; or an octet that can't follow makes a fault, behind which nothing is read.
pub data Reads : List ℕ → List Item → Type 0 where
  unended : (line : List ℕ) → IsWithin line → Reads line []
  ended : (line rest : List ℕ) (octet : ℕ) (items : List Item) → IsWithin line → is_end octet ≡ true → Reads rest items → Reads (line ++ octet ∷ rest) (said line ++ items)
  faulty : (line rest : List ℕ) (octet : ℕ) (cause : Cause) → IsWithin line → is_end octet ≡ false → IsCause (length line) octet cause → Reads (line ++ octet ∷ rest) (Bad cause ∷ [])

-- THE SAME AS A FUNCTION, octet by octet: why an octet that ends no line can't follow so many others
abbrev pub cause_of : ℕ → ℕ → Option Cause
cause_of at octet = if at == 1024 then Some TooLong else if is_printable octet then None else Some Octet

-- behind a fault nothing is read
abbrev pub unless : Option Cause → List Item → List Item
unless None items = items
unless (Some cause) items = Bad cause ∷ []

-- what a stream gives behind the octets of its open line
abbrev pub items_from : List ℕ → List ℕ → List Item
items_from line [] = []
items_from line (octet ∷ rest) =
    if is_end octet
    then said line ++ items_from [] rest
    else unless (cause_of (length line) octet) (items_from (line ++ octet ∷ []) rest)

abbrev pub items_of : List ℕ → List Item
items_of octets = items_from [] octets

-- `new` is what is left of `old` behind these items: whatever follows, it gives what `old` gives behind them.
pub record Leaves (old : List ℕ) (items : List Item) (new : List ℕ) : Type 0 where
  pub same : (more : List ℕ) (later : List Item) → Reads (new ++ more) later ↔ Reads (old ++ more) (items ++ later)

abbrev pub item_of : Line → Item
item_of (line.Text text) = Text text.now
item_of (line.Bad cause) = Bad cause

-- What a reader of lines gives from the octets that it has, and what it has then: fewer behind a line. A fault stays.
abbrev pub Gives : List ℕ → Option Item → List ℕ → Type 0
Gives old None new = Reads old [] × Leaves old [] new
Gives old (Some (Text text)) new = Leaves old (Text text ∷ []) new × (length new < length old)
Gives old (Some (Bad cause)) new = ((more : List ℕ) → Reads (old ++ more) (Bad cause ∷ [])) × Leaves old [] new
