-- A script that comes in two parts, cut into lines.
use Rattle.std.proofs.Common.{◌≡◌, ◌<◌, ◌++◌, ◌∷◌, [], ℕ, List, Bool, true, false, not, cond, if◌then◌else◌, length, take, arith, refl, sym, ap, ◌∙◌, length-append}
use Rattle.std.specs.Prelude.{count_by, slice_index_or}
use Rattle.std.specs.List.{list_all, onto_first}
use Rattle.std.proofs.Math.Seq.{get_or-append_seam}
use Rattle.std.proofs.lemmas.List.{append_assoc, append-nil, take_at}
use Rattle.std.proofs.lemmas.List.Splits.{length-slice_split}
use Rattle.tip_line.proofs.StopLemmas.{and_left, and_right}
use Rattle.script_lines.specs.Lines.{is_inner, is_line_feed}
use Rattle.tip_play.specs.Transcripts.{lines_of, ended, unended}

pub not_is : (is : Bool) → not is ≡ true → is ≡ false
not_is true e = sym e
not_is false e = refl

-- Octet after octet

-- the lines that have ended, behind what has come of an open one
abbrev pub ended_from : List ℕ → List ℕ → List (List ℕ)
ended_from line [] = []
ended_from line (octet ∷ rest) = if is_line_feed octet then line ∷ ended_from [] rest else ended_from (line ++ octet ∷ []) rest

-- and what has come of the line that is open at the end
abbrev pub unended_from : List ℕ → List ℕ → List ℕ
unended_from line [] = line
unended_from line (octet ∷ rest) = if is_line_feed octet then unended_from [] rest else unended_from (line ++ octet ∷ []) rest

-- all lines of what comes behind an open one, the last of them without its end
abbrev pub lines_from : List ℕ → List ℕ → List (List ℕ)
lines_from line rest = ended_from line rest ++ unended_from line rest ∷ []

-- what is open goes on in the first of these lines
abbrev open_in : List ℕ → List (List ℕ) → List (List ℕ)
open_in line [] = []
open_in line (first ∷ others) = (line ++ first) ∷ others

open_none : (lines : List (List ℕ)) → open_in [] lines ≡ lines
open_none [] = refl
open_none (line ∷ lines) = refl

open_octet : (line : List ℕ) (octet : ℕ) (lines : List (List ℕ)) → 0 < length lines → open_in line (onto_first octet lines) ≡ open_in (line ++ octet ∷ []) lines
open_octet line octet [] some = absurd (omega (arith, some))
open_octet line octet (first ∷ others) some = ap (λ l. l ∷ others) (sym (append_assoc line (octet ∷ []) first))

some_line : (script : List ℕ) → 0 < length (lines_of script)
some_line script = let lines = length-slice_split is_line_feed script in omega (arith, lines)

cut : (line script : List ℕ) → open_in line (lines_of script) ≡ lines_from line script
cut line [] = ap (λ l. l ∷ []) (append-nil line)
cut line (x ∷ xs) = elim (is_line_feed x) as (λ is. open_in line (cond is ([] ∷ lines_of xs) (onto_first x (lines_of xs))) ≡ (if is then line ∷ ended_from [] xs else ended_from (line ++ x ∷ []) xs) ++ (if is then unended_from [] xs else unended_from (line ++ x ∷ []) xs) ∷ []) [
  | true ↦ ap (λ l. l ∷ lines_of xs) (append-nil line) ∙ ap (λ lines. line ∷ lines) (sym (open_none (lines_of xs)) ∙ cut [] xs)
  | false ↦ open_octet line x (lines_of xs) (some_line xs) ∙ cut (line ++ x ∷ []) xs
]

lines_are : (script : List ℕ) → lines_of script ≡ lines_from [] script
lines_are script = sym (open_none (lines_of script)) ∙ cut [] script

count : (script : List ℕ) → length (ended_from [] script) ≡ count_by is_line_feed script
count script =
    let all = length-slice_split is_line_feed script in
    let same = ap length (lines_are script) in
    let one = length-append (ended_from [] script) (unended_from [] script ∷ []) in
    omega (arith, all, same, one)

ended_is : (script : List ℕ) → ended script ≡ ended_from [] script
ended_is script = ap (take (count_by is_line_feed script)) (lines_are script) ∙ take_at (ended_from [] script) (unended_from [] script ∷ []) (count_by is_line_feed script) (count script)

unended_is : (script : List ℕ) → unended script ≡ unended_from [] script
unended_is script =
    ap (λ lines. slice_index_or lines (count_by is_line_feed script) []) (lines_are script)
    ∙ ap (λ n. slice_index_or (lines_from [] script) n []) (sym (count script))
    ∙ get_or-append_seam (ended_from [] script) (unended_from [] script) [] []

-- the last of all lines is the one that has not ended
pub last_line : (script : List ℕ) → lines_of script ≡ ended script ++ unended script ∷ []
last_line script = rw (ended_is script, unended_is script) (lines_are script)

-- A script that goes on

pub ended_behind : (line xs ys : List ℕ) → ended_from line (xs ++ ys) ≡ ended_from line xs ++ ended_from (unended_from line xs) ys
ended_behind line [] ys = refl
ended_behind line (x ∷ xs) ys = elim (is_line_feed x) as (λ is. (if is then line ∷ ended_from [] (xs ++ ys) else ended_from (line ++ x ∷ []) (xs ++ ys)) ≡ (if is then line ∷ ended_from [] xs else ended_from (line ++ x ∷ []) xs) ++ ended_from (if is then unended_from [] xs else unended_from (line ++ x ∷ []) xs) ys) [
  | true ↦ ap (λ lines. line ∷ lines) (ended_behind [] xs ys)
  | false ↦ ended_behind (line ++ x ∷ []) xs ys
]

pub unended_behind : (line xs ys : List ℕ) → unended_from line (xs ++ ys) ≡ unended_from (unended_from line xs) ys
unended_behind line [] ys = refl
unended_behind line (x ∷ xs) ys = elim (is_line_feed x) as (λ is. (if is then unended_from [] (xs ++ ys) else unended_from (line ++ x ∷ []) (xs ++ ys)) ≡ unended_from (if is then unended_from [] xs else unended_from (line ++ x ∷ []) xs) ys) [
  | true ↦ unended_behind [] xs ys
  | false ↦ unended_behind (line ++ x ∷ []) xs ys
]

pub all_lines : (read rest : List ℕ) → lines_of (read ++ rest) ≡ ended read ++ lines_from (unended read) rest
all_lines read rest = lines_are (read ++ rest) ∙ rw (ended_is read, unended_is read, ended_behind, unended_behind, append_assoc) refl

-- The first line begins with what is open.
pub record Begins (line : List ℕ) (lines : List (List ℕ)) : Type 0 where
  pub more : List ℕ
  pub others : List (List ℕ)
  pub are : lines ≡ (line ++ more) ∷ others

pub first_line : (line rest : List ℕ) → Begins line (lines_from line rest)
first_line line [] = record { more = []; others = []; are = ap (λ l. l ∷ []) (sym (append-nil line)) }
first_line line (x ∷ rest) = elim (is_line_feed x) as (λ is. Begins line ((if is then line ∷ ended_from [] rest else ended_from (line ++ x ∷ []) rest) ++ (if is then unended_from [] rest else unended_from (line ++ x ∷ []) rest) ∷ [])) [
  | true ↦ record { more = []; others = lines_from [] rest; are = ap (λ l. l ∷ lines_from [] rest) (sym (append-nil line)) }
  | false ↦ let b = first_line (line ++ x ∷ []) rest in record { more = x ∷ b.more; others = b.others; are = b.are ∙ ap (λ l. l ∷ b.others) (append_assoc line (x ∷ []) b.more) }
]

-- What one octet more makes of it

pub ended_feed : (read : List ℕ) → ended (read ++ 10 ∷ []) ≡ ended read ++ unended read ∷ []
ended_feed read = rw (ended_is (read ++ 10 ∷ []), ended_is read, unended_is read) (ended_behind [] read (10 ∷ []))

pub unended_feed : (read : List ℕ) → unended (read ++ 10 ∷ []) ≡ []
unended_feed read = unended_is (read ++ 10 ∷ []) ∙ unended_behind [] read (10 ∷ [])

-- What a line adds that has not ended

alone : (line more : List ℕ) → list_all is_inner more ≡ true → (ended_from line more ≡ []) × (unended_from line more ≡ line ++ more)
alone line [] inner = (refl, sym (append-nil line))
alone line (x ∷ more) inner =
    let other : is_line_feed x ≡ false = not_is (is_line_feed x) (and_left (is_inner x) (list_all is_inner more) inner) in
    let rest = alone (line ++ x ∷ []) more (and_right (is_inner x) (list_all is_inner more) inner) in
    rw other (rest.0, rest.1 ∙ append_assoc line (x ∷ []) more)

pub ended_line : (read line : List ℕ) → unended read ≡ [] → list_all is_inner line ≡ true → ended (read ++ line) ≡ ended read
ended_line read line closed inner =
    rw (ended_is (read ++ line), ended_is read) (ended_behind [] read line ∙ ap (λ left. ended_from [] read ++ ended_from left line) (sym (unended_is read) ∙ closed) ∙ ap (λ l. ended_from [] read ++ l) (alone [] line inner).0 ∙ append-nil (ended_from [] read))

pub unended_line : (read line : List ℕ) → unended read ≡ [] → list_all is_inner line ≡ true → unended (read ++ line) ≡ line
unended_line read line closed inner = unended_is (read ++ line) ∙ unended_behind [] read line ∙ ap (λ left. unended_from left line) (sym (unended_is read) ∙ closed) ∙ (alone [] line inner).1
