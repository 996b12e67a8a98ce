-- The commands of tipd, as `clap` knows them.
use Rattle.std.specs.Prelude.{◌≡◌, ℕ, List, [], ◌∷◌, Some, true, false, codes, pos}
use Rattle.std.specs.List.{fold}
use Rattle.clap.specs.Words.{App, Rule, app_of, new_app, new_rule, with_rule, with_subcommand}
use Rattle.clap.specs.declared.builder.Command.{Command}
use Rattle.clap.specs.declared.builder.Command.TheViews.{out-Command}
use Rattle.clap.specs.declared.builder.action.ArgAction.TheVariants.{Set}
use Rattle.clap.specs.declared.builder.value_parser.ValueParser.TheVariants as parser

-- an option that takes one value
abbrev pub option : List ℕ → Rule
option name = record (new_rule name) { long = Some name; value_names = 1; action = Some Set }

-- and that has to be there
abbrev pub needed : List ℕ → Rule
needed name = record (option name) { required = true }

-- a value without a name of its own, which has to be there: the next word
abbrev pub given : List ℕ → Rule
given name = record (new_rule name) { value_names = 1; action = Some Set; required = true }

-- one that may be there
abbrev pub maybe : List ℕ → Rule
maybe name = record (new_rule name) { value_names = 1; action = Some Set }

-- a whole number, 1 to 4,294,967,295
unfoldable pub sessions : Rule
sessions = record (option (codes "sessions")) { parser = Some (parser.Signed (pos 1) (pos 4294967295)) }

unfoldable pub play : App
play = with_rule (new_app (codes "play")) (option (codes "store"))

unfoldable pub serve : App
serve = with_rule (with_rule (new_app (codes "serve")) (needed (codes "config"))) sessions

unfoldable pub rows : App
rows = with_rule (new_app (codes "rows")) (needed (codes "store"))

unfoldable pub check : App
check = with_rule (with_rule (new_app (codes "check")) (option (codes "config"))) (option (codes "store"))

unfoldable pub ping : App
ping = with_rule (new_app (codes "ping")) (given (codes "address"))

unfoldable pub query : App
query = with_rule (with_rule (new_app (codes "query")) (given (codes "address"))) (given (codes "id"))

unfoldable pub settle : App
settle = with_rule (with_rule (with_rule (new_app (codes "settle")) (given (codes "address"))) (given (codes "id"))) (given (codes "decision"))

unfoldable pub send : App
send = with_rule (new_app (codes "send")) (given (codes "address"))

-- without the words behind a request's name
unfoldable pub bare_ask : App
bare_ask = with_rule (with_rule (new_app (codes "ask")) (given (codes "control"))) (given (codes "request"))

unfoldable pub ask : App
ask = with_rule (with_rule (with_rule bare_ask (maybe (codes "first"))) (maybe (codes "second"))) (maybe (codes "third"))

-- without its subcommands, one of which is to be named
unfoldable pub alone : App
alone = let named = new_app (codes "tipd") in record named {
  top = record named.top { has_version = true; subcommand_required = true };
}

-- TIPD, with its subcommands
unfoldable pub tipd : App
tipd = fold with_subcommand alone (play.top ∷ serve.top ∷ rows.top ∷ check.top ∷ ping.top ∷ query.top ∷ settle.top ∷ send.top ∷ ask.top ∷ [])

-- a command of the code is this one, and no option of it is another's too
abbrev pub IsCommand : App → Command → Type 0
IsCommand app command = (app_of command ≡ app) × ((out-Command command).has_globals ≡ false)
