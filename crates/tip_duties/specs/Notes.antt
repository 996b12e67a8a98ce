-- What the server says to its operator on standard error (ours).
use Rattle.std.specs.Prelude.{ℕ, List, ◌++◌, codes, Some, None}
use Rattle.std.specs.Fmt.{decimal}
use Rattle.tip_duties.specs.declared.note.Connection.{Connection}
use Rattle.tip_duties.specs.declared.note.Note.{Note}
use Rattle.tip_duties.specs.declared.note.Note.TheVariants as note

-- realm, epoch and number: what the identifiers of its transactions begin with
abbrev pub named : Connection → List ℕ
named connection = connection.realm.now ++ codes "-" ++ decimal connection.epoch ++ codes "-" ++ decimal connection.number

-- the line, without its end
abbrev pub noted : Note → List ℕ
noted (note.Made store) = codes "event=made store=" ++ store.now
noted (note.Opened connection peer) = codes "event=opened connection=" ++ named connection ++ codes " peer=" ++ peer.now
noted (note.Dialled connection address) = codes "event=dialled connection=" ++ named connection ++ codes " address=" ++ address.now
noted (note.Identified connection (Some address)) = codes "event=identified connection=" ++ named connection ++ codes " address=" ++ address.now
noted (note.Identified connection None) = codes "event=identified connection=" ++ named connection ++ codes " address=-"
noted (note.Refused realm peer why) = codes "event=refused realm=" ++ realm.now ++ codes " peer=" ++ peer.now ++ codes " why=" ++ why.now
noted (note.Ended connection why) = codes "event=ended connection=" ++ named connection ++ codes " why=" ++ why.now
noted (note.Unreached realm address) = codes "event=unreached realm=" ++ realm.now ++ codes " address=" ++ address.now
noted (note.InDoubt transaction superior) = codes "event=in-doubt transaction=" ++ transaction.now ++ codes " superior=" ++ superior.now
noted (note.Decided transaction outcome) = codes "event=decided transaction=" ++ transaction.now ++ codes " outcome=" ++ outcome.now
noted (note.StoreRefused transaction) = codes "event=store-refused transaction=" ++ transaction.now
noted (note.Frozen realm epoch) = codes "event=frozen realm=" ++ realm.now ++ codes " epoch=" ++ decimal epoch
noted (note.Renewed realm epoch) = codes "event=renewed realm=" ++ realm.now ++ codes " epoch=" ++ decimal epoch
noted (note.NotRenewed realm why) = codes "event=not-renewed realm=" ++ realm.now ++ codes " why=" ++ why.now
noted (note.Uncalled realm) = codes "event=uncalled realm=" ++ realm.now
