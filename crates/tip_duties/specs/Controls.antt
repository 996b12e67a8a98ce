-- Where a realm's own operator is heard (ours).
use Rattle.std.specs.Prelude.{ℕ, List, IfSome, string_bytes}
use Rattle.std.specs.Net.Addr.{IsLoopbackV4, IsLoopbackV6, MatchIp}
use Rattle.std.specs.Net.Grammar.{IsSocketText}
use Rattle.std.specs.Net.Socket.{socket_ip}
use Rattle.std.specs.declared.net.socket_addr.SocketAddr.{SocketAddr}
use Rattle.tip_settings.specs.declared.config.RealmConfig.{RealmConfig}

-- a place that this machine alone reaches: an address of 127.0.0.0/8, or ::1, with a port
abbrev pub IsOwn : List ℕ → Type 0
IsOwn place = (at : SocketAddr) × IsSocketText place at × MatchIp (socket_ip at) IsLoopbackV4 IsLoopbackV6

-- a realm is heard at such a place, if anywhere
abbrev pub HasOwnControl : RealmConfig → Type 0
HasOwnControl realm = IfSome realm.control (λ control. IsOwn (string_bytes control))
