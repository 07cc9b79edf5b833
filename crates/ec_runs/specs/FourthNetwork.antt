-- Random scripts with lost, repeated and late messages.
use Rattle.std.specs.Prelude.{[], ◌∷◌, None, Some, codes}
use Rattle.ec_volume.specs.declared.image.Kind.TheVariants as kind
use Rattle.ec_plain.specs.declared.call.Call.TheVariants as call
use Rattle.ec_plain.specs.declared.call.Reply.TheVariants as reply
use Rattle.ec_plain.specs.declared.call.Refusal.TheVariants as no
use Rattle.ec_history.specs.declared.entry.Answer.TheVariants as answer
use Rattle.ec_history.specs.declared.shown.Shown.TheVariants.{Waits, Answered, Durable, Nothing}
use Rattle.ec_wire.specs.declared.msg.MsgKind.TheVariants as msg
use Rattle.ec_protocol.specs.declared.script.Line.TheVariants as line
use Rattle.ec_protocol.specs.Drill.{reads}
use Rattle.ec_protocol.specs.Runs.{Run, A, B, C, D}

abbrev pub net_22 : Run
net_22 =
    record {
      lines =
          reads (line.Call A (call.Fsync (codes "a" ∷ []))) 9
          ∷ reads (line.Call D (call.Write (codes "a" ∷ []) 3 (codes "bazxy"))) 14
          ∷ reads (line.Call A (call.Rename (codes "d" ∷ []) (codes "d" ∷ codes "e" ∷ codes "k" ∷ []))) 13
          ∷ reads (line.Call C (call.Write (codes "e" ∷ codes "a" ∷ []) 0 (codes "bz"))) 16
          ∷ reads (line.Call B call.Sync) 3
          ∷ reads (line.Call B (call.Write (codes "e" ∷ codes "a" ∷ []) 3 (codes "a"))) 16
          ∷ reads (line.Call B (call.Write (codes "d" ∷ codes "a" ∷ []) 4 (codes "yacab"))) 16
          ∷ reads (line.Call D call.Sync) 3
          ∷ reads (line.Call B (call.Mkdir (codes "e" ∷ []))) 9
          ∷ reads (line.Call C (call.Read (codes "e" ∷ codes "a" ∷ []) 1 64)) 15
          ∷ reads (line.Call C (call.Read (codes "e" ∷ codes "a" ∷ []) 3 9)) 15
          ∷ reads (line.Call D (call.Rename [] (codes "d" ∷ codes "a" ∷ []))) 12
          ∷ reads (line.Call A (call.Write (codes "e" ∷ codes "a" ∷ []) 2 (codes "y"))) 16
          ∷ reads (line.Call B (call.Write (codes "e" ∷ codes "a" ∷ []) 2 (codes "y"))) 16
          ∷ reads (line.Call C (call.SetLen (codes "e" ∷ codes "a" ∷ []) 65537)) 15
          ∷ reads (line.Call D (call.Rename (codes "d" ∷ codes "a" ∷ []) (codes "d" ∷ codes "a2" ∷ []))) 15
          ∷ reads (line.Call C (call.Fsync [])) 9
          ∷ reads (line.Call D (call.Write (codes "d" ∷ codes "a" ∷ []) 0 (codes "bbc"))) 16
          ∷ reads (line.Call A (call.SetLen (codes "e" ∷ codes "a" ∷ []) 2)) 15
          ∷ reads (line.Call D (call.Write (codes "d" ∷ codes "a" ∷ []) 2 (codes "yzc"))) 16
          ∷ reads (line.Call D (call.Write (codes "e" ∷ codes "a" ∷ []) 0 (codes "cbz"))) 16
          ∷ reads (line.Push B 1) 8
          ∷ reads (line.Call D (call.Write (codes "e" ∷ codes "a" ∷ []) 3 (codes "cx"))) 16
          ∷ reads (line.Call C (call.Chmod (codes "e" ∷ codes "a" ∷ []) 493)) 14
          ∷ reads (line.Call B (call.Read (codes "a" ∷ []) 1 2)) 13
          ∷ reads (line.Call C (call.Create (codes "e" ∷ codes "a" ∷ []))) 10
          ∷ reads (line.Call D (call.Write (codes "e" ∷ codes "a" ∷ []) 1 (codes "ybyxc"))) 16
          ∷ reads (line.Call A (call.Read (codes "e" ∷ codes "a" ∷ []) 0 9)) 15
          ∷ reads (line.Call A (call.Remove (codes "e" ∷ codes "a" ∷ []))) 10
          ∷ reads (line.Call C (call.Create (codes "a" ∷ []))) 10
          ∷ reads (line.Uncut A) 7
          ∷ reads (line.Call C (call.Stat [])) 8
          ∷ reads (line.Call B (call.Read (codes "a" ∷ []) 1 64)) 13
          ∷ reads (line.Call B (call.Fsync (codes "d" ∷ []))) 9
          ∷ reads (line.Push A 1) 8
          ∷ reads (line.Call A (call.Mkdir (codes "d" ∷ []))) 9
          ∷ reads (line.Call C (call.Rename (codes "a" ∷ []) (codes "d" ∷ codes "a" ∷ []))) 13
          ∷ reads (line.Call C (call.Create (codes "a" ∷ []))) 10
          ∷ reads (line.Call B (call.Create (codes "e" ∷ codes "a" ∷ []))) 10
          ∷ reads (line.Call D (call.Rename (codes "e" ∷ codes "a" ∷ []) (codes "a" ∷ []))) 15
          ∷ reads (line.Call C (call.Write (codes "a" ∷ []) 0 (codes "z"))) 14
          ∷ reads (line.Call C (call.Rename (codes "a" ∷ []) (codes "e" ∷ codes "a" ∷ []))) 13
          ∷ reads (line.Call B (call.Stat (codes "d" ∷ codes "a" ∷ []))) 8
          ∷ reads (line.Call C (call.SetLen (codes "d" ∷ codes "a" ∷ []) 8)) 15
          ∷ reads (line.Call B (call.Write (codes "d" ∷ codes "a" ∷ []) 3 (codes "y"))) 16
          ∷ reads (line.Call B (call.List (codes "e" ∷ codes "a" ∷ []))) 8
          ∷ reads (line.Resend D) 8
          ∷ reads (line.Call D (call.Read (codes "e" ∷ codes "a" ∷ []) 0 64)) 15
          ∷ reads (line.Uncut A) 7
          ∷ reads (line.Call C (call.Fsync (codes "e" ∷ codes "a" ∷ []))) 9
          ∷ reads (line.Call B (call.Fsync [])) 9
          ∷ reads (line.Call C (call.Write (codes "e" ∷ codes "a" ∷ []) 4 (codes "yb"))) 16
          ∷ reads (line.Repeat C msg.Recall 19) 17
          ∷ reads (line.Call C (call.Write (codes "e" ∷ codes "a" ∷ []) 6 (codes "b"))) 16
          ∷ reads (line.Call C (call.Create (codes "e" ∷ codes "a" ∷ []))) 10
          ∷ reads (line.Call D (call.Fsync (codes "d" ∷ codes "a" ∷ []))) 9
          ∷ reads (line.Cut D) 5
          ∷ reads (line.Call C (call.SetLen (codes "e" ∷ codes "a" ∷ []) 2)) 15
          ∷ reads (line.Call C (call.Write (codes "d" ∷ codes "a" ∷ []) 1 (codes "z"))) 16
          ∷ reads (line.Call D (call.Create (codes "e" ∷ codes "a" ∷ []))) 10
          ∷ reads (line.Uncut D) 7
          ∷ reads (line.Resend A) 8
          ∷ reads (line.Resend B) 8
          ∷ reads (line.Resend C) 8
          ∷ reads (line.Resend D) 8
          ∷ reads (line.Resend A) 8
          ∷ reads (line.Resend B) 8
          ∷ reads (line.Resend C) 8
          ∷ reads (line.Resend D) 8
          ∷ reads (line.Call A (call.List [])) 8
          ∷ reads (line.Call B (call.List [])) 8
          ∷ reads (line.Call C (call.List [])) 8
          ∷ reads (line.Call D (call.List [])) 8
          ∷ reads (line.Call B (call.Read (codes "a" ∷ []) 0 64)) 13
          ∷ reads (line.Call C (call.Read (codes "d" ∷ codes "a" ∷ []) 0 64)) 15
          ∷ reads (line.Call D (call.Read (codes "e" ∷ codes "a" ∷ []) 0 64)) 15
          ∷ [];
      fates = [];
      max_objects = 1024;
      shown =
          Waits 1 A (call.Fsync (codes "a" ∷ []))
          ∷ Answered 1 A (call.Fsync (codes "a" ∷ [])) (answer.Reply (reply.Refused (no.NotFound 1))) None
          ∷ Waits 2 D (call.Write (codes "a" ∷ []) 3 (codes "bazxy"))
          ∷ Answered 2 D (call.Write (codes "a" ∷ []) 3 (codes "bazxy")) (answer.Reply (reply.Refused (no.NotFound 1))) None
          ∷ Answered 3 A (call.Rename (codes "d" ∷ []) (codes "d" ∷ codes "e" ∷ codes "k" ∷ [])) (answer.Reply (reply.Refused (no.NotFound 1))) None
          ∷ Waits 4 C (call.Write (codes "e" ∷ codes "a" ∷ []) 0 (codes "bz"))
          ∷ Answered 4 C (call.Write (codes "e" ∷ codes "a" ∷ []) 0 (codes "bz")) (answer.Reply (reply.Refused (no.NotFound 1))) None
          ∷ Answered 5 B call.Sync (answer.Reply reply.Ok) None
          ∷ Waits 6 B (call.Write (codes "e" ∷ codes "a" ∷ []) 3 (codes "a"))
          ∷ Answered 6 B (call.Write (codes "e" ∷ codes "a" ∷ []) 3 (codes "a")) (answer.Reply (reply.Refused (no.NotFound 1))) None
          ∷ Answered 7 B (call.Write (codes "d" ∷ codes "a" ∷ []) 4 (codes "yacab")) (answer.Reply (reply.Refused (no.NotFound 1))) None
          ∷ Answered 8 D call.Sync (answer.Reply reply.Ok) None
          ∷ Waits 9 B (call.Mkdir (codes "e" ∷ []))
          ∷ Answered 9 B (call.Mkdir (codes "e" ∷ [])) (answer.Reply reply.Ok) (Some 1)
          ∷ Waits 10 C (call.Read (codes "e" ∷ codes "a" ∷ []) 1 64)
          ∷ Durable B (1 ∷ [])
          ∷ Answered 10 C (call.Read (codes "e" ∷ codes "a" ∷ []) 1 64) (answer.Reply (reply.Refused (no.NotFound 2))) None
          ∷ Answered 11 C (call.Read (codes "e" ∷ codes "a" ∷ []) 3 9) (answer.Reply (reply.Refused (no.NotFound 2))) None
          ∷ Answered 12 D (call.Rename [] (codes "d" ∷ codes "a" ∷ [])) (answer.Reply (reply.Refused no.Root)) None
          ∷ Waits 13 A (call.Write (codes "e" ∷ codes "a" ∷ []) 2 (codes "y"))
          ∷ Answered 13 A (call.Write (codes "e" ∷ codes "a" ∷ []) 2 (codes "y")) (answer.Reply (reply.Refused (no.NotFound 2))) None
          ∷ Answered 14 B (call.Write (codes "e" ∷ codes "a" ∷ []) 2 (codes "y")) (answer.Reply (reply.Refused (no.NotFound 2))) None
          ∷ Answered 15 C (call.SetLen (codes "e" ∷ codes "a" ∷ []) 65537) (answer.Reply (reply.Refused (no.NotFound 2))) None
          ∷ Waits 16 D (call.Rename (codes "d" ∷ codes "a" ∷ []) (codes "d" ∷ codes "a2" ∷ []))
          ∷ Answered 16 D (call.Rename (codes "d" ∷ codes "a" ∷ []) (codes "d" ∷ codes "a2" ∷ [])) (answer.Reply (reply.Refused (no.NotFound 1))) None
          ∷ Answered 17 C (call.Fsync []) (answer.Reply reply.Ok) None
          ∷ Answered 18 D (call.Write (codes "d" ∷ codes "a" ∷ []) 0 (codes "bbc")) (answer.Reply (reply.Refused (no.NotFound 1))) None
          ∷ Answered 19 A (call.SetLen (codes "e" ∷ codes "a" ∷ []) 2) (answer.Reply (reply.Refused (no.NotFound 2))) None
          ∷ Answered 20 D (call.Write (codes "d" ∷ codes "a" ∷ []) 2 (codes "yzc")) (answer.Reply (reply.Refused (no.NotFound 1))) None
          ∷ Waits 21 D (call.Write (codes "e" ∷ codes "a" ∷ []) 0 (codes "cbz"))
          ∷ Answered 21 D (call.Write (codes "e" ∷ codes "a" ∷ []) 0 (codes "cbz")) (answer.Reply (reply.Refused (no.NotFound 2))) None
          ∷ Nothing
          ∷ Answered 23 D (call.Write (codes "e" ∷ codes "a" ∷ []) 3 (codes "cx")) (answer.Reply (reply.Refused (no.NotFound 2))) None
          ∷ Answered 24 C (call.Chmod (codes "e" ∷ codes "a" ∷ []) 493) (answer.Reply (reply.Refused (no.NotFound 2))) None
          ∷ Answered 25 B (call.Read (codes "a" ∷ []) 1 2) (answer.Reply (reply.Refused (no.NotFound 1))) None
          ∷ Waits 26 C (call.Create (codes "e" ∷ codes "a" ∷ []))
          ∷ Answered 26 C (call.Create (codes "e" ∷ codes "a" ∷ [])) (answer.Reply reply.Ok) (Some 1)
          ∷ Waits 27 D (call.Write (codes "e" ∷ codes "a" ∷ []) 1 (codes "ybyxc"))
          ∷ Durable C (1 ∷ [])
          ∷ Answered 27 D (call.Write (codes "e" ∷ codes "a" ∷ []) 1 (codes "ybyxc")) (answer.Reply reply.Ok) (Some 1)
          ∷ Waits 28 A (call.Read (codes "e" ∷ codes "a" ∷ []) 0 9)
          ∷ Durable D (1 ∷ [])
          ∷ Answered 28 A (call.Read (codes "e" ∷ codes "a" ∷ []) 0 9) (answer.Reply (reply.Data (0 ∷ 121 ∷ 98 ∷ 121 ∷ 120 ∷ 99 ∷ []))) None
          ∷ Waits 29 A (call.Remove (codes "e" ∷ codes "a" ∷ []))
          ∷ Answered 29 A (call.Remove (codes "e" ∷ codes "a" ∷ [])) (answer.Reply reply.Ok) (Some 1)
          ∷ Waits 30 C (call.Create (codes "a" ∷ []))
          ∷ Answered 30 C (call.Create (codes "a" ∷ [])) (answer.Reply reply.Ok) (Some 2)
          ∷ Nothing
          ∷ Answered 32 C (call.Stat []) (answer.Reply (reply.Stat kind.Dir 493 0 0 2)) None
          ∷ Waits 33 B (call.Read (codes "a" ∷ []) 1 64)
          ∷ Durable C (2 ∷ [])
          ∷ Answered 33 B (call.Read (codes "a" ∷ []) 1 64) (answer.Reply (reply.Data [])) None
          ∷ Answered 34 B (call.Fsync (codes "d" ∷ [])) (answer.Reply (reply.Refused (no.NotFound 1))) None
          ∷ Durable A (1 ∷ [])
          ∷ Waits 36 A (call.Mkdir (codes "d" ∷ []))
          ∷ Answered 36 A (call.Mkdir (codes "d" ∷ [])) (answer.Reply reply.Ok) (Some 2)
          ∷ Waits 37 C (call.Rename (codes "a" ∷ []) (codes "d" ∷ codes "a" ∷ []))
          ∷ Durable A (2 ∷ [])
          ∷ Answered 37 C (call.Rename (codes "a" ∷ []) (codes "d" ∷ codes "a" ∷ [])) (answer.Reply reply.Ok) (Some 3)
          ∷ Answered 38 C (call.Create (codes "a" ∷ [])) (answer.Reply reply.Ok) (Some 4)
          ∷ Waits 39 B (call.Create (codes "e" ∷ codes "a" ∷ []))
          ∷ Durable C (3 ∷ 4 ∷ [])
          ∷ Answered 39 B (call.Create (codes "e" ∷ codes "a" ∷ [])) (answer.Reply reply.Ok) (Some 2)
          ∷ Waits 40 D (call.Rename (codes "e" ∷ codes "a" ∷ []) (codes "a" ∷ []))
          ∷ Durable B (2 ∷ [])
          ∷ Answered 40 D (call.Rename (codes "e" ∷ codes "a" ∷ []) (codes "a" ∷ [])) (answer.Reply reply.Ok) (Some 2)
          ∷ Waits 41 C (call.Write (codes "a" ∷ []) 0 (codes "z"))
          ∷ Durable D (2 ∷ [])
          ∷ Answered 41 C (call.Write (codes "a" ∷ []) 0 (codes "z")) (answer.Reply reply.Ok) (Some 5)
          ∷ Waits 42 C (call.Rename (codes "a" ∷ []) (codes "e" ∷ codes "a" ∷ []))
          ∷ Answered 42 C (call.Rename (codes "a" ∷ []) (codes "e" ∷ codes "a" ∷ [])) (answer.Reply reply.Ok) (Some 6)
          ∷ Waits 43 B (call.Stat (codes "d" ∷ codes "a" ∷ []))
          ∷ Durable C (5 ∷ 6 ∷ [])
          ∷ Answered 43 B (call.Stat (codes "d" ∷ codes "a" ∷ [])) (answer.Reply (reply.Stat kind.File 420 0 0 0)) None
          ∷ Waits 44 C (call.SetLen (codes "d" ∷ codes "a" ∷ []) 8)
          ∷ Answered 44 C (call.SetLen (codes "d" ∷ codes "a" ∷ []) 8) (answer.Reply reply.Ok) (Some 7)
          ∷ Waits 45 B (call.Write (codes "d" ∷ codes "a" ∷ []) 3 (codes "y"))
          ∷ Durable C (7 ∷ [])
          ∷ Answered 45 B (call.Write (codes "d" ∷ codes "a" ∷ []) 3 (codes "y")) (answer.Reply reply.Ok) (Some 3)
          ∷ Waits 46 B (call.List (codes "e" ∷ codes "a" ∷ []))
          ∷ Answered 46 B (call.List (codes "e" ∷ codes "a" ∷ [])) (answer.Reply (reply.Refused (no.NotDir 2))) None
          ∷ Waits 48 D (call.Read (codes "e" ∷ codes "a" ∷ []) 0 64)
          ∷ Answered 48 D (call.Read (codes "e" ∷ codes "a" ∷ []) 0 64) (answer.Reply (reply.Data (codes "z"))) None
          ∷ Nothing
          ∷ Answered 50 C (call.Fsync (codes "e" ∷ codes "a" ∷ [])) (answer.Reply reply.Ok) None
          ∷ Answered 51 B (call.Fsync []) (answer.Reply reply.Ok) None
          ∷ Waits 52 C (call.Write (codes "e" ∷ codes "a" ∷ []) 4 (codes "yb"))
          ∷ Answered 52 C (call.Write (codes "e" ∷ codes "a" ∷ []) 4 (codes "yb")) (answer.Reply reply.Ok) (Some 8)
          ∷ Answered 54 C (call.Write (codes "e" ∷ codes "a" ∷ []) 6 (codes "b")) (answer.Reply reply.Ok) (Some 9)
          ∷ Answered 55 C (call.Create (codes "e" ∷ codes "a" ∷ [])) (answer.Reply (reply.Refused no.Exists)) None
          ∷ Waits 56 D (call.Fsync (codes "d" ∷ codes "a" ∷ []))
          ∷ Durable B (3 ∷ [])
          ∷ Answered 56 D (call.Fsync (codes "d" ∷ codes "a" ∷ [])) (answer.Reply reply.Ok) None
          ∷ Answered 58 C (call.SetLen (codes "e" ∷ codes "a" ∷ []) 2) (answer.Reply reply.Ok) (Some 10)
          ∷ Waits 59 C (call.Write (codes "d" ∷ codes "a" ∷ []) 1 (codes "z"))
          ∷ Answered 60 D (call.Create (codes "e" ∷ codes "a" ∷ [])) (answer.Reply (reply.Refused no.Exists)) None
          ∷ Answered 59 C (call.Write (codes "d" ∷ codes "a" ∷ []) 1 (codes "z")) (answer.Reply reply.Ok) (Some 11)
          ∷ Waits 70 A (call.List [])
          ∷ Answered 70 A (call.List []) (answer.Reply (reply.Names (codes "d" ∷ codes "e" ∷ []))) None
          ∷ Answered 71 B (call.List []) (answer.Reply (reply.Names (codes "d" ∷ codes "e" ∷ []))) None
          ∷ Answered 72 C (call.List []) (answer.Reply (reply.Names (codes "d" ∷ codes "e" ∷ []))) None
          ∷ Answered 73 D (call.List []) (answer.Reply (reply.Names (codes "d" ∷ codes "e" ∷ []))) None
          ∷ Answered 74 B (call.Read (codes "a" ∷ []) 0 64) (answer.Reply (reply.Refused (no.NotFound 1))) None
          ∷ Answered 75 C (call.Read (codes "d" ∷ codes "a" ∷ []) 0 64) (answer.Reply (reply.Data (0 ∷ 122 ∷ 0 ∷ 121 ∷ 0 ∷ 0 ∷ 0 ∷ 0 ∷ []))) None
          ∷ Waits 76 D (call.Read (codes "e" ∷ codes "a" ∷ []) 0 64)
          ∷ Durable C (8 ∷ 9 ∷ 10 ∷ [])
          ∷ Answered 76 D (call.Read (codes "e" ∷ codes "a" ∷ []) 0 64) (answer.Reply (reply.Data (122 ∷ 0 ∷ []))) None
          ∷ [];
      status = 0;
    }

abbrev pub net_23 : Run
net_23 =
    record {
      lines =
          reads (line.Call B (call.Mkdir (codes "d" ∷ []))) 9
          ∷ reads (line.Call A (call.Create (codes "a" ∷ []))) 10
          ∷ reads (line.Call A (call.Create (codes "d" ∷ codes "a" ∷ []))) 10
          ∷ reads (line.Call A (call.Fsync (codes "a" ∷ []))) 9
          ∷ reads (line.Call B (call.Touch [] 7)) 11
          ∷ reads (line.Call C (call.Rename (codes "d" ∷ []) (codes "d" ∷ codes "e" ∷ codes "k" ∷ []))) 13
          ∷ reads (line.Call A (call.Write (codes "a" ∷ []) 1 (codes "xy"))) 14
          ∷ reads (line.Cut A) 5
          ∷ reads (line.Resend C) 8
          ∷ reads (line.Call C (call.Create (codes "a" ∷ []))) 10
          ∷ reads (line.Uncut A) 7
          ∷ reads (line.Resend B) 8
          ∷ reads (line.Call C (call.Fsync (codes "d" ∷ []))) 9
          ∷ reads (line.Call C (call.Read (codes "a" ∷ []) 0 64)) 13
          ∷ reads (line.Call C (call.Rename (codes "d" ∷ codes "a" ∷ []) (codes "d" ∷ codes "a2" ∷ []))) 15
          ∷ reads (line.Call C (call.Rename (codes "a" ∷ []) (codes "d" ∷ codes "a" ∷ []))) 13
          ∷ reads (line.Push A 1) 8
          ∷ reads (line.Call B (call.Read (codes "d" ∷ codes "a" ∷ []) 0 9)) 15
          ∷ reads (line.Call B (call.Read (codes "d" ∷ codes "a" ∷ []) 3 9)) 15
          ∷ reads (line.Call C (call.Fsync [])) 9
          ∷ reads (line.Uncut B) 7
          ∷ reads (line.Call B (call.List (codes "d" ∷ []))) 8
          ∷ reads (line.Call A (call.Create (codes "a" ∷ []))) 10
          ∷ reads (line.Call B (call.Write (codes "d" ∷ codes "a2" ∷ []) 1 (codes "ayzzx"))) 17
          ∷ reads (line.Call A (call.Write (codes "d" ∷ codes "a2" ∷ []) 1 (codes "zy"))) 17
          ∷ reads (line.Call B (call.Stat (codes "d" ∷ codes "a2" ∷ []))) 8
          ∷ reads (line.Deliver A msg.Flush 1) 17
          ∷ reads (line.Call B (call.Touch (codes "a" ∷ []) 4)) 12
          ∷ reads (line.Call A (call.Read (codes "d" ∷ codes "a2" ∷ []) 1 64)) 16
          ∷ reads (line.Call B (call.Create (codes "e" ∷ codes "a" ∷ []))) 10
          ∷ reads (line.Resend A) 8
          ∷ reads (line.Call C (call.Create (codes "a" ∷ []))) 10
          ∷ reads (line.Call B (call.Write (codes "a" ∷ []) 2 (codes "xcc"))) 14
          ∷ reads (line.Resend A) 8
          ∷ reads (line.Call B call.Sync) 3
          ∷ reads (line.Cut A) 5
          ∷ reads (line.Call A (call.Write (codes "d" ∷ codes "a2" ∷ []) 0 (codes "x"))) 17
          ∷ reads (line.Call B (call.Write (codes "a" ∷ []) 1 (codes "cbbzc"))) 14
          ∷ reads (line.Call C (call.Remove (codes "d" ∷ codes "a2" ∷ []))) 10
          ∷ reads (line.Call A (call.Write (codes "d" ∷ codes "a2" ∷ []) 1 (codes "y"))) 17
          ∷ reads (line.Drop A msg.Recall 14) 15
          ∷ reads (line.Push A 5) 8
          ∷ reads (line.Deliver A msg.Want 11) 16
          ∷ reads (line.Resend B) 8
          ∷ reads (line.Deliver A msg.Grant 11) 17
          ∷ reads (line.Call A (call.Forder ((codes "d" ∷ codes "a2" ∷ []) ∷ [] ∷ []))) 16
          ∷ reads (line.Call A (call.Fsync (codes "d" ∷ codes "a" ∷ []))) 9
          ∷ reads (line.Call C (call.List [])) 8
          ∷ reads (line.Call A (call.Rename (codes "a" ∷ []) (codes "e" ∷ codes "a" ∷ []))) 13
          ∷ reads (line.Push B 4) 8
          ∷ reads (line.Call B (call.Fsync [])) 9
          ∷ reads (line.Call C (call.Write (codes "a" ∷ []) 0 (codes "zx"))) 14
          ∷ reads (line.Deliver A msg.Want 12) 16
          ∷ reads (line.Cut B) 5
          ∷ reads (line.Call C (call.Write (codes "a" ∷ []) 6 (codes "zcbza"))) 14
          ∷ reads (line.Call A (call.Write (codes "d" ∷ codes "a" ∷ []) 4 (codes "zbacx"))) 16
          ∷ reads (line.Drop A msg.Grant 12) 14
          ∷ reads (line.Drop A msg.Recall 16) 15
          ∷ reads (line.Drop A msg.Want 13) 13
          ∷ reads (line.Cut C) 5
          ∷ [];
      fates = [];
      max_objects = 1024;
      shown =
          Waits 1 B (call.Mkdir (codes "d" ∷ []))
          ∷ Answered 1 B (call.Mkdir (codes "d" ∷ [])) (answer.Reply reply.Ok) (Some 1)
          ∷ Waits 2 A (call.Create (codes "a" ∷ []))
          ∷ Durable B (1 ∷ [])
          ∷ Answered 2 A (call.Create (codes "a" ∷ [])) (answer.Reply reply.Ok) (Some 1)
          ∷ Waits 3 A (call.Create (codes "d" ∷ codes "a" ∷ []))
          ∷ Answered 3 A (call.Create (codes "d" ∷ codes "a" ∷ [])) (answer.Reply reply.Ok) (Some 2)
          ∷ Waits 4 A (call.Fsync (codes "a" ∷ []))
          ∷ Durable A (1 ∷ [])
          ∷ Answered 4 A (call.Fsync (codes "a" ∷ [])) (answer.Reply reply.Ok) None
          ∷ Waits 5 B (call.Touch [] 7)
          ∷ Answered 5 B (call.Touch [] 7) (answer.Reply reply.Ok) (Some 2)
          ∷ Waits 6 C (call.Rename (codes "d" ∷ []) (codes "d" ∷ codes "e" ∷ codes "k" ∷ []))
          ∷ Durable B (2 ∷ [])
          ∷ Durable A (2 ∷ [])
          ∷ Answered 6 C (call.Rename (codes "d" ∷ []) (codes "d" ∷ codes "e" ∷ codes "k" ∷ [])) (answer.Reply (reply.Refused (no.NotFound 2))) None
          ∷ Waits 7 A (call.Write (codes "a" ∷ []) 1 (codes "xy"))
          ∷ Answered 7 A (call.Write (codes "a" ∷ []) 1 (codes "xy")) (answer.Reply reply.Ok) (Some 3)
          ∷ Answered 10 C (call.Create (codes "a" ∷ [])) (answer.Reply (reply.Refused no.Exists)) None
          ∷ Answered 13 C (call.Fsync (codes "d" ∷ [])) (answer.Reply reply.Ok) None
          ∷ Waits 14 C (call.Read (codes "a" ∷ []) 0 64)
          ∷ Durable A (3 ∷ [])
          ∷ Answered 14 C (call.Read (codes "a" ∷ []) 0 64) (answer.Reply (reply.Data (0 ∷ 120 ∷ 121 ∷ []))) None
          ∷ Waits 15 C (call.Rename (codes "d" ∷ codes "a" ∷ []) (codes "d" ∷ codes "a2" ∷ []))
          ∷ Answered 15 C (call.Rename (codes "d" ∷ codes "a" ∷ []) (codes "d" ∷ codes "a2" ∷ [])) (answer.Reply reply.Ok) (Some 1)
          ∷ Waits 16 C (call.Rename (codes "a" ∷ []) (codes "d" ∷ codes "a" ∷ []))
          ∷ Answered 16 C (call.Rename (codes "a" ∷ []) (codes "d" ∷ codes "a" ∷ [])) (answer.Reply reply.Ok) (Some 2)
          ∷ Nothing
          ∷ Waits 18 B (call.Read (codes "d" ∷ codes "a" ∷ []) 0 9)
          ∷ Durable C (1 ∷ 2 ∷ [])
          ∷ Answered 18 B (call.Read (codes "d" ∷ codes "a" ∷ []) 0 9) (answer.Reply (reply.Data (0 ∷ 120 ∷ 121 ∷ []))) None
          ∷ Answered 19 B (call.Read (codes "d" ∷ codes "a" ∷ []) 3 9) (answer.Reply (reply.Data [])) None
          ∷ Answered 20 C (call.Fsync []) (answer.Reply reply.Ok) None
          ∷ Nothing
          ∷ Answered 22 B (call.List (codes "d" ∷ [])) (answer.Reply (reply.Names (codes "a" ∷ codes "a2" ∷ []))) None
          ∷ Waits 23 A (call.Create (codes "a" ∷ []))
          ∷ Answered 23 A (call.Create (codes "a" ∷ [])) (answer.Reply reply.Ok) (Some 4)
          ∷ Waits 24 B (call.Write (codes "d" ∷ codes "a2" ∷ []) 1 (codes "ayzzx"))
          ∷ Durable A (4 ∷ [])
          ∷ Answered 24 B (call.Write (codes "d" ∷ codes "a2" ∷ []) 1 (codes "ayzzx")) (answer.Reply reply.Ok) (Some 3)
          ∷ Waits 25 A (call.Write (codes "d" ∷ codes "a2" ∷ []) 1 (codes "zy"))
          ∷ Durable B (3 ∷ [])
          ∷ Answered 25 A (call.Write (codes "d" ∷ codes "a2" ∷ []) 1 (codes "zy")) (answer.Reply reply.Ok) (Some 5)
          ∷ Waits 26 B (call.Stat (codes "d" ∷ codes "a2" ∷ []))
          ∷ Durable A (5 ∷ [])
          ∷ Answered 26 B (call.Stat (codes "d" ∷ codes "a2" ∷ [])) (answer.Reply (reply.Stat kind.File 420 0 0 6)) None
          ∷ Waits 28 B (call.Touch (codes "a" ∷ []) 4)
          ∷ Answered 28 B (call.Touch (codes "a" ∷ []) 4) (answer.Reply reply.Ok) (Some 4)
          ∷ Answered 29 A (call.Read (codes "d" ∷ codes "a2" ∷ []) 1 64) (answer.Reply (reply.Data (codes "zyzzx"))) None
          ∷ Answered 30 B (call.Create (codes "e" ∷ codes "a" ∷ [])) (answer.Reply (reply.Refused (no.NotFound 1))) None
          ∷ Waits 32 C (call.Create (codes "a" ∷ []))
          ∷ Answered 32 C (call.Create (codes "a" ∷ [])) (answer.Reply (reply.Refused no.Exists)) None
          ∷ Answered 33 B (call.Write (codes "a" ∷ []) 2 (codes "xcc")) (answer.Reply reply.Ok) (Some 5)
          ∷ Waits 35 B call.Sync
          ∷ Durable B (4 ∷ 5 ∷ [])
          ∷ Answered 35 B call.Sync (answer.Reply reply.Ok) None
          ∷ Waits 37 A (call.Write (codes "d" ∷ codes "a2" ∷ []) 0 (codes "x"))
          ∷ Answered 38 B (call.Write (codes "a" ∷ []) 1 (codes "cbbzc")) (answer.Reply reply.Ok) (Some 6)
          ∷ Waits 39 C (call.Remove (codes "d" ∷ codes "a2" ∷ []))
          ∷ Waits 40 A (call.Write (codes "d" ∷ codes "a2" ∷ []) 1 (codes "y"))
          ∷ Nothing
          ∷ Answered 37 A (call.Write (codes "d" ∷ codes "a2" ∷ []) 0 (codes "x")) (answer.Reply reply.Ok) (Some 6)
          ∷ Answered 40 A (call.Write (codes "d" ∷ codes "a2" ∷ []) 1 (codes "y")) (answer.Reply reply.Ok) (Some 7)
          ∷ Waits 46 A (call.Forder ((codes "d" ∷ codes "a2" ∷ []) ∷ [] ∷ []))
          ∷ Waits 47 A (call.Fsync (codes "d" ∷ codes "a" ∷ []))
          ∷ Answered 48 C (call.List []) (answer.Reply (reply.Names (codes "a" ∷ codes "d" ∷ []))) None
          ∷ Waits 49 A (call.Rename (codes "a" ∷ []) (codes "e" ∷ codes "a" ∷ []))
          ∷ Nothing
          ∷ Answered 51 B (call.Fsync []) (answer.Reply reply.Ok) None
          ∷ Waits 52 C (call.Write (codes "a" ∷ []) 0 (codes "zx"))
          ∷ Durable B (6 ∷ [])
          ∷ Answered 52 C (call.Write (codes "a" ∷ []) 0 (codes "zx")) (answer.Reply reply.Ok) (Some 3)
          ∷ Waits 55 C (call.Write (codes "a" ∷ []) 6 (codes "zcbza"))
          ∷ Waits 56 A (call.Write (codes "d" ∷ codes "a" ∷ []) 4 (codes "zbacx"))
          ∷ [];
      status = 0;
    }

abbrev pub net_24 : Run
net_24 =
    record {
      lines =
          reads (line.Call B (call.Mkdir (codes "d" ∷ []))) 9
          ∷ reads (line.Call A (call.Create (codes "a" ∷ []))) 10
          ∷ reads (line.Call A (call.Write (codes "a" ∷ []) 0 (codes "abcdefgh"))) 14
          ∷ reads (line.Call B (call.Create (codes "d" ∷ codes "a" ∷ []))) 10
          ∷ reads (line.Call B (call.Write (codes "d" ∷ codes "a" ∷ []) 0 (codes "abcdefgh"))) 16
          ∷ reads (line.Call A (call.Create (codes "e" ∷ codes "a" ∷ []))) 10
          ∷ reads (line.Call A (call.Write (codes "e" ∷ codes "a" ∷ []) 0 (codes "abcdefgh"))) 16
          ∷ reads (line.Repeat A msg.Flush 1) 16
          ∷ reads (line.Call B (call.Create (codes "a" ∷ []))) 10
          ∷ reads (line.Call B (call.Stat (codes "d" ∷ []))) 8
          ∷ reads (line.Call B (call.Read (codes "a" ∷ []) 1 64)) 13
          ∷ reads (line.Call A (call.List (codes "d" ∷ []))) 8
          ∷ reads (line.Call A (call.Fsync (codes "d" ∷ []))) 9
          ∷ reads (line.Call A (call.Chmod (codes "e" ∷ []) 493)) 12
          ∷ reads (line.Call B (call.Write (codes "d" ∷ codes "a" ∷ []) 0 (codes "cz"))) 16
          ∷ reads (line.Call A (call.Create (codes "d" ∷ codes "a" ∷ []))) 10
          ∷ reads (line.Call A (call.Stat (codes "d" ∷ []))) 8
          ∷ reads (line.Call A (call.List (codes "d" ∷ []))) 8
          ∷ reads (line.Call A (call.SetLen (codes "d" ∷ codes "a" ∷ []) 0)) 15
          ∷ reads (line.Call A (call.Remove (codes "d" ∷ codes "a" ∷ []))) 10
          ∷ reads (line.Call B (call.Create (codes "d" ∷ codes "a" ∷ []))) 10
          ∷ reads (line.Call B (call.Chmod (codes "d" ∷ []) 4095)) 12
          ∷ reads (line.Call B (call.Write (codes "a" ∷ []) 0 (codes "bz"))) 14
          ∷ reads (line.Call B (call.Write (codes "d" ∷ codes "a" ∷ []) 6 (codes "yb"))) 16
          ∷ reads (line.Call B (call.SetLen (codes "d" ∷ codes "a" ∷ []) 4)) 15
          ∷ reads (line.Resend B) 8
          ∷ reads (line.Call A (call.Mkdir (codes "e" ∷ []))) 9
          ∷ reads (line.Call A (call.Remove (codes "a" ∷ []))) 10
          ∷ reads (line.Cut A) 5
          ∷ reads (line.Repeat A msg.Want 8) 15
          ∷ reads (line.Call B (call.Create (codes "e" ∷ codes "a" ∷ []))) 10
          ∷ reads (line.Call A (call.Fsync (codes "e" ∷ []))) 9
          ∷ reads (line.Call B (call.List [])) 8
          ∷ reads (line.Call A (call.Chmod (codes "d" ∷ codes "a" ∷ []) 493)) 14
          ∷ reads (line.Call A (call.Write (codes "d" ∷ codes "a" ∷ []) 0 (codes "za"))) 16
          ∷ reads (line.Call A (call.Write (codes "d" ∷ codes "a" ∷ []) 1 (codes "ya"))) 16
          ∷ reads (line.Push A 5) 8
          ∷ reads (line.Call A (call.Mkdir (codes "d" ∷ []))) 9
          ∷ reads (line.Call B (call.Read (codes "d" ∷ codes "a" ∷ []) 0 64)) 15
          ∷ reads (line.Call A (call.Mkdir (codes "d" ∷ []))) 9
          ∷ reads (line.Push A 4) 8
          ∷ reads (line.Call B (call.Stat (codes "d" ∷ codes "a" ∷ []))) 8
          ∷ reads (line.Call A (call.Fsync (codes "d" ∷ codes "a" ∷ []))) 9
          ∷ reads (line.Call B (call.Write (codes "d" ∷ codes "a" ∷ []) 0 (codes "a"))) 16
          ∷ reads (line.Call B (call.Write (codes "d" ∷ codes "a" ∷ []) 5 (codes "zz"))) 16
          ∷ reads (line.Call B (call.Write (codes "d" ∷ codes "a" ∷ []) 1 (codes "az"))) 16
          ∷ reads (line.Call B (call.Remove (codes "d" ∷ codes "a" ∷ []))) 10
          ∷ reads (line.Call A (call.Mkdir (codes "e" ∷ []))) 9
          ∷ reads (line.Call B (call.Write (codes "d" ∷ codes "a" ∷ []) 3 (codes "z"))) 16
          ∷ reads (line.Call A (call.Read (codes "d" ∷ codes "a" ∷ []) 0 9)) 15
          ∷ reads (line.Call B (call.Write (codes "d" ∷ codes "a" ∷ []) 5 (codes "x"))) 16
          ∷ reads (line.Call B (call.Write (codes "d" ∷ codes "a" ∷ []) 2 (codes "a"))) 16
          ∷ reads (line.Push B 9) 8
          ∷ reads (line.Call B (call.Rename (codes "d" ∷ codes "a" ∷ []) (codes "e" ∷ codes "a" ∷ []))) 15
          ∷ reads (line.Call A (call.Chmod (codes "e" ∷ []) 384)) 12
          ∷ reads (line.Call B (call.Touch (codes "e" ∷ []) 1)) 12
          ∷ reads (line.Call A (call.Mkdir (codes "d" ∷ []))) 9
          ∷ reads (line.Call B (call.Create (codes "d" ∷ codes "a" ∷ []))) 10
          ∷ reads (line.Call A (call.Write (codes "d" ∷ codes "a" ∷ []) 6 (codes "a"))) 16
          ∷ reads (line.Call B (call.Write (codes "d" ∷ codes "a" ∷ []) 4 (codes "zz"))) 16
          ∷ reads (line.Call B (call.Write (codes "d" ∷ codes "a" ∷ []) 2 (codes "a"))) 16
          ∷ reads (line.Call B (call.Write (codes "d" ∷ codes "a" ∷ []) 2 (codes "cb"))) 16
          ∷ reads (line.Push B 9) 8
          ∷ [];
      fates = [];
      max_objects = 1024;
      shown =
          Waits 1 B (call.Mkdir (codes "d" ∷ []))
          ∷ Answered 1 B (call.Mkdir (codes "d" ∷ [])) (answer.Reply reply.Ok) (Some 1)
          ∷ Waits 2 A (call.Create (codes "a" ∷ []))
          ∷ Durable B (1 ∷ [])
          ∷ Answered 2 A (call.Create (codes "a" ∷ [])) (answer.Reply reply.Ok) (Some 1)
          ∷ Answered 3 A (call.Write (codes "a" ∷ []) 0 (codes "abcdefgh")) (answer.Reply reply.Ok) (Some 2)
          ∷ Waits 4 B (call.Create (codes "d" ∷ codes "a" ∷ []))
          ∷ Durable A (1 ∷ [])
          ∷ Answered 4 B (call.Create (codes "d" ∷ codes "a" ∷ [])) (answer.Reply reply.Ok) (Some 2)
          ∷ Answered 5 B (call.Write (codes "d" ∷ codes "a" ∷ []) 0 (codes "abcdefgh")) (answer.Reply reply.Ok) (Some 3)
          ∷ Answered 6 A (call.Create (codes "e" ∷ codes "a" ∷ [])) (answer.Reply (reply.Refused (no.NotFound 1))) None
          ∷ Answered 7 A (call.Write (codes "e" ∷ codes "a" ∷ []) 0 (codes "abcdefgh")) (answer.Reply (reply.Refused (no.NotFound 1))) None
          ∷ Answered 9 B (call.Create (codes "a" ∷ [])) (answer.Reply (reply.Refused no.Exists)) None
          ∷ Answered 10 B (call.Stat (codes "d" ∷ [])) (answer.Reply (reply.Stat kind.Dir 493 0 0 1)) None
          ∷ Waits 11 B (call.Read (codes "a" ∷ []) 1 64)
          ∷ Durable A (2 ∷ [])
          ∷ Answered 11 B (call.Read (codes "a" ∷ []) 1 64) (answer.Reply (reply.Data (codes "bcdefgh"))) None
          ∷ Waits 12 A (call.List (codes "d" ∷ []))
          ∷ Durable B (2 ∷ [])
          ∷ Answered 12 A (call.List (codes "d" ∷ [])) (answer.Reply (reply.Names (codes "a" ∷ []))) None
          ∷ Answered 13 A (call.Fsync (codes "d" ∷ [])) (answer.Reply reply.Ok) None
          ∷ Answered 14 A (call.Chmod (codes "e" ∷ []) 493) (answer.Reply (reply.Refused (no.NotFound 1))) None
          ∷ Answered 15 B (call.Write (codes "d" ∷ codes "a" ∷ []) 0 (codes "cz")) (answer.Reply reply.Ok) (Some 4)
          ∷ Answered 16 A (call.Create (codes "d" ∷ codes "a" ∷ [])) (answer.Reply (reply.Refused no.Exists)) None
          ∷ Answered 17 A (call.Stat (codes "d" ∷ [])) (answer.Reply (reply.Stat kind.Dir 493 0 0 1)) None
          ∷ Answered 18 A (call.List (codes "d" ∷ [])) (answer.Reply (reply.Names (codes "a" ∷ []))) None
          ∷ Waits 19 A (call.SetLen (codes "d" ∷ codes "a" ∷ []) 0)
          ∷ Durable B (3 ∷ 4 ∷ [])
          ∷ Answered 19 A (call.SetLen (codes "d" ∷ codes "a" ∷ []) 0) (answer.Reply reply.Ok) (Some 3)
          ∷ Waits 20 A (call.Remove (codes "d" ∷ codes "a" ∷ []))
          ∷ Answered 20 A (call.Remove (codes "d" ∷ codes "a" ∷ [])) (answer.Reply reply.Ok) (Some 4)
          ∷ Waits 21 B (call.Create (codes "d" ∷ codes "a" ∷ []))
          ∷ Durable A (3 ∷ 4 ∷ [])
          ∷ Answered 21 B (call.Create (codes "d" ∷ codes "a" ∷ [])) (answer.Reply reply.Ok) (Some 5)
          ∷ Answered 22 B (call.Chmod (codes "d" ∷ []) 4095) (answer.Reply reply.Ok) (Some 6)
          ∷ Waits 23 B (call.Write (codes "a" ∷ []) 0 (codes "bz"))
          ∷ Answered 23 B (call.Write (codes "a" ∷ []) 0 (codes "bz")) (answer.Reply reply.Ok) (Some 7)
          ∷ Answered 24 B (call.Write (codes "d" ∷ codes "a" ∷ []) 6 (codes "yb")) (answer.Reply reply.Ok) (Some 8)
          ∷ Answered 25 B (call.SetLen (codes "d" ∷ codes "a" ∷ []) 4) (answer.Reply reply.Ok) (Some 9)
          ∷ Waits 27 A (call.Mkdir (codes "e" ∷ []))
          ∷ Answered 27 A (call.Mkdir (codes "e" ∷ [])) (answer.Reply reply.Ok) (Some 5)
          ∷ Waits 28 A (call.Remove (codes "a" ∷ []))
          ∷ Durable B (7 ∷ [])
          ∷ Answered 28 A (call.Remove (codes "a" ∷ [])) (answer.Reply reply.Ok) (Some 6)
          ∷ Waits 31 B (call.Create (codes "e" ∷ codes "a" ∷ []))
          ∷ Waits 32 A (call.Fsync (codes "e" ∷ []))
          ∷ Waits 33 B (call.List [])
          ∷ Waits 34 A (call.Chmod (codes "d" ∷ codes "a" ∷ []) 493)
          ∷ Waits 35 A (call.Write (codes "d" ∷ codes "a" ∷ []) 0 (codes "za"))
          ∷ Waits 36 A (call.Write (codes "d" ∷ codes "a" ∷ []) 1 (codes "ya"))
          ∷ Answered 38 A (call.Mkdir (codes "d" ∷ [])) (answer.Reply (reply.Refused no.Exists)) None
          ∷ Waits 39 B (call.Read (codes "d" ∷ codes "a" ∷ []) 0 64)
          ∷ Answered 40 A (call.Mkdir (codes "d" ∷ [])) (answer.Reply (reply.Refused no.Exists)) None
          ∷ Nothing
          ∷ Waits 42 B (call.Stat (codes "d" ∷ codes "a" ∷ []))
          ∷ Waits 43 A (call.Fsync (codes "d" ∷ codes "a" ∷ []))
          ∷ Waits 44 B (call.Write (codes "d" ∷ codes "a" ∷ []) 0 (codes "a"))
          ∷ Waits 45 B (call.Write (codes "d" ∷ codes "a" ∷ []) 5 (codes "zz"))
          ∷ Waits 46 B (call.Write (codes "d" ∷ codes "a" ∷ []) 1 (codes "az"))
          ∷ Waits 47 B (call.Remove (codes "d" ∷ codes "a" ∷ []))
          ∷ Answered 48 A (call.Mkdir (codes "e" ∷ [])) (answer.Reply (reply.Refused no.Exists)) None
          ∷ Waits 49 B (call.Write (codes "d" ∷ codes "a" ∷ []) 3 (codes "z"))
          ∷ Waits 50 A (call.Read (codes "d" ∷ codes "a" ∷ []) 0 9)
          ∷ Waits 51 B (call.Write (codes "d" ∷ codes "a" ∷ []) 5 (codes "x"))
          ∷ Waits 52 B (call.Write (codes "d" ∷ codes "a" ∷ []) 2 (codes "a"))
          ∷ Durable B (5 ∷ 8 ∷ 9 ∷ [])
          ∷ Waits 54 B (call.Rename (codes "d" ∷ codes "a" ∷ []) (codes "e" ∷ codes "a" ∷ []))
          ∷ Answered 55 A (call.Chmod (codes "e" ∷ []) 384) (answer.Reply reply.Ok) (Some 7)
          ∷ Waits 56 B (call.Touch (codes "e" ∷ []) 1)
          ∷ Answered 57 A (call.Mkdir (codes "d" ∷ [])) (answer.Reply (reply.Refused no.Exists)) None
          ∷ Waits 58 B (call.Create (codes "d" ∷ codes "a" ∷ []))
          ∷ Waits 59 A (call.Write (codes "d" ∷ codes "a" ∷ []) 6 (codes "a"))
          ∷ Waits 60 B (call.Write (codes "d" ∷ codes "a" ∷ []) 4 (codes "zz"))
          ∷ Waits 61 B (call.Write (codes "d" ∷ codes "a" ∷ []) 2 (codes "a"))
          ∷ Waits 62 B (call.Write (codes "d" ∷ codes "a" ∷ []) 2 (codes "cb"))
          ∷ Nothing
          ∷ [];
      status = 0;
    }
